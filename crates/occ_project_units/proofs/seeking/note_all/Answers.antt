use Rattle.std.proofs.Common.{◌∙◌, List, ap, ℕ}
use Rattle.occ_project.specs.Entries.{is_among}
use Rattle.occ_project_units.proofs.seeking.note_all.Goals as goal

pub returns-clause-noted : goal.returns-clause-noted
returns-clause-noted c = λ h name other. (
  λ k. c.note_names-2.ensures.more name c.args.unit.now (c.note_names.ensures.noted c.if-not-note_names.false name (ap (λ (names : List (List ℕ)). is_among names name) c.as_slice.ensures ∙ k) other),
  λ _ k. c.note_names-2.ensures.noted h name (ap (λ (names : List (List ℕ)). is_among names name) (c.as_slice-2.ensures ∙ c.get.ensures) ∙ k) other,
)
