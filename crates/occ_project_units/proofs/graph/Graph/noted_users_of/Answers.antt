use Rattle.std.proofs.Common.{◌∙◌, List, ap, ℕ, subst}
use Rattle.occ_project.specs.declared.reads.Read.{Read}
use Rattle.occ_project_units.proofs.Looking.{uses_found}
use Rattle.occ_project_units.proofs.graph.Graph.noted_users_of.Goals as goal
use Rattle.occ_project_units.specs.Indices.{indices_of}
use Rattle.occ_project_units.specs.Project.{IsProject}
use Rattle.occ_project_units.specs.inside.Keeping.{all_facts, looking_for}

pub users_among-requires : goal.users_among-requires
users_among-requires c = λ p none.
    uses_found c.args.self.now c.as_slice-2.result.now (subst IsProject c.self.view_is c.files-files.ensures.in_order) c.args.lookers.now c.args.name c.as_slice-3.result.now
    c.requires.lookers c.requires.absent
    (c.as_slice-2.ensures.value ∙ c.self.invariant.facts_are ∙ ap all_facts c.self.view_is)
    (c.as_slice-3.ensures ∙ c.in_ok-indices.ensures ∙ ap (λ (names : List (List ℕ)). indices_of c.self.inside.project names) (c.as_slice.ensures ∙ c.in_ok-names.ensures ∙ c.row.ensures) ∙ ap (λ (fs : List Read). indices_of fs (looking_for c.args.lookers.now c.args.name)) c.self.view_is) p none
