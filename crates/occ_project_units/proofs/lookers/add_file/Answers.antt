use Rattle.std.proofs.Common.{◌≡◌, ◌∙◌, ◌++◌, ◌∷◌, [], List, ap, ℕ, true}
use Rattle.occ_project.specs.Entries.{is_among}
use Rattle.occ_project_units.proofs.Looking.{append_here, on_ok_more}
use Rattle.occ_project_units.proofs.lookers.add_file.Goals as goal

pub returns-clause-here : goal.returns-clause-here
returns-clause-here c =
    on_ok_more c.push.result (c.push.new.self ≡ c.args.row.now ++ c.in_ok-share.field-0 ∷ []) (is_among c.push.new.self c.args.unit.now ≡ true)
    (λ e. ap (λ (row : List (List ℕ)). is_among row c.args.unit.now) (e ∙ ap (λ (u : List ℕ). c.args.row.now ++ u ∷ []) c.in_ok-share.ensures) ∙ append_here c.args.row.now c.args.unit.now) c.push.ensures.ok
