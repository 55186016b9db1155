use Rattle.std.proofs.Common.{rules, ap, sym, subst, ◌∙◌, List, ℕ}
use Rattle.std.specs.List.{list_all}
use Rattle.occ_board.proofs.Rests.{rests_flagged}
use Rattle.occ_board.proofs.flags.is_waiting.Goals as goal
use Rattle.occ_board.specs.inside.Flagged.{rest_flag}
use Rattle.occ_project.specs.declared.reads.Read.{Read}
use Rattle.occ_project_units.specs.Project.{IsProject}

pub returns : goal.returns
returns c = λ h.
    sym (rests_flagged c.args.graph.now c.args.flags.now c.args.index (subst IsProject c.project.ensures c.files.ensures.in_order) c.requires)
    ∙ ap (λ (ps : List ℕ). list_all (rest_flag c.args.graph.now c.args.flags.now) ps) (sym c.rests.ensures)
    ∙ ap (λ (fs : List Read). list_all (rest_flag fs c.args.flags.now) c.rests.result) (sym (c.files.ensures.files ∙ c.project.ensures))
    ∙ c.is_last_flagged.ensures (search rules)
