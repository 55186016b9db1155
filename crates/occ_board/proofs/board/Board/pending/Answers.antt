use Rattle.std.proofs.Common.{◌≡◌, ◌∙◌, List, ap, arith, length, subst, sym}
use Rattle.occ_board.proofs.Opened.{done_counted}
use Rattle.occ_board.proofs.board.Board.pending.Goals as goal
use Rattle.occ_board.specs.Done.{pending_units}
use Rattle.occ_board.specs.Machine.{State, pending_answer}
use Rattle.occ_project.specs.declared.reads.Read.{Read}
use Rattle.occ_project_units.specs.Project.{IsProject}

pub overflow_sub-result : goal.overflow_sub-result
overflow_sub-result c =
    let project : IsProject c.self.inside.graph = subst IsProject (sym c.self.invariant.0.files_are) (c.done_law.ensures.project c.self.inside.base c.self.inside.journal.items c.self.invariant.0.based) in
    let all = done_counted c.self.inside.graph c.self.inside.cached c.self.inside.flags project c.self.invariant.0.of_units (λ u. c.done_law.ensures.done c.self.inside.graph c.self.inside.cached u project) c.self.invariant.0.flags_are c.self.invariant.0.len in
    let units = c.self.invariant.0.units_are in
    let set = c.count.ensures in
    omega (arith, all, units, set)

pub returns : goal.returns
returns c =
    let project : IsProject c.self.inside.graph = subst IsProject (sym c.self.invariant.0.files_are) (c.done_law.ensures.project c.self.inside.base c.self.inside.journal.items c.self.invariant.0.based) in
    let all = done_counted c.self.inside.graph c.self.inside.cached c.self.inside.flags project c.self.invariant.0.of_units (λ u. c.done_law.ensures.done c.self.inside.graph c.self.inside.cached u project) c.self.invariant.0.flags_are c.self.invariant.0.len in
    let units = c.self.invariant.0.units_are in
    let set = c.count.ensures in
    let same : length (pending_units c.self.inside.graph c.self.inside.cached) ≡ pending_answer c.args.self.now =
    ap (λ (fs : List Read). length (pending_units fs c.self.inside.cached)) c.self.invariant.0.files_are ∙ ap (λ (s : State). pending_answer s) c.self.view_is
    in
    omega (arith, all, units, set, same)
