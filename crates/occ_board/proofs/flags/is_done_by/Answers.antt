use Rattle.std.proofs.Common.{ap, sym, subst, ◌∙◌, ◌≡◌, List, ℕ, Some}
use Rattle.std.specs.List.{slice_get}
use Rattle.occ_board.proofs.Indices.{named, there_is}
use Rattle.occ_board.proofs.Settled.{step_done}
use Rattle.occ_board.proofs.flags.is_done_by.Goals as goal
use Rattle.occ_board.specs.Done.{done_step}
use Rattle.occ_board.specs.inside.Flagged.{flag_of}
use Rattle.occ_project.specs.declared.reads.Read.{Read}
use Rattle.occ_project_units.specs.Project.{IsProject}

pub returns-in-Some-clause-done : goal.returns-in-Some-clause-done
returns-in-Some-clause-done c = λ h.
    let files = c.args.graph.now in
    let project : IsProject files = subst IsProject c.project.ensures c.files.ensures.in_order in
    let got : slice_get files c.args.index ≡ Some c.in-Some.file.now = ap (λ (fs : List Read). slice_get fs c.args.index) (sym (c.files.ensures.files ∙ c.project.ensures)) ∙ sym c.in-Some.ensures in
    step_done files c.args.cached.now (λ u. c.done_law.ensures.done files c.args.cached.now u project) c.args.flags.now _ c.requires.sound
    (ap (λ (n : List ℕ). done_step files c.args.cached.now n (flag_of files c.args.flags.now)) (named files c.args.index c.in-Some.file.now got) ∙ ap (λ (file : Read). done_step files c.args.cached.now file.name (flag_of files c.args.flags.now)) (sym c.get.ensures) ∙ sym c.is_file_done.ensures ∙ h)

pub returns-in-None-clause-value : goal.returns-in-None-clause-value
returns-in-None-clause-value c =
    let there = there_is c.args.graph.now c.args.index c.requires.within in
    let got = ap (λ (fs : List Read). slice_get fs c.args.index) (sym (c.files.ensures.files ∙ c.project.ensures)) ∙ sym c.in-None.ensures in
    let found = there.1 in
    absurd (cc (got, found))
