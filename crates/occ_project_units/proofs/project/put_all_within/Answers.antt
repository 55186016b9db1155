use Rattle.std.proofs.Common.{◌≡◌, ◌∙◌, List, ap, arith, length, subst, sym}
use Rattle.occ_project.specs.declared.reads.Read.{Read}
use Rattle.occ_project_units.specs.Project.{IsProject, put_back}
use Rattle.occ_project_units.proofs.Putting.{back_last, back_long, put_rises}
use Rattle.occ_project_units.proofs.project.put_all_within.Goals as goal

pub loop-file-preserved : goal.loop-file-preserved
loop-file-preserved c =
    let long = back_long c.pop.new.self c.in-Some.file in
    let gone = ap (length {A = Read}) c.in-Some.ensures in (
      ap (λ (fs : List Read). put_back fs c.pop.new.self) c.put_within.ensures.files
          ∙ sym (back_last c.loop-file.files.items c.pop.new.self c.in-Some.file)
          ∙ ap (put_back c.loop-file.files.items) (sym c.in-Some.ensures)
          ∙ c.loop-file.invariant.0,
      (
        subst IsProject (sym c.put_within.ensures.files) (put_rises c.loop-file.files.items c.in-Some.file c.loop-file.invariant.1.0),
        omega (arith, long, gone, c.put_within.ensures.len, c.put_within.ensures.capacity, c.loop-file.invariant.1.1),
      ),
    )
