use Rattle.std.proofs.Common.{◌∙◌, List, ◌++◌, ap, sym, append_assoc}
use Rattle.occ_alias.proofs.Repeating.{kept_both}
use Rattle.occ_alias.specs.Grades.{all_unless_reported}
use Rattle.occ_alias.specs.Repeated.{run_diags}
use Rattle.occ_base.specs.declared.diag.Diag.{Diag}
use Rattle.occ_alias.proofs.grade.keep_all.Goals as goal

pub loop-check-preserved : goal.loop-check-preserved
loop-check-preserved c =
    let errors = c.args.errors.now.keys in
    let kept = c.loop-check.kept in
    let front = c.pop.new.self in
    let last = run_diags c.in-Some.check in
    ap (λ (ds : List Diag). ds ++ all_unless_reported errors front) c.in_ok-keep.ensures
    ∙ append_assoc kept (all_unless_reported errors last) (all_unless_reported errors front)
    ∙ ap (λ (ds : List Diag). kept ++ ds) (sym (kept_both errors front last))
    ∙ ap (λ (ds : List Diag). kept ++ all_unless_reported errors ds) (sym c.in-Some.ensures)
    ∙ c.loop-check.invariant
