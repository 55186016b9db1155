use Rattle.std.proofs.Common.{◌∙◌, List, ◌++◌, ap, sym, append_assoc}
use Rattle.occ_alias.proofs.Repeating.{checks_both, errors_both}
use Rattle.occ_alias.specs.Grades.{checks_of, with_errors}
use Rattle.occ_alias.specs.Repeated.{run_diags}
use Rattle.occ_base.specs.declared.diag.Diag.{Diag}
use Rattle.occ_alias.proofs.grade.divide_all.Goals as goal

pub loop-run-preserved : goal.loop-run-preserved
loop-run-preserved c =
    let errors = c.loop-run.errors.keys in
    let checks = c.loop-run.checks in
    let front = c.pop.new.self in
    let last = run_diags c.in-Some.run' in (
      ap (λ (es : List Diag). with_errors es front) c.in_ok-divide.ensures.errors
          ∙ sym (errors_both errors front last)
          ∙ ap (with_errors errors) (sym c.in-Some.ensures)
          ∙ c.loop-run.invariant.0,
      ap (λ (ds : List Diag). ds ++ checks_of front) c.in_ok-divide.ensures.checks
          ∙ append_assoc checks (checks_of last) (checks_of front)
          ∙ ap (λ (ds : List Diag). checks ++ ds) (sym (checks_both front last))
          ∙ ap (λ (ds : List Diag). checks ++ checks_of ds) (sym c.in-Some.ensures)
          ∙ c.loop-run.invariant.1,
    )
