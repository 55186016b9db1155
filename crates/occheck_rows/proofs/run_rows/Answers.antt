use Rattle.std.proofs.Common.{◌≤◌, length, subst, arith}
use Rattle.std.specs.List.{All}
use Rattle.std.proofs.lemmas.List.{take_all}
use Rattle.occheck_rows.specs.Met.{IsRight}
use Rattle.occheck_rows.proofs.Counting.{more_right, one_more}
use Rattle.occheck_rows.proofs.run_rows.Goals as goal

pub loop-row-preserved : goal.loop-row-preserved
loop-row-preserved g c = record {
  all = one_more _ _ _ _ _ _ c.loop-row.invariant.all (omega (arith, c.loop-row-test.true)) c.add.ensures.passed c.add.ensures.failed;
  right = more_right _ _ _ _ _ _ _ c.loop-row-test.true c.row-item.is c.loop-row.invariant.right c.add.ensures.failed c.in_ok-run_row.ensures;
}

pub returns-clause-right : goal.returns-clause-right
returns-clause-right g c = λ z.
    let n : length c.args.rows.now ≤ c.loop-row.row-index = omega (arith, c.loop-row-test.false) in
    subst (All IsRight) (take_all c.loop-row.row-index c.args.rows.now n) (c.loop-row.invariant.right z)
