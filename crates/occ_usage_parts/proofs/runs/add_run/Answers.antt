use Rattle.std.proofs.Common.{◌≤◌, ◌<◌, ◌^◌, ℕ, None, Some, arith, refl}
use Rattle.std.specs.Prelude.{◌⊎◌}
use Rattle.occ_usage_parts.specs.inside.Runs.{Changes, IsBetween, LiesIn, runs_of}
use Rattle.occ_usage_parts.proofs.Neighbours.{changes_of, joined_round, lies_less, given_err, lies_same, places_end, runs_less, runs_more, runs_same}
use Rattle.occ_usage_parts.proofs.runs.add_run.Goals as goal

pub loop-begin-preserved : goal.loop-begin-preserved
loop-begin-preserved c =
    let g = runs_of c.loop-begin.runs in
    let h = runs_of c.remove.new.self in
    let are = c.loop-begin.invariant.runs in
    let at = c.in-Some.ensures.some in
    let less : Changes g h c.in-Some.begin None = changes_of c.loop-begin.runs c.remove.new.self c.in-Some.begin None c.remove.ensures.updates in
    let a : c.in-Some.begin < 2 ^ 100 = are.short_first c.in-Some.begin c.in-Some.end at.run in
    let b : c.in-Some.end < 2 ^ 100 = are.short_last c.in-Some.begin c.in-Some.end at.run in
    let w : c.loop-begin.first ≤ c.loop-begin.last = c.loop-begin.invariant.forward in
    let u : c.loop-begin.first < 2 ^ 100 = c.loop-begin.invariant.short_first in
    let v : c.loop-begin.last < 2 ^ 100 = c.loop-begin.invariant.short_last in
    record {
      runs = runs_less g h c.in-Some.begin are less;
      forward = omega (arith, c.min-first.ensures, c.max-last.ensures);
      short_first = omega (arith, c.min-first.ensures);
      short_last = omega (arith, c.max-last.ensures);
      less = λ x lies. c.loop-begin.invariant.less x (lies_less g h c.in-Some.begin less x lies);
      places = joined_round g h c.in-Some.begin c.in-Some.end c.loop-begin.first c.loop-begin.last c.min-first.result c.max-last.result are w at less c.min-first.ensures c.max-last.ensures
          (λ (x : ℕ). LiesIn (runs_of c.args.runs.now) x ⊎ IsBetween c.args.first c.args.last x) c.loop-begin.invariant.places;
    }

pub returns-in_err-insert-clause-runs : goal.returns-in_err-insert-clause-runs
returns-in_err-insert-clause-runs c = runs_same c.loop-begin.runs c.insert.new.self c.in_err-insert.ensures.err c.loop-begin.invariant.runs

pub returns-in_err-insert-clause-err : goal.returns-in_err-insert-clause-err
returns-in_err-insert-clause-err c =
    given_err c.from_residual.result (λ x lies. c.loop-begin.invariant.less x (lies_same c.loop-begin.runs c.insert.new.self c.in_err-insert.ensures.err x lies))

pub returns-clause-runs : goal.returns-clause-runs
returns-clause-runs c =
    runs_more (runs_of c.loop-begin.runs) (runs_of c.insert.new.self) c.loop-begin.first c.loop-begin.last c.loop-begin.invariant.runs c.loop-begin.invariant.forward
    c.loop-begin.invariant.short_first c.loop-begin.invariant.short_last (c.in_default.ensures.none refl)
    (changes_of c.loop-begin.runs c.insert.new.self c.loop-begin.first (Some c.loop-begin.last) c.in_ok-insert.ensures.updates)

pub returns-clause-places : goal.returns-clause-places
returns-clause-places c =
    places_end (runs_of c.loop-begin.runs) (runs_of c.insert.new.self) c.loop-begin.first c.loop-begin.last c.loop-begin.invariant.runs c.loop-begin.invariant.forward
    (c.in_default.ensures.none refl)
    (changes_of c.loop-begin.runs c.insert.new.self c.loop-begin.first (Some c.loop-begin.last) c.in_ok-insert.ensures.updates)
    (λ (x : ℕ). LiesIn (runs_of c.args.runs.now) x ⊎ IsBetween c.args.first c.args.last x) c.loop-begin.invariant.places
