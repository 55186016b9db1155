use Rattle.std.proofs.Common.{◌+◌, arith, ℕ}
use Rattle.occ_project_graph.proofs.Raising.{raising_begun, raising_fits, raising_next}
use Rattle.occ_project_graph.proofs.numbering.raise_fours.Goals as goal

pub loop-indices-init : goal.loop-indices-init
loop-indices-init c = raising_begun c.args.numbers.now c.args.indices.now c.args.at

pub raise-requires-clause-fits : goal.raise-requires-clause-fits
raise-requires-clause-fits c =
    let e = c.saturating_sub.ensures in
    let h = c.loop-indices-test.true in
    raising_fits c.args.numbers.now c.args.indices.now c.loop-indices.indices c.args.at c.loop-indices.place c.requires c.loop-indices.invariant (omega (arith, e, h))

pub raise-requires-in-loop-indices-clause-fits : goal.raise-requires-in-loop-indices-clause-fits
raise-requires-in-loop-indices-clause-fits c =
    let e = c.saturating_sub.ensures in
    let h = c.loop-indices-test.true in
    let place : ℕ = c.loop-indices.place in
    let one = raising_next c.args.numbers.now c.args.indices.now c.loop-indices.indices c.raise.new.indices c.args.at place (place + 1) (omega arith) c.requires c.loop-indices.invariant (omega (arith, e, h)) c.raise.ensures in
    raising_fits c.args.numbers.now c.args.indices.now c.raise.new.indices c.args.at (place + 1) c.requires one (omega (arith, e, h))

pub raise-requires-in-loop-indices-2-clause-fits : goal.raise-requires-in-loop-indices-2-clause-fits
raise-requires-in-loop-indices-2-clause-fits c =
    let e = c.saturating_sub.ensures in
    let h = c.loop-indices-test.true in
    let place : ℕ = c.loop-indices.place in
    let one = raising_next c.args.numbers.now c.args.indices.now c.loop-indices.indices c.raise.new.indices c.args.at place (place + 1) (omega arith) c.requires c.loop-indices.invariant (omega (arith, e, h)) c.raise.ensures in
    let two = raising_next c.args.numbers.now c.args.indices.now c.raise.new.indices c.raise-in-loop-indices.new.indices c.args.at (place + 1) (place + 2) (omega arith) c.requires one (omega (arith, e, h)) c.raise-in-loop-indices.ensures in
    raising_fits c.args.numbers.now c.args.indices.now c.raise-in-loop-indices.new.indices c.args.at (place + 2) c.requires two (omega (arith, e, h))

pub raise-requires-in-loop-indices-3-clause-fits : goal.raise-requires-in-loop-indices-3-clause-fits
raise-requires-in-loop-indices-3-clause-fits c =
    let e = c.saturating_sub.ensures in
    let h = c.loop-indices-test.true in
    let place : ℕ = c.loop-indices.place in
    let one = raising_next c.args.numbers.now c.args.indices.now c.loop-indices.indices c.raise.new.indices c.args.at place (place + 1) (omega arith) c.requires c.loop-indices.invariant (omega (arith, e, h)) c.raise.ensures in
    let two = raising_next c.args.numbers.now c.args.indices.now c.raise.new.indices c.raise-in-loop-indices.new.indices c.args.at (place + 1) (place + 2) (omega arith) c.requires one (omega (arith, e, h)) c.raise-in-loop-indices.ensures in
    let three = raising_next c.args.numbers.now c.args.indices.now c.raise-in-loop-indices.new.indices c.raise-in-loop-indices-2.new.indices c.args.at (place + 2) (place + 3) (omega arith) c.requires two (omega (arith, e, h)) c.raise-in-loop-indices-2.ensures in
    raising_fits c.args.numbers.now c.args.indices.now c.raise-in-loop-indices-2.new.indices c.args.at (place + 3) c.requires three (omega (arith, e, h))

pub loop-indices-smaller : goal.loop-indices-smaller
loop-indices-smaller c = let e = c.saturating_sub.ensures in let h = c.loop-indices-test.true in omega (arith, e, h)

pub loop-indices-preserved : goal.loop-indices-preserved
loop-indices-preserved c =
    let e = c.saturating_sub.ensures in
    let h = c.loop-indices-test.true in
    let place : ℕ = c.loop-indices.place in
    let one = raising_next c.args.numbers.now c.args.indices.now c.loop-indices.indices c.raise.new.indices c.args.at place (place + 1) (omega arith) c.requires c.loop-indices.invariant (omega (arith, e, h)) c.raise.ensures in
    let two = raising_next c.args.numbers.now c.args.indices.now c.raise.new.indices c.raise-in-loop-indices.new.indices c.args.at (place + 1) (place + 2) (omega arith) c.requires one (omega (arith, e, h)) c.raise-in-loop-indices.ensures in
    let three = raising_next c.args.numbers.now c.args.indices.now c.raise-in-loop-indices.new.indices c.raise-in-loop-indices-2.new.indices c.args.at (place + 2) (place + 3) (omega arith) c.requires two (omega (arith, e, h)) c.raise-in-loop-indices-2.ensures in
    raising_next c.args.numbers.now c.args.indices.now c.raise-in-loop-indices-2.new.indices c.raise-in-loop-indices-3.new.indices c.args.at (place + 3) (place + 4) (omega arith) c.requires three (omega (arith, e, h)) c.raise-in-loop-indices-3.ensures

pub returns : goal.returns
returns c = c.loop-indices.invariant
