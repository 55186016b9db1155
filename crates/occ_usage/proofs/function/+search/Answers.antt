use Rattle.std.proofs.Common.{rules, ◌≡◌, ◌||◌, true, false}
use Rattle.occ_usage.proofs.Functions.{found_line, next_line}
use Rattle.occ_usage.proofs.Trees.{from_line}
use Rattle.occ_usage.specs.FunctionRule.{has_function, is_function}
use Rattle.occ_usage.specs.Trees.{head_of, under}
use Rattle.occ_usage.proofs.function.+search.Goals as goal

pub loop-line-preserved : goal.loop-line-preserved
loop-line-preserved t c =
    let split = from_line _ _ _ c.loop-line-test.true c.line-item.is in
    let none : (is_function (head_of c.line-item.result).form || has_function (under c.line-item.result)) ≡ false = search rules in
    next_line (head_of c.line-item.result) (under c.line-item.result) _ _ _ split c.loop-line.invariant none

pub returns-then-is_function : goal.returns-then-is_function
returns-then-is_function t c =
    let split = from_line _ _ _ c.loop-line-test.true c.line-item.is in
    let some : (is_function (head_of c.line-item.result).form || has_function (under c.line-item.result)) ≡ true = search rules in
    found_line (head_of c.line-item.result) (under c.line-item.result) _ _ _ split c.loop-line.invariant some
