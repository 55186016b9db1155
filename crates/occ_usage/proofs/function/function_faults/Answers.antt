use Rattle.std.proofs.Common.{rules, ◌≡◌, ◌∙◌, [], false, sym}
use Rattle.occ_usage.proofs.Functions.{none_reported}
use Rattle.occ_usage.specs.FunctionRule.{has_function}
use Rattle.occ_usage.specs.Trees.{trees_of}
use Rattle.occ_usage.proofs.function.function_faults.Goals as goal

pub returns-then-not-has_function : goal.returns-then-not-has_function
returns-then-not-has_function c =
    let none : has_function (trees_of c.args.typed.now.lines) ≡ false = search rules in
    let empty : c.new-faults.result ≡ [] = search rules in
    empty ∙ sym (none_reported (trees_of c.args.typed.now.lines) [] [] none)
