use Rattle.std.proofs.Common.{◌≡◌, ◌≤◌, ℕ, false, arith}
use Rattle.std.specs.Ordering.{is_gt, is_lt, nat_cmp}
use Rattle.std.proofs.lemmas.Bool.Decides.{nat_tests}
use Rattle.std.proofs.lemmas.Grind.{common_steps}
use Rattle.occ_usage_parts.proofs.runs.last_up_to.Goals as goal

not_above : (x y : ℕ) → x ≤ y → is_gt (nat_cmp x y) ≡ false
not_above x y w = grind (arith, nat_tests)

not_below : (x y : ℕ) → is_lt (nat_cmp x y) ≡ false → y ≤ x
not_below x y w = grind (arith, nat_tests)

pub returns-in-Some-clause-found : goal.returns-in-Some-clause-found
returns-in-Some-clause-found c = let h = (c.range.ensures.in_range tt).3 _ _ c.in-Some.ensures.steps in grind (arith, common_steps, h)

pub returns-in-Some-clause-greatest : goal.returns-in-Some-clause-greatest
returns-in-Some-clause-greatest c q w s =
    let h = (c.range.ensures.in_range tt).4 _ _ c.in-Some.ensures.steps in
    let r : is_lt (nat_cmp c.in-Some.first.now q) ≡ false = h q (tt, not_above q c.args.end w) s in
    not_below c.in-Some.first.now q r
