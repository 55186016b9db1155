-- The test for trees of numbers says whether two are one.
use base.Stored.{Gv, gnil, gnum, gcons}
use Rattle.std.proofs.Common.{◌≡◌, ◌↔◌, ◌∙◌, ◌&&◌, Bool, true, false, refl, sym, ap}
use Rattle.std.proofs.lemmas.Bool.Decides.{Decides-eqb}
use Rattle.occ_board.specs.Same.{coded_input, coded_used, same_input, same_tree, same_used}
use Rattle.occ_check.specs.Input.{Input}
use Rattle.occ_check.specs.declared.used.UsedUnit.{UsedUnit}

left_of : (a b : Bool) → (a && b) ≡ true → a ≡ true
left_of true b h = refl
left_of false b h = h

right_of : (a b : Bool) → (a && b) ≡ true → b ≡ true
right_of true b h = h
right_of false b h = absurd cc

both : (a b : Bool) → a ≡ true → b ≡ true → (a && b) ≡ true
both a b h k = ap (λ (x : Bool). x && b) h ∙ k

itself : (a : Gv) → same_tree a a ≡ true
itself gnil = refl
itself (gnum n) = (Decides-eqb n n).1 refl
itself (gcons a b) = both (same_tree a a) (same_tree b b) (itself a) (itself b)

are_one : (a b : Gv) → same_tree a b ≡ true → a ≡ b
are_one gnil gnil h = refl
are_one (gnum m) (gnum n) h = ap gnum ((Decides-eqb m n).0 h)
are_one (gcons a b) (gcons c d) h = ap (λ (x : Gv). gcons x b) (are_one a c (left_of (same_tree a c) (same_tree b d) h)) ∙ ap (gcons c) (are_one b d (right_of (same_tree a c) (same_tree b d) h))
are_one gnil (gnum n) h = absurd cc
are_one gnil (gcons c d) h = absurd cc
are_one (gnum m) gnil h = absurd cc
are_one (gnum m) (gcons c d) h = absurd cc
are_one (gcons a b) gnil h = absurd cc
are_one (gcons a b) (gnum n) h = absurd cc

pub inputs_are_one : (i j : Input) → (same_input i j ≡ true) ↔ (i ≡ j)
unfolding same_input
inputs_are_one i j = (λ h. coded_input.inj i j (are_one (coded_input.code i) (coded_input.code j) h), λ e. ap (λ (x : Input). same_tree (coded_input.code i) (coded_input.code x)) (sym e) ∙ itself (coded_input.code i))

pub used_are_one : (a b : UsedUnit) → (same_used a b ≡ true) ↔ (a ≡ b)
unfolding same_used
used_are_one a b = (λ h. coded_used.inj a b (are_one (coded_used.code a) (coded_used.code b) h), λ e. ap (λ (x : UsedUnit). same_tree (coded_used.code a) (coded_used.code x)) (sym e) ∙ itself (coded_used.code a))
