-- Which places an interval of a segment holds.
use Rattle.std.proofs.Common.{◌≡◌, Bool, ap, ◌∙◌, subst, Option, Some}
use Rattle.std.specs.Prelude.{ℤ, ◌+ℤ◌, ◌&&◌, IfSome}
use Rattle.occ_types.specs.declared.interface.Interval.{Interval}
use Rattle.occ_types.specs.declared.interface.Places.{Places}
use Rattle.occ_usage_parts.specs.Places.{holds, moved}
use Rattle.occ_usage_parts.specs.Selecting.{cut_to, inside}
use Rattle.occ_usage_parts.proofs.Sets.{common_holds}
use Rattle.occ_theorems.proofs.Sets.{moved_holds}

pub inside_holds : (outer inner : Interval) (b : ℤ) (q : Places) → moved b inner.places ≡ Some q → (x : ℤ)
    → holds (inside outer (Some b) inner).places (b +ℤ x) ≡ (holds outer.places (b +ℤ x) && holds inner.places x)
inside_holds outer inner b q e x =
    let counted : holds q (b +ℤ x) ≡ holds inner.places x = (subst (λ (r : Option Places). IfSome r (λ p. (y : ℤ) → holds p (b +ℤ y) ≡ holds inner.places y)) e (moved_holds b inner.places)) x in
    ap (λ (r : Option Places). holds (cut_to outer inner.mark r).places (b +ℤ x)) e
    ∙ common_holds outer.places q (b +ℤ x)
    ∙ ap (λ (c : Bool). holds outer.places (b +ℤ x) && c) counted
