-- What the computations on sets of places say of the places that lie in them.
use Rattle.std.proofs.Common.{◌≡◌, Bool, true, false, sym, ◌∙◌, refl, arith}
use Rattle.std.specs.Prelude.{ℤ, pos, ◌+ℤ◌, ◌-ℤ◌, int_le, unsigned_abs, ◌&&◌, ◌↔◌, if◌then◌else◌}
use Rattle.std.specs.Int.{int_max, int_min}
use Rattle.std.proofs.lemmas.Int.{ints}
use Rattle.occ_types.specs.declared.interface.Places.{Places}
use Rattle.occ_types.specs.declared.interface.Places.TheVariants as places
use Rattle.occ_usage_parts.specs.Places.{Meet, common, holds, is_none, meet, run_to}

run_case : (t : Bool) (a b x : ℤ) → int_le a b ≡ t → holds (if t then places.Run a (unsigned_abs (b -ℤ a)) else places.None) x ≡ (int_le a x && int_le x b)
run_case true a b x e = grind (arith, ints)
run_case false a b x e = grind (arith, ints)

pub run_to_holds : (a b x : ℤ) → holds (run_to a b) x ≡ (int_le a x && int_le x b)
run_to_holds a b x = run_case (int_le a b) a b x refl

pub common_holds : (p q : Places) (x : ℤ) → holds (common p q) x ≡ (holds p x && holds q x)
common_holds places.None q x = refl
common_holds places.All q x = refl
common_holds (places.From a) places.None x = grind arith
common_holds (places.From a) places.All x = grind arith
common_holds (places.From a) (places.From b) x = grind (arith, ints)
common_holds (places.From a) (places.Run b m) x = run_to_holds (int_max a b) (b +ℤ pos m) x ∙ grind (arith, ints)
common_holds (places.Run a n) places.None x = grind arith
common_holds (places.Run a n) places.All x = grind arith
common_holds (places.Run a n) (places.From b) x = run_to_holds (int_max a b) (a +ℤ pos n) x ∙ grind (arith, ints)
common_holds (places.Run a n) (places.Run b m) x = run_to_holds (int_max a b) (int_min (a +ℤ pos n) (b +ℤ pos m)) x ∙ grind (arith, ints)

-- a set that is not empty, and a place in it
pub some_place : (p : Places) → is_none p ≡ false → (x : ℤ) × (holds p x ≡ true)
some_place places.None h = cc
some_place places.All h = (pos 0, refl)
some_place (places.From a) h = (a, grind (arith, ints))
some_place (places.Run a n) h = (a, grind (arith, ints))

pub no_place : (p : Places) (x : ℤ) → is_none p ≡ true → holds p x ≡ false
no_place places.None x h = refl
no_place places.All x h = cc
no_place (places.From a) x h = cc
no_place (places.Run a n) x h = cc

meet_some : (t : Bool) (p q : Places) → is_none (common p q) ≡ t → (if t then false else true) ≡ true → Meet p q
meet_some true p q e h = cc
meet_some false p q e h =
    let found = some_place (common p q) e in
    let both : (holds p (found.0) && holds q (found.0)) ≡ true = sym (common_holds p q (found.0)) ∙ found.1 in
    (found.0, grind (arith, both), grind (arith, both))

meet_none : (t : Bool) (p q : Places) → is_none (common p q) ≡ t → Meet p q → (if t then false else true) ≡ true
meet_none false p q e m = refl
meet_none true p q e (x, h, k) =
    let none : (holds p x && holds q x) ≡ false = sym (common_holds p q x) ∙ no_place (common p q) x e in
    grind (arith, none, h, k)

pub meet_exactly : (p q : Places) → (meet p q ≡ true) ↔ Meet p q
meet_exactly p q = (meet_some (is_none (common p q)) p q refl, meet_none (is_none (common p q)) p q refl)
