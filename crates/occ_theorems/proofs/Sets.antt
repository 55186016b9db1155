-- What the computations on sets of places say of the places that lie in them.
use Rattle.std.proofs.Common.{◌≡◌, ◌+◌, Bool, true, false, ap, ◌∙◌, refl, arith}
use Rattle.std.specs.Prelude.{ℤ, pos, negsuc, ◌+ℤ◌, ◌-ℤ◌, int_le, ◌&&◌, Some, None, IfSome, if◌then◌else◌}
use Rattle.std.proofs.lemmas.Int.{ints}
use Rattle.occ_types.specs.declared.interface.Places.{Places}
use Rattle.occ_types.specs.declared.interface.Places.TheVariants as places
use Rattle.occ_usage_parts.specs.Places.{moved, from_place, run_from, holds}

-- sets with the same places are one
pub one_writing : (p q : Places) → ((x : ℤ) → holds p x ≡ holds q x) → p ≡ q
one_writing places.None places.None h = refl
one_writing places.None places.All h = let e : false ≡ true = h (pos 0) in cc
one_writing places.None (places.From b) h = let e : false ≡ int_le b b = h b in grind (arith, ints)
one_writing places.None (places.Run b m) h = let e : false ≡ (int_le b b && int_le b (b +ℤ pos m)) = h b in grind (arith, ints)
one_writing places.All places.None h = let e : true ≡ false = h (pos 0) in cc
one_writing places.All places.All h = refl
one_writing places.All (places.From b) h = let e : true ≡ int_le b (b -ℤ pos 1) = h (b -ℤ pos 1) in grind (arith, ints)
one_writing places.All (places.Run b m) h = let e : true ≡ (int_le b (b -ℤ pos 1) && int_le (b -ℤ pos 1) (b +ℤ pos m)) = h (b -ℤ pos 1) in grind (arith, ints)
one_writing (places.From a) places.None h = let e : int_le a a ≡ false = h a in grind (arith, ints)
one_writing (places.From a) places.All h = let e : int_le a (a -ℤ pos 1) ≡ true = h (a -ℤ pos 1) in grind (arith, ints)
one_writing (places.From a) (places.From b) h =
    let e : int_le a a ≡ int_le b a = h a in
    let f : int_le a b ≡ int_le b b = h b in
    ap places.From (let same : a ≡ b = grind (arith, ints) in same)
one_writing (places.From a) (places.Run b m) h =
    let e : int_le a a ≡ (int_le b a && int_le a (b +ℤ pos m)) = h a in
    let f : int_le a (b +ℤ pos (m + 1)) ≡ (int_le b (b +ℤ pos (m + 1)) && int_le (b +ℤ pos (m + 1)) (b +ℤ pos m)) = h (b +ℤ pos (m + 1)) in
    grind (arith, ints)
one_writing (places.Run a n) places.None h = let e : (int_le a a && int_le a (a +ℤ pos n)) ≡ false = h a in grind (arith, ints)
one_writing (places.Run a n) places.All h = let e : (int_le a (a -ℤ pos 1) && int_le (a -ℤ pos 1) (a +ℤ pos n)) ≡ true = h (a -ℤ pos 1) in grind (arith, ints)
one_writing (places.Run a n) (places.From b) h =
    let e : (int_le a b && int_le b (a +ℤ pos n)) ≡ int_le b b = h b in
    let f : (int_le a (a +ℤ pos (n + 1)) && int_le (a +ℤ pos (n + 1)) (a +ℤ pos n)) ≡ int_le b (a +ℤ pos (n + 1)) = h (a +ℤ pos (n + 1)) in
    grind (arith, ints)
one_writing (places.Run a n) (places.Run b m) h =
    let e : (int_le a a && int_le a (a +ℤ pos n)) ≡ (int_le b a && int_le a (b +ℤ pos m)) = h a in
    let f : (int_le a b && int_le b (a +ℤ pos n)) ≡ (int_le b b && int_le b (b +ℤ pos m)) = h b in
    let first : a ≡ b = grind (arith, ints) in
    let g : (int_le a (a +ℤ pos n) && int_le (a +ℤ pos n) (a +ℤ pos n)) ≡ (int_le b (a +ℤ pos n) && int_le (a +ℤ pos n) (b +ℤ pos m)) = h (a +ℤ pos n) in
    let i : (int_le a (b +ℤ pos m) && int_le (b +ℤ pos m) (a +ℤ pos n)) ≡ (int_le b (b +ℤ pos m) && int_le (b +ℤ pos m) (b +ℤ pos m)) = h (b +ℤ pos m) in
    let more : n ≡ m = grind (arith, ints) in
    ap (λ (k : ℤ). places.Run k n) first ∙ ap (places.Run b) more

-- ---- counted from a base

pub moved_holds : (b : ℤ) (p : Places) → IfSome (moved b p) (λ q. (x : ℤ) → holds q (b +ℤ x) ≡ holds p x)
moved_holds b places.None = λ x. refl
moved_holds b places.All = λ x. refl
moved_holds b (places.From a) = from_near (int_le (negsuc 9223372036854775807) (b +ℤ a) && int_le (b +ℤ a) (pos 9223372036854775807)) where
  from_near : (t : Bool) → IfSome (from_place (if t then Some (b +ℤ a) else None)) (λ q. (x : ℤ) → holds q (b +ℤ x) ≡ int_le a x)
  from_near true = λ x. grind (arith, ints)
  from_near false = tt
moved_holds b (places.Run a n) = run_near (int_le (negsuc 9223372036854775807) (b +ℤ a) && int_le (b +ℤ a) (pos 9223372036854775807)) where
  run_near : (t : Bool) → IfSome (run_from n (if t then Some (b +ℤ a) else None)) (λ q. (x : ℤ) → holds q (b +ℤ x) ≡ (int_le a x && int_le x (a +ℤ pos n)))
  run_near true = λ x. grind (arith, ints)
  run_near false = tt
