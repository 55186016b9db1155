-- A part whose last interval is the union of those of two others meets a part exactly if one of the two does.
use Rattle.std.proofs.Common.{◌≡◌, Bool, true, false, sym, ◌∙◌, refl, arith, List, [], ◌∷◌}
use Rattle.std.specs.Prelude.{◌&&◌, ◌||◌}
use Rattle.occ_types.specs.declared.interface.Interval.{Interval}
use Rattle.occ_types.specs.declared.interface.PartSelector.{PartSelector}
use Rattle.occ_usage_parts.specs.Keeping.{IsUnion, following}
use Rattle.occ_usage_parts.specs.Parts.{At, Step, To, are_apart, lies}
use Rattle.occ_usage_parts.specs.Places.{holds}
use Rattle.occ_usage_parts.proofs.Elements.{apart_exactly, same_test}

-- ---- the elements of two parts that are made into one

union_lies : (front : List PartSelector) (i j k : Interval) → IsUnion i.places j.places k.places → (ts : List Step)
    → lies (following front k) ts ≡ (lies (following front i) ts || lies (following front j) ts)
union_lies [] i j k u [] = refl
union_lies [] i j k u (To n ∷ ts) = refl
union_lies [] i j k u (At x ∷ ts) = let e : holds k.places x ≡ (holds i.places x || holds j.places x) = u x in grind (arith, e)
union_lies (x ∷ front) i j k u [] = refl
union_lies (x ∷ front) i j k u (t ∷ ts) =
    let rest : lies (following front k) ts ≡ (lies (following front i) ts || lies (following front j) ts) = union_lies front i j k u ts in grind (arith, rest)

either : (p q : Bool) {X : Type 0} → (p || q) ≡ true → (p ≡ true → X) → (q ≡ true → X) → X
either true q h f g = f refl
either false q h f g = g h

either_false : (p q : Bool) {X : Type 0} → (p && q) ≡ false → (p ≡ false → X) → (q ≡ false → X) → X
either_false true q h f g = g h
either_false false q h f g = f refl

pub union_apart : (front : List PartSelector) (i j k : Interval) → IsUnion i.places j.places k.places → (q : List PartSelector)
    → are_apart (following front k) q ≡ (are_apart (following front i) q && are_apart (following front j) q)
union_apart front i j k u q = same_test (are_apart (following front k) q) (are_apart (following front i) q && are_apart (following front j) q) there back where
  from_left : (ts : List Step) → lies (following front i) ts ≡ true → lies q ts ≡ true → (are_apart (following front i) q && are_apart (following front j) q) ≡ false
  from_left ts h m = let e : are_apart (following front i) q ≡ false = (apart_exactly (following front i) q).1 (ts, h, m) in grind (arith, e)

  from_right : (ts : List Step) → lies (following front j) ts ≡ true → lies q ts ≡ true → (are_apart (following front i) q && are_apart (following front j) q) ≡ false
  from_right ts h m = let e : are_apart (following front j) q ≡ false = (apart_exactly (following front j) q).1 (ts, h, m) in grind (arith, e)

  there : are_apart (following front k) q ≡ false → (are_apart (following front i) q && are_apart (following front j) q) ≡ false
  there h =
      let met = (apart_exactly (following front k) q).0 h in
      either (lies (following front i) (met.0)) (lies (following front j) (met.0)) (sym (union_lies front i j k u (met.0)) ∙ met.1)
      (λ a. from_left (met.0) a (met.2)) (λ a. from_right (met.0) a (met.2))

  into : (p : Interval) → ((ts : List Step) → lies (following front p) ts ≡ true → lies (following front k) ts ≡ true) → are_apart (following front p) q ≡ false → are_apart (following front k) q ≡ false
  into p more h = let met = (apart_exactly (following front p) q).0 h in (apart_exactly (following front k) q).1 (met.0, more (met.0) (met.1), met.2)

  back : (are_apart (following front i) q && are_apart (following front j) q) ≡ false → are_apart (following front k) q ≡ false
  back h = either_false (are_apart (following front i) q) (are_apart (following front j) q) h
      (into i (λ ts a. union_lies front i j k u ts ∙ (let e : lies (following front i) ts ≡ true = a in grind (arith, e))))
      (into j (λ ts a. union_lies front i j k u ts ∙ (let e : lies (following front j) ts ≡ true = a in grind (arith, e))))
