-- The names in a map stay the first of all names in scope.
use Rattle.std.proofs.Common.{◌≡◌, ◌≤◌, ◌<◌, ◌-◌, ◌+◌, ℕ, Bool, true, false, cond, List, [], ◌∷◌, ◌++◌, length, take, Option, Some, None, MatchOption, arith, ap, sym, ◌∙◌, length-append, length-take, min, bytes_eq}
use Rattle.std.proofs.lemmas.List.{take-append-le}
use Rattle.std.proofs.lemmas.Map.Text.{is_eq-slice_cmp}
use Rattle.occ_scope.proofs.Stacked.{nearest_snoc, take_front}
use Rattle.occ_scope.specs.Nearest.{nearest}
use Rattle.occ_scope.specs.inside.Begun.{Begins}

shorter : (before : List (List ℕ)) (last : List ℕ) (names : List (List ℕ)) → names ≡ before ++ last ∷ [] → length names ≡ length before + 1
shorter before last names is = ap length is ∙ length-append before (last ∷ [])

-- the nearest of names of which the last is this one, or is not
pub nearest_is_last : (before : List (List ℕ)) (last : List ℕ) (names : List (List ℕ)) (q : List ℕ) → names ≡ before ++ last ∷ [] → true ≡ bytes_eq last q → nearest names q ≡ Some (length before)
nearest_is_last before last names q is same = ap (λ (ns : List (List ℕ)). nearest ns q) is ∙ nearest_snoc before last q ∙ ap (λ (b : Bool). cond b (Some (length before)) (nearest before q)) (is_eq-slice_cmp last q ∙ sym same)

pub nearest_is_before : (before : List (List ℕ)) (last : List ℕ) (names : List (List ℕ)) (q : List ℕ) → names ≡ before ++ last ∷ [] → false ≡ bytes_eq last q → nearest names q ≡ nearest before q
nearest_is_before before last names q is same = ap (λ (ns : List (List ℕ)). nearest ns q) is ∙ nearest_snoc before last q ∙ ap (λ (b : Bool). cond b (Some (length before)) (nearest before q)) (is_eq-slice_cmp last q ∙ sym same)

-- the first of them are the first of those before the last
pub front_before : (before : List (List ℕ)) (last : List ℕ) (names : List (List ℕ)) (k : ℕ) → names ≡ before ++ last ∷ [] → k < length names → take k names ≡ take k before
front_before before last names k is h =
    let n = shorter before last names is in
    ap (take k) is ∙ take-append-le k before (last ∷ []) (omega (arith, h, n))

-- what begins so, begins so with one name more
pub begins_more : (front names : List (List ℕ)) (name : List ℕ) → length front ≤ length names → Begins front names → Begins front (names ++ name ∷ [])
begins_more front names name h begins = begins ∙ sym (take-append-le (length front) names (name ∷ []) h)

pub front_within : (front names : List (List ℕ)) → Begins front names → length front ≤ length names
front_within front names begins = let e : length front ≡ min (length front) (length names) = ap length begins ∙ length-take (length front) names in omega (arith, e)

-- what was put last is taken back
pub popped : (result : Option (List ℕ)) (xs : List (List ℕ)) (n : List ℕ) (all new : List (List ℕ)) → all ≡ xs ++ n ∷ [] → MatchOption result ((all ≡ []) × (new ≡ [])) (λ last. all ≡ new ++ last ∷ []) → new ≡ xs
popped None xs n all new is h = absurd (let e : length (xs ++ n ∷ []) ≡ 0 = ap (length {A = List ℕ}) (sym is ∙ h.0) in omega (arith, e, length-append xs (n ∷ [])))
popped (Some last) xs n all new is h = sym (take_front new last) ∙ ap (λ (ns : List (List ℕ)). take (length ns - 1) ns) (sym h ∙ is) ∙ take_front xs n
