-- A loop over a list whose items all spell alike: what it has read so far, and that each reading goes on from there.
use Rattle.std.proofs.Common.{◌≡◌, ◌≤◌, List, [], ◌∷◌, ◌++◌, length, refl, sym, ◌∙◌, ap, append_assoc, append-nil, subst, arith}
use Rattle.occ_lines.specs.declared.token.Token.{Token}
use Rattle.occ_forms_expressions.specs.Spelling.{Spelling, many}

pub record Kept {X : Type 0} (spells : X → Spelling) (Ends : List Token → Type 0) (tokens : List Token) (found : List X) (rest : List Token) : Type 0 where
  pub parts : tokens ≡ many spells found rest
  pub shorter : length rest ≤ length tokens
  pub only : (xs : List X) (k : List Token) → Ends k → tokens ≡ many spells xs k → (more : List X) × (xs ≡ found ++ more) × (rest ≡ many spells more k)

pub starts : {X : Type 0} (spells : X → Spelling) (Ends : List Token → Type 0) (tokens : List Token) → Kept spells Ends tokens [] tokens
starts {X} spells Ends tokens = record { parts = refl; shorter = omega arith; only = λ xs k ends e. (xs, refl, e) }

-- what follows an item of a list
abbrev pub Within : {X : Type 0} → (X → Spelling) → (List Token → Type 0) → (List Token → Type 0) → Type 0
Within {X} spells Inside Ends = (xs : List X) (k : List Token) → Ends k → Inside (many spells xs k)

-- one more item at the end
many_more : {X : Type 0} (spells : X → Spelling) (xs : List X) (x : X) (k : List Token) → many spells (xs ++ x ∷ []) k ≡ many spells xs (spells x k)
many_more spells [] x k = refl
many_more spells (y ∷ ys) x k = ap (spells y) (many_more spells ys x k)

-- an item is read, and no other item and no end stands there
pub goes_on : {X : Type 0} (spells : X → Spelling) (Inside Ends : List Token → Type 0) → Within spells Inside Ends
    → (tokens : List Token) (found : List X) (rest : List Token) (x : X) (next : List Token)
    → Kept spells Ends tokens found rest → rest ≡ spells x next → length next ≤ length rest → (Ends rest → ⊥)
    → ((y : X) (k : List Token) → Inside k → rest ≡ spells y k → (x ≡ y) × (next ≡ k))
    → Kept spells Ends tokens (found ++ x ∷ []) next
goes_on {X} spells Inside Ends within tokens found rest x next kept is less no_end one = record {
  parts = kept.parts ∙ ap (many spells found) is ∙ sym (many_more spells found x next);
  shorter = omega (arith, less, kept.shorter);
  only = λ xs k ends e. step xs k ends (kept.only xs k ends e);
} where
  step : (xs : List X) (k : List Token) → Ends k → ((more : List X) × (xs ≡ found ++ more) × (rest ≡ many spells more k))
      → (more : List X) × (xs ≡ (found ++ x ∷ []) ++ more) × (next ≡ many spells more k)
  step xs k ends ([], e, r) = absurd (no_end (subst Ends (sym r) ends))
  step xs k ends (y ∷ ys, e, r) = let h = one y (many spells ys k) (within ys k ends) r in
      (ys, e ∙ ap (λ z. found ++ z ∷ ys) (sym h.0) ∙ sym (append_assoc found (x ∷ []) ys), h.1)

-- no item begins where the loop stops
pub is_done : {X : Type 0} (spells : X → Spelling) (Inside Ends : List Token → Type 0) → Within spells Inside Ends
    → (tokens : List Token) (found : List X) (rest : List Token)
    → Kept spells Ends tokens found rest → ((y : X) (k : List Token) → Inside k → rest ≡ spells y k → ⊥)
    → (xs : List X) (k : List Token) → Ends k → tokens ≡ many spells xs k → (found ≡ xs) × (rest ≡ k)
is_done {X} spells Inside Ends within tokens found rest kept none xs k ends e = done xs k ends (kept.only xs k ends e) where
  done : (xs : List X) (k : List Token) → Ends k → ((more : List X) × (xs ≡ found ++ more) × (rest ≡ many spells more k)) → (found ≡ xs) × (rest ≡ k)
  done xs k ends ([], a, r) = (sym (a ∙ append-nil found), r)
  done xs k ends (y ∷ ys, a, r) = absurd (none y (many spells ys k) (within ys k ends) r)

-- neither an item nor an end stands there, so there is no list
pub fails : {X : Type 0} (spells : X → Spelling) (Inside Ends : List Token → Type 0) → Within spells Inside Ends
    → (tokens : List Token) (found : List X) (rest : List Token)
    → Kept spells Ends tokens found rest → (Ends rest → ⊥) → ((y : X) (k : List Token) → Inside k → rest ≡ spells y k → ⊥)
    → (xs : List X) (k : List Token) → Ends k → tokens ≡ many spells xs k → ⊥
fails spells Inside Ends within tokens found rest kept no_end none xs k ends e = let h = is_done spells Inside Ends within tokens found rest kept none xs k ends e in
    no_end (subst Ends (sym h.1) ends)
