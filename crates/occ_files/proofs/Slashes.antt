-- What stands before the last `/` of a path, and what behind it.
use Rattle.std.proofs.Common.{◌≡◌, ◌∙◌, ◌+◌, ◌<◌, ◌≤◌, ◌==◌, Bool, Bor, true, false, ℕ, zero, suc, List, [], ◌∷◌, MatchOption, Option, Some, None, arith, drop, length, take, option_map, refl, subst, sym, ap, if◌then◌else◌}
use Rattle.std.proofs.lemmas.Str.Pattern.{NoCharPasses-char, drop_at_char}
use Rattle.std.specs.Prelude.{get_or}
use Rattle.std.specs.Str.Pattern.{RFindsChar}
use Rattle.occ_files.specs.Paths.{before_slash, behind_slash, put_before, put_behind}

-- none of these is a `/`
abbrev Lacks : List ℕ → Type 0
Lacks bs = (k : ℕ) → k < length bs → get_or bs k 0 ≡ 47 → ⊥

rest_lacks : (b : ℕ) (bs : List ℕ) → Lacks (b ∷ bs) → Lacks bs
rest_lacks b bs lacks k less is = lacks (suc k) (omega (arith, less)) is

none_before : (bs : List ℕ) → Lacks bs → before_slash bs ≡ None
none_before [] lacks = refl
none_before (b ∷ bs) lacks = ap (put_before b) (none_before bs (rest_lacks b bs lacks)) ∙ by (b == 47) refl where
  found : Bool → Option (List ℕ)
  found c = if c then Some [] else None

  by : (c : Bool) → (b == 47) ≡ c → found c ≡ None
  by true h = let is : b ≡ 47 = grind (arith, h) in absurd (lacks 0 (omega arith) is)
  by false h = refl

some_before : (i : ℕ) (bs rest : List ℕ) → drop i bs ≡ 47 ∷ rest → Lacks rest → before_slash bs ≡ Some (take i bs)
some_before zero [] rest at lacks = absurd cc
some_before (suc i) [] rest at lacks = absurd cc
some_before zero (b ∷ bs) rest at lacks =
    let first : b ≡ 47 = cc in
    let same : bs ≡ rest = cc in
    ap (put_before b) (none_before bs (subst Lacks (sym same) lacks)) ∙ ap (λ (x : ℕ). put_before x None) first
some_before (suc i) (b ∷ bs) rest at lacks = ap (put_before b) (some_before i bs rest at lacks)

none_behind : (bs : List ℕ) → Lacks bs → behind_slash bs ≡ None
none_behind [] lacks = refl
none_behind (b ∷ bs) lacks = ap (put_behind b bs) (none_behind bs (rest_lacks b bs lacks)) ∙ by (b == 47) refl where
  found : Bool → Option (List ℕ)
  found c = if c then Some bs else None

  by : (c : Bool) → (b == 47) ≡ c → found c ≡ None
  by true h = let is : b ≡ 47 = grind (arith, h) in absurd (lacks 0 (omega arith) is)
  by false h = refl

some_behind : (i : ℕ) (bs rest : List ℕ) → drop i bs ≡ 47 ∷ rest → Lacks rest → behind_slash bs ≡ Some rest
some_behind zero [] rest at lacks = absurd cc
some_behind (suc i) [] rest at lacks = absurd cc
some_behind zero (b ∷ bs) rest at lacks =
    let first : b ≡ 47 = cc in
    let same : bs ≡ rest = cc in
    ap (put_behind b bs) (none_behind bs (subst Lacks (sym same) lacks)) ∙ ap (λ (x : ℕ). put_behind x bs None) first ∙ ap Some same
some_behind (suc i) (b ∷ bs) rest at lacks = ap (put_behind b bs) (some_behind i bs rest at lacks)

-- by the clause of `rsplit_once` at a slash
pub slash_split : (text : List ℕ) (r : Option (Bor (List ℕ) × Bor (List ℕ)))
    → MatchOption r (RFindsChar 47 text None) (λ x. (i : ℕ) × (j : ℕ) × RFindsChar 47 text (Some (i, j)) × (x.0.now ≡ take i text) × (x.1.now ≡ drop j text) × (i ≤ j) × (length x.0.now ≡ i) × (length x.1.now + j ≡ length text))
    → option_map (λ x. x.0.now) r ≡ before_slash text
slash_split text None h = sym (none_before text (λ k less is. NoCharPasses-char 47 text k h (omega arith) less is))
slash_split text (Some x) h =
    let i = h.0 in
    let j = h.1 in
    ap Some h.3 ∙ sym (some_before i text (drop j text) (drop_at_char 47 text i j h.2.1 (omega arith)) (λ k less is. NoCharPasses-char 47 (drop j text) k h.2.0 (omega arith) less is))

pub slash_name : (text : List ℕ) (r : Option (Bor (List ℕ) × Bor (List ℕ)))
    → MatchOption r (RFindsChar 47 text None) (λ x. (i : ℕ) × (j : ℕ) × RFindsChar 47 text (Some (i, j)) × (x.0.now ≡ take i text) × (x.1.now ≡ drop j text) × (i ≤ j) × (length x.0.now ≡ i) × (length x.1.now + j ≡ length text))
    → option_map (λ x. x.1.now) r ≡ behind_slash text
slash_name text None h = sym (none_behind text (λ k less is. NoCharPasses-char 47 text k h (omega arith) less is))
slash_name text (Some x) h =
    let i = h.0 in
    let j = h.1 in
    ap Some h.4 ∙ sym (some_behind i text (drop j text) (drop_at_char 47 text i j h.2.1 (omega arith)) (λ k less is. NoCharPasses-char 47 (drop j text) k h.2.0 (omega arith) less is))
