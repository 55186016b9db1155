-- Runs of flags that are all set.
use Rattle.std.proofs.Common.{◌≡◌, ◌∙◌, ◌+◌, ◌-◌, ◌<◌, ◌≤◌, ◌||◌, ℕ, zero, suc, Bool, true, false, not, List, [], ◌∷◌, length, take, drop, get_or, refl, sym, ap, arith}
use Rattle.std.specs.List.{list_any}

taken : (n : ℕ) (flags : List Bool) (p : ℕ) → p < n → get_or (take n flags) p false ≡ get_or flags p false
taken zero flags p lt = absurd (omega (arith, lt))
taken (suc n) [] p lt = refl
taken (suc n) (f ∷ flags) zero lt = refl
taken (suc n) (f ∷ flags) (suc p) lt = taken n flags p (omega (arith, lt))

none_there : (n p : ℕ) → get_or (take n []) p false ≡ false
none_there zero p = refl
none_there (suc n) p = refl

part : (k n : ℕ) (flags : List Bool) (p q : ℕ) → p ≡ k + q → q < n → get_or (take n (drop k flags)) q false ≡ get_or flags p false
part zero n flags p q e lt = let same : q ≡ p = omega (arith, e) in taken n flags q lt ∙ ap (λ (x : ℕ). get_or flags x false) same
part (suc k) n [] p q e lt = none_there n q
part (suc k) n (f ∷ flags) zero q e lt = absurd (omega (arith, e))
part (suc k) n (f ∷ flags) (suc p) q e lt = part k n flags p q (omega (arith, e)) lt

all_set : (f : Bool → Bool) → f false ≡ true → (flags : List Bool) → list_any f flags ≡ false → (p : ℕ) → p < length flags → get_or flags p false ≡ true
all_set f e [] h p lt = absurd (omega (arith, lt))
all_set f e (true ∷ flags) h zero lt = refl
all_set f e (false ∷ flags) h zero lt = by (f false) e h where
  by : (b : Bool) → b ≡ true → (b || list_any f flags) ≡ false → false ≡ true
  by true k none = absurd cc
  by false k none = k
all_set f e (x ∷ flags) h (suc p) lt = all_set f e flags (by (f x) h) p (omega (arith, lt)) where
  by : (b : Bool) → (b || list_any f flags) ≡ false → list_any f flags ≡ false
  by true none = absurd cc
  by false none = none

not_found : (b : Bool) → not b ≡ true → b ≡ false
not_found true h = absurd cc
not_found false h = refl

-- a run in which no flag is missing
pub run_set : (f : Bool → Bool) (found : Bool) (flags run : List Bool) (from p : ℕ) → found ≡ list_any f run → f false ≡ true → not found ≡ true → run ≡ take 64 (drop from flags) → length run ≡ 64 → from ≤ p → p < from + 64 → get_or flags p false ≡ true
run_set f found flags run from p value e h is long least most =
    let q : ℕ = p - from in
    let there : p ≡ from + q = omega (arith, least) in
    let near : q < 64 = omega (arith, least, most) in
    sym (part from 64 flags p q there near)
    ∙ ap (λ (fs : List Bool). get_or fs q false) (sym is)
    ∙ all_set f e run (sym value ∙ not_found found h) q (omega (arith, long, near))
