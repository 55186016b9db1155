-- Leaving what was entered gives the scope back.
use Rattle.std.proofs.Common.{◌≡◌, ◌+◌, ℕ, zero, suc, List, [], ◌∷◌, ◌++◌, length, refl, ap, sym, subst, ◌∙◌, arith, length-append}
use Rattle.std.proofs.Math.Seq.{take-append_seam}
use Rattle.std.proofs.lemmas.List.{length-take-le}
use Rattle.std.specs.Prelude.{take, ◌-◌, ◌≤◌, ◌<◌}
use Rattle.occ_scope.specs.declared.meaning.ScopeEntry.{ScopeEntry}
use Rattle.occ_scope.specs.declared.meaning.Meaning.{Meaning}
use Rattle.occ_scope.specs.declared.scope.Scope.{Scope}
use Rattle.occ_scope.specs.Visible.{back_to, but_last, entered, left, left_times, with_all}

but_last_snoc : {X : Type 0} (xs : List X) (x : X) → but_last (xs ++ x ∷ []) ≡ xs
but_last_snoc {X} xs x =
    ap (λ (n : ℕ). take n (xs ++ x ∷ [])) (ap (λ (n : ℕ). n - 1) (length-append xs (x ∷ [])) ∙ (omega arith)) ∙ take-append_seam xs (x ∷ [])

pub left_entered : (s : Scope) (name : List ℕ) (meaning : Meaning) → left (entered s name meaning) ≡ s
left_entered s name meaning =
    ap (λ (ns : List (List ℕ)). record { names = ns; meanings = but_last (s.meanings ++ meaning ∷ []) }) (but_last_snoc s.names name)
    ∙ ap (λ (ms : List Meaning). record { names = s.names; meanings = ms }) (but_last_snoc s.meanings meaning)

pub left_with_all : (xs : List ScopeEntry) (s : Scope) → left_times (length xs) (with_all s xs) ≡ s
left_with_all [] s = refl
left_with_all (x ∷ xs) s = ap left (left_with_all xs (entered s x.name x.meaning)) ∙ left_entered s x.name x.meaning

-- one is left first or last
pub left_first : (n : ℕ) (s : Scope) → left_times n (left s) ≡ left (left_times n s)
left_first zero s = refl
left_first (suc n) s = ap left (left_first n s)

same_count : {m n : ℕ} (s : Scope) → m ≡ n → left_times m s ≡ left_times n s
same_count {m} {n} s e = ap (λ (k : ℕ). left_times k s) e

pub left_more : (m n : ℕ) (s : Scope) → left_times (m + n) s ≡ left_times m (left_times n s)
left_more zero n s = let e : zero + n ≡ n = omega arith in same_count s e
left_more (suc m) n s = let e : suc m + n ≡ suc (m + n) = omega arith in same_count s e ∙ ap left (left_more m n s)

pub length_with_all : (xs : List ScopeEntry) (s : Scope) → length (with_all s xs).meanings ≡ length s.meanings + length xs
length_with_all [] s = omega arith
length_with_all (x ∷ xs) s =
    let e : length (s.meanings ++ x.meaning ∷ []) ≡ length s.meanings + 1 = length-append s.meanings (x.meaning ∷ []) in
    let h : length (with_all (entered s x.name x.meaning) xs).meanings ≡ length (s.meanings ++ x.meaning ∷ []) + length xs = length_with_all xs (entered s x.name x.meaning) in
    omega (arith, e, h)

pub back_done : (count : ℕ) (s : Scope) → length s.meanings ≤ count → back_to count s ≡ s
back_done count s h = let e : length s.meanings - count ≡ zero = omega (arith, h) in same_count s e

pub back_here : (s : Scope) → back_to (length s.meanings) s ≡ s
back_here s = let e : length s.meanings - length s.meanings ≡ zero = omega arith in same_count s e

length_left : (s : Scope) → length (left s).meanings ≡ length s.meanings - 1
length_left s = length-take-le (length s.meanings - 1) s.meanings (omega arith)

length_times : (n : ℕ) (s : Scope) → length (left_times n s).meanings ≡ length s.meanings - n
length_times zero s = omega arith
length_times (suc n) s =
    let one : length (left (left_times n s)).meanings ≡ length (left_times n s).meanings - 1 = length_left (left_times n s) in
    let others : length (left_times n s).meanings ≡ length s.meanings - n = length_times n s in
    omega (arith, one, others)

pub length_back : (count : ℕ) (s : Scope) → count ≤ length s.meanings → length (back_to count s).meanings ≡ count
length_back count s h =
    let e : length (left_times (length s.meanings - count) s).meanings ≡ length s.meanings - (length s.meanings - count) = length_times (length s.meanings - count) s in
    omega (arith, e, h)

-- one that was left counts no more
pub back_left : (count : ℕ) (s : Scope) → count < length s.meanings → back_to count (left s) ≡ back_to count s
back_left count s h =
    let fewer : length (left s).meanings ≡ length s.meanings - 1 = length_left s in
    let e : length (left s).meanings - count ≡ length s.meanings - 1 - count = ap (λ (n : ℕ). n - count) fewer in
    let f : suc (length s.meanings - 1 - count) ≡ length s.meanings - count = omega (arith, h) in
    same_count (left s) e ∙ left_first (length s.meanings - 1 - count) s ∙ same_count s f

-- what was entered above a scope does not count
pub back_over : (count : ℕ) (xs : List ScopeEntry) (s : Scope) → count ≤ length s.meanings → back_to count (with_all s xs) ≡ back_to count s
back_over count xs s h =
    let longer : length (with_all s xs).meanings ≡ length s.meanings + length xs = length_with_all xs s in
    let e : length (with_all s xs).meanings - count ≡ length s.meanings - count + length xs = omega (arith, h, longer) in
    same_count (with_all s xs) e
    ∙ left_more (length s.meanings - count) (length xs) (with_all s xs)
    ∙ ap (left_times (length s.meanings - count)) (left_with_all xs s)

-- with one entered more
pub one_more : (count : ℕ) (s t outer : Scope) (x : ScopeEntry) → count ≤ length s.meanings → back_to count s ≡ outer → t ≡ entered s x.name x.meaning
    → (count ≤ length t.meanings) × (back_to count t ≡ outer)
one_more count s t outer x h here is =
    let e : length (s.meanings ++ x.meaning ∷ []) ≡ length s.meanings + 1 = length-append s.meanings (x.meaning ∷ []) in
    subst (λ (u : Scope). (count ≤ length u.meanings) × (back_to count u ≡ outer)) (sym is) ((omega (arith, e, h)), back_over count (x ∷ []) s h ∙ here)

pub ruleset leaving_rules = (back_done, back_left)
