-- What files at some indices alone have.
use Rattle.std.proofs.Common.{◌≡◌, ◌∙◌, ◌+◌, ◌<◌, ◌≤◌, ◌&&◌, ◌||◌, ◌++◌, ℕ, zero, suc, Bool, true, false, cond, List, [], ◌∷◌, length, take, get_or, replicate, refl, sym, ap, subst, arith}
use Rattle.std.specs.Prelude.{◌==◌, slice_set}
use Rattle.std.proofs.lemmas.Bool.{eqb-false, eqb-true}
use Rattle.std.proofs.lemmas.List.{take_more}
use Rattle.occ_project_graph.specs.Graph.{is_among as is_index}

among_append : (ws : List ℕ) (w p : ℕ) → is_index (ws ++ w ∷ []) p ≡ (is_index ws p || (w == p))
among_append [] w p = or_false (w == p) where
  or_false : (b : Bool) → (b || false) ≡ b
  or_false true = refl
  or_false false = refl
among_append (x ∷ ws) w p = ap (λ (b : Bool). (x == p) || b) (among_append ws w p) ∙ either (x == p) (is_index ws p) (w == p) where
  either : (a b c : Bool) → (a || (b || c)) ≡ ((a || b) || c)
  either true b c = refl
  either false b c = refl

among_take : (ws : List ℕ) (i p : ℕ) → i < length ws → is_index (take (i + 1) ws) p ≡ (is_index (take i ws) p || (get_or ws i 0 == p))
among_take ws i p lt = ap (λ (xs : List ℕ). is_index xs p) (take_more ws i 0 lt) ∙ among_append (take i ws) (get_or ws i 0) p

take_whole : (ws : List ℕ) (i : ℕ) → length ws ≤ i → take i ws ≡ ws
take_whole [] zero le = refl
take_whole [] (suc i) le = refl
take_whole (w ∷ ws) zero le = absurd (omega (arith, le))
take_whole (w ∷ ws) (suc i) le = ap (λ (xs : List ℕ). w ∷ xs) (take_whole ws i (omega (arith, le)))

-- marks of the first of these
pub record IsMarking (uses : List Bool) (ws : List ℕ) (marks : List Bool) (i : ℕ) : Type 0 where
  pub len : length marks ≡ length uses
  pub each : (p : ℕ) → get_or marks p false ≡ (is_index (take i ws) p && get_or uses p false)

none_set : (n p : ℕ) → get_or (replicate n false) p false ≡ false
none_set zero p = refl
none_set (suc n) zero = refl
none_set (suc n) (suc p) = none_set n p

none_long : (n : ℕ) → length (replicate n false) ≡ n
none_long zero = refl
none_long (suc n) = ap suc (none_long n)

pub marking_begun : (uses : List Bool) (ws : List ℕ) (marks : List Bool) (n : ℕ) → marks ≡ replicate n false → n ≡ length uses → IsMarking uses ws marks 0
marking_begun uses ws marks n m len = subst (λ (ms : List Bool). IsMarking uses ws ms 0) (sym m) (record { len = none_long n ∙ len; each = none_set n })

set_long : (flags : List Bool) (p : ℕ) → length (slice_set flags p true) ≡ length flags
set_long [] p = refl
set_long (f ∷ flags) zero = refl
set_long (f ∷ flags) (suc p) = ap suc (set_long flags p)

set_here : (flags : List Bool) (w : ℕ) → w < length flags → get_or (slice_set flags w true) w false ≡ true
set_here [] w lt = absurd (omega (arith, lt))
set_here (f ∷ flags) zero lt = refl
set_here (f ∷ flags) (suc w) lt = set_here flags w (omega (arith, lt))

set_apart : (flags : List Bool) (w q : ℕ) → (w ≡ q → ⊥) → get_or (slice_set flags w true) q false ≡ get_or flags q false
set_apart [] w q n = refl
set_apart (f ∷ flags) zero zero n = absurd (n refl)
set_apart (f ∷ flags) zero (suc q) n = refl
set_apart (f ∷ flags) (suc w) zero n = refl
set_apart (f ∷ flags) (suc w) (suc q) n = set_apart flags w q (λ e. n (ap suc e))

set_there : (flags : List Bool) (p : ℕ) → get_or flags p false ≡ true → p < length flags
set_there [] p h = absurd cc
set_there (f ∷ flags) zero h = omega arith
set_there (f ∷ flags) (suc p) h = let k = set_there flags p h in omega (arith, k)

pub marking_more : (uses : List Bool) (ws : List ℕ) (marks next : List Bool) (i : ℕ) → IsMarking uses ws marks i → i < length ws → next ≡ cond (get_or uses (get_or ws i 0) false) (slice_set marks (get_or ws i 0) true) marks → IsMarking uses ws next (i + 1)
marking_more uses ws marks next i h lt n = subst (λ (ms : List Bool). IsMarking uses ws ms (i + 1)) (sym n) (record {
  len = long (get_or uses w false) ∙ h.len;
  each = λ p. by p (get_or uses w false) refl (w == p) refl ∙ ap (λ (b : Bool). b && get_or uses p false) (sym (among_take ws i p lt));
}) where
  w : ℕ
  w = get_or ws i 0

  long : (b : Bool) → length (cond b (slice_set marks w true) marks) ≡ length marks
  long true = set_long marks w
  long false = refl

  or_false : (b c : Bool) → (b && c) ≡ ((b || false) && c)
  or_false true c = refl
  or_false false c = refl

  or_true : (b : Bool) → true ≡ ((b || true) && true)
  or_true true = refl
  or_true false = refl

  none : (b : Bool) → (b && false) ≡ ((b || true) && false)
  none true = refl
  none false = refl

  by : (p : ℕ) (u : Bool) → get_or uses w false ≡ u → (b : Bool) → (w == p) ≡ b → get_or (cond u (slice_set marks w true) marks) p false ≡ ((is_index (take i ws) p || b) && get_or uses p false)
  by p true e true f =
      let same : w ≡ p = eqb-true w p f in
      let len = h.len in
      let lt_w = set_there uses w e in
      ap (λ (q : ℕ). get_or (slice_set marks w true) q false) (sym same) ∙ set_here marks w (omega (arith, lt_w, len))
      ∙ or_true (is_index (take i ws) p) ∙ ap (λ (c : Bool). (is_index (take i ws) p || true) && c) (sym e ∙ ap (λ (q : ℕ). get_or uses q false) same)
  by p true e false f = set_apart marks w p (eqb-false w p f) ∙ h.each p ∙ or_false (is_index (take i ws) p) (get_or uses p false)
  by p false e true f =
      let same : w ≡ p = eqb-true w p f in
      let none_p : get_or uses p false ≡ false = ap (λ (q : ℕ). get_or uses q false) (sym same) ∙ e in
      h.each p ∙ ap (λ (c : Bool). is_index (take i ws) p && c) none_p ∙ none (is_index (take i ws) p) ∙ ap (λ (c : Bool). (is_index (take i ws) p || true) && c) (sym none_p)
  by p false e false f = h.each p ∙ or_false (is_index (take i ws) p) (get_or uses p false)

-- lists that agree at each place
same_marks : (xs ys : List Bool) → length xs ≡ length ys → ((p : ℕ) → get_or xs p false ≡ get_or ys p false) → xs ≡ ys
same_marks [] [] l k = refl
same_marks [] (y ∷ ys) l k = cc
same_marks (x ∷ xs) [] l k = cc
same_marks (x ∷ xs) (y ∷ ys) l k = ap (λ (z : Bool). z ∷ xs) (k 0) ∙ ap (λ (zs : List Bool). y ∷ zs) (same_marks xs ys (omega (arith, l)) (λ p. k (suc p)))

pub marking_over : (uses : List Bool) (ws : List ℕ) (marks : List Bool) (i : ℕ) → IsMarking uses ws marks i → length ws ≤ i → ((p : ℕ) → is_index ws p ≡ false → get_or uses p false ≡ false) → marks ≡ uses
marking_over uses ws marks i h le others = same_marks marks uses h.len (λ p. h.each p ∙ ap (λ (xs : List ℕ). is_index xs p && get_or uses p false) (take_whole ws i le) ∙ by p (is_index ws p) refl) where
  by : (p : ℕ) (b : Bool) → is_index ws p ≡ b → (b && get_or uses p false) ≡ get_or uses p false
  by p true e = refl
  by p false e = sym (others p e)
