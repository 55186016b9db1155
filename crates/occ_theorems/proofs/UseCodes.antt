-- The code of a use is read in one way: no two uses have one code.
use Rattle.std.proofs.Common.{◌≡◌, ℕ, List, [], ◌∷◌, ◌++◌, length, append_assoc, refl, ap, ap₂, sym, ◌∙◌, arith}
use Rattle.std.specs.Prelude.{ℤ, pos, negsuc}
use Rattle.occ_check.specs.Codes.{kind_code, mark_code, number_code, places_code, selector_code, selectors_code, use_code}
use Rattle.occ_types.specs.declared.interface.FormalUse.{FormalUse}
use Rattle.occ_types.specs.declared.interface.Interval.{Interval}
use Rattle.occ_types.specs.declared.interface.Mark.{Mark}
use Rattle.occ_types.specs.declared.interface.Mark.TheVariants as mark
use Rattle.occ_types.specs.declared.interface.PartSelector.{PartSelector}
use Rattle.occ_types.specs.declared.interface.PartSelector.TheVariants as s
use Rattle.occ_types.specs.declared.interface.Places.{Places}
use Rattle.occ_types.specs.declared.interface.Places.TheVariants as places
use Rattle.occ_types.specs.declared.interface.UseKind.{UseKind}
use Rattle.occ_types.specs.declared.interface.UseKind.TheVariants as kind

head_of : {A : Type 0} (x y : A) (xs ys : List A) → x ∷ xs ≡ y ∷ ys → x ≡ y
head_of x y xs ys e = cc

tail_of : {A : Type 0} (x y : A) (xs ys : List A) → x ∷ xs ≡ y ∷ ys → xs ≡ ys
tail_of x y xs ys e = cc

same_kind : (a b : UseKind) → kind_code a ≡ kind_code b → a ≡ b
same_kind kind.Read kind.Read e = refl
same_kind kind.Read kind.Write e = absurd (omega arith)
same_kind kind.Read kind.Input e = absurd (omega arith)
same_kind kind.Read kind.Output e = absurd (omega arith)
same_kind kind.Write kind.Read e = absurd (omega arith)
same_kind kind.Write kind.Write e = refl
same_kind kind.Write kind.Input e = absurd (omega arith)
same_kind kind.Write kind.Output e = absurd (omega arith)
same_kind kind.Input kind.Read e = absurd (omega arith)
same_kind kind.Input kind.Write e = absurd (omega arith)
same_kind kind.Input kind.Input e = refl
same_kind kind.Input kind.Output e = absurd (omega arith)
same_kind kind.Output kind.Read e = absurd (omega arith)
same_kind kind.Output kind.Write e = absurd (omega arith)
same_kind kind.Output kind.Input e = absurd (omega arith)
same_kind kind.Output kind.Output e = refl

same_mark : (a b : Mark) → mark_code a ≡ mark_code b → a ≡ b
same_mark mark.Sure mark.Sure e = refl
same_mark mark.Sure mark.Unsure e = absurd (omega arith)
same_mark mark.Unsure mark.Sure e = absurd (omega arith)
same_mark mark.Unsure mark.Unsure e = refl

-- numbers, and what stands after them
numbers_then : (a b : ℤ) (j k : List ℕ) → number_code a ++ j ≡ number_code b ++ k → (a ≡ b) × (j ≡ k)
numbers_then (pos m) (pos n) j k e = (ap pos (head_of m n j k (tail_of 0 0 (m ∷ j) (n ∷ k) e)), tail_of m n j k (tail_of 0 0 (m ∷ j) (n ∷ k) e))
numbers_then (pos m) (negsuc n) j k e = absurd (let h : 0 ≡ 1 = head_of 0 1 (m ∷ j) (n ∷ k) e in omega arith)
numbers_then (negsuc m) (pos n) j k e = absurd (let h : 1 ≡ 0 = head_of 1 0 (m ∷ j) (n ∷ k) e in omega arith)
numbers_then (negsuc m) (negsuc n) j k e = (ap negsuc (head_of m n j k (tail_of 1 1 (m ∷ j) (n ∷ k) e)), tail_of m n j k (tail_of 1 1 (m ∷ j) (n ∷ k) e))

other : {P : Type 0} (m n : ℕ) (j k : List ℕ) → m ∷ j ≡ n ∷ k → (m ≡ n → ⊥) → P
other m n j k e ne = absurd (ne (head_of m n j k e))

run_then : (a b : ℤ) (m n : ℕ) (j k : List ℕ) → (number_code a ++ m ∷ []) ++ j ≡ (number_code b ++ n ∷ []) ++ k → (places.Run a m ≡ places.Run b n) × (j ≡ k)
run_then a b m n j k e =
    let f = numbers_then a b (m ∷ j) (n ∷ k) (sym (append_assoc (number_code a) (m ∷ []) j) ∙ e ∙ append_assoc (number_code b) (n ∷ []) k) in
    let g : m ≡ n = head_of m n j k f.1 in
    let h : a ≡ b = f.0 in
    (cc, tail_of m n j k f.1)

from_then : (a b : ℤ) (j k : List ℕ) → number_code a ++ j ≡ number_code b ++ k → (places.From a ≡ places.From b) × (j ≡ k)
from_then a b j k e = let f = numbers_then a b j k e in (ap places.From f.0, f.1)

places_then : (a b : Places) (j k : List ℕ) → places_code a ++ j ≡ places_code b ++ k → (a ≡ b) × (j ≡ k)
places_then places.None places.None j k e = (refl, tail_of 0 0 j k e)
places_then places.None places.All j k e = other 0 1 _ _ e (λ h. omega arith)
places_then places.None (places.From b) j k e = other 0 2 _ _ e (λ h. omega arith)
places_then places.None (places.Run b n) j k e = other 0 3 _ _ e (λ h. omega arith)
places_then places.All places.None j k e = other 1 0 _ _ e (λ h. omega arith)
places_then places.All places.All j k e = (refl, tail_of 1 1 j k e)
places_then places.All (places.From b) j k e = other 1 2 _ _ e (λ h. omega arith)
places_then places.All (places.Run b n) j k e = other 1 3 _ _ e (λ h. omega arith)
places_then (places.From a) places.None j k e = other 2 0 _ _ e (λ h. omega arith)
places_then (places.From a) places.All j k e = other 2 1 _ _ e (λ h. omega arith)
places_then (places.From a) (places.From b) j k e = from_then a b j k (tail_of 2 2 _ _ e)
places_then (places.From a) (places.Run b n) j k e = other 2 3 _ _ e (λ h. omega arith)
places_then (places.Run a m) places.None j k e = other 3 0 _ _ e (λ h. omega arith)
places_then (places.Run a m) places.All j k e = other 3 1 _ _ e (λ h. omega arith)
places_then (places.Run a m) (places.From b) j k e = other 3 2 _ _ e (λ h. omega arith)
places_then (places.Run a m) (places.Run b n) j k e = run_then a b m n j k (tail_of 3 3 _ _ e)

-- two lists of one length, and what stands after them
lists_then : (xs ys j k : List ℕ) → length xs ≡ length ys → xs ++ j ≡ ys ++ k → (xs ≡ ys) × (j ≡ k)
lists_then [] [] j k l e = (refl, e)
lists_then [] (y ∷ ys) j k l e = absurd (omega arith)
lists_then (x ∷ xs) [] j k l e = absurd (omega arith)
lists_then (x ∷ xs) (y ∷ ys) j k l e =
    let f = lists_then xs ys j k (omega arith) (tail_of x y (xs ++ j) (ys ++ k) e) in
    let g : x ≡ y = head_of x y (xs ++ j) (ys ++ k) e in
    let h : xs ≡ ys = f.0 in
    (cc, f.1)

interval : Mark → Places → Interval
interval m p = record { mark = m; places = p }

intervals_then : (a b : Interval) (j k : List ℕ) → mark_code a.mark ∷ (places_code a.places ++ j) ≡ mark_code b.mark ∷ (places_code b.places ++ k) → (a ≡ b) × (j ≡ k)
unfolding interval
intervals_then a b j k e =
    let f : a.mark ≡ b.mark = same_mark a.mark b.mark (head_of _ _ _ _ e) in
    let g = places_then a.places b.places j k (tail_of _ _ _ _ e) in
    (ap₂ interval f g.0, g.1)

selector_then : (a b : PartSelector) (j k : List ℕ) → selector_code a ++ j ≡ selector_code b ++ k → (a ≡ b) × (j ≡ k)
selector_then (s.Field x) (s.Field y) j k e =
    let t = tail_of 0 0 _ _ e in
    let f = lists_then x y j k (head_of _ _ _ _ t) (tail_of _ _ _ _ t) in
    (ap s.Field f.0, f.1)
selector_then (s.Field x) (s.Interval i) j k e = other 0 1 _ _ e (λ h. omega arith)
selector_then (s.Interval i) (s.Field y) j k e = other 1 0 _ _ e (λ h. omega arith)
selector_then (s.Interval a) (s.Interval b) j k e = let f = intervals_then a b j k (tail_of 1 1 _ _ e) in (ap s.Interval f.0, f.1)

not_empty : (x : PartSelector) (xs : List PartSelector) → selectors_code (x ∷ xs) ≡ [] → ⊥
not_empty (s.Field name) xs e = cc
not_empty (s.Interval i) xs e = cc

same_selectors : (xs ys : List PartSelector) → selectors_code xs ≡ selectors_code ys → xs ≡ ys
same_selectors [] [] e = refl
same_selectors [] (y ∷ ys) e = absurd (not_empty y ys (sym e))
same_selectors (x ∷ xs) [] e = absurd (not_empty x xs e)
same_selectors (x ∷ xs) (y ∷ ys) e =
    let f = selector_then x y (selectors_code xs) (selectors_code ys) e in
    let g : x ≡ y = f.0 in
    let h : xs ≡ ys = same_selectors xs ys f.1 in
    cc

of_parts : ℕ → UseKind → List PartSelector → FormalUse
of_parts n x selectors = record { formal = n; selectors = selectors; kind = x }

pub same_code : (a b : FormalUse) → use_code a ≡ use_code b → a ≡ b
unfolding of_parts
same_code a b e =
    let t = tail_of a.formal b.formal _ _ e in
    let f : a.formal ≡ b.formal = head_of a.formal b.formal _ _ e in
    let g : a.kind ≡ b.kind = same_kind a.kind b.kind (head_of _ _ _ _ t) in
    let h : a.selectors ≡ b.selectors = same_selectors a.selectors b.selectors (tail_of _ _ _ _ t) in
    ap₂ (λ n x. of_parts n x a.selectors) f g ∙ ap (of_parts b.formal b.kind) h
