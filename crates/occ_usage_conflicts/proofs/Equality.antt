-- Uses that are the same in each of their parts are one.
use Rattle.std.proofs.Common.{◌≡◌, ◌≢◌, ℕ, suc, length, Bool, true, false, ap, ◌∙◌, refl, subst, arith, List, [], ◌∷◌}
use Rattle.std.specs.Prelude.{ℤ, ◌&&◌, ◌↔◌, ◌==◌}
use Rattle.std.specs.Ordering.{int_eq}
use Rattle.std.specs.Str.{bytes_eq}
use Rattle.std.proofs.lemmas.Int.{ints}
use Rattle.std.proofs.lemmas.Slice.Eq.{bytes_eq-Decides}
use Rattle.occ_usage_values.specs.declared.uses.Use.{Use}
use Rattle.occ_types.specs.declared.interface.Interval.{Interval}
use Rattle.occ_types.specs.declared.interface.Mark.{Mark}
use Rattle.occ_types.specs.declared.interface.Mark.TheVariants as mark
use Rattle.occ_types.specs.declared.interface.PartSelector.{PartSelector}
use Rattle.occ_types.specs.declared.interface.PartSelector.TheVariants as s
use Rattle.occ_types.specs.declared.interface.Places.{Places}
use Rattle.occ_types.specs.declared.interface.Places.TheVariants as places
use Rattle.occ_types.specs.declared.interface.UseKind.{UseKind}
use Rattle.occ_types.specs.declared.interface.UseKind.TheVariants as kind
use Rattle.occ_usage_conflicts.specs.Distinct.{same_mark, same_places, same_selector, same_selectors, same_use}
use Rattle.occ_usage_conflicts.specs.Kinds.{same_kind}
use Rattle.occ_usage_conflicts.proofs.Clashing.{and_left, and_right}

-- ---- the same are one

one_mark : (a b : Mark) → same_mark a b ≡ true → a ≡ b
one_mark mark.Sure mark.Sure h = refl
one_mark mark.Sure mark.Unsure h = cc
one_mark mark.Unsure mark.Sure h = cc
one_mark mark.Unsure mark.Unsure h = refl

one_kind : (a b : UseKind) → same_kind a b ≡ true → a ≡ b
one_kind kind.Read kind.Read h = refl
one_kind kind.Read kind.Write h = cc
one_kind kind.Read kind.Input h = cc
one_kind kind.Read kind.Output h = cc
one_kind kind.Write kind.Read h = cc
one_kind kind.Write kind.Write h = refl
one_kind kind.Write kind.Input h = cc
one_kind kind.Write kind.Output h = cc
one_kind kind.Input kind.Read h = cc
one_kind kind.Input kind.Write h = cc
one_kind kind.Input kind.Input h = refl
one_kind kind.Input kind.Output h = cc
one_kind kind.Output kind.Read h = cc
one_kind kind.Output kind.Write h = cc
one_kind kind.Output kind.Input h = cc
one_kind kind.Output kind.Output h = refl

one_number : (m n : ℕ) → (m == n) ≡ true → m ≡ n
one_number m n h = grind arith

one_integer : (a b : ℤ) → int_eq a b ≡ true → a ≡ b
one_integer a b h = grind (arith, ints)

one_name : (m n : List ℕ) → bytes_eq m n ≡ true → m ≡ n
one_name m n h = (bytes_eq-Decides m n).0 h

one_places : (p q : Places) → same_places p q ≡ true → p ≡ q
one_places places.None places.None h = refl
one_places places.None places.All h = cc
one_places places.None (places.From b) h = cc
one_places places.None (places.Run b m) h = cc
one_places places.All places.None h = cc
one_places places.All places.All h = refl
one_places places.All (places.From b) h = cc
one_places places.All (places.Run b m) h = cc
one_places (places.From a) places.None h = cc
one_places (places.From a) places.All h = cc
one_places (places.From a) (places.From b) h = ap places.From (one_integer a b h)
one_places (places.From a) (places.Run b m) h = cc
one_places (places.Run a n) places.None h = cc
one_places (places.Run a n) places.All h = cc
one_places (places.Run a n) (places.From b) h = cc
one_places (places.Run a n) (places.Run b m) h =
    ap (λ (k : ℤ). places.Run k n) (one_integer a b (and_left (int_eq a b) (n == m) h)) ∙ ap (places.Run b) (one_number n m (and_right (int_eq a b) (n == m) h))

interval_of : Mark → Places → Interval
interval_of m p = record { mark = m; places = p }

one_interval : (i j : Interval) → (same_mark i.mark j.mark && same_places i.places j.places) ≡ true → i ≡ j
unfolding interval_of
one_interval i j h =
    ap (λ (m : Mark). interval_of m i.places) (one_mark i.mark j.mark (and_left (same_mark i.mark j.mark) (same_places i.places j.places) h))
    ∙ ap (interval_of j.mark) (one_places i.places j.places (and_right (same_mark i.mark j.mark) (same_places i.places j.places) h))

one_selector : (x y : PartSelector) → same_selector x y ≡ true → x ≡ y
one_selector (s.Field m) (s.Field n) h = ap s.Field (one_name m n h)
one_selector (s.Field m) (s.Interval j) h = cc
one_selector (s.Interval i) (s.Field n) h = cc
one_selector (s.Interval i) (s.Interval j) h = ap s.Interval (one_interval i j h)

pub one_selectors : (xs ys : List PartSelector) → same_selectors xs ys ≡ true → xs ≡ ys
one_selectors [] [] h = refl
one_selectors [] (y ∷ ys) h = cc
one_selectors (x ∷ xs) [] h = cc
one_selectors (x ∷ xs) (y ∷ ys) h =
    ap (λ (z : PartSelector). z ∷ xs) (one_selector x y (and_left (same_selector x y) (same_selectors xs ys) h))
    ∙ ap (λ (zs : List PartSelector). y ∷ zs) (one_selectors xs ys (and_right (same_selector x y) (same_selectors xs ys) h))

use_of : ℕ → UseKind → ℕ → List PartSelector → List ℕ → List ℕ → Use
use_of root k line xs chain file = record { part = record { root = root; selectors = xs }; kind = k; line = record { file = file; line = line }; chain = chain }

one_use : (u v : Use) → same_use u v ≡ true → u ≡ v
unfolding use_of
one_use u v h =
    let a = u.part.root == v.part.root in
    let b = same_kind u.kind v.kind in
    let c = u.line.line == v.line.line in
    let d = same_selectors u.part.selectors v.part.selectors in
    let e = bytes_eq u.chain v.chain in
    let f = bytes_eq u.line.file v.line.file in
    let h5 = and_left (a && b && c && d && e) f h in
    let h4 = and_left (a && b && c && d) e h5 in
    let h3 = and_left (a && b && c) d h4 in
    let h2 = and_left (a && b) c h3 in
    ap (λ (x : ℕ). use_of x u.kind u.line.line u.part.selectors u.chain u.line.file) (one_number u.part.root v.part.root (and_left a b h2))
    ∙ ap (λ (x : UseKind). use_of v.part.root x u.line.line u.part.selectors u.chain u.line.file) (one_kind u.kind v.kind (and_right a b h2))
    ∙ ap (λ (x : ℕ). use_of v.part.root v.kind x u.part.selectors u.chain u.line.file) (one_number u.line.line v.line.line (and_right (a && b) c h3))
    ∙ ap (λ (x : List PartSelector). use_of v.part.root v.kind v.line.line x u.chain u.line.file) (one_selectors u.part.selectors v.part.selectors (and_right (a && b && c) d h4))
    ∙ ap (λ (x : List ℕ). use_of v.part.root v.kind v.line.line v.part.selectors x u.line.file) (one_name u.chain v.chain (and_right (a && b && c && d) e h5))
    ∙ ap (λ (x : List ℕ). use_of v.part.root v.kind v.line.line v.part.selectors v.chain x) (one_name u.line.file v.line.file (and_right (a && b && c && d && e) f h))

-- ---- and each is the same as itself

own_mark : (a : Mark) → same_mark a a ≡ true
own_mark mark.Sure = refl
own_mark mark.Unsure = refl

own_kind : (a : UseKind) → same_kind a a ≡ true
own_kind kind.Read = refl
own_kind kind.Write = refl
own_kind kind.Input = refl
own_kind kind.Output = refl

own_number : (n : ℕ) → (n == n) ≡ true
own_number n = grind arith

own_integer : (a : ℤ) → int_eq a a ≡ true
own_integer a = grind (arith, ints)

own_name : (m : List ℕ) → bytes_eq m m ≡ true
own_name m = (bytes_eq-Decides m m).1 refl

own_places : (p : Places) → same_places p p ≡ true
own_places places.None = refl
own_places places.All = refl
own_places (places.From a) = own_integer a
own_places (places.Run a n) = and_of (int_eq a a) (n == n) (own_integer a) (own_number n) where
  and_of : (p q : Bool) → p ≡ true → q ≡ true → (p && q) ≡ true
  and_of true q h k = k
  and_of false q h k = cc

own_selector : (x : PartSelector) → same_selector x x ≡ true
own_selector (s.Field m) = own_name m
own_selector (s.Interval i) = let a : same_mark i.mark i.mark ≡ true = own_mark i.mark in let b : same_places i.places i.places ≡ true = own_places i.places in grind (arith, a, b)

own_selectors : (xs : List PartSelector) → same_selectors xs xs ≡ true
own_selectors [] = refl
own_selectors (x ∷ xs) = let a : same_selector x x ≡ true = own_selector x in let b : same_selectors xs xs ≡ true = own_selectors xs in grind (arith, a, b)

own_use : (u : Use) → same_use u u ≡ true
own_use u =
    let a : (u.part.root == u.part.root) ≡ true = own_number u.part.root in
    let b : same_kind u.kind u.kind ≡ true = own_kind u.kind in
    let c : (u.line.line == u.line.line) ≡ true = own_number u.line.line in
    let d : same_selectors u.part.selectors u.part.selectors ≡ true = own_selectors u.part.selectors in
    let e : bytes_eq u.chain u.chain ≡ true = own_name u.chain in
    let f : bytes_eq u.line.file u.line.file ≡ true = own_name u.line.file in
    grind (arith, a, b, c, d, e, f)

pub same_exactly : (u v : Use) → (same_use u v ≡ true) ↔ (u ≡ v)
same_exactly u v = (one_use u v, λ e. subst (λ (x : Use). same_use u x ≡ true) e (own_use u))

pub selectors_exactly : (xs ys : List PartSelector) → (same_selectors xs ys ≡ true) ↔ (xs ≡ ys)
selectors_exactly xs ys = (one_selectors xs ys, λ e. subst (λ (zs : List PartSelector). same_selectors xs zs ≡ true) e (own_selectors xs))

pub other_lengths : (xs ys : List PartSelector) → length xs ≢ length ys → same_selectors xs ys ≡ false
other_lengths [] [] d = absurd (d refl)
other_lengths [] (y ∷ ys) d = refl
other_lengths (x ∷ xs) [] d = refl
other_lengths (x ∷ xs) (y ∷ ys) d = let rest : same_selectors xs ys ≡ false = other_lengths xs ys (λ (e : length xs ≡ length ys). d (ap suc e)) in grind (arith, rest)
