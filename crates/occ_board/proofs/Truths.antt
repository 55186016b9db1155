-- Tests that hold together, and tests of all names of a list.
use Rattle.std.proofs.Common.{◌≡◌, ◌∙◌, ◌&&◌, ◌||◌, Bool, true, false, cond, ℕ, zero, suc, List, [], ◌∷◌, Some, refl, sym, ap}
use Rattle.std.proofs.lemmas.Slice.Eq.{bytes_eq-Decides}
use Rattle.std.specs.List.{filter, list_all, slice_get}
use Rattle.std.specs.Str.{bytes_eq}
use Rattle.occ_project.specs.Entries.{is_among}
use Rattle.occ_project_units.proofs.Looks.{same_bytes}

pub left_true : (a b : Bool) → (a && b) ≡ true → a ≡ true
left_true true b h = refl
left_true false b h = absurd cc

pub right_true : (a b : Bool) → (a && b) ≡ true → b ≡ true
right_true true b h = h
right_true false b h = absurd cc

pub both_true : (a b : Bool) → a ≡ true → b ≡ true → (a && b) ≡ true
both_true a b h k = ap (λ (x : Bool). x && b) h ∙ k

pub or_right : (a b : Bool) → b ≡ true → (a || b) ≡ true
or_right true b h = refl
or_right false b h = h

pub or_left : (a b : Bool) → a ≡ true → (a || b) ≡ true
or_left a b h = ap (λ (x : Bool). x || b) h

-- tests that imply each other are one
pub same_truth : (a b : Bool) → (a ≡ true → b ≡ true) → (b ≡ true → a ≡ true) → a ≡ b
same_truth true true f g = refl
same_truth true false f g = let k = f refl in absurd cc
same_truth false true f g = let k = g refl in absurd cc
same_truth false false f g = refl

pub not_both : (a : Bool) → a ≡ true → a ≡ false → ⊥
not_both true h k = absurd cc
not_both false h k = absurd cc

-- either holds
pub either_true : {P : Type 0} (a b : Bool) → (a || b) ≡ true → (a ≡ true → P) → (b ≡ true → P) → P
either_true true b h f g = f refl
either_true false b h f g = g h

pub among_first : (v : List ℕ) (vs : List (List ℕ)) → is_among (v ∷ vs) v ≡ true
among_first v vs = or_left (bytes_eq v v) (is_among vs v) (same_bytes v)

-- what holds of all names, and makes another test hold
pub all_by : (f g : List ℕ → Bool) (vs : List (List ℕ)) → ((v : List ℕ) → is_among vs v ≡ true → f v ≡ true → g v ≡ true) → list_all f vs ≡ true → list_all g vs ≡ true
all_by f g [] h e = refl
all_by f g (v ∷ vs) h e =
    both_true (g v) (list_all g vs) (h v (among_first v vs) (left_true (f v) (list_all f vs) e))
    (all_by f g vs (λ w a k. h w (or_right (bytes_eq v w) (is_among vs w) a) k) (right_true (f v) (list_all f vs) e))

all_after : {X : Type 0} (f : X → Bool) (b : Bool) (y : X) (ys : List X) → list_all f (cond b (y ∷ ys) ys) ≡ true → list_all f ys ≡ true
all_after f true y ys h = right_true (f y) (list_all f ys) h
all_after f false y ys h = h

pub all_at : {X : Type 0} (f g : X → Bool) (xs : List X) (i : ℕ) (x : X) → list_all f (filter g xs) ≡ true → slice_get xs i ≡ Some x → g x ≡ true → f x ≡ true
all_at f g [] i x h e k = absurd cc
all_at f g (y ∷ xs) zero x h e k =
    let same : y ≡ x = cc in
    let passes : g y ≡ true = ap g same ∙ k in
    ap f (sym same) ∙ left_true (f y) (list_all f (filter g xs)) (ap (λ (b : Bool). list_all f (cond b (y ∷ filter g xs) (filter g xs))) (sym passes) ∙ h)
all_at f g (y ∷ xs) (suc i) x h e k = all_at f g xs i x (all_after f (g y) y (filter g xs) h) e k

-- and of each of them
pub all_among : (f : List ℕ → Bool) (vs : List (List ℕ)) (v : List ℕ) → list_all f vs ≡ true → is_among vs v ≡ true → f v ≡ true
all_among f [] v h a = absurd cc
all_among f (w ∷ vs) v h a = either_true (bytes_eq w v) (is_among vs v) a
    (λ e. ap f (sym ((bytes_eq-Decides w v).0 e)) ∙ left_true (f w) (list_all f vs) h)
    (λ k. all_among f vs v (right_true (f w) (list_all f vs) h) k)

-- a test that says that two names are not one
pub differ : (a b : List ℕ) → bytes_eq a b ≡ false → a ≡ b → ⊥
differ a b e same = not_both (bytes_eq a b) (ap (bytes_eq a) (sym same) ∙ same_bytes a) e
