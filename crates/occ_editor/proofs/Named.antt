-- What a comparison of the names in texts decides.
use Rattle.std.proofs.Common.{◌≡◌, ◌&&◌, ℕ, Bool, true, false, List, Option, Some, None, Bor, Decides, refl, ap, sym, ◌∙◌}
use Rattle.std.proofs.lemmas.Slice.Eq.{bytes_eq-Decides, slice_eq-Decides}
use Rattle.std.specs.Cmp.Lexicographic.{pointwise}
use Rattle.std.specs.Option.{option_copied, option_eq}
use Rattle.std.specs.Str.{bytes_eq}

option_decides : {A : Type 0} (E : A → A → Bool) → ((a b : A) → Decides (E a b) (a ≡ b)) → (x y : Option A) → Decides (option_eq E x y) (x ≡ y)
option_decides E each None None = (λ _. refl, λ _. refl)
option_decides E each None (Some b) = (λ h. absurd cc, λ h. absurd cc)
option_decides E each (Some a) None = (λ h. absurd cc, λ h. absurd cc)
option_decides E each (Some a) (Some b) = (λ h. ap Some ((each a b).0 h), λ h. (each a b).1 (let same : a ≡ b = cc in same))

pair_decides : (x y : List ℕ × Option (List ℕ)) → Decides (bytes_eq x.0 y.0 && option_eq bytes_eq x.1 y.1) (x ≡ y)
pair_decides x y = (there, back) where
  both : (a b : Bool) → a && b ≡ true → (a ≡ true) × (b ≡ true)
  both true b h = (refl, h)
  both false b h = absurd cc

  there : bytes_eq x.0 y.0 && option_eq bytes_eq x.1 y.1 ≡ true → x ≡ y
  there h =
      let parts = both (bytes_eq x.0 y.0) (option_eq bytes_eq x.1 y.1) h in
      let one : x.0 ≡ y.0 = (bytes_eq-Decides x.0 y.0).0 parts.0 in
      let two : x.1 ≡ y.1 = (option_decides bytes_eq bytes_eq-Decides x.1 y.1).0 parts.1 in
      ap (λ (a : List ℕ). (a, x.1)) one ∙ ap (λ (b : Option (List ℕ)). (y.0, b)) two

  back : x ≡ y → bytes_eq x.0 y.0 && option_eq bytes_eq x.1 y.1 ≡ true
  back e =
      let one : bytes_eq x.0 y.0 ≡ true = (bytes_eq-Decides x.0 y.0).1 (ap (λ (p : List ℕ × Option (List ℕ)). p.0) e) in
      let two : option_eq bytes_eq x.1 y.1 ≡ true = (option_decides bytes_eq bytes_eq-Decides x.1 y.1).1 (ap (λ (p : List ℕ × Option (List ℕ)). p.1) e) in
      ap (λ (b : Bool). b && option_eq bytes_eq x.1 y.1) one ∙ two

pub names_decide : (xs ys : List (List ℕ × Option (List ℕ))) (r : Bool) → r ≡ pointwise (λ x y. bytes_eq x.0 y.0 && option_eq bytes_eq x.1 y.1) xs ys → Decides r (xs ≡ ys)
names_decide xs ys r e = slice_eq-Decides pair_decides xs ys r e

pub lists_decide : (x y : Option (Bor (List (List ℕ)))) (r : Bool) → r ≡ option_eq (λ a b. pointwise bytes_eq a.now b.now) x y → Decides r (option_copied x ≡ option_copied y)
lists_decide x y r e = (λ h. all.0 (sym (e ∙ same x y) ∙ h), λ h. (e ∙ same x y) ∙ all.1 h) where
  same : (a b : Option (Bor (List (List ℕ)))) → option_eq (λ a b. pointwise bytes_eq a.now b.now) a b ≡ option_eq (pointwise bytes_eq) (option_copied a) (option_copied b)
  same None None = refl
  same None (Some b) = refl
  same (Some a) None = refl
  same (Some a) (Some b) = refl

  all : Decides (option_eq (pointwise bytes_eq) (option_copied x) (option_copied y)) (option_copied x ≡ option_copied y)
  all = option_decides (pointwise bytes_eq) (λ a b. slice_eq-Decides bytes_eq-Decides a b (pointwise bytes_eq a b) refl) (option_copied x) (option_copied y)
