-- Which of two parts is first does not matter.
use Rattle.std.proofs.Common.{◌≡◌, ℕ, Bool, ap, ◌∙◌, refl, arith, List, [], ◌∷◌}
use Rattle.std.specs.Prelude.{◌==◌, if◌then◌else◌}
use Rattle.occ_types.specs.declared.interface.PartSelector.{PartSelector}
use Rattle.occ_usage_parts.specs.Parts.{Meet, all_sure, are_apart, overlap_of, overlap_of_selectors}
use Rattle.occ_usage_parts.specs.declared.part.Overlap.{Overlap}
use Rattle.occ_usage_parts.specs.declared.part.Overlap.TheVariants as o
use Rattle.occ_usage_parts.specs.declared.part.Part.{Part}
use Rattle.occ_usage_parts.proofs.Elements.{apart_met, met_apart, same_test}

turned : (xs ys : List PartSelector) → Meet xs ys → Meet ys xs
turned xs ys (ts, h, k) = (ts, k, h)

pub apart_turned : (xs ys : List PartSelector) → are_apart xs ys ≡ are_apart ys xs
apart_turned xs ys =
    same_test (are_apart xs ys) (are_apart ys xs)
    (λ h. met_apart ys xs (turned xs ys (apart_met xs ys h)))
    (λ h. met_apart xs ys (turned ys xs (apart_met ys xs h)))

pub sure_turned : (xs ys : List PartSelector) → all_sure xs ys ≡ all_sure ys xs
sure_turned [] [] = refl
sure_turned [] (y ∷ ys) = refl
sure_turned (x ∷ xs) [] = refl
sure_turned (x ∷ xs) (y ∷ ys) = let rest : all_sure xs ys ≡ all_sure ys xs = sure_turned xs ys in grind (arith, rest)

roots_turned : (m n : ℕ) → (m == n) ≡ (n == m)
roots_turned m n = grind arith

selectors_turned : (xs ys : List PartSelector) → overlap_of_selectors xs ys ≡ overlap_of_selectors ys xs
selectors_turned xs ys =
    ap (λ (b : Bool). if b then o.Apart else if all_sure xs ys then o.Must else o.May) (apart_turned xs ys)
    ∙ ap (λ (b : Bool). if are_apart ys xs then o.Apart else if b then o.Must else o.May) (sure_turned xs ys)

pub overlap_turned : (a b : Part) → overlap_of a b ≡ overlap_of b a
overlap_turned a b =
    ap (λ (c : Bool). if c then overlap_of_selectors a.selectors b.selectors else o.Apart) (roots_turned a.root b.root)
    ∙ ap (λ (r : Overlap). if b.root == a.root then r else o.Apart) (selectors_turned a.selectors b.selectors)
