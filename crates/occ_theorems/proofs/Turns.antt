-- Recursion along the edges that stand in no circle.
use Rattle.std.proofs.Common.{◌≡◌, ◌<◌, ℕ, zero, suc, List, [], ◌∷◌, refl, sym, ap, ◌∙◌, arith}
use Rattle.std.specs.Prelude.{Bool, true, false, ◌&&◌, ◌==◌}
use Rattle.std.specs.List.{list_all, list_any}
use Rattle.std.proofs.lemmas.Bool.{eq-eqb}
use Rattle.occ_project_graph.specs.Graph.{Graph, rests}
use Rattle.occ_project_graph.specs.Along.{IsLocal, done, done_step}
use Rattle.occ_project_graph.proofs.Heights.{falls, height}
use Rattle.occ_project_graph.proofs.Ways.{both, both_of, first_holds, same_truth, second_holds}
use Rattle.occ_project_graph.proofs.Turns.{along_is}

-- the test of all of a list asks only for what is in it
all_alike : (f h : ℕ → Bool) (xs : List ℕ) → ((v : ℕ) → list_any (λ w. w == v) xs ≡ true → f v ≡ h v) → list_all f xs ≡ list_all h xs
all_alike f h [] is = refl
all_alike f h (x ∷ xs) is = ap (λ (b : Bool). b && list_all f xs) (is x (first_holds (x == x) (list_any (λ w. w == x) xs) (eq-eqb x x refl)))
    ∙ ap (λ (b : Bool). h x && b) (all_alike f h xs (λ v k. is v (second_holds (x == v) (list_any (λ w. w == v) xs) k)))

pub done_local : (g : Graph) (good : ℕ → Bool) → IsLocal g (done_step g good)
done_local g good u f h is = ap (λ (b : Bool). good u && b) (all_alike f h (rests g u) is)

pub done_is : (g : Graph) (good : ℕ → Bool) (u : ℕ) → done g good u ≡ done_step g good u (done g good)
done_is g good u = along_is g (done_step g good) false (done_local g good) u

-- what passes one test passes another, item by item
all_more : (f h : ℕ → Bool) (xs : List ℕ) → ((v : ℕ) → list_any (λ w. w == v) xs ≡ true → f v ≡ true → h v ≡ true) → list_all f xs ≡ true → list_all h xs ≡ true
all_more f h [] is all = refl
all_more f h (x ∷ xs) is all =
    let b = both_of (f x) (list_all f xs) all in
    both (h x) (list_all h xs) (is x (first_holds (x == x) (list_any (λ w. w == x) xs) (eq-eqb x x refl)) b.0)
    (all_more f h xs (λ v k. is v (second_holds (x == v) (list_any (λ w. w == v) xs) k)) b.1)

-- a flag is there for each node that is done, if none is missing whose step is fulfilled
none_missing : (g : Graph) (good f : ℕ → Bool) → ((u : ℕ) → done_step g good u f ≡ true → f u ≡ true) → (n u : ℕ) → height g u < n → done g good u ≡ true → f u ≡ true
none_missing g good f full zero u l d = absurd (omega arith)
none_missing g good f full (suc n) u l d =
    let b = both_of (good u) (list_all (done g good) (rests g u)) (sym (done_is g good u) ∙ d) in
    full u (both (good u) (list_all f (rests g u)) b.0 (all_more (done g good) f (rests g u) (λ v r e. none_missing g good f full n v (let k = falls g u v r in omega arith) e) b.1))

pub done_only : (g : Graph) (good f : ℕ → Bool) → ((u : ℕ) → f u ≡ true → done g good u ≡ true) → ((u : ℕ) → done_step g good u f ≡ true → f u ≡ true) → (u : ℕ) → f u ≡ done g good u
done_only g good f sound full u = same_truth (f u) (done g good u) (sound u) (none_missing g good f full (suc (height g u)) u (omega arith))

more_below : (g : Graph) (good better : ℕ → Bool) → ((u : ℕ) → good u ≡ true → better u ≡ true) → (n u : ℕ) → height g u < n → done g good u ≡ true → done g better u ≡ true
more_below g good better is zero u l d = absurd (omega arith)
more_below g good better is (suc n) u l d =
    let b = both_of (good u) (list_all (done g good) (rests g u)) (sym (done_is g good u) ∙ d) in
    done_is g better u ∙ both (better u) (list_all (done g better) (rests g u)) (is u b.0) (all_more (done g good) (done g better) (rests g u) (λ v r e. more_below g good better is n v (let k = falls g u v r in omega arith) e) b.1)

pub done_more : (g : Graph) (good better : ℕ → Bool) → ((u : ℕ) → good u ≡ true → better u ≡ true) → (u : ℕ) → done g good u ≡ true → done g better u ≡ true
done_more g good better is u d = more_below g good better is (suc (height g u)) u (omega arith) d
