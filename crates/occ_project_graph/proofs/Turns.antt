-- Recursion along the edges that stand in no circle.
use Rattle.std.proofs.Common.{◌≡◌, ◌<◌, ℕ, zero, suc, length, sym, ◌∙◌, arith}
use Rattle.occ_project_graph.specs.Graph.{Graph}
use Rattle.occ_project_graph.specs.Along.{IsLocal, along, turns}
use Rattle.occ_project_graph.proofs.Heights.{falls, height, height_most}

-- more turns than a node's height give what one turn more gives
settled : {A : Type 0} (g : Graph) (step : ℕ → (ℕ → A) → A) (base : A) → IsLocal g step → (n u : ℕ) → height g u < n → turns step base n u ≡ turns step base (suc n) u
settled g step base here zero u h = absurd (omega arith)
settled g step base here (suc n) u h = here u (turns step base n) (turns step base (suc n)) (λ v r. settled g step base here n v (let f = falls g u v r in omega arith))

pub along_is : {A : Type 0} (g : Graph) (step : ℕ → (ℕ → A) → A) (base : A) → IsLocal g step → (u : ℕ) → along g step base u ≡ step u (along g step base)
unfolding along
along_is g step base here u = here u (turns step base (length g)) (turns step base (suc (length g))) (λ v r. settled g step base here (length g) v (let f = falls g u v r in let m = height_most g u in omega arith))

only_below : {A : Type 0} (g : Graph) (step : ℕ → (ℕ → A) → A) (base : A) → IsLocal g step → (f : ℕ → A) → ((u : ℕ) → f u ≡ step u f) → (n u : ℕ) → height g u < n → f u ≡ along g step base u
only_below g step base here f is zero u h = absurd (omega arith)
only_below g step base here f is (suc n) u h = is u ∙ here u f (along g step base) (λ v r. only_below g step base here f is n v (let k = falls g u v r in omega arith)) ∙ sym (along_is g step base here u)

pub along_only : {A : Type 0} (g : Graph) (step : ℕ → (ℕ → A) → A) (base : A) → IsLocal g step → (f : ℕ → A) → ((u : ℕ) → f u ≡ step u f) → (u : ℕ) → f u ≡ along g step base u
along_only g step base here f is u = only_below g step base here f is (suc (height g u)) u (omega arith)
