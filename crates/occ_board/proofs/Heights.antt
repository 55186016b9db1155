-- A unit is higher than those that it rests on.
use Rattle.std.proofs.Common.{◌≡◌, ◌<◌, ◌≤◌, ◌+◌, ℕ, zero, suc, true, List, [], ◌∷◌, refl, ap, ◌∙◌, arith}
use Rattle.std.proofs.lemmas.Slice.Eq.{bytes_eq-Decides}
use Rattle.std.specs.Str.{bytes_eq}
use Rattle.occ_board.proofs.Truths.{among_first, either_true, or_right}
use Rattle.occ_project.specs.Entries.{is_among}
use Rattle.occ_project.specs.declared.reads.Read.{Read}
use Rattle.occ_project_units.specs.Along.{IsLocal, along}
use Rattle.occ_project_units.specs.Indices.{rest_units}

abbrev pub total : (List ℕ → ℕ) → List (List ℕ) → ℕ
total h [] = 0
total h (v ∷ vs) = h v + total h vs

total_local : (f h : List ℕ → ℕ) (vs : List (List ℕ)) → ((v : List ℕ) → is_among vs v ≡ true → f v ≡ h v) → total f vs ≡ total h vs
total_local f h [] e = refl
total_local f h (v ∷ vs) e =
    ap (λ (n : ℕ). n + total f vs) (e v (among_first v vs))
    ∙ ap (λ (n : ℕ). h v + n) (total_local f h vs (λ w a. e w (or_right (bytes_eq v w) (is_among vs w) a)))

-- one more than the heights of all that it rests on together
abbrev pub height_step : List Read → List ℕ → (List ℕ → ℕ) → ℕ
height_step files u h = suc (total h (rest_units files u))

pub height_local : (files : List Read) → IsLocal files (height_step files)
height_local files u f h same = ap suc (total_local f h (rest_units files u) same)

among_total : (h : List ℕ → ℕ) (vs : List (List ℕ)) (v : List ℕ) → is_among vs v ≡ true → h v ≤ total h vs
among_total h [] v a = absurd cc
among_total h (w ∷ vs) v a = either_true (bytes_eq w v) (is_among vs v) a
    (λ e. let same : h w ≡ h v = ap h ((bytes_eq-Decides w v).0 e) in let less : h v ≤ h w + total h vs = omega (arith, same) in less)
    (λ k. let rest : h v ≤ total h vs = among_total h vs v k in let less : h v ≤ h w + total h vs = omega (arith, rest) in less)

abbrev pub height : List Read → List ℕ → ℕ
height files = along files (height_step files) 0

pub falls : (files : List Read) → ((u : List ℕ) → height files u ≡ height_step files u (height files)) → (u v : List ℕ) → is_among (rest_units files u) v ≡ true → height files v < height files u
falls files law u v a =
    let up : height files u ≡ suc (total (height files) (rest_units files u)) = law u in
    let less : height files v ≤ total (height files) (rest_units files u) = among_total (height files) (rest_units files u) v a in
    omega (arith, up, less)

-- what holds of a unit if it holds of all that it rests on holds of all units
rests_below : (files : List Read) (h : List ℕ → ℕ) → ((u v : List ℕ) → is_among (rest_units files u) v ≡ true → h v < h u) → (P : List ℕ → Type 0)
    → ((u : List ℕ) → ((v : List ℕ) → is_among (rest_units files u) v ≡ true → P v) → P u) → (n : ℕ) (u : List ℕ) → h u < n → P u
rests_below files h fall P step zero u lt = absurd (omega (arith, lt))
rests_below files h fall P step (suc n) u lt = step u (λ v a. let f : h v < h u = fall u v a in rests_below files h fall P step n v (omega (arith, lt, f)))

pub along_rests : (files : List Read) (h : List ℕ → ℕ) → ((u v : List ℕ) → is_among (rest_units files u) v ≡ true → h v < h u) → (P : List ℕ → Type 0)
    → ((u : List ℕ) → ((v : List ℕ) → is_among (rest_units files u) v ≡ true → P v) → P u) → (u : List ℕ) → P u
along_rests files h fall P step u = rests_below files h fall P step (suc (h u)) u (omega arith)
