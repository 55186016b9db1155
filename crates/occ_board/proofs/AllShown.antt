-- What is shown where nothing is pending.
use Rattle.std.proofs.Common.{◌≡◌, Bool, true, false, not, ℕ, List, [], ◌∷◌, length, map, cond, refl, ap, if◌then◌else◌}
use Rattle.std.specs.List.{filter}
use Rattle.occ_base.specs.declared.diag.Diag.{Diag}
use Rattle.occ_board.specs.declared.report.Row.{Row}
use Rattle.occ_board.specs.declared.report.Shown.TheVariants as shown

abbrev row_by : Bool → List ℕ → List Diag → Row
row_by b u ds = record { unit = u; shown = if b then shown.Done ds else shown.Pending }

abbrev found : (List ℕ → List Diag) → List ℕ → List ℕ × List Diag
found f u = (u, f u)

abbrev done_row : List ℕ × List Diag → Row
done_row row = record { unit = row.0; shown = shown.Done row.1 }

shown_by : (b : Bool) (u : List ℕ) (ds : List Diag) (left : List (List ℕ)) (rows others : List Row) → length (cond (not b) (u ∷ left) left) ≡ 0 → (length left ≡ 0 → rows ≡ others) → (row_by b u ds ∷ rows) ≡ (done_row (u, ds) ∷ others)
shown_by true u ds left rows others h rest = ap (λ (rs : List Row). done_row (u, ds) ∷ rs) (rest h)
shown_by false u ds left rows others h rest = absurd cc

pub all_shown : (t : List ℕ → Bool) (f : List ℕ → List Diag) (us : List (List ℕ)) → length (filter (λ u. not (t u)) us) ≡ 0 → map (λ u. row_by (t u) u (f u)) us ≡ map done_row (map (found f) us)
all_shown t f [] h = refl
all_shown t f (u ∷ us) h = shown_by (t u) u (f u) (filter (λ v. not (t v)) us) (map (λ v. row_by (t v) v (f v)) us) (map done_row (map (found f) us)) h (all_shown t f us)
