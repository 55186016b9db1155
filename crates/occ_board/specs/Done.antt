-- Which units are done: those whose present input is cached, and that rest on units that are done.
use Rattle.std.specs.Prelude.{◌≡◌, ℕ, Bool, true, false, ◌&&◌, not, List, Option, Some, None}
use Rattle.std.specs.List.{filter, find, list_all, list_any}
use Rattle.std.specs.Str.{bytes_eq}
use Rattle.occ_board.specs.Journal.{is_open}
use Rattle.occ_board.specs.Same.{same_input}
use Rattle.occ_check.specs.Input.{Input}
use Rattle.occ_project.specs.Entries.{is_among}
use Rattle.occ_project.specs.declared.reads.Read.{Read}
use Rattle.occ_check.specs.Checks.{input}
use Rattle.occ_check.specs.Report.{open_units}
use Rattle.occ_project_units.specs.Along.{along}
use Rattle.occ_project_units.specs.Indices.{rest_units}

-- the input is among these
abbrev pub is_input_among : List Input → Input → Bool
is_input_among is i = list_any (λ j. same_input j i) is

-- of each unit one input at most is cached: that of its last outcome that was accepted
abbrev pub cached_of : List Input → List ℕ → Option Input
cached_of cached u = find (λ i. bytes_eq i.unit u) cached

abbrev pub is_that : Option Input → Input → Bool
is_that None i = false
is_that (Some j) i = same_input j i

-- the input is the one that is cached of its unit
abbrev pub is_cached : List Input → Input → Bool
is_cached cached i = is_that (cached_of cached i.unit) i

-- from what is known of others
abbrev pub done_step : List Read → List Input → List ℕ → (List ℕ → Bool) → Bool
done_step files cached u f = is_open files u && (is_cached cached (input files u) && list_all f (rest_units files u))

unfoldable pub done : List Read → List Input → List ℕ → Bool
done files cached = along files (done_step files cached) false

-- the open units that are not done, in order of name
abbrev pub pending_units : List Read → List Input → List (List ℕ)
pending_units files cached = filter (λ u. not (done files cached u)) (open_units files)

-- those that rest on units that are done
abbrev pub ready_units : List Read → List Input → List (List ℕ)
ready_units files cached = filter (λ u. list_all (done files cached) (rest_units files u)) (pending_units files cached)

-- no unit that is pending is handed out with its present input
abbrev pub NoneIsHanded : List Read → List Input → List Input → Type 0
NoneIsHanded files cached handed = (u : List ℕ) → is_among (pending_units files cached) u ≡ true → is_input_among handed (input files u) ≡ false
