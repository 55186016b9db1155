-- A circle is reported of where it is: at the `#USE` lines of each unit in it.
use Rattle.std.proofs.Common.{◌≡◌, ◌↔◌, ◌∙◌, ◌⊎◌, ◌||◌, ◌++◌, ◌+◌, ℕ, zero, suc, nat_eq, Bool, true, false, cond, List, [], ◌∷◌, map, take, drop, Option, Some, None, Result, Ok, Err, refl, sym, ap, subst, inl, inr}
use Rattle.std.proofs.lemmas.Slice.Eq.{bytes_eq-Decides}
use Rattle.std.specs.BTreeSet.{insert_key}
use Rattle.std.specs.List.{AllByRecursion, flat_map}
use Rattle.std.specs.Option.{is_some, ok_or, option_map}
use Rattle.std.specs.Ordering.{match_ordering}
use Rattle.std.specs.Result.{result_err}
use Rattle.std.specs.Str.{bytes_eq}
use Rattle.std.specs.declared.cmp.Ordering.{Ordering}
use Rattle.std.specs.declared.cmp.Ordering.TheVariants.{Less, Equal, Greater}
use Rattle.occ_base.specs.FileName.{is_unit}
use Rattle.occ_base.specs.Order.{diag_order, placed}
use Rattle.occ_base.specs.declared.code.Code.{Code}
use Rattle.occ_base.specs.declared.code.Code.TheVariants as code
use Rattle.occ_base.specs.declared.diag.Diag.{Diag}
use Rattle.occ_check.specs.Diagnostics.{diags_of, judged, unit_faults}
use Rattle.occ_check.specs.Faults.{body_faults, line_faults, own_faults, standing as stands, reported_use, use_code, use_faults}
use Rattle.occ_check.specs.Input.{Input, expansion_in}
use Rattle.occ_check.specs.Language.{following, lines_judged}
use Rattle.occ_check.specs.declared.language.Judgement.{Judgement}
use Rattle.occ_check.specs.declared.used.Used.{Used}
use Rattle.occ_check.specs.declared.used.Used.TheVariants as how
use Rattle.occ_check.specs.declared.used.UsedUnit.{UsedUnit}
use Rattle.occ_forms.specs.Prepared.{Prepared}
use Rattle.occ_forms.specs.declared.source.LineBody.{LineBody}
use Rattle.occ_forms.specs.declared.source.LineBody.TheVariants as source
use Rattle.occ_forms.specs.declared.source.SourceLine.{SourceLine}
use Rattle.occ_lines.specs.Listing.{listed}
use Rattle.occ_project.specs.Entries.{FileEntries, entries, file_entries, held as held_in, included, inner_entries, is_among, library_line, line_entries, listing, put_in}
use Rattle.occ_project.specs.Expansion.{Expansion, entry_faults, entry_lines, expansion, held_faults, limit_faults, unit_entries}
use Rattle.occ_project.specs.Reads.{name_cmp, open_lines, open_text}
use Rattle.occ_project.specs.Uses.{body_units, units_of, names_in_order, used_in}
use Rattle.occ_project.specs.declared.entry.ExpansionEntry.{ExpansionEntry}
use Rattle.occ_project.specs.declared.entry.Held.{Held}
use Rattle.occ_project.specs.declared.entry.Held.TheVariants.{Line, Library, Include}
use Rattle.occ_project.specs.declared.expanded.ExpandedBody.{ExpandedBody}
use Rattle.occ_project.specs.declared.expanded.ExpandedBody.TheVariants as body
use Rattle.occ_project.specs.declared.expanded.ExpandedLine.{ExpandedLine}
use Rattle.occ_project.specs.declared.reads.Read.{Read}
use Rattle.occ_check.specs.Checks.{checked, diags, input, used_as, used_unit}
use Rattle.occ_check.specs.Report.{AreReporting}
use Rattle.occ_check.specs.declared.checked.Checked.{Checked}
use Rattle.occ_types.specs.declared.interface.Interface.{Interface}
use Rattle.occ_project_units.proofs.Narrowed.{file_source}
use Rattle.occ_project_units.proofs.Spelled.{all_front, all_taken}
use Rattle.occ_project_units.specs.Indices.{is_circular, standing_of}
use Rattle.occ_project_units.specs.Project.{file_of}
use Rattle.occ_usage.proofs.Exact.{same_diags}
use Rattle.occ_project_units.specs.Units.{IsCircular, Reaches, Uses, UsesBy, unit_reads, used_units}
use Rattle.occ_project_units.specs.declared.standing.Standing.{Standing}
use Rattle.occ_project_units.specs.declared.standing.Standing.TheVariants as standing

abbrev Is : Code → List ℕ → Diag → Type 0
Is c name d = (d.code ≡ c) × (d.name ≡ Some name)

-- diagnostics that the order does not distinguish report the same
exact : (name : List ℕ) (d e : Diag) → diag_order d e ≡ Equal → Is code.G2 name d → Is code.G2 name e
exact name d e h is = subst (Is code.G2 name) (same_diags d e h) is

-- ---- lists of diagnostics

reports_front : (c : Code) (name : List ℕ) (ds es : List Diag) → AreReporting ds c name → AreReporting (ds ++ es) c name
reports_front c name [] es h = absurd h
reports_front c name (d ∷ ds) es (inl h) = inl h
reports_front c name (d ∷ ds) es (inr h) = inr (reports_front c name ds es h)

reports_back : (c : Code) (name : List ℕ) (ds es : List Diag) → AreReporting es c name → AreReporting (ds ++ es) c name
reports_back c name [] es h = h
reports_back c name (d ∷ ds) es h = inr (reports_back c name ds es h)

reports_split : (c : Code) (name : List ℕ) (ds es : List Diag) → AreReporting (ds ++ es) c name → AreReporting ds c name ⊎ AreReporting es c name
reports_split c name [] es h = inr h
reports_split c name (d ∷ ds) es (inl h) = inl (inl h)
reports_split c name (d ∷ ds) es (inr h) = elim (reports_split c name ds es h) [
  | inl k ↦ inl (inr k)
  | inr k ↦ inr k
]

none_reports : (c : Code) (name : List ℕ) (ds : List Diag) → AllByRecursion (λ d. Is c name d → ⊥) ds → AreReporting ds c name → ⊥
none_reports c name [] h k = k
none_reports c name (d ∷ ds) h (inl k) = h.0 k
none_reports c name (d ∷ ds) h (inr k) = none_reports c name ds h.1 k

-- in order
module _ (c : Code) (name : List ℕ) (exact : (d e : Diag) → diag_order d e ≡ Equal → Is c name d → Is c name e) where
  put_by : (k x : Diag) (xs : List Diag) (o : Ordering) → diag_order k x ≡ o → Is c name k → (Is c name k → AreReporting (insert_key diag_order xs k) c name) → AreReporting (match_ordering o (k ∷ x ∷ xs) (x ∷ xs) (x ∷ insert_key diag_order xs k)) c name
  put_by k x xs Less e h f = inl h
  put_by k x xs Equal e h f = inl (exact k x e h)
  put_by k x xs Greater e h f = inr (f h)

  put_reports : (xs : List Diag) (k : Diag) → Is c name k → AreReporting (insert_key diag_order xs k) c name
  put_reports [] k h = inl h
  put_reports (x ∷ xs) k h = put_by k x xs (diag_order k x) refl h (put_reports xs k)

  stay_by : (k x : Diag) (xs : List Diag) (o : Ordering) → AreReporting (x ∷ xs) c name → (AreReporting xs c name → AreReporting (insert_key diag_order xs k) c name) → AreReporting (match_ordering o (k ∷ x ∷ xs) (x ∷ xs) (x ∷ insert_key diag_order xs k)) c name
  stay_by k x xs Less h f = inr h
  stay_by k x xs Equal h f = h
  stay_by k x xs Greater (inl h) f = inl h
  stay_by k x xs Greater (inr h) f = inr (f h)

  stay_reports : (xs : List Diag) (k : Diag) → AreReporting xs c name → AreReporting (insert_key diag_order xs k) c name
  stay_reports [] k h = absurd h
  stay_reports (x ∷ xs) k h = stay_by k x xs (diag_order k x) h (stay_reports xs k)

  order_reports : (ds : List Diag) → AreReporting ds c name → AreReporting (placed diag_order ds []) c name
  order_reports [] h = absurd h
  order_reports (d ∷ ds) (inl h) = put_reports (placed diag_order ds []) d h
  order_reports (d ∷ ds) (inr h) = stay_reports (placed diag_order ds []) d (order_reports ds h)

module _ (c : Code) (name : List ℕ) where
  back_by : (k x : Diag) (xs : List Diag) (o : Ordering) → AreReporting (match_ordering o (k ∷ x ∷ xs) (x ∷ xs) (x ∷ insert_key diag_order xs k)) c name → (AreReporting (insert_key diag_order xs k) c name → AreReporting (k ∷ xs) c name) → AreReporting (k ∷ x ∷ xs) c name
  back_by k x xs Less h f = h
  back_by k x xs Equal h f = inr h
  back_by k x xs Greater (inl h) f = inr (inl h)
  back_by k x xs Greater (inr h) f = elim (f h) [
    | inl i ↦ inl i
    | inr i ↦ inr (inr i)
  ]

  back_reports : (xs : List Diag) (k : Diag) → AreReporting (insert_key diag_order xs k) c name → AreReporting (k ∷ xs) c name
  back_reports [] k h = h
  back_reports (x ∷ xs) k h = back_by k x xs (diag_order k x) h (back_reports xs k)

  unordered : (ds : List Diag) → AreReporting (placed diag_order ds []) c name → AreReporting ds c name
  unordered [] h = h
  unordered (d ∷ ds) h = elim (back_reports (placed diag_order ds []) d h) [
    | inl i ↦ inl i
    | inr i ↦ inr (unordered ds i)
  ]

-- ---- names

among_first : (v : List ℕ) → bytes_eq v v ≡ true
among_first v = (bytes_eq-Decides v v).1 refl

either_true : {Z : Type 0} (a b : Bool) → (a || b) ≡ true → (a ≡ true → Z) → (b ≡ true → Z) → Z
either_true true b h f g = f refl
either_true false b h f g = g h

or_more : (a b : Bool) → b ≡ true → (a || b) ≡ true
or_more true b e = refl
or_more false b e = e

among_split : {Z : Type 0} (xs ys : List (List ℕ)) (v : List ℕ) → is_among (xs ++ ys) v ≡ true → (is_among xs v ≡ true → Z) → (is_among ys v ≡ true → Z) → Z
among_split [] ys v h f g = g h
among_split (x ∷ xs) ys v h f g = either_true (bytes_eq x v) (is_among (xs ++ ys) v) h
    (λ e. f (ap (λ (b : Bool). b || is_among xs v) e))
    (λ k. among_split xs ys v k (λ a. f (or_more (bytes_eq x v) (is_among xs v) a)) g)

among_front : (xs ys : List (List ℕ)) (v : List ℕ) → is_among xs v ≡ true → is_among (xs ++ ys) v ≡ true
among_front [] ys v h = absurd cc
among_front (x ∷ xs) ys v h = either_true (bytes_eq x v) (is_among xs v) h (λ e. ap (λ (b : Bool). b || is_among (xs ++ ys) v) e) (λ k. or_more (bytes_eq x v) (is_among (xs ++ ys) v) (among_front xs ys v k))

among_back : (xs ys : List (List ℕ)) (v : List ℕ) → is_among ys v ≡ true → is_among (xs ++ ys) v ≡ true
among_back [] ys v h = h
among_back (x ∷ xs) ys v h = or_more (bytes_eq x v) (is_among (xs ++ ys) v) (among_back xs ys v h)

-- names in order are the names
placed_by : (k x v : List ℕ) (xs : List (List ℕ)) (o : Ordering) → is_among (match_ordering o (k ∷ x ∷ xs) (x ∷ xs) (x ∷ insert_key name_cmp xs k)) v ≡ true → (is_among (insert_key name_cmp xs k) v ≡ true → is_among (k ∷ xs) v ≡ true)
    → is_among (k ∷ x ∷ xs) v ≡ true
placed_by k x v xs Less h f = h
placed_by k x v xs Equal h f = or_more (bytes_eq k v) (is_among (x ∷ xs) v) h
placed_by k x v xs Greater h f = either_true (bytes_eq x v) (is_among (insert_key name_cmp xs k) v) h
    (λ e. or_more (bytes_eq k v) (is_among (x ∷ xs) v) (ap (λ (b : Bool). b || is_among xs v) e))
    (λ a. either_true (bytes_eq k v) (is_among xs v) (f a) (λ e. ap (λ (b : Bool). b || is_among (x ∷ xs) v) e) (λ b. or_more (bytes_eq k v) (is_among (x ∷ xs) v) (or_more (bytes_eq x v) (is_among xs v) b)))

among_placed : (xs : List (List ℕ)) (k v : List ℕ) → is_among (insert_key name_cmp xs k) v ≡ true → is_among (k ∷ xs) v ≡ true
among_placed [] k v h = h
among_placed (x ∷ xs) k v h = placed_by k x v xs (name_cmp k x) h (among_placed xs k v)

unordered_names : (names : List (List ℕ)) (v : List ℕ) → is_among (names_in_order names) v ≡ true → is_among names v ≡ true
unordered_names [] v h = h
unordered_names (n ∷ names) v h = either_true (bytes_eq n v) (is_among (names_in_order names) v) (among_placed (names_in_order names) n v h)
    (λ e. ap (λ (b : Bool). b || is_among names v) e)
    (λ a. or_more (bytes_eq n v) (is_among names v) (unordered_names names v a))

-- ---- how units stand

standing_now : (files : List Read) (u : List ℕ) (f : List ℕ → Checked) (vs : List (List ℕ)) (v : List ℕ) → is_among vs v ≡ true → stands (map (used_unit files u f) vs) v ≡ used_as (standing_of files u v) (f v).interface
standing_now files u f [] v h = absurd cc
standing_now files u f (w ∷ vs) v h = by (bytes_eq w v) refl h (standing_now files u f vs v) where
  by : (b : Bool) → bytes_eq w v ≡ b → (b || is_among vs v) ≡ true → (is_among vs v ≡ true → stands (map (used_unit files u f) vs) v ≡ used_as (standing_of files u v) (f v).interface)
      → cond b (used_as (standing_of files u w) (f w).interface) (stands (map (used_unit files u f) vs) v) ≡ used_as (standing_of files u v) (f v).interface
  by true e k rest = ap (λ (x : List ℕ). used_as (standing_of files u x) (f x).interface) ((bytes_eq-Decides w v).0 e)
  by false e k rest = rest k

-- of units that are not used nothing is known
stands_among : (used : List UsedUnit) (v : List ℕ) → stands used v ≡ how.Circular → is_among (map (λ one. one.unit) used) v ≡ true
stands_among [] v h = absurd cc
stands_among (one ∷ used) v h = by (bytes_eq one.unit v) refl h (stands_among used v) where
  by : (b : Bool) → bytes_eq one.unit v ≡ b → cond b one.used (stands used v) ≡ how.Circular → (stands used v ≡ how.Circular → is_among (map (λ one. one.unit) used) v ≡ true) → (b || is_among (map (λ one. one.unit) used) v) ≡ true
  by true e k rest = refl
  by false e k rest = rest k

units_are : (files : List Read) (u : List ℕ) (f : List ℕ → Checked) (vs : List (List ℕ)) → map (λ one. one.unit) (map (used_unit files u f) vs) ≡ vs
units_are files u f [] = refl
units_are files u f (v ∷ vs) = ap (λ (ns : List (List ℕ)). v ∷ ns) (units_are files u f vs)

as_circle : (s : Standing) (i : Option Interface) → used_as s i ≡ how.Circular → s ≡ standing.Circular
as_circle standing.Absent i h = absurd cc
as_circle standing.Circular i h = refl
as_circle standing.Below None h = absurd cc
as_circle standing.Below (Some x) h = absurd cc

circle_by : (b c : Bool) → cond b (cond c standing.Circular standing.Below) standing.Absent ≡ standing.Circular → c ≡ true
circle_by true true h = refl
circle_by true false h = absurd cc
circle_by false c h = absurd cc

by_circle : (b c : Bool) → b ≡ true → c ≡ true → cond b (cond c standing.Circular standing.Below) standing.Absent ≡ standing.Circular
by_circle true true h k = refl
by_circle true false h k = absurd cc
by_circle false c h k = absurd cc

-- ---- what is reported at lines

module _ (used : List UsedUnit) (v : List ℕ) where
  use_reports : (l : ExpandedLine) (n : List ℕ) (s : Used) → n ≡ v → s ≡ how.Circular → AreReporting (reported_use l n (use_code s)) code.G2 v
  use_reports l n how.Circular e h = inl (refl, ap Some e)
  use_reports l n how.Absent e h = absurd cc
  use_reports l n how.Faulty e h = absurd cc
  use_reports l n (how.Clean i) e h = absurd cc

  use_reported : (l : ExpandedLine) (n : List ℕ) (s : Used) → AreReporting (reported_use l n (use_code s)) code.G2 v → (n ≡ v) × (s ≡ how.Circular)
  use_reported l n how.Circular (inl h) = let same : n ≡ v = (let k = h.1 in cc) in (same, refl)
  use_reported l n how.Circular (inr h) = absurd h
  use_reported l n how.Absent (inl h) = let k = h.0 in absurd cc
  use_reported l n how.Absent (inr h) = absurd h
  use_reported l n how.Faulty (inl h) = let k = h.0 in absurd cc
  use_reported l n how.Faulty (inr h) = absurd h
  use_reported l n (how.Clean i) h = absurd h

  units_report : (l : ExpandedLine) (units : List (List ℕ)) → stands used v ≡ how.Circular → is_among units v ≡ true → AreReporting (flat_map (use_faults used l) units) code.G2 v
  units_report l [] h a = absurd cc
  units_report l (n ∷ units) h a = either_true (bytes_eq n v) (is_among units v) a
      (λ e. let same : n ≡ v = (bytes_eq-Decides n v).0 e in reports_front code.G2 v (use_faults used l n) (flat_map (use_faults used l) units) (use_reports l n (stands used n) same (ap (stands used) same ∙ h)))
      (λ k. reports_back code.G2 v (use_faults used l n) (flat_map (use_faults used l) units) (units_report l units h k))

  units_reported : (l : ExpandedLine) (units : List (List ℕ)) → AreReporting (flat_map (use_faults used l) units) code.G2 v → stands used v ≡ how.Circular
  units_reported l [] h = absurd h
  units_reported l (n ∷ units) h = elim (reports_split code.G2 v (use_faults used l n) (flat_map (use_faults used l) units) h) [
    | inl k ↦ let is = use_reported l n (stands used n) k in ap (stands used) (sym is.0) ∙ is.1
    | inr k ↦ units_reported l units k
  ]

  body_reports : (l : ExpandedLine) (x : ExpandedBody) → stands used v ≡ how.Circular → is_among (body_units x) v ≡ true → AreReporting (body_faults used l x) code.G2 v
  body_reports l (body.Uses units) h a = units_report l units h a
  body_reports l (body.Form form) h a = absurd cc
  body_reports l (body.Fault fault) h a = absurd cc

  body_reported : (l : ExpandedLine) (x : ExpandedBody) → AreReporting (body_faults used l x) code.G2 v → stands used v ≡ how.Circular
  body_reported l (body.Uses units) h = units_reported l units h
  body_reported l (body.Form form) h = absurd h
  body_reported l (body.Fault fault) (inl h) = let k = h.1 in absurd cc
  body_reported l (body.Fault fault) (inr h) = absurd h

  lines_report : (ls : List ExpandedLine) → stands used v ≡ how.Circular → is_among (flat_map units_of ls) v ≡ true → AreReporting (line_faults used ls) code.G2 v
  lines_report [] h a = absurd cc
  lines_report (l ∷ ls) h a = among_split (units_of l) (flat_map units_of ls) v a
      (λ k. reports_front code.G2 v (own_faults used l) (line_faults used ls) (body_reports l l.body h k))
      (λ k. reports_back code.G2 v (own_faults used l) (line_faults used ls) (lines_report ls h k))

  lines_reported : (ls : List ExpandedLine) → AreReporting (line_faults used ls) code.G2 v → stands used v ≡ how.Circular
  lines_reported [] h = absurd h
  lines_reported (l ∷ ls) h = elim (reports_split code.G2 v (own_faults used l) (line_faults used ls) h) [
    | inl k ↦ body_reported l l.body k
    | inr k ↦ lines_reported ls k
  ]

-- ---- what an expansion reports is no circle

abbrev IsOther : Held → Type 0
IsOther (Include name (Some fault)) = fault ≡ code.G2 → ⊥
IsOther (Include name None) = Unit {0}
IsOther (Library depth units list (Some fault)) = fault ≡ code.G2 → ⊥
IsOther (Library depth units list None) = Unit {0}
IsOther (Line depth x) = Unit {0}

abbrev IsOtherEntry : ExpansionEntry → Type 0
IsOtherEntry e = IsOther e.held

module _ (files : List Read) where
  other_by : (name : List ℕ) (b c : Bool) (o : Option (List SourceLine)) → IsOther (Include name (result_err (cond b (Err code.G5) (cond c (Err code.G6) (ok_or o code.G4)))))
  other_by name true c o = λ e. absurd cc
  other_by name false true o = λ e. absurd cc
  other_by name false false None = λ e. absurd cc
  other_by name false false (Some lines) = tt

  -- of a list the fault is G7
  listing_fault : (unit : List ℕ) (text : Option (List ℕ)) (fault : Code) → result_err (listing unit text) ≡ Some fault → fault ≡ code.G7
  listing_fault unit None fault h = absurd cc
  listing_fault unit (Some text) fault h = by (listed text) h where
    by : (o : Option (List (List ℕ))) → result_err (ok_or o code.G7) ≡ Some fault → fault ≡ code.G7
    by (Some units) k = absurd cc
    by None k = cc

  list_other : (depth : ℕ) (list : List ℕ) (found : Result (List (List ℕ)) Code) → ((fault : Code) → result_err found ≡ Some fault → fault ≡ code.G7) → IsOther (library_line depth list found)
  list_other depth list (Ok units) h = tt
  list_other depth list (Err fault) h = λ e. let g : fault ≡ code.G7 = h fault refl in absurd cc

  own_other : (way : List (List ℕ)) (left depth : ℕ) (x : LineBody) → IsOther (held_in files (included files way left) depth x)
  own_other way left depth (source.Form form) = tt
  own_other way left depth (source.Uses name None) = tt
  own_other way left depth (source.Uses name (Some list)) = list_other depth list (listing name (open_text files list)) (listing_fault name (open_text files list))
  own_other way left depth (source.Fault fault) = tt
  own_other way left depth (source.Include name) = other_by name (is_among way name) (nat_eq left 0) (open_lines files name)

  abbrev AllOther : FileEntries → Type 0
  AllOther f = (way : List (List ℕ)) (file : List ℕ) (raise : ℕ) (lines : List SourceLine) → AllByRecursion IsOtherEntry (f way file raise lines)

  inner_other : (f : FileEntries) → AllOther f → (way : List (List ℕ)) (raise : ℕ) (put : Option (List ℕ × List SourceLine)) → AllByRecursion IsOtherEntry (inner_entries f way raise put)
  inner_other f h way raise None = tt
  inner_other f h way raise (Some file) = h (way ++ file.0 ∷ []) file.0 raise file.1

  file_other : (left : ℕ) (f : FileEntries) → AllOther f → AllOther (file_entries files left f)
  file_other left f h way file raise [] = tt
  file_other left f h way file raise (line ∷ lines) =
      all_front IsOtherEntry (line_entries files left f way file raise line) (file_entries files left f way file raise lines)
      (own_other way left (raise + line.depth) line.body, inner_other f h way (raise + line.depth) (put_in (included files way left) line.body))
      (file_other left f h way file raise lines)

  entries_other : (left : ℕ) → AllOther (entries files left)
  unfolding entries
  entries_other zero = file_other zero (λ way file raise lines. []) (λ way file raise lines. tt)
  entries_other (suc left) = file_other (suc left) (entries files left) (entries_other left)

  unit_other : (unit : List ℕ) (lines : Option (List SourceLine)) → AllByRecursion IsOtherEntry (unit_entries files unit lines)
  unit_other unit None = tt
  unit_other unit (Some lines) = entries_other 16 (unit ∷ []) unit 0 lines

  held_silent : (file name : List ℕ) (line : ℕ) (x : Held) → IsOther x → AreReporting (held_faults file line x) code.G2 name → ⊥
  held_silent file name line (Include other (Some fault)) h (inl k) = h k.0
  held_silent file name line (Include other (Some fault)) h (inr k) = k
  held_silent file name line (Include other None) h k = k
  held_silent file name line (Library depth units list (Some fault)) h (inl k) = h k.0
  held_silent file name line (Library depth units list (Some fault)) h (inr k) = k
  held_silent file name line (Library depth units list None) h k = k
  held_silent file name line (Line depth x) h k = k

  silent : (name : List ℕ) (es : List ExpansionEntry) → AllByRecursion IsOtherEntry es → AreReporting (flat_map entry_faults es) code.G2 name → ⊥
  silent name [] h k = k
  silent name (e ∷ es) h k = elim (reports_split code.G2 name (entry_faults e) (flat_map entry_faults es) k) [
    | inl i ↦ held_silent e.file name e.line e.held h.0 i
    | inr i ↦ silent name es h.1 i
  ]

  limit_silent : (name : List ℕ) (es : List ExpansionEntry) → AreReporting (limit_faults es) code.G2 name → ⊥
  limit_silent name [] k = k
  limit_silent name (e ∷ es) (inl k) = let n = k.1 in absurd cc
  limit_silent name (e ∷ es) (inr k) = k

  pub expansion_silent : (unit name : List ℕ) → AreReporting (expansion files unit).faults code.G2 name → ⊥
  unfolding expansion
  expansion_silent unit name h =
      let all = unit_entries files unit (open_lines files unit) in
      elim (reports_split code.G2 name (flat_map entry_faults (take 65535 all)) (limit_faults (drop 65535 all)) h) [
        | inl k ↦ silent name (take 65535 all) (all_taken IsOtherEntry 65535 all (unit_other unit (open_lines files unit))) k
        | inr k ↦ limit_silent name (drop 65535 all) k
      ]

  -- a unit that uses another is open
  opened_by : (unit v : List ℕ) (o : Option Prepared) → (file_of files unit).source ≡ o → is_among (flat_map units_of (expansion files unit).lines) v ≡ true → is_some o ≡ true
  unfolding expansion
  opened_by unit v (Some s) e a = refl
  opened_by unit v None e a =
      let none : open_lines files unit ≡ None = ap (option_map (λ (s : Prepared). s.lines)) (sym (file_source files unit) ∙ e) in
      let no : is_among (flat_map units_of (flat_map entry_lines (take 65535 (unit_entries files unit None)))) v ≡ true = ap (λ (o : Option (List SourceLine)). is_among (flat_map units_of (flat_map entry_lines (take 65535 (unit_entries files unit o)))) v) (sym none) ∙ a in
      absurd cc

  used_among : (u v : List ℕ) → Uses files u v → (is_unit u ≡ true) × (is_among (flat_map units_of (expansion files u).lines) v ≡ true)
  used_among u v h = by (is_unit u) refl h where
    by : (b : Bool) → is_unit u ≡ b → is_among (cond b (used_in (expansion files u).lines) []) v ≡ true → (is_unit u ≡ true) × (is_among (flat_map units_of (expansion files u).lines) v ≡ true)
    by true e a = (e, unordered_names (flat_map units_of (expansion files u).lines) v a)
    by false e a = absurd cc

  user_open : (u v : List ℕ) → Uses files u v → is_some (file_of files u).source ≡ true
  user_open u v h = opened_by u v (file_of files u).source refl (used_among u v h).1

  first_use : (u v : List ℕ) (ws : List (List ℕ)) → UsesBy files u ws v → (w : List ℕ) × Uses files u w
  first_use u v [] h = (v, h)
  first_use u v (w ∷ ws) h = (w, h.0)

  circle_open : (u v : List ℕ) → Uses files u v → (v ≡ u) ⊎ Reaches files v u → is_some (file_of files v).source ≡ true
  circle_open u v h (inl e) = user_open v v (subst (λ (x : List ℕ). Uses files x v) (sym e) h)
  circle_open u v h (inr way) = let next = first_use v u way.0 way.1 in user_open v next.0 next.1

-- ---- of a unit

reports_first : (c : Code) (name : List ℕ) (fs : List Diag) (later : Judgement) → AreReporting fs c name → AreReporting (following fs later).faults c name
reports_first c name [] later h = absurd h
reports_first c name (d ∷ ds) later h = h

first_reports : (c : Code) (name : List ℕ) (fs : List Diag) (later : Judgement) → (fs ≡ [] → ⊥) → AreReporting (following fs later).faults c name → AreReporting fs c name
first_reports c name [] later some h = absurd (some refl)
first_reports c name (d ∷ ds) later some h = h

reported_of : (i : Input) (name : List ℕ) → AreReporting (unit_faults i) code.G2 name → AreReporting (diags_of i) code.G2 name
unfolding diags_of
reported_of i name h = order_reports code.G2 name (exact name) (judged i).faults (reports_first code.G2 name (unit_faults i) (lines_judged (expansion_in i).lines i.used) h)

of_reported : (i : Input) (name : List ℕ) → (unit_faults i ≡ [] → ⊥) → AreReporting (diags_of i) code.G2 name → AreReporting (unit_faults i) code.G2 name
unfolding diags_of
of_reported i name some h = first_reports code.G2 name (unit_faults i) (lines_judged (expansion_in i).lines i.used) some (unordered code.G2 name (judged i).faults h)

module _ (files : List Read) (circles : (u v : List ℕ) → (is_circular files u v ≡ true) ↔ IsCircular files u v) (u v : List ℕ) where
  pub faults_report : (is_unit u ≡ true → expansion (unit_reads files u) u ≡ expansion files u) → IsCircular files u v → AreReporting (unit_faults (input files u)) code.G2 v
  faults_report own h =
      let among = used_among files u v h.0 in
      let same : expansion_in (input files u) ≡ expansion files u = own among.0 in
      let circular : standing_of files u v ≡ standing.Circular = by_circle (is_some (file_of files v).source) (is_circular files u v) (circle_open files u v h.0 h.1) ((circles u v).1 h) in
      let now : stands (input files u).used v ≡ how.Circular = standing_now files u (checked files) (used_units files u) v h.0 ∙ ap (λ (s : Standing). used_as s (checked files v).interface) circular in
      reports_back code.G2 v (expansion_in (input files u)).faults (line_faults (input files u).used (expansion_in (input files u)).lines)
      (lines_report (input files u).used v (expansion_in (input files u)).lines now (ap (λ (e : Expansion). is_among (flat_map units_of e.lines) v) same ∙ among.1))

  pub own_circle : IsCircular files u v → is_unit u ≡ true
  own_circle h = (used_among files u v h.0).0

  pub now_circular : IsCircular files u v → stands (input files u).used v ≡ how.Circular
  now_circular h =
      let circular : standing_of files u v ≡ standing.Circular = by_circle (is_some (file_of files v).source) (is_circular files u v) (circle_open files u v h.0 h.1) ((circles u v).1 h) in
      standing_now files u (checked files) (used_units files u) v h.0 ∙ ap (λ (s : Standing). used_as s (checked files v).interface) circular

  pub faults_reported : AreReporting (unit_faults (input files u)) code.G2 v → IsCircular files u v
  faults_reported h = elim (reports_split code.G2 v (expansion_in (input files u)).faults (line_faults (input files u).used (expansion_in (input files u)).lines) h) [
    | inl k ↦ absurd (expansion_silent (unit_reads files u) u v k)
    | inr k ↦
        let now : stands (input files u).used v ≡ how.Circular = lines_reported (input files u).used v (expansion_in (input files u)).lines k in
        let used : is_among (used_units files u) v ≡ true = ap (λ (ns : List (List ℕ)). is_among ns v) (sym (units_are files u (checked files) (used_units files u))) ∙ stands_among (input files u).used v now in
        let circular : standing_of files u v ≡ standing.Circular = as_circle (standing_of files u v) (checked files v).interface (sym (standing_now files u (checked files) (used_units files u) v used) ∙ now) in
        (circles u v).0 (circle_by (is_some (file_of files v).source) (is_circular files u v) circular)
  ]

  module _ (is : diags files u ≡ diags_of (input files u)) where
    pub diags_report : (is_unit u ≡ true → expansion (unit_reads files u) u ≡ expansion files u) → IsCircular files u v → AreReporting (diags files u) code.G2 v
    diags_report own h = subst (λ (ds : List Diag). AreReporting ds code.G2 v) (sym is) (reported_of (input files u) v (faults_report own h))

    pub diags_reported : (unit_faults (input files u) ≡ [] → ⊥) → AreReporting (diags files u) code.G2 v → IsCircular files u v
    diags_reported some h = faults_reported (of_reported (input files u) v some (subst (λ (ds : List Diag). AreReporting ds code.G2 v) is h))
