-- What uses what after an edit of a file, where edges lead elsewhere from one of its readers at most.
use Rattle.std.proofs.Common.{◌≡◌, ◌∙◌, ◌+◌, ◌<◌, ◌≤◌, ◌==◌, ◌⊎◌, ℕ, zero, suc, Bool, true, false, List, [], ◌∷◌, length, map, get_or, Option, Some, None, refl, sym, ap, subst, inl, inr, arith, ◌↔◌}
use Rattle.std.specs.Prelude.{slice_set}
use Rattle.std.proofs.lemmas.Bool.{cases_lt, eqb-false, eqb-true}
use Rattle.std.specs.List.{cons_option, slice_get}
use Rattle.std.specs.Option.{option_map, unwrap_or}
use Rattle.occ_project_graph.specs.Graph.{Graph, has_edge, is_among as is_index}
use Rattle.occ_project_graph.specs.Sources.{sources}
use Rattle.occ_project.specs.Entries.{is_among}
use Rattle.occ_project.specs.Reads.{index}
use Rattle.occ_project.specs.declared.reads.Read.{Read}
use Rattle.occ_project_units.proofs.Edges.{get_map, graph_long, slice_some}
use Rattle.occ_project_units.proofs.Renewed.{after_within, apart_stays, facts_at, reads_reader, still_long, still_named, still_placed, there_among}
use Rattle.occ_project_units.specs.Along.{name_at}
use Rattle.occ_project_units.specs.Indices.{graph_of, indices_of, readers_at}
use Rattle.occ_project_units.specs.Project.{IsProject, put}
use Rattle.occ_project_units.specs.Units.{read_names, used_units}
use Rattle.occ_project_units.specs.declared.facts.Facts.{Facts}
use Rattle.occ_project_units.specs.inside.Keeping.{AreReading, IsLed, IsUsingAsBefore, all_facts, facts_of}

-- rows of which each is that of the other graph
all_rows : (g h : Graph) → length g ≡ length h → ((p : ℕ) → p < length g → get_or g p [] ≡ get_or h p []) → g ≡ h
all_rows [] [] l k = refl
all_rows [] (y ∷ h) l k = cc
all_rows (x ∷ g) [] l k = cc
all_rows (x ∷ g) (y ∷ h) l k =
    let less : length g ≡ length h = omega (arith, l) in
    ap (λ (z : List ℕ). z ∷ g) (k 0 (omega arith)) ∙ ap (λ (zs : Graph). y ∷ zs) (all_rows g h less (λ p lt. k (suc p) (omega (arith, lt))))

set_long : (g : Graph) (p : ℕ) (row : List ℕ) → length (slice_set g p row) ≡ length g
set_long [] p row = refl
set_long (x ∷ g) zero row = refl
set_long (x ∷ g) (suc p) row = ap suc (set_long g p row)

set_here : (g : Graph) (p : ℕ) (row : List ℕ) → p < length g → get_or (slice_set g p row) p [] ≡ row
set_here [] p row lt = absurd (omega (arith, lt))
set_here (x ∷ g) zero row lt = refl
set_here (x ∷ g) (suc p) row lt = set_here g p row (omega (arith, lt))

set_apart : (g : Graph) (p q : ℕ) (row : List ℕ) → (p ≡ q → ⊥) → get_or (slice_set g p row) q [] ≡ get_or g q []
set_apart [] p q row n = refl
set_apart (x ∷ g) zero zero row n = absurd (n refl)
set_apart (x ∷ g) zero (suc q) row n = refl
set_apart (x ∷ g) (suc p) zero row n = refl
set_apart (x ∷ g) (suc p) (suc q) row n = set_apart g p q row (λ e. n (ap suc e))

use_targets : (fs : List Read) (p : ℕ) → p < length fs → get_or (graph_of fs) p [] ≡ indices_of fs (used_units fs (name_at fs p))
use_targets fs p lt =
    let there = slice_some fs p lt in
    let named : name_at fs p ≡ there.0.name = ap (λ (o : Option Read). unwrap_or (option_map (λ (x : Read). x.name) o) []) there.1 in
    get_map (λ (x : Read). indices_of fs (used_units fs x.name)) fs p there.0 [] there.1 ∙ ap (λ (n : List ℕ). indices_of fs (used_units fs n)) (sym named)

same_uses : (a b : Facts) (x y : Option Facts) → x ≡ Some a → y ≡ Some b → IsUsingAsBefore x y → a.uses ≡ b.uses
same_uses a b x y h k s = subst (λ (o : Option Facts). IsUsingAsBefore o (Some b)) h (subst (IsUsingAsBefore x) k s)

find_at : (later : List Read) (indices : List ℕ) (i : ℕ) → i < length indices → slice_get (map (λ (p : ℕ). facts_of later (name_at later p)) indices) i ≡ Some (facts_of later (name_at later (get_or indices i 0)))
find_at later [] i lt = absurd (omega (arith, lt))
find_at later (p ∷ indices) zero lt = refl
find_at later (p ∷ indices) (suc i) lt = find_at later indices i (omega (arith, lt))

uses_at : (later : List Read) (indices : List ℕ) (i : ℕ) → i < length indices → get_or (map (λ (f : Facts). f.uses) (map (λ (p : ℕ). facts_of later (name_at later p)) indices)) i [] ≡ used_units later (name_at later (get_or indices i 0))
uses_at later [] i lt = absurd (omega (arith, lt))
uses_at later (p ∷ indices) zero lt = refl
uses_at later (p ∷ indices) (suc i) lt = uses_at later indices i (omega (arith, lt))

module _ (law : (g : Graph) (u v : ℕ) → (is_index (sources g v) u ≡ true) ↔ (has_edge g u v ≡ true)) (files later : List Read) (file : Read) (at : ℕ) (project : IsProject files) (put_is : later ≡ put files file) (e : index file.name files ≡ Some at)
    (readers : List ℕ) (r : readers ≡ readers_at files at) where
  placed : (name : List ℕ) → index name later ≡ index name files
  placed = still_placed files later file at project put_is e

  long : length later ≡ length files
  long = still_long files later file at project put_is e

  named : (p : ℕ) → p < length files → name_at later p ≡ name_at files p
  named = still_named files later file at project put_is e

  indices_still : (names : List (List ℕ)) → indices_of later names ≡ indices_of files names
  indices_still [] = refl
  indices_still (n ∷ names) = ap (λ (o : Option ℕ). cons_option o (indices_of later names)) (placed n) ∙ ap (cons_option (index n files)) (indices_still names)

  -- where a file uses the same, so does its row
  row_still : (p : ℕ) → p < length files → used_units files (name_at files p) ≡ used_units later (name_at files p) → get_or (graph_of files) p [] ≡ get_or (graph_of later) p []
  row_still p lt same =
      use_targets files p lt
      ∙ ap (indices_of files) same
      ∙ sym (indices_still (used_units later (name_at files p)))
      ∙ ap (λ (n : List ℕ). indices_of later (used_units later n)) (sym (named p lt))
      ∙ sym (use_targets later p (omega (arith, lt, long)))

  -- what reads the file read it before
  pub still_reading : AreReading later file.name readers
  still_reading = record {
    within = after_within law files later file at project put_is e readers r;
    all = λ p lt reads. by p (omega (arith, lt, long)) reads (is_index (readers_at files at) p) refl;
  } where
    by : (p : ℕ) → p < length files → is_among (read_names later (name_at later p)) file.name ≡ true → (b : Bool) → is_index (readers_at files at) p ≡ b → is_index readers p ≡ true
    by p lt reads true k = ap (λ (ws : List ℕ). is_index ws p) r ∙ k
    by p lt reads false k =
        let same = apart_stays files later file at project put_is e law p lt k in
        let now : is_among (read_names files (name_at files p)) file.name ≡ true =
        ap (λ (f : Facts). is_among f.reads file.name) same ∙ ap (λ (n : List ℕ). is_among (read_names later n) file.name) (sym (named p lt)) ∙ reads in
        let there = reads_reader law files p at file.name lt e now in
        absurd (cc (there, k))

  module _ (facts : List Facts) (f : facts ≡ all_facts files) (led : Graph) (is : IsLed later facts readers (map (λ (p : ℕ). facts_of later (name_at later p)) readers) (graph_of files) led) where
    found : List Facts
    found = map (λ (p : ℕ). facts_of later (name_at later p)) readers

    -- of what was not led
    same_at : (p i : ℕ) → p < length files → i < length readers → get_or readers i 0 ≡ p → IsUsingAsBefore (slice_get facts (get_or readers i 0)) (slice_get (map (λ (q : ℕ). facts_of later (name_at later q)) readers) i)
        → used_units files (name_at files p) ≡ used_units later (name_at files p)
    same_at p i lt within there same =
        same_uses (facts_of files (name_at files p)) (facts_of later (name_at files p)) (slice_get facts (get_or readers i 0)) (slice_get (map (λ (q : ℕ). facts_of later (name_at later q)) readers) i)
        (ap (slice_get facts) there ∙ ap (λ (fs : List Facts). slice_get fs p) f ∙ facts_at files p lt)
        (find_at later readers i within ∙ ap (λ (q : ℕ). Some (facts_of later (name_at later q))) there ∙ ap (λ (n : List ℕ). Some (facts_of later n)) (named p lt))
        same

    differs : (i : ℕ) → is.place ≤ i → (i ≡ is.place → ⊥) → is.place + 1 ≤ i
    differs i le n = elim (cases_lt is.place i) [
      | inl more ↦ omega (arith, more)
      | inr not_more ↦ let same : i ≡ is.place = omega (arith, le, not_more) in absurd (n same)
    ]

    uses_same : (p : ℕ) → p < length files → ((i : ℕ) → i < length readers → get_or readers i 0 ≡ p → i ≡ is.place → ⊥) → used_units files (name_at files p) ≡ used_units later (name_at files p)
    uses_same p lt apart = by (is_index (readers_at files at) p) refl where
      by : (b : Bool) → is_index (readers_at files at) p ≡ b → used_units files (name_at files p) ≡ used_units later (name_at files p)
      by false k = ap (λ (x : Facts). x.uses) (apart_stays files later file at project put_is e law p lt k)
      by true k =
          let there = there_among readers p (ap (λ (ws : List ℕ). is_index ws p) r ∙ k) in
          let i : ℕ = there.0 in
          let within = there.1.0 in
          elim (cases_lt i is.place) [
            | inl below ↦ same_at p i lt within there.1.1 (is.before i (omega arith) below within)
            | inr above ↦ same_at p i lt within there.1.1 (is.behind i (differs i above (apart i within there.1.1)) within within)
          ]

    pub led_graph : led ≡ graph_of later
    led_graph = elim is.is [
      | inl none ↦ none.1 ∙ all_rows (graph_of files) (graph_of later) (graph_long files ∙ sym long ∙ sym (graph_long later)) (λ p lt.
          let within : p < length files = omega (arith, lt, graph_long files) in
          let past = none.0 in
          row_still p within (uses_same p within (λ i l there same. omega (arith, l, same, past))))
      | inr some ↦
          let w : ℕ = get_or readers is.place 0 in
          let row : List ℕ = indices_of later (get_or (map (λ (x : Facts). x.uses) (map (λ (p : ℕ). facts_of later (name_at later p)) readers)) is.place []) in
          some.1 ∙ all_rows (slice_set (graph_of files) w row) (graph_of later) (set_long (graph_of files) w row ∙ graph_long files ∙ sym long ∙ sym (graph_long later)) (λ p lt.
          let wide = set_long (graph_of files) w row in
          let within : p < length files = omega (arith, lt, wide, graph_long files) in
          at_row some.0 p within (w == p) refl)
    ] where
      at_row : is.place < length readers → (p : ℕ) → p < length files → (b : Bool) → (get_or readers is.place 0 == p) ≡ b
          → get_or (slice_set (graph_of files) (get_or readers is.place 0) (indices_of later (get_or (map (λ (x : Facts). x.uses) (map (λ (q : ℕ). facts_of later (name_at later q)) readers)) is.place []))) p [] ≡ get_or (graph_of later) p []
      at_row fits p within true h =
          let same : get_or readers is.place 0 ≡ p = eqb-true (get_or readers is.place 0) p h in
          let row : List ℕ = indices_of later (get_or (map (λ (x : Facts). x.uses) (map (λ (q : ℕ). facts_of later (name_at later q)) readers)) is.place []) in
          ap (λ (q : ℕ). get_or (slice_set (graph_of files) q row) p []) same
          ∙ set_here (graph_of files) p row (let wide = graph_long files in omega (arith, within, wide))
          ∙ ap (indices_of later) (uses_at later readers is.place fits ∙ ap (λ (q : ℕ). used_units later (name_at later q)) same)
          ∙ sym (use_targets later p (omega (arith, within, long)))
      at_row fits p within false h =
          let apart : get_or readers is.place 0 ≡ p → ⊥ = eqb-false (get_or readers is.place 0) p h in
          set_apart (graph_of files) (get_or readers is.place 0) p (indices_of later (get_or (map (λ (x : Facts). x.uses) (map (λ (q : ℕ). facts_of later (name_at later q)) readers)) is.place [])) apart
          ∙ row_still p within (uses_same p within (λ i l there same. apart (ap (λ (k : ℕ). get_or readers k 0) (sym same) ∙ there)))
