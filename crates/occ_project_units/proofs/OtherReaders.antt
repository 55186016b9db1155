-- Who reads a file: the others that do, and itself if it is a unit.
use Rattle.std.proofs.Common.{◌≡◌, ◌∙◌, ◌+◌, ◌<◌, ◌≤◌, ◌==◌, ◌++◌, ◌||◌, ℕ, zero, suc, Bool, true, false, cond, ltb, not, List, [], ◌∷◌, length, map, take, drop, get_or, Option, Some, Result, Ok, Err, IfOk, refl, sym, ap, subst, arith, append_assoc, append-nil}
use Rattle.std.proofs.lemmas.Bool.{eq-eqb, eqb-true, lt-ltb, ltb-false, ltb-true}
use Rattle.std.proofs.lemmas.List.{drop_more, drop_all}
use Rattle.std.proofs.lemmas.List.Elements.{filter-append}
use Rattle.std.proofs.lemmas.Slice.Eq.{bytes_eq-Decides}
use Rattle.std.specs.List.{AllByRecursion, cons_option, filter, flat_map, slice_get}
use Rattle.std.specs.List.Sorted.{IsPartitionPoint, IsPartitionedBy}
use Rattle.std.specs.Option.{option_map, unwrap_or}
use Rattle.std.specs.Str.{bytes_eq}
use Rattle.occ_base.specs.FileName.{is_unit}
use Rattle.occ_base.specs.Firsts.{first_indices}
use Rattle.occ_project_graph.specs.Graph.{Graph, is_among as is_index}
use Rattle.occ_project_graph.specs.Sources.{once_each, sources, sources_from}
use Rattle.occ_project.specs.Entries.{is_among}
use Rattle.occ_project.specs.Expansion.{entry_names, expansion, unit_entries}
use Rattle.occ_project.specs.Reads.{index, open_lines}
use Rattle.occ_project.specs.declared.reads.Read.{Read}
use Rattle.occ_project_units.proofs.Added.{apart_names}
use Rattle.occ_project_units.proofs.Below.{placed_name}
use Rattle.occ_project_units.proofs.Edges.{get_map, named_index, same_index, slice_some}
use Rattle.occ_project_units.proofs.Reading.{read_at}
use Rattle.occ_project_units.proofs.Renewed.{read_edges_of, read_graph_long}
use Rattle.occ_project_units.specs.Along.{name_at}
use Rattle.occ_project_units.specs.Indices.{indices_of, read_graph, readers_at}
use Rattle.occ_project_units.specs.Project.{IsProject}
use Rattle.occ_project_units.specs.Units.{read_names}
use Rattle.occ_project_units.specs.declared.facts.Facts.{Facts}
use Rattle.occ_project_units.specs.inside.Keeping.{AreReaders, all_facts, facts_of, others}

-- those before an index, and those behind it, stay where others are taken away
all_both : (P : ℕ → Type 0) (xs ys : List ℕ) → AllByRecursion P xs → AllByRecursion P ys → AllByRecursion P (xs ++ ys)
all_both P [] ys h k = k
all_both P (x ∷ xs) ys h k = (h.0, all_both P xs ys h.1 k)

all_more : (P Q : ℕ → Type 0) (xs : List ℕ) → ((x : ℕ) → P x → Q x) → AllByRecursion P xs → AllByRecursion Q xs
all_more P Q [] f h = tt
all_more P Q (x ∷ xs) f h = (f x h.0, all_more P Q xs f h.1)

once_all : (P : ℕ → Type 0) (u v : ℕ) (ws : List ℕ) → P u → AllByRecursion P (once_each u ws v)
once_all P u v [] p = tt
once_all P u v (w ∷ ws) p = by (w == v) (once_all P u v ws p) where
  by : (b : Bool) → AllByRecursion P (once_each u ws v) → AllByRecursion P (map (λ (x : ℕ). u) (cond b (w ∷ filter (λ x. x == v) ws) (filter (λ x. x == v) ws)))
  by true h = (p, h)
  by false h = h

all_below : (u n : ℕ) (g : Graph) (v : ℕ) → u + length g ≤ n → AllByRecursion (λ w. w < n) (sources_from u g v)
all_below u n [] v h = tt
all_below u n (ws ∷ g) v h = all_both (λ w. w < n) (once_each u ws v) (sources_from (u + 1) g v) (once_all (λ w. w < n) u v ws (omega (arith, h))) (all_below (u + 1) n g v (omega (arith, h)))

all_above : (n u : ℕ) (g : Graph) (v : ℕ) → n < u → AllByRecursion (λ w. n < w) (sources_from u g v)
all_above n u [] v h = tt
all_above n u (ws ∷ g) v h = all_both (λ w. n < w) (once_each u ws v) (sources_from (u + 1) g v) (once_all (λ w. n < w) u v ws h) (all_above n (u + 1) g v (omega (arith, h)))

apart : (w p : ℕ) → (w ≡ p → ⊥) → (w == p) ≡ false
apart w p n = by (w == p) refl where
  by : (b : Bool) → (w == p) ≡ b → b ≡ false
  by true e = absurd (n (eqb-true w p e))
  by false e = refl

others_all : (p : ℕ) (xs : List ℕ) → AllByRecursion (λ w. (w == p) ≡ false) xs → others p xs ≡ xs
others_all p [] h = refl
others_all p (x ∷ xs) h = ap (λ (b : Bool). cond (not b) (x ∷ others p xs) (others p xs)) h.0 ∙ ap (λ (ys : List ℕ). x ∷ ys) (others_all p xs h.1)

others_below : (p : ℕ) (xs : List ℕ) → AllByRecursion (λ w. w < p) xs → others p xs ≡ xs
others_below p xs h = others_all p xs (all_more (λ w. w < p) (λ w. (w == p) ≡ false) xs (λ w lt. apart w p (λ e. omega (arith, lt, e))) h)

others_above : (p : ℕ) (xs : List ℕ) → AllByRecursion (λ w. p < w) xs → others p xs ≡ xs
others_above p xs h = others_all p xs (all_more (λ w. p < w) (λ w. (w == p) ≡ false) xs (λ w lt. apart w p (λ e. omega (arith, lt, e))) h)

itself : (p : ℕ) → (p == p) ≡ true
itself p = eq-eqb p p refl

others_own : (p : ℕ) (b : Bool) → others p (cond b (p ∷ []) []) ≡ []
others_own p true = ap (λ (b : Bool). cond (not b) (p ∷ []) []) (itself p)
others_own p false = refl

once_none : (u v : ℕ) (ws : List ℕ) → is_index ws v ≡ false → once_each u ws v ≡ []
once_none u v [] h = refl
once_none u v (w ∷ ws) h = by (w == v) h (once_none u v ws) where
  by : (b : Bool) → (b || is_index ws v) ≡ false → (is_index ws v ≡ false → once_each u ws v ≡ []) → map (λ (x : ℕ). u) (cond b (w ∷ filter (λ x. x == v) ws) (filter (λ x. x == v) ws)) ≡ []
  by true k f = absurd cc
  by false k f = f k

-- those from which edges lead to a node stand before an index, at it, and behind it
parted : (u p : ℕ) (g : Graph) (v : ℕ) → p < length g → sources_from u g v ≡ sources_from u (take p g) v ++ (once_each (u + p) (get_or g p []) v ++ sources_from (u + p + 1) (drop (suc p) g) v)
parted u p [] v lt = absurd (omega (arith, lt))
parted u zero (ws ∷ g) v lt = let same : u ≡ u + 0 = omega arith in ap (λ (n : ℕ). once_each n ws v ++ sources_from (n + 1) g v) same
parted u (suc p) (ws ∷ g) v lt =
    let same : u + 1 + p ≡ u + suc p = omega arith in
    ap (λ (xs : List ℕ). once_each u ws v ++ xs) (parted (u + 1) p g v (omega (arith, lt)))
    ∙ sym (append_assoc (once_each u ws v) (sources_from (u + 1) (take p g) v) (once_each (u + 1 + p) (get_or g p []) v ++ sources_from (u + 1 + p + 1) (drop (suc p) g) v))
    ∙ ap (λ (n : ℕ). (once_each u ws v ++ sources_from (u + 1) (take p g) v) ++ (once_each n (get_or g p []) v ++ sources_from (n + 1) (drop (suc p) g) v)) same

-- a unit reads itself first, and once
no_own : (unit : List ℕ) (names : List (List ℕ)) → is_among (filter (λ other. not (bytes_eq unit other)) names) unit ≡ false
no_own unit [] = refl
no_own unit (n ∷ names) = by (bytes_eq unit n) refl (no_own unit names) where
  rest : List (List ℕ)
  rest = filter (λ other. not (bytes_eq unit other)) names

  by : (b : Bool) → bytes_eq unit n ≡ b → is_among rest unit ≡ false → is_among (cond (not b) (n ∷ rest) rest) unit ≡ false
  by true e h = h
  by false e h = ap (λ (b : Bool). b || is_among rest unit) (apart_names unit n e) ∙ h

first_own : (files : List Read) (unit : List ℕ) → (expansion files unit).reads ≡ unit ∷ drop 1 (expansion files unit).reads
unfolding expansion
first_own files unit = refl

once_own : (files : List Read) (unit : List ℕ) → is_among (drop 1 (expansion files unit).reads) unit ≡ false
unfolding expansion
once_own files unit = no_own unit (first_indices (flat_map entry_names (take 65535 (unit_entries files unit (open_lines files unit)))))

unit_reads : (files : List Read) (unit : List ℕ) → is_unit unit ≡ true → (read_names files unit ≡ unit ∷ drop 1 (read_names files unit)) × (is_among (drop 1 (read_names files unit)) unit ≡ false)
unit_reads files unit e =
    let are : read_names files unit ≡ (expansion files unit).reads = ap (λ (b : Bool). cond b (expansion files unit).reads []) e in (
      are ∙ first_own files unit ∙ ap (λ (names : List (List ℕ)). unit ∷ drop 1 names) (sym are),
      ap (λ (names : List (List ℕ)). is_among (drop 1 names) unit) are ∙ once_own files unit,
    )

no_reads : (files : List Read) (name : List ℕ) → is_unit name ≡ false → read_names files name ≡ []
no_reads files name e = ap (λ (b : Bool). cond b (expansion files name).reads []) e

no_index : (files : List Read) (names : List (List ℕ)) (name : List ℕ) (p : ℕ) → index name files ≡ Some p → is_among names name ≡ false → is_index (indices_of files names) p ≡ false
no_index files names name p e none = by (is_index (indices_of files names) p) refl where
  by : (b : Bool) → is_index (indices_of files names) p ≡ b → b ≡ false
  by true h =
      let found = named_index files names p h in
      let same : found.0 ≡ name = same_index files found.0 name p found.2 e in
      let there : is_among names name ≡ true = ap (is_among names) (sym same) ∙ found.1 in
      absurd (cc (none, there))
  by false h = refl

module _ (files : List Read) (project : IsProject files) (p : ℕ) (lt : p < length files) where
  abbrev name : List ℕ
  name = name_at files p

  abbrev whole : List ℕ
  whole = indices_of files (read_names files (name_at files p))

  abbrev tail : List ℕ
  tail = indices_of files (drop 1 (read_names files (name_at files p)))

  unit_whole : is_unit name ≡ true → whole ≡ p ∷ tail
  unit_whole e =
      ap (indices_of files) (unit_reads files name e).0
      ∙ ap (λ (o : Option ℕ). cons_option o tail) (placed_name files p project lt)

  unit_tail : is_unit name ≡ true → is_index tail p ≡ false
  unit_tail e = no_index files (drop 1 (read_names files name)) name p (placed_name files p project lt) (unit_reads files name e).1

  no_whole : is_unit name ≡ false → whole ≡ []
  no_whole e = ap (indices_of files) (no_reads files name e)

  no_tail : is_unit name ≡ false → tail ≡ []
  no_tail e = ap (λ (names : List (List ℕ)). indices_of files (drop 1 names)) (no_reads files name e)

  tail_apart : is_index tail p ≡ false
  tail_apart = by (is_unit name) refl where
    by : (b : Bool) → is_unit name ≡ b → is_index tail p ≡ false
    by true e = unit_tail e
    by false e = ap (λ (ws : List ℕ). is_index ws p) (no_tail e)

  own_row : once_each p whole p ≡ cond (is_unit name) (p ∷ []) []
  own_row = by (is_unit name) refl where
    by : (b : Bool) → is_unit name ≡ b → once_each p whole p ≡ cond b (p ∷ []) []
    by true e =
        ap (λ (ws : List ℕ). once_each p ws p) (unit_whole e)
        ∙ ap (λ (b : Bool). map (λ (x : ℕ). p) (cond b (p ∷ filter (λ w. w == p) tail) (filter (λ w. w == p) tail))) (itself p)
        ∙ ap (λ (ws : List ℕ). p ∷ ws) (once_none p p tail (unit_tail e))
    by false e = ap (λ (ws : List ℕ). once_each p ws p) (no_whole e)

  -- so what is behind its own name leads to the others
  apart_row : (v : ℕ) → (p == v) ≡ false → once_each p whole v ≡ once_each p tail v
  apart_row v other = by (is_unit name) refl where
    by : (b : Bool) → is_unit name ≡ b → once_each p whole v ≡ once_each p tail v
    by true e =
        ap (λ (ws : List ℕ). once_each p ws v) (unit_whole e)
        ∙ ap (λ (b : Bool). map (λ (x : ℕ). p) (cond b (p ∷ filter (λ w. w == v) tail) (filter (λ w. w == v) tail))) other
    by false e = ap (λ (ws : List ℕ). once_each p ws v) (no_whole e) ∙ sym (ap (λ (ws : List ℕ). once_each p ws v) (no_tail e))

  pub others_row : (v : ℕ) → others v (once_each p whole v) ≡ once_each p tail v
  others_row v = by (p == v) refl where
    own : others p (once_each p whole p) ≡ once_each p tail p
    own = ap (others p) own_row ∙ others_own p (is_unit name) ∙ sym (once_none p p tail tail_apart)

    by : (b : Bool) → (p == v) ≡ b → others v (once_each p whole v) ≡ once_each p tail v
    by true e = subst (λ (n : ℕ). others n (once_each p whole n) ≡ once_each p tail n) (eqb-true p v e) own
    by false e = others_all v (once_each p whole v) (once_all (λ w. (w == v) ≡ false) p v whole e) ∙ apart_row v e

  -- its readers are those before it, perhaps itself, and those behind it
  within : p < length (read_graph files)
  within = let long = read_graph_long files in omega (arith, lt, long)

  row_there : get_or (read_graph files) p [] ≡ whole
  row_there =
      let file = slice_some files p lt in
      let named : name_at files p ≡ file.0.name = ap (λ (o : Option Read). unwrap_or (option_map (λ (x : Read). x.name) o) []) file.1 in
      get_map (λ (f : Read). indices_of files (read_names files f.name)) files p file.0 [] file.1 ∙ ap (λ (n : List ℕ). indices_of files (read_names files n)) (sym named)

  abbrev before : List ℕ
  before = sources_from 0 (take p (read_graph files)) p

  abbrev behind : List ℕ
  behind = sources_from (p + 1) (drop (suc p) (read_graph files)) p

  few : (n : ℕ) (g : Graph) → length (take n g) ≤ n
  few zero [] = omega arith
  few zero (ws ∷ g) = omega arith
  few (suc n) [] = omega arith
  few (suc n) (ws ∷ g) = let h = few n g in omega (arith, h)

  are_before : AllByRecursion (λ q. q < p) before
  are_before = let h = few p (read_graph files) in all_below 0 p (take p (read_graph files)) p (omega (arith, h))

  are_behind : AllByRecursion (λ q. p < q) behind
  are_behind = all_above p (p + 1) (drop (suc p) (read_graph files)) p (omega arith)

  readers_parts : readers_at files p ≡ before ++ (cond (is_unit name) (p ∷ []) [] ++ behind)
  readers_parts =
      let same : 0 + p ≡ p = omega arith in
      parted 0 p (read_graph files) p within
      ∙ ap (λ (n : ℕ). before ++ (once_each n (get_or (read_graph files) p []) p ++ sources_from (n + 1) (drop (suc p) (read_graph files)) p)) same
      ∙ ap (λ (ws : List ℕ). before ++ (once_each p ws p ++ behind)) row_there
      ∙ ap (λ (own : List ℕ). before ++ (own ++ behind)) own_row

  others_parts : others p (readers_at files p) ≡ before ++ behind
  others_parts =
      let own : List ℕ = cond (is_unit name) (p ∷ []) [] in
      ap (others p) readers_parts
      ∙ filter-append (λ w. not (w == p)) before (own ++ behind)
      ∙ ap (λ (xs : List ℕ). xs ++ others p (own ++ behind)) (others_below p before are_before)
      ∙ ap (λ (xs : List ℕ). before ++ xs) (filter-append (λ w. not (w == p)) own behind)
      ∙ ap (λ (xs : List ℕ). before ++ (xs ++ others p behind)) (others_own p (is_unit name))
      ∙ ap (λ (xs : List ℕ). before ++ xs) (others_above p behind are_behind)

  pub with_own : (rest all : List ℕ) → is_unit name ≡ true → rest ≡ others p (readers_at files p)
      → ((front back : List ℕ) → rest ≡ front ++ back → AllByRecursion (λ q. q < p) front → AllByRecursion (λ q. p < q) back → all ≡ front ++ p ∷ back) → all ≡ readers_at files p
  with_own rest all e r f =
      f before behind (r ∙ others_parts) are_before are_behind
      ∙ sym (readers_parts ∙ ap (λ (b : Bool). before ++ (cond b (p ∷ []) [] ++ behind)) e)

  pub without_own : (rest : List ℕ) → is_unit name ≡ false → rest ≡ others p (readers_at files p) → rest ≡ readers_at files p
  without_own rest e r = r ∙ others_parts ∙ sym (readers_parts ∙ ap (λ (b : Bool). before ++ (cond b (p ∷ []) [] ++ behind)) e)

-- none but itself reads a file that no file of another name reads
others_same : (u p : ℕ) → (u == p) ≡ true → (xs : List ℕ) → others p (map (λ (x : ℕ). u) xs) ≡ []
others_same u p e [] = refl
others_same u p e (x ∷ xs) = ap (λ (b : Bool). cond (not b) (u ∷ others p (map (λ (y : ℕ). u) xs)) (others p (map (λ (y : ℕ). u) xs))) e ∙ others_same u p e xs

others_from : (p : ℕ) (g : Graph) (u : ℕ) → ((i : ℕ) → i < length g → (u + i == p) ≡ false → is_index (get_or g i []) p ≡ false) → others p (sources_from u g p) ≡ []
others_from p [] u h = refl
others_from p (ws ∷ g) u h =
    filter-append (λ w. not (w == p)) (once_each u ws p) (sources_from (u + 1) g p)
    ∙ ap (λ (xs : List ℕ). xs ++ others p (sources_from (u + 1) g p)) (first (u == p) refl)
    ∙ others_from p g (u + 1) (λ i lt other. let same : u + 1 + i ≡ u + suc i = omega arith in h (suc i) (omega (arith, lt)) (subst (λ (n : ℕ). (n == p) ≡ false) same other)) where
      first : (b : Bool) → (u == p) ≡ b → others p (once_each u ws p) ≡ []
      first true e = others_same u p e (filter (λ w. w == p) ws)
      first false e = let same : u ≡ u + 0 = omega arith in ap (others p) (once_none u p ws (h 0 (omega arith) (subst (λ (n : ℕ). (n == p) ≡ false) same e)))

module _ (files : List Read) (project : IsProject files) (p : ℕ) (lt : p < length files)
    (alone : (q : ℕ) → q < length files → bytes_eq (name_at files q) (name_at files p) ≡ false → is_among (read_names files (name_at files q)) (name_at files p) ≡ false) where
  names_differ : (q : ℕ) → q < length files → (q == p) ≡ false → bytes_eq (name_at files q) (name_at files p) ≡ false
  names_differ q below other = by (bytes_eq (name_at files q) (name_at files p)) refl where
    by : (b : Bool) → bytes_eq (name_at files q) (name_at files p) ≡ b → b ≡ false
    by true e =
        let one : Some q ≡ Some p = sym (placed_name files q project below) ∙ ap (λ (n : List ℕ). index n files) ((bytes_eq-Decides (name_at files q) (name_at files p)).0 e) ∙ placed_name files p project lt in
        let same : q ≡ p = cc in
        let not = eq-eqb q p same in
        absurd (cc (not, other))
    by false e = refl

  row_apart : (q : ℕ) → q < length (read_graph files) → (0 + q == p) ≡ false → is_index (get_or (read_graph files) q []) p ≡ false
  row_apart q below other =
      let long = read_graph_long files in
      let there : q < length files = omega (arith, below, long) in
      let same : 0 + q ≡ q = omega arith in
      ap (λ (ws : List ℕ). is_index ws p) (row_there files project q there)
      ∙ no_index files (read_names files (name_at files q)) (name_at files p) p (placed_name files p project lt) (alone q there (names_differ q there (subst (λ (n : ℕ). (n == p) ≡ false) same other)))

  pub alone_readers : others p (readers_at files p) ≡ []
  alone_readers = others_from p (read_graph files) 0 row_apart

-- an index comes between those before it and those behind it
record AreAround (at : ℕ) (front : ℕ) (xs : List ℕ) : Type 0 where
  pub within : front ≤ length xs
  pub before : (k : ℕ) → k < front → get_or xs k 0 < at
  pub behind : (k : ℕ) → front ≤ k → k < length xs → at ≤ get_or xs k 0

cut : (at front : ℕ) (before behind : List ℕ) → AllByRecursion (λ q. q < at) before → AllByRecursion (λ q. at < q) behind → AreAround at front (before ++ behind)
    → (take front (before ++ behind) ≡ before) × (drop front (before ++ behind) ≡ behind)
cut at zero [] behind h k a = (refl, refl)
cut at (suc front) [] [] h k a = let w = a.within in absurd (omega (arith, w))
cut at (suc front) [] (q ∷ behind) h k a = let l = a.before 0 (omega arith) in let m = k.0 in absurd (omega (arith, l, m))
cut at zero (q ∷ before) behind h k a = let l = a.behind 0 (omega arith) (omega arith) in let m = h.0 in absurd (omega (arith, l, m))
cut at (suc front) (q ∷ before) behind h k a =
    let rest = cut at front before behind h.1 k (record {
      within = let w = a.within in omega (arith, w);
      before = λ n lt. a.before (suc n) (omega (arith, lt));
      behind = λ n le lt. a.behind (suc n) (omega (arith, le)) (omega (arith, lt));
    }) in
    (ap (λ (xs : List ℕ). q ∷ xs) rest.0, rest.1)

behind_there : (at : ℕ) (behind : List ℕ) (k d : ℕ) → AllByRecursion (λ q. at < q) behind → k < length behind → at < get_or behind k d
behind_there at [] k d h lt = absurd (omega (arith, lt))
behind_there at (q ∷ behind) zero d h lt = h.0
behind_there at (q ∷ behind) (suc k) d h lt = behind_there at behind k d h.1 (omega (arith, lt))

partitioned : (at : ℕ) (before behind : List ℕ) → AllByRecursion (λ q. q < at) before → AllByRecursion (λ q. at < q) behind → IsPartitionedBy (λ q. ltb q at) (before ++ behind)
partitioned at [] behind h k i j d le lt e = let l = behind_there at behind j d k lt in let m = ltb-true (get_or behind j d) at e in absurd (omega (arith, l, m))
partitioned at (q ∷ before) behind h k zero j d le lt e = lt-ltb q at h.0
partitioned at (q ∷ before) behind h k (suc i) zero d le lt e = absurd (omega (arith, le))
partitioned at (q ∷ before) behind h k (suc i) (suc j) d le lt e = partitioned at before behind h.1 k i j d (omega (arith, le)) (omega (arith, lt)) e

around : (at front : ℕ) (xs : List ℕ) → front ≤ length xs → IsPartitionPoint (λ q. ltb q at ≡ true) (λ q. ltb q at ≡ false) xs front → AreAround at front xs
around at front xs le point = record {
  within = le;
  before = λ k lt. ltb-true (get_or xs k 0) at (point.0 k 0 (omega arith) lt);
  behind = λ k le lt. ltb-false (get_or xs k 0) at (point.1 k 0 le lt);
}

pub comes_between : (at front : ℕ) (xs all : List ℕ) → front ≤ length xs → all ≡ take front xs ++ at ∷ drop front xs → (IsPartitionedBy (λ q. ltb q at) xs → IsPartitionPoint (λ q. ltb q at ≡ true) (λ q. ltb q at ≡ false) xs front)
    → (before behind : List ℕ) → xs ≡ before ++ behind → AllByRecursion (λ q. q < at) before → AllByRecursion (λ q. at < q) behind → all ≡ before ++ at ∷ behind
comes_between at front xs all le is point before behind e h k =
    let halves : IsPartitionedBy (λ q. ltb q at) xs = subst (IsPartitionedBy (λ q. ltb q at)) (sym e) (partitioned at before behind h k) in
    let parts = cut at front before behind h k (subst (AreAround at front) e (around at front xs le (point halves))) in
    is
    ∙ ap (λ (ys : List ℕ). take front ys ++ at ∷ drop front ys) e
    ∙ ap (λ (ys : List ℕ). ys ++ at ∷ drop front (before ++ behind)) parts.0
    ∙ ap (λ (ys : List ℕ). before ++ at ∷ ys) parts.1

-- after so many files are gone through, what is left leads to the others alone
abbrev pub IsFinding : List Read → List Facts → Graph → ℕ → Type 0
IsFinding files facts rows i =
    (length rows ≡ length files)
    × ((v : ℕ) → v < length files → get_or rows v [] ++ others v (sources_from i (map (λ (x : Facts). indices_of files x.reads) (drop i facts)) v) ≡ others v (sources (map (λ (x : Facts). indices_of files x.reads) facts) v))

module _ (files : List Read) (facts : List Facts) (f : facts ≡ all_facts files) (project : IsProject files) where
  abbrev edges_of : List Facts → Graph
  edges_of some = map (λ (x : Facts). indices_of files x.reads) some

  facts_long : length facts ≡ length files
  facts_long = ap (length {A = Facts}) f ∙ mapped_long files where
    mapped_long : (some : List Read) → length {A = Facts} (map (λ (file : Read). facts_of files file.name) some) ≡ length some
    mapped_long [] = refl
    mapped_long (x ∷ some) = ap (λ (n : ℕ). suc n) (mapped_long some)

  there_some : (some : List Facts) (i : ℕ) (known : Facts) → i < length some → known ≡ get_or some i known → Some known ≡ slice_get some i
  there_some [] i known lt e = absurd (omega (arith, lt))
  there_some (x ∷ some) zero known lt e = ap (λ (y : Facts). Some y) e
  there_some (x ∷ some) (suc i) known lt e = there_some some i known (omega (arith, lt)) e

  pub finding_more : (rows next : Graph) (i : ℕ) (known : Facts) (nodes : List ℕ) → i < length facts → known ≡ get_or facts i known → nodes ≡ indices_of files (drop 1 known.reads) → IsFinding files facts rows i
      → length next ≡ length rows → ((v : ℕ) → v < length rows → get_or next v [] ≡ get_or rows v [] ++ once_each i nodes v) → IsFinding files facts next (i + 1)
  finding_more rows next i known nodes lt is n h long added =
      let there : Some known ≡ slice_get facts i = there_some facts i known lt is in
      let same = h.0 in
      let within : i < length files = omega (arith, lt, facts_long) in
      let reads : known.reads ≡ read_names files (name_at files i) = read_at files facts i known f there in
      let first : drop i facts ≡ known ∷ drop (i + 1) facts = drop_more facts i known lt ∙ ap (λ (x : Facts). x ∷ drop (i + 1) facts) (sym is) in (
        long ∙ same,
        λ v vlt.
            let left : List ℕ = sources_from (i + 1) (edges_of (drop (i + 1) facts)) v in
            let row : once_each i nodes v ≡ others v (once_each i (indices_of files known.reads) v) =
            ap (λ (ws : List ℕ). once_each i ws v) (n ∙ ap (λ (names : List (List ℕ)). indices_of files (drop 1 names)) reads)
            ∙ sym (others_row files project i within v)
            ∙ ap (λ (names : List (List ℕ)). others v (once_each i (indices_of files names) v)) (sym reads)
            in
            ap (λ (xs : List ℕ). xs ++ others v left) (added v (omega (arith, vlt, same)))
            ∙ append_assoc (get_or rows v []) (once_each i nodes v) (others v left)
            ∙ ap (λ (xs : List ℕ). get_or rows v [] ++ (xs ++ others v left)) row
            ∙ ap (λ (xs : List ℕ). get_or rows v [] ++ xs) (sym (filter-append (λ w. not (w == v)) (once_each i (indices_of files known.reads) v) left))
            ∙ ap (λ (some : List Facts). get_or rows v [] ++ others v (sources_from i (edges_of some) v)) (sym first)
            ∙ h.1 v vlt,
      )

  pub finding_over : (rows : Graph) (i : ℕ) → length facts ≤ i → IsFinding files facts rows i → AreReaders files (Some rows)
  finding_over rows i le h p lt =
      let none : drop i facts ≡ [] = drop_all i facts le in
      let are : edges_of facts ≡ read_graph files = ap edges_of f ∙ read_edges_of files files in
      sym (append-nil (get_or rows p []))
      ∙ ap (λ (some : List Facts). get_or rows p [] ++ others p (sources_from i (edges_of some) p)) (sym none)
      ∙ h.1 p lt
      ∙ ap (λ (g : Graph). others p (sources g p)) are

-- what follows where a call gives something follows of what it gives
pub ok_more : {X E : Type 0} (P Q : X → Type 0) (r : Result X E) → ((x : X) → P x → Q x) → IfOk r P → IfOk r Q
ok_more P Q (Ok x) f h = f x h
ok_more P Q (Err e) f h = tt
