-- A file that is new to a project, that others use and that none reads.
use Rattle.std.proofs.Common.{◌≡◌, ◌∙◌, ◌+◌, ◌<◌, ◌≤◌, ◌++◌, ◌||◌, ℕ, zero, suc, Bool, true, false, cond, not, List, [], ◌∷◌, length, map, get_or, Option, Some, None, refl, sym, ap, subst, inl, inr, arith}
use Rattle.std.specs.Prelude.{nat_lt, slice_set}
use Rattle.std.specs.List.{AllByRecursion, cons_option, filter, flat_map, insert, slice_get}
use Rattle.std.specs.List.Sorted.{IsStrictlySortedBy}
use Rattle.std.specs.Option.{option_map}
use Rattle.std.specs.Str.{bytes_eq}
use Rattle.std.specs.declared.cmp.Ordering.{Ordering}
use Rattle.std.specs.declared.cmp.Ordering.TheVariants.{Less, Equal, Greater}
use Rattle.std.proofs.lemmas.Bool.{cases_lt, le-ltb, lt-ltb}
use Rattle.std.proofs.lemmas.List.{length-map}
use Rattle.occ_base.specs.FileName.{is_unit}
use Rattle.occ_base.specs.Order.{placed}
use Rattle.occ_project_graph.specs.Adding.{IsParted, raised, row_with, rows_with, with_used_node}
use Rattle.occ_project_graph.specs.Graph.{Graph, targets}
use Rattle.occ_project_graph.proofs.Added.{raised_above, raised_below}
use Rattle.occ_project.specs.Entries.{is_among}
use Rattle.occ_project.specs.Expansion.{expansion}
use Rattle.occ_project.specs.Reads.{name_cmp, index}
use Rattle.occ_project.specs.Uses.{units_of, used_in}
use Rattle.occ_project.specs.declared.reads.Read.{Read}
use Rattle.occ_project_units.proofs.Added.{apart_names, gap_indices, gap_long, gap_name, gap_new, gap_put, gap_then, all_known_then, insert_map, known_then}
use Rattle.occ_project_units.proofs.Below.{get_some, named_at}
use Rattle.occ_project_units.proofs.Edges.{get_map, graph_long, no_edge, slice_some}
use Rattle.occ_project_units.proofs.Finding.{index_within}
use Rattle.occ_project_units.proofs.Rising.{all_more, apart, equal_names, insert_rising, less_joined, turned}
use Rattle.occ_project_units.specs.Along.{name_at}
use Rattle.occ_project_units.specs.New.{IsGap}
use Rattle.occ_project_units.specs.Indices.{graph_of, indices_of}
use Rattle.occ_project_units.specs.Project.{put}
use Rattle.occ_project_units.specs.Units.{used_units}
use Rattle.occ_project_units.specs.declared.facts.Facts.{Facts}
use Rattle.occ_project_units.specs.inside.Keeping.{IsJoining, IsUnread, all_facts, facts_of}

-- the units that a unit uses are in order of name
placed_rises : (names : List (List ℕ)) → IsStrictlySortedBy name_cmp (placed name_cmp names [])
unfolding IsStrictlySortedBy
placed_rises [] = tt
placed_rises (n ∷ names) = insert_rising (placed name_cmp names []) n (placed_rises names)

no_names : IsStrictlySortedBy name_cmp []
unfolding IsStrictlySortedBy
no_names = tt

pub uses_rise : (files : List Read) (unit : List ℕ) → IsStrictlySortedBy name_cmp (used_units files unit)
uses_rise files unit = by (is_unit unit) where
  by : (b : Bool) → IsStrictlySortedBy name_cmp (cond b (used_in (expansion files unit).lines) [])
  by true = placed_rises (flat_map units_of (expansion files unit).lines)
  by false = no_names

-- the first of names in order is less than the others
first_least : (n : List ℕ) (names : List (List ℕ)) → IsStrictlySortedBy name_cmp (n ∷ names) → AllByRecursion (λ m. name_cmp n m ≡ Less) names
unfolding IsStrictlySortedBy
first_least n names s = s.0

others_rise : (n : List ℕ) (names : List (List ℕ)) → IsStrictlySortedBy name_cmp (n ∷ names) → IsStrictlySortedBy name_cmp names
unfolding IsStrictlySortedBy
others_rise n names s = s.1

-- where a file would stand that is not there
module _ (files : List Read) (file : Read) (at : ℕ) (gap : IsGap file.name files at) where
  -- a file of a lesser name stands before it, and one of a greater name does not
  lesser : (n : List ℕ) (p : ℕ) → index n files ≡ Some p → name_cmp n file.name ≡ Less → p < at
  lesser n p e l = elim (cases_lt p at) [
    | inl below ↦ below
    | inr above ↦
        let within = index_within n files p e in
        let name : (get_or files p file).name ≡ n = get_some files p file within ∙ named_at files n p e in
        let greater : name_cmp n file.name ≡ Greater = ap (λ (m : List ℕ). name_cmp m file.name) (sym name) ∙ gap.after p file above within in
        absurd (cc (l, greater))
  ]

  greater : (n : List ℕ) (p : ℕ) → index n files ≡ Some p → name_cmp n file.name ≡ Greater → at ≤ p
  greater n p e l = elim (cases_lt p at) [
    | inl below ↦
        let within = index_within n files p e in
        let name : (get_or files p file).name ≡ n = get_some files p file within ∙ named_at files n p e in
        let less : name_cmp n file.name ≡ Less = ap (λ (m : List ℕ). name_cmp m file.name) (sym name) ∙ gap.before p file (omega arith) below in
        absurd (cc (l, less))
    | inr above ↦ above
  ]

  -- names that are greater
  abbrev pub AreGreater : List (List ℕ) → Type 0
  AreGreater names = AllByRecursion (λ n. name_cmp file.name n ≡ Less) names

  none_before : (names : List (List ℕ)) → AreGreater names → filter (λ w. nat_lt w at) (indices_of files names) ≡ []
  none_before [] k = refl
  none_before (n ∷ names) k = by (index n files) refl (none_before names k.1) where
    ws : List ℕ
    ws = indices_of files names

    by : (o : Option ℕ) → index n files ≡ o → filter (λ w. nat_lt w at) ws ≡ [] → filter (λ w. nat_lt w at) (cons_option o ws) ≡ []
    by None e rest = rest
    by (Some p) e rest = ap (λ (b : Bool). cond b (p ∷ filter (λ w. nat_lt w at) ws) (filter (λ w. nat_lt w at) ws)) (le-ltb p at (greater n p e (turned file.name n Less k.0))) ∙ rest

  all_behind : (names : List (List ℕ)) → AreGreater names → filter (λ w. not (nat_lt w at)) (indices_of files names) ≡ indices_of files names
  all_behind [] k = refl
  all_behind (n ∷ names) k = by (index n files) refl (all_behind names k.1) where
    ws : List ℕ
    ws = indices_of files names

    by : (o : Option ℕ) → index n files ≡ o → filter (λ w. not (nat_lt w at)) ws ≡ ws → filter (λ w. not (nat_lt w at)) (cons_option o ws) ≡ cons_option o ws
    by None e rest = rest
    by (Some p) e rest =
        ap (λ (b : Bool). cond (not b) (p ∷ filter (λ w. not (nat_lt w at)) ws) (filter (λ w. not (nat_lt w at)) ws)) (le-ltb p at (greater n p e (turned file.name n Less k.0)))
        ∙ ap (λ (vs : List ℕ). p ∷ vs) rest

  all_rise : (names : List (List ℕ)) → AreGreater names → map (raised at) (indices_of files names) ≡ map (λ (w : ℕ). w + 1) (indices_of files names)
  all_rise [] k = refl
  all_rise (n ∷ names) k = by (index n files) refl (all_rise names k.1) where
    ws : List ℕ
    ws = indices_of files names

    by : (o : Option ℕ) → index n files ≡ o → map (raised at) ws ≡ map (λ (w : ℕ). w + 1) ws → map (raised at) (cons_option o ws) ≡ map (λ (w : ℕ). w + 1) (cons_option o ws)
    by None e rest = rest
    by (Some p) e rest =
        ap (λ (v : ℕ). v ∷ map (raised at) ws) (raised_above at p (greater n p e (turned file.name n Less k.0)))
        ∙ ap (λ (vs : List ℕ). (p + 1) ∷ vs) rest

  none_named : (names : List (List ℕ)) → AreGreater names → is_among names file.name ≡ false
  none_named [] k = refl
  none_named (n ∷ names) k = ap (λ (b : Bool). b || is_among names file.name) (apart n file.name Greater (turned file.name n Less k.0)) ∙ none_named names k.1

  following_greater : (n : List ℕ) (names : List (List ℕ)) → name_cmp n file.name ≡ Greater → AllByRecursion (λ m. name_cmp n m ≡ Less) names → AreGreater names
  following_greater n names g all = all_more (λ m. name_cmp n m ≡ Less) (λ m. name_cmp file.name m ≡ Less) names (λ m l. less_joined file.name n m (turned n file.name Greater g) l) all

  following_equal : (n : List ℕ) (names : List (List ℕ)) → name_cmp n file.name ≡ Equal → AllByRecursion (λ m. name_cmp n m ≡ Less) names → AreGreater names
  following_equal n names e all = subst (λ (x : List ℕ). AllByRecursion (λ m. name_cmp x m ≡ Less) names) (equal_names n file.name e) all

  -- the indices of names in order
  pub indices_parted : (names : List (List ℕ)) → IsStrictlySortedBy name_cmp names → IsParted at (indices_of files names)
  indices_parted [] s = refl
  indices_parted (n ∷ names) s = by (index n files) (name_cmp n file.name) refl refl (indices_parted names (others_rise n names s)) where
    ws : List ℕ
    ws = indices_of files names

    by : (o : Option ℕ) (c : Ordering) → index n files ≡ o → name_cmp n file.name ≡ c → IsParted at ws → IsParted at (cons_option o ws)
    by None c e k rest = rest
    by (Some p) Less e k rest =
        let front = lt-ltb p at (lesser n p e k) in
        ap (λ (vs : List ℕ). p ∷ vs) rest
        ∙ sym (ap (λ (b : Bool). cond b (p ∷ filter (λ w. nat_lt w at) ws) (filter (λ w. nat_lt w at) ws) ++ cond (not b) (p ∷ filter (λ w. not (nat_lt w at)) ws) (filter (λ w. not (nat_lt w at)) ws)) front)
    by (Some p) Equal e k rest =
        let none : index n files ≡ None = ap (λ (m : List ℕ). index m files) (equal_names n file.name k) ∙ gap.absent in
        absurd (cc (e, none))
    by (Some p) Greater e k rest =
        let behind = le-ltb p at (greater n p e k) in
        let all = following_greater n names k (first_least n names s) in
        ap (λ (vs : List ℕ). p ∷ vs) (sym (all_behind names all))
        ∙ ap (λ (vs : List ℕ). vs ++ p ∷ filter (λ w. not (nat_lt w at)) ws) (sym (none_before names all))
        ∙ sym (ap (λ (b : Bool). cond b (p ∷ filter (λ w. nat_lt w at) ws) (filter (λ w. nat_lt w at) ws) ++ cond (not b) (p ∷ filter (λ w. not (nat_lt w at)) ws) (filter (λ w. not (nat_lt w at)) ws)) behind)

  -- and where one of them is that of the file
  pub indices_with : (names : List (List ℕ)) → IsStrictlySortedBy name_cmp names → is_among names file.name ≡ true → indices_of (put files file) names ≡ row_with at (indices_of files names)
  indices_with [] s h = absurd cc
  indices_with (n ∷ names) s h = by (name_cmp n file.name) refl (indices_with names (others_rise n names s)) where
    ws : List ℕ
    ws = indices_of files names

    later : List ℕ
    later = indices_of (put files file) names

    less_by : (o : Option ℕ) → index n files ≡ o → name_cmp n file.name ≡ Less → later ≡ row_with at ws → cons_option (option_map (raised at) o) later ≡ row_with at (cons_option o ws)
    less_by None e k rest = rest
    less_by (Some p) e k rest =
        let front = lesser n p e k in
        ap (λ (v : ℕ). v ∷ later) (raised_below at p front)
        ∙ ap (λ (vs : List ℕ). p ∷ vs) rest
        ∙ sym (ap (λ (b : Bool). cond b (p ∷ filter (λ w. nat_lt w at) ws) (filter (λ w. nat_lt w at) ws) ++ at ∷ map (λ (w : ℕ). w + 1) (cond (not b) (p ∷ filter (λ w. not (nat_lt w at)) ws) (filter (λ w. not (nat_lt w at)) ws))) (lt-ltb p at front))

    by : (c : Ordering) → name_cmp n file.name ≡ c → (is_among names file.name ≡ true → later ≡ row_with at ws) → indices_of (put files file) (n ∷ names) ≡ row_with at (indices_of files (n ∷ names))
    by Less k rest =
        let other : bytes_eq n file.name ≡ false = apart n file.name Less k in
        let there : is_among names file.name ≡ true = ap (λ (b : Bool). b || is_among names file.name) (sym other) ∙ h in
        ap (λ (o : Option ℕ). cons_option o later) (gap_then files file at gap n (apart_names n file.name other))
        ∙ less_by (index n files) refl k (rest there)
    by Equal k rest =
        let same : n ≡ file.name = equal_names n file.name k in
        let all = following_equal n names k (first_least n names s) in
        ap (λ (o : Option ℕ). cons_option o later) (ap (λ (m : List ℕ). index m (put files file)) same ∙ gap_new files file at gap)
        ∙ ap (λ (vs : List ℕ). at ∷ vs) (gap_indices files file at gap names (none_named names all) ∙ all_rise names all ∙ ap (map (λ (w : ℕ). w + 1)) (sym (all_behind names all)))
        ∙ ap (λ (vs : List ℕ). vs ++ at ∷ map (λ (w : ℕ). w + 1) (filter (λ w. not (nat_lt w at)) ws)) (sym (none_before names all))
        ∙ ap (λ (o : Option ℕ). row_with at (cons_option o ws)) (sym (ap (λ (m : List ℕ). index m files) same ∙ gap.absent))
    by Greater k rest =
        let none : is_among (n ∷ names) file.name ≡ false =
        ap (λ (b : Bool). b || is_among names file.name) (apart n file.name Greater k) ∙ none_named names (following_greater n names k (first_least n names s)) in
        absurd (cc (h, none))

-- rows of which each is so
rows_same : (at : ℕ) (xs : List Read) (f l : Read → List ℕ) (m : Read → Bool) → ((p : ℕ) (x : Read) → slice_get xs p ≡ Some x → p < length xs → l x ≡ cond (m x) (row_with at (f x)) (map (raised at) (f x))) → map l xs ≡ rows_with at (map f xs) (map m xs)
rows_same at [] f l m e = refl
rows_same at (x ∷ xs) f l m e =
    ap (λ (ws : List ℕ). ws ∷ map l xs) (e 0 x refl (omega arith))
    ∙ ap (λ (rows : Graph). cond (m x) (row_with at (f x)) (map (raised at) (f x)) ∷ rows) (rows_same at xs f l m (λ p y s lt. e (suc p) y s (omega (arith, lt))))

marks_are : (files xs : List Read) (name : List ℕ) → map (λ (f : Facts). is_among f.uses name) (map (λ (x : Read). facts_of files x.name) xs) ≡ map (λ (x : Read). is_among (used_units files x.name) name) xs
marks_are files [] name = refl
marks_are files (x ∷ xs) name = ap (λ (ms : List Bool). is_among (used_units files x.name) name ∷ ms) (marks_are files xs name)

-- the row of the new node is put in its place
set_inserted : (rows : Graph) (at : ℕ) (old new : List ℕ) → at ≤ length rows → slice_set (insert rows at old) at new ≡ insert rows at new
set_inserted rows zero old new h = refl
set_inserted [] (suc at) old new h = absurd (omega (arith, h))
set_inserted (row ∷ rows) (suc at) old new h = ap (λ (g : Graph). row ∷ g) (set_inserted rows at old new (omega (arith, h)))

rows_with_long : (at : ℕ) (g : Graph) (marks : List Bool) → length (rows_with at g marks) ≡ length g
rows_with_long at [] marks = refl
rows_with_long at (ws ∷ g) [] = ap suc (rows_with_long at g [])
rows_with_long at (ws ∷ g) (m ∷ marks) = ap suc (rows_with_long at g marks)

-- where edges lead from it to none it is as it was put
pub none_set : (g : Graph) (at : ℕ) (marks : List Bool) → at ≤ length g → slice_set (with_used_node g at marks) at [] ≡ with_used_node g at marks
none_set g at marks h = let long = rows_with_long at g marks in set_inserted (rows_with at g marks) at [] [] (omega (arith, h, long))

module _ (files : List Read) (file : Read) (at : ℕ) (new : IsUnread files file.name at) where
  row_is : (p : ℕ) (x : Read) → slice_get files p ≡ Some x → p < length files
      → indices_of (put files file) (used_units (put files file) x.name) ≡ cond (is_among (used_units files x.name) file.name) (row_with at (indices_of files (used_units files x.name))) (map (raised at) (indices_of files (used_units files x.name)))
  row_is p x e lt = ap (λ (f : Facts). indices_of (put files file) f.uses) (known_then files file at new.gap new.unread p x e lt) ∙ by (is_among (used_units files x.name) file.name) refl where
    names : List (List ℕ)
    names = used_units files x.name

    by : (b : Bool) → is_among names file.name ≡ b → indices_of (put files file) names ≡ cond b (row_with at (indices_of files names)) (map (raised at) (indices_of files names))
    by true h = indices_with files file at new.gap names (uses_rise files x.name) h
    by false h = gap_indices files file at new.gap names h

  abbrev pub marks : List Bool
  marks = map (λ (x : Read). is_among (used_units files x.name) file.name) files

  graph_with : slice_set (with_used_node (graph_of files) at marks) at (indices_of (put files file) (used_units (put files file) file.name)) ≡ graph_of (put files file)
  graph_with =
      set_inserted (rows_with at (graph_of files) marks) at [] (indices_of (put files file) (used_units (put files file) file.name)) fits
      ∙ ap (λ (rows : Graph). insert rows at (indices_of (put files file) (used_units (put files file) file.name))) (sym (rows_same at files (λ x. indices_of files (used_units files x.name)) (λ x. indices_of (put files file) (used_units (put files file) x.name)) (λ x. is_among (used_units files x.name) file.name) row_is))
      ∙ sym (insert_map (λ (x : Read). indices_of (put files file) (used_units (put files file) x.name)) files at file)
      ∙ ap (map (λ (x : Read). indices_of (put files file) (used_units (put files file) x.name))) (gap_put files file at new.gap)
    where
      fits : at ≤ length (rows_with at (graph_of files) marks)
      fits = let within = new.gap.within in let rows = graph_long files in let long = rows_with_long at (graph_of files) marks in omega (arith, within, rows, long)

  parted_at : (u : ℕ) → IsParted at (targets (graph_of files) u)
  parted_at u = elim (cases_lt u (length files)) [
    | inl below ↦
        let there = slice_some files u below in
        subst (IsParted at) (sym (get_map (λ (x : Read). indices_of files (used_units files x.name)) files u there.0 [] there.1)) (indices_parted files file at new.gap (used_units files there.0.name) (uses_rise files there.0.name))
    | inr above ↦ let long = graph_long files in subst (IsParted at) (sym (no_edge (graph_of files) u (omega (arith, above, long)))) refl
  ]

  pub joining : IsJoining (all_facts files) (graph_of files) (put files file) at
  joining =
      let within = new.gap.within in
      let long = gap_long files file at new.gap in
      let facts = length-map files (λ (x : Read). facts_of files x.name) in
      let rows = graph_long files in
      let name : name_at (put files file) at ≡ file.name = gap_name files file at new.gap in
      record {
        within = omega (arith, within, long);
        facts_fit = omega (arith, within, facts);
        links_fit = omega (arith, within, rows);
        facts_are = ap (λ (n : List ℕ). insert (all_facts files) at (facts_of (put files file) n)) name ∙ all_known_then files file at new.gap new.unread;
        parted = λ u m. parted_at u;
        long = omega (arith, long, rows);
        links_are =
            ap (λ (n : List ℕ). slice_set (with_used_node (graph_of files) at (map (λ (f : Facts). is_among f.uses n) (all_facts files))) at (indices_of (put files file) (used_units (put files file) n))) name
            ∙ ap (λ (ms : List Bool). slice_set (with_used_node (graph_of files) at ms) at (indices_of (put files file) (used_units (put files file) file.name))) (marks_are files files file.name)
            ∙ graph_with;
      }
