-- A file that is new to a project, and what is known then.
use Rattle.std.proofs.Common.{◌≡◌, ◌∙◌, ◌+◌, ◌<◌, ◌≤◌, ◌++◌, ◌||◌, ◌⊎◌, ℕ, zero, suc, Bool, true, false, cond, List, [], ◌∷◌, length, map, take, drop, get_or, Option, Some, None, refl, sym, ap, subst, inl, inr, arith}
use Rattle.std.specs.Prelude.{IfSome}
use Rattle.std.specs.List.{cons_option, insert, remove, slice_get}
use Rattle.std.specs.Option.{option_map, unwrap_or}
use Rattle.std.specs.Ordering.{match_ordering}
use Rattle.std.specs.Str.{bytes_eq}
use Rattle.std.specs.declared.cmp.Ordering.{Ordering}
use Rattle.std.specs.declared.cmp.Ordering.TheVariants.{Less, Equal, Greater}
use Rattle.std.proofs.lemmas.Bool.{cases_lt}
use Rattle.std.proofs.lemmas.List.{map-append, take-map, drop-map}
use Rattle.std.proofs.lemmas.List.Edits.{length-insert}
use Rattle.std.proofs.lemmas.Slice.Eq.{bytes_eq-Decides}
use Rattle.occ_base.specs.FileName.{is_unit}
use Rattle.occ_project_graph.specs.Adding.{raised, with_node}
use Rattle.occ_project_graph.specs.Graph.{Graph}
use Rattle.occ_project_graph.specs.Graph as graph
use Rattle.occ_project_graph.proofs.Added.{here_or, raised_above, raised_below}
use Rattle.occ_project.specs.Entries.{is_among}
use Rattle.occ_project.specs.Expansion.{expansion}
use Rattle.occ_project.specs.Reads.{name_cmp, index}
use Rattle.occ_project.specs.declared.reads.Read.{Read}
use Rattle.occ_project_units.proofs.Below.{named_at, placed_name}
use Rattle.occ_project_units.proofs.Edges.{named_index, targets_are}
use Rattle.occ_project_units.proofs.Finding.{index_within}
use Rattle.occ_project_units.proofs.Looks.{reads_itself, same_bytes}
use Rattle.occ_project_units.proofs.Putting.{put_gap}
use Rattle.occ_project_units.proofs.Renewed.{facts_at}
use Rattle.occ_project_units.proofs.Rising.{equal_names}
use Rattle.occ_project_units.proofs.Sharing.{facts_stay, put_others}
use Rattle.occ_project_units.specs.Along.{name_at}
use Rattle.occ_project_units.specs.New.{IsGap, IsNew}
use Rattle.occ_project_units.specs.Indices.{graph_of, indices_of}
use Rattle.occ_project_units.specs.Project.{IsProject, put}
use Rattle.occ_project_units.specs.Units.{read_names, used_units}
use Rattle.occ_project_units.specs.declared.facts.Facts.{Facts}
use Rattle.occ_project_units.specs.declared.lookers.Lookers.{Lookers}
use Rattle.occ_project_units.specs.inside.Keeping.{AreLookers, AreLookersIf, AreNotedWith, IsMore, IsNoted, all_facts, facts_of}

none_by : (b : Bool) → (b ≡ true → ⊥) → b ≡ false
none_by true f = absurd (f refl)
none_by false f = refl

-- names that are two are so both ways
pub apart_names : (a b : List ℕ) → bytes_eq a b ≡ false → bytes_eq b a ≡ false
apart_names a b h = none_by (bytes_eq b a) (λ k. let same : b ≡ a = (bytes_eq-Decides b a).0 k in let here : bytes_eq a b ≡ true = ap (bytes_eq a) same ∙ same_bytes a in cc (here, h))

raised_next : (k v : ℕ) → suc (raised k v) ≡ raised (suc k) (suc v)
raised_next k v = elim (cases_lt v k) [
  | inl below ↦ ap suc (raised_below k v below) ∙ sym (raised_below (suc k) (suc v) (omega (arith, below)))
  | inr above ↦ let a = raised_above k v above in let b = raised_above (suc k) (suc v) (omega (arith, above)) in omega (arith, a, b)
]

-- the indices of names where a file comes to an index
module _ (file : Read) (name : List ℕ) where
  index_next : (o : Option ℕ) → option_map suc o ≡ option_map (raised 0) o
  index_next None = refl
  index_next (Some v) = let e = raised_above 0 v (omega arith) in let same : suc v ≡ raised 0 v = omega (arith, e) in ap (λ (n : ℕ). Some n) same

  index_after : (k : ℕ) (b : Bool) (o : Option ℕ) → cond b (Some 0) (option_map suc (option_map (raised k) o)) ≡ option_map (raised (suc k)) (cond b (Some 0) (option_map suc o))
  index_after k true o = ap (λ (n : ℕ). Some n) (sym (raised_below (suc k) 0 (omega arith)))
  index_after k false None = refl
  index_after k false (Some v) = ap (λ (n : ℕ). Some n) (raised_next k v)

  index_in : (files : List Read) (at : ℕ) → at ≤ length files → bytes_eq file.name name ≡ false → index name (insert files at file) ≡ option_map (raised at) (index name files)
  index_in [] zero le h = ap (λ (b : Bool). cond b (Some 0) None) h
  index_in [] (suc at) le h = absurd (omega (arith, le))
  index_in (x ∷ files) zero le h = ap (λ (b : Bool). cond b (Some 0) (option_map suc (index name (x ∷ files)))) h ∙ index_next (index name (x ∷ files))
  index_in (x ∷ files) (suc at) le h =
      ap (λ (o : Option ℕ). cond (bytes_eq x.name name) (Some 0) (option_map suc o)) (index_in files at (omega (arith, le)) h)
      ∙ index_after at (bytes_eq x.name name) (index name files)

  index_itself : (files : List Read) (at : ℕ) → at ≤ length files → bytes_eq file.name name ≡ true → index name files ≡ None → index name (insert files at file) ≡ Some at
  index_itself [] zero le h none = ap (λ (b : Bool). cond b (Some 0) None) h
  index_itself [] (suc at) le h none = absurd (omega (arith, le))
  index_itself (x ∷ files) zero le h none = ap (λ (b : Bool). cond b (Some 0) (option_map suc (index name (x ∷ files)))) h
  index_itself (x ∷ files) (suc at) le h none = by (bytes_eq x.name name) (index name files) refl none (index_itself files at (omega (arith, le)) h) where
    by : (b : Bool) (o : Option ℕ) → index name files ≡ o → cond b (Some 0) (option_map suc o) ≡ None → (index name files ≡ None → index name (insert files at file) ≡ Some at) → cond b (Some 0) (option_map suc (index name (insert files at file))) ≡ Some (suc at)
    by true o e k rest = absurd cc
    by false None e k rest = ap (option_map suc) (rest e)
    by false (Some v) e k rest = absurd cc

pub insert_map : {X Y : Type 0} (f : X → Y) (xs : List X) (i : ℕ) (x : X) → map f (insert xs i x) ≡ insert (map f xs) i (f x)
insert_map {X} {Y} f xs i x =
    map-append f (take i xs) (x ∷ drop i xs)
    ∙ ap (λ (ys : List Y). ys ++ f x ∷ map f (drop i xs)) (sym (take-map f i xs))
    ∙ ap (λ (ys : List Y). take i (map f xs) ++ f x ∷ ys) (sym (drop-map f i xs))

-- what is inserted is removed again
insert_back : (files : List Read) (at : ℕ) (file : Read) → at ≤ length files → remove (insert files at file) at ≡ files
insert_back [] zero file le = refl
insert_back [] (suc at) file le = absurd (omega (arith, le))
insert_back (x ∷ files) zero file le = refl
insert_back (x ∷ files) (suc at) file le = ap (λ (fs : List Read). x ∷ fs) (insert_back files at file (omega (arith, le)))

pub same_map : {X : Type 0} (f h : Read → X) (files : List Read) → ((p : ℕ) (x : Read) → slice_get files p ≡ Some x → p < length files → f x ≡ h x) → map f files ≡ map h files
same_map f h [] e = refl
same_map {X} f h (x ∷ files) e = ap (λ (y : X). y ∷ map f files) (e 0 x refl (omega arith)) ∙ ap (λ (ys : List X). h x ∷ ys) (same_map f h files (λ p y s lt. e (suc p) y s (omega (arith, lt))))

twice : (r : List ℕ → List ℕ) (h : Read → List ℕ) (files : List Read) → map (λ (x : Read). r (h x)) files ≡ map r (map h files)
twice r h [] = refl
twice r h (x ∷ files) = ap (λ (rows : Graph). r (h x) ∷ rows) (twice r h files)

cons_raised : (at : ℕ) (o : Option ℕ) (ps : List ℕ) → cons_option (option_map (raised at) o) (map (raised at) ps) ≡ map (raised at) (cons_option o ps)
cons_raised at None ps = refl
cons_raised at (Some p) ps = refl

or_parts : (b c : Bool) → (b || c) ≡ false → (b ≡ false) × (c ≡ false)
or_parts true c h = absurd cc
or_parts false c h = (refl, h)

-- where a file would stand that is not there
module _ (files : List Read) (file : Read) (at : ℕ) (gap : IsGap file.name files at) where
  pub gap_put : insert files at file ≡ put files file
  gap_put = put_gap files file at gap

  pub gap_back : remove (put files file) at ≡ files
  gap_back = ap (λ (fs : List Read). remove fs at) (sym gap_put) ∙ insert_back files at file gap.within

  pub gap_long : length (put files file) ≡ length files + 1
  gap_long = ap (length {A = Read}) (sym gap_put) ∙ length-insert files at file gap.within

  pub gap_new : index file.name (put files file) ≡ Some at
  gap_new = ap (index file.name) (sym gap_put) ∙ index_itself file file.name files at gap.within (same_bytes file.name) gap.absent

  pub gap_then : (name : List ℕ) → bytes_eq file.name name ≡ false → index name (put files file) ≡ option_map (raised at) (index name files)
  gap_then name h = ap (index name) (sym gap_put) ∙ index_in file name files at gap.within h

  pub gap_name : name_at (put files file) at ≡ file.name
  gap_name = named_at (put files file) file.name at gap_new

  pub gap_indices : (names : List (List ℕ)) → is_among names file.name ≡ false → indices_of (put files file) names ≡ map (raised at) (indices_of files names)
  gap_indices [] h = refl
  gap_indices (n ∷ names) h =
      let parts = or_parts (bytes_eq n file.name) (is_among names file.name) h in
      ap (λ (o : Option ℕ). cons_option o (indices_of (put files file) names)) (gap_then n (apart_names n file.name parts.0))
      ∙ ap (cons_option (option_map (raised at) (index n files))) (gap_indices names parts.1)
      ∙ cons_raised at (index n files) (indices_of files names)

  named : (p : ℕ) (x : Read) → slice_get files p ≡ Some x → name_at files p ≡ x.name
  named p x e = ap (λ (o : Option Read). unwrap_or (option_map (λ (y : Read). y.name) o) []) e

  -- and that none reads
  module _ (unread : (p : ℕ) → p < length files → is_among (read_names files (name_at files p)) file.name ≡ false) where
    -- of what does not read it the same is known
    pub known_then : (p : ℕ) (x : Read) → slice_get files p ≡ Some x → p < length files → facts_of (put files file) x.name ≡ facts_of files x.name
    known_then p x e lt = sym (facts_stay files (put files file) x.name file.name (put_others files file)
        (ap (λ (n : List ℕ). is_among (read_names files n) file.name) (sym (named p x e)) ∙ unread p lt))

    pub all_known_then : insert (all_facts files) at (facts_of (put files file) file.name) ≡ all_facts (put files file)
    all_known_then =
        sym (ap (λ (facts : List Facts). insert facts at (facts_of (put files file) file.name)) (same_map (λ x. facts_of (put files file) x.name) (λ x. facts_of files x.name) files known_then))
        ∙ sym (insert_map (λ (x : Read). facts_of (put files file) x.name) files at file)
        ∙ ap (map (λ (x : Read). facts_of (put files file) x.name)) gap_put

module _ (files : List Read) (file : Read) (at : ℕ) (new : IsNew files file.name at) where
  pub put_back : remove (put files file) at ≡ files
  put_back = gap_back files file at new.gap

  pub put_long : length (put files file) ≡ length files + 1
  put_long = gap_long files file at new.gap

  pub index_new : index file.name (put files file) ≡ Some at
  index_new = gap_new files file at new.gap

  pub index_then : (name : List ℕ) → bytes_eq file.name name ≡ false → index name (put files file) ≡ option_map (raised at) (index name files)
  index_then name h = gap_then files file at new.gap name h

  pub name_new : name_at (put files file) at ≡ file.name
  name_new = gap_name files file at new.gap

  pub facts_then : insert (all_facts files) at (facts_of (put files file) file.name) ≡ all_facts (put files file)
  facts_then = all_known_then files file at new.gap new.unread

  row_then : (p : ℕ) (x : Read) → slice_get files p ≡ Some x → p < length files → indices_of (put files file) (used_units (put files file) x.name) ≡ map (raised at) (indices_of files (used_units files x.name))
  row_then p x e lt =
      ap (λ (f : Facts). indices_of (put files file) f.uses) (known_then files file at new.gap new.unread p x e lt)
      ∙ gap_indices files file at new.gap (used_units files x.name) (ap (λ (n : List ℕ). is_among (used_units files n) file.name) (sym (named files file at new.gap p x e)) ∙ new.unused p lt)

  pub graph_then : with_node (graph_of files) at (indices_of (put files file) (used_units (put files file) file.name)) ≡ graph_of (put files file)
  graph_then =
      sym (ap (λ (rows : Graph). insert rows at (indices_of (put files file) (used_units (put files file) file.name)))
      (same_map (λ x. indices_of (put files file) (used_units (put files file) x.name)) (λ x. map (raised at) (indices_of files (used_units files x.name))) files row_then ∙ twice (map (raised at)) (λ x. indices_of files (used_units files x.name)) files))
      ∙ sym (insert_map (λ (x : Read). indices_of (put files file) (used_units (put files file) x.name)) files at file)
      ∙ ap (map (λ (x : Read). indices_of (put files file) (used_units (put files file) x.name))) (gap_put files file at new.gap)

-- the new unit uses none that is not there
pub used_within : (files : List Read) (names : List (List ℕ)) (nodes : List ℕ) (n : ℕ) → nodes ≡ indices_of files names → length files ≡ n + 1 → (v : ℕ) → graph.is_among nodes v ≡ true → v ≤ n
used_within files names nodes n e l v h =
    let there = named_index files names v (ap (λ (ws : List ℕ). graph.is_among ws v) (sym e) ∙ h) in
    let lt = index_within there.0 files v there.2 in
    omega (arith, lt, l)

-- a name that has no index is not among those that all have one
indices_few : (files : List Read) (names : List (List ℕ)) → length (indices_of files names) ≤ length names
indices_few files [] = omega arith
indices_few files (n ∷ names) = by (index n files) (indices_few files names) where
  by : (o : Option ℕ) → length (indices_of files names) ≤ length names → length (cons_option o (indices_of files names)) ≤ suc (length names)
  by None h = omega (arith, h)
  by (Some p) h = omega (arith, h)

pub all_placed : (files : List Read) (names : List (List ℕ)) (name : List ℕ) → length (indices_of files names) ≡ length names → index name files ≡ None → is_among names name ≡ false
all_placed files [] name e none = refl
all_placed files (n ∷ names) name e none = by (index n files) refl e (λ k. all_placed files names name k none) where
  few : length (indices_of files names) ≤ length names
  few = indices_few files names

  by : (o : Option ℕ) → index n files ≡ o → length (cons_option o (indices_of files names)) ≡ suc (length names) → (length (indices_of files names) ≡ length names → is_among names name ≡ false) → is_among (n ∷ names) name ≡ false
  by None p h rest = absurd (omega (arith, h, few))
  by (Some q) p h rest =
      let other : bytes_eq n name ≡ false = none_by (bytes_eq n name) (λ k. let same : index n files ≡ None = ap (λ (m : List ℕ). index m files) ((bytes_eq-Decides n name).0 k) ∙ none in cc (p, same)) in
      ap (λ (b : Bool). b || is_among names name) other ∙ rest (omega (arith, h))

-- nor is it read by one that reads itself alone
one_only : (names : List (List ℕ)) (unit name : List ℕ) → length names ≤ 1 → is_among names unit ≡ true → bytes_eq unit name ≡ false → is_among names name ≡ false
one_only [] unit name le h other = refl
one_only (n ∷ []) unit name le h other = by (bytes_eq n unit) refl h where
  by : (b : Bool) → bytes_eq n unit ≡ b → (b || false) ≡ true → (bytes_eq n name || false) ≡ false
  by true e k = ap (λ (m : List ℕ). bytes_eq m name || false) ((bytes_eq-Decides n unit).0 e) ∙ ap (λ (b : Bool). b || false) other
  by false e k = absurd cc
one_only (n ∷ m ∷ names) unit name le h other = absurd (omega (arith, le))

pub one_read : (files : List Read) (unit name : List ℕ) → length (read_names files unit) ≤ 1 → bytes_eq unit name ≡ false → is_among (read_names files unit) name ≡ false
one_read files unit name le other = by (is_unit unit) le where
  by : (b : Bool) → length (cond b (expansion files unit).reads []) ≤ 1 → is_among (cond b (expansion files unit).reads []) name ≡ false
  by true k = one_only (expansion files unit).reads unit name k (reads_itself files unit) other
  by false k = refl

pub uses_at : (files : List Read) (facts : List Facts) (p : ℕ) (known : Facts) → facts ≡ all_facts files → Some known ≡ slice_get facts p → p < length files → known.uses ≡ used_units files (name_at files p)
uses_at files facts p known f e lt =
    let there : Some known ≡ Some (facts_of files (name_at files p)) = e ∙ ap (λ (fs : List Facts). slice_get fs p) f ∙ facts_at files p lt in
    let is : known ≡ facts_of files (name_at files p) = cc in
    ap (λ (x : Facts). x.uses) is

-- by what is known of the file at an index
module _ (files : List Read) (project : IsProject files) (name : List ℕ) (none : index name files ≡ None) (p : ℕ) (lt : p < length files) where
  pub other_there : bytes_eq (name_at files p) name ≡ false
  other_there = none_by (bytes_eq (name_at files p) name) (λ k.
      let there : index (name_at files p) files ≡ Some p = placed_name files p project lt in
      let same : index (name_at files p) files ≡ None = ap (λ (m : List ℕ). index m files) ((bytes_eq-Decides (name_at files p) name).0 k) ∙ none in
      cc (there, same))

  pub unread_there : (names : List (List ℕ)) → names ≡ read_names files (name_at files p) → (length names ≤ 1) ⊎ (is_among names name ≡ false) → is_among (read_names files (name_at files p)) name ≡ false
  unread_there names e h = elim h [
    | inl few ↦ let same = ap (length {A = List ℕ}) e in one_read files (name_at files p) name (omega (arith, few, same)) other_there
    | inr k ↦ ap (λ (ns : List (List ℕ)). is_among ns name) (sym e) ∙ k
  ]

  pub unused_there : (names : List (List ℕ)) (nodes : List ℕ) → names ≡ used_units files (name_at files p) → nodes ≡ get_or (graph_of files) p [] → (length nodes ≡ length names) ⊎ (is_among names name ≡ false) → is_among (used_units files (name_at files p)) name ≡ false
  unused_there names nodes e g h = elim h [
    | inl all ↦
        let indices : nodes ≡ indices_of files (used_units files (name_at files p)) = g ∙ targets_are files (name_at files p) p (placed_name files p project lt) in
        let long = ap (length {A = ℕ}) indices in
        let same = ap (length {A = List ℕ}) e in
        all_placed files (used_units files (name_at files p)) name (omega (arith, all, long, same)) none
    | inr k ↦ ap (λ (ns : List (List ℕ)). is_among ns name) (sym e) ∙ k
  ]

mapped_none : (f : ℕ → ℕ) (o : Option ℕ) → option_map f o ≡ None → o ≡ None
mapped_none f None h = refl
mapped_none f (Some x) h = absurd cc

-- who looks for what, once a file is that none reads
module _ (files : List Read) (file : Read) (at : ℕ) (gap : IsGap file.name files at) (unread : (p : ℕ) → p < length files → is_among (read_names files (name_at files p)) file.name ≡ false) (project : IsProject files) where
  facts_same : (p : ℕ) → p < length files → facts_of (put files file) (name_at files p) ≡ facts_of files (name_at files p)
  facts_same p lt = sym (facts_stay files (put files file) (name_at files p) file.name (put_others files file) (unread p lt))

  reads_same : (p : ℕ) → p < length files → read_names (put files file) (name_at files p) ≡ read_names files (name_at files p)
  reads_same p lt = ap (λ (f : Facts). f.reads) (facts_same p lt)

  name_then : (p : ℕ) → p < length files → name_at (put files file) (raised at p) ≡ name_at files p
  name_then p lt =
      named_at (put files file) (name_at files p) (raised at p)
      (gap_then files file at gap (name_at files p) (apart_names (name_at files p) file.name (other_there files project file.name gap.absent p lt))
      ∙ ap (option_map (raised at)) (placed_name files p project lt))

  absent_before : (name : List ℕ) → index name (put files file) ≡ None → index name files ≡ None
  absent_before name none =
      let other : bytes_eq file.name name ≡ false = none_by (bytes_eq file.name name) (λ k.
      let here : index name (put files file) ≡ Some at = ap (λ (n : List ℕ). index n (put files file)) (sym ((bytes_eq-Decides file.name name).0 k)) ∙ gap_new files file at gap in
      cc (here, none)) in
      mapped_none (raised at) (index name files) (sym (gap_then files file at gap name other) ∙ none)

  index_before : (p : ℕ) → raised at p < length (put files file) → p < length files
  index_before p lt =
      let long = gap_long files file at gap in
      let within = gap.within in
      elim (cases_lt p at) [
        | inl below ↦ omega (arith, below, within)
        | inr above ↦ let e = raised_above at p above in omega (arith, lt, e, long)
      ]

  module _ (lookers more : Lookers) (are : AreLookers files lookers) (m : IsMore lookers more) (new : IsNoted (put files file) file.name more) where
    still_noted : (p : ℕ) → p < length files → IsNoted (put files file) (name_at (put files file) (raised at p)) more
    still_noted p lt = subst (λ (n : List ℕ). IsNoted (put files file) n more) (sym (name_then p lt)) (λ name other.
        let was = are p lt name other in (
          λ k. m name (name_at files p) (was.0 (ap (λ (names : List (List ℕ)). is_among names name) (sym (reads_same p lt)) ∙ k)),
          λ none k. m name (name_at files p) (was.1 (absent_before name none) (ap (λ (f : Facts). is_among f.uses name) (sym (facts_same p lt)) ∙ k)),
        ))

    lookers_then : AreLookers (put files file) more
    lookers_then = λ p lt. elim (here_or at p) [
      | inl e ↦ subst (λ (n : List ℕ). IsNoted (put files file) n more) (sym (ap (name_at (put files file)) e ∙ gap_name files file at gap)) new
      | inr there ↦
          let same = there.1 in
          subst (λ (q : ℕ). IsNoted (put files file) (name_at (put files file) q) more) there.1 (still_noted there.0 (index_before there.0 (omega (arith, lt, same))))
    ]

  -- so it is where it was known before
  then_by : (lookers : Option Lookers) (next : Lookers) → AreLookersIf files lookers → AreNotedWith (put files file) at lookers next → AreLookers (put files file) next
  then_by None next are all = all
  then_by (Some lookers) next are noted = elim noted [
    | inl both ↦ lookers_then lookers next are both.0 (subst (λ (n : List ℕ). IsNoted (put files file) n next) (gap_name files file at gap) both.1)
    | inr all ↦ all
  ]

  pub lookers_then_if : (lookers found : Option Lookers) → AreLookersIf files lookers → IfSome found (λ next. AreNotedWith (put files file) at lookers next) → AreLookersIf (put files file) found
  lookers_then_if lookers None are h = tt
  lookers_then_if lookers (Some next) are h = then_by lookers next are h

-- a file that has no index comes to those that are there
pub put_longer : (files : List Read) (file : Read) → index file.name files ≡ None → length (put files file) ≡ length files + 1
put_longer [] file none = omega arith
put_longer (x ∷ files) file none = by (name_cmp file.name x.name) refl (put_longer files file) where
  rest_none : (b : Bool) (o : Option ℕ) → index file.name files ≡ o → cond b (Some 0) (option_map suc o) ≡ None → index file.name files ≡ None
  rest_none true o e k = absurd cc
  rest_none false None e k = e
  rest_none false (Some n) e k = absurd cc

  by : (o : Ordering) → name_cmp file.name x.name ≡ o → (index file.name files ≡ None → length (put files file) ≡ length files + 1) → length (match_ordering o (file ∷ x ∷ files) (file ∷ files) (x ∷ put files file)) ≡ length (x ∷ files) + 1
  by Less e rest = omega arith
  by Equal e rest =
      let here : index file.name (x ∷ files) ≡ Some 0 = ap (λ (b : Bool). cond b (Some 0) (option_map suc (index file.name files))) (ap (bytes_eq x.name) (equal_names file.name x.name e) ∙ same_bytes x.name) in
      absurd (cc (here, none))
  by Greater e rest = let more = rest (rest_none (bytes_eq x.name file.name) (index file.name files) refl none) in omega (arith, more)
