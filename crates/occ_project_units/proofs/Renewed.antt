-- A file that is put in the place of the one of its name, and what is known then of the units that read it.
use Rattle.std.proofs.Common.{◌≡◌, ◌∙◌, ◌+◌, ◌<◌, ◌≤◌, ◌||◌, ◌==◌, ◌⊎◌, ◌++◌, ℕ, zero, suc, Bool, true, false, cond, List, [], ◌∷◌, length, map, take, get_or, set, Option, Some, None, refl, sym, ap, subst, inl, inr, arith, ◌↔◌}
use Rattle.std.proofs.lemmas.Bool.{cases_lt, eq-eqb, eqb-false, eqb-true}
use Rattle.std.proofs.lemmas.List.{take_more}
use Rattle.std.proofs.lemmas.Slice.Eq.{bytes_eq-Decides}
use Rattle.std.specs.List.{cons_option, slice_get}
use Rattle.std.specs.Option.{is_some, option_map, unwrap_or}
use Rattle.std.specs.Str.{bytes_eq}
use Rattle.occ_base.specs.FileName.{is_unit}
use Rattle.occ_project_graph.specs.Graph.{Graph, has_edge, is_among as is_index}
use Rattle.occ_project_graph.specs.Sources.{sources}
use Rattle.occ_project.specs.Entries.{is_among}
use Rattle.occ_forms.specs.Prepared.{Prepared}
use Rattle.occ_lines.specs.Listing.{listed}
use Rattle.occ_project.specs.Expansion.{Expansion}
use Rattle.occ_project.specs.Reads.{index, lines_in, listed_in}
use Rattle.occ_project.specs.Uses.{used_in}
use Rattle.occ_project.specs.declared.reads.Read.{Read}
use Rattle.occ_project_units.proofs.Below.{named_at, placed_name}
use Rattle.occ_project_units.proofs.Edges.{among_indices, file_at, file_there, get_map, graph_long, named_index, same_index, slice_some}
use Rattle.occ_project_units.proofs.Kept.{map_at}
use Rattle.occ_project_units.proofs.Looks.{IsAlike, looks_alike}
use Rattle.occ_project_units.proofs.Narrowed.{file_source}
use Rattle.occ_project_units.proofs.Putting.{file_put, put_at, put_rises}
use Rattle.occ_project_units.proofs.Sharing.{facts_stay, index_stays, put_others}
use Rattle.occ_project_units.specs.Alike.{AreAlike}
use Rattle.occ_project_units.specs.Along.{name_at}
use Rattle.occ_project_units.specs.Indices.{graph_of, indices_of, read_graph, readers_at}
use Rattle.occ_project_units.specs.Project.{IsProject, file_of, put}
use Rattle.occ_project_units.specs.Units.{read_names, used_units}
use Rattle.occ_project_units.specs.declared.facts.Facts.{Facts}
use Rattle.occ_project_units.specs.declared.lookers.Lookers.{Lookers}
use Rattle.occ_project_units.specs.inside.Keeping.{AreAsBefore, AreLookers, AreLookersIf, AreOthers, AreReaders, IsNoted, IsAsBefore, IsGraph, IsRenewed, all_facts, facts_of, others as but}

-- what was at an index comes back to it
set_back : {X : Type 0} (xs : List X) (p : ℕ) (x y : X) → slice_get xs p ≡ Some x → set (set xs p y) p x ≡ xs
set_back {X} [] p x y e = refl
set_back {X} (z ∷ xs) zero x y e = let is : z ≡ x = cc in ap (λ (w : X). w ∷ xs) (sym is)
set_back {X} (z ∷ xs) (suc p) x y e = ap (λ (ws : List X). z ∷ ws) (set_back xs p x y e)

put_back : (files : List Read) (file : Read) (p : ℕ) → IsProject files → index file.name files ≡ Some p → (index (file_of files file.name).name (put files file) ≡ Some p) × (put (put files file) (file_of files file.name) ≡ files)
put_back files file p s e =
    let there = file_at files file.name p e in
    let is : there.0 ≡ file_of files file.name = ap (λ (o : Option Read). unwrap_or o (record { name = file.name; revision = 0; source = None })) (sym there.1 ∙ file_there files file.name p e) in
    let x : Read = file_of files file.name in
    let here : slice_get files p ≡ Some x = there.1 ∙ ap (λ (f : Read). Some f) is in
    let named : x.name ≡ file.name = ap (λ (f : Read). f.name) (sym is) ∙ there.2 in
    let known : is_some (index file.name files) ≡ true = ap (λ (o : Option ℕ). is_some o) e in
    let still : index x.name (put files file) ≡ Some p = ap (λ (n : List ℕ). index n (put files file)) named ∙ index_stays file file.name files s known ∙ e in (
      still,
      sym (put_at (put files file) x p (put_rises files file s) still)
          ∙ ap (λ (fs : List Read). set fs p x) (sym (put_at files file p s e))
          ∙ set_back files p x file here,
    )

pub back_placed : (files now : List Read) (file x : Read) (p : ℕ) → IsProject files → index file.name files ≡ Some p → now ≡ put files file → x ≡ file_of files file.name → index x.name now ≡ Some p
back_placed files now file x p s e n k = ap (λ (f : Read). index f.name now) k ∙ ap (index (file_of files file.name).name) n ∙ (put_back files file p s e).0

pub back_is : (files now later : List Read) (file x : Read) (p : ℕ) → IsProject files → index file.name files ≡ Some p → now ≡ put files file → x ≡ file_of files file.name → later ≡ put now x → later ≡ files
back_is files now later file x p s e n k l = l ∙ ap (put now) k ∙ ap (λ (fs : List Read). put fs (file_of files file.name)) n ∙ (put_back files file p s e).1

-- of each file the indices of those that it reads
pub read_edges_of : (files some : List Read) → map (λ (f : Facts). indices_of files f.reads) (map (λ (file : Read). facts_of files file.name) some) ≡ map (λ (file : Read). indices_of files (read_names files file.name)) some
read_edges_of files [] = refl
read_edges_of files (x ∷ some) =
    ap (λ (es : Graph). indices_of files (read_names files x.name) ∷ es) (read_edges_of files some)

map_long : {X Y : Type 0} (f : X → Y) (xs : List X) → length (map f xs) ≡ length xs
map_long f [] = refl
map_long f (x ∷ xs) = ap (λ (n : ℕ). suc n) (map_long f xs)

pub read_graph_long : (files : List Read) → length (read_graph files) ≡ length files
read_graph_long files = map_long (λ (f : Read). indices_of files (read_names files f.name)) files

-- a number at an index among others is one of them
pub among_there : (ws : List ℕ) (i : ℕ) → i < length ws → is_index ws (get_or ws i 0) ≡ true
among_there [] i lt = absurd (omega (arith, lt))
among_there (x ∷ ws) zero lt = ap (λ (b : Bool). b || is_index ws x) (eq-eqb x x refl)
among_there (x ∷ ws) (suc i) lt = by (x == get_or ws i 0) (among_there ws i (omega (arith, lt))) where
  by : (b : Bool) → is_index ws (get_or ws i 0) ≡ true → (b || is_index ws (get_or ws i 0)) ≡ true
  by true h = refl
  by false h = h

-- and each of them stands at one
pub there_among : (ws : List ℕ) (p : ℕ) → is_index ws p ≡ true → (i : ℕ) × ((i < length ws) × (get_or ws i 0 ≡ p))
there_among [] p h = absurd cc
there_among (x ∷ ws) p h = by (x == p) refl h (λ k. there_among ws p k) where
  by : (b : Bool) → (x == p) ≡ b → (b || is_index ws p) ≡ true → (is_index ws p ≡ true → (i : ℕ) × ((i < length ws) × (get_or ws i 0 ≡ p))) → (i : ℕ) × ((i < length (x ∷ ws)) × (get_or (x ∷ ws) i 0 ≡ p))
  by true e k rest = (0, (omega arith, eqb-true x p e))
  by false e k rest = let more = rest k in let lt = more.1.0 in (suc more.0, (omega (arith, lt), more.1.1))

-- what is beyond the end is not set
pub set_beyond : {X : Type 0} (xs : List X) (p : ℕ) (x : X) → length xs ≤ p → set xs p x ≡ xs
set_beyond {X} [] p x h = refl
set_beyond {X} (y ∷ xs) zero x h = absurd (omega (arith, h))
set_beyond {X} (y ∷ xs) (suc p) x h = ap (λ (ws : List X). y ∷ ws) (set_beyond xs p x (omega (arith, h)))

-- the last of what was found is put first
snoc_same : {X : Type 0} (xs ys : List X) (x y : X) → xs ++ x ∷ [] ≡ ys ++ y ∷ [] → (xs ≡ ys) × (x ≡ y)
snoc_same {X} [] [] x y e = let k : x ≡ y = cc in (refl, k)
snoc_same {X} [] (b ∷ []) x y e = cc
snoc_same {X} [] (b ∷ c ∷ ys) x y e = cc
snoc_same {X} (a ∷ []) [] x y e = cc
snoc_same {X} (a ∷ c ∷ xs) [] x y e = cc
snoc_same {X} (a ∷ xs) (b ∷ ys) x y e =
    let first : a ≡ b = cc in
    let rest : xs ++ x ∷ [] ≡ ys ++ y ∷ [] = cc in
    let more = snoc_same xs ys x y rest in
    (ap (λ (z : X). z ∷ xs) first ∙ ap (λ (zs : List X). b ∷ zs) more.0, more.1)

map_last : {X Y : Type 0} (f : X → Y) (xs : List X) (x : X) → map f (xs ++ x ∷ []) ≡ map f xs ++ f x ∷ []
map_last f [] x = refl
map_last {X} {Y} f (y ∷ xs) x = ap (λ (ys : List Y). f y ∷ ys) (map_last f xs x)

last_long : {X : Type 0} (xs : List X) (x : X) → length (xs ++ x ∷ []) ≡ length xs + 1
last_long [] x = refl
last_long (y ∷ xs) x = let more = last_long xs x in omega (arith, more)

slice_set_here : {X : Type 0} (xs : List X) (p : ℕ) (x : X) → p < length xs → slice_get (set xs p x) p ≡ Some x
slice_set_here [] p x lt = absurd (omega (arith, lt))
slice_set_here (y ∷ xs) zero x lt = refl
slice_set_here (y ∷ xs) (suc p) x lt = slice_set_here xs p x (omega (arith, lt))

slice_set_apart : {X : Type 0} (xs : List X) (p q : ℕ) (x : X) → (q ≡ p → ⊥) → slice_get (set xs p x) q ≡ slice_get xs q
slice_set_apart [] p q x n = refl
slice_set_apart (y ∷ xs) zero zero x n = absurd (n refl)
slice_set_apart (y ∷ xs) zero (suc q) x n = refl
slice_set_apart (y ∷ xs) (suc p) zero x n = refl
slice_set_apart (y ∷ xs) (suc p) (suc q) x n = slice_set_apart xs p q x (λ e. n (ap suc e))

set_long : {X : Type 0} (xs : List X) (p : ℕ) (x : X) → length (set xs p x) ≡ length xs
set_long [] p x = refl
set_long (y ∷ xs) zero x = refl
set_long (y ∷ xs) (suc p) x = ap suc (set_long xs p x)

among_last : (ws : List ℕ) (w p : ℕ) → is_index (ws ++ w ∷ []) p ≡ true → (is_index ws p ≡ true) ⊎ (w ≡ p)
among_last [] w p h = by (w == p) refl h where
  by : (b : Bool) → (w == p) ≡ b → (b || false) ≡ true → (false ≡ true) ⊎ (w ≡ p)
  by true e k = inr (eqb-true w p e)
  by false e k = inl k
among_last (x ∷ ws) w p h = by (x == p) h (λ k. among_last ws w p k) where
  by : (b : Bool) → (b || is_index (ws ++ w ∷ []) p) ≡ true → (is_index (ws ++ w ∷ []) p ≡ true → (is_index ws p ≡ true) ⊎ (w ≡ p)) → ((b || is_index ws p) ≡ true) ⊎ (w ≡ p)
  by true k rest = inl refl
  by false k rest = rest k

-- after so many of what was found have been put, from the last on
module _ (later : List Read) where
  abbrev there : ℕ → Facts
  there p = facts_of later (name_at later p)

  pub record IsPutting (indices : List ℕ) (facts found : List Facts) : Type 0 where
    pub len : length facts ≡ length later
    pub few : length found ≤ length indices
    pub found_is : found ≡ map (λ p. facts_of later (name_at later p)) (take (length found) indices)
    pub are : (p : ℕ) → p < length later → (is_index (take (length found) indices) p ≡ true) ⊎ (slice_get facts p ≡ Some (facts_of later (name_at later p)))

  take_whole : (ws : List ℕ) → take (length ws) ws ≡ ws
  take_whole [] = refl
  take_whole (w ∷ ws) = ap (λ (vs : List ℕ). w ∷ vs) (take_whole ws)

  pub put_begun : (indices : List ℕ) (facts found : List Facts) → length facts ≡ length later → found ≡ map (λ p. facts_of later (name_at later p)) indices
      → ((p : ℕ) → p < length later → (is_index indices p ≡ true) ⊎ (slice_get facts p ≡ Some (facts_of later (name_at later p)))) → IsPutting indices facts found
  put_begun indices facts found len f others =
      let long : length found ≡ length indices = ap (length {A = Facts}) f ∙ map_long there indices in
      let whole : take (length found) indices ≡ indices = ap (λ (n : ℕ). take n indices) long ∙ take_whole indices in
      record {
        len = len;
        few = omega (arith, long);
        found_is = f ∙ ap (map there) (sym whole);
        are = λ p lt. elim (others p lt) [
          | inl k ↦ inl (ap (λ (ws : List ℕ). is_index ws p) whole ∙ k)
          | inr k ↦ inr k
        ];
      }

  put_step : (indices : List ℕ) (w : ℕ) (facts next : List Facts) (known : Facts) → known ≡ facts_of later (name_at later w) → next ≡ set facts w known → length facts ≡ length later → (p : ℕ) → p < length later
      → (is_index (indices ++ w ∷ []) p ≡ true) ⊎ (slice_get facts p ≡ Some (facts_of later (name_at later p))) → (is_index indices p ≡ true) ⊎ (slice_get next p ≡ Some (facts_of later (name_at later p)))
  put_step indices w facts next known k n len p lt h = by (w == p) refl h where
    by : (b : Bool) → (w == p) ≡ b → (is_index (indices ++ w ∷ []) p ≡ true) ⊎ (slice_get facts p ≡ Some (facts_of later (name_at later p))) → (is_index indices p ≡ true) ⊎ (slice_get next p ≡ Some (facts_of later (name_at later p)))
    by true e h =
        let same : w ≡ p = eqb-true w p e in
        let within : w < length facts = omega (arith, lt, len, same) in
        inr (ap (λ (fs : List Facts). slice_get fs p) n ∙ ap (slice_get (set facts w known)) (sym same) ∙ slice_set_here facts w known within ∙ ap (λ (x : Facts). Some x) k ∙ ap (λ (q : ℕ). Some (facts_of later (name_at later q))) same)
    by false e (inl m) = elim (among_last indices w p m) [
      | inl there ↦ inl there
      | inr same ↦ absurd (eqb-false w p e same)
    ]
    by false e (inr m) = inr (ap (λ (fs : List Facts). slice_get fs p) n ∙ slice_set_apart facts w p known (λ q. eqb-false w p e (sym q)) ∙ m)

  pub put_more : (indices : List ℕ) (facts next found less : List Facts) (known : Facts) → IsPutting indices facts found → found ≡ less ++ known ∷ [] → next ≡ set facts (get_or indices (length less) 0) known → IsPutting indices next less
  put_more indices facts next found less known h f n =
      let long : length found ≡ length less + 1 = ap (length {A = Facts}) f ∙ last_long less known in
      let few = h.few in
      let under : length less < length indices = omega (arith, long, few) in
      let w : ℕ = get_or indices (length less) 0 in
      let split : take (length found) indices ≡ take (length less) indices ++ w ∷ [] = ap (λ (n : ℕ). take n indices) long ∙ take_more indices (length less) 0 under in
      let both = snoc_same less (map there (take (length less) indices)) known (there w) (sym f ∙ h.found_is ∙ ap (map there) split ∙ map_last there (take (length less) indices) w) in
      record {
        len = ap (length {A = Facts}) n ∙ set_long facts w known ∙ h.len;
        few = omega (arith, under);
        found_is = both.0;
        are = λ p lt. put_step (take (length less) indices) w facts next known both.1 n h.len p lt (subst (λ (ws : List ℕ). (is_index ws p ≡ true) ⊎ (slice_get facts p ≡ Some (facts_of later (name_at later p)))) split (h.are p lt));
      }

  all_same : {X : Type 0} (xs ys : List X) → length xs ≡ length ys → ((p : ℕ) → p < length xs → slice_get xs p ≡ slice_get ys p) → xs ≡ ys
  all_same {X} [] [] l h = refl
  all_same {X} [] (y ∷ ys) l h = cc
  all_same {X} (x ∷ xs) [] l h = cc
  all_same {X} (x ∷ xs) (y ∷ ys) l h =
      let both : Some x ≡ Some y = h 0 (omega arith) in
      let first : x ≡ y = cc in
      let less : length xs ≡ length ys = omega (arith, l) in
      ap (λ (z : X). z ∷ xs) first ∙ ap (λ (zs : List X). y ∷ zs) (all_same xs ys less (λ p lt. h (suc p) (omega (arith, lt))))

  pub facts_at : (p : ℕ) → p < length later → slice_get (all_facts later) p ≡ Some (facts_of later (name_at later p))
  facts_at p lt =
      let file = slice_some later p lt in
      let named : name_at later p ≡ file.0.name = ap (λ (o : Option Read). unwrap_or (option_map (λ (x : Read). x.name) o) []) file.1 in
      map_at (λ (x : Read). facts_of later x.name) later p file.0 file.1 ∙ ap (λ (n : List ℕ). Some (facts_of later n)) (sym named)

  pub put_over : (indices : List ℕ) (facts : List Facts) → IsPutting indices facts [] → facts ≡ all_facts later
  put_over indices facts h =
      let len = h.len in
      all_same facts (all_facts later) (len ∙ sym (map_long (λ (file : Read). facts_of later file.name) later)) (λ p lt. elim (h.are p (omega (arith, len, lt))) [
        | inl k ↦ absurd cc
        | inr k ↦ k ∙ sym (facts_at p (omega (arith, len, lt)))
      ])

-- who reads the file at an index
module _ (law : (g : Graph) (u v : ℕ) → (is_index (sources g v) u ≡ true) ↔ (has_edge g u v ≡ true)) (files : List Read) where
  read_targets : (p : ℕ) → p < length files → get_or (read_graph files) p [] ≡ indices_of files (read_names files (name_at files p))
  read_targets p lt =
      let file = slice_some files p lt in
      let named : name_at files p ≡ file.0.name = ap (λ (o : Option Read). unwrap_or (option_map (λ (x : Read). x.name) o) []) file.1 in
      get_map (λ (f : Read). indices_of files (read_names files f.name)) files p file.0 [] file.1 ∙ ap (λ (n : List ℕ). indices_of files (read_names files n)) (sym named)

  pub reader_reads : (p q : ℕ) (name : List ℕ) → p < length files → index name files ≡ Some q → is_index (readers_at files q) p ≡ true → is_among (read_names files (name_at files p)) name ≡ true
  reader_reads p q name lt e h =
      let edge : is_index (get_or (read_graph files) p []) q ≡ true = (law (read_graph files) p q).0 h in
      let found = named_index files (read_names files (name_at files p)) q (ap (λ (ws : List ℕ). is_index ws q) (sym (read_targets p lt)) ∙ edge) in
      let same : found.0 ≡ name = same_index files found.0 name q found.2 e in
      ap (is_among (read_names files (name_at files p))) (sym same) ∙ found.1

  pub reads_reader : (p q : ℕ) (name : List ℕ) → p < length files → index name files ≡ Some q → is_among (read_names files (name_at files p)) name ≡ true → is_index (readers_at files q) p ≡ true
  reads_reader p q name lt e h = (law (read_graph files) p q).1 (ap (λ (ws : List ℕ). is_index ws q) (read_targets p lt) ∙ among_indices files (read_names files (name_at files p)) name q e h)

  no_targets : (g : Graph) (p : ℕ) → length g ≤ p → get_or g p [] ≡ []
  no_targets [] p h = refl
  no_targets (ws ∷ g) zero h = absurd (omega (arith, h))
  no_targets (ws ∷ g) (suc p) h = no_targets g p (omega (arith, h))

  pub reader_within : (p q : ℕ) → is_index (readers_at files q) p ≡ true → p < length files
  reader_within p q h = elim (cases_lt p (length files)) [
    | inl below ↦ below
    | inr above ↦
        let none : has_edge (read_graph files) p q ≡ false = ap (λ (ws : List ℕ). is_index ws q) (no_targets (read_graph files) p (omega (arith, read_graph_long files, above))) in
        let some = (law (read_graph files) p q).0 h in
        absurd (cc (none, some))
  ]

  same_bool : (a b : Bool) → (a ≡ true → b ≡ true) → (b ≡ true → a ≡ true) → a ≡ b
  same_bool true b f g = sym (f refl)
  same_bool false true f g = g refl
  same_bool false false f g = refl

  pub reader_law : (p q : ℕ) → IsProject files → p < length files → q < length files → is_index (readers_at files q) p ≡ is_among (read_names files (name_at files p)) (name_at files q)
  reader_law p q project lt within =
      let e : index (name_at files q) files ≡ Some q = placed_name files q project within in
      same_bool (is_index (readers_at files q) p) (is_among (read_names files (name_at files p)) (name_at files q)) (reader_reads p q (name_at files q) lt e) (reads_reader p q (name_at files q) lt e)

-- where units that read an edited file read and use what they did before, all files do
module _ (files later : List Read) (file : Read) (at : ℕ) (project : IsProject files) (put_is : later ≡ put files file) (e : index file.name files ≡ Some at) where
  known : is_some (index file.name files) ≡ true
  known = ap (λ (o : Option ℕ). is_some o) e

  others : AreOthers file.name files later
  others = subst (AreOthers file.name files) (sym put_is) (put_others files file)

  pub still_placed : (name : List ℕ) → index name later ≡ index name files
  still_placed name = ap (index name) put_is ∙ index_stays file name files project known

  pub still_long : length later ≡ length files
  still_long = ap (length {A = Read}) (put_is ∙ sym (put_at files file at project e)) ∙ set_long files at file

  pub still_named : (p : ℕ) → p < length files → name_at later p ≡ name_at files p
  still_named p lt = named_at later (name_at files p) p (still_placed (name_at files p) ∙ placed_name files p project lt)

  module _ (law : (g : Graph) (u v : ℕ) → (is_index (sources g v) u ≡ true) ↔ (has_edge g u v ≡ true)) where
    none_by : (b : Bool) → (b ≡ true → ⊥) → b ≡ false
    none_by true f = absurd (f refl)
    none_by false f = refl

    -- of what does not read it the same is known
    pub apart_stays : (p : ℕ) → p < length files → is_index (readers_at files at) p ≡ false → facts_of files (name_at files p) ≡ facts_of later (name_at files p)
    apart_stays p lt none = facts_stay files later (name_at files p) file.name others (none_by (is_among (facts_of files (name_at files p)).reads file.name) (λ k.
        let reads : is_among (read_names files (name_at files p)) file.name ≡ true = k in
        let there = reads_reader law files p at file.name lt e reads in
        cc (there, none)))

    pub others_known : (facts : List Facts) → facts ≡ all_facts files → (p : ℕ) → p < length later → (is_index (readers_at files at) p ≡ true) ⊎ (slice_get facts p ≡ Some (facts_of later (name_at later p)))
    others_known facts f p lt = by (is_index (readers_at files at) p) refl where
      within : p < length files
      within = omega (arith, lt, still_long)

      by : (b : Bool) → is_index (readers_at files at) p ≡ b → (b ≡ true) ⊎ (slice_get facts p ≡ Some (facts_of later (name_at later p)))
      by true k = inl refl
      by false k = inr (ap (λ (fs : List Facts). slice_get fs p) f ∙ facts_at files p within ∙ ap (λ (x : Facts). Some x) (apart_stays p within k) ∙ ap (λ (n : List ℕ). Some (facts_of later n)) (sym (still_named p within)))

    as_before : (a b : Facts) (x y : Option Facts) → x ≡ Some a → y ≡ Some b → IsAsBefore x y → (a.reads ≡ b.reads) × (a.uses ≡ b.uses)
    as_before a b x y h k s = subst (λ (o : Option Facts). IsAsBefore o (Some b)) h (subst (IsAsBefore x) k s)

    find_at : (indices : List ℕ) (i : ℕ) → i < length indices → slice_get (map (λ p. facts_of later (name_at later p)) indices) i ≡ Some (facts_of later (name_at later (get_or indices i 0)))
    find_at [] i lt = absurd (omega (arith, lt))
    find_at (p ∷ indices) zero lt = refl
    find_at (p ∷ indices) (suc i) lt = find_at indices i (omega (arith, lt))

    module _ (facts found : List Facts) (indices : List ℕ) (f : facts ≡ all_facts files) (p_is : indices ≡ readers_at files at) (found_is : found ≡ map (λ p. facts_of later (name_at later p)) indices)
        (same : AreAsBefore facts indices found) where
      -- at each index
      pub stays : (p : ℕ) → p < length files → ((facts_of files (name_at files p)).reads ≡ (facts_of later (name_at files p)).reads) × (used_units files (name_at files p) ≡ used_units later (name_at files p))
      stays p lt = by (is_index (readers_at files at) p) refl where
        by : (b : Bool) → is_index (readers_at files at) p ≡ b → ((facts_of files (name_at files p)).reads ≡ (facts_of later (name_at files p)).reads) × (used_units files (name_at files p) ≡ used_units later (name_at files p))
        by true k =
            let there = there_among indices p (ap (λ (ws : List ℕ). is_index ws p) p_is ∙ k) in
            let i : ℕ = there.0 in
            let before : slice_get facts (get_or indices i 0) ≡ Some (facts_of files (name_at files p)) = ap (slice_get facts) there.1.1 ∙ ap (λ (fs : List Facts). slice_get fs p) f ∙ facts_at files p lt in
            let now : slice_get found i ≡ Some (facts_of later (name_at files p)) =
            ap (λ (fs : List Facts). slice_get fs i) found_is ∙ find_at indices i there.1.0 ∙ ap (λ (q : ℕ). Some (facts_of later (name_at later q))) there.1.1 ∙ ap (λ (n : List ℕ). Some (facts_of later n)) (still_named p lt)
            in
            as_before (facts_of files (name_at files p)) (facts_of later (name_at files p)) (slice_get facts (get_or indices i 0)) (slice_get found i) before now (same i there.1.0)
        by false k = let e = apart_stays p lt k in (ap (λ (x : Facts). x.reads) e, ap (λ (x : Facts). x.uses) e)

      indices_still : (names : List (List ℕ)) → indices_of later names ≡ indices_of files names
      indices_still [] = refl
      indices_still (n ∷ names) = ap (λ (o : Option ℕ). cons_option o (indices_of later names)) (still_placed n) ∙ ap (cons_option (index n files)) (indices_still names)

      all_rows : (g h : Graph) → length g ≡ length h → ((p : ℕ) → p < length g → get_or g p [] ≡ get_or h p []) → g ≡ h
      all_rows [] [] l k = refl
      all_rows [] (y ∷ h) l k = cc
      all_rows (x ∷ g) [] l k = cc
      all_rows (x ∷ g) (y ∷ h) l k =
          let less : length g ≡ length h = omega (arith, l) in
          ap (λ (z : List ℕ). z ∷ g) (k 0 (omega arith)) ∙ ap (λ (zs : Graph). y ∷ zs) (all_rows g h less (λ p lt. k (suc p) (omega (arith, lt))))

      use_targets : (fs : List Read) (p : ℕ) → p < length fs → get_or (graph_of fs) p [] ≡ indices_of fs (used_units fs (name_at fs p))
      use_targets fs p lt =
          let there = slice_some fs p lt in
          let named : name_at fs p ≡ there.0.name = ap (λ (o : Option Read). unwrap_or (option_map (λ (x : Read). x.name) o) []) there.1 in
          get_map (λ (x : Read). indices_of fs (used_units fs x.name)) fs p there.0 [] there.1 ∙ ap (λ (n : List ℕ). indices_of fs (used_units fs n)) (sym named)

      pub same_graph : graph_of files ≡ graph_of later
      same_graph = all_rows (graph_of files) (graph_of later) (graph_long files ∙ sym still_long ∙ sym (graph_long later)) (λ p lt.
          let within : p < length files = omega (arith, lt, graph_long files) in
          let over : p < length later = omega (arith, within, still_long) in
          use_targets files p within
          ∙ ap (indices_of files) ((stays p within).1)
          ∙ sym (indices_still (used_units later (name_at files p)))
          ∙ ap (λ (n : List ℕ). indices_of later (used_units later n)) (sym (still_named p within))
          ∙ sym (use_targets later p over))

      pub same_reads : read_graph files ≡ read_graph later
      same_reads = all_rows (read_graph files) (read_graph later) (read_graph_long files ∙ sym still_long ∙ sym (read_graph_long later)) (λ p lt.
          let within : p < length files = omega (arith, lt, read_graph_long files) in
          let over : p < length later = omega (arith, within, still_long) in
          let n : List ℕ = name_at files p in
          let reads : read_names files n ≡ read_names later n = (stays p within).0 in
          read_targets law files p within
          ∙ ap (indices_of files) reads
          ∙ sym (indices_still (read_names later n))
          ∙ ap (λ (m : List ℕ). indices_of later (read_names later m)) (sym (still_named p within))
          ∙ sym (read_targets law later p over))

      pub renewed : IsRenewed files later
      renewed = record { len = still_long; graph = sym same_graph; reads = sym same_reads; placed = still_placed; named = still_named; known = stays }

-- an edit of a file that the units at these indices read
module _ (law : (g : Graph) (u v : ℕ) → (is_index (sources g v) u ≡ true) ↔ (has_edge g u v ≡ true)) (files later : List Read) (file : Read) (at : ℕ) (project : IsProject files) (put_is : later ≡ put files file) (e : index file.name files ≡ Some at)
    (readers : List ℕ) (r : readers ≡ readers_at files at) where
  pub after_within : (p : ℕ) → is_index readers p ≡ true → p < length later
  after_within p h =
      let within = reader_within law files p at (ap (λ (ws : List ℕ). is_index ws p) (sym r) ∙ h) in
      omega (arith, within, still_long files later file at project put_is e)

  module _ (facts : List Facts) (f : facts ≡ all_facts files) where
    pub after_long : length facts ≡ length later
    after_long = ap (length {A = Facts}) f ∙ map_long (λ (x : Read). facts_of files x.name) files ∙ sym (still_long files later file at project put_is e)

    pub after_others : (p : ℕ) → p < length later → (is_index readers p ≡ true) ⊎ (slice_get facts p ≡ Some (facts_of later (name_at later p)))
    after_others p lt = elim (others_known files later file at project put_is e law facts f p lt) [
      | inl k ↦ inl (ap (λ (ws : List ℕ). is_index ws p) r ∙ k)
      | inr k ↦ inr k
    ]

    pub after_renewed : AreAsBefore facts readers (map (λ p. facts_of later (name_at later p)) readers) → IsRenewed files later
    after_renewed same = renewed files later file at project put_is e law facts (map (λ p. facts_of later (name_at later p)) readers) readers f r refl same

-- a file with the same lines, which lists the same units
module _ (files later : List Read) (file : Read) (at : ℕ) (project : IsProject files) (put_is : later ≡ put files file) (e : index file.name files ≡ Some at)
    (lines : lines_in (file_of files file.name) ≡ lines_in file) (units : listed_in (file_of files file.name) ≡ listed_in file) where
  found_then : (name : List ℕ) → file_of later name ≡ cond (bytes_eq file.name name) file (file_of files name)
  found_then name = ap (λ (fs : List Read). file_of fs name) put_is ∙ file_put files file name

  -- all files are alike then
  stays_in : {X : Type 0} (f : Read → X) → f (file_of files file.name) ≡ f file → (name : List ℕ) → f (file_of later name) ≡ f (file_of files name)
  stays_in {X} f h name = by (bytes_eq file.name name) refl where
    by : (b : Bool) → bytes_eq file.name name ≡ b → f (file_of later name) ≡ f (file_of files name)
    by true k =
        let same : file.name ≡ name = (bytes_eq-Decides file.name name).0 k in
        ap f (found_then name ∙ ap (λ (b : Bool). cond b file (file_of files name)) k) ∙ sym h ∙ ap (λ (n : List ℕ). f (file_of files n)) same
    by false k = ap f (found_then name ∙ ap (λ (b : Bool). cond b file (file_of files name)) k)

  alike_then : (name : List ℕ) → IsAlike files later name
  alike_then name = record {
    lines = sym (ap (option_map (λ (s : Prepared). s.lines)) (file_source later name)) ∙ stays_in lines_in lines name ∙ ap (option_map (λ (s : Prepared). s.lines)) (file_source files name);
    units = sym (ap listed_of (file_source later name)) ∙ listed_is (file_of later name) ∙ stays_in listed_in units name ∙ sym (listed_is (file_of files name)) ∙ ap listed_of (file_source files name);
  } where
    listed_of : Option Prepared → Option (Option (List (List ℕ)))
    listed_of o = option_map listed (option_map (λ (s : Prepared). s.text) o)

    listed_is : (read : Read) → listed_of read.source ≡ listed_in read
    listed_is read = by read.source where
      by : (o : Option Prepared) → option_map listed (option_map (λ (s : Prepared). s.text) o) ≡ option_map (λ (s : Prepared). listed s.text) o
      by None = refl
      by (Some s) = refl

  -- and all that is known of them stays
  known_then : (name : List ℕ) → facts_of later name ≡ facts_of files name
  known_then name =
      ap (λ (x : Expansion). record { reads = cond (is_unit name) x.reads []; uses = cond (is_unit name) (used_in x.lines) [] })
      (looks_alike files later name (λ other _. alike_then other))

  known_at : (p : ℕ) → p < length files → facts_of later (name_at later p) ≡ facts_of files (name_at files p)
  known_at p lt = ap (facts_of later) (still_named files later file at project put_is e p lt) ∙ known_then (name_at files p)

  pub all_known : (facts : List Facts) → facts ≡ all_facts files → facts ≡ all_facts later
  all_known facts f =
      let long = still_long files later file at project put_is e in
      let few : length facts ≡ length files = ap (length {A = Facts}) f ∙ map_long (λ (x : Read). facts_of files x.name) files in
      all_same later facts (all_facts later) (few ∙ sym long ∙ sym (map_long (λ (x : Read). facts_of later x.name) later)) (λ p lt.
      let within : p < length files = omega (arith, lt, few) in
      ap (λ (fs : List Facts). slice_get fs p) f ∙ facts_at files p within ∙ ap (λ (x : Facts). Some x) (sym (known_at p within)) ∙ sym (facts_at later p (omega (arith, within, long))))

  module _ (law : (g : Graph) (u v : ℕ) → (is_index (sources g v) u ≡ true) ↔ (has_edge g u v ≡ true)) where
    row_at : (readers : List ℕ) (i : ℕ) → i < length readers → slice_get (map (λ p. facts_of later (name_at later p)) readers) i ≡ Some (facts_of later (name_at later (get_or readers i 0)))
    row_at [] i lt = absurd (omega (arith, lt))
    row_at (p ∷ readers) zero lt = refl
    row_at (p ∷ readers) (suc i) lt = row_at readers i (omega (arith, lt))

    as_known : (a b : Facts) (x y : Option Facts) → x ≡ Some a → y ≡ Some b → b ≡ a → IsAsBefore x y
    as_known a b x y h k same = rw h (rw k (rw same (refl, refl)))

    pub alike_renewed : IsRenewed files later
    alike_renewed = after_renewed law files later file at project put_is e (readers_at files at) refl (all_facts files) refl (λ i lt.
        let p : ℕ = get_or (readers_at files at) i 0 in
        let within : p < length files = reader_within law files p at (among_there (readers_at files at) i lt) in
        as_known (facts_of files (name_at files p)) (facts_of later (name_at later p)) (slice_get (all_facts files) p) (slice_get (map (λ q. facts_of later (name_at later q)) (readers_at files at)) i)
        (facts_at files p within) (row_at (readers_at files at) i lt) (known_at p within))

-- so the links and the readers stay
module _ (files later : List Read) (same : IsRenewed files later) where
  readers_still : (readers : Option Graph) → AreReaders files readers → AreReaders later readers
  readers_still None h = tt
  readers_still (Some rows) h = λ p lt. let len = same.len in h p (omega (arith, len, lt)) ∙ ap (λ (g : Graph). but p (sources g p)) (sym same.reads)

  lookers_still : (lookers : Lookers) → AreLookers files lookers → AreLookers later lookers
  lookers_still lookers are = λ p lt.
      let len = same.len in
      let within : p < length files = omega (arith, len, lt) in
      subst (λ (n : List ℕ). IsNoted later n lookers) (sym (same.named p within)) (λ name other.
      let was = are p within name other in (
        λ k. was.0 (ap (λ (names : List (List ℕ)). is_among names name) ((same.known p within).0) ∙ k),
        λ none k. was.1 (sym (same.placed name) ∙ none) (ap (λ (names : List (List ℕ)). is_among names name) ((same.known p within).1) ∙ k),
      ))

  lookers_still_if : (lookers : Option Lookers) → AreLookersIf files lookers → AreLookersIf later lookers
  lookers_still_if None are = tt
  lookers_still_if (Some lookers) are = lookers_still lookers are

  pub graph_still : (next : List Facts) (links : Graph) (readers : Option Graph) (lookers : Option Lookers) → links ≡ graph_of files → AreReaders files readers → AreLookersIf files lookers → next ≡ all_facts later → IsGraph later next links readers lookers
  graph_still next links readers lookers h r l n = record { facts_are = n; links_are = h ∙ sym same.graph; readers_are = readers_still readers r; lookers_are = lookers_still_if lookers l }

-- where the file was open and is so, the same files are
pub alike_after : (files later : List Read) (file : Read) → later ≡ put files file → graph_of later ≡ graph_of files → is_some (file_of files file.name).source ≡ true → is_some file.source ≡ true → AreAlike files later
alike_after files later file put_is graph was is = record { graph = graph; opened = λ name. by name (bytes_eq file.name name) refl } where
  found : (name : List ℕ) → file_of later name ≡ cond (bytes_eq file.name name) file (file_of files name)
  found name = ap (λ (fs : List Read). file_of fs name) put_is ∙ file_put files file name

  by : (name : List ℕ) (b : Bool) → bytes_eq file.name name ≡ b → is_some (file_of later name).source ≡ is_some (file_of files name).source
  by name true e =
      let same : file.name ≡ name = (bytes_eq-Decides file.name name).0 e in
      ap (λ (f : Read). is_some f.source) (found name ∙ ap (λ (b : Bool). cond b file (file_of files name)) e)
      ∙ is ∙ sym was ∙ ap (λ (n : List ℕ). is_some (file_of files n).source) same
  by name false e = ap (λ (f : Read). is_some f.source) (found name ∙ ap (λ (b : Bool). cond b file (file_of files name)) e)
