-- What an edit leaves of what a graph keeps.
use Rattle.std.proofs.Common.{◌≡◌, ◌∙◌, ℕ, suc, Bool, true, false, not, cond, List, [], ◌∷◌, map, Option, Some, None, Result, Ok, Err, refl, sym, ap, subst, IfOk, IfSome}
use Rattle.std.proofs.lemmas.Slice.Eq.{bytes_eq-Decides}
use Rattle.std.specs.List.{cons_option, slice_get}
use Rattle.std.specs.List.Sorted.{IsStrictlySortedBy}
use Rattle.std.specs.Option.{is_some, option_map}
use Rattle.std.specs.Ordering.{match_ordering}
use Rattle.std.specs.Str.{bytes_eq}
use Rattle.std.specs.declared.cmp.Ordering.{Ordering}
use Rattle.std.specs.declared.cmp.Ordering.TheVariants.{Less, Equal, Greater}
use Rattle.occ_base.specs.FileName.{is_unit}
use Rattle.occ_project_graph.specs.Graph.{Graph}
use Rattle.occ_project.specs.Entries.{is_among}
use Rattle.occ_project.specs.Expansion.{Expansion, expansion}
use Rattle.occ_project.specs.Reads.{name_cmp, open_source, index}
use Rattle.occ_project.specs.Uses.{used_in}
use Rattle.occ_project.specs.declared.reads.Read.{Read}
use Rattle.occ_project_units.proofs.Kept.{edges_are, map_at}
use Rattle.occ_project_units.proofs.Looks.{looks_at_reads}
use Rattle.occ_project_units.proofs.Narrowed.{file_source}
use Rattle.occ_project_units.proofs.Putting.{below_found, file_put}
use Rattle.occ_project_units.proofs.Rising.{equal_names, turned}
use Rattle.occ_project_units.specs.declared.facts.Facts.{Facts}
use Rattle.occ_project_units.specs.declared.lookers.Lookers.{Lookers}
use Rattle.occ_project_units.specs.Indices.{graph_of, indices_of}
use Rattle.occ_project_units.specs.Project.{IsProject, file_of, put}
use Rattle.occ_project_units.specs.inside.Keeping.{AreOthers, IsGraph, all_facts, facts_of}

-- what was known at an index
pub known_is : (files : List Read) (facts : List Facts) (p : ℕ) (file : Read) (name : List ℕ) → facts ≡ all_facts files → slice_get files p ≡ Some file → file.name ≡ name → IfSome (slice_get facts p) (λ known. known ≡ facts_of files name)
known_is files facts p file name f e n =
    let here : slice_get facts p ≡ Some (facts_of files name) =
    ap (λ (fs : List Facts). slice_get fs p) f ∙ map_at (λ (x : Read). facts_of files x.name) files p file e ∙ ap (λ (x : List ℕ). Some (facts_of files x)) n
    in
    subst (λ (o : Option Facts). IfSome o (λ known. known ≡ facts_of files name)) (sym here) refl

-- by the test for its name
pub known_by : (files : List Read) (facts : List Facts) (p : ℕ) (file : Read) (name : List ℕ) (b : Bool) → facts ≡ all_facts files → slice_get files p ≡ Some file → b ≡ not (bytes_eq file.name name) → b ≡ false → IfSome (slice_get facts p) (λ known. known ≡ facts_of files name)
known_by files facts p file name b f e h k = known_is files facts p file name f e (by (bytes_eq file.name name) refl (sym h ∙ k)) where
  by : (x : Bool) → bytes_eq file.name name ≡ x → not x ≡ false → file.name ≡ name
  by true e h = (bytes_eq-Decides file.name name).0 e
  by false e h = absurd cc

-- of a file that does not read the edited one it is the same as before
abbrev facts_by : Bool → Expansion → Facts
facts_by b e = record { reads = cond b e.reads []; uses = cond b (used_in e.lines) [] }

apart_from : (names : List (List ℕ)) (edited name : List ℕ) → is_among names edited ≡ false → is_among names name ≡ true → bytes_eq edited name ≡ false
apart_from names edited name h a = by (bytes_eq edited name) refl where
  by : (b : Bool) → bytes_eq edited name ≡ b → b ≡ false
  by false e = refl
  by true e =
      let same : edited ≡ name = (bytes_eq-Decides edited name).0 e in
      let there : is_among names edited ≡ true = ap (is_among names) same ∙ a in
      absurd (cc (h, there))

same_source : (files later : List Read) (edited name : List ℕ) → AreOthers edited files later → bytes_eq edited name ≡ false → open_source later name ≡ open_source files name
same_source files later edited name others h = sym (file_source later name) ∙ ap (λ (r : Read). r.source) (others name h) ∙ file_source files name

pub facts_stay : (files later : List Read) (name edited : List ℕ) → AreOthers edited files later → is_among (facts_of files name).reads edited ≡ false → facts_of files name ≡ facts_of later name
facts_stay files later name edited others apart = by (is_unit name) apart where
  by : (b : Bool) → is_among (cond b (expansion files name).reads []) edited ≡ false → facts_by b (expansion files name) ≡ facts_by b (expansion later name)
  by true a =
      let same : expansion later name ≡ expansion files name = looks_at_reads files later name (λ n h. same_source files later edited n others (apart_from (expansion files name).reads edited n a h)) in
      ap (facts_by true) (sym same)
  by false a = refl

pub still_facts : (files later : List Read) (known : Facts) (name edited : List ℕ) → AreOthers edited files later → known ≡ facts_of files name → is_among known.reads edited ≡ false → known ≡ facts_of later name
still_facts files later known name edited others e apart = e ∙ facts_stay files later name edited others (ap (λ (f : Facts). is_among f.reads edited) (sym e) ∙ apart)

-- the same of what is known, if something is
pub still_known_facts : (files later : List Read) (known : Option Facts) (name edited : List ℕ) → AreOthers edited files later → IfSome known (λ k. k ≡ facts_of files name) → IfSome known (λ k. is_among k.reads edited ≡ false) → IfSome known (λ k. k ≡ facts_of later name)
still_known_facts files later None name edited others e apart = e
still_known_facts files later (Some known) name edited others e apart = still_facts files later known name edited others e apart

pub put_others : (files : List Read) (file : Read) → AreOthers file.name files (put files file)
put_others files file other h = file_put files file other ∙ ap (λ (b : Bool). cond b file (file_of files other)) h

-- where no file is new, all stand where they stood
module _ (file : Read) (name : List ℕ) where
  abbrev at : Bool → Option ℕ → Option ℕ
  at b o = cond b (Some 0) (option_map suc o)

  pub index_stays : (files : List Read) → IsProject files → is_some (index file.name files) ≡ true → index name (put files file) ≡ index name files
  unfolding IsStrictlySortedBy
  index_stays [] s h = absurd cc
  index_stays (x ∷ files) s h = by (name_cmp file.name x.name) refl (bytes_eq x.name file.name) (index file.name files) refl refl (index_stays files s.1) h where
    by : (o : Ordering) → name_cmp file.name x.name ≡ o → (b : Bool) (p : Option ℕ) → bytes_eq x.name file.name ≡ b → index file.name files ≡ p → (is_some (index file.name files) ≡ true → index name (put files file) ≡ index name files) → is_some (at b p) ≡ true
        → index name (match_ordering o (file ∷ x ∷ files) (file ∷ files) (x ∷ put files file)) ≡ index name (x ∷ files)
    by Equal e b p k q rest here = ap (λ (n : List ℕ). at (bytes_eq n name) (index name files)) (equal_names file.name x.name e)
    by Greater e true p k q rest here =
        let same : x.name ≡ file.name = (bytes_eq-Decides x.name file.name).0 k in
        let itself : name_cmp file.name file.name ≡ Greater = ap (name_cmp file.name) (sym same) ∙ e in
        let back : name_cmp file.name file.name ≡ Less = turned file.name file.name Greater itself in
        absurd (cc (itself, back))
    by Greater e false None k q rest here = absurd cc
    by Greater e false (Some n) k q rest here = ap (at (bytes_eq x.name name)) (rest (ap (λ (o : Option ℕ). is_some o) q))
    by Less e true p k q rest here =
        let same : x.name ≡ file.name = (bytes_eq-Decides x.name file.name).0 k in
        let itself : name_cmp file.name file.name ≡ Less = ap (name_cmp file.name) (sym same) ∙ e in
        let back : name_cmp file.name file.name ≡ Greater = turned file.name file.name Less itself in
        absurd (cc (itself, back))
    by Less e false None k q rest here = absurd cc
    by Less e false (Some n) k q rest here =
        let above : name_cmp x.name file.name ≡ Less = below_found x.name file.name files n s.0 q in
        let back : name_cmp file.name x.name ≡ Greater = turned x.name file.name Less above in
        absurd (cc (e, back))

-- so with the same uses the edges are the same
module _ (files later : List Read) (same : (name : List ℕ) → index name later ≡ index name files) where
  indices_stay : (names : List (List ℕ)) → indices_of later names ≡ indices_of files names
  indices_stay [] = refl
  indices_stay (n ∷ names) = ap (λ (o : Option ℕ). cons_option o (indices_of later names)) (same n) ∙ ap (cons_option (index n files)) (indices_stay names)

  all_indices_stay : (uses : List (List (List ℕ))) → map (indices_of later) uses ≡ map (indices_of files) uses
  all_indices_stay [] = refl
  all_indices_stay (names ∷ uses) = ap (λ (ps : List ℕ). ps ∷ map (indices_of later) uses) (indices_stay names) ∙ ap (λ (es : Graph). indices_of files names ∷ es) (all_indices_stay uses)

fused : (f : List (List ℕ) → List ℕ) (all : List Facts) → map (λ (x : Facts). f x.uses) all ≡ map f (map (λ (x : Facts). x.uses) all)
fused f [] = refl
fused f (x ∷ all) = ap (λ (es : Graph). f x.uses ∷ es) (fused f all)

pub graph_stays : (files later : List Read) (facts found : List Facts) → facts ≡ all_facts files → found ≡ all_facts later → map (λ (f : Facts). f.uses) facts ≡ map (λ (f : Facts). f.uses) found → ((name : List ℕ) → index name later ≡ index name files)
    → graph_of files ≡ graph_of later
graph_stays files later facts found f g uses same =
    sym (edges_are files facts (map (λ (x : Facts). indices_of files x.uses) facts) f refl)
    ∙ fused (indices_of files) facts
    ∙ ap (map (indices_of files)) uses
    ∙ sym (all_indices_stay files later same (map (λ (x : Facts). x.uses) found))
    ∙ sym (fused (indices_of later) found)
    ∙ edges_are later found (map (λ (x : Facts). indices_of later x.uses) found) g refl

-- what is shared is what was known
pub if_ok : {X E : Type 0} (r : Result X E) (x y : X) → IfOk r (λ z. z ≡ x) → x ≡ y → IfOk r (λ z. z ≡ y)
if_ok (Ok z) x y h e = h ∙ e
if_ok (Err f) x y h e = h

-- what rests on what stays where each file uses the same
pub links_stay : (now files later : List Read) (facts lent found : List Facts) (kept : Graph) (readers : Option Graph) (lookers : Option Lookers) (edited : List ℕ) → files ≡ now → IsGraph files facts kept readers lookers → lent ≡ facts → found ≡ all_facts later
    → map (λ (f : Facts). f.uses) lent ≡ map (λ (f : Facts). f.uses) found → is_some (index edited files) ≡ true → (is_some (index edited now) ≡ true → (name : List ℕ) → index name later ≡ index name now) → graph_of now ≡ graph_of later
links_stay now files later facts lent found kept readers lookers edited view graph l f uses here same =
    ap graph_of (sym view)
    ∙ graph_stays files later lent found (l ∙ graph.facts_are) f uses (λ name. same (ap (λ (fs : List Read). is_some (index edited fs)) (sym view) ∙ here) name ∙ ap (index name) (sym view))

-- whether a file has an index
pub placed_by : (o p : Option ℕ) (b : Bool) → o ≡ p → is_some o ≡ not b → b ≡ false → is_some p ≡ true
placed_by o p b e h k = ap (λ (x : Option ℕ). is_some x) (sym e) ∙ h ∙ ap not k

pub others_after : (files shared later : List Read) (file : Read) → later ≡ put shared file → shared ≡ files → AreOthers file.name files later
others_after files shared later file e s = subst (AreOthers file.name files) (sym (e ∙ ap (λ (fs : List Read). put fs file) s)) (put_others files file)

pub indices_after : (files shared later : List Read) (file : Read) → IsProject files → later ≡ put shared file → shared ≡ files → is_some (index file.name files) ≡ true → (name : List ℕ) → index name later ≡ index name files
indices_after files shared later file s e k here name = ap (index name) (e ∙ ap (λ (fs : List Read). put fs file) k) ∙ index_stays file name files s here
