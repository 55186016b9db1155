-- Places of files, and edges between them.
use Rattle.std.proofs.Common.{◌≡◌, ℕ, zero, suc, ◌+◌, ◌<◌, ◌≤◌, true, false, Bool, cond, ◌||◌, ◌==◌, List, [], ◌∷◌, ◌++◌, length, map, take, get_or, Option, Some, None, refl, sym, ap, ◌∙◌, inl, inr, arith}
use Rattle.std.specs.List.{cons_option, slice_get}
use Rattle.std.specs.Option.{option_and_then, option_map}
use Rattle.std.specs.Str.{bytes_eq}
use Rattle.std.specs.Cmp.Lexicographic.{same_text}
use Rattle.std.proofs.lemmas.List.{take_more}
use Rattle.std.proofs.lemmas.List.Elements.{filter_map-append}
use Rattle.std.proofs.lemmas.Bool.{cases_lt, eq-eqb, eqb-true}
use Rattle.occ_base.specs.FileName.{is_unit}
use Rattle.occ_forms.specs.declared.source.SourceLine.{SourceLine}
use Rattle.occ_project_graph.specs.Graph.{Graph, IsWhole, has_edge, targets}
use Rattle.occ_project_graph.specs.Graph as graph
use Rattle.occ_project.specs.declared.reads.Read.{Read}
use Rattle.occ_project.specs.Entries.{is_among}
use Rattle.occ_project.specs.Expansion.{expansion, expansion_of, unit_entries}
use Rattle.occ_forms.specs.Prepared.{Prepared}
use Rattle.occ_project.specs.Reads.{member, open_lines, index}
use Rattle.occ_project.specs.Uses.{used_in}
use Rattle.occ_project_units.specs.Indices.{graph_of, indices_of}
use Rattle.occ_project_units.specs.Units.{Uses, read_names, used_units}
use Rattle.occ_project_units.proofs.Finding.{member_at, index_within}
use Rattle.occ_project_units.proofs.Looks.{same_bytes}
use Rattle.occ_project_units.proofs.Narrowed.{member_named}

pub indices_more : (files : List Read) (names more : List (List ℕ)) → indices_of files (names ++ more) ≡ indices_of files names ++ indices_of files more
indices_more files names more = filter_map-append (λ name. index name files) names more

-- a file that is not open has no line, looks up its own name alone and uses nothing
closed : (files : List Read) (unit : List ℕ) → open_lines files unit ≡ None → expansion files unit ≡ record { lines = []; reads = unit ∷ []; faults = [] }
unfolding expansion
closed files unit e = ap (λ (o : Option (List SourceLine)). expansion_of 65535 unit (unit_entries files unit o)) e

no_lines : (files : List Read) (unit : List ℕ) → index unit files ≡ None → open_lines files unit ≡ None
no_lines files unit e = ap (λ (o : Option Read). option_map (λ (s : Prepared). s.lines) (option_and_then (λ (r : Read). r.source) o)) (sym (member_at unit files) ∙ ap (option_and_then (slice_get files)) e)

pub unused : (files : List Read) (unit : List ℕ) → index unit files ≡ None → used_units files unit ≡ []
unused files unit e = ap (λ x. cond (is_unit unit) (used_in x.lines) []) (closed files unit (no_lines files unit e)) ∙ by (is_unit unit) where
  by : (b : Bool) → cond {A = List (List ℕ)} b [] [] ≡ []
  by true = refl
  by false = refl

pub read_alone : (files : List Read) (unit : List ℕ) → index unit files ≡ None → is_unit unit ≡ true → read_names files unit ≡ unit ∷ []
read_alone files unit e u = ap (λ x. cond (is_unit unit) x.reads []) (closed files unit (no_lines files unit e)) ∙ ap (λ (b : Bool). cond b (unit ∷ []) []) u

pub absent_reads : (files : List Read) (unit : List ℕ) → index unit files ≡ None → (expansion files unit).reads ≡ unit ∷ []
absent_reads files unit e = ap (λ x. x.reads) (closed files unit (no_lines files unit e))

-- what uses another has an index
pub placed_user : (files : List Read) (u v : List ℕ) → Uses files u v → (p : ℕ) × (index u files ≡ Some p)
placed_user files u v h = by (index u files) refl where
  by : (o : Option ℕ) → index u files ≡ o → (p : ℕ) × (index u files ≡ Some p)
  by None e = let none : is_among (used_units files u) v ≡ false = ap (λ (ns : List (List ℕ)). is_among ns v) (unused files u e) in absurd (cc (none, h))
  by (Some p) e = (p, e)

-- the file at an index has the name
pub file_there : (files : List Read) (name : List ℕ) (p : ℕ) → index name files ≡ Some p → slice_get files p ≡ member files name
file_there files name p e = sym (ap (option_and_then (slice_get files)) e) ∙ member_at name files

pub slice_some : {X : Type 0} (xs : List X) (p : ℕ) → p < length xs → (x : X) × (slice_get xs p ≡ Some x)
slice_some [] p lt = absurd (omega (arith, lt))
slice_some (x ∷ xs) zero lt = (x, refl)
slice_some (x ∷ xs) (suc p) lt = slice_some xs p (omega (arith, lt))

pub file_at : (files : List Read) (name : List ℕ) (p : ℕ) → index name files ≡ Some p → (file : Read) × (slice_get files p ≡ Some file) × (file.name ≡ name)
file_at files name p e =
    let there = slice_some files p (index_within name files p e) in
    (there.0, there.1, member_named files name there.0 (sym (file_there files name p e) ∙ there.1))

-- names of one index are the same
pub same_index : (files : List Read) (u v : List ℕ) (p : ℕ) → index u files ≡ Some p → index v files ≡ Some p → u ≡ v
same_index files u v p e f =
    let a = file_at files u p e in
    let b = file_at files v p f in
    let both : a.0 ≡ b.0 = let s : Some a.0 ≡ Some b.0 = sym a.1 ∙ b.1 in cc in
    sym a.2 ∙ ap (λ (r : Read). r.name) both ∙ b.2

-- edges lead from an index to those of the units that the unit there uses
pub get_map : {X Y : Type 0} (f : X → Y) (xs : List X) (p : ℕ) (x : X) (d : Y) → slice_get xs p ≡ Some x → get_or (map f xs) p d ≡ f x
get_map f [] p x d e = cc
get_map f (y ∷ xs) zero x d e = let is : y ≡ x = cc in ap f is
get_map f (y ∷ xs) (suc p) x d e = get_map f xs p x d e

pub targets_are : (files : List Read) (name : List ℕ) (p : ℕ) → index name files ≡ Some p → targets (graph_of files) p ≡ indices_of files (used_units files name)
targets_are files name p e =
    let there = file_at files name p e in
    get_map (λ (f : Read). indices_of files (used_units files f.name)) files p there.0 [] there.1 ∙ ap (λ (n : List ℕ). indices_of files (used_units files n)) there.2

same_number : (n : ℕ) → (n == n) ≡ true
same_number n = eq-eqb n n refl

or_true : (b c : Bool) → c ≡ true → (b || c) ≡ true
or_true true c e = refl
or_true false c e = e

-- the place of a name among these is among their indices
pub among_indices : (files : List Read) (names : List (List ℕ)) (name : List ℕ) (q : ℕ) → index name files ≡ Some q → is_among names name ≡ true → graph.is_among (indices_of files names) q ≡ true
among_indices files [] name q e h = cc
among_indices files (n ∷ names) name q e h = by (bytes_eq n name) (index n files) refl refl (among_indices files names name q e) h where
  by : (b : Bool) (o : Option ℕ) → bytes_eq n name ≡ b → index n files ≡ o → (is_among names name ≡ true → graph.is_among (indices_of files names) q ≡ true) → (b || is_among names name) ≡ true
      → graph.is_among (cons_option o (indices_of files names)) q ≡ true
  by true o a p f k =
      let is : o ≡ Some q = sym p ∙ ap (λ (m : List ℕ). index m files) (same_text n name (sym a)) ∙ e in
      ap (λ (x : Option ℕ). graph.is_among (cons_option x (indices_of files names)) q) is ∙ ap (λ (b : Bool). b || graph.is_among (indices_of files names) q) (same_number q)
  by false None a p f k = f k
  by false (Some r) a p f k = or_true (r == q) (graph.is_among (indices_of files names) q) (f k)

pub edge : (files : List Read) (u v : List ℕ) (p q : ℕ) → index u files ≡ Some p → index v files ≡ Some q → Uses files u v → has_edge (graph_of files) p q ≡ true
edge files u v p q e f h = ap (λ (ws : List ℕ). graph.is_among ws q) (targets_are files u p e) ∙ among_indices files (used_units files u) v q f h

-- and the other way round
pub named_index : (files : List Read) (names : List (List ℕ)) (q : ℕ) → graph.is_among (indices_of files names) q ≡ true → (name : List ℕ) × (is_among names name ≡ true) × (index name files ≡ Some q)
named_index files [] q h = cc
named_index files (n ∷ names) q h = by (index n files) refl (named_index files names q) h where
  more : (name : List ℕ) × (is_among names name ≡ true) × (index name files ≡ Some q) → (name : List ℕ) × (is_among (n ∷ names) name ≡ true) × (index name files ≡ Some q)
  more t = (t.0, or_true (bytes_eq n t.0) (is_among names t.0) t.1, t.2)

  one : (r : ℕ) (b : Bool) → (r == q) ≡ b → index n files ≡ Some r → (graph.is_among (indices_of files names) q ≡ true → (name : List ℕ) × (is_among names name ≡ true) × (index name files ≡ Some q))
      → (b || graph.is_among (indices_of files names) q) ≡ true → (name : List ℕ) × (is_among (n ∷ names) name ≡ true) × (index name files ≡ Some q)
  one r true a p f k = (n, ap (λ (b : Bool). b || is_among names n) (same_bytes n), p ∙ ap Some (eqb-true r q a))
  one r false a p f k = more (f k)

  by : (o : Option ℕ) → index n files ≡ o → (graph.is_among (indices_of files names) q ≡ true → (name : List ℕ) × (is_among names name ≡ true) × (index name files ≡ Some q))
      → graph.is_among (cons_option o (indices_of files names)) q ≡ true → (name : List ℕ) × (is_among (n ∷ names) name ≡ true) × (index name files ≡ Some q)
  by None p f k = more (f k)
  by (Some r) p f k = one r (r == q) refl p f k

pub used_by_edge : (files : List Read) (u : List ℕ) (p q : ℕ) → index u files ≡ Some p → has_edge (graph_of files) p q ≡ true → (v : List ℕ) × Uses files u v × (index v files ≡ Some q)
used_by_edge files u p q e h = named_index files (used_units files u) q (sym (ap (λ (ws : List ℕ). graph.is_among ws q) (targets_are files u p e)) ∙ h)

-- each edge leads to an index
pub no_edge : (g : Graph) (p : ℕ) → length g ≤ p → targets g p ≡ []
no_edge [] p h = refl
no_edge (ws ∷ g) zero h = absurd (omega (arith, h))
no_edge (ws ∷ g) (suc p) h = no_edge g p (omega (arith, h))

length_map : {X Y : Type 0} (f : X → Y) (xs : List X) → length (map f xs) ≡ length xs
length_map f [] = refl
length_map f (x ∷ xs) = ap (λ (n : ℕ). suc n) (length_map f xs)

pub graph_long : (files : List Read) → length (graph_of files) ≡ length files
graph_long files = length_map (λ (f : Read). indices_of files (used_units files f.name)) files

pub whole : (files : List Read) → IsWhole (graph_of files)
whole files p q h = elim (cases_lt p (length files)) [
  | inl below ↦
      let there = slice_some files p below in
      let are = get_map (λ (f : Read). indices_of files (used_units files f.name)) files p there.0 [] there.1 in
      let used = named_index files (used_units files there.0.name) q (sym (ap (λ (ws : List ℕ). graph.is_among ws q) are) ∙ h) in
      let within = index_within used.0 files q used.2 in
      omega (arith, within, graph_long files)
  | inr above ↦
      let none : has_edge (graph_of files) p q ≡ false = ap (λ (ws : List ℕ). graph.is_among ws q) (no_edge (graph_of files) p (omega (arith, graph_long files, above))) in
      absurd (cc (none, h))
]

-- one name more
pub indices_next : (files : List Read) (names : List (List ℕ)) (i : ℕ) (name : List ℕ) (old new : List ℕ) → i < length names → name ≡ get_or names i name → old ≡ indices_of files (take i names)
    → new ≡ old ++ indices_of files (name ∷ []) → new ≡ indices_of files (take (i + 1) names)
indices_next files names i name old new lt is e n =
    n ∙ ap (λ (ps : List ℕ). ps ++ indices_of files (name ∷ [])) e ∙ sym (indices_more files (take i names) (name ∷ []))
    ∙ ap (λ (m : List ℕ). indices_of files (take i names ++ m ∷ [])) is ∙ ap (indices_of files) (sym (take_more names i name lt))
