-- What a graph keeps is what the definitions give.
use Rattle.std.proofs.Common.{◌≡◌, ℕ, zero, suc, true, false, Bool, cond, not, ◌&&◌, ◌||◌, ◌==◌, List, [], ◌∷◌, map, Option, Some, None, refl, sym, ap, subst, ◌∙◌}
use Rattle.std.specs.List.{filter, slice_get}
use Rattle.std.specs.Option.{is_some, option_and_then, option_map, unwrap_or}
use Rattle.std.proofs.lemmas.Bool.{eqb-true}
use Rattle.occ_base.specs.FileName.{is_unit}
use Rattle.occ_project_graph.specs.Graph.{Graph, IsWhole, has_edge, rests, targets}
use Rattle.occ_project_graph.specs.Graph as graph
use Rattle.occ_project.specs.declared.reads.Read.{Read}
use Rattle.occ_project.specs.Entries.{is_among}
use Rattle.occ_project.specs.Expansion.{expansion}
use Rattle.occ_project.specs.Reads.{member, index}
use Rattle.occ_project_units.specs.declared.facts.Facts.{Facts}
use Rattle.occ_project_units.specs.declared.standing.Standing.TheVariants as standing
use Rattle.occ_project_units.specs.Indices.{circular_at, graph_of, is_circular, indices_of, standing_of}
use Rattle.occ_project_units.specs.Project.{file_of}
use Rattle.occ_project_units.specs.Units.{read_names, used_units}
use Rattle.occ_project_units.specs.inside.Keeping.{facts_of}
use Rattle.occ_project_units.proofs.Finding.{member_at}
use Rattle.occ_project_units.proofs.Edges.{edge, file_at, file_there, read_alone, same_index, unused, used_by_edge, whole}

-- the edges
edges_of : (files some : List Read) → map (λ (f : Facts). indices_of files f.uses) (map (λ (file : Read). facts_of files file.name) some) ≡ map (λ (file : Read). indices_of files (used_units files file.name)) some
edges_of files [] = refl
edges_of files (x ∷ some) = ap (λ (es : List (List ℕ)). indices_of files (used_units files x.name) ∷ es) (edges_of files some)

pub edges_are : (files : List Read) (facts : List Facts) (edges : Graph) → facts ≡ map (λ (file : Read). facts_of files file.name) files → edges ≡ map (λ (f : Facts). indices_of files f.uses) facts → edges ≡ graph_of files
edges_are files facts edges f e = e ∙ ap (map (λ (f : Facts). indices_of files f.uses)) f ∙ edges_of files files

pub edges_whole : (files : List Read) (facts : List Facts) (edges : Graph) → facts ≡ map (λ (file : Read). facts_of files file.name) files → edges ≡ map (λ (f : Facts). indices_of files f.uses) facts → IsWhole edges
edges_whole files facts edges f e = subst IsWhole (sym (edges_are files facts edges f e)) (whole files)

-- what is known at an index
pub map_at : {X Y : Type 0} (f : X → Y) (xs : List X) (p : ℕ) (x : X) → slice_get xs p ≡ Some x → slice_get (map f xs) p ≡ Some (f x)
map_at f [] p x e = cc
map_at f (y ∷ xs) zero x e = let is : y ≡ x = cc in cc
map_at f (y ∷ xs) (suc p) x e = map_at f xs p x e

pub facts_there : (files : List Read) (facts : List Facts) (name : List ℕ) (p : ℕ) → facts ≡ map (λ (file : Read). facts_of files file.name) files → index name files ≡ Some p
    → slice_get facts p ≡ option_map (λ (at : ℕ). facts_of files name) (index name files)
facts_there files facts name p f e =
    let there = file_at files name p e in
    ap (λ (fs : List Facts). slice_get fs p) f ∙ map_at (λ (file : Read). facts_of files file.name) files p there.0 there.1
    ∙ ap (λ (n : List ℕ). Some (facts_of files n)) there.2 ∙ sym (ap (option_map (λ (at : ℕ). facts_of files name)) e)

-- what a unit uses
pub uses_found : (files : List Read) (unit : List ℕ) (facts : Facts) → Some facts ≡ option_map (λ (at : ℕ). facts_of files unit) (index unit files) → facts.uses ≡ used_units files unit
uses_found files unit facts e = by (index unit files) e where
  by : (o : Option ℕ) → Some facts ≡ option_map (λ (at : ℕ). facts_of files unit) o → facts.uses ≡ used_units files unit
  by None h = cc
  by (Some p) h = let is : facts ≡ facts_of files unit = cc in ap (λ (f : Facts). f.uses) is

pub uses_none : (files : List Read) (unit : List ℕ) → None ≡ option_map (λ (at : ℕ). facts_of files unit) (index unit files) → [] ≡ used_units files unit
uses_none files unit e = by (index unit files) refl e where
  by : (o : Option ℕ) → index unit files ≡ o → None ≡ option_map (λ (at : ℕ). facts_of files unit) o → [] ≡ used_units files unit
  by None p h = sym (unused files unit p)
  by (Some p) q h = cc

-- what it reads
pub reads_found : (files : List Read) (unit : List ℕ) (facts : Facts) → Some facts ≡ option_map (λ (at : ℕ). facts_of files unit) (index unit files) → facts.reads ≡ read_names files unit
reads_found files unit facts e = by (index unit files) e where
  by : (o : Option ℕ) → Some facts ≡ option_map (λ (at : ℕ). facts_of files unit) o → facts.reads ≡ read_names files unit
  by None h = cc
  by (Some p) h = let is : facts ≡ facts_of files unit = cc in ap (λ (f : Facts). f.reads) is

pub reads_none : (files : List Read) (unit : List ℕ) → None ≡ option_map (λ (at : ℕ). facts_of files unit) (index unit files) → cond (is_unit unit) (unit ∷ []) [] ≡ read_names files unit
reads_none files unit e = by (index unit files) (is_unit unit) refl refl e where
  by : (o : Option ℕ) (b : Bool) → index unit files ≡ o → is_unit unit ≡ b → None ≡ option_map (λ (at : ℕ). facts_of files unit) o → cond b (unit ∷ []) [] ≡ read_names files unit
  by None true p t h = sym (read_alone files unit p t)
  by None false p t h = sym (ap (λ (b : Bool). cond b (expansion files unit).reads []) t)
  by (Some p) b q t h = cc

-- those that pass a test
passing : (ws : List ℕ) (test : ℕ → Bool) (q : ℕ) → graph.is_among (filter test ws) q ≡ (graph.is_among ws q && test q)
passing [] test q = refl
passing (w ∷ ws) test q = by (w == q) (test w) refl (λ e. ap test (eqb-true w q e)) (passing ws test q) where
  none : (b c : Bool) → c ≡ false → (b && c) ≡ c
  none true c e = refl
  none false c e = sym e

  by : (b c : Bool) → (w == q) ≡ b → (b ≡ true → c ≡ test q) → graph.is_among (filter test ws) q ≡ (graph.is_among ws q && test q)
      → graph.is_among (cond c (w ∷ filter test ws) (filter test ws)) q ≡ ((b || graph.is_among ws q) && test q)
  by true true p t h = ap (λ (b : Bool). b || graph.is_among (filter test ws) q) p ∙ t refl
  by true false p t h = h ∙ none (graph.is_among ws q) (test q) (sym (t refl))
  by false true p t h = ap (λ (b : Bool). b || graph.is_among (filter test ws) q) p ∙ h
  by false false p t h = h

pub resting : (g : Graph) (p q : ℕ) → has_edge g p q ≡ true → graph.is_among (rests g p) q ≡ not (graph.is_circular g p q)
resting g p q h = passing (targets g p) (λ v. not (graph.is_circular g p v)) q ∙ ap (λ (b : Bool). b && not (graph.is_circular g p q)) h

-- a use in a circle is one of no rest
twice : (b : Bool) → not (not b) ≡ b
twice true = refl
twice false = refl

pub in_circle : (files : List Read) (u v : List ℕ) (p q : ℕ) → index u files ≡ Some p → index v files ≡ Some q
    → (is_among (used_units files u) v && not (graph.is_among (rests (graph_of files) p) q)) ≡ is_circular files u v
in_circle files u v p q e f = by (is_among (used_units files u) v) refl ∙ ap (λ (o : Option ℕ). is_among (used_units files u) v && circular_at (graph_of files) o (Some q)) (sym e) ∙ ap (λ (o : Option ℕ). is_among (used_units files u) v && circular_at (graph_of files) (index u files) o) (sym f) where
  by : (b : Bool) → is_among (used_units files u) v ≡ b → (b && not (graph.is_among (rests (graph_of files) p) q)) ≡ (b && graph.is_circular (graph_of files) p q)
  by true h = ap not (resting (graph_of files) p q (edge files u v p q e f h)) ∙ twice (graph.is_circular (graph_of files) p q)
  by false h = refl

-- an edge leads where one uses the other
pub edge_used : (files : List Read) (u v : List ℕ) (p q : ℕ) → index u files ≡ Some p → index v files ≡ Some q → has_edge (graph_of files) p q ≡ is_among (used_units files u) v
edge_used files u v p q e f = by (has_edge (graph_of files) p q) (is_among (used_units files u) v) back (edge files u v p q e f) where
  back : has_edge (graph_of files) p q ≡ true → is_among (used_units files u) v ≡ true
  back h =
      let used = used_by_edge files u p q e h in
      subst (λ (w : List ℕ). is_among (used_units files u) w ≡ true) (same_index files used.0 v q used.2 f) used.1

  by : (b c : Bool) → (b ≡ true → c ≡ true) → (c ≡ true → b ≡ true) → b ≡ c
  by true c k l = sym (k refl)
  by false true k l = l refl
  by false false k l = refl

and_none : (b c : Bool) → c ≡ false → false ≡ (b && c)
and_none true c e = sym e
and_none false c e = refl

pub no_circle_from : (files : List Read) (u v : List ℕ) → index u files ≡ None → false ≡ is_circular files u v
no_circle_from files u v e = and_none (is_among (used_units files u) v) (circular_at (graph_of files) (index u files) (index v files)) (ap (λ (o : Option ℕ). circular_at (graph_of files) o (index v files)) e)

nowhere : (g : Graph) (o : Option ℕ) → circular_at g o None ≡ false
nowhere g None = refl
nowhere g (Some p) = refl

pub no_circle_to : (files : List Read) (u v : List ℕ) → index v files ≡ None → false ≡ is_circular files u v
no_circle_to files u v e = and_none (is_among (used_units files u) v) (circular_at (graph_of files) (index u files) (index v files)) (ap (circular_at (graph_of files) (index u files)) e ∙ nowhere (graph_of files) (index u files))

both_ways : (a b : Bool) → (a && b) ≡ (b && a)
both_ways true true = refl
both_ways true false = refl
both_ways false true = refl
both_ways false false = refl

-- whether an edge is in a circle, by the indices that it leads from and to
pub edge_in_circle : (files : List Read) (u v : List ℕ) (p q : ℕ) → index u files ≡ Some p → index v files ≡ Some q
    → (not (graph.is_among (rests (graph_of files) p) q) && has_edge (graph_of files) p q) ≡ is_circular files u v
edge_in_circle files u v p q e f =
    both_ways (not (graph.is_among (rests (graph_of files) p) q)) (has_edge (graph_of files) p q)
    ∙ ap (λ (b : Bool). b && not (graph.is_among (rests (graph_of files) p) q)) (edge_used files u v p q e f)
    ∙ in_circle files u v p q e f

-- a file at its place, and one that has none
pub open_there : (files : List Read) (name : List ℕ) (p : ℕ) (file : Read) → index name files ≡ Some p → Some file ≡ slice_get files p → is_some file.source ≡ is_some (file_of files name).source
open_there files name p file e h =
    ap (λ (o : Option Read). is_some (unwrap_or o (record { name = name; revision = 0; source = None })).source) (h ∙ file_there files name p e)

pub closed_there : (files : List Read) (name : List ℕ) (p : ℕ) → index name files ≡ Some p → None ≡ slice_get files p → false ≡ is_some (file_of files name).source
closed_there files name p e h = ap (λ (o : Option Read). is_some (unwrap_or o (record { name = name; revision = 0; source = None })).source) (h ∙ file_there files name p e)

pub absent_standing : (files : List Read) (u v : List ℕ) → index v files ≡ None → standing.Absent ≡ standing_of files u v
absent_standing files u v e =
    let none : None ≡ member files v = sym (ap (option_and_then (slice_get files)) e) ∙ member_at v files in
    ap (λ (o : Option Read). cond (is_some (unwrap_or o (record { name = v; revision = 0; source = None })).source) (cond (is_circular files u v) standing.Circular standing.Below) standing.Absent) none
