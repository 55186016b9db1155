-- Recursion along what units rest on is recursion along the graph of their indices.
use Rattle.std.proofs.Common.{◌≡◌, ℕ, zero, suc, ◌<◌, ◌≤◌, true, false, Bool, cond, not, ◌&&◌, ◌||◌, List, [], ◌∷◌, length, get_or, Option, Some, None, refl, sym, ap, subst, ◌∙◌, inl, inr, arith}
use Rattle.std.specs.List.{filter, slice_get}
use Rattle.std.specs.Option.{is_some, option_and_then, option_map, unwrap_or}
use Rattle.std.specs.Str.{bytes_eq}
use Rattle.std.specs.Cmp.Lexicographic.{same_text}
use Rattle.std.proofs.lemmas.Bool.{cases_lt}
use Rattle.occ_project_graph.specs.Along as graph
use Rattle.occ_project_graph.specs.Graph.{Graph, rests}
use Rattle.occ_project_graph.specs.Graph as edges
use Rattle.occ_project.specs.declared.reads.Read.{Read}
use Rattle.occ_project.specs.Entries.{is_among}
use Rattle.occ_project.specs.Reads.{member, name_cmp, index}
use Rattle.std.specs.declared.cmp.Ordering.TheVariants.{Equal}
use Rattle.occ_project_units.specs.declared.standing.Standing.TheVariants as standing
use Rattle.occ_project_units.specs.Along.{IsLocal, along, along_indices, by_index, name_at}
use Rattle.occ_project_units.specs.Indices.{circular_at, graph_of, is_below, is_circular, rest_units, standing_of}
use Rattle.occ_project_units.specs.Project.{IsProject, file_of}
use Rattle.occ_project_units.specs.Units.{Uses, used_units}
use Rattle.occ_project_units.proofs.Edges.{edge, file_at}
use Rattle.occ_project_units.proofs.Finding.{found_at, member_at}
use Rattle.occ_project_units.proofs.Kept.{resting}
use Rattle.occ_project_units.proofs.Looks.{same_bytes}
use Rattle.occ_project_units.proofs.Rising.{test_equal}

-- the name at the place of a name is that name
pub named_at : (files : List Read) (v : List ℕ) (q : ℕ) → index v files ≡ Some q → name_at files q ≡ v
named_at files v q e =
    let there = file_at files v q e in
    ap (λ (o : Option Read). unwrap_or (option_map (λ (file : Read). file.name) o) []) there.1 ∙ there.2

-- and where no name stands twice, the place of the name at an index is that index
pub get_some : (files : List Read) (p : ℕ) (d : Read) → p < length files → (get_or files p d).name ≡ name_at files p
get_some [] p d lt = absurd (omega (arith, lt))
get_some (x ∷ files) zero d lt = refl
get_some (x ∷ files) (suc p) d lt = get_some files p d (omega (arith, lt))

pub placed_name : (files : List Read) (p : ℕ) → IsProject files → p < length files → index (name_at files p) files ≡ Some p
placed_name files p s lt =
    let name = name_at files p in
    found_at name files p s lt (λ d. subst (λ (n : List ℕ). name_cmp n name ≡ Equal) (sym (get_some files p d lt)) (test_equal name name (same_bytes name)))

no_name : (files : List Read) (p : ℕ) → length files ≤ p → name_at files p ≡ []
no_name [] p le = refl
no_name (x ∷ files) zero le = absurd (omega (arith, le))
no_name (x ∷ files) (suc p) le = no_name files p (omega (arith, le))

-- those that pass a test
passes : (names : List (List ℕ)) (test : List ℕ → Bool) (v : List ℕ) → is_among (filter test names) v ≡ true → (is_among names v ≡ true) × (test v ≡ true)
passes [] test v h = cc
passes (n ∷ names) test v h = by (bytes_eq n v) (test n) refl refl (passes names test v) h where
  more : (b : Bool) → (is_among names v ≡ true) × (test v ≡ true) → ((b || is_among names v) ≡ true) × (test v ≡ true)
  more true t = (refl, t.1)
  more false t = t

  by : (b c : Bool) → bytes_eq n v ≡ b → test n ≡ c → (is_among (filter test names) v ≡ true → (is_among names v ≡ true) × (test v ≡ true)) → is_among (cond c (n ∷ filter test names) (filter test names)) v ≡ true
      → ((bytes_eq n v || is_among names v) ≡ true) × (test v ≡ true)
  by true true p q f k = (ap (λ (b : Bool). b || is_among names v) p, ap test (sym (same_text n v (sym p))) ∙ q)
  by false true p q f k = more (bytes_eq n v) (f (ap (λ (b : Bool). b || is_among (filter test names) v) (sym p) ∙ k))
  by true false p q f k = more (bytes_eq n v) (f k)
  by false false p q f k = more (bytes_eq n v) (f k)

below_parts : (b c : Bool) → is_below (cond b (cond c standing.Circular standing.Below) standing.Absent) ≡ true → (b ≡ true) × (c ≡ false)
below_parts true true h = cc
below_parts true false h = (refl, refl)
below_parts false c h = cc

not_and : (b c : Bool) → b ≡ true → (b && c) ≡ false → c ≡ false
not_and true c h k = k
not_and false c h k = cc

module _ (files : List Read) where
  rest_is : (u v : List ℕ) → is_among (rest_units files u) v ≡ true → Uses files u v × ((is_some (file_of files v).source ≡ true) × (is_circular files u v ≡ false))
  rest_is u v h =
      let t = passes (used_units files u) (λ v. is_below (standing_of files u v)) v h in
      (t.0, below_parts (is_some (file_of files v).source) (is_circular files u v) t.1)

  -- a unit that another rests on has an index
  rest_open : (u v : List ℕ) → is_among (rest_units files u) v ≡ true → (q : ℕ) × (index v files ≡ Some q)
  rest_open u v h = by (index v files) refl where
    by : (o : Option ℕ) → index v files ≡ o → (q : ℕ) × (index v files ≡ Some q)
    by None e =
        let none : member files v ≡ None = sym (member_at v files) ∙ ap (option_and_then (slice_get files)) e in
        let shut : is_some (file_of files v).source ≡ false = ap (λ (m : Option Read). is_some (unwrap_or m (record { name = v; revision = 0; source = None })).source) none in
        let opened = (rest_is u v h).1.0 in
        absurd (cc (shut, opened))
    by (Some q) e = (q, e)

  rest_index : (u v : List ℕ) (p q : ℕ) → index u files ≡ Some p → index v files ≡ Some q → is_among (rest_units files u) v ≡ true → edges.is_among (rests (graph_of files) p) q ≡ true
  rest_index u v p q e f h =
      let is = rest_is u v h in
      let apart = not_and (is_among (used_units files u) v) (circular_at (graph_of files) (index u files) (index v files)) is.0 is.1.1 in
      let straight : edges.is_circular (graph_of files) p q ≡ false =
      sym (ap (λ (o : Option ℕ). circular_at (graph_of files) o (Some q)) e) ∙ sym (ap (circular_at (graph_of files) (index u files)) f) ∙ apart
      in
      resting (graph_of files) p q (edge files u v p q e f is.0) ∙ ap not straight

module _ {A : Type 0} (files : List Read) (step : List ℕ → (List ℕ → A) → A) (base : A) (sorted : IsProject files) (here : IsLocal files step) where
  at_index : (f : ℕ → A) (v : List ℕ) (q : ℕ) → index v files ≡ Some q → by_index files f base v ≡ f q
  at_index f v q e = ap (λ (o : Option ℕ). unwrap_or (option_map f o) base) e

  abbrev step_at : ℕ → (ℕ → A) → A
  step_at p f = step (name_at files p) (by_index files f base)

  local_indices : graph.IsLocal (graph_of files) step_at
  local_indices p f h k = elim (cases_lt p (length files)) [
    | inl below ↦ here (name_at files p) (by_index files f base) (by_index files h base) (λ v a.
        let there = rest_open files (name_at files p) v a in
        at_index f v there.0 there.1 ∙ k there.0 (rest_index files (name_at files p) v p there.0 (placed_name files p sorted below) there.1 a) ∙ sym (at_index h v there.0 there.1))
    | inr above ↦ here (name_at files p) (by_index files f base) (by_index files h base) (λ v a.
        let none : is_among (rest_units files []) v ≡ true = subst (λ (n : List ℕ). is_among (rest_units files n) v ≡ true) (no_name files p above) a in
        absurd (cc none))
  ]

  module _ (law : (g : Graph) (step : ℕ → (ℕ → A) → A) (base : A) → graph.IsLocal g step → (u : ℕ) → graph.along g step base u ≡ step u (graph.along g step base)) where
    pub along_units : (u : List ℕ) → along files step base u ≡ step u (along files step base)
    unfolding along
    along_units u = here u (by_index files (along_indices files step base) base) (along files step base) (λ v a.
        let there = rest_open files u v a in
        at_index (along_indices files step base) v there.0 there.1
        ∙ law (graph_of files) step_at base local_indices there.0
        ∙ ap (λ (n : List ℕ). step n (by_index files (along_indices files step base) base)) (named_at files v there.0 there.1))
