-- Of the units that are pending one is ready.
use Rattle.std.proofs.Common.{◌≡◌, ◌∙◌, ◌&&◌, ◌<◌, Bool, true, false, not, cond, ℕ, suc, List, [], ◌∷◌, length, map, Some, refl, sym, ap, subst, arith}
use Rattle.std.proofs.lemmas.Slice.Eq.{bytes_eq-Decides}
use Rattle.std.specs.List.{filter, find, list_all, slice_get}
use Rattle.std.specs.Option.{is_some}
use Rattle.std.specs.Str.{bytes_eq}
use Rattle.occ_base.specs.FileName.{is_unit}
use Rattle.occ_board.proofs.Accepted.{open_among}
use Rattle.occ_board.proofs.Apart.{among_all, cached_among}
use Rattle.occ_board.proofs.Heights.{along_rests}
use Rattle.occ_board.proofs.Indices.{filed}
use Rattle.occ_board.proofs.Truths.{among_first, either_true, left_true, not_both, or_right, right_true}
use Rattle.occ_board.specs.Done.{NoneIsHanded, done, is_input_among, pending_units, ready_units}
use Rattle.occ_board.specs.Journal.{is_open}
use Rattle.occ_board.specs.Machine.{next_input}
use Rattle.occ_check.specs.Input.{Input}
use Rattle.occ_project.specs.Entries.{is_among}
use Rattle.occ_project.specs.declared.reads.Read.{Read}
use Rattle.occ_check.specs.Checks.{input}
use Rattle.occ_check.specs.Report.{is_open_unit, open_units}
use Rattle.occ_project_units.specs.Indices.{is_below, is_circular, rest_units, standing_of}
use Rattle.occ_project_units.specs.Project.{IsProject, file_of}
use Rattle.occ_project_units.specs.Units.{Uses, used_units}
use Rattle.occ_project_units.specs.declared.standing.Standing.TheVariants as standing

-- a name that fails a test, where not all pass
fails : (f : List ℕ → Bool) (vs : List (List ℕ)) → list_all f vs ≡ false → (v : List ℕ) × ((is_among vs v ≡ true) × (f v ≡ false))
fails f [] h = absurd cc
fails f (v ∷ vs) h = by (f v) refl h (fails f vs) where
  by : (b : Bool) → f v ≡ b → (b && list_all f vs) ≡ false → (list_all f vs ≡ false → (w : List ℕ) × ((is_among vs w ≡ true) × (f w ≡ false))) → (w : List ℕ) × ((is_among (v ∷ vs) w ≡ true) × (f w ≡ false))
  by true e k more = let rest = more k in (rest.0, (or_right (bytes_eq v rest.0) (is_among vs rest.0) rest.1.0, rest.1.1))
  by false e k more = (v, (among_first v vs, e))

-- what is among those that pass a test passes it
passes : (p : List ℕ → Bool) (vs : List (List ℕ)) (v : List ℕ) → is_among (filter p vs) v ≡ true → p v ≡ true
passes p [] v h = absurd cc
passes p (w ∷ vs) v h = by (p w) refl h (passes p vs v) where
  by : (b : Bool) → p w ≡ b → is_among (cond b (w ∷ filter p vs) (filter p vs)) v ≡ true → (is_among (filter p vs) v ≡ true → p v ≡ true) → p v ≡ true
  by true e k rest = either_true (bytes_eq w v) (is_among (filter p vs) v) k (λ m. ap p (sym ((bytes_eq-Decides w v).0 m)) ∙ e) rest
  by false e k rest = rest k

first : (us : List (List ℕ)) → 0 < length us → (u : List ℕ) × (is_among us u ≡ true)
first [] lt = absurd (omega (arith, lt))
first (u ∷ us) lt = (u, among_first u us)

some_found : (t : Input → Bool) (f : List ℕ → Input) (us : List (List ℕ)) (v : List ℕ) → t (f v) ≡ true → is_among us v ≡ true → is_some (find t (map f us)) ≡ true
some_found t f [] v h a = absurd cc
some_found t f (u ∷ us) v h a = by (t (f u)) refl (some_found t f us v h) where
  by : (b : Bool) → t (f u) ≡ b → (is_among us v ≡ true → is_some (find t (map f us)) ≡ true) → is_some (cond b (Some (f u)) (find t (map f us))) ≡ true
  by true e rest = refl
  by false e rest = either_true (bytes_eq u v) (is_among us v) a
      (λ m. let same : u ≡ v = (bytes_eq-Decides u v).0 m in absurd (not_both (t (f u)) (ap (λ (x : List ℕ). t (f x)) same ∙ h) e))
      rest

-- an open unit is a file
open_at : (files : List Read) (u : List ℕ) → is_among (open_units files) u ≡ true → (p : ℕ) × ((file : Read) × ((slice_get files p ≡ Some file) × ((file.name ≡ u) × (is_open_unit file ≡ true))))
open_at [] u h = absurd cc
open_at (file ∷ files) u h = by (is_open_unit file) refl h (open_at files u) where
  by : (b : Bool) → is_open_unit file ≡ b → is_among (map (λ f. f.name) (cond b (file ∷ filter is_open_unit files) (filter is_open_unit files))) u ≡ true
      → (is_among (open_units files) u ≡ true → (p : ℕ) × ((other : Read) × ((slice_get files p ≡ Some other) × ((other.name ≡ u) × (is_open_unit other ≡ true)))))
      → (p : ℕ) × ((other : Read) × ((slice_get (file ∷ files) p ≡ Some other) × ((other.name ≡ u) × (is_open_unit other ≡ true))))
  by true e k more = either_true (bytes_eq file.name u) (is_among (open_units files) u) k
      (λ m. (0, (file, (refl, ((bytes_eq-Decides file.name u).0 m, e)))))
      (λ m. let rest = more m in (suc rest.0, rest.1))
  by false e k more = let rest = more k in (suc rest.0, rest.1)

opened_unit : (files : List Read) (u : List ℕ) → IsProject files → is_among (open_units files) u ≡ true → (is_unit u ≡ true) × (is_open files u ≡ true)
opened_unit files u project a =
    let at = open_at files u a in
    let file = at.1.0 in
    let named : file.name ≡ u = at.1.1.1.0 in
    let here : file_of files file.name ≡ file = filed files at.0 file project at.1.1.0 in (
      subst (λ (n : List ℕ). is_unit n ≡ true) named (left_true (is_unit file.name) (is_some file.source) at.1.1.1.1),
      subst (λ (n : List ℕ). is_open files n ≡ true) named (ap (λ (f : Read). is_some f.source) here ∙ right_true (is_unit file.name) (is_some file.source) at.1.1.1.1),
    )

below_open : (b c : Bool) → is_below (cond b (cond c standing.Circular standing.Below) standing.Absent) ≡ true → b ≡ true
below_open true c h = refl
below_open false c h = absurd cc

record IsReady (files : List Read) (cached : List Input) (u : List ℕ) : Type 0 where
  pub unit : is_unit u ≡ true
  pub opened : is_open files u ≡ true
  pub pending : done files cached u ≡ false
  pub rested : list_all (done files cached) (rest_units files u) ≡ true

module _ (files : List Read) (project : IsProject files) (names : (u v : List ℕ) → Uses files u v → is_unit v ≡ true) (h : List ℕ → ℕ) (fall : (u v : List ℕ) → is_among (rest_units files u) v ≡ true → h v < h u) (cached : List Input) where
  abbrev Leads : List ℕ → Type 0
  Leads u = is_unit u ≡ true → is_open files u ≡ true → done files cached u ≡ false → (v : List ℕ) × IsReady files cached v

  -- down to a unit that rests on none that is pending
  down : (u : List ℕ) (b : Bool) → list_all (done files cached) (rest_units files u) ≡ b → ((v : List ℕ) → is_among (rest_units files u) v ≡ true → Leads v) → Leads u
  down u true e rests unit opened pending = (u, record { unit = unit; opened = opened; pending = pending; rested = e })
  down u false e rests unit opened pending =
      let one = fails (done files cached) (rest_units files u) e in
      let v = one.0 in
      let below = passes (λ w. is_below (standing_of files u w)) (used_units files u) v one.1.0 in
      let used : Uses files u v = among_all (λ w. is_below (standing_of files u w)) (used_units files u) v one.1.0 in
      rests v one.1.0 (names u v used) (below_open (is_some (file_of files v).source) (is_circular files u v) below) one.1.1

  leads : (u : List ℕ) → Leads u
  leads = along_rests files h fall Leads (λ u rests. down u (list_all (done files cached) (rest_units files u)) refl rests)

  pending_is : (b : Bool) → not b ≡ true → b ≡ false
  pending_is true e = absurd cc
  pending_is false e = refl

  pub one_ready : (handed : List Input) → 0 < length (pending_units files cached) → NoneIsHanded files cached handed → is_some (next_input files cached handed) ≡ true
  one_ready handed lt none =
      let one = first (pending_units files cached) lt in
      let is = opened_unit files one.0 project (among_all (λ u. not (done files cached u)) (open_units files) one.0 one.1) in
      let ready = leads one.0 is.0 is.1 (pending_is (done files cached one.0) (passes (λ u. not (done files cached u)) (open_units files) one.0 one.1)) in
      let v = ready.0 in
      let among : is_among (pending_units files cached) v ≡ true = cached_among (λ u. not (done files cached u)) (open_units files) v (ap not ready.1.pending) (open_among files v ready.1.unit ready.1.opened) in
      let first : is_among (ready_units files cached) v ≡ true = cached_among (λ u. list_all (done files cached) (rest_units files u)) (pending_units files cached) v ready.1.rested among in
      some_found (λ i. not (is_input_among handed i)) (input files) (ready_units files cached) v (ap not (none v among)) first
