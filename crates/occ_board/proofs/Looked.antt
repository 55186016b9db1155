-- Outcomes that are verified: what of them edits and accepted outcomes leave.
use Rattle.std.proofs.Common.{◌≡◌, ◌↔◌, ◌∙◌, ◌&&◌, ◌⊎◌, ◌<◌, ◌≤◌, ℕ, Bool, true, false, cond, not, List, [], length, map, get_or, Option, Some, None, refl, sym, ap, subst, inl, inr}
use Rattle.std.proofs.lemmas.Slice.Eq.{bytes_eq-Decides}
use Rattle.std.specs.List.{insert}
use Rattle.std.specs.Option.{is_some, option_and_then, option_map}
use Rattle.std.specs.Prelude.{slice_set}
use Rattle.std.specs.Str.{bytes_eq}
use Rattle.occ_base.specs.FileName.{is_unit}
use Rattle.occ_board.proofs.Accepted.{cached_here, cached_other}
use Rattle.occ_board.proofs.Apart.{cached_among}
use Rattle.occ_board.proofs.Judged.{file_source}
use Rattle.occ_board.proofs.Marked.{left_by, no_input}
use Rattle.occ_board.proofs.Newly.{flag_new, flag_then, new_apart, swapped}
use Rattle.occ_board.proofs.Indices.{name_there}
use Rattle.occ_board.proofs.Settled.{flag_at, no_flag, none_each, set_each}
use Rattle.occ_board.proofs.Stands.{shown_is, used_by}
use Rattle.occ_board.proofs.Trees.{inputs_are_one}
use Rattle.occ_board.proofs.Truths.{all_among, not_both}
use Rattle.occ_board.specs.Edits.{IsApart}
use Rattle.occ_board.specs.Done.{done, is_cached, is_that, cached_of}
use Rattle.occ_board.specs.Machine.{with_cached}
use Rattle.occ_board.specs.inside.Flagged.{flag_of}
use Rattle.occ_board.specs.inside.Verified.{AreVerified, cached_check, looked, shown_of}
use Rattle.occ_board.specs.inside.Ready.{is_rested}
use Rattle.occ_project_graph.specs.Adding.{raised}
use Rattle.occ_project_graph.specs.Graph.{Graph, has_edge, is_among as is_index}
use Rattle.occ_project.specs.Entries.{is_among}
use Rattle.occ_project.specs.Expansion.{Expansion, expansion}
use Rattle.occ_project.specs.Reads.{open_source, index}
use Rattle.occ_project.specs.Uses.{used_in}
use Rattle.occ_project.specs.declared.reads.Read.{Read}
use Rattle.occ_check.proofs.Local.{map_among}
use Rattle.occ_check.specs.Checks.{checked, input, interface, used_as, used_unit}
use Rattle.occ_check.specs.Diagnostics.{interface_of}
use Rattle.occ_check.specs.Input.{Input}
use Rattle.occ_check.specs.declared.used.UsedUnit.{UsedUnit}
use Rattle.occ_types.specs.declared.interface.Interface.{Interface}
use Rattle.occ_project_units.proofs.Added.{index_new, index_then}
use Rattle.occ_project_units.proofs.Edges.{edge}
use Rattle.occ_project_units.proofs.Finding.{index_within}
use Rattle.occ_project_units.proofs.Renewed.{still_placed}
use Rattle.occ_project_units.specs.Alike.{AreAlike}
use Rattle.occ_project_units.specs.Along.{name_at}
use Rattle.occ_project_units.specs.New.{IsNew}
use Rattle.occ_project_units.specs.Indices.{circular_at, graph_of, is_below, readers_at, rest_units, standing_of, users_at}
use Rattle.occ_project_units.specs.Project.{IsProject, file_of, put}
use Rattle.occ_project_units.specs.Spelled.{AreSpelled}
use Rattle.occ_project_units.specs.Units.{Uses, read_names, unit_reads, used_units}
use Rattle.occ_project_units.specs.declared.standing.Standing.{Standing}
use Rattle.occ_project_units.specs.declared.standing.Standing.TheVariants as standing

pub false_by : (b : Bool) → (b ≡ true → ⊥) → b ≡ false
false_by true f = absurd (f refl)
false_by false f = refl

-- what is looked at, part by part
looked_by : (u : List ℕ) (reads others : List Read) (used given : List UsedUnit) → reads ≡ others → used ≡ given → ◌≡◌ {A = Input} (record { unit = u; reads = reads; used = used }) (record { unit = u; reads = others; used = given })
looked_by u reads others used given r s = ap (λ (x : List Read). record { unit = u; reads = x; used = used }) r ∙ ap (λ (x : List UsedUnit). record { unit = u; reads = others; used = x }) s

-- where all that a unit rests on is done, this is what is so at present
pub looked_now : (files : List Read) (cached : List Input) (u : List ℕ) → ((v : List ℕ) → interface files v ≡ interface_of (input files v)) → ((v : List ℕ) → done files cached v ≡ true → cached_of cached v ≡ Some (input files v)) → is_rested files cached u ≡ true → looked files cached u ≡ input files u
looked_now files cached u shows caches rested =
    looked_by u (unit_reads files u) (unit_reads files u) (map (used_unit files u (cached_check cached)) (used_units files u)) (input files u).used refl (map_among (used_unit files u (cached_check cached)) (used_unit files u (checked files)) (used_units files u) (λ v a.
    ap (λ x. record { unit = v; used = x }) (used_by (standing_of files u v) (shown_of cached v) (interface files v) (λ b.
    shown_is files cached v (shows v) (caches v (all_among (done files cached) (rest_units files u) v rested (cached_among (λ w. is_below (standing_of files u w)) (used_units files u) v b a)))))))

-- so a verified outcome of it is of its present input
pub verified_cached : (files : List Read) (cached : List Input) (verified : List Bool) (u : List ℕ) (p : ℕ) → AreVerified files cached verified → index u files ≡ Some p → get_or verified p false ≡ true → looked files cached u ≡ input files u → is_cached cached (input files u) ≡ true
verified_cached files cached verified u p are at h same =
    ap (λ (o : Option Input). is_that o (input files u)) (are u (flag_at files verified u p at ∙ h) ∙ ap (λ (i : Input). Some i) same) ∙ (inputs_are_one (input files u) (input files u)).1 refl

pub one_index : (m n : ℕ) → Some m ≡ Some n → m ≡ n
one_index m n s = cc

-- none is verified
pub none_verified : (files : List Read) (cached : List Input) (verified : List Bool) → ((p : ℕ) → get_or verified p false ≡ false) → AreVerified files cached verified
none_verified files cached verified none = none_each files (λ u. cached_of cached u ≡ Some (looked files cached u)) verified none

pub new_verified : (files : List Read) (cached : List Input) (verified : List Bool) → verified ≡ [] → AreVerified files cached verified
new_verified files cached verified e = none_verified files cached verified (λ p. ap (λ (fs : List Bool). get_or fs p false) e)

-- one more is
pub set_verified : (files : List Read) (cached : List Input) (verified : List Bool) (p : ℕ) → AreVerified files cached verified → cached_of cached (name_at files p) ≡ Some (looked files cached (name_at files p)) → AreVerified files cached (slice_set verified p true)
set_verified files cached verified p are here = set_each files (λ u. cached_of cached u ≡ Some (looked files cached u)) verified p are here

-- of the users of a unit none is
pub users_forgotten : (files : List Read) (verified next : List Bool) (users : List ℕ) (unit : List ℕ) (q : ℕ) → ((p : ℕ) → (is_index (users_at files q) p ≡ true) ↔ (has_edge (graph_of files) p q ≡ true)) → index unit files ≡ Some q → users ≡ users_at files q
    → ((p : ℕ) → get_or next p false ≡ (get_or verified p false && not (is_index users p))) → (u : List ℕ) → flag_of files next u ≡ true → (flag_of files verified u ≡ true) × (is_among (used_units files u) unit ≡ false)
users_forgotten files verified next users unit q law at are left u h = by (index u files) refl where
  by : (o : Option ℕ) → index u files ≡ o → (flag_of files verified u ≡ true) × (is_among (used_units files u) unit ≡ false)
  by None e = let none = no_flag files next u e in absurd (cc (none, h))
  by (Some p) e =
      let parts = left_by (get_or verified p false) (is_index users p) (sym (left p) ∙ sym (flag_at files next u p e) ∙ h) in (
        flag_at files verified u p e ∙ parts.0,
        false_by (is_among (used_units files u) unit) (λ uses. not_both (is_index users p) (ap (λ (ws : List ℕ). is_index ws p) are ∙ (law p).1 (edge files u unit p q e at uses)) parts.1),
      )

-- an outcome more is cached, and those are forgotten that looked at something else of its unit
module _ (files : List Read) (cached : List Input) (i : Input) (verified next : List Bool) (same : Bool) (are : AreVerified files cached verified)
    (left : (u : List ℕ) → flag_of files next u ≡ true → (flag_of files verified u ≡ true) × ((same ≡ true) ⊎ (is_among (used_units files u) i.unit ≡ false)))
    (shows : same ≡ true → interface_of i ≡ shown_of cached i.unit) (here : cached_of (with_cached cached i) i.unit ≡ Some (looked files (with_cached cached i) i.unit)) where
  still_shown : (u v : List ℕ) → is_among (used_units files u) v ≡ true → (same ≡ true) ⊎ (is_among (used_units files u) i.unit ≡ false) → shown_of cached v ≡ shown_of (with_cached cached i) v
  still_shown u v a one = by (bytes_eq i.unit v) refl where
    its : i.unit ≡ v → (same ≡ true) ⊎ (is_among (used_units files u) i.unit ≡ false) → shown_of cached v ≡ shown_of (with_cached cached i) v
    its e (inl s) = ap (shown_of cached) (sym e) ∙ sym (shows s) ∙ ap (option_and_then interface_of) (sym (cached_here cached i)) ∙ ap (shown_of (with_cached cached i)) e
    its e (inr none) = absurd (not_both (is_among (used_units files u) i.unit) (ap (is_among (used_units files u)) e ∙ a) none)

    by : (b : Bool) → bytes_eq i.unit v ≡ b → shown_of cached v ≡ shown_of (with_cached cached i) v
    by true e = its ((bytes_eq-Decides i.unit v).0 e) one
    by false e = ap (option_and_then interface_of) (sym (cached_other cached i v e))

  still_looked : (u : List ℕ) → (same ≡ true) ⊎ (is_among (used_units files u) i.unit ≡ false) → looked files cached u ≡ looked files (with_cached cached i) u
  still_looked u one =
      looked_by u (unit_reads files u) (unit_reads files u) (map (used_unit files u (cached_check cached)) (used_units files u)) (map (used_unit files u (cached_check (with_cached cached i))) (used_units files u)) refl
      (map_among (used_unit files u (cached_check cached)) (used_unit files u (cached_check (with_cached cached i))) (used_units files u) (λ v a. ap (λ (x : Option Interface). record { unit = v; used = used_as (standing_of files u v) x }) (still_shown u v a one)))

  pub verified_with : AreVerified files (with_cached cached i) next
  verified_with u h = by (bytes_eq i.unit u) refl where
    by : (b : Bool) → bytes_eq i.unit u ≡ b → cached_of (with_cached cached i) u ≡ Some (looked files (with_cached cached i) u)
    by true e = subst (λ (v : List ℕ). cached_of (with_cached cached i) v ≡ Some (looked files (with_cached cached i) v)) ((bytes_eq-Decides i.unit u).0 e) here
    by false e =
        let one = left u h in
        cached_other cached i u e ∙ are u one.0 ∙ ap (λ (x : Input). Some x) (still_looked u one.1)

-- a file is edited that a unit does not read, and units stand to each other as before
module _ (files later : List Read) (file : Read) (alike : AreAlike files later) (indices : (u : List ℕ) → index u later ≡ index u files)
    (is : (name : List ℕ) → file_of later name ≡ cond (bytes_eq file.name name) file (file_of files name))
    (alone : (fs others : List Read) (unit : List ℕ) → ((name : List ℕ) → is_among (expansion fs unit).reads name ≡ true → open_source others name ≡ open_source fs name) → expansion others unit ≡ expansion fs unit)
    (u : List ℕ) (unread : is_among (read_names files u) file.name ≡ false) where
  other_file : (name : List ℕ) → is_among (read_names files u) name ≡ true → file_of later name ≡ file_of files name
  other_file name a =
      let other : bytes_eq file.name name ≡ false = false_by (bytes_eq file.name name) (λ e. not_both (is_among (read_names files u) file.name) (ap (is_among (read_names files u)) ((bytes_eq-Decides file.name name).0 e) ∙ a) unread) in
      is name ∙ ap (λ (b : Bool). cond b file (file_of files name)) other

  same_expansion : is_unit u ≡ true → expansion later u ≡ expansion files u
  same_expansion unit = alone files later u (λ name a. sym (file_source later name) ∙ ap (λ (r : Read). r.source) (other_file name (ap (λ (b : Bool). is_among (cond b (expansion files u).reads []) name) unit ∙ a)) ∙ file_source files name)

  pub same_names : (read_names later u ≡ read_names files u) × (used_units later u ≡ used_units files u)
  same_names = by (is_unit u) refl where
    by : (b : Bool) → is_unit u ≡ b → (read_names later u ≡ read_names files u) × (used_units later u ≡ used_units files u)
    by true unit =
        let same = same_expansion unit in (
          ap (λ (e : Expansion). cond (is_unit u) e.reads []) same,
          ap (λ (e : Expansion). cond (is_unit u) (used_in e.lines) []) same,
        )
    by false none = (
      ap (λ (b : Bool). cond b (expansion later u).reads []) none ∙ sym (ap (λ (b : Bool). cond b (expansion files u).reads []) none),
      ap (λ (b : Bool). cond b (used_in (expansion later u).lines) []) none ∙ sym (ap (λ (b : Bool). cond b (used_in (expansion files u).lines) []) none),
    )

  same_reads : unit_reads later u ≡ unit_reads files u
  same_reads = ap (map (file_of later)) same_names.0 ∙ map_among (file_of later) (file_of files) (read_names files u) other_file

  pub same_standing : (v : List ℕ) → standing_of later u v ≡ standing_of files u v
  same_standing v =
      ap (λ (b : Bool). cond b (cond (is_among (used_units later u) v && circular_at (graph_of later) (index u later) (index v later)) standing.Circular standing.Below) standing.Absent) (alike.opened v)
      ∙ ap (λ (us : List (List ℕ)). cond (is_some (file_of files v).source) (cond (is_among us v && circular_at (graph_of later) (index u later) (index v later)) standing.Circular standing.Below) standing.Absent) same_names.1
      ∙ ap (λ (g : Graph). cond (is_some (file_of files v).source) (cond (is_among (used_units files u) v && circular_at g (index u later) (index v later)) standing.Circular standing.Below) standing.Absent) alike.graph
      ∙ ap (λ (o : Option ℕ). cond (is_some (file_of files v).source) (cond (is_among (used_units files u) v && circular_at (graph_of files) o (index v later)) standing.Circular standing.Below) standing.Absent) (indices u)
      ∙ ap (λ (o : Option ℕ). cond (is_some (file_of files v).source) (cond (is_among (used_units files u) v && circular_at (graph_of files) (index u files) o) standing.Circular standing.Below) standing.Absent) (indices v)

  pub looked_still : (cached : List Input) → looked files cached u ≡ looked later cached u
  looked_still cached =
      looked_by u (unit_reads files u) (unit_reads later u) (map (used_unit files u (cached_check cached)) (used_units files u)) (map (used_unit later u (cached_check cached)) (used_units later u)) (sym same_reads)
      (map_among (used_unit files u (cached_check cached)) (used_unit later u (cached_check cached)) (used_units files u) (λ v a. ap (λ (s : Standing). record { unit = v; used = used_as s (shown_of cached v) }) (sym (same_standing v)))
      ∙ ap (map (used_unit later u (cached_check cached))) (sym same_names.1))

-- a unit that is no reader does not read the file
pub unread_at : (files : List Read) (name : List ℕ) (at : ℕ) → IsProject files → index name files ≡ Some at
    → ((fs : List Read) (p q : ℕ) → IsProject fs → p < length fs → q < length fs → is_index (readers_at fs q) p ≡ is_among (read_names fs (name_at fs p)) (name_at fs q))
    → (u : List ℕ) (p : ℕ) → index u files ≡ Some p → is_index (readers_at files at) p ≡ false → is_among (read_names files u) name ≡ false
unread_at files name at project here reading u p e none =
    ap (λ (n : List ℕ). is_among (read_names files n) name) (sym (name_there files u p e))
    ∙ ap (is_among (read_names files (name_at files p))) (sym (name_there files name at here))
    ∙ sym (reading files p at project (index_within u files p e) (index_within name files at here))
    ∙ none

-- so after an edit those are verified that were and that do not read the file
pub verified_after : (files one later : List Read) (file : Read) (at : ℕ) (cached : List Input) (verified next : List Bool) (readers slice : List ℕ) (marks : List Bool) (alike : Bool) → IsProject files → one ≡ files → later ≡ put one file → index file.name files ≡ Some at
    → readers ≡ readers_at files at → slice ≡ readers → AreVerified files cached verified → (alike ≡ true → AreAlike one later)
    → ((p : ℕ) → get_or next p false ≡ true → (get_or verified p false ≡ true) × (((alike ≡ true) × (is_index slice p ≡ false)) ⊎ (get_or marks p false ≡ false)))
    → ((v : List ℕ) (p : ℕ) → index v files ≡ Some p → get_or marks p false ≡ false → looked later cached v ≡ looked files cached v)
    → ((fs : List Read) (f : Read) (n : List ℕ) → file_of (put fs f) n ≡ cond (bytes_eq f.name n) f (file_of fs n))
    → ((fs others : List Read) (unit : List ℕ) → ((name : List ℕ) → is_among (expansion fs unit).reads name ≡ true → open_source others name ≡ open_source fs name) → expansion others unit ≡ expansion fs unit)
    → ((fs : List Read) (p q : ℕ) → IsProject fs → p < length fs → q < length fs → is_index (readers_at fs q) p ≡ is_among (read_names fs (name_at fs p)) (name_at fs q))
    → AreVerified later cached next
verified_after files one later file at cached verified next readers slice marks alike project same put_is here r s are like left unmarked put_law alone reading u h = by (index u files) refl where
  put_later : later ≡ put files file
  put_later = put_is ∙ ap (λ (fs : List Read). put fs file) same

  indices : (v : List ℕ) → index v later ≡ index v files
  indices v = still_placed files later file at project put_later here v

  changed : (name : List ℕ) → file_of later name ≡ cond (bytes_eq file.name name) file (file_of files name)
  changed name = ap (λ (fs : List Read). file_of fs name) put_later ∙ put_law files file name

  same_looked : (p : ℕ) → index u files ≡ Some p → ((alike ≡ true) × (is_index slice p ≡ false)) ⊎ (get_or marks p false ≡ false) → looked files cached u ≡ looked later cached u
  same_looked p e (inl both) =
      let unread = unread_at files file.name at project here reading u p e (ap (λ (ws : List ℕ). is_index ws p) (sym (s ∙ r)) ∙ both.1) in
      looked_still files later file (subst (λ (fs : List Read). AreAlike fs later) same (like both.0)) indices changed alone u unread cached
  same_looked p e (inr none) = sym (unmarked u p e none)

  by : (o : Option ℕ) → index u files ≡ o → cached_of cached u ≡ Some (looked later cached u)
  by None e = let none = no_flag later next u (indices u ∙ e) in absurd (cc (none, h))
  by (Some p) e =
      let was = left p (sym (flag_at later next u p (indices u ∙ e)) ∙ h) in
      are u (flag_at files verified u p e ∙ was.0) ∙ ap (λ (x : Input). Some x) (same_looked p e was.1)

-- and after one of a file that is new, and that no file looks for
pub verified_new : (files later : List Read) (file : Read) (at : ℕ) (cached : List Input) (verified next : List Bool) → IsProject files → IsNew files file.name at → later ≡ put files file → AreSpelled files → ((fs : List Read) (u v : List ℕ) → AreSpelled fs → Uses fs u v → is_unit v ≡ true)
    → ((fs : List Read) (f : Read) (ks : List Input) (u : List ℕ) → IsApart fs f.name u → looked (put fs f) ks u ≡ looked fs ks u) → AreVerified files cached verified → ((at ≤ length verified) × (next ≡ insert verified at false)) ⊎ (next ≡ []) → AreVerified later cached next
verified_new files later file at cached verified next project new put_is spelled units law are (inr e) u h = new_verified later cached next e u h
verified_new files later file at cached verified next project new put_is spelled units law are (inl both) u h = by (bytes_eq file.name u) refl where
  flag_is : (p : ℕ) → index u later ≡ Some p → get_or (insert verified at false) p false ≡ true
  flag_is p e = sym (ap (λ (fs : List Bool). get_or fs p false) both.1) ∙ sym (flag_at later next u p e) ∙ h

  same_looked : bytes_eq file.name u ≡ false → looked files cached u ≡ looked later cached u
  same_looked other = unit_or (is_unit u) refl where
    unit_or : (b : Bool) → is_unit u ≡ b → looked files cached u ≡ looked later cached u
    unit_or true unit = sym (ap (λ (fs : List Read). looked fs cached u) put_is ∙ law files file cached u (new_apart files file.name at new (λ v w. units files v w spelled) u unit (swapped file.name u other)))
    unit_or false none = no_input files (cached_check cached) u none ∙ sym (no_input later (cached_check cached) u none)

  placed : (o : Option ℕ) → index u files ≡ o → bytes_eq file.name u ≡ false → cached_of cached u ≡ Some (looked later cached u)
  placed None e other = let none = no_flag later next u (ap (index u) put_is ∙ index_then files file at new u other ∙ ap (option_map (raised at)) e) in absurd (cc (none, h))
  placed (Some q) e other =
      let was = flag_is (raised at q) (ap (index u) put_is ∙ index_then files file at new u other ∙ ap (option_map (raised at)) e) in
      are u (flag_at files verified u q e ∙ sym (flag_then verified at both.0 q) ∙ was) ∙ ap (λ (x : Input). Some x) (same_looked other)

  by : (b : Bool) → bytes_eq file.name u ≡ b → cached_of cached u ≡ Some (looked later cached u)
  by true e =
      let same : file.name ≡ u = (bytes_eq-Decides file.name u).0 e in
      let was = flag_is at (ap (index u) put_is ∙ ap (λ (m : List ℕ). index m (put files file)) (sym same) ∙ index_new files file at new) in
      let none = flag_new verified at both.0 in
      absurd (cc (none, was))
  by false e = placed (index u files) refl e
