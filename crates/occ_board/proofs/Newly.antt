-- The flags after an edit of a file that is new, and that no file looks for.
use Rattle.std.proofs.Common.{◌≡◌, ◌∙◌, ◌<◌, ◌≤◌, ◌+◌, ◌&&◌, ◌||◌, ℕ, Bool, true, false, cond, List, [], ◌∷◌, length, map, get_or, Option, Some, None, refl, sym, ap, subst, inl, inr, arith}
use Rattle.std.proofs.lemmas.Bool.{cases_lt}
use Rattle.std.proofs.lemmas.List.Edits.{get_or-insert_above, get_or-insert_at, get_or-insert_below, length-insert}
use Rattle.std.proofs.lemmas.Slice.Eq.{bytes_eq-Decides}
use Rattle.std.specs.List.{insert, slice_get}
use Rattle.std.specs.Option.{is_some, option_and_then, option_map}
use Rattle.std.specs.Str.{bytes_eq}
use Rattle.occ_base.specs.FileName.{is_unit}
use Rattle.occ_board.proofs.Caches.{cached_there}
use Rattle.occ_board.proofs.Marked.{no_unit_step, reads_by}
use Rattle.occ_board.proofs.Indices.{name_there}
use Rattle.occ_board.proofs.Settled.{flag_at, no_flag, step_cached, step_done}
use Rattle.occ_board.proofs.Spread.{placed_there}
use Rattle.occ_board.proofs.Stands.{cached_that}
use Rattle.occ_board.specs.Done.{cached_of, done, done_step, is_cached, is_that}
use Rattle.occ_board.specs.Edits.{IsApart}
use Rattle.occ_board.specs.Journal.{is_open}
use Rattle.occ_board.specs.inside.Flagged.{AreFlags, IsFullAt, IsSound, flag_of}
use Rattle.occ_board.specs.inside.Holding.{index_in}
use Rattle.occ_board.specs.inside.Revisions.{AreBefore}
use Rattle.occ_check.specs.Checks.{input}
use Rattle.occ_check.specs.Input.{Input}
use Rattle.occ_project_graph.specs.Adding.{raised}
use Rattle.occ_project_graph.proofs.Added.{raised_above, raised_below}
use Rattle.occ_project.specs.Entries.{is_among}
use Rattle.occ_project.specs.Expansion.{expansion}
use Rattle.occ_project.specs.Reads.{index}
use Rattle.occ_project.specs.declared.reads.Read.{Read}
use Rattle.occ_project_units.proofs.Added.{index_new, index_then, put_long}
use Rattle.occ_project_units.proofs.Edges.{absent_reads, placed_user}
use Rattle.occ_project_units.proofs.Finding.{index_within}
use Rattle.occ_project_units.specs.Along.{name_at}
use Rattle.occ_project_units.specs.New.{IsNew}
use Rattle.occ_project_units.specs.Project.{IsProject, file_of, put}
use Rattle.occ_project_units.specs.Spelled.{AreSpelled}
use Rattle.occ_project_units.specs.Units.{Uses, UsesBy, read_names, used_units}

none_by : (b : Bool) → (b ≡ true → ⊥) → b ≡ false
none_by true f = absurd (f refl)
none_by false f = refl

-- flags, with one that is not set at an index among them
module _ (flags : List Bool) (at : ℕ) (le : at ≤ length flags) where
  pub flag_then : (p : ℕ) → get_or (insert flags at false) (raised at p) false ≡ get_or flags p false
  flag_then p = elim (cases_lt p at) [
    | inl below ↦ ap (λ (q : ℕ). get_or (insert flags at false) q false) (raised_below at p below) ∙ get_or-insert_below flags at false false p below le
    | inr above ↦ ap (λ (q : ℕ). get_or (insert flags at false) q false) (raised_above at p above) ∙ get_or-insert_above flags at false false p above le
  ]

  pub flag_new : get_or (insert flags at false) at false ≡ false
  flag_new = get_or-insert_at flags at false false le

-- the file is a read of no unit that is there, nor of one that such a unit reaches
module _ (files : List Read) (name : List ℕ) (at : ℕ) (new : IsNew files name at) (units : (u v : List ℕ) → Uses files u v → is_unit v ≡ true) where
  new_reads : (v : List ℕ) → is_unit v ≡ true → bytes_eq v name ≡ false → is_among (expansion files v).reads name ≡ false
  new_reads v unit other = by (index v files) refl where
    by : (o : Option ℕ) → index v files ≡ o → is_among (expansion files v).reads name ≡ false
    by None e = ap (λ (ns : List (List ℕ)). is_among ns name) (absent_reads files v e) ∙ ap (λ (b : Bool). b || false) other
    by (Some q) e = reads_by files name (is_unit v) v refl unit (ap (λ (n : List ℕ). is_among (read_names files n) name) (sym (name_there files v q e)) ∙ new.unread q (index_within v files q e))

  used_other : (u v : List ℕ) → Uses files u v → bytes_eq v name ≡ false
  used_other u v uses = none_by (bytes_eq v name) (λ k.
      let from = placed_user files u v uses in
      let none : is_among (used_units files u) name ≡ false = ap (λ (n : List ℕ). is_among (used_units files n) name) (sym (name_there files u from.0 from.1)) ∙ new.unused from.0 (index_within u files from.0 from.1) in
      let some : is_among (used_units files u) name ≡ true = ap (is_among (used_units files u)) (sym ((bytes_eq-Decides v name).0 k)) ∙ uses in
      cc (none, some))

  way_other : (u : List ℕ) (ws : List (List ℕ)) (v : List ℕ) → UsesBy files u ws v → (bytes_eq v name ≡ false) × (is_unit v ≡ true)
  way_other u [] v uses = (used_other u v uses, units u v uses)
  way_other u (w ∷ ws) v uses = way_other w ws v uses.1

  pub new_apart : (u : List ℕ) → is_unit u ≡ true → bytes_eq u name ≡ false → IsApart files name u
  new_apart u unit other v (inl k) = new_reads v (ap is_unit k ∙ unit) (ap (λ (n : List ℕ). bytes_eq n name) k ∙ other)
  new_apart u unit other v (inr way) = let there = way_other u way.0 v way.1 in new_reads v there.1 there.0

pub swapped : (a b : List ℕ) → bytes_eq a b ≡ false → bytes_eq b a ≡ false
swapped a b h = none_by (bytes_eq b a) (λ k. let here : bytes_eq a b ≡ true = (bytes_eq-Decides a b).1 (sym ((bytes_eq-Decides b a).0 k)) in cc (h, here))

-- no outcome that is cached looked at the file, since its revision is later than all of those
pub new_uncached : (later : List Read) (file : Read) (cached : List Input) → is_unit file.name ≡ true → file_of later file.name ≡ file → AreBefore file.revision cached → is_cached cached (input later file.name) ≡ false
unfolding expansion
new_uncached later file cached unit there before = by (cached_of cached file.name) refl where
  own : slice_get (input later file.name).reads 0 ≡ Some file
  own = ap (λ (b : Bool). slice_get (map (file_of later) (cond b (expansion later file.name).reads [])) 0) unit ∙ ap (λ (f : Read). Some f) there

  later_than : (j : Input) → cached_of cached file.name ≡ Some j → j ≡ input later file.name → ⊥
  later_than j e same = at (index_in cached file.name) (cached_there cached file.name ∙ e) where
    at : (o : Option ℕ) → option_and_then (slice_get cached) o ≡ Some j → ⊥
    at None h = cc
    at (Some k) h =
        let less = before k j h 0 file (ap (λ (i : Input). slice_get i.reads 0) same ∙ own) in
        omega (arith, less)

  by : (o : Option Input) → cached_of cached file.name ≡ o → is_cached cached (input later file.name) ≡ false
  by None e = ap (λ (o : Option Input). is_that o (input later file.name)) e
  by (Some j) e = sym (cached_that false cached (input later file.name) j file.name refl (sym e) ((λ h. absurd cc), (λ same. absurd (later_than j e same))))

module _ (files later : List Read) (file : Read) (at : ℕ) (project : IsProject files) (new : IsNew files file.name at) (put_is : later ≡ put files file) (cached : List Input) (flags next : List Bool) (len : length flags ≡ length files) (are : AreFlags files cached flags) (n : next ≡ insert flags at false)
    (spelled : AreSpelled files) (units : (fs : List Read) (u v : List ℕ) → AreSpelled fs → Uses fs u v → is_unit v ≡ true)
    (apart : (fs : List Read) (f : Read) (ks : List Input) (u : List ℕ) → IsProject fs → IsApart fs f.name u → done (put fs f) ks u ≡ done fs ks u)
    (files_put : (fs : List Read) (f : Read) (n : List ℕ) → file_of (put fs f) n ≡ cond (bytes_eq f.name n) f (file_of fs n)) (rises : (fs : List Read) (f : Read) → IsProject fs → IsProject (put fs f))
    (step : (fs : List Read) (ks : List Input) (u : List ℕ) → IsProject fs → done fs ks u ≡ done_step fs ks u (done fs ks)) where
  later_project : IsProject later
  later_project = subst IsProject (sym put_is) (rises files file project)

  room : at ≤ length flags
  room = let within = new.gap.within in omega (arith, within, len)

  pub new_long : length next ≡ length later
  new_long = ap (length {A = Bool}) n ∙ length-insert flags at false room ∙ ap (λ (m : ℕ). m + 1) len ∙ sym (ap (length {A = Read}) put_is ∙ put_long files file at new)

  still_open : (u : List ℕ) → bytes_eq file.name u ≡ false → is_open later u ≡ is_open files u
  still_open u other = ap (λ (f : Read). is_some f.source) (ap (λ (fs : List Read). file_of fs u) put_is ∙ files_put files file u ∙ ap (λ (b : Bool). cond b file (file_of files u)) other)

  same_done : (u : List ℕ) → bytes_eq file.name u ≡ false → done later cached u ≡ done files cached u
  same_done u other = by (is_unit u) refl where
    by : (b : Bool) → is_unit u ≡ b → done later cached u ≡ done files cached u
    by true unit = ap (λ (fs : List Read). done fs cached u) put_is ∙ apart files file cached u project (new_apart files file.name at new (λ v w. units files v w spelled) u unit (swapped file.name u other))
    by false none =
        no_unit_step cached step later u none later_project
        ∙ ap (λ (b : Bool). b && (is_cached cached (record { unit = u; reads = []; used = [] }) && true)) (still_open u other)
        ∙ sym (no_unit_step cached step files u none project)

  placed_then : (u : List ℕ) → bytes_eq file.name u ≡ false → index u later ≡ option_map (raised at) (index u files)
  placed_then u other = ap (index u) put_is ∙ index_then files file at new u other

  flag_there : (u : List ℕ) (q : ℕ) → index u files ≡ Some q → get_or next (raised at q) false ≡ done files cached u
  flag_there u q e = ap (λ (fs : List Bool). get_or fs (raised at q) false) n ∙ flag_then flags at room q ∙ sym (flag_at files flags u q e) ∙ are u

  pub new_sound : IsSound later cached next
  new_sound u h = by (bytes_eq file.name u) refl where
    there : (o : Option ℕ) → index u files ≡ o → bytes_eq file.name u ≡ false → done later cached u ≡ true
    there None e other = let none = no_flag later next u (placed_then u other ∙ ap (option_map (raised at)) e) in absurd (cc (none, h))
    there (Some q) e other =
        let at_index : index u later ≡ Some (raised at q) = placed_then u other ∙ ap (option_map (raised at)) e in
        same_done u other ∙ sym (flag_there u q e) ∙ sym (flag_at later next u (raised at q) at_index) ∙ h

    by : (b : Bool) → bytes_eq file.name u ≡ b → done later cached u ≡ true
    by true e =
        let same : file.name ≡ u = (bytes_eq-Decides file.name u).0 e in
        let here : index u later ≡ Some at = ap (index u) put_is ∙ ap (λ (m : List ℕ). index m (put files file)) (sym same) ∙ index_new files file at new in
        let none : flag_of later next u ≡ false = flag_at later next u at here ∙ ap (λ (fs : List Bool). get_or fs at false) n ∙ flag_new flags at room in
        absurd (cc (none, h))
    by false e = there (index u files) refl e

  pub new_full : (p : ℕ) → p < length later → bytes_eq file.name (name_at later p) ≡ false → IsFullAt later cached next p
  new_full p lt other h = by (index (name_at later p) files) refl where
    u : List ℕ
    u = name_at later p

    here : index u later ≡ Some p
    here = placed_there later cached later_project p lt

    is : done later cached u ≡ true
    is = step_done later cached (λ v. step later cached v later_project) next u new_sound h

    by : (o : Option ℕ) → index u files ≡ o → get_or next p false ≡ true
    by None e = let none : index u later ≡ None = placed_then u other ∙ ap (option_map (raised at)) e in absurd (cc (none, here))
    by (Some q) e =
        let there : index u later ≡ Some (raised at q) = placed_then u other ∙ ap (option_map (raised at)) e in
        let same : raised at q ≡ p = cc (there, here) in
        ap (λ (x : ℕ). get_or next x false) (sym same) ∙ flag_there u q e ∙ sym (same_done u other) ∙ is

  -- so the flags are right where the file is a unit, of which no outcome is cached
  pub new_unit : is_unit file.name ≡ true → AreBefore file.revision cached → (p : ℕ) → p < length later → IsFullAt later cached next p
  new_unit unit before p lt h = by (bytes_eq file.name (name_at later p)) refl where
    by : (b : Bool) → bytes_eq file.name (name_at later p) ≡ b → get_or next p false ≡ true
    by false other = new_full p lt other h
    by true same =
        let its : is_cached cached (input later (name_at later p)) ≡ true = step_cached later cached (name_at later p) (flag_of later next) h in
        let there : file_of later file.name ≡ file = ap (λ (fs : List Read). file_of fs file.name) put_is ∙ files_put files file file.name ∙ ap (λ (b : Bool). cond b file (file_of files file.name)) ((bytes_eq-Decides file.name file.name).1 refl) in
        let none : is_cached cached (input later (name_at later p)) ≡ false = ap (λ (u : List ℕ). is_cached cached (input later u)) (sym ((bytes_eq-Decides file.name (name_at later p)).0 same)) ∙ new_uncached later file cached unit there before in
        absurd (cc (none, its))
