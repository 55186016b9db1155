-- How many units are open, and how many of them are done.
use Rattle.std.proofs.Common.{◌≡◌, ◌∙◌, ◌&&◌, ◌+◌, ◌-◌, ◌<◌, ◌≤◌, ℕ, zero, suc, Bool, true, false, cond, not, List, [], ◌∷◌, length, map, set, get_or, Option, Some, None, refl, sym, ap, subst, nat_le, arith, if◌then◌else◌}
use Rattle.std.specs.List.{AllByRecursion, filter, slice_get}
use Rattle.std.proofs.lemmas.List.{length-map}
use Rattle.std.specs.Option.{is_some, option_and_then, option_map, unwrap_or}
use Rattle.std.specs.Ordering.{match_ordering}
use Rattle.std.specs.Str.{bytes_eq}
use Rattle.std.proofs.lemmas.Slice.Eq.{bytes_eq-Decides}
use Rattle.std.specs.declared.cmp.Ordering.{Ordering}
use Rattle.std.specs.declared.cmp.Ordering.TheVariants.{Less, Equal, Greater}
use Rattle.occ_base.specs.FileName.{is_unit}
use Rattle.occ_board.proofs.Indices.{at_index, file_named, filed, placed}
use Rattle.occ_board.proofs.Readers.{few_files}
use Rattle.occ_board.proofs.Settled.{flag_at, step_cached, step_open}
use Rattle.occ_board.proofs.Truths.{both_true}
use Rattle.occ_board.specs.Done.{done, done_step, is_that, cached_of, pending_units}
use Rattle.occ_board.specs.Journal.{IsBase, edited, else_fault, if_full, is_open, last_number, open_number, refusal_of, replay}
use Rattle.occ_board.specs.Machine.{with_cached}
use Rattle.occ_board.specs.declared.base.Base.{Base}
use Rattle.occ_board.specs.declared.entry.Edit.{Edit}
use Rattle.occ_board.specs.declared.entry.Edit.TheVariants as edit
use Rattle.occ_board.specs.declared.entry.EditFault.{EditFault}
use Rattle.occ_board.specs.declared.entry.EditFault.TheVariants as fault
use Rattle.occ_board.specs.declared.entry.Entry.{Entry}
use Rattle.occ_board.specs.inside.Flagged.{AreFlags, flagged}
use Rattle.occ_board.specs.inside.Holding.{count_then}
use Rattle.occ_check.specs.Input.{Input}
use Rattle.occ_project.specs.Reads.{name_cmp, index}
use Rattle.occ_project.specs.declared.reads.Read.{Read}
use Rattle.occ_check.specs.Report.{is_open_unit, open_units}
use Rattle.occ_project_units.proofs.Finding.{member_at}
use Rattle.occ_project_units.proofs.Looks.{same_bytes}
use Rattle.occ_project_units.proofs.Putting.{put_at}
use Rattle.occ_project_units.proofs.Rising.{equal_names}
use Rattle.occ_project_units.specs.Project.{IsProject, file_of, put}

abbrev one : Bool → ℕ
one b = cond b 1 0

passed : (b : Bool) (f : EditFault) (later : Option EditFault) → else_fault b f later ≡ None → b ≡ false
passed true f later e = absurd cc
passed false f later e = refl

not_false : (b : Bool) → not b ≡ false → b ≡ true
not_false true e = refl
not_false false e = absurd cc

-- a name without an index is of no file
no_file : (files : List Read) (name : List ℕ) → index name files ≡ None → file_of files name ≡ record { name = name; revision = 0; source = None }
no_file files name e = ap (λ (m : Option Read). unwrap_or m (record { name = name; revision = 0; source = None })) (sym (member_at name files) ∙ ap (option_and_then (slice_get files)) e)

-- ---- how many files pass a test that no absent file passes

module _ (q : Read → Bool) (absent : (name : List ℕ) → q (record { name = name; revision = 0; source = None }) ≡ false) where
  more_by : (b : Bool) (file : Read) (rest : List Read) → length (cond b (file ∷ rest) rest) ≡ one b + length rest
  more_by true file rest = let k : suc (length rest) ≡ 1 + length rest = omega arith in k
  more_by false file rest = let k : length rest ≡ 0 + length rest = omega arith in k

  more : (file : Read) (files : List Read) → length (filter q (file ∷ files)) ≡ one (q file) + length (filter q files)
  more file files = more_by (q file) file (filter q files)

  -- where no file has its name
  rest_none : (b : Bool) (o : Option ℕ) → cond b (Some 0) (option_map suc o) ≡ None → o ≡ None
  rest_none true o e = absurd cc
  rest_none false None e = refl
  rest_none false (Some n) e = absurd cc

  new : (files : List Read) (file : Read) → index file.name files ≡ None → length (filter q (put files file)) ≡ one (q file) + length (filter q files)
  new [] file none = more file []
  new (x ∷ files) file none = by (name_cmp file.name x.name) refl (new files file (rest_none (bytes_eq x.name file.name) (index file.name files) none)) where
    by : (o : Ordering) → name_cmp file.name x.name ≡ o → length (filter q (put files file)) ≡ one (q file) + length (filter q files)
        → length (filter q (match_ordering o (file ∷ x ∷ files) (file ∷ files) (x ∷ put files file))) ≡ one (q file) + length (filter q (x ∷ files))
    by Less e rest = more file (x ∷ files)
    by Equal e rest =
        let here : index file.name (x ∷ files) ≡ Some 0 = ap (λ (b : Bool). cond b (Some 0) (option_map suc (index file.name files))) (ap (bytes_eq x.name) (equal_names file.name x.name e) ∙ same_bytes x.name) in
        absurd (cc (here, none))
    by Greater e rest =
        let m = more x (put files file) in
        let k = more x files in
        omega (arith, m, k, rest)

  -- and in place of the one that has it
  instead : (files : List Read) (at : ℕ) (old file : Read) → slice_get files at ≡ Some old → length (filter q (set files at file)) + one (q old) ≡ length (filter q files) + one (q file)
  instead [] at old file e = absurd cc
  instead (x ∷ files) zero old file e =
      let is : x ≡ old = cc in
      let m = more file files in
      let k : length (filter q (x ∷ files)) ≡ one (q old) + length (filter q files) = more x files ∙ ap (λ (f : Read). one (q f) + length (filter q files)) is in
      omega (arith, m, k)
  instead (x ∷ files) (suc at) old file e =
      let rest = instead files at old file e in
      let m = more x (set files at file) in
      let k = more x files in
      omega (arith, m, k, rest)

  put_counted : (files : List Read) (file : Read) → IsProject files → length (filter q (put files file)) + one (q (file_of files file.name)) ≡ length (filter q files) + one (q file)
  put_counted files file project = by (index file.name files) refl where
    by : (o : Option ℕ) → index file.name files ≡ o → length (filter q (put files file)) + one (q (file_of files file.name)) ≡ length (filter q files) + one (q file)
    by None e =
        let zero_is : one (q (file_of files file.name)) ≡ 0 = ap (λ (f : Read). one (q f)) (no_file files file.name e) ∙ ap one (absent file.name) in
        let longer = new files file e in
        omega (arith, zero_is, longer)
    by (Some at) e =
        let there = at_index files file.name at e in
        let was : one (q there.0) ≡ one (q (file_of files file.name)) = ap (λ (f : Read). one (q f)) (sym there.1.1.1) in
        let other = instead files at there.0 file there.1.0 in
        let same : length (filter q (set files at file)) ≡ length (filter q (put files file)) = ap (λ (fs : List Read). length (filter q fs)) (put_at files file at project e) in
        omega (arith, was, other, same)

  -- ---- after an edit that is not refused, where an open file passes by its name or does not

  module _ (b : Bool) (files : List Read) (full : Bool) (project : IsProject files) where
    now_by : (n : ℕ) (e : Edit) (was is : Bool) → q (file_of files (edited n e).name) ≡ (b && was) → q (edited n e) ≡ (b && is)
        → length (filter q (put files (edited n e))) + one (b && was) ≡ length (filter q files) + one (b && is)
    now_by n e was is old new =
        ap (λ (x : Bool). length (filter q (put files (edited n e))) + one x) (sym old) ∙ put_counted files (edited n e) project ∙ ap (λ (x : Bool). length (filter q files) + one x) new

    opened_by : (c : Bool) (old new : ℕ) → new + one (c && false) ≡ old + one (c && true) → new ≡ old + one c
    opened_by true old new k = omega (arith, k)
    opened_by false old new k = omega (arith, k)

    closed_by : (c : Bool) (old new : ℕ) → new + one (c && true) ≡ old + one (c && false) → new ≡ old - one c
    closed_by true old new k = omega (arith, k)
    closed_by false old new k = omega (arith, k)

    pub counted_after : (n : ℕ) (e : Edit) → refusal_of files full e ≡ None → q (file_of files (edited 0 e).name) ≡ (b && is_open files (edited 0 e).name) → q (edited n e) ≡ (b && is_some (edited 0 e).source)
        → length (filter q (put files (edited n e))) ≡ count_then b (length (filter q files)) e
    counted_after n (edit.Added name source) r old new =
        let shut : is_open files name ≡ false = passed (is_open files name) fault.AlreadyOpen (else_fault (nat_le 4096 (open_number files)) fault.TooManyFiles (if_full full)) r in
        opened_by b (length (filter q files)) (length (filter q (put files (edited n (edit.Added name source))))) (now_by n (edit.Added name source) false true (old ∙ ap (λ (x : Bool). b && x) shut) new)
    counted_after n (edit.Changed name source) r old new =
        let there : is_open files name ≡ true = not_false (is_open files name) (passed (not (is_open files name)) fault.NotOpen (if_full full) r) in
        let k = now_by n (edit.Changed name source) true true (old ∙ ap (λ (x : Bool). b && x) there) new in
        omega (arith, k)
    counted_after n (edit.Removed name) r old new =
        let there : is_open files name ≡ true = not_false (is_open files name) (passed (not (is_open files name)) fault.NotOpen (if_full full) r) in
        closed_by b (length (filter q files)) (length (filter q (put files (edited n (edit.Removed name))))) (now_by n (edit.Removed name) true false (old ∙ ap (λ (x : Bool). b && x) there) new)

    -- what is closed was counted
    pub counted_before : (name : List ℕ) → refusal_of files full (edit.Removed name) ≡ None → q (file_of files name) ≡ (b && is_open files name) → q (record { name = name; revision = 0; source = None }) ≡ (b && false) → b ≡ true → 0 < length (filter q files)
    counted_before name r old new is =
        let there : is_open files name ≡ true = not_false (is_open files name) (passed (not (is_open files name)) fault.NotOpen (if_full full) r) in
        let k = now_by 0 (edit.Removed name) true false (old ∙ ap (λ (x : Bool). b && x) there) new in
        let t : one (b && true) ≡ 1 = ap (λ (c : Bool). one (c && true)) is in
        let f : one (b && false) ≡ 0 = ap (λ (c : Bool). one (c && false)) is in
        omega (arith, k, t, f)

-- ---- files and units

abbrev is_opened : Read → Bool
is_opened file = is_some file.source

and_false : (b : Bool) → (b && false) ≡ false
and_false true = refl
and_false false = refl

units_long : (files : List Read) → length (open_units files) ≡ length (filter is_open_unit files)
units_long files = length-map (filter is_open_unit files) (λ (f : Read). f.name)

edited_unit : (n : ℕ) (e : Edit) → is_open_unit (edited n e) ≡ (is_unit (edited 0 e).name && is_some (edited 0 e).source)
edited_unit n (edit.Added name source) = refl
edited_unit n (edit.Changed name source) = refl
edited_unit n (edit.Removed name) = refl

edited_open : (n : ℕ) (e : Edit) → is_opened (edited n e) ≡ is_some (edited 0 e).source
edited_open n (edit.Added name source) = refl
edited_open n (edit.Changed name source) = refl
edited_open n (edit.Removed name) = refl

named_unit : (files : List Read) (name : List ℕ) → is_open_unit (file_of files name) ≡ (is_unit name && is_open files name)
named_unit files name = ap (λ (n : List ℕ). is_unit n && is_open files name) (file_named files name)

module _ (files : List Read) (full : Bool) (project : IsProject files) where
  pub units_after : (n : ℕ) (e : Edit) → refusal_of files full e ≡ None → length (open_units (put files (edited n e))) ≡ count_then (is_unit (edited 0 e).name) (length (open_units files)) e
  units_after n e r =
      units_long (put files (edited n e))
      ∙ counted_after is_open_unit (λ name. and_false (is_unit name)) (is_unit (edited 0 e).name) files full project n e r (named_unit files (edited 0 e).name) (edited_unit n e)
      ∙ ap (λ (m : ℕ). count_then (is_unit (edited 0 e).name) m e) (sym (units_long files))

  pub open_after : (n : ℕ) (e : Edit) → refusal_of files full e ≡ None → open_number (put files (edited n e)) ≡ count_then true (open_number files) e
  open_after n e r = counted_after is_opened (λ name. refl) true files full project n e r refl (edited_open n e)

  pub units_before : (name : List ℕ) → refusal_of files full (edit.Removed name) ≡ None → is_unit name ≡ true → 0 < length (open_units files)
  units_before name r unit =
      subst (λ (n : ℕ). 0 < n) (sym (units_long files)) (counted_before is_open_unit (λ m. and_false (is_unit m)) (is_unit name) files full project name r (named_unit files name) refl unit)

  pub open_before : (name : List ℕ) → refusal_of files full (edit.Removed name) ≡ None → 0 < open_number files
  open_before name r = counted_before is_opened (λ m. refl) true files full project name r refl refl refl

-- there are no more of them than files
least : (q : Read → Bool) (files : List Read) → length (filter q files) ≤ length files
least q [] = omega arith
least q (x ∷ files) = by (q x) (least q files) where
  by : (b : Bool) → length (filter q files) ≤ length files → length (cond b (x ∷ filter q files) (filter q files)) ≤ suc (length files)
  by true le = omega (arith, le)
  by false le = omega (arith, le)

pub units_few : (base : Base) (es : List Entry) → IsBase base → length (open_units (replay base es)) ≤ last_number base es
units_few base es based =
    let a = least is_open_unit (replay base es) in
    let b = few_files base es based in
    let c = units_long (replay base es) in
    omega (arith, a, b, c)

pub open_few : (base : Base) (es : List Entry) → IsBase base → open_number (replay base es) ≤ last_number base es
open_few base es based =
    let a = least is_opened (replay base es) in
    let b = few_files base es based in
    omega (arith, a, b)

-- ---- what is cached is of units

abbrev pub AreUnits : List Input → Type 0
AreUnits cached = AllByRecursion (λ (i : Input). is_unit i.unit ≡ true) cached

pub units_with : (cached : List Input) (i : Input) → AreUnits cached → is_unit i.unit ≡ true → AreUnits (with_cached cached i)
units_with [] i h unit = (unit, tt)
units_with (j ∷ js) i h unit = by (bytes_eq j.unit i.unit) (units_with js i h.1 unit) where
  by : (b : Bool) → AreUnits (with_cached js i) → AreUnits (if b then i ∷ js else j ∷ with_cached js i)
  by true rest = (unit, h.1)
  by false rest = (h.0, rest)

unit_cached : (cached : List Input) (u : List ℕ) (i : Input) → AreUnits cached → is_that (cached_of cached u) i ≡ true → is_unit u ≡ true
unit_cached [] u i h k = absurd cc
unit_cached (j ∷ js) u i h k = by (bytes_eq j.unit u) refl (unit_cached js u i h.1) k where
  by : (b : Bool) → bytes_eq j.unit u ≡ b → (is_that (cached_of js u) i ≡ true → is_unit u ≡ true) → is_that (cond b (Some j) (cached_of js u)) i ≡ true → is_unit u ≡ true
  by true e rest t = subst (λ (n : List ℕ). is_unit n ≡ true) ((bytes_eq-Decides j.unit u).0 e) h.0
  by false e rest t = rest t

-- ---- how many are done

one_more : (q : List ℕ → Bool) (f : Read) (rest : List Read) (b ob d : Bool) (n : ℕ) → q f.name ≡ not d → b ≡ d → (d ≡ true → ob ≡ true) → n + length (filter q (map (λ (x : Read). x.name) rest)) ≡ length (map (λ (x : Read). x.name) rest)
    → (one b + n) + length (filter q (map (λ (x : Read). x.name) (cond ob (f ∷ rest) rest))) ≡ length (map (λ (x : Read). x.name) (cond ob (f ∷ rest) rest))
one_more q f rest true true d n k e h m =
    let none : q f.name ≡ false = k ∙ ap not (sym e) in
    let same = ap (λ (x : Bool). length (cond x (f.name ∷ filter q (map (λ (x : Read). x.name) rest)) (filter q (map (λ (x : Read). x.name) rest)))) none in
    omega (arith, same, m)
one_more q f rest true false d n k e h m = absurd (let t = h (sym e) in cc)
one_more q f rest false true d n k e h m =
    let some : q f.name ≡ true = k ∙ ap not (sym e) in
    let same = ap (λ (x : Bool). length (cond x (f.name ∷ filter q (map (λ (x : Read). x.name) rest)) (filter q (map (λ (x : Read). x.name) rest)))) some in
    omega (arith, same, m)
one_more q f rest false false d n k e h m = omega (arith, m)

module _ (files : List Read) (cached : List Input) where
  left : (some : List Read) (flags : List Bool) → length flags ≡ length some → ((p : ℕ) (f : Read) → slice_get some p ≡ Some f → get_or flags p false ≡ done files cached f.name)
      → ((p : ℕ) (f : Read) → slice_get some p ≡ Some f → done files cached f.name ≡ true → is_open_unit f ≡ true) → flagged flags + length (filter (λ u. not (done files cached u)) (open_units some)) ≡ length (open_units some)
  left [] [] len is unit = refl
  left [] (b ∷ flags) len is unit = absurd cc
  left (f ∷ some) [] len is unit = absurd cc
  left (f ∷ some) (b ∷ flags) len is unit =
      one_more (λ u. not (done files cached u)) f (filter is_open_unit some) b (is_open_unit f) (done files cached f.name) (flagged flags) refl (is 0 f refl) (unit 0 f refl)
      (left some flags (omega (arith, len)) (λ p x e. is (suc p) x e) (λ p x e. unit (suc p) x e))

  pub done_counted : (flags : List Bool) → IsProject files → AreUnits cached → (done_is : (u : List ℕ) → done files cached u ≡ done_step files cached u (done files cached)) → AreFlags files cached flags → length flags ≡ length files
      → flagged flags + length (pending_units files cached) ≡ length (open_units files)
  done_counted flags project units law are len =
      left files flags len (λ p f e. sym (flag_at files flags f.name p (placed files p f project e)) ∙ are f.name) (λ p f e d.
      let step : done_step files cached f.name (done files cached) ≡ true = sym (law f.name) ∙ d in
      let opened : is_some f.source ≡ true = ap (λ (x : Read). is_some x.source) (sym (filed files p f project e)) ∙ step_open files cached f.name (done files cached) step in
      both_true (is_unit f.name) (is_some f.source) (unit_cached cached f.name _ units (step_cached files cached f.name (done files cached) step)) opened)
