-- An outcome that is accepted looked at what is so at present.
use Rattle.std.proofs.Common.{◌≡◌, ◌∙◌, ◌&&◌, ◌||◌, Bool, true, false, not, cond, ℕ, List, [], ◌∷◌, map, Option, Some, None, refl, sym, ap, nat_eq, nat_lt, if◌then◌else◌}
use Rattle.std.proofs.lemmas.Slice.Eq.{bytes_eq-Decides}
use Rattle.std.specs.List.{filter, find, list_all}
use Rattle.std.specs.Option.{is_some, option_and_then, option_map, unwrap_or}
use Rattle.std.specs.Str.{bytes_eq}
use Rattle.occ_base.specs.FileName.{is_unit}
use Rattle.occ_board.proofs.Trees.{used_are_one}
use Rattle.occ_board.proofs.Truths.{both_true, left_true, right_true}
use Rattle.occ_board.specs.Done.{done, is_cached}
use Rattle.occ_board.specs.Journal.{is_open}
use Rattle.occ_board.specs.Same.{same_used}
use Rattle.occ_board.specs.Verdicts.{is_as_read, is_off, off_read, reads_verdict}
use Rattle.occ_board.specs.declared.verdict.Verdict.{Verdict}
use Rattle.occ_board.specs.declared.verdict.Verdict.TheVariants as verdict
use Rattle.occ_board.specs.inside.Ready.{IsAcceptable, is_rested}
use Rattle.occ_check.specs.Input.{Input, IsInput, expansion_in}
use Rattle.occ_check.specs.declared.used.UsedUnit.{UsedUnit}
use Rattle.occ_forms.specs.Prepared.{Prepared}
use Rattle.occ_project.specs.Entries.{is_among}
use Rattle.occ_project.specs.Expansion.{Expansion, expansion}
use Rattle.occ_project.specs.Reads.{member, open_lines, open_source}
use Rattle.occ_project.specs.Uses.{used_in}
use Rattle.occ_project.specs.declared.reads.Read.{Read}
use Rattle.occ_check.specs.Checks.{checked, input, used_unit}
use Rattle.occ_project_units.specs.Indices.{is_below, standing_of}
use Rattle.occ_project_units.specs.Project.{file_of}
use Rattle.occ_project_units.specs.Units.{unit_reads, used_units}

-- what is open under a name, by the file
pub file_source : (files : List Read) (name : List ℕ) → (file_of files name).source ≡ open_source files name
file_source files name = by (member files name) where
  by : (m : Option Read) → (unwrap_or m (record { name = name; revision = 0; source = None })).source ≡ option_and_then (λ (r : Read). r.source) m
  by None = refl
  by (Some file) = refl

open_by : (source : Option Prepared) → is_some (option_map (λ (s : Prepared). s.lines) source) ≡ is_some source
open_by None = refl
open_by (Some s) = refl

-- reads that are all of the files of their names as they are
abbrev pub now_of : List Read → Read → Read
now_of files r = file_of files r.name

open_same : (files rs : List Read) → rs ≡ map (now_of files) rs → (name : List ℕ) → is_among (map (λ r. r.name) rs) name ≡ true → open_source files name ≡ open_source rs name
open_same files [] e name a = absurd cc
open_same files (r ∷ rs) e name a =
    let first : r ≡ now_of files r = cc in
    let rest : rs ≡ map (now_of files) rs = cc in
    by (bytes_eq r.name name) refl first (open_same files rs rest name) a
  where
    by : (b : Bool) → bytes_eq r.name name ≡ b → r ≡ now_of files r → (is_among (map (λ r. r.name) rs) name ≡ true → open_source files name ≡ open_source rs name) → (b || is_among (map (λ r. r.name) rs) name) ≡ true
        → open_source files name ≡ option_and_then (λ (r : Read). r.source) (cond b (Some r) (member rs name))
    by true h first more k =
        let same : r.name ≡ name = (bytes_eq-Decides r.name name).0 h in
        sym (file_source files name) ∙ ap (λ (r : Read). r.source) (sym (first ∙ ap (file_of files) same))
    by false h first more k = more k

-- names again
named_now : (files rs : List Read) → rs ≡ map (now_of files) rs → rs ≡ map (file_of files) (map (λ r. r.name) rs)
named_now files [] e = refl
named_now files (r ∷ rs) e =
    let first : r ≡ now_of files r = cc in
    let rest : rs ≡ map (now_of files) rs = cc in
    ap (λ (x : Read). x ∷ rs) first ∙ ap (λ (xs : List Read). now_of files r ∷ xs) (named_now files rs rest)

-- none of the used units is off
none_off : {X : Type 0} (t : X → Bool) (x : X) (xs : List X) → find t (x ∷ xs) ≡ None → (t x ≡ false) × (find t xs ≡ None)
none_off t x xs h = by (t x) refl h where
  by : (b : Bool) → t x ≡ b → cond b (Some x) (find t xs) ≡ None → (t x ≡ false) × (find t xs ≡ None)
  by true e k = absurd cc
  by false e k = (e, k)

on_by : (below done same : Bool) → ((below && not done) || not same) ≡ false → (same ≡ true) × (below ≡ true → done ≡ true)
on_by true true true h = (refl, λ e. refl)
on_by true true false h = absurd cc
on_by true false same h = absurd cc
on_by false done true h = (refl, λ e. absurd cc)
on_by false done false h = absurd cc

module _ (files : List Read) (cached : List Input) (u : List ℕ) where
  is_on : (one : UsedUnit) → is_off files cached u one ≡ false → (one ≡ used_unit files u (checked files) one.unit) × (is_below (standing_of files u one.unit) ≡ true → done files cached one.unit ≡ true)
  is_on one h =
      let parts = on_by (is_below (standing_of files u one.unit)) (done files cached one.unit) (same_used one (used_unit files u (checked files) one.unit)) h in
      ((used_are_one one (used_unit files u (checked files) one.unit)).0 parts.0, parts.1)

  used_on : (ones : List UsedUnit) → find (is_off files cached u) ones ≡ None → ones ≡ map (used_unit files u (checked files)) (map (λ one. one.unit) ones)
  used_on [] h = refl
  used_on (one ∷ ones) h =
      let parts = none_off (is_off files cached u) one ones h in
      ap (λ (x : UsedUnit). x ∷ ones) (is_on one parts.0).0 ∙ ap (λ (xs : List UsedUnit). used_unit files u (checked files) one.unit ∷ xs) (used_on ones parts.1)

  rests_on : (ones : List UsedUnit) → find (is_off files cached u) ones ≡ None → list_all (done files cached) (filter (λ v. is_below (standing_of files u v)) (map (λ one. one.unit) ones)) ≡ true
  rests_on [] h = refl
  rests_on (one ∷ ones) h =
      let parts = none_off (is_off files cached u) one ones h in
      by (is_below (standing_of files u one.unit)) (rests_on ones parts.1) (is_on one parts.0).1
    where
      by : (b : Bool) → list_all (done files cached) (filter (λ v. is_below (standing_of files u v)) (map (λ one. one.unit) ones)) ≡ true → (b ≡ true → done files cached one.unit ≡ true)
          → list_all (done files cached) (cond b (one.unit ∷ filter (λ v. is_below (standing_of files u v)) (map (λ one. one.unit) ones)) (filter (λ v. is_below (standing_of files u v)) (map (λ one. one.unit) ones))) ≡ true
      by true rest d = both_true (done files cached one.unit) (list_all (done files cached) (filter (λ v. is_below (standing_of files u v)) (map (λ one. one.unit) ones))) (d refl) rest
      by false rest d = rest

module _ (files : List Read) (cached : List Input) (i : Input) (is : IsInput i) (now : i.reads ≡ map (now_of files) i.reads) (on : find (is_off files cached i.unit) i.used ≡ None)
    (alone : ((name : List ℕ) → is_among (expansion_in i).reads name ≡ true → open_source files name ≡ open_source i.reads name) → expansion files i.unit ≡ expansion_in i) where
  unit : is_unit i.unit ≡ true
  unit = left_true (is_unit i.unit) (is_some (open_lines i.reads i.unit)) is.0.present

  same_expansion : expansion files i.unit ≡ expansion_in i
  same_expansion = alone (λ name a. open_same files i.reads now name (ap (λ (ns : List (List ℕ)). is_among ns name) is.0.names ∙ a))

  reads_are : i.reads ≡ unit_reads files i.unit
  reads_are =
      named_now files i.reads now
      ∙ ap (map (file_of files)) (is.0.names ∙ ap (λ (e : Expansion). e.reads) (sym same_expansion) ∙ sym (ap (λ (b : Bool). cond b (expansion files i.unit).reads []) unit))

  names_are : map (λ one. one.unit) i.used ≡ used_units files i.unit
  names_are =
      is.1
      ∙ ap (λ (e : Expansion). used_in e.lines) (sym same_expansion)
      ∙ sym (ap (λ (b : Bool). cond b (used_in (expansion files i.unit).lines) []) unit)

  pub input_is : i ≡ input files i.unit
  input_is =
      ap (λ (rs : List Read). record { unit = i.unit; reads = rs; used = i.used }) reads_are
      ∙ ap (λ (us : List UsedUnit). record { unit = i.unit; reads = unit_reads files i.unit; used = us }) (used_on files cached i.unit i.used on ∙ ap (map (used_unit files i.unit (checked files))) names_are)

  -- the unit is one of its reads
  pub opened_is : is_among (expansion_in i).reads i.unit ≡ true → is_open files i.unit ≡ true
  opened_is itself =
      sym (open_by (file_of files i.unit).source)
      ∙ ap (λ (o : Option Prepared). is_some (option_map (λ (s : Prepared). s.lines) o)) (file_source files i.unit ∙ open_same files i.reads now i.unit (ap (λ (ns : List (List ℕ)). is_among ns i.unit) is.0.names ∙ itself))
      ∙ right_true (is_unit i.unit) (is_some (open_lines i.reads i.unit)) is.0.present

  pub unit_is : is_unit i.unit ≡ true
  unit_is = unit

  pub rested_is : is_rested files cached i.unit ≡ true
  rested_is = ap (λ (ns : List (List ℕ)). list_all (done files cached) (filter (λ v. is_below (standing_of files i.unit v)) ns)) (sym names_are) ∙ rests_on files cached i.unit i.used on

nothing_found : (o : Option UsedUnit) (q : Option Verdict) → q ≡ option_map (λ one. verdict.Stale one.unit) o → q ≡ None → o ≡ None
nothing_found None q e n = refl
nothing_found (Some one) q e n = absurd cc

-- so an outcome that nothing decides against may be cached
pub acceptable : (files : List Read) (cached : List Input) (i : Input) (used : List UsedUnit) (user : List ℕ) (k : Bool) → IsInput i
    → used ≡ i.used → user ≡ i.unit → i.reads ≡ map (now_of files) i.reads → None ≡ option_map (λ one. verdict.Stale one.unit) (find (is_off files cached user) used) → false ≡ is_cached cached i
    → ((fs others : List Read) (unit : List ℕ) → ((name : List ℕ) → is_among (expansion fs unit).reads name ≡ true → open_source others name ≡ open_source fs name) → expansion others unit ≡ expansion fs unit)
    → ((fs : List Read) (unit : List ℕ) → is_among (expansion fs unit).reads unit ≡ true)
    → IsAcceptable files cached i
acceptable files cached i used user k is ones n now none other alone itself =
    let on : find (is_off files cached i.unit) i.used ≡ None =
    ap (λ (u : List ℕ). find (is_off files cached u) i.used) (sym n) ∙ ap (find (is_off files cached user)) (sym ones) ∙ nothing_found (find (is_off files cached user) used) None none refl in
    record {
      now = input_is files cached i is now on (alone i.reads files i.unit);
      job = record {
        unit = unit_is files cached i is now on (alone i.reads files i.unit);
        opened = opened_is files cached i is now on (alone i.reads files i.unit) (itself i.reads i.unit);
        rested = rested_is files cached i is now on (alone i.reads files i.unit);
      };
      other = sym other;
    }

-- no read decides that an outcome is accepted
never_by : (b : Bool) (name : List ℕ) (v : Verdict) → Some v ≡ Some (if b then verdict.Foreign name else verdict.Stale name) → v ≡ verdict.Accepted → ⊥
never_by true name v e h = absurd cc
never_by false name v e h = absurd cc

pub never_accepted : (files : List Read) (accepted : ℕ) (reads : List Read) (v : Verdict) → Some v ≡ reads_verdict files accepted reads → v ≡ verdict.Accepted → ⊥
never_accepted files accepted [] v e h = absurd cc
never_accepted files accepted (read ∷ reads) v e h = by (is_as_read read (file_of files read.name)) e (λ k. never_accepted files accepted reads v k h) where
  by : (b : Bool) → Some v ≡ (if b then reads_verdict files accepted reads else Some (off_read accepted read (file_of files read.name))) → (Some v ≡ reads_verdict files accepted reads → ⊥) → ⊥
  by true k f = f k
  by false k f = never_by (nat_lt accepted read.revision || nat_eq read.revision (file_of files read.name).revision) read.name v k h

-- reads, as they were asked for
pub all_now : (files project reads rs slice : List Read) → project ≡ files → slice ≡ rs → rs ≡ reads → slice ≡ map (now_of project) slice → reads ≡ map (now_of files) reads
all_now files project reads rs slice p s r now =
    let same : slice ≡ reads = s ∙ r in
    sym same ∙ now ∙ ap (λ (fs : List Read). map (now_of fs) slice) p ∙ ap (map (now_of files)) same
