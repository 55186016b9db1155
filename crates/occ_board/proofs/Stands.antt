-- The outcomes that are cached of units that are done show what the rules give.
use Rattle.std.proofs.Common.{◌≡◌, ◌↔◌, ◌∙◌, ◌&&◌, ◌||◌, Bool, true, false, not, ℕ, List, map, Option, Some, None, refl, sym, ap, subst}
use Rattle.std.proofs.lemmas.Slice.Eq.{bytes_eq-Decides}
use Rattle.std.specs.Str.{bytes_eq}
use Rattle.occ_forms.specs.Prepared.{IsPrepared, Prepared}
use Rattle.occ_forms.specs.declared.source.SourceLine.{SourceLine}
use Rattle.std.specs.Option.{option_and_then}
use Rattle.occ_board.proofs.Indices.{file_named}
use Rattle.std.specs.List.{slice_get}
use Rattle.occ_board.proofs.Settled.{step_cached}
use Rattle.occ_board.proofs.Trees.{inputs_are_one, used_are_one}
use Rattle.occ_board.proofs.Truths.{all_at, not_both, same_truth}
use Rattle.occ_board.specs.Done.{done, done_step, is_cached, is_that, cached_of}
use Rattle.occ_board.specs.Same.{same_input, same_used}
use Rattle.occ_board.specs.Verdicts.{is_off}
use Rattle.occ_board.specs.inside.Ready.{AreRested, is_rested}
use Rattle.occ_check.specs.Diagnostics.{interface_of}
use Rattle.occ_check.specs.Input.{Input}
use Rattle.occ_check.specs.declared.used.UsedUnit.{UsedUnit}
use Rattle.occ_project.specs.declared.reads.Read.{Read}
use Rattle.occ_check.specs.Checks.{checked, input, interface, used_as, used_unit}
use Rattle.occ_types.specs.declared.interface.Interface.{Interface}
use Rattle.occ_project_units.specs.Indices.{is_below, standing_of}
use Rattle.occ_project_units.specs.Project.{file_of}
use Rattle.occ_project_units.specs.Units.{read_names, unit_reads, used_units}
use Rattle.occ_project_units.specs.declared.standing.Standing.{Standing}
use Rattle.occ_project_units.specs.declared.standing.Standing.TheVariants as standing

that_one : (o : Option Input) (i : Input) → is_that o i ≡ true → o ≡ Some i
that_one None i h = absurd cc
that_one (Some j) i h = ap Some ((inputs_are_one j i).0 h)

pub cached_is : (files : List Read) (cached : List Input) (u : List ℕ) → done files cached u ≡ done_step files cached u (done files cached) → done files cached u ≡ true → cached_of cached u ≡ Some (input files u)
cached_is files cached u law h = that_one (cached_of cached u) (input files u) (step_cached files cached u (done files cached) (sym law ∙ h))

-- what it shows
pub shown_is : (files : List Read) (cached : List Input) (u : List ℕ) → interface files u ≡ interface_of (input files u) → cached_of cached u ≡ Some (input files u) → option_and_then interface_of (cached_of cached u) ≡ interface files u
shown_is files cached u law e = ap (option_and_then interface_of) e ∙ sym law

-- how a unit is used, where what it shows is asked only of those below
pub used_by : (s : Standing) (a b : Option Interface) → (is_below s ≡ true → a ≡ b) → used_as s a ≡ used_as s b
used_by standing.Absent a b e = refl
used_by standing.Circular a b e = refl
used_by standing.Below a b e = ap (used_as standing.Below) (e refl)

pub used_now : (files : List Read) (u v : List ℕ) (shown : Option Interface) → (is_below (standing_of files u v) ≡ true → shown ≡ interface files v) → used_as (standing_of files u v) shown ≡ (used_unit files u (checked files) v).used
used_now files u v shown e = used_by (standing_of files u v) shown (interface files v) e

pub rested : (files : List Read) (cached : List Input) (u : List ℕ) (names : List (List ℕ)) → names ≡ used_units files u → is_rested files cached u ≡ true → AreRested files cached u names
rested files cached u names e h i v at below = all_at (done files cached) (λ v. is_below (standing_of files u v)) (used_units files u) i v h (ap (λ (ns : List (List ℕ)). slice_get ns i) (sym e) ∙ at) below

-- tests that say whether two are one
pub same_inputs : (r : Bool) (i j : Input) → (r ≡ true → i ≡ j) → (i ≡ j → r ≡ true) → r ≡ same_input i j
same_inputs r i j f g = same_truth r (same_input i j) (λ h. (inputs_are_one i j).1 (f h)) (λ h. g ((inputs_are_one i j).0 h))

pub same_uses : (r : Bool) (a b : UsedUnit) → (r ≡ true → a ≡ b) → (a ≡ b → r ≡ true) → r ≡ same_used a b
same_uses r a b f g = same_truth r (same_used a b) (λ h. (used_are_one a b).1 (f h)) (λ h. g ((used_are_one a b).0 h))

-- a job is the present one if its parts are
pub present_is : (r : Bool) (i : Input) (files project : List Read) (u : List ℕ) (reads : List Read) (names : List (List ℕ)) (used : List UsedUnit) (units : List (List ℕ)) → i.unit ≡ u → reads ≡ i.reads → project ≡ files → names ≡ read_names files u
    → reads ≡ map (file_of project) names → used ≡ i.used → units ≡ used_units files u → ((r ≡ true) ↔ (used ≡ map (used_unit files u (checked files)) units)) → r ≡ same_input i (input files u)
present_is r i files project u reads names used units n rs ps ns re us un iff =
    let reads_are : i.reads ≡ unit_reads files u = sym rs ∙ re ∙ ap (λ (fs : List Read). map (file_of fs) names) ps ∙ ap (map (file_of files)) ns in
    same_inputs r i (input files u)
    (λ h.
    ap (λ (x : List ℕ). record { unit = x; reads = i.reads; used = i.used }) n
    ∙ ap (λ (x : List Read). record { unit = u; reads = x; used = i.used }) reads_are
    ∙ ap (λ (x : List UsedUnit). record { unit = u; reads = unit_reads files u; used = x }) (sym us ∙ iff.0 h ∙ ap (map (used_unit files u (checked files))) un))
    (λ e. iff.1 (us ∙ ap (λ (x : Input). x.used) e ∙ ap (map (used_unit files u (checked files))) (sym un)))

-- and else not
pub other_unit : (i : Input) (files : List Read) (u : List ℕ) → (i.unit ≡ u → ⊥) → false ≡ same_input i (input files u)
other_unit i files u n = same_inputs false i (input files u) (λ h. absurd cc) (λ e. absurd (n (ap (λ (x : Input). x.unit) e)))

pub other_reads : (r : Bool) (i : Input) (files project : List Read) (u : List ℕ) (reads : List Read) (names : List (List ℕ)) → reads ≡ i.reads → project ≡ files → names ≡ read_names files u → r ≡ false → ((r ≡ true) ↔ (reads ≡ map (file_of project) names))
    → false ≡ same_input i (input files u)
other_reads r i files project u reads names rs ps ns apart iff =
    same_inputs false i (input files u) (λ h. absurd cc)
    (λ e. absurd (not_both r (iff.1 (rs ∙ ap (λ (x : Input). x.reads) e ∙ sym (ap (λ (fs : List Read). map (file_of fs) names) ps ∙ ap (map (file_of files)) ns))) apart))

-- whether it is the one that is cached
pub cached_that : (r : Bool) (cached : List Input) (i j : Input) (u : List ℕ) → u ≡ i.unit → Some j ≡ cached_of cached u → ((r ≡ true) ↔ (j ≡ i)) → r ≡ is_cached cached i
cached_that r cached i j u n e iff = same_inputs r j i iff.0 iff.1 ∙ ap (λ (o : Option Input). is_that o i) (e ∙ ap (cached_of cached) n)

-- whether a used unit is off
pub is_off_by : (r : Bool) (files : List Read) (cached : List Input) (u : List ℕ) (one : UsedUnit) → false ≡ (is_below (standing_of files u one.unit) && not (done files cached one.unit)) → ((r ≡ true) ↔ (one ≡ used_unit files u (checked files) one.unit))
    → not r ≡ is_off files cached u one
is_off_by r files cached u one w iff =
    ap not (same_uses r one (used_unit files u (checked files) one.unit) iff.0 iff.1)
    ∙ ap (λ (b : Bool). b || not (same_used one (used_unit files u (checked files) one.unit))) w

pub not_same : (r b : Bool) (i j : Input) → b ≡ not r → ((r ≡ true) ↔ (i ≡ j)) → b ≡ not (same_input i j)
not_same r b i j e iff = e ∙ ap not (same_inputs r i j iff.0 iff.1)

-- a read is the file of its name if its revision and its text are
pub read_is : (r : Bool) (files : List Read) (read : Read) (a b : Option Prepared) → read.revision ≡ (file_of files read.name).revision → ((r ≡ true) ↔ (a ≡ b)) → a ≡ read.source → b ≡ (file_of files read.name).source
    → ((r ≡ true) → read ≡ file_of files read.name) × (read ≡ file_of files read.name → r ≡ true)
read_is r files read a b v iff e f = (
  λ h.
      ap (λ (n : ℕ). record { name = read.name; revision = n; source = read.source }) v
      ∙ ap (λ (s : Option Prepared). record { name = read.name; revision = (file_of files read.name).revision; source = s }) (sym e ∙ iff.0 h ∙ f)
      ∙ ap (λ (n : List ℕ). record { name = n; revision = (file_of files read.name).revision; source = (file_of files read.name).source }) (sym (file_named files read.name)),
  λ h. iff.1 (e ∙ ap (λ (x : Read). x.source) h ∙ sym f),
)

-- two sources are one if their texts are
pub same_source : ((text : List ℕ) (lines others : List SourceLine) → IsPrepared text lines → IsPrepared text others → lines ≡ others) → (a b : Prepared) (s t : List ℕ) (r : Bool) → IsPrepared a.text a.lines → IsPrepared b.text b.lines
    → s ≡ a.text → t ≡ b.text → r ≡ bytes_eq s t → (r ≡ true → a ≡ b) × (a ≡ b → r ≡ true)
same_source law a b s t r p q e f is = (
  λ h.
      let texts : a.text ≡ b.text = sym e ∙ (bytes_eq-Decides s t).0 (sym is ∙ h) ∙ f in
      ap (λ (x : List ℕ). record { text = x; lines = a.lines }) texts
      ∙ ap (λ (ls : List SourceLine). record { text = b.text; lines = ls }) (law b.text a.lines b.lines (subst (λ (x : List ℕ). IsPrepared x a.lines) texts p) q),
  λ h. is ∙ (bytes_eq-Decides s t).1 (e ∙ ap (λ (x : Prepared). x.text) h ∙ sym f),
)
