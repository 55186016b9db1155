-- A unit that is opened, checked and cached.
use Rattle.std.proofs.Common.{◌≡◌, ◌∙◌, ◌&&◌, ◌||◌, Bool, true, false, not, ℕ, List, [], ◌∷◌, length, map, cond, codes, Some, None, refl, ap, if◌then◌else◌}
use Rattle.std.specs.List.{filter, find, list_all}
use Rattle.std.specs.Option.{option_map}
use Rattle.occ_board.proofs.Trees.{inputs_are_one, used_are_one}
use Rattle.occ_board.specs.Done.{done, is_input_among, pending_units, ready_units}
use Rattle.occ_board.specs.Machine.{after, finish_answer, files_of, cached_after, pending_answer, take_answer}
use Rattle.occ_board.specs.Machine.Event.{Take}
use Rattle.occ_board.specs.Same.{same_input, same_used}
use Rattle.occ_board.specs.Samples.{checked_unit, its_input, one_unit}
use Rattle.occ_board.specs.Verdicts.{or_else, verdict_of}
use Rattle.occ_board.specs.declared.verdict.Verdict.{Verdict}
use Rattle.occ_board.specs.declared.verdict.Verdict.TheVariants as verdict
use Rattle.occ_check.specs.Input.{Input}
use Rattle.occ_check.specs.declared.used.UsedUnit.{UsedUnit}
use Rattle.occ_check.specs.declared.used.Used.TheVariants as how
use Rattle.occ_project.specs.Entries.{entries}
use Rattle.occ_project.specs.Expansion.{expansion}
use Rattle.occ_check.specs.Checks.{input}
use Rattle.occ_project_units.specs.Along.{along}
use Rattle.occ_project_units.specs.Indices.{rest_units}

abbrev unit : List ℕ
unit = codes "a.occ"

itself : same_input its_input its_input ≡ true
itself = (inputs_are_one its_input its_input).1 refl

-- the unit that it uses, as it stands
abbrev absent : UsedUnit
absent = record { unit = codes "b.occ"; used = how.Absent }

absent_itself : same_used absent absent ≡ true
absent_itself = (used_are_one absent absent).1 refl

pub is_handed : take_answer (after one_unit Take) ≡ None
unfolding done along expansion entries
is_handed = ap (λ (b : Bool). if not (b || false) then Some its_input else None) itself

abbrev judged : Bool → Verdict → Verdict
judged b v = or_else (option_map (λ one. verdict.Stale one.unit) (if not b then Some absent else None)) v

pub is_accepted : finish_answer one_unit its_input ≡ verdict.Accepted
unfolding done along expansion entries
is_accepted = ap (λ (b : Bool). judged b verdict.Accepted) absent_itself

-- once the input is cached
is_done : done (files_of one_unit) (its_input ∷ []) unit ≡ true
unfolding done along expansion entries
is_done = ap (λ (b : Bool). b && true) itself

none_pending : pending_units (files_of one_unit) (its_input ∷ []) ≡ []
none_pending = ap (λ (b : Bool). cond (not b) (unit ∷ []) []) is_done

-- what is cached after that
cached_is : cached_after (finish_answer one_unit its_input) [] its_input ≡ its_input ∷ []
cached_is = ap (λ (v : Verdict). cached_after v [] its_input) is_accepted

pub is_none_pending : pending_answer checked_unit ≡ 0
is_none_pending = ap (λ (cached : List Input). length (pending_units (files_of one_unit) cached)) cached_is ∙ ap (length {A = List ℕ}) none_pending

pub is_repeated : finish_answer checked_unit its_input ≡ verdict.Repeated
unfolding done along expansion entries
is_repeated =
    ap (λ (cached : List Input). verdict_of (files_of one_unit) 1 cached its_input) cached_is
    ∙ ap (λ (b : Bool). judged b (if same_input its_input its_input then verdict.Repeated else verdict.Accepted)) absent_itself
    ∙ ap (λ (b : Bool). if b then verdict.Repeated else verdict.Accepted) itself

pub is_no_job : take_answer checked_unit ≡ None
is_no_job =
    ap (λ (cached : List Input). find (λ i. not (is_input_among checked_unit.handed i)) (map (input (files_of one_unit)) (ready_units (files_of one_unit) cached))) cached_is
    ∙ ap (λ (us : List (List ℕ)). find (λ i. not (is_input_among checked_unit.handed i)) (map (input (files_of one_unit)) (filter (λ u. list_all (done (files_of one_unit) (its_input ∷ [])) (rest_units (files_of one_unit) u)) us))) none_pending
