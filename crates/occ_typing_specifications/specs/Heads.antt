-- What the head of a PROC or of a FUNCTION reports, and what it makes known: nothing, if it reports something or needs
-- something faulty, and then all formals and the name are faulty.
use Rattle.std.specs.Prelude.{Bool, true, false, ◌&&◌, Option, List, [], ◌∷◌, ◌++◌, length}
use Rattle.occ_types.specs.declared.types.OccType.{OccType}
use Rattle.occ_base.specs.declared.fault.Fault.{Fault}
use Rattle.occ_scope.specs.declared.meaning.Meaning.{Meaning}
use Rattle.occ_scope.specs.declared.meaning.Meaning.TheVariants as m
use Rattle.occ_scope.specs.declared.scope.Scope.{Scope}
use Rattle.occ_forms.specs.declared.specification_tree.FormalGroup.{FormalGroup}
use Rattle.occ_forms.specs.declared.specification_tree.FunctionHead.{FunctionHead}
use Rattle.occ_typing_specifications.specs.Formals.{all_known, entries, called_formals}
use Rattle.occ_typing_specifications.specs.Groups.{groups, values}
use Rattle.occ_typing_specifications.specs.Knowing.{all_found, known_types, unless_reported}
use Rattle.occ_typing_specifications.specs.Results.{results}
use Rattle.occ_typing_specifications.specs.declared.formal.HeadFormal.{HeadFormal}
use Rattle.occ_typing_specifications.specs.declared.heading.Expected.{Expected}
use Rattle.occ_typing_specifications.specs.declared.heading.Expected.TheVariants as expected
use Rattle.occ_typing_specifications.specs.declared.heading.Heading.{Heading}

-- the faults of a head, and what it makes known
pub record Headed : Type 0 where
  pub faults : List Fault
  pub heading : Heading

-- ---- of a procedure

abbrev pub procedure_meaning : Bool → List HeadFormal → Meaning
procedure_meaning true xs = m.Procedure (called_formals xs)
procedure_meaning false xs = m.Faulty

abbrev pub procedure_heading : Bool → List HeadFormal → Heading
procedure_heading known xs = record { formals = entries known xs; meaning = procedure_meaning known xs; results = expected.Types [] }

unfoldable pub procedure : Scope → List FormalGroup → Headed
procedure s formals =
    let x = groups s [] formals in
    record { faults = x.faults; heading = procedure_heading (unless_reported x.faults (all_known x.formals)) x.formals }

-- ---- of a function

abbrev pub function_meaning : Bool → List HeadFormal → List (Option OccType) → Meaning
function_meaning true xs types = m.Function (called_formals xs) (known_types types)
function_meaning false xs types = m.Faulty

-- no types are compared with the results of a head with a fault
abbrev pub function_results : Bool → List (Option OccType) → Expected
function_results true types = expected.Types (known_types types)
function_results false types = expected.Count (length types)

abbrev pub function_heading : Bool → List HeadFormal → List (Option OccType) → Heading
function_heading known xs types =
    record { formals = entries known xs; meaning = function_meaning known xs types; results = function_results known types }

abbrev pub types_known : List HeadFormal → List (Option OccType) → Bool
types_known xs types = all_known xs && all_found types

-- the results, then the formals
unfoldable pub function : Scope → FunctionHead → Headed
function s head =
    let x = results s (head.first ∷ head.more) in
    let y = groups s [] (values head.formals) in
    let faults = x.faults ++ y.faults in
    record { faults = faults; heading = function_heading (unless_reported faults (types_known y.formals x.types)) y.formals x.types }
