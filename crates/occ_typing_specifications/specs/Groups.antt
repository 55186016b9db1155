-- The formals of a head, which are one list of names. Each type is judged in the scope before the head, so that no formal
-- is known in it.
use Rattle.std.specs.Prelude.{ℕ, List, [], ◌∷◌, ◌++◌}
use Rattle.occ_types.specs.declared.interface.Passing.{Passing}
use Rattle.occ_types.specs.declared.interface.Passing.TheVariants as passing
use Rattle.occ_base.specs.declared.fault.Fault.{Fault}
use Rattle.occ_scope.specs.declared.scope.Scope.{Scope}
use Rattle.occ_forms_expressions.specs.declared.tree.TypeForm.{TypeForm}
use Rattle.occ_forms.specs.declared.specification_tree.FormalGroup.{FormalGroup}
use Rattle.occ_forms.specs.declared.specification_tree.FormalGroup.TheVariants as g
use Rattle.occ_forms.specs.declared.specification_tree.ValueGroup.{ValueGroup}
use Rattle.occ_expr_operations.specs.Views.{dimension_views, each, type_form_view}
use Rattle.occ_expr_operations.specs.Written.{Written, data_form}
use Rattle.occ_expr_operations.specs.declared.written.Opening.TheVariants as opening
use Rattle.occ_typing_rules.specs.Listing.{repetitions}
use Rattle.occ_typing_specifications.specs.Formals.{each_of}
use Rattle.occ_typing_specifications.specs.declared.formal.HeadFormal.{HeadFormal}

-- ---- one group

-- `[]` may stand in any dimension
unfoldable pub value_type : Scope → ValueGroup → Written
value_type s x = data_form s (each opening.Allowed s (dimension_views x.form.dimensions)) x.form.base

-- of formals that are no values, channels and timers among them
unfoldable pub plain_type : Scope → TypeForm → Written
plain_type s of = type_form_view of opening.Allowed s

abbrev pub type_of : Scope → FormalGroup → Written
type_of s (g.Value x) = value_type s x
type_of s (g.Plain of first more) = plain_type s of

abbrev pub passing_of : FormalGroup → Passing
passing_of (g.Value x) = passing.Value
passing_of (g.Plain of first more) = passing.Reference

abbrev pub names_of : FormalGroup → List (List ℕ)
names_of (g.Value x) = x.first ∷ x.more
names_of (g.Plain of first more) = first ∷ more

-- the faults of formals, and the formals
pub record Formals : Type 0 where
  pub faults : List Fault
  pub formals : List HeadFormal

-- the type, and each name that stood before in the head, after groups with these names
unfoldable pub group : Scope → List (List ℕ) → FormalGroup → Formals
group s before x =
    let of = type_of s x in
    record { faults = of.faults ++ repetitions before (names_of x); formals = each_of of.found (passing_of x) (names_of x) }

-- ---- all of a head

abbrev pub groups : Scope → List (List ℕ) → List FormalGroup → Formals
groups s before [] = record { faults = []; formals = [] }
groups s before (x ∷ xs) =
    let y = group s before x in
    let ys = groups s (before ++ names_of x) xs in
    record { faults = y.faults ++ ys.faults; formals = y.formals ++ ys.formals }

-- groups of a function, of which each is of values
abbrev pub values : List ValueGroup → List FormalGroup
values [] = []
values (x ∷ xs) = g.Value x ∷ values xs
