-- `t n, ..:`: variables of one type.
use Rattle.std.specs.Prelude.{ℕ, Option, Some, None, List, [], ◌∷◌, ◌++◌}
use Rattle.occ_types.specs.declared.types.OccType.{OccType}
use Rattle.occ_scope.specs.declared.meaning.Access.TheVariants as access
use Rattle.occ_scope.specs.declared.meaning.ScopeEntry.{ScopeEntry}
use Rattle.occ_scope.specs.declared.meaning.Meaning.{Meaning}
use Rattle.occ_scope.specs.declared.meaning.Meaning.TheVariants as m
use Rattle.occ_scope.specs.declared.scope.Scope.{Scope}
use Rattle.occ_forms_expressions.specs.declared.tree.TypeForm.{TypeForm}
use Rattle.occ_expr_operations.specs.Views.{type_form_view}
use Rattle.occ_expr_operations.specs.Written.{Written}
use Rattle.occ_expr_operations.specs.declared.written.Opening.TheVariants as opening
use Rattle.occ_typing_rules.specs.Listing.{repetitions}
use Rattle.occ_typing_specifications.specs.Entering.{Declared, unless_reported}

-- a variable of this type, if it is known
abbrev pub variable : Option OccType → List ℕ → Meaning
variable None name = m.Faulty
variable (Some of) name = m.Element (record { of = of; access = access.Variable; value = None; root = name })

abbrev pub variables : Option OccType → List (List ℕ) → List ScopeEntry
variables of [] = []
variables of (name ∷ names) = (record { name = name; meaning = variable of name }) ∷ variables of names

-- the type, and each name that stood before in the line
unfoldable pub declared_type : Scope → TypeForm → List ℕ → List (List ℕ) → Written
declared_type s of first more =
    let x = type_form_view of opening.Refused s in
    record { faults = x.faults ++ repetitions (first ∷ []) more; found = x.found }

-- all names of a line that reports something are faulty
unfoldable pub declaration : Scope → TypeForm → List ℕ → List (List ℕ) → Declared
declaration s of first more =
    let x = declared_type s of first more in
    record { faults = x.faults; adds = variables (unless_reported x.faults x.found) (first ∷ more) }
