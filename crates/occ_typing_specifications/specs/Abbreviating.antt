-- `n IS el:` and `t n IS el:`: a name for an element.
use Rattle.std.specs.Prelude.{ℕ, Option, Some, None, List, [], ◌∷◌, ◌++◌}
use Rattle.occ_base.specs.declared.code.Code.TheVariants as code
use Rattle.occ_types.specs.declared.types.OccType.{OccType}
use Rattle.occ_typing_operands.specs.Settling.{Finding, fault_of, known, silent}
use Rattle.occ_typing_operands.specs.declared.kind.Kind.{Kind}
use Rattle.occ_typing_operands.specs.declared.kind.Kind.TheVariants as k
use Rattle.occ_scope.specs.Visible.{visible}
use Rattle.occ_scope.specs.declared.meaning.Access.TheVariants as access
use Rattle.occ_scope.specs.declared.meaning.Meaning.{Meaning}
use Rattle.occ_scope.specs.declared.meaning.Meaning.TheVariants as m
use Rattle.occ_scope.specs.declared.scope.Scope.{Scope}
use Rattle.occ_typing_tables.specs.Merging.{merged}
use Rattle.occ_forms_expressions.specs.declared.tree.Element.{Element}
use Rattle.occ_forms_expressions.specs.declared.tree.TypeForm.{TypeForm}
use Rattle.occ_expr_operations.specs.Parts.{after}
use Rattle.occ_expr_operations.specs.Views.{type_form_view}
use Rattle.occ_expr_operations.specs.declared.written.Opening.TheVariants as opening
use Rattle.occ_typing_specifications.specs.Entering.{Declared}
use Rattle.occ_typing_specifications.specs.Valuing.{kind_unless_reported}
use Rattle.occ_expr.specs.Targets.{root, target_of}

-- ---- the element, which is read as a target is: a VAL name and an index are none

-- of the type that agrees with both, if they agree
abbrev pub agreed : Option OccType → Finding
agreed None = fault_of code.T2
agreed (Some of) = record { faults = []; kind = known of None }

-- a name of a type that is written, for an element of which this is known; the numbers of components that the type leaves
-- open are those of the element
abbrev pub of_type : Option OccType → Kind → Finding
of_type None kind = silent
of_type (Some to) k.Faulty = silent
of_type (Some to) (k.Untyped f) = silent
of_type (Some to) (k.Known x) = agreed (merged to x.of)

-- the type, then the element, then the one against the other
unfoldable pub element_with_type : Scope → TypeForm → Element → Finding
element_with_type s of el =
    let to = type_form_view of opening.Allowed s in
    let x = target_of s el in
    after (to.faults ++ x.faults) (of_type to.found x.kind)

abbrev pub element_reported : Scope → Option TypeForm → Element → Finding
element_reported s None el = target_of s el
element_reported s (Some of) el = element_with_type s of el

-- ---- the name

-- of what is known of it, and of what the element is a part of: with faults that is reported by its root, which may be one name
-- for several abbreviations
abbrev pub element_name : Kind → Option Meaning → Meaning
element_name k.Faulty whole = m.Faulty
element_name (k.Untyped f) whole = m.Faulty
element_name (k.Known x) (Some (m.Element whole)) = m.Element (record { of = x.of; access = access.Variable; value = None; root = whole.root })
element_name (k.Known x) whole = m.Faulty

-- a line that reports this of an element, and what is known of its name
abbrev pub named : Scope → List ℕ → Element → Finding → Declared
named s name el x =
    record {
      faults = x.faults;
      adds = (record { name = name; meaning = element_name (kind_unless_reported x.faults x.kind) (visible s (root el)) }) ∷ [];
    }

unfoldable pub abbreviation : Scope → Option TypeForm → List ℕ → Element → Declared
abbreviation s of name el = named s name el (element_reported s of el)
