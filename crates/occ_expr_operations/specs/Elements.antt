-- The typed trees of elements: which part of what a name stands for they are.
use Rattle.std.specs.Prelude.{ℕ, ◌+◌, Option, Some, None, List, [], ◌∷◌, ◌++◌, if◌then◌else◌}
use Rattle.std.specs.Str.{bytes_eq}
use Rattle.occ_scope.specs.declared.meaning.Referent.{Referent}
use Rattle.occ_scope.specs.declared.scope.Scope.{Scope}
use Rattle.occ_typing_operands.specs.Settling.{int}
use Rattle.occ_typing_operands.specs.declared.kind.Kind.{Kind}
use Rattle.occ_typing_operands.specs.declared.kind.Kind.TheVariants as k
use Rattle.occ_typing_rules.specs.Placing.{placed}
use Rattle.occ_typing_rules.specs.declared.open_expr.OpenExpr.{OpenExpr}
use Rattle.occ_typing_rules.specs.declared.open_expr.OpenExpr.TheVariants as d
use Rattle.occ_typing_rules.specs.declared.expr.Selector.{Selector}
use Rattle.occ_typing_rules.specs.declared.expr.Selector.TheVariants as by
use Rattle.occ_typing_rules.specs.declared.expr.TypedElement.{TypedElement, roll-TypedElement}
use Rattle.occ_typing_rules.specs.declared.expr.TypedExpr.{TypedExpr}
use Rattle.occ_typing_rules.specs.declared.expr.TypedExpr.TheVariants as typed
use Rattle.occ_types.specs.Fits.{unnamed}
use Rattle.occ_types.specs.View.{fields_in}
use Rattle.occ_types.specs.declared.types.Field.{Field}
use Rattle.occ_expr_operations.specs.Parts.{ExprView, subscript}

-- ---- subscripts

-- the tree of a place or a count, which is an INT
abbrev pub place_tree : Scope → ExprView → Option TypedExpr
place_tree s e = placed (e.open_expr s) int

abbrev pub component_at : Option TypedExpr → Option Selector
component_at None = None
component_at (Some t) = Some (by.Component t)

-- the place of the first field of the name, among fields of which the first stands at n
abbrev pub field_place_from : ℕ → List ℕ → List Field → Option ℕ
field_place_from n name [] = None
field_place_from n name (f ∷ fs) = if bytes_eq f.name name then Some n else field_place_from (n + 1) name fs

abbrev pub field_place : List ℕ → List Field → Option ℕ
field_place name fields = field_place_from 0 name fields

abbrev pub field_at : List ℕ → Option ℕ → Option Selector
field_at name None = None
field_at name (Some n) = Some (by.Field n name)

abbrev pub selector_in : Scope → ExprView → Option (List Field) → Option (List ℕ) → Option Selector
selector_in s e None name = component_at (place_tree s e)
selector_in s e (Some fields) None = component_at (place_tree s e)
selector_in s e (Some fields) (Some name) = field_at name (field_place name fields)

-- of a record a name alone selects a field; nothing selects of what is faulty
unfoldable pub selector : Scope → ExprView → Kind → Option Selector
selector s e k.Faulty = None
selector s e (k.Untyped f) = None
selector s e (k.Known x) = selector_in s e (fields_in (unnamed x.of)) e.name

abbrev pub with_selectors : Option (List Selector) → Option (List Selector) → Option (List Selector)
with_selectors None ys = None
with_selectors (Some xs) None = None
with_selectors (Some xs) (Some ys) = Some (xs ++ ys)

abbrev pub one_selector : Option Selector → Option (List Selector)
one_selector None = None
one_selector (Some x) = Some (x ∷ [])

-- each selects of what those before it have selected
abbrev pub selectors : Scope → List ExprView → Kind → Option (List Selector)
selectors s [] kind = Some []
selectors s (e ∷ es) kind = with_selectors (one_selector (selector s e kind)) (selectors s es (subscript s e kind).kind)

-- ---- elements

-- of this kind, with a specification and with selectors, if none of these is missing
unfoldable pub element_of : Kind → List ℕ → Option Referent → Option (List Selector) → Option TypedElement
element_of (k.Known x) name (Some r) (Some selecting) = Some (roll-TypedElement record { known = x; name = name; referent = r; selectors = selecting })
element_of kind name r selecting = None

abbrev pub element_open : Option TypedElement → OpenExpr
element_open None = d.Faulty
element_open (Some el) = d.Typed (typed.Element el)
