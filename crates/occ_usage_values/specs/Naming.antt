-- Whether an expression, an element, a selector or an actual names a specification: one of the elements in it is named by that.
-- What an expression uses may depend on the value of a specification only where a subscript or a bound names that.
use Rattle.std.specs.Prelude.{ℕ, ◌==◌, Bool, false, ◌||◌, List, [], ◌∷◌}
use Rattle.occ_typing_rules.specs.declared.expr.Selector.{Selector}
use Rattle.occ_typing_rules.specs.declared.expr.Selector.TheFolds.{fold-Selector, fold-TypedActual, fold-TypedElement, fold-TypedExpr}
use Rattle.occ_typing_rules.specs.declared.expr.Selector.TheOpen.{Selector-F, TypedActual-F, TypedElement-F, TypedExpr-F}
use Rattle.occ_typing_rules.specs.declared.expr.TypedActual.{TypedActual}
use Rattle.occ_typing_rules.specs.declared.expr.TypedElement.{TypedElement}
use Rattle.occ_typing_rules.specs.declared.expr.TypedExpr.{TypedExpr}

-- whether the specification is named, and whether a subscript or a bound names it
pub record Naming : Type 0 where
  pub names : Bool
  pub depends : Bool

abbrev pub nothing : Naming
nothing = record { names = false; depends = false }

-- what one of these names, or depends on
abbrev pub either : List Naming → Naming
either [] = nothing
either (x ∷ xs) = record { names = x.names || (either xs).names; depends = x.depends || (either xs).depends }

-- one of these is true
abbrev pub some : List Bool → Bool
some [] = false
some (b ∷ bs) = b || some bs

abbrev pub selector_step : Selector-F Bool Naming Naming Naming → Bool
selector_step (Selector-F.Field k name) = false
selector_step (Selector-F.Component e) = e.names
selector_step (Selector-F.From typed e) = e.names
selector_step (Selector-F.For typed e) = e.names
selector_step (Selector-F.FromFor typed e f) = e.names || f.names

abbrev pub actual_step : TypedActual-F Bool Naming Naming Naming → Naming
actual_step (TypedActual-F.Value e) = e
actual_step (TypedActual-F.Variable el) = el

-- an operand of SIZE is not used
abbrev pub expr_step : TypedExpr-F Bool Naming Naming Naming → Naming
expr_step (TypedExpr-F.Literal x) = nothing
expr_step (TypedExpr-F.Element el) = el
expr_step (TypedExpr-F.Operation x op es) = either es
expr_step (TypedExpr-F.Applied x op e) = e
expr_step (TypedExpr-F.Size x e) = record { names = e.names; depends = false }
expr_step (TypedExpr-F.Converted x e) = e
expr_step (TypedExpr-F.Table x es) = either es
expr_step (TypedExpr-F.Call x callee xs) = either xs

abbrev pub element_step : ℕ → TypedElement-F Bool Naming Naming Naming → Naming
element_step n el = record { names = el.referent.spec == n || some el.selectors; depends = some el.selectors }

abbrev pub expr_naming : ℕ → TypedExpr → Naming
expr_naming n = fold-TypedExpr Bool Naming Naming Naming selector_step actual_step expr_step (element_step n)

abbrev pub element_naming : ℕ → TypedElement → Naming
element_naming n = fold-TypedElement Bool Naming Naming Naming selector_step actual_step expr_step (element_step n)

abbrev pub selector_names : ℕ → Selector → Bool
selector_names n = fold-Selector Bool Naming Naming Naming selector_step actual_step expr_step (element_step n)

abbrev pub actual_naming : ℕ → TypedActual → Naming
actual_naming n = fold-TypedActual Bool Naming Naming Naming selector_step actual_step expr_step (element_step n)

abbrev pub expr_names : ℕ → TypedExpr → Bool
expr_names n e = (expr_naming n e).names

abbrev pub element_names : ℕ → TypedElement → Bool
element_names n el = (element_naming n el).names

abbrev pub actual_names : ℕ → TypedActual → Bool
actual_names n x = (actual_naming n x).names

abbrev pub expr_depends : ℕ → TypedExpr → Bool
expr_depends n e = (expr_naming n e).depends

abbrev pub element_depends : ℕ → TypedElement → Bool
element_depends n el = (element_naming n el).depends

abbrev pub actual_depends : ℕ → TypedActual → Bool
actual_depends n x = (actual_naming n x).depends

-- ---- one of several

abbrev pub exprs_name : ℕ → List TypedExpr → Bool
exprs_name n [] = false
exprs_name n (e ∷ es) = expr_names n e || exprs_name n es

abbrev pub selectors_name : ℕ → List Selector → Bool
selectors_name n [] = false
selectors_name n (s ∷ ss) = selector_names n s || selectors_name n ss

abbrev pub actuals_name : ℕ → List TypedActual → Bool
actuals_name n [] = false
actuals_name n (x ∷ xs) = actual_names n x || actuals_name n xs

abbrev pub exprs_depend : ℕ → List TypedExpr → Bool
exprs_depend n [] = false
exprs_depend n (e ∷ es) = expr_depends n e || exprs_depend n es

abbrev pub actuals_depend : ℕ → List TypedActual → Bool
actuals_depend n [] = false
actuals_depend n (x ∷ xs) = actual_depends n x || actuals_depend n xs
