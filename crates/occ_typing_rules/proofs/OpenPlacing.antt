-- The tree of an open expression, form by form.
use Rattle.std.proofs.Common.{◌≡◌, ◌∙◌, ℕ, List, [], ◌∷◌, Option, Some, None, length, map, refl, ap, sym, arith}
use Rattle.occ_typing_operands.specs.declared.kind.Untyped.{Untyped}
use Rattle.occ_types.specs.View.{as_array}
use Rattle.occ_types.specs.declared.constant.Monadic.{Monadic}
use Rattle.occ_types.specs.declared.constant.Operator.{Operator}
use Rattle.occ_types.specs.declared.types.OccType.{OccType}
use Rattle.occ_typing_rules.specs.declared.open_expr.OpenExpr.{OpenExpr}
use Rattle.occ_typing_rules.specs.declared.open_expr.OpenExpr.TheFolds.{fold-roll-OpenExpr}
use Rattle.occ_typing_rules.specs.declared.open_expr.OpenExpr.TheOpen.{OpenExpr-F}
use Rattle.occ_typing_rules.specs.declared.open_expr.OpenExpr.TheVariants as d
use Rattle.occ_typing_rules.specs.declared.expr.TypedExpr.{TypedExpr}
use Rattle.occ_typing_rules.specs.declared.expr.TypedExpr.TheVariants as typed
use Rattle.occ_typing_rules.specs.Placing.{Placing, all_of, all_placed, applied_of, array_known, open_step, known_in, operation_of, placed, placed_table, shifted_of, table_in, table_of, table_under, with_first}

at : (of : OccType) (f g : Placing) → f ≡ g → f of ≡ g of
at of f g e = ap (λ (h : Placing). h of) e

all_mapped : (ds : List OpenExpr) (of : OccType) → all_of (map placed ds) of ≡ all_placed ds of
all_mapped [] of = refl
all_mapped (x ∷ ds) of = ap (λ (ts : Option (List TypedExpr)). with_first (placed x of) ts) (all_mapped ds of)

mapped_length : (ds : List OpenExpr) → length (map placed ds) ≡ length ds
mapped_length [] = refl
mapped_length (x ∷ ds) = omega (arith, mapped_length ds)

pub placed_faulty : (of : OccType) → placed d.Faulty of ≡ None
placed_faulty of = at of _ _ (ap placed (sym d.rolls-Faulty) ∙ fold-roll-OpenExpr Placing open_step OpenExpr-F.Faulty)

pub placed_typed : (x : TypedExpr) (of : OccType) → placed (d.Typed x) of ≡ Some x
placed_typed x of = at of _ _ (ap placed (sym (d.rolls-Typed x)) ∙ fold-roll-OpenExpr Placing open_step (OpenExpr-F.Typed x))

pub placed_literal : (f : Untyped) (of : OccType) → placed (d.Literal f) of ≡ Some (typed.Literal (known_in f of))
placed_literal f of = at of _ _ (ap placed (sym (d.rolls-Literal f)) ∙ fold-roll-OpenExpr Placing open_step (OpenExpr-F.Literal f))

pub placed_operation : (f : Untyped) (op : Operator) (ds : List OpenExpr) (of : OccType) → placed (d.Operation f op ds) of ≡ operation_of (known_in f of) op (all_placed ds of)
placed_operation f op ds of =
    at of _ _ (ap placed (sym (d.rolls-Operation f op ds)) ∙ fold-roll-OpenExpr Placing open_step (OpenExpr-F.Operation f op ds))
    ∙ ap (λ (ts : Option (List TypedExpr)). operation_of (known_in f of) op ts) (all_mapped ds of)

pub placed_applied : (f : Untyped) (op : Monadic) (x : OpenExpr) (of : OccType) → placed (d.Applied f op x) of ≡ applied_of (known_in f of) op (placed x of)
placed_applied f op x of = at of _ _ (ap placed (sym (d.rolls-Applied f op x)) ∙ fold-roll-OpenExpr Placing open_step (OpenExpr-F.Applied f op x))

pub placed_shifted : (f : Untyped) (op : Operator) (x : OpenExpr) (count : TypedExpr) (of : OccType) → placed (d.Shifted f op x count) of ≡ shifted_of (known_in f of) op (placed x of) count
placed_shifted f op x count of = at of _ _ (ap placed (sym (d.rolls-Shifted f op x count)) ∙ fold-roll-OpenExpr Placing open_step (OpenExpr-F.Shifted f op x count))

table_mapped : (ds : List OpenExpr) (component : OccType)
    → table_of (array_known (length (map placed ds)) component) (all_of (map placed ds) component) ≡ placed_table ds component
table_mapped ds component =
    ap (λ (n : ℕ). table_of (array_known n component) (all_of (map placed ds) component)) (mapped_length ds)
    ∙ ap (λ (ts : Option (List TypedExpr)). table_of (array_known (length ds) component) ts) (all_mapped ds component)

table_in_mapped : (ds : List OpenExpr) (parts : Option (Option ℕ × OccType)) → table_in (map placed ds) parts ≡ table_under ds parts
table_in_mapped ds None = refl
table_in_mapped ds (Some parts) = table_mapped ds parts.1

pub placed_as_table : (ds : List OpenExpr) (of : OccType) → placed (d.Table ds) of ≡ table_under ds (as_array of)
placed_as_table ds of =
    at of _ _ (ap placed (sym (d.rolls-Table ds)) ∙ fold-roll-OpenExpr Placing open_step (OpenExpr-F.Table ds))
    ∙ table_in_mapped ds (as_array of)

-- what is found of a form is the tree of the open expression
pub operation_placed : (x : OpenExpr) (f : Untyped) (op : Operator) (ds : List OpenExpr) (of : OccType) (ts : Option (List TypedExpr)) (v : Option TypedExpr)
    → x ≡ d.Operation f op ds
    → ts ≡ all_placed ds of
    → v ≡ operation_of (known_in f of) op ts
    → v ≡ placed x of
operation_placed x f op ds of ts v is h k =
    k ∙ ap (operation_of (known_in f of) op) h ∙ sym (placed_operation f op ds of) ∙ ap (λ (y : OpenExpr). placed y of) (sym is)

pub table_placed : (x : OpenExpr) (ds : List OpenExpr) (of : OccType) (v : Option TypedExpr)
    → x ≡ d.Table ds
    → v ≡ table_under ds (as_array of)
    → v ≡ placed x of
table_placed x ds of v is k = k ∙ sym (placed_as_table ds of) ∙ ap (λ (y : OpenExpr). placed y of) (sym is)

pub ruleset placing_rules = (placed_faulty, placed_typed, placed_literal, placed_operation, placed_applied, placed_shifted, placed_as_table)
