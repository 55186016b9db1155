-- Where the trees of open expressions are there, and are whole.
use Rattle.std.proofs.Common.{◌≡◌, ◌∙◌, ◌≤◌, ℕ, suc, List, [], ◌∷◌, length, Option, Some, None, refl, sym, subst, arith}
use Rattle.occ_typing_operands.specs.declared.kind.Untyped.{Untyped}
use Rattle.occ_typing_operands.specs.declared.kind.Known.{Known}
use Rattle.occ_typing_rules.specs.Placing.{all_placed, applied_of, array_known, count_of, each_placed, known_in, operation_of, placed, shifted_of, table_of, table_under, with_first}
use Rattle.occ_typing_rules.specs.declared.open_expr.OpenExpr.{OpenExpr}
use Rattle.occ_typing_rules.specs.declared.open_expr.OpenExpr.TheVariants as d
use Rattle.occ_typing_rules.specs.declared.expr.TypedExpr.{TypedExpr}
use Rattle.occ_typing_rules.proofs.OpenPlacing.{placed_applied, placed_as_table, placed_literal, placed_operation, placed_shifted, placed_typed}
use Rattle.occ_types.specs.declared.constant.Monadic.{Monadic}
use Rattle.occ_types.specs.declared.constant.Operator.{Operator}
use Rattle.occ_types.specs.declared.types.OccType.{OccType}
use Rattle.occ_types.specs.View.{as_array}
use Rattle.occ_types.proofs.Unknowns.{unknown_array}
use Rattle.occ_typing.specs.Known.{IsKnownType}
use Rattle.occ_typing.specs.WholeTrees.{AreWholeExprs, IsWholeExpr, no_expr, one_expr}
use Rattle.occ_typing.proofs.whole.Made as made
use Rattle.occ_theorems.proofs.whole.Clean.{Has}
use Rattle.occ_theorems.proofs.whole.Reading.{HasTree}
use Rattle.occ_theorems.proofs.whole.Types.{depth, depth_parts, flat_none, parts_hold}

abbrev pub Trees : ℕ → List OpenExpr → Type 0
Trees n [] = Unit {0}
Trees n (x ∷ xs) = HasTree n x × Trees n xs

-- there is a whole tree of each where the type at its place is wanted
abbrev pub EachTree : List OpenExpr → List OccType → Type 0
EachTree [] [] = Unit {0}
EachTree [] (of ∷ types) = ⊥
EachTree (x ∷ xs) [] = ⊥
EachTree (x ∷ xs) (of ∷ types) = Has IsWholeExpr (placed x of) × EachTree xs types

there : (a b : Option TypedExpr) → a ≡ b → Has IsWholeExpr b → Has IsWholeExpr a
there a b e h = subst (Has IsWholeExpr) (sym e) h

pub first_there : (x : Option TypedExpr) (xs : Option (List TypedExpr)) → Has IsWholeExpr x → Has AreWholeExprs xs → Has AreWholeExprs (with_first x xs)
first_there None xs h g = h
first_there (Some x) None h g = g
first_there (Some x) (Some xs) h g = one_expr x xs h g

pub all_there : (n : ℕ) (xs : List OpenExpr) (of : OccType) → Trees n xs → n ≤ depth of → IsKnownType of → Has AreWholeExprs (all_placed xs of)
all_there n [] of h e known = no_expr
all_there n (x ∷ xs) of h e known = first_there (placed x of) (all_placed xs of) (h.0 of e known) (all_there n xs of h.1 e known)

pub each_there : (xs : List OpenExpr) (types : List OccType) → EachTree xs types → Has AreWholeExprs (each_placed xs types)
each_there [] [] h = no_expr
each_there [] (of ∷ types) h = absurd h
each_there (x ∷ xs) [] h = absurd h
each_there (x ∷ xs) (of ∷ types) h = first_there (placed x of) (each_placed xs types) h.0 (each_there xs types h.1)

pub operation_of_there : (x : Known) (op : Operator) (ts : Option (List TypedExpr)) → IsKnownType x.of → Has AreWholeExprs ts → Has IsWholeExpr (operation_of x op ts)
operation_of_there x op None known h = h
operation_of_there x op (Some ts) known h = made.operation x op ts known h

pub applied_of_there : (x : Known) (op : Monadic) (t : Option TypedExpr) → IsKnownType x.of → Has IsWholeExpr t → Has IsWholeExpr (applied_of x op t)
applied_of_there x op None known h = h
applied_of_there x op (Some t) known h = made.applied x op t known h

pub shifted_of_there : (x : Known) (op : Operator) (t : Option TypedExpr) (count : TypedExpr) → IsKnownType x.of → Has IsWholeExpr t → IsWholeExpr count → Has IsWholeExpr (shifted_of x op t count)
shifted_of_there x op None count known h g = h
shifted_of_there x op (Some t) count known h g = made.operation x op (t ∷ count ∷ []) known (one_expr t (count ∷ []) h (one_expr count [] g no_expr))

pub table_of_there : (x : Known) (ts : Option (List TypedExpr)) → IsKnownType x.of → Has AreWholeExprs ts → Has IsWholeExpr (table_of x ts)
table_of_there x None known h = h
table_of_there x (Some ts) known h = made.table x ts known h

-- ---- form by form

pub tree_typed : (x : TypedExpr) → IsWholeExpr x → HasTree 0 (d.Typed x)
tree_typed x h of e known = there _ _ (placed_typed x of) h

pub tree_literal : (f : Untyped) → HasTree 0 (d.Literal f)
tree_literal f of e known = there _ _ (placed_literal f of) (made.literal (known_in f of) known)

pub tree_operation : (f : Untyped) (op : Operator) (xs : List OpenExpr) → Trees 0 xs → HasTree 0 (d.Operation f op xs)
tree_operation f op xs h of e known = there _ _ (placed_operation f op xs of) (operation_of_there (known_in f of) op (all_placed xs of) known (all_there 0 xs of h e known))

pub tree_applied : (f : Untyped) (op : Monadic) (x : OpenExpr) → HasTree 0 x → HasTree 0 (d.Applied f op x)
tree_applied f op x h of e known = there _ _ (placed_applied f op x of) (applied_of_there (known_in f of) op (placed x of) known (h of e known))

pub tree_shifted : (f : Untyped) (op : Operator) (x : OpenExpr) (count : TypedExpr) → HasTree 0 x → IsWholeExpr count → HasTree 0 (d.Shifted f op x count)
tree_shifted f op x count h g of e known = there _ _ (placed_shifted f op x count of) (shifted_of_there (known_in f of) op (placed x of) count known (h of e known) g)

under_there : (n : ℕ) (xs : List OpenExpr) (of : OccType) (parts : Option (Option ℕ × OccType)) → Trees n xs → as_array of ≡ parts → suc n ≤ depth of → IsKnownType of → Has IsWholeExpr (table_under xs parts)
under_there n xs of None h is e known = let z : depth of ≡ 0 = flat_none of is in absurd (omega (arith, z, e))
under_there n xs of (Some parts) h is e known =
    let z : depth of ≡ suc (depth parts.1) = depth_parts of parts is in
    let component : IsKnownType parts.1 = parts_hold of parts is ∙ known in
    table_of_there (array_known (length xs) parts.1) (all_placed xs parts.1) (unknown_array (count_of (length xs)) parts.1 ∙ component) (all_there n xs parts.1 h (omega (arith, z, e)) component)

pub tree_table : (n : ℕ) (xs : List OpenExpr) → Trees n xs → HasTree (suc n) (d.Table xs)
tree_table n xs h of e known = there _ _ (placed_as_table xs of) (under_there n xs of (as_array of) h refl e known)
