-- What holds of each tree that an open expression becomes, whatever type is wanted of it.
use Rattle.std.proofs.Common.{◌≡◌, ℕ, List, [], ◌∷◌, Option, Some, None, sym, subst}
use Rattle.occ_expr_operations.specs.OpenExprs.{conversion_open, converted_of, converted_to, front_open, literal_open, opened, operands_type, operation_open, shift_open, shifted_known, shifted_untyped, size_of, size_open, type_alone}
use Rattle.occ_expr_operations.specs.Operations.{converted, plain}
use Rattle.occ_typing_operands.specs.Settling.{int}
use Rattle.occ_typing_operands.specs.declared.kind.Untyped.{Untyped}
use Rattle.occ_typing_operands.specs.declared.kind.Kind.{Kind}
use Rattle.occ_typing_operands.specs.declared.kind.Kind.TheVariants as k
use Rattle.occ_typing_operands.specs.declared.kind.Known.{Known}
use Rattle.occ_typing_tables.specs.Terms.{Judged}
use Rattle.occ_typing_rules.specs.Placing.{all_placed, applied_of, each_placed, known_in, operation_of, placed, shifted_of, table_of, table_under, with_first}
use Rattle.occ_typing_rules.specs.declared.open_expr.OpenExpr.{OpenExpr}
use Rattle.occ_typing_rules.specs.declared.open_expr.OpenExpr.TheVariants as d
use Rattle.occ_typing_rules.specs.declared.expr.TypedExpr.{TypedExpr}
use Rattle.occ_typing_rules.specs.declared.expr.TypedExpr.TheVariants as typed
use Rattle.occ_typing_rules.proofs.OpenPlacing.{placed_applied, placed_as_table, placed_faulty, placed_literal, placed_operation, placed_shifted, placed_typed}
use Rattle.occ_types.specs.View.{as_array}
use Rattle.occ_types.specs.declared.constant.Monadic.{Monadic}
use Rattle.occ_types.specs.declared.constant.Operator.{Operator}
use Rattle.occ_types.specs.declared.types.OccType.{OccType}

-- it holds of what is there
abbrev pub Any : {X : Type 0} → (X → Type 0) → Option X → Type 0
Any P None = Unit {0}
Any P (Some x) = P x

pub any_is : {X : Type 0} (P : X → Type 0) (a : Option X) (x : X) → Any P a → a ≡ Some x → P x
any_is P a x h e = subst (Any P) e h

pub any_as : {X : Type 0} (P Q : X → Type 0) (x : Option X) → ((y : X) → P y → Q y) → Any P x → Any Q x
any_as P Q None make h = tt
any_as P Q (Some y) make h = make y h

-- of each tree that it becomes
abbrev pub Gives : (TypedExpr → Type 0) → OpenExpr → Type 0
Gives P x = (of : OccType) → Any P (placed x of)

-- of the trees that they become together
abbrev pub AllGive : (List TypedExpr → Type 0) → List OpenExpr → Type 0
AllGive Q xs = (of : OccType) → Any Q (all_placed xs of)

abbrev pub EachGives : (List TypedExpr → Type 0) → List OpenExpr → Type 0
EachGives Q xs = (types : List OccType) → Any Q (each_placed xs types)

pub back : {X : Type 0} (P : X → Type 0) (a b : Option X) → a ≡ b → Any P b → Any P a
back P a b e h = subst (Any P) (sym e) h

-- ---- form by form

pub gives_faulty : (P : TypedExpr → Type 0) → Gives P d.Faulty
gives_faulty P of = back P _ _ (placed_faulty of) tt

pub gives_typed : (P : TypedExpr → Type 0) (t : TypedExpr) → P t → Gives P (d.Typed t)
gives_typed P t h of = back P _ _ (placed_typed t of) h

pub gives_opened : (P : TypedExpr → Type 0) (t : Option TypedExpr) → Any P t → Gives P (opened t)
gives_opened P None h = gives_faulty P
gives_opened P (Some t) h = gives_typed P t h

pub any_operation : (P : TypedExpr → Type 0) (Q : List TypedExpr → Type 0) (x : Known) (op : Operator) (ts : Option (List TypedExpr))
    → ((ts : List TypedExpr) → Q ts → P (typed.Operation x op ts)) → Any Q ts → Any P (operation_of x op ts)
any_operation P Q x op None make h = tt
any_operation P Q x op (Some ts) make h = make ts h

any_applied : (P Q : TypedExpr → Type 0) (x : Known) (op : Monadic) (t : Option TypedExpr)
    → ((t : TypedExpr) → Q t → P (typed.Applied x op t)) → Any Q t → Any P (applied_of x op t)
any_applied P Q x op None make h = tt
any_applied P Q x op (Some t) make h = make t h

any_shifted : (P Q : TypedExpr → Type 0) (x : Known) (op : Operator) (t : Option TypedExpr) (count : TypedExpr)
    → ((t : TypedExpr) → Q t → P (typed.Operation x op (t ∷ count ∷ []))) → Any Q t → Any P (shifted_of x op t count)
any_shifted P Q x op None count make h = tt
any_shifted P Q x op (Some t) count make h = make t h

any_known_shift : (P Q R : TypedExpr → Type 0) (x : Known) (op : Operator) (t count : Option TypedExpr)
    → ((t u : TypedExpr) → Q t → R u → P (typed.Operation x op (t ∷ u ∷ []))) → Any Q t → Any R count → Any P (shifted_known x op t count)
any_known_shift P Q R x op t None make h g = tt
any_known_shift P Q R x op t (Some u) make h g = any_shifted P Q x op t u (λ t q. make t u q g) h

any_size : (P Q : TypedExpr → Type 0) (x : Known) (t : Option TypedExpr) → ((t : TypedExpr) → Q t → P (typed.Size x t)) → Any Q t → Any P (size_of x t)
any_size P Q x None make h = tt
any_size P Q x (Some t) make h = make t h

any_converted : (P Q : TypedExpr → Type 0) (x : Known) (t : Option TypedExpr) → ((t : TypedExpr) → Q t → P (typed.Converted x t)) → Any Q t → Any P (converted_of x t)
any_converted P Q x None make h = tt
any_converted P Q x (Some t) make h = make t h

pub any_table : (P : TypedExpr → Type 0) (Q : List TypedExpr → Type 0) (x : Known) (ts : Option (List TypedExpr))
    → ((ts : List TypedExpr) → Q ts → P (typed.Table x ts)) → Any Q ts → Any P (table_of x ts)
any_table P Q x None make h = tt
any_table P Q x (Some ts) make h = make ts h

-- ---- operators

pub operation_gives : (P : TypedExpr → Type 0) (Q : List TypedExpr → Type 0) (op : Operator) (xs : List OpenExpr) (whole : Kind)
    → ((x : Known) (ts : List TypedExpr) → Q ts → P (typed.Operation x op ts)) → AllGive Q xs → Gives P (operation_open whole op xs)
unfolding operation_open
operation_gives P Q op xs k.Faulty make h = gives_faulty P
operation_gives P Q op xs (k.Untyped f) make h = λ of. back P _ _ (placed_operation f op xs of) (any_operation P Q (known_in f of) op (all_placed xs of) (make (known_in f of)) (h of))
operation_gives P Q op xs (k.Known x) make h = gives_opened P (operation_of x op (all_placed xs (operands_type xs))) (any_operation P Q x op (all_placed xs (operands_type xs)) (make x) (h (operands_type xs)))

untyped_shift_gives : (P Q R : TypedExpr → Type 0) (f : Untyped) (op : Operator) (x : OpenExpr) (count : Option TypedExpr)
    → ((y : Known) (t u : TypedExpr) → Q t → R u → P (typed.Operation y op (t ∷ u ∷ []))) → Gives Q x → Any R count → Gives P (shifted_untyped f op x count)
untyped_shift_gives P Q R f op x None make h g = gives_faulty P
untyped_shift_gives P Q R f op x (Some u) make h g = λ of.
    back P _ _ (placed_shifted f op x u of) (any_shifted P Q (known_in f of) op (placed x of) u (λ t q. make (known_in f of) t u q g) (h of))

pub shift_gives : (P Q R : TypedExpr → Type 0) (op : Operator) (x count : OpenExpr) (whole : Kind)
    → ((y : Known) (t u : TypedExpr) → Q t → R u → P (typed.Operation y op (t ∷ u ∷ []))) → Gives Q x → Gives R count → Gives P (shift_open whole op x count)
unfolding shift_open
shift_gives P Q R op x count k.Faulty make h g = gives_faulty P
shift_gives P Q R op x count (k.Untyped f) make h g = untyped_shift_gives P Q R f op x (placed count int) make h (g int)
shift_gives P Q R op x count (k.Known y) make h g = gives_opened P _ (any_known_shift P Q R y op (placed x y.of) (placed count int) (make y) (h y.of) (g int))

pub front_gives : (P Q : TypedExpr → Type 0) (op : Monadic) (x : OpenExpr) (whole : Kind)
    → ((y : Known) (t : TypedExpr) → Q t → P (typed.Applied y op t)) → Gives Q x → Gives P (front_open whole op x)
unfolding front_open
front_gives P Q op x k.Faulty make h = gives_faulty P
front_gives P Q op x (k.Untyped f) make h = λ of. back P _ _ (placed_applied f op x of) (any_applied P Q (known_in f of) op (placed x of) (make (known_in f of)) (h of))
front_gives P Q op x (k.Known y) make h = gives_opened P _ (any_applied P Q y op (placed x y.of) (make y) (h y.of))

pub size_gives : (P Q : TypedExpr → Type 0) (operand : Kind) (x : OpenExpr) (whole : Kind)
    → ((y : Known) (t : TypedExpr) → Q t → P (typed.Size y t)) → Gives Q x → Gives P (size_open whole operand x)
size_gives P Q operand x k.Faulty make h = gives_faulty P
size_gives P Q operand x (k.Untyped f) make h = gives_faulty P
size_gives P Q operand x (k.Known y) make h = gives_opened P _ (any_size P Q y (placed x (type_alone operand)) (make y) (h (type_alone operand)))

-- ---- conversions

converted_gives : (P Q : TypedExpr → Type 0) (operand : Kind) (x : OpenExpr) (whole : Kind)
    → ((y : Known) (t : TypedExpr) → Q t → P (typed.Converted y t)) → Gives Q x → Gives P (converted_to whole operand x)
converted_gives P Q operand x k.Faulty make h = gives_faulty P
converted_gives P Q operand x (k.Untyped f) make h = gives_faulty P
converted_gives P Q operand x (k.Known y) make h = gives_opened P _ (any_converted P Q y (placed x (type_alone operand)) (make y) (h (type_alone operand)))

pub conversion_gives : (P Q : TypedExpr → Type 0) (to : Option OccType) (operand : Judged) (x : OpenExpr)
    → ((y : Known) (t : TypedExpr) → Q t → P (typed.Converted y t)) → Gives Q x → Gives P (conversion_open to operand x)
unfolding conversion_open
conversion_gives P Q to operand x make h = converted_gives P Q (plain operand).kind x (converted to operand).kind make h

-- ---- tables

under_gives : (P : TypedExpr → Type 0) (Q : List TypedExpr → Type 0) (xs : List OpenExpr) (parts : Option (Option ℕ × OccType))
    → ((y : Known) (ts : List TypedExpr) → Q ts → P (typed.Table y ts)) → AllGive Q xs → Any P (table_under xs parts)
under_gives P Q xs None make h = tt
under_gives P Q xs (Some parts) make h = any_table P Q _ (all_placed xs parts.1) (make _) (h parts.1)

pub table_gives : (P : TypedExpr → Type 0) (Q : List TypedExpr → Type 0) (xs : List OpenExpr)
    → ((y : Known) (ts : List TypedExpr) → Q ts → P (typed.Table y ts)) → AllGive Q xs → Gives P (d.Table xs)
table_gives P Q xs make h = λ of. back P _ _ (placed_as_table xs of) (under_gives P Q xs (as_array of) make h)

-- ---- literals

-- what holds of what is known of a literal
abbrev pub Tells : (Known → Type 0) → Kind → Type 0
Tells Q k.Faulty = Unit {0}
Tells Q (k.Untyped f) = (of : OccType) → Q (known_in f of)
Tells Q (k.Known x) = Q x

pub literal_gives : (P : TypedExpr → Type 0) (Q : Known → Type 0) (kind : Kind) → ((y : Known) → Q y → P (typed.Literal y)) → Tells Q kind → Gives P (literal_open kind)
literal_gives P Q k.Faulty make h = gives_faulty P
literal_gives P Q (k.Untyped f) make h = λ of. back P _ _ (placed_literal f of) (make (known_in f of) (h of))
literal_gives P Q (k.Known x) make h = gives_typed P (typed.Literal x) (make x h)

-- ---- lists

pub any_first : (P : TypedExpr → Type 0) (Q R : List TypedExpr → Type 0) (x : Option TypedExpr) (xs : Option (List TypedExpr))
    → ((t : TypedExpr) (ts : List TypedExpr) → P t → Q ts → R (t ∷ ts)) → Any P x → Any Q xs → Any R (with_first x xs)
any_first P Q R None xs make h g = tt
any_first P Q R (Some t) None make h g = tt
any_first P Q R (Some t) (Some ts) make h g = make t ts h g
