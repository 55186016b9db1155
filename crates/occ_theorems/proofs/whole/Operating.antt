-- Operators over operands without faults: what they give is known, and has its tree.
use Rattle.std.proofs.Common.{◌≡◌, ◌∙◌, ◌||◌, ◌&&◌, ◌⊎◌, inl, inr, ℕ, Bool, true, false, List, [], ◌∷◌, map, Option, Some, None, if◌then◌else◌, refl, ap, sym, subst, arith}
use Rattle.std.specs.List.{list_all, list_any}
use Rattle.occ_base.specs.declared.code.Code.TheVariants as code
use Rattle.occ_typing_operands.specs.declared.kind.Untyped.{Untyped}
use Rattle.occ_typing_operands.specs.declared.kind.Kind.{Kind}
use Rattle.occ_typing_operands.specs.declared.kind.Kind.TheVariants as k
use Rattle.occ_typing_operands.specs.declared.kind.Known.{Known}
use Rattle.occ_typing_operands.specs.declared.kind.TypedValue.{TypedValue}
use Rattle.occ_typing_operands.specs.declared.kind.TypedValue.TheVariants as o
use Rattle.occ_typing_operands.specs.declared.operate.Class.{Class}
use Rattle.occ_typing_operands.specs.declared.operate.Class.TheVariants as c
use Rattle.occ_typing_operands.specs.Operators.{all_faults, allows, class_of, decided, first_bound, front_operated, given, is_arithmetic, is_faulty, is_int, is_not, is_of, is_there, kinds, needs_faulty, not_untyped, operated, operated_from, outcome_in, run_in, shift_operated, shifted_by, takes, value_outcome, verdict}
use Rattle.occ_typing_operands.specs.Outcomes.{applied, if_constant, in_each, in_type, misshifted, shifted, with_all, worse, worst}
use Rattle.occ_typing_operands.specs.Settling.{Finding, base_of, fault_of, int, landed, number, settled, silent}
use Rattle.occ_typing_rules.specs.Placing.{all_placed, applied_of, operation_of, placed}
use Rattle.occ_typing_rules.specs.declared.open_expr.OpenExpr.{OpenExpr}
use Rattle.occ_typing_rules.specs.declared.open_expr.OpenExpr.TheVariants as dr
use Rattle.occ_typing_rules.specs.declared.expr.TypedExpr.{TypedExpr}
use Rattle.occ_types.specs.Unknown.{holds_unknown}
use Rattle.occ_types.specs.View.{as_primitive}
use Rattle.occ_types.specs.declared.constant.Monadic.{Monadic}
use Rattle.occ_types.specs.declared.constant.Operator.{Operator}
use Rattle.occ_types.specs.declared.types.OccType.{OccType}
use Rattle.occ_types.specs.declared.value.Primitive.{Primitive}
use Rattle.occ_types.specs.declared.value.Primitive.TheVariants as p
use Rattle.occ_types.specs.declared.value.Value.{Value}
use Rattle.occ_types.proofs.Unknowns.{unknown_primitive}
use Rattle.occ_expr_operations.specs.OpenExprs.{opened, front_open, operands_type, operation_open, shift_open, shifted_untyped, shifted_known}
use Rattle.occ_typing.specs.Known.{IsKnownType}
use Rattle.occ_typing.specs.WholeTrees.{IsWholeExpr}
use Rattle.occ_theorems.proofs.whole.Clean.{Has, back_clean, front_clean}
use Rattle.occ_theorems.proofs.whole.Reading.{HasTree, IsBad, IsBadUntyped, IsKnown, Lands, MayRead, Reads, chosen, int_known, lands, settled_reads, tree_of_any, wrong_reported}
use Rattle.occ_theorems.proofs.whole.Roots.{operands_known}
use Rattle.occ_theorems.proofs.whole.Trees.{Trees, all_there, applied_of_there, operation_of_there, shifted_of_there, tree_applied, tree_operation, tree_shifted, tree_typed}
use Rattle.occ_theorems.proofs.whole.Sound.{no_fault}
use Rattle.occ_theorems.proofs.whole.Types.{base_flat, base_known, both_true, depth, fits_depth, flat_primitive}

abbrev kind_or : Option Kind → Kind
kind_or None = k.Faulty
kind_or (Some x) = x

abbrev pub of_in : Kind → OccType → OccType
of_in k.Faulty of = of
of_in (k.Untyped f) of = of
of_in (k.Known x) of = x.of

-- ---- open expressions that are typed

pub known_typed : (x : Known) (y : TypedExpr) → holds_unknown x.of ≡ false → IsWholeExpr y → Reads (k.Known x) (dr.Typed y)
known_typed x y h g = (h, tree_of_any (dr.Typed y) (depth x.of) (tree_typed y g))

pub opened_reads : (x : Known) (o : Option TypedExpr) → holds_unknown x.of ≡ false → Has IsWholeExpr o → Reads (k.Known x) (opened o)
opened_reads x None h g = absurd g
opened_reads x (Some y) h g = known_typed x y h g

-- ---- outcomes with a fault

bad_worse : (a b : TypedValue) → IsBad a ⊎ IsBad b → IsBad (worse a b)
bad_worse o.Unfit b h = tt
bad_worse (o.Faulty x) o.Unfit h = tt
bad_worse (o.Faulty x) (o.Faulty y) h = tt
bad_worse (o.Faulty x) o.Varying h = tt
bad_worse (o.Faulty x) (o.Constant v) h = tt
bad_worse o.Varying o.Unfit h = tt
bad_worse o.Varying (o.Faulty y) h = tt
bad_worse o.Varying o.Varying (inl h) = h
bad_worse o.Varying o.Varying (inr h) = h
bad_worse o.Varying (o.Constant v) (inl h) = h
bad_worse o.Varying (o.Constant v) (inr h) = h
bad_worse (o.Constant u) b (inl h) = absurd h
bad_worse (o.Constant u) b (inr h) = h

bad_if_constant : (a b : TypedValue) → IsBad a → IsBad (if_constant a b)
bad_if_constant o.Unfit b h = tt
bad_if_constant (o.Faulty x) b h = tt
bad_if_constant o.Varying b h = h
bad_if_constant (o.Constant v) b h = absurd h

bad_applied : (op : Monadic) (a : TypedValue) → IsBad a → IsBad (applied op a)
bad_applied op o.Unfit h = tt
bad_applied op (o.Faulty x) h = tt
bad_applied op o.Varying h = h
bad_applied op (o.Constant v) h = absurd h

bad_shifted : (op : Operator) (count : Option Value) (a : TypedValue) → IsBad a → IsBad (shifted op count a)
bad_shifted op None o.Unfit h = tt
bad_shifted op None (o.Faulty x) h = tt
bad_shifted op None o.Varying h = h
bad_shifted op None (o.Constant v) h = absurd h
bad_shifted op (Some v) o.Unfit h = tt
bad_shifted op (Some v) (o.Faulty x) h = tt
bad_shifted op (Some v) o.Varying h = h
bad_shifted op (Some v) (o.Constant u) h = absurd h

bad_misshifted : (a : TypedValue) → IsBad (misshifted a)
bad_misshifted o.Unfit = tt
bad_misshifted (o.Faulty x) = tt
bad_misshifted o.Varying = tt
bad_misshifted (o.Constant v) = tt

bad_each : (b : Bool) (report : Primitive → TypedValue) → ((x : Primitive) → IsBad (report x)) → IsBadUntyped (in_each b report)
bad_each b report h p.Bool = tt
bad_each b report h p.Byte = h p.Byte
bad_each b report h p.Int16 = h p.Int16
bad_each b report h p.Int = h p.Int
bad_each b report h p.Int32 = h p.Int32
bad_each b report h p.Int64 = h p.Int64

-- ---- operands beside one another

abbrev pub AllMay : List Kind → List OpenExpr → Type 0
AllMay [] [] = Unit {0}
AllMay [] (d ∷ ds) = ⊥
AllMay (x ∷ xs) [] = ⊥
AllMay (x ∷ xs) (d ∷ ds) = MayRead x d × AllMay xs ds

abbrev AnyBad : List Kind → Type 0
AnyBad [] = ⊥
AnyBad (k.Faulty ∷ ks) = AnyBad ks
AnyBad (k.Untyped f ∷ ks) = IsBadUntyped f ⊎ AnyBad ks
AnyBad (k.Known x ∷ ks) = AnyBad ks

bad_worst : (of : Primitive) (a : TypedValue) (ks : List Kind) → IsBad a ⊎ AnyBad ks → IsBad (worst a (map (outcome_in of) ks))
bad_worst of a [] (inl h) = h
bad_worst of a [] (inr h) = absurd h
bad_worst of a (kind ∷ ks) (inl h) = bad_worst of (worse a (outcome_in of kind)) ks (inl (bad_worse a (outcome_in of kind) (inl h)))
bad_worst of a (k.Faulty ∷ ks) (inr h) = bad_worst of (worse a (outcome_in of k.Faulty)) ks (inr h)
bad_worst of a (k.Known x ∷ ks) (inr h) = bad_worst of (worse a (outcome_in of (k.Known x))) ks (inr h)
bad_worst of a (k.Untyped f ∷ ks) (inr (inl h)) = bad_worst of (worse a (in_type f of)) ks (inl (bad_worse a (in_type f of) (inr (h of))))
bad_worst of a (k.Untyped f ∷ ks) (inr (inr h)) = bad_worst of (worse a (in_type f of)) ks (inr h)

first_bad : (of : Primitive) (kind : Kind) (ks : List Kind) → AnyBad (kind ∷ ks) → IsBad (outcome_in of kind) ⊎ AnyBad ks
first_bad of k.Faulty ks h = inr h
first_bad of (k.Known x) ks h = inr h
first_bad of (k.Untyped f) ks (inl h) = inl (h of)
first_bad of (k.Untyped f) ks (inr h) = inr h

bad_run : (op : Operator) (of : Primitive) (ks : List Kind) → AnyBad ks → IsBad (run_in op of ks)
bad_run op of [] h = absurd h
bad_run op of (kind ∷ ks) h =
    bad_if_constant (worst (outcome_in of kind) (map (outcome_in of) ks)) (with_all op (outcome_in of kind) (map (outcome_in of) ks))
    (bad_worst of (outcome_in of kind) ks (first_bad of kind ks h))

one_tree : (f : Untyped) (d : OpenExpr) (ks : List Kind) (ds : List OpenExpr) → IsBadUntyped f ⊎ HasTree 0 d → AnyBad ks ⊎ Trees 0 ds → AnyBad (k.Untyped f ∷ ks) ⊎ Trees 0 (d ∷ ds)
one_tree f d ks ds (inl h) g = inl (inl h)
one_tree f d ks ds (inr h) (inl g) = inl (inr g)
one_tree f d ks ds (inr h) (inr g) = inr (h, g)

-- all are free
untyped_trees : (ks : List Kind) (ds : List OpenExpr) → first_bound ks ≡ None → AllMay ks ds → AnyBad ks ⊎ Trees 0 ds
untyped_trees [] [] is h = inr tt
untyped_trees [] (d ∷ ds) is h = absurd h
untyped_trees (kind ∷ ks) [] is h = absurd h
untyped_trees (k.Faulty ∷ ks) (d ∷ ds) is h = absurd h.0
untyped_trees (k.Known x ∷ ks) (d ∷ ds) is h = absurd cc
untyped_trees (k.Untyped f ∷ ks) (d ∷ ds) is h = one_tree f d ks ds h.0.1 (untyped_trees ks ds is h.1)

none_needed : (ks : List Kind) (ds : List OpenExpr) → AllMay ks ds → list_any needs_faulty ks ≡ false
none_needed [] ds h = refl
none_needed (kind ∷ ks) [] h = absurd h
none_needed (k.Faulty ∷ ks) (d ∷ ds) h = absurd h.0
none_needed (k.Known x ∷ ks) (d ∷ ds) h = none_needed ks ds h.1
none_needed (k.Untyped f ∷ ks) (d ∷ ds) h = ap (λ (b : Bool). b || list_any needs_faulty ks) h.0.0 ∙ none_needed ks ds h.1

-- the first that is not free is known
bound_known : (ks : List Kind) (ds : List OpenExpr) (kind : Kind) → AllMay ks ds → first_bound ks ≡ Some kind → IsKnown kind
bound_known [] ds kind h is = absurd cc
bound_known (x ∷ ks) [] kind h is = absurd h
bound_known (k.Faulty ∷ ks) (d ∷ ds) kind h is = absurd h.0
bound_known (k.Untyped f ∷ ks) (d ∷ ds) kind h is = bound_known ks ds kind h.1 is
bound_known (k.Known x ∷ ks) (d ∷ ds) kind h is = subst IsKnown (ap (λ (y : Option Kind). kind_or y) is) h.0.0

abbrev pub AllRead : List Finding → List OpenExpr → Type 0
AllRead [] [] = Unit {0}
AllRead [] (d ∷ ds) = ⊥
AllRead (x ∷ xs) [] = ⊥
AllRead (x ∷ xs) (d ∷ ds) = Reads x.kind d × AllRead xs ds

all_settled : (of : OccType) (ks : List Kind) (ds : List OpenExpr) → AllMay ks ds → all_faults (map (settled of) ks) ≡ [] → AllRead (map (settled of) ks) ds
all_settled of [] [] h e = tt
all_settled of [] (d ∷ ds) h e = absurd h
all_settled of (kind ∷ ks) [] h e = absurd h
all_settled of (kind ∷ ks) (d ∷ ds) h e = (
  settled_reads of kind d h.0 (front_clean (settled of kind).faults (all_faults (map (settled of) ks)) e),
  all_settled of ks ds h.1 (back_clean (settled of kind).faults (all_faults (map (settled of) ks)) e),
)

no_faulty : (xs : List Finding) (ds : List OpenExpr) → AllRead xs ds → list_any is_faulty (kinds xs) ≡ false
no_faulty [] ds h = refl
no_faulty (x ∷ xs) [] h = absurd h
no_faulty (x ∷ xs) (d ∷ ds) h = ap (λ (b : Bool). b || list_any is_faulty (kinds xs)) (no_fault x.kind d h.0) ∙ no_faulty xs ds h.1

flat_tree : (of : OccType) (kind : Kind) (d : OpenExpr) → depth of ≡ 0 → Reads kind d → is_of of kind ≡ true → HasTree 0 d
flat_tree of k.Faulty d z h e = absurd h
flat_tree of (k.Untyped f) d z h e = absurd h
flat_tree of (k.Known x) d z h e = subst (λ (n : ℕ). HasTree n d) (sym (fits_depth of x.of e) ∙ z) h.1

flat_trees : (of : OccType) (xs : List Finding) (ds : List OpenExpr) → depth of ≡ 0 → AllRead xs ds → list_all (is_of of) (kinds xs) ≡ true → Trees 0 ds
flat_trees of [] [] z h e = tt
flat_trees of [] (d ∷ ds) z h e = absurd h
flat_trees of (x ∷ xs) [] z h e = absurd h
flat_trees of (x ∷ xs) (d ∷ ds) z h e =
    let b = both_true (is_of of x.kind) (list_all (is_of of) (kinds xs)) e in
    (flat_tree of x.kind d z h.0 b.0, flat_trees of xs ds z h.1 b.1)

allows_there : (class : Class) (base : Option Primitive) → allows class base ≡ true → (x : Primitive) × (base ≡ Some x)
allows_there c.Arithmetic None e = absurd cc
allows_there c.Equality None e = absurd cc
allows_there c.Order None e = absurd cc
allows_there c.Cyclic None e = absurd cc
allows_there c.Logic None e = absurd cc
allows_there class (Some x) e = (x, refl)

given_known : (class : Class) (of : OccType) → holds_unknown of ≡ false → holds_unknown (given class of) ≡ false
given_known c.Arithmetic of h = h
given_known c.Equality of h = unknown_primitive p.Bool
given_known c.Order of h = unknown_primitive p.Bool
given_known c.Cyclic of h = unknown_primitive p.Bool
given_known c.Logic of h = h

pub landed_known : (of : OccType) (x : TypedValue) → holds_unknown of ≡ false → (landed of x).faults ≡ [] → IsKnown (landed of x).kind
landed_known of x h e = let y = lands of x e in subst IsKnown (sym y.is) (subst (λ (u : OccType). holds_unknown u ≡ false) (sym y.typed) h)

abbrev verdict_if : Bool → Bool → OccType → TypedValue → Finding
verdict_if a b of x = if a then silent else chosen b (landed of x) (fault_of code.T1)

verdict_clean : (a b : Bool) (of : OccType) (x : TypedValue) → a ≡ false → (verdict_if a b of x).faults ≡ [] → (b ≡ true) × (verdict_if a b of x ≡ landed of x)
verdict_clean true b of x is e = absurd cc
verdict_clean false true of x is e = (refl, refl)
verdict_clean false false of x is e = absurd cc

pub record Decided (kind : Kind) (ds : List OpenExpr) : Type 0 where
  pub known : IsKnown kind
  pub trees : Trees 0 ds

decided_reads : (op : Operator) (of : OccType) (ks : List Kind) (ds : List OpenExpr) → AllMay ks ds → (decided op of ks).faults ≡ [] → Decided (decided op of ks).kind ds
unfolding decided
decided_reads op of ks ds h e =
    let xs = map (settled of) ks in
    let all = all_settled of ks ds h (front_clean (all_faults xs) (verdict op of (kinds xs)).faults e) in
    let fit = allows (class_of op) (base_of of) && list_all (is_of of) (kinds xs) in
    let clean = back_clean (all_faults xs) (verdict op of (kinds xs)).faults e in
    let x = verdict_clean (list_any is_faulty (kinds xs)) fit (given (class_of op) of) (run_in op p.Int (kinds xs)) (no_faulty xs ds all) clean in
    let both = both_true (allows (class_of op) (base_of of)) (list_all (is_of of) (kinds xs)) x.0 in
    let base = allows_there (class_of op) (base_of of) both.0 in
    let here : (landed (given (class_of op) of) (run_in op p.Int (kinds xs))).faults ≡ [] = sym (ap (λ (y : Finding). y.faults) x.1) ∙ clean in
    record {
      known = subst (λ (y : Finding). IsKnown y.kind) (sym x.1) (landed_known (given (class_of op) of) (run_in op p.Int (kinds xs)) (given_known (class_of op) of (base_known of base.0 base.1)) here);
      trees = flat_trees of xs ds (base_flat of base.0 base.1) all both.1;
    }

known_operation : (op : Operator) (kind : Kind) (ds : List OpenExpr) → Decided kind ds → MayRead kind (operation_open kind op ds)
unfolding operation_open
known_operation op k.Faulty ds h = absurd h.known
known_operation op (k.Untyped f) ds h = absurd h.known
known_operation op (k.Known x) ds h =
    opened_reads x (operation_of x op (all_placed ds (operands_type ds))) h.known (operation_of_there x op (all_placed ds (operands_type ds)) h.known (all_there 0 ds (operands_type ds) h.trees (omega arith) (operands_known ds h.trees)))

untyped_operation : (op : Operator) (ks : List Kind) (ds : List OpenExpr) → AnyBad ks ⊎ Trees 0 ds → IsBadUntyped (in_each (list_any needs_faulty ks) (λ of. run_in op of ks)) ⊎ HasTree 0 (dr.Operation (in_each (list_any needs_faulty ks) (λ of. run_in op of ks)) op ds)
untyped_operation op ks ds (inl h) = inl (bad_each (list_any needs_faulty ks) (λ of. run_in op of ks) (λ of. bad_run op of ks h))
untyped_operation op ks ds (inr h) = inr (tree_operation (in_each (list_any needs_faulty ks) (λ of. run_in op of ks)) op ds h)

abbrev untyped_or_decided : Bool → Operator → List Kind → Finding
untyped_or_decided b op ks = if b then record { faults = []; kind = k.Untyped (in_each (list_any needs_faulty ks) (λ of. run_in op of ks)) } else decided op int ks

none_bound : (b : Bool) (op : Operator) (ks : List Kind) (ds : List OpenExpr) → AllMay ks ds → first_bound ks ≡ None → (untyped_or_decided b op ks).faults ≡ [] → MayRead (untyped_or_decided b op ks).kind (operation_open (untyped_or_decided b op ks).kind op ds)
unfolding operation_open
none_bound true op ks ds h is e = (none_needed ks ds h, untyped_operation op ks ds (untyped_trees ks ds is h))
none_bound false op ks ds h is e = known_operation op (decided op int ks).kind ds (decided_reads op int ks ds h e)

bound_operated : (op : Operator) (first : Option Kind) (ks : List Kind) (ds : List OpenExpr) → AllMay ks ds → first_bound ks ≡ first → (operated_from first op ks).faults ≡ [] → MayRead (operated_from first op ks).kind (operation_open (operated_from first op ks).kind op ds)
bound_operated op None ks ds h is e = none_bound (is_arithmetic (class_of op)) op ks ds h is e
bound_operated op (Some k.Faulty) ks ds h is e = absurd (bound_known ks ds k.Faulty h is)
bound_operated op (Some (k.Untyped f)) ks ds h is e = absurd (bound_known ks ds (k.Untyped f) h is)
bound_operated op (Some (k.Known x)) ks ds h is e = known_operation op (decided op x.of ks).kind ds (decided_reads op x.of ks ds h e)

pub operated_reads : (op : Operator) (ks : List Kind) (ds : List OpenExpr) → AllMay ks ds → (operated op ks).faults ≡ [] → MayRead (operated op ks).kind (operation_open (operated op ks).kind op ds)
operated_reads op ks ds h e = bound_operated op (first_bound ks) ks ds h refl e

-- ---- shifts

int_flat : (of : OccType) → is_int (as_primitive of) ≡ true → depth of ≡ 0
int_flat of e = from (as_primitive of) refl e where
  from : (base : Option Primitive) → as_primitive of ≡ base → is_int base ≡ true → depth of ≡ 0
  from None is e = absurd cc
  from (Some x) is e = flat_primitive of x is

int_tree : (y : Known) (d : OpenExpr) → is_int (as_primitive y.of) ≡ true → Reads (k.Known y) d → Has IsWholeExpr (placed d int)
int_tree y d e h = h.1 int (let z : depth y.of ≡ 0 = int_flat y.of e in omega (arith, z)) int_known

shifted_is : (op : Operator) (f : Untyped) (x : OpenExpr) (count : Option TypedExpr) → Has IsWholeExpr count → HasTree 0 x → HasTree 0 (shifted_untyped f op x count)
shifted_is op f x None h g = absurd h
shifted_is op f x (Some count) h g = tree_shifted f op x count g h

abbrev counted : Bool → Operator → Untyped → Option Value → Primitive → TypedValue
counted b op f count of = if b then shifted op count (in_type f of) else misshifted (in_type f of)

bad_counted : (b : Bool) (op : Operator) (f : Untyped) (count : Option Value) → (b ≡ false) ⊎ IsBadUntyped f → (of : Primitive) → IsBad (counted b op f count of)
bad_counted true op f count (inl h) of = absurd cc
bad_counted true op f count (inr h) of = bad_shifted op count (in_type f of) (h of)
bad_counted false op f count h of = bad_misshifted (in_type f of)

untyped_shift : (b : Bool) (op : Operator) (f : Untyped) (count : Option Value) (x : OpenExpr) (tree : Option TypedExpr) → (b ≡ true → Has IsWholeExpr tree) → IsBadUntyped f ⊎ HasTree 0 x
    → IsBadUntyped (in_each f.is_faulty (counted b op f count)) ⊎ HasTree 0 (shifted_untyped (in_each f.is_faulty (counted b op f count)) op x tree)
untyped_shift false op f count x tree h g = inl (bad_each f.is_faulty (counted false op f count) (bad_counted false op f count (inl refl)))
untyped_shift true op f count x tree h (inl g) = inl (bad_each f.is_faulty (counted true op f count) (bad_counted true op f count (inr g)))
untyped_shift true op f count x tree h (inr g) = inr (shifted_is op (in_each f.is_faulty (counted true op f count)) x tree (h refl) g)

shifted_there : (x : Known) (op : Operator) (t count : Option TypedExpr) → IsKnownType x.of → Has IsWholeExpr t → Has IsWholeExpr count → Has IsWholeExpr (shifted_known x op t count)
shifted_there x op t None known h g = g
shifted_there x op t (Some count) known h g = shifted_of_there x op t count known h g

landed_shift : (op : Operator) (of : OccType) (kind : Kind) (x : TypedValue) (a b : OpenExpr) → holds_unknown of ≡ false → Lands of x kind → HasTree (depth of) a → Has IsWholeExpr (placed b int) → MayRead kind (shift_open kind op a b)
unfolding shift_open
landed_shift op of k.Faulty x a b h y g i = let z : k.Faulty ≡ k.Known y.what = y.is in absurd cc
landed_shift op of (k.Untyped f) x a b h y g i = let z : k.Untyped f ≡ k.Known y.what = y.is in absurd cc
landed_shift op of (k.Known z) x a b h y g i =
    let same : z.of ≡ of = ap (λ (u : Kind). of_in u of) y.is ∙ y.typed in
    let known : IsKnownType z.of = ap holds_unknown same ∙ h in
    opened_reads z (shifted_known z op (placed a z.of) (placed b int)) known
    (shifted_there z op (placed a z.of) (placed b int) known (g z.of (let q : depth z.of ≡ depth of = ap depth same in omega (arith, q)) known) i)

known_shift : (b : Bool) (op : Operator) (x : Known) (r : TypedValue) (a c : OpenExpr) → Reads (k.Known x) a → (b ≡ true → Has IsWholeExpr (placed c int)) → (chosen b (landed x.of r) (fault_of code.T1)).faults ≡ []
    → MayRead (chosen b (landed x.of r) (fault_of code.T1)).kind (shift_open (chosen b (landed x.of r) (fault_of code.T1)).kind op a c)
known_shift false op x r a c h g e = absurd cc
known_shift true op x r a c h g e = landed_shift op x.of (landed x.of r).kind r a c h.0 (lands x.of r e) h.1 (g refl)

shift_by : (op : Operator) (x y : Kind) (a b : OpenExpr) → MayRead x a → Reads y b → (shifted_by op x y).faults ≡ [] → MayRead (shifted_by op x y).kind (shift_open (shifted_by op x y).kind op a b)
unfolding shift_open
shift_by op k.Faulty y a b h g e = absurd h
shift_by op (k.Untyped f) k.Faulty a b h g e = absurd g
shift_by op (k.Untyped f) (k.Untyped f') a b h g e = absurd g
shift_by op (k.Untyped f) (k.Known y) a b h g e =
    (h.0, untyped_shift (is_int (as_primitive y.of)) op f y.value a (placed b int) (λ i. int_tree y b i g) h.1)
shift_by op (k.Known x) k.Faulty a b h g e = absurd g
shift_by op (k.Known x) (k.Untyped f') a b h g e = absurd g
shift_by op (k.Known x) (k.Known y) a b h g e =
    known_shift (is_there (number (base_of x.of)) && is_int (as_primitive y.of)) op x (shifted op y.value (value_outcome x.value)) a b h
    (λ i. int_tree y b (both_true (is_there (number (base_of x.of))) (is_int (as_primitive y.of)) i).1 g) e

pub shift_reads : (op : Operator) (x y : Kind) (a b : OpenExpr) → MayRead x a → MayRead y b → (shift_operated op x y).faults ≡ [] → MayRead (shift_operated op x y).kind (shift_open (shift_operated op x y).kind op a b)
shift_reads op x y a b h g e =
    let z = settled int y in
    shift_by op x z.kind a b h (settled_reads int y b g (front_clean z.faults (shifted_by op x z.kind).faults e)) (back_clean z.faults (shifted_by op x z.kind).faults e)

-- ---- operators in front

landed_front : (op : Monadic) (of : OccType) (kind : Kind) (x : TypedValue) (a : OpenExpr) → holds_unknown of ≡ false → Lands of x kind → HasTree (depth of) a → MayRead kind (front_open kind op a)
unfolding front_open
landed_front op of k.Faulty x a h y g = let z : k.Faulty ≡ k.Known y.what = y.is in absurd cc
landed_front op of (k.Untyped f) x a h y g = let z : k.Untyped f ≡ k.Known y.what = y.is in absurd cc
landed_front op of (k.Known z) x a h y g =
    let same : z.of ≡ of = ap (λ (u : Kind). of_in u of) y.is ∙ y.typed in
    let known : IsKnownType z.of = ap holds_unknown same ∙ h in
    opened_reads z (applied_of z op (placed a z.of)) known
    (applied_of_there z op (placed a z.of) known (g z.of (let q : depth z.of ≡ depth of = ap depth same in omega (arith, q)) known))

known_front : (b : Bool) (op : Monadic) (x : Known) (r : TypedValue) (a : OpenExpr) → Reads (k.Known x) a → (chosen b (landed x.of r) (fault_of code.T1)).faults ≡ []
    → MayRead (chosen b (landed x.of r) (fault_of code.T1)).kind (front_open (chosen b (landed x.of r) (fault_of code.T1)).kind op a)
known_front false op x r a h e = absurd cc
known_front true op x r a h e = landed_front op x.of (landed x.of r).kind r a h.0 (lands x.of r e) h.1

not_clean : (b : Bool) (x : TypedValue) → b ≡ false → (not_untyped b x).faults ≡ [] → ⊥
not_clean true x is e = absurd cc
not_clean false o.Unfit is e = absurd cc
not_clean false (o.Faulty x) is e = wrong_reported x e
not_clean false o.Varying is e = absurd cc
not_clean false (o.Constant v) is e = absurd cc

untyped_applied : (op : Monadic) (f : Untyped) (a : OpenExpr) → IsBadUntyped f ⊎ HasTree 0 a → IsBadUntyped (in_each f.is_faulty (λ of. applied op (in_type f of))) ⊎ HasTree 0 (dr.Applied (in_each f.is_faulty (λ of. applied op (in_type f of))) op a)
untyped_applied op f a (inl h) = inl (bad_each f.is_faulty (λ of. applied op (in_type f of)) (λ of. bad_applied op (in_type f of) (h of)))
untyped_applied op f a (inr h) = inr (tree_applied (in_each f.is_faulty (λ of. applied op (in_type f of))) op a h)

abbrev untyped_front : Bool → Monadic → Untyped → Finding
untyped_front b op f = chosen b (not_untyped f.is_faulty f.int) (record { faults = []; kind = k.Untyped (in_each f.is_faulty (λ of. applied op (in_type f of))) })

untyped_in_front : (b : Bool) (op : Monadic) (f : Untyped) (a : OpenExpr) → MayRead (k.Untyped f) a → (untyped_front b op f).faults ≡ [] → MayRead (untyped_front b op f).kind (front_open (untyped_front b op f).kind op a)
unfolding front_open
untyped_in_front true op f a h e = absurd (not_clean f.is_faulty f.int h.0 e)
untyped_in_front false op f a h e = (h.0, untyped_applied op f a h.1)

pub front_reads : (op : Monadic) (x : Kind) (a : OpenExpr) → MayRead x a → (front_operated op x).faults ≡ [] → MayRead (front_operated op x).kind (front_open (front_operated op x).kind op a)
front_reads op k.Faulty a h e = absurd h
front_reads op (k.Untyped f) a h e = untyped_in_front (is_not op) op f a h e
front_reads op (k.Known x) a h e = known_front (takes op (base_of x.of)) op x (applied op (value_outcome x.value)) a h e
