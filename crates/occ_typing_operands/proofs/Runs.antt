-- Operands with one operator between each two: what stands after constants, and after the first that is none.
use Rattle.std.proofs.Common.{◌≡◌, ◌∙◌, List, [], ◌∷◌, Ok, Err, ap, map, refl, sym}
use Rattle.occ_types.specs.Constant.{folded}
use Rattle.occ_types.specs.declared.constant.ConstFault.{ConstFault}
use Rattle.occ_types.specs.declared.constant.Operator.{Operator}
use Rattle.occ_types.specs.declared.value.Value.{Value}
use Rattle.occ_typing_operands.specs.declared.kind.Kind.{Kind}
use Rattle.occ_typing_operands.specs.declared.kind.TypedValue.{TypedValue}
use Rattle.occ_typing_operands.specs.declared.kind.TypedValue.TheVariants as o
use Rattle.occ_typing_operands.specs.declared.kind.Wrong.{Wrong}
use Rattle.occ_typing_operands.specs.declared.kind.Wrong.TheVariants as w
use Rattle.occ_typing_operands.specs.Outcomes.{both_wrong, if_constant, outcome_of, run, with_all, worst}

unfit_is_worst : (bs : List TypedValue) → worst o.Unfit bs ≡ o.Unfit
unfit_is_worst [] = refl
unfit_is_worst (b ∷ bs) = unfit_is_worst bs

-- which constant was read last does not matter
pub any_constant : (a b : Value) (bs : List TypedValue) (x : TypedValue) → if_constant (worst (o.Constant a) bs) x ≡ if_constant (worst (o.Constant b) bs) x
any_constant a b [] x = refl
any_constant a b (c ∷ bs) x = refl

no_value_stays : (op : Operator) (x : Wrong) (bs : List TypedValue) → with_all op (o.Faulty x) bs ≡ o.Faulty x
no_value_stays op x [] = refl
no_value_stays op x (b ∷ bs) = no_value_stays op x bs

pub unfit_stays : (bs : List TypedValue) (x : TypedValue) → if_constant (worst o.Unfit bs) x ≡ o.Unfit
unfit_stays bs x = ap (λ (z : TypedValue). if_constant z x) (unfit_is_worst bs)

pub faulty_stays : (y : Wrong) (bs : List TypedValue) (x : TypedValue) → if_constant (worst (o.Faulty y) bs) x ≡ worst (o.Faulty y) bs
faulty_stays y [] x = refl
faulty_stays y (o.Unfit ∷ bs) x = unfit_stays bs x ∙ sym (unfit_is_worst bs)
faulty_stays y (o.Faulty z ∷ bs) x = faulty_stays (both_wrong y z) bs x
faulty_stays y (o.Varying ∷ bs) x = faulty_stays y bs x
faulty_stays y (o.Constant v ∷ bs) x = faulty_stays y bs x

pub varying_stays : (bs : List TypedValue) (x : TypedValue) → if_constant (worst o.Varying bs) x ≡ worst o.Varying bs
varying_stays [] x = refl
varying_stays (o.Unfit ∷ bs) x = unfit_stays bs x ∙ sym (unfit_is_worst bs)
varying_stays (o.Faulty z ∷ bs) x = faulty_stays z bs x
varying_stays (o.Varying ∷ bs) x = varying_stays bs x
varying_stays (o.Constant v ∷ bs) x = varying_stays bs x

with_first : (f : Kind → TypedValue) (b : TypedValue) (next : Kind) (rest others : List Kind) → others ≡ next ∷ rest → b ≡ f next → map f others ≡ b ∷ map f rest
with_first f b next rest others split is = ap (λ (z : List Kind). map f z) split ∙ ap (λ (z : TypedValue). z ∷ map f rest) (sym is)

-- ---- after constants: another with which they have a value, another with which they have none, and what is none

pub value_goes_on : (f : Kind → TypedValue) (op : Operator) (a b v : Value) (next : Kind) (rest others : List Kind) (whole : TypedValue)
    → others ≡ next ∷ rest
    → o.Constant b ≡ f next
    → folded op a b ≡ Ok v
    → run op (o.Constant a) (map f others) ≡ whole
    → run op (o.Constant v) (map f rest) ≡ whole
value_goes_on f op a b v next rest others whole split is has all =
    any_constant v b (map f rest) (with_all op (o.Constant v) (map f rest))
    ∙ ap (λ z. if_constant (worst (o.Constant b) (map f rest)) (with_all op (outcome_of z) (map f rest))) (sym has)
    ∙ ap (λ (z : List TypedValue). run op (o.Constant a) z) (sym (with_first f (o.Constant b) next rest others split is))
    ∙ all

pub value_is_lost : (f : Kind → TypedValue) (op : Operator) (a b : Value) (fault : ConstFault) (next : Kind) (rest others : List Kind) (whole r : TypedValue)
    → others ≡ next ∷ rest
    → o.Constant b ≡ f next
    → folded op a b ≡ Err fault
    → run op (o.Constant a) (map f others) ≡ whole
    → r ≡ if_constant (worst (o.Constant b) (map f rest)) (o.Faulty w.Value)
    → r ≡ whole
value_is_lost f op a b fault next rest others whole r split is has all reported =
    reported
    ∙ ap (λ (z : TypedValue). if_constant (worst (o.Constant b) (map f rest)) z) (sym (no_value_stays op w.Value (map f rest)))
    ∙ ap (λ z. if_constant (worst (o.Constant b) (map f rest)) (with_all op (outcome_of z) (map f rest))) (sym has)
    ∙ ap (λ (z : List TypedValue). run op (o.Constant a) z) (sym (with_first f (o.Constant b) next rest others split is))
    ∙ all

pub none_goes_on : (f : Kind → TypedValue) (a b : Value) (x : TypedValue) (next : Kind) (rest others : List Kind) (whole : TypedValue)
    → others ≡ next ∷ rest
    → o.Constant b ≡ f next
    → if_constant (worst (o.Constant a) (map f others)) x ≡ whole
    → if_constant (worst (o.Constant a) (map f rest)) x ≡ whole
none_goes_on f a b x next rest others whole split is all =
    any_constant a b (map f rest) x
    ∙ ap (λ (z : List TypedValue). if_constant (worst (o.Constant a) z) x) (sym (with_first f (o.Constant b) next rest others split is))
    ∙ all

pub none_ends : (f : Kind → TypedValue) (a : Value) (x : TypedValue) (others : List Kind) (whole : TypedValue)
    → others ≡ []
    → if_constant (worst (o.Constant a) (map f others)) x ≡ whole
    → x ≡ whole
none_ends f a x others whole none all = ap (λ (z : List Kind). if_constant (worst (o.Constant a) (map f z)) x) (sym none) ∙ all

pub meets_unfit : (f : Kind → TypedValue) (a : Value) (x : TypedValue) (next : Kind) (rest others : List Kind) (whole : TypedValue)
    → others ≡ next ∷ rest
    → o.Unfit ≡ f next
    → if_constant (worst (o.Constant a) (map f others)) x ≡ whole
    → o.Unfit ≡ whole
meets_unfit f a x next rest others whole split is all =
    sym (unfit_stays (map f rest) x)
    ∙ ap (λ (z : List TypedValue). if_constant (worst (o.Constant a) z) x) (sym (with_first f o.Unfit next rest others split is))
    ∙ all

pub meets_faulty : (f : Kind → TypedValue) (a : Value) (y : Wrong) (x : TypedValue) (next : Kind) (rest others : List Kind) (whole r : TypedValue)
    → others ≡ next ∷ rest
    → o.Faulty y ≡ f next
    → if_constant (worst (o.Constant a) (map f others)) x ≡ whole
    → r ≡ worst (o.Faulty y) (map f rest)
    → r ≡ whole
meets_faulty f a y x next rest others whole r split is all reported =
    reported
    ∙ sym (faulty_stays y (map f rest) x)
    ∙ ap (λ (z : List TypedValue). if_constant (worst (o.Constant a) z) x) (sym (with_first f (o.Faulty y) next rest others split is))
    ∙ all

pub meets_varying : (f : Kind → TypedValue) (a : Value) (x : TypedValue) (next : Kind) (rest others : List Kind) (whole r : TypedValue)
    → others ≡ next ∷ rest
    → o.Varying ≡ f next
    → if_constant (worst (o.Constant a) (map f others)) x ≡ whole
    → r ≡ worst o.Varying (map f rest)
    → r ≡ whole
meets_varying f a x next rest others whole r split is all reported =
    reported
    ∙ sym (varying_stays (map f rest) x)
    ∙ ap (λ (z : List TypedValue). if_constant (worst (o.Constant a) z) x) (sym (with_first f o.Varying next rest others split is))
    ∙ all
