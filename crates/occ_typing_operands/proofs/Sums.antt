-- Literals in decimal digits with + between each two.
use Rattle.std.proofs.Common.{◌≡◌, ◌∙◌, ◌+◌, max, ℕ, Bool, true, false, cond, ◌&&◌, Some, None, Ok, Err, List, ◌∷◌, ap, arith, map, refl, sym}
use Rattle.std.specs.Prelude.{pos, ◌+ℤ◌}
use Rattle.std.specs.List.{list_any}
use Rattle.std.proofs.lemmas.Int.{ints}
use Rattle.occ_types.specs.Constant.{folded, is_in_range, settled, value_of}
use Rattle.occ_types.specs.declared.constant.ConstFault.TheVariants as fault
use Rattle.occ_types.specs.declared.constant.Operator.TheVariants as op
use Rattle.occ_types.specs.declared.value.Primitive.{Primitive}
use Rattle.occ_types.specs.declared.value.Primitive.TheVariants as p
use Rattle.occ_types.specs.declared.value.Value.{Value}
use Rattle.occ_typing_operands.specs.declared.kind.Kind.{Kind}
use Rattle.occ_typing_operands.specs.declared.kind.Kind.TheVariants as k
use Rattle.occ_typing_operands.specs.declared.kind.TypedValue.{TypedValue}
use Rattle.occ_typing_operands.specs.declared.kind.TypedValue.TheVariants as o
use Rattle.occ_typing_operands.specs.declared.kind.Wrong.TheVariants as w
use Rattle.occ_typing_operands.specs.Operators.{needs_faulty, outcome_in, run_in}
use Rattle.occ_typing_operands.specs.Outcomes.{decimal, fitting, if_constant, in_each, outcome_of, run, with_all, with_next, worse, worst}
use Rattle.occ_typing_operands.specs.inside.Sums.{as_total, sum_with, total_in}
use Rattle.occ_typing_operands.proofs.Runs.{any_constant, unfit_stays}

-- a value that is there or not: as a literal, and as what is folded
abbrev literal : Bool → Value → TypedValue
literal fits v = fitting (cond fits (Some v) None)

abbrev settling : Bool → Value → TypedValue
settling fits v = as_total (cond fits (Some v) None)

settles : (fits : Bool) (v : Value) → outcome_of (cond fits (Ok v) (Err fault.Overflow)) ≡ settling fits v
settles true v = refl
settles false v = refl

abbrev with_both : TypedValue → TypedValue → List TypedValue → TypedValue
with_both a b bs = if_constant (worst a bs) (with_all op.Add b bs)

-- one literal more: m is the greatest before it, n the literal, t the total before it
one_more : (m n t sum : Bool) (vm vn vt most total : Value) (bs : List TypedValue)
    → (t ≡ false → sum ≡ false)
    → outcome_of (folded op.Add vt vn) ≡ settling sum total
    → with_both (worse (literal m vm) (literal n vn)) (with_next op.Add (settling t vt) (literal n vn)) bs ≡ with_both (literal (m && n) most) (settling sum total) bs
one_more true true true sum vm vn vt most total bs h f =
    any_constant vn most bs (with_all op.Add (outcome_of (folded op.Add vt vn)) bs)
    ∙ ap (λ (z : TypedValue). if_constant (worst (o.Constant most) bs) (with_all op.Add z bs)) f
one_more true true false false vm vn vt most total bs h f = any_constant vn most bs (with_all op.Add (o.Faulty w.Value) bs)
one_more true true false true vm vn vt most total bs h f = let e : true ≡ false = h refl in absurd cc
one_more true false t sum vm vn vt most total bs h f = unfit_stays bs _ ∙ sym (unfit_stays bs _)
one_more false true t sum vm vn vt most total bs h f = unfit_stays bs _ ∙ sym (unfit_stays bs _)
one_more false false t sum vm vn vt most total bs h f = unfit_stays bs _ ∙ sym (unfit_stays bs _)

range_of_max : (of : Primitive) (m n : ℕ) → (is_in_range of (pos m) && is_in_range of (pos n)) ≡ is_in_range of (pos (max m n))
range_of_max p.Bool m n = grind (arith, ints)
range_of_max p.Byte m n = grind (arith, ints)
range_of_max p.Int16 m n = grind (arith, ints)
range_of_max p.Int m n = grind (arith, ints)
range_of_max p.Int32 m n = grind (arith, ints)
range_of_max p.Int64 m n = grind (arith, ints)

range_of_sum : (of : Primitive) (t n : ℕ) → is_in_range of (pos t) ≡ false → is_in_range of (pos (t + n)) ≡ false
range_of_sum p.Bool t n h = grind (arith, ints)
range_of_sum p.Byte t n h = grind (arith, ints)
range_of_sum p.Int16 t n h = grind (arith, ints)
range_of_sum p.Int t n h = grind (arith, ints)
range_of_sum p.Int32 t n h = grind (arith, ints)
range_of_sum p.Int64 t n h = grind (arith, ints)

whole : (t n : ℕ) → pos t +ℤ pos n ≡ pos (t + n)
whole t n = omega (arith, ints)

folds : (of : Primitive) (t n : ℕ) → outcome_of (settled of (pos t +ℤ pos n)) ≡ total_in of (t + n)
folds of t n = ap (λ z. outcome_of (settled of z)) (whole t n) ∙ settles (is_in_range of (pos (t + n))) (value_of of (pos (t + n)))

-- a literal more in a type that is no BOOL
more_in : (of : Primitive) (t m n : ℕ) (bs : List TypedValue)
    → outcome_of (folded op.Add (value_of of (pos t)) (value_of of (pos n))) ≡ total_in of (t + n)
    → with_both (worse (fitting (cond (is_in_range of (pos m)) (Some (value_of of (pos m))) None)) (fitting (cond (is_in_range of (pos n)) (Some (value_of of (pos n))) None)))
    (with_next op.Add (total_in of t) (fitting (cond (is_in_range of (pos n)) (Some (value_of of (pos n))) None))) bs
    ≡ with_both (fitting (cond (is_in_range of (pos (max m n))) (Some (value_of of (pos (max m n)))) None)) (total_in of (t + n)) bs
more_in of t m n bs f =
    one_more (is_in_range of (pos m)) (is_in_range of (pos n)) (is_in_range of (pos t)) (is_in_range of (pos (t + n)))
    (value_of of (pos m)) (value_of of (pos n)) (value_of of (pos t)) (value_of of (pos (max m n))) (value_of of (pos (t + n))) bs
    (range_of_sum of t n) f
    ∙ ap (λ (z : Bool). with_both (literal z (value_of of (pos (max m n)))) (total_in of (t + n)) bs) (range_of_max of m n)

literal_more : (of : Primitive) (t m n : ℕ) (ks : List Kind) → sum_with of t m (k.Untyped (decimal (pos n)) ∷ ks) ≡ sum_with of (t + n) (max m n) ks
literal_more p.Bool t m n ks = unfit_stays (map (outcome_in p.Bool) ks) _ ∙ sym (unfit_stays (map (outcome_in p.Bool) ks) _)
literal_more p.Byte t m n ks = more_in p.Byte t m n (map (outcome_in p.Byte) ks) (folds p.Byte t n)
literal_more p.Int16 t m n ks = more_in p.Int16 t m n (map (outcome_in p.Int16) ks) (folds p.Int16 t n)
literal_more p.Int t m n ks = more_in p.Int t m n (map (outcome_in p.Int) ks) (folds p.Int t n)
literal_more p.Int32 t m n ks = more_in p.Int32 t m n (map (outcome_in p.Int32) ks) (folds p.Int32 t n)
literal_more p.Int64 t m n ks = more_in p.Int64 t m n (map (outcome_in p.Int64) ks) (folds p.Int64 t n)

pub goes_on : (of : Primitive) (t m n : ℕ) (next : Kind) (ks : List Kind) (whole : TypedValue)
    → next ≡ k.Untyped (decimal (pos n)) → sum_with of t m (next ∷ ks) ≡ whole → sum_with of (t + n) (max m n) ks ≡ whole
goes_on of t m n next ks whole is h = sym (literal_more of t m n ks) ∙ ap (λ (z : Kind). sum_with of t m (z ∷ ks)) (sym is) ∙ h

starts_in : (fits : Bool) (v : Value) (bs : List TypedValue) → with_both (literal fits v) (settling fits v) bs ≡ run op.Add (literal fits v) bs
starts_in true v bs = refl
starts_in false v bs = unfit_stays bs _ ∙ sym (unfit_stays bs _)

literal_starts : (of : Primitive) (n : ℕ) (ks : List Kind) → sum_with of n n ks ≡ run_in op.Add of (k.Untyped (decimal (pos n)) ∷ ks)
literal_starts p.Bool n ks = unfit_stays (map (outcome_in p.Bool) ks) _ ∙ sym (unfit_stays (map (outcome_in p.Bool) ks) _)
literal_starts p.Byte n ks = starts_in (is_in_range p.Byte (pos n)) (value_of p.Byte (pos n)) (map (outcome_in p.Byte) ks)
literal_starts p.Int16 n ks = starts_in (is_in_range p.Int16 (pos n)) (value_of p.Int16 (pos n)) (map (outcome_in p.Int16) ks)
literal_starts p.Int n ks = starts_in (is_in_range p.Int (pos n)) (value_of p.Int (pos n)) (map (outcome_in p.Int) ks)
literal_starts p.Int32 n ks = starts_in (is_in_range p.Int32 (pos n)) (value_of p.Int32 (pos n)) (map (outcome_in p.Int32) ks)
literal_starts p.Int64 n ks = starts_in (is_in_range p.Int64 (pos n)) (value_of p.Int64 (pos n)) (map (outcome_in p.Int64) ks)

pub starts : (of : Primitive) (n : ℕ) (first : Kind) (ks : List Kind) → first ≡ k.Untyped (decimal (pos n)) → sum_with of n n ks ≡ run_in op.Add of (first ∷ ks)
starts of n first ks is = literal_starts of n ks ∙ ap (λ (z : Kind). run_in op.Add of (z ∷ ks)) (sym is)

pub needs_none : (n : ℕ) (next : Kind) (ks : List Kind) → next ≡ k.Untyped (decimal (pos n)) → list_any needs_faulty (next ∷ ks) ≡ list_any needs_faulty ks
needs_none n next ks is = ap (λ (z : Kind). list_any needs_faulty (z ∷ ks)) is

pub same_in_each : (b c : Bool) (f g : Primitive → TypedValue) → b ≡ c → ((of : Primitive) → f of ≡ g of) → in_each b f ≡ in_each c g
same_in_each b c f g e h =
    let byte = h p.Byte in
    let int16 = h p.Int16 in
    let int = h p.Int in
    let int32 = h p.Int32 in
    let int64 = h p.Int64 in
    cc
