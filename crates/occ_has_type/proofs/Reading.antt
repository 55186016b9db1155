-- Operands, tables among them: what the relation says of what is known of them, whatever is wanted.
use Rattle.std.proofs.Common.{◌≡◌, ◌∙◌, ◌&&◌, ◌||◌, ◌⊎◌, inl, inr, ℕ, suc, Bool, true, false, List, [], ◌∷◌, map, length, Option, Some, None, if◌then◌else◌, refl, ap, sym, subst}
use Rattle.std.specs.List.{list_any}
use Rattle.std.specs.Prelude.{nat_le, not}
use Rattle.occ_base.specs.declared.code.Code.TheVariants as code
use Rattle.occ_forms_expressions.specs.declared.tree.Expr.{Expr}
use Rattle.occ_scope.specs.declared.scope.Scope.{Scope}
use Rattle.occ_typing_operands.specs.Operators.{is_faulty, kinds, needs_faulty}
use Rattle.occ_typing_operands.specs.Settling.{Finding, base_of, faulty_if, int, known, number, settled, settled_untyped, silent}
use Rattle.occ_typing_operands.specs.Wanting.{fitted}
use Rattle.occ_typing_operands.specs.declared.kind.Kind.{Kind}
use Rattle.occ_typing_operands.specs.declared.kind.Kind.TheVariants as k
use Rattle.occ_typing_operands.specs.declared.kind.Known.{Known}
use Rattle.occ_typing_tables.specs.Decorating.{field_value, field_values, of_array, of_count, whole}
use Rattle.occ_typing_tables.specs.Extents.{arrayed, is_too_large}
use Rattle.occ_typing_tables.specs.Merging.{merged}
use Rattle.occ_typing_tables.specs.Terms.{Judged, after_first, alone, each_own_or_alone, each_under, first_settled, first_type, fitted_to, has_fault, is_faulty_settled, is_untyped_kind, items_type, joined, judged, judged_all, merged_all, own_or_alone, settled_under, so_many, table_alone, table_of, table_type, term_step}
use Rattle.occ_typing_tables.specs.declared.table.Settled.{Settled}
use Rattle.occ_typing_tables.specs.declared.term.Term.{Term, out-Term, roll-Term}
use Rattle.occ_typing_tables.specs.declared.term.Term.TheOpen.{Term-F}
use Rattle.occ_typing_tables.specs.declared.term.Term.TheViews.{roll-out-Term}
use Rattle.occ_typing_tables.specs.declared.term.Term.TheVariants as v
use Rattle.occ_typing_tables.proofs.Judging.{judged_single, judged_table}
use Rattle.occ_types.specs.Fits.{counts_fit, fits, is_data, unnamed}
use Rattle.occ_types.specs.View.{as_array, as_primitive, is_unknown}
use Rattle.occ_types.specs.declared.types.Field.{Field}
use Rattle.occ_types.specs.declared.types.OccType.{OccType}
use Rattle.occ_types.specs.declared.types.OccType.TheVariants as t
use Rattle.occ_types.specs.declared.value.Primitive.TheVariants as p
use Rattle.occ_types.specs.declared.value.Value.{Value}
use Rattle.occ_types.proofs.Agreeing.{as_array_at_primitive, as_primitive_at_array, unnamed_of_array}
use Rattle.occ_has_type.specs.Free.{is_free}
use Rattle.occ_has_type.specs.Types.{IsAlone, AreAll, AreFields, AreItems, HasType, IsArray, IsFirst, IsTable, IsTableAlone, IsTableExpr, IsTableOf, StandsAlone, Takes, agreed, merged_with}
use Rattle.occ_has_type.specs.Types as has
use Rattle.occ_has_type.proofs.Fitting.{first_same, never_array}
use Rattle.occ_has_type.proofs.Literals.{int_base}
use Rattle.occ_has_type.proofs.Means.{Has, Knows, Means, Settles, chosen, knows_as, knows_chosen, knows_otherwise, knows_unless, means_as, settles, settles_alone}
use Rattle.occ_has_type.proofs.Operating.{Beside, neither_true}

-- ---- one operand

-- what is said of an operand: where no type is wanted, where one is, and beside others, where it is perhaps a table
pub record Reads (free : Bool) (A : Has) (T : OccType → Has) (B : Has) (j : Judged) : Type 0 where
  pub by_itself : Knows (λ x. A x.of x.value) j.alone.kind
  pub settles : (to : OccType) → Knows (λ x. fits to x.of ≡ true → T to x.of x.value) (j.settled to).kind
  pub plain : Knows (λ x. A x.of x.value) (settled int (j.beside false).kind).kind
  pub beside : (other : Bool) → Means free B (j.beside other).kind
  pub untyped : j.is_untyped ≡ true → free ≡ true
  pub typed : j.is_untyped ≡ false → Knows (λ x. free ≡ false) j.alone.kind
  pub faulty : j.is_faulty ≡ true → (j.alone.kind ≡ k.Faulty) × ((to : OccType) → (j.settled to).is_faulty ≡ true)

-- the types that one has that is no table
abbrev pub Alone_of : Bool → Has → Has
Alone_of free H of value = H of value × IsAlone free of

abbrev pub Taken : Has → OccType → Has
Taken H to of value = H of value × (fits to of ≡ true)

if_faulty : (b : Bool) (x : Finding) → b ≡ true → (faulty_if b x).kind ≡ k.Faulty
if_faulty true x is = refl
if_faulty false x is = absurd cc

settled_faulty : (kind : Kind) (to : OccType) → needs_faulty kind ≡ true → (settled to kind).kind ≡ k.Faulty
settled_faulty k.Faulty to is = refl
settled_faulty (k.Untyped f) to is = if_faulty f.is_faulty (settled_untyped to f (number (base_of to))) is
settled_faulty (k.Known x) to is = absurd cc

untyped_free : (free : Bool) (H : Has) (kind : Kind) → Means free H kind → is_untyped_kind kind ≡ true → free ≡ true
untyped_free free H k.Faulty h is = absurd cc
untyped_free free H (k.Untyped f) h is = h.0
untyped_free free H (k.Known x) h is = absurd cc

typed_free : (free : Bool) (H : Has) (kind : Kind) → Means free H kind → is_untyped_kind kind ≡ false → Knows (λ x. free ≡ false) (settled int kind).kind
typed_free free H k.Faulty h is = tt
typed_free free H (k.Untyped f) h is = absurd cc
typed_free free H (k.Known x) h is = h.0

single_step : (free : Bool) (H : Has) (kind : Kind) → Means free H kind → Reads free (Alone_of free H) (Taken H) (Beside H) (term_step (Term-F.Single kind))
single_step free H kind h = record {
  by_itself = settles_alone free H kind h;
  settles = λ to. knows_as (Settles to free H) (λ x. fits to x.of ≡ true → Taken H to x.of x.value) (settled to kind).kind (λ x g is. (g.0, is)) (settles to free H kind h);
  plain = settles_alone free H kind h;
  beside = λ other. means_as free H (Beside H) kind (λ of value g. inl g) h;
  untyped = untyped_free free H kind h;
  typed = typed_free free H kind h;
  faulty = λ is. (settled_faulty kind int is, λ to. ap is_faulty (settled_faulty kind to is));
}

pub single_reads : (free : Bool) (H : Has) (kind : Kind) → Means free H kind → Reads free (Alone_of free H) (Taken H) (Beside H) (judged (v.Single kind))
single_reads free H kind h = subst (Reads free (Alone_of free H) (Taken H) (Beside H)) (sym (judged_single kind)) (single_step free H kind h)

-- where a type is wanted it fits it, for all operands alike
pub wanted_step : (T : OccType → Has) (to : OccType) (kind : Kind) → Knows (λ x. fits to x.of ≡ true → T to x.of x.value) kind → Knows (λ x. T to x.of x.value) (fitted to kind).kind
wanted_step T to k.Faulty h = tt
wanted_step T to (k.Untyped f) h = tt
wanted_step T to (k.Known x) h = knows_chosen (λ y. T to y.of y.value) (fits to x.of) (record { faults = []; kind = k.Known x }) code.T2 (λ is. h is)

-- ---- items

abbrev pub ItemReads : Scope → Expr → Judged → Type 0
ItemReads s e j = Reads (is_free e) (StandsAlone s e) (Takes s e) (Beside (HasType s e)) j

abbrev pub AllRead : Scope → List Expr → List Judged → Type 0
AllRead s [] [] = Unit {0}
AllRead s [] (j ∷ js) = ⊥
AllRead s (e ∷ es) [] = ⊥
AllRead s (e ∷ es) (j ∷ js) = ItemReads s e j × AllRead s es js

abbrev Typed : Scope → OccType → Expr → Known → Type 0
Typed s to e x = Takes s e to x.of x.value

abbrev AllKnow : Scope → OccType → List Expr → List Kind → Type 0
AllKnow s to [] [] = Unit {0}
AllKnow s to [] (x ∷ xs) = ⊥
AllKnow s to (e ∷ es) [] = ⊥
AllKnow s to (e ∷ es) (x ∷ xs) = Knows (Typed s to e) x × AllKnow s to es xs

all_fitted : (s : Scope) (es : List Expr) (js : List Judged) (of : OccType) → AllRead s es js → AllKnow s of es (kinds (map (fitted_to of) (map (settled_under of) js)))
all_fitted s [] [] of h = tt
all_fitted s [] (j ∷ js) of h = absurd h
all_fitted s (e ∷ es) [] of h = absurd h
all_fitted s (e ∷ es) (j ∷ js) of h = (wanted_step (Takes s e) of (j.settled of).kind (h.0.settles of), all_fitted s es js of h.1)

-- an item that is faulty by the type that is wanted leaves the table faulty, where it stands
own_faulty : (outside own : Bool) (y : Settled) (j : Judged) → y.is_faulty ≡ true → (outside ≡ false → own ≡ false) → is_faulty (own_or_alone outside own y j).kind ≡ true
own_faulty true own y j is g = ap (λ (b : Bool). is_faulty (chosen (b || j.is_untyped) (record { faults = y.faults; kind = k.Faulty }) j.alone).kind) is
own_faulty false own y j is g =
    ap (λ (b : Bool). is_faulty (chosen (y.is_faulty && not b) (record { faults = y.faults; kind = k.Faulty }) j.alone).kind) (g refl)
    ∙ ap (λ (c : Bool). is_faulty (chosen (c && true) (record { faults = y.faults; kind = k.Faulty }) j.alone).kind) is

-- and one that is faulty by itself does where all are judged alone
alone_faulty : (y : Settled) (j : Judged) → j.alone.kind ≡ k.Faulty → is_faulty (own_or_alone false true y j).kind ≡ true
alone_faulty y j h = none_both y.is_faulty ∙ ap is_faulty h where
  none_both : (c : Bool) → is_faulty (chosen (c && not true) (record { faults = y.faults; kind = k.Faulty }) j.alone).kind ≡ is_faulty j.alone.kind
  none_both true = refl
  none_both false = refl

or_true : (a b : Bool) → a ≡ true → (a || b) ≡ true
or_true true b h = refl
or_true false b h = absurd cc

or_last : (a b : Bool) → b ≡ true → (a || b) ≡ true
or_last true b h = refl
or_last false b h = h

either_true : (a b : Bool) → (a || b) ≡ true → (a ≡ true) ⊎ (b ≡ true)
either_true true b h = inl refl
either_true false b h = inr h

any_own : (s : Scope) (es : List Expr) (js : List Judged) (outside own : Bool) (of : OccType) → AllRead s es js → (outside ≡ false → own ≡ false) → list_any is_faulty_settled (map (settled_under of) js) ≡ true
    → list_any is_faulty (kinds (each_own_or_alone outside own (map (settled_under of) js) js)) ≡ true
any_own s [] [] outside own of h g is = is
any_own s [] (j ∷ js) outside own of h g is = absurd h
any_own s (e ∷ es) [] outside own of h g is = absurd h
any_own s (e ∷ es) (j ∷ js) outside own of h g is =
    let tail = list_any is_faulty (kinds (each_own_or_alone outside own (map (settled_under of) js) js)) in
    elim (either_true (j.settled of).is_faulty (list_any is_faulty_settled (map (settled_under of) js)) is) [
      | inl here ↦ or_true (is_faulty (own_or_alone outside own (j.settled of) j).kind) tail (own_faulty outside own (j.settled of) j here g)
      | inr there ↦ or_last (is_faulty (own_or_alone outside own (j.settled of) j).kind) tail (any_own s es js outside own of h.1 g there)
    ]

any_alone : (s : Scope) (es : List Expr) (js : List Judged) (of : OccType) → AllRead s es js → list_any has_fault js ≡ true
    → list_any is_faulty (kinds (each_own_or_alone false true (map (settled_under of) js) js)) ≡ true
any_alone s [] [] of h is = is
any_alone s [] (j ∷ js) of h is = absurd h
any_alone s (e ∷ es) [] of h is = absurd h
any_alone s (e ∷ es) (j ∷ js) of h is =
    let tail = list_any is_faulty (kinds (each_own_or_alone false true (map (settled_under of) js) js)) in
    elim (either_true j.is_faulty (list_any has_fault js) is) [
      | inl here ↦ or_true (is_faulty (own_or_alone false true (j.settled of) j).kind) tail (alone_faulty (j.settled of) j (h.0.faulty here).0)
      | inr there ↦ or_last (is_faulty (own_or_alone false true (j.settled of) j).kind) tail (any_alone s es js of h.1 there)
    ]

any_told : (s : Scope) (es : List Expr) (js : List Judged) (outside own : Bool) (of : OccType) → AllRead s es js → list_any has_fault js ≡ own → list_any is_faulty_settled (map (settled_under of) js) ≡ true
    → list_any is_faulty (kinds (each_own_or_alone outside own (map (settled_under of) js) js)) ≡ true
any_told s es js true own of h at is = any_own s es js true own of h (λ (e : true ≡ false). absurd cc) is
any_told s es js false false of h at is = any_own s es js false false of h (λ (e : false ≡ false). refl) is
any_told s es js false true of h at is = any_alone s es js of h at

abbrev pub findings_if : Bool → List Finding → List Finding → List Finding
findings_if b xs ys = if b then xs else ys

know_if : (s : Scope) (to : OccType) (es : List Expr) (b : Bool) (xs ys : List Finding) → (b ≡ true → list_any is_faulty (kinds xs) ≡ true) → AllKnow s to es (kinds ys)
    → list_any is_faulty (kinds (findings_if b xs ys)) ≡ false → AllKnow s to es (kinds (findings_if b xs ys))
know_if s to es true xs ys h g sound = absurd cc (h refl, sound)
know_if s to es false xs ys h g sound = g

-- what is wanted of items of which none is faulty, they take
each_known : (s : Scope) (es : List Expr) (js : List Judged) (outside : Bool) (of : OccType) → AllRead s es js → list_any is_faulty (kinds (each_under outside of js)) ≡ false → AllKnow s of es (kinds (each_under outside of js))
each_known s es js outside of h sound =
    know_if s of es (list_any is_faulty_settled (map (settled_under of) js)) (each_own_or_alone outside (list_any has_fault js) (map (settled_under of) js) js) (map (fitted_to of) (map (settled_under of) js))
    (any_told s es js outside (list_any has_fault js) of h refl) (all_fitted s es js of h) sound

-- ---- the type of a table

abbrev pub types_in : List Kind → List OccType
types_in [] = []
types_in (k.Faulty ∷ ks) = types_in ks
types_in (k.Untyped f ∷ ks) = types_in ks
types_in (k.Known x ∷ ks) = x.of ∷ types_in ks

none_merged : (ks : List Kind) → merged_all None ks ≡ None
none_merged [] = refl
none_merged (x ∷ ks) = none_merged ks

none_with : (us : List OccType) → merged_with None us ≡ None
none_with [] = refl
none_with (u ∷ us) = refl

pub same_merged : (o : Option OccType) (ks : List Kind) → merged_all o ks ≡ merged_with o (types_in ks)
same_merged o [] = refl
same_merged None (x ∷ ks) = none_merged ks ∙ sym (none_with (types_in (x ∷ ks)))
same_merged (Some of) (k.Faulty ∷ ks) = same_merged (Some of) ks
same_merged (Some of) (k.Untyped f ∷ ks) = same_merged (Some of) ks
same_merged (Some of) (k.Known x ∷ ks) = same_merged (merged of x.of) ks

all_typed : (s : Scope) (to : OccType) (es : List Expr) (ks : List Kind) → AllKnow s to es ks → list_any is_faulty ks ≡ false → AreItems s es to (types_in ks)
all_typed s to [] [] h sound = has.no_item to
all_typed s to [] (x ∷ ks) h sound = absurd h
all_typed s to (e ∷ es) [] h sound = absurd h
all_typed s to (e ∷ es) (k.Faulty ∷ ks) h sound = absurd cc
all_typed s to (e ∷ es) (k.Untyped f ∷ ks) h sound = absurd h.0
all_typed s to (e ∷ es) (k.Known x ∷ ks) h sound = has.one_item e es to x.of x.value (types_in ks) h.0 (all_typed s to es ks h.1 sound)

same_length : (s : Scope) (to : OccType) (es : List Expr) (ks : List Kind) → AllKnow s to es ks → length ks ≡ length es
same_length s to [] [] h = refl
same_length s to [] (x ∷ ks) h = absurd h
same_length s to (e ∷ es) [] h = absurd h
same_length s to (e ∷ es) (x ∷ ks) h = ap suc (same_length s to es ks h.1)

-- the first type, and the others with it
first_agreed : (s : Scope) (to : OccType) (e : Expr) (es : List Expr) (of : OccType) (ks : List Kind) → AllKnow s to (e ∷ es) ks → list_any is_faulty ks ≡ false → merged_all (Some (first_type of ks)) ks ≡ agreed (types_in ks)
first_agreed s to e es of [] h sound = absurd h
first_agreed s to e es of (k.Faulty ∷ ks) h sound = absurd cc
first_agreed s to e es of (k.Untyped f ∷ ks) h sound = absurd h.0
first_agreed s to e es of (k.Known x ∷ ks) h sound = same_merged (Some x.of) (k.Known x ∷ ks)

abbrev pub IsTableKnown : Scope → List Expr → OccType → Known → Type 0
IsTableKnown s es to x = IsTable s es to x.of × (x.value ≡ None)

table_made : (s : Scope) (to : OccType) (es : List Expr) (types : List OccType) (n : ℕ) (o : Option OccType) → AreItems s es to types → n ≡ length es → o ≡ agreed types → Knows (IsTableKnown s es to) (table_type n o).kind
table_made s to es types n None h at is = tt
table_made s to es types n (Some of) h at is =
    knows_chosen (IsTableKnown s es to) (is_data of) (so_many n of) code.T2
    (λ data_in. knows_chosen (IsTableKnown s es to) (nat_le n 4294967295) (arrayed (Some n) of) code.T9
    (λ few. knows_otherwise (IsTableKnown s es to) (is_too_large (t.Array (Some n) of)) (record { faults = []; kind = known (t.Array (Some n) of) None }) code.T9
    (λ small. (
      subst (λ (m : ℕ). IsTable s es to (t.Array (Some m) of)) (sym at)
          (has.table_of es to types of h (sym is) (record {
            data_inside = data_in;
            counted = subst (λ (m : ℕ). nat_le m 4294967295 ≡ true) at few;
            small = subst (λ (m : ℕ). is_too_large (t.Array (Some m) of) ≡ false) at small;
          })),
      refl,
    ))))

joined_known : (s : Scope) (e : Expr) (es : List Expr) (of : OccType) (xs : List Finding) → (list_any is_faulty (kinds xs) ≡ false → AllKnow s of (e ∷ es) (kinds xs)) → Knows (IsTableKnown s (e ∷ es) of) (joined of xs).kind
joined_known s e es of xs h =
    let ks = kinds xs in
    knows_unless (IsTableKnown s (e ∷ es) of) (list_any is_faulty ks) (items_type of ks)
    (λ sound. table_made s of (e ∷ es) (types_in ks) (length ks) (merged_all (Some (first_type of ks)) ks) (all_typed s of (e ∷ es) ks (h sound) sound) (same_length s of (e ∷ es) ks (h sound)) (first_agreed s of e es of ks (h sound) sound))

-- the first item that is not free
first_if : (s : Scope) (e : Expr) (es : List Expr) (j : Judged) (rest : Finding) (b : Bool) → j.is_untyped ≡ b → ItemReads s e j → Knows (λ x. IsFirst s es x.of) rest.kind → Knows (λ x. IsFirst s (e ∷ es) x.of) (chosen b rest j.alone).kind
first_if s e es j rest true is h g = knows_as (λ x. IsFirst s es x.of) (λ x. IsFirst s (e ∷ es) x.of) rest.kind (λ x i. has.free_first e es x.of (h.untyped is) i) g
first_if s e es j rest false is h g = both j.alone.kind h.by_itself (h.typed is) where
  both : (kind : Kind) → Knows (λ x. StandsAlone s e x.of x.value) kind → Knows (λ x. is_free e ≡ false) kind → Knows (λ x. IsFirst s (e ∷ es) x.of) kind
  both k.Faulty a b = tt
  both (k.Untyped f) a b = a
  both (k.Known x) a b = has.typed_first e es x.of x.value b a

first_known : (s : Scope) (es : List Expr) (js : List Judged) → AllRead s es js → Knows (λ x. IsFirst s es x.of) (first_settled js).kind
first_known s [] [] h = has.none_first
first_known s [] (j ∷ js) h = absurd h
first_known s (e ∷ es) [] h = absurd h
first_known s (e ∷ es) (j ∷ js) h = first_if s e es j (first_settled js) j.is_untyped refl h.0 (first_known s es js h.1)

abbrev pub IsAloneKnown : Scope → List Expr → Known → Type 0
IsAloneKnown s es x = IsTableAlone s es x.of × (x.value ≡ None)

after_known : (s : Scope) (e : Expr) (es : List Expr) (js : List Judged) (first : Kind) → AllRead s (e ∷ es) js → Knows (λ x. IsFirst s (e ∷ es) x.of) first → Knows (IsAloneKnown s (e ∷ es)) (after_first js first).kind
after_known s e es js k.Faulty h g = tt
after_known s e es js (k.Untyped f) h g = tt
after_known s e es js (k.Known x) h g =
    knows_as (IsTableKnown s (e ∷ es) x.of) (IsAloneKnown s (e ∷ es)) (joined x.of (each_under false x.of js)).kind (λ y i. (has.table_of_first (e ∷ es) x.of y.of g i.0, i.1))
    (joined_known s e es x.of (each_under false x.of js) (each_known s (e ∷ es) js false x.of h))

pub alone_known : (s : Scope) (e : Expr) (es : List Expr) (js : List Judged) → AllRead s (e ∷ es) js → Knows (IsAloneKnown s (e ∷ es)) (table_alone js).kind
alone_known s e es js h = after_known s e es js (first_settled js).kind h (first_known s (e ∷ es) js h)

-- a table is an array without a name
array_base : (s : Scope) (es : List Expr) (to of : OccType) → IsTable s es to of → (base_of of ≡ None) × ((wanted : OccType) → as_array wanted ≡ None → fits wanted of ≡ true → ⊥)
array_base s _ _ _ (has.table_of es to types of h is small) = (
  ap as_primitive (unnamed_of_array (Some (length es)) of) ∙ as_primitive_at_array (Some (length es)) of,
  λ wanted none fit. never_array wanted (Some (length es)) of none fit,
)

alone_base : (s : Scope) (es : List Expr) (of : OccType) → IsTableAlone s es of → (base_of of ≡ None) × ((wanted : OccType) → as_array wanted ≡ None → fits wanted of ≡ true → ⊥)
alone_base s _ _ (has.table_of_first es to of first h) = array_base s es to of h

-- the types that a table of these items has
abbrev pub TableAlone : Scope → List Expr → Has
TableAlone s es of value = IsTableAlone s es of × (value ≡ None)

abbrev pub TableTaken : Scope → List Expr → OccType → Has
TableTaken s es to of value = (parts : Option ℕ × OccType) × (as_array to ≡ Some parts) × IsTable s es parts.1 of × (fits to of ≡ true) × (value ≡ None)

abbrev pub NoPrimitive : Has
NoPrimitive of value = base_of of ≡ None

settled_known : (s : Scope) (e : Expr) (es : List Expr) (js : List Judged) (to : OccType) (parts : Option (Option ℕ × OccType)) → as_array to ≡ parts → AllRead s (e ∷ es) js
    → Knows (λ x. fits to x.of ≡ true → TableTaken s (e ∷ es) to x.of x.value) (table_of js parts).kind
settled_known s e es js to None is h =
    knows_as (IsAloneKnown s (e ∷ es)) (λ x. fits to x.of ≡ true → TableTaken s (e ∷ es) to x.of x.value) (table_alone js).kind (λ x g fit. absurd ((alone_base s (e ∷ es) x.of g.0).1 to is fit)) (alone_known s e es js h)
settled_known s e es js to (Some parts) is h =
    knows_as (IsTableKnown s (e ∷ es) parts.1) (λ x. fits to x.of ≡ true → TableTaken s (e ∷ es) to x.of x.value) (joined parts.1 (each_under true parts.1 js)).kind (λ x g fit. (parts, is, g.0, fit, g.1))
    (joined_known s e es parts.1 (each_under true parts.1 js) (each_known s (e ∷ es) js true parts.1 h))

pub typed_means : (H : Has) (kind : Kind) → Knows (λ x. H x.of x.value) kind → Means false H kind
typed_means H k.Faulty h = tt
typed_means H (k.Untyped f) h = absurd h
typed_means H (k.Known x) h = (refl, h)

beside_known : (H : Has) (b : Bool) (x y : Finding) → x.kind ≡ y.kind → Knows (λ z. H z.of z.value) y.kind → Means false H (chosen b x y).kind
beside_known H true x y is h = typed_means H x.kind (subst (Knows (λ z. H z.of z.value)) (sym is) h)
beside_known H false x y is h = typed_means H y.kind h

settled_so : (A : Has) (kind : Kind) → Knows (λ x. A x.of x.value) kind → Knows (λ x. A x.of x.value) (settled int kind).kind
settled_so A k.Faulty h = tt
settled_so A (k.Untyped f) h = absurd h
settled_so A (k.Known x) h = h

-- a faulty item leaves the table faulty
any_settled : (s : Scope) (es : List Expr) (js : List Judged) (of : OccType) → AllRead s es js → list_any has_fault js ≡ true → list_any is_faulty_settled (map (settled_under of) js) ≡ true
any_settled s [] [] of h is = is
any_settled s [] (j ∷ js) of h is = absurd h
any_settled s (e ∷ es) [] of h is = absurd h
any_settled s (e ∷ es) (j ∷ js) of h is = elim (either_true j.is_faulty (list_any has_fault js) is) [
  | inl here ↦ or_true (j.settled of).is_faulty (list_any is_faulty_settled (map (settled_under of) js)) ((h.0.faulty here).1 of)
  | inr there ↦ or_last (j.settled of).is_faulty (list_any is_faulty_settled (map (settled_under of) js)) (any_settled s es js of h.1 there)
]

each_if : (b outside own : Bool) (of : OccType) (js : List Judged) → b ≡ true → list_any is_faulty (kinds (each_own_or_alone outside own (map (settled_under of) js) js)) ≡ true
    → list_any is_faulty (kinds (findings_if b (each_own_or_alone outside own (map (settled_under of) js) js) (map (fitted_to of) (map (settled_under of) js)))) ≡ true
each_if true outside own of js is h = h
each_if false outside own of js is h = absurd cc

unless_any : (b : Bool) (x : Finding) → b ≡ true → (chosen b silent x).kind ≡ k.Faulty
unless_any true x is = refl
unless_any false x is = absurd cc

after_faulty : (s : Scope) (es : List Expr) (js : List Judged) (first : Kind) → AllRead s es js → list_any has_fault js ≡ true → (after_first js first).kind ≡ k.Faulty
after_faulty s es js k.Faulty h is = refl
after_faulty s es js (k.Untyped f) h is = refl
after_faulty s es js (k.Known x) h is =
    let any = any_settled s es js x.of h is in
    let ks = kinds (each_under false x.of js) in
    unless_any (list_any is_faulty ks) (items_type x.of ks) (each_if (list_any is_faulty_settled (map (settled_under x.of) js)) false (list_any has_fault js) x.of js any (any_told s es js false (list_any has_fault js) x.of h refl any))

table_faulty : (s : Scope) (es : List Expr) (js : List Judged) (parts : Option (Option ℕ × OccType)) → AllRead s es js → list_any has_fault js ≡ true → (table_of js parts).is_faulty ≡ true
table_faulty s es js None h is = ap is_faulty (after_faulty s es js (first_settled js).kind h is)
table_faulty s es js (Some parts) h is = any_settled s es js parts.1 h is

table_step : (s : Scope) (e : Expr) (es : List Expr) (js : List Judged) → AllRead s (e ∷ es) js → Reads false (TableAlone s (e ∷ es)) (TableTaken s (e ∷ es)) NoPrimitive (term_step (Term-F.Table js))
table_step s e es js h = record {
  by_itself = alone_known s e es js h;
  settles = λ to. settled_known s e es js to (as_array to) refl h;
  plain = settled_so (TableAlone s (e ∷ es)) (table_alone js).kind (alone_known s e es js h);
  beside = λ other. beside_known NoPrimitive other _ (table_alone js) refl (knows_as (IsAloneKnown s (e ∷ es)) (λ x. base_of x.of ≡ None) (table_alone js).kind (λ x g. (alone_base s (e ∷ es) x.of g.0).0) (alone_known s e es js h));
  untyped = λ is. absurd cc;
  typed = λ is. knows_as (IsAloneKnown s (e ∷ es)) (λ x. false ≡ false) (table_alone js).kind (λ x g. refl) (alone_known s e es js h);
  faulty = λ is. (after_faulty s (e ∷ es) js (first_settled js).kind h is, λ to. table_faulty s (e ∷ es) js (as_array to) h is);
}

pub table_reads : (s : Scope) (e : Expr) (es : List Expr) (xs : List Term) → AllRead s (e ∷ es) (judged_all xs) → Reads false (TableAlone s (e ∷ es)) (TableTaken s (e ∷ es)) NoPrimitive (judged (v.Table xs))
table_reads s e es xs h = subst (Reads false (TableAlone s (e ∷ es)) (TableTaken s (e ∷ es)) NoPrimitive) (sym (judged_table xs)) (table_step s e es (judged_all xs) h)

-- of each operand: it is settled, and then it has to fit
under_layer : (x : Term-F Term) (to : OccType) → ((judged (roll-Term x)).under to).kind ≡ (fitted to ((judged (roll-Term x)).settled to).kind).kind
under_layer (Term-F.Single kind) to = subst (λ (j : Judged). (j.under to).kind ≡ (fitted to (j.settled to).kind).kind) (sym (ap judged (v.rolls-Single kind) ∙ judged_single kind)) refl
under_layer (Term-F.Table xs) to = subst (λ (j : Judged). (j.under to).kind ≡ (fitted to (j.settled to).kind).kind) (sym (ap judged (v.rolls-Table xs) ∙ judged_table xs)) refl

under_is : (x : Term) (to : OccType) → ((judged x).under to).kind ≡ (fitted to ((judged x).settled to).kind).kind
under_is x to = subst (λ (z : Term). ((judged z).under to).kind ≡ (fitted to ((judged z).settled to).kind).kind) (roll-out-Term x) (under_layer (out-Term x) to)

-- where a type is wanted
pub under_reads : (free : Bool) (A : Has) (T : OccType → Has) (B : Has) (x : Term) (to : OccType) → Reads free A T B (judged x) → Knows (λ y. T to y.of y.value) ((judged x).under to).kind
under_reads free A T B x to h = subst (Knows (λ y. T to y.of y.value)) (sym (under_is x to)) (wanted_step T to ((judged x).settled to).kind (h.settles to))

-- ---- with its type after it

all_of : (s : Scope) (es : List Expr) (of : OccType) (ks : List Kind) → AllKnow s of es ks → list_any is_faulty ks ≡ false → AreAll s es of
all_of s [] of [] h sound = has.no_component of
all_of s [] of (x ∷ ks) h sound = absurd h
all_of s (e ∷ es) of [] h sound = absurd h
all_of s (e ∷ es) of (k.Faulty ∷ ks) h sound = absurd cc
all_of s (e ∷ es) of (k.Untyped f ∷ ks) h sound = absurd h.0
all_of s (e ∷ es) of (k.Known x ∷ ks) h sound = has.one_component e es of x.of x.value h.0 (all_of s es of ks h.1 sound)

-- what is known of a table with its type
abbrev pub Decorates : Scope → List Expr → OccType → Known → Type 0
Decorates s es to x = (x.of ≡ to) × (x.value ≡ None) × IsTableOf s es to

pub array_known : (s : Scope) (es : List Expr) (js : List Judged) (to : OccType) (parts : Option ℕ × OccType) → as_array (unnamed to) ≡ Some parts → AllRead s es js → Knows (Decorates s es to) (of_array to parts.0 parts.1 js).kind
array_known s es js to parts is h =
    let ys = each_under true parts.1 js in
    let ks = kinds ys in
    knows_unless (Decorates s es to) (list_any is_faulty ks) (of_count to parts.0 (length ks))
    (λ sound.
    let fit = each_known s es js true parts.1 h sound in
    knows_chosen (Decorates s es to) (counts_fit parts.0 (Some (length ks))) (whole to) code.T2
    (λ count. (refl, refl, has.components es to parts is (all_of s es parts.1 ks fit sound) (subst (λ (m : ℕ). counts_fit parts.0 (Some m) ≡ true) (same_length s parts.1 es ks fit) count))))

abbrev OfField : Scope → Expr → Field → Known → Type 0
OfField s e f z = (is_unknown f.of ≡ false) × Takes s e f.of z.of z.value

field_if : (s : Scope) (e : Expr) (f : Field) (b : Bool) (x y : Finding) → is_unknown f.of ≡ b → x.kind ≡ k.Faulty → Knows (λ z. Takes s e f.of z.of z.value) y.kind → Knows (OfField s e f) (chosen b x y).kind
field_if s e f true x y is at h = subst (Knows (OfField s e f)) (sym at) tt
field_if s e f false x y is at h = knows_as (λ z. Takes s e f.of z.of z.value) (OfField s e f) y.kind (λ z g. (is, g)) h

pub fields_of : (s : Scope) (es : List Expr) (xs : List Term) (fs : List Field) → length fs ≡ length (judged_all xs) → AllRead s es (judged_all xs) → list_any is_faulty (kinds (field_values fs (judged_all xs))) ≡ false → AreFields s es fs
fields_of s [] [] [] at h sound = has.no_field
fields_of s [] [] (f ∷ fs) at h sound = absurd cc
fields_of s [] (x ∷ xs) fs at h sound = absurd h
fields_of s (e ∷ es) [] fs at h sound = absurd h
fields_of s (e ∷ es) (x ∷ xs) [] at h sound = absurd cc
fields_of s (e ∷ es) (x ∷ xs) (f ∷ fs) at h sound =
    let j = judged x in
    let both = neither_true (is_faulty (field_value f j).kind) (list_any is_faulty (kinds (field_values fs (judged_all xs)))) sound in
    by (field_value f j).kind (field_if s e f (is_unknown f.of) (record { faults = j.hidden.faults; kind = k.Faulty }) (j.under f.of) refl refl (under_reads (is_free e) (StandsAlone s e) (Takes s e) (Beside (HasType s e)) x f.of h.0)) both.0
    (fields_of s es xs fs (cc (at)) h.1 both.1)
  where
    by : (kind : Kind) → Knows (OfField s e f) kind → is_faulty kind ≡ false → AreFields s es fs → AreFields s (e ∷ es) (f ∷ fs)
    by k.Faulty g fine below = absurd cc
    by (k.Untyped u) g fine below = absurd g
    by (k.Known y) g fine below = has.one_field e es f fs y.of y.value g.0 g.1 below

-- ---- under another name

pub reads_as : (free : Bool) (A C : Has) (T U : OccType → Has) (B D : Has) (j : Judged) → ((of : OccType) (value : Option Value) → A of value → C of value)
    → ((to of : OccType) (value : Option Value) → T to of value → U to of value) → ((of : OccType) (value : Option Value) → B of value → D of value) → Reads free A T B j → Reads free C U D j
reads_as free A C T U B D j alone taken beside h = record {
  by_itself = knows_as (λ x. A x.of x.value) (λ x. C x.of x.value) j.alone.kind (λ x g. alone x.of x.value g) h.by_itself;
  settles = λ to. knows_as (λ x. fits to x.of ≡ true → T to x.of x.value) (λ x. fits to x.of ≡ true → U to x.of x.value) (j.settled to).kind (λ x g fit. taken to x.of x.value (g fit)) (h.settles to);
  plain = knows_as (λ x. A x.of x.value) (λ x. C x.of x.value) (settled int (j.beside false).kind).kind (λ x g. alone x.of x.value g) h.plain;
  beside = λ other. means_as free B D (j.beside other).kind beside (h.beside other);
  untyped = h.untyped;
  typed = h.typed;
  faulty = h.faulty;
}

pub reads_free : (a b : Bool) (A : Has) (T : OccType → Has) (B : Has) (j : Judged) → a ≡ b → Reads b A T B j → Reads a A T B j
reads_free a b A T B j is h = subst (λ (c : Bool). Reads c A T B j) (sym is) h

-- ---- where an INT is wanted

takes_where : (s : Scope) (e : Expr) (to of : OccType) (value : Option Value) → to ≡ int → Takes s e to of value → HasType s e int value
takes_where s _ _ _ _ is (has.fitting e to of value g fit) =
    subst (λ (z : OccType). HasType s e z value) (sym (first_same int of p.Int int_base (ap (λ (z : OccType). fits z of) (sym is) ∙ fit))) g
takes_where s _ _ _ _ is (has.table_taking e es to of parts t_ at g fit) = let none = ap as_array is ∙ as_array_at_primitive p.Int in cc (none, at)

pub takes_int : (s : Scope) (e : Expr) (of : OccType) (value : Option Value) → Takes s e int of value → HasType s e int value
takes_int s e of value h = takes_where s e int of value refl h

pub int_place : (s : Scope) (e : Expr) (x : Known) → Beside (HasType s e) x.of x.value × (fits int x.of ≡ true) → HasType s e int x.value
int_place s e x h = by h.0 where
  same : int ≡ x.of
  same = first_same int x.of p.Int int_base h.1

  by : Beside (HasType s e) x.of x.value → HasType s e int x.value
  by (inl g) = subst (λ (z : OccType). HasType s e z x.value) (sym same) g
  by (inr none) = cc (ap base_of same, none, int_base)
