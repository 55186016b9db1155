-- What does not name a specification is the same in scopes that differ in its value alone.
use Rattle.std.proofs.Common.{◌≡◌, ◌∙◌, ◌||◌, ◌==◌, ◌++◌, ℕ, zero, suc, ℤ, pos, Bool, true, false, Option, Some, None, List, [], ◌∷◌, length, slice_get, refl, ap, ap₂, sym, arith}
use Rattle.occ_scope.specs.declared.meaning.Referent.{Referent}
use Rattle.occ_typing_operands.specs.declared.kind.Known.{Known}
use Rattle.occ_types.specs.declared.constant.Monadic.{Monadic}
use Rattle.occ_types.specs.declared.constant.Operator.{Operator}
use Rattle.occ_types.specs.declared.interface.UseKind.TheVariants as kind
use Rattle.occ_types.specs.declared.value.Value.{Value}
use Rattle.occ_project.specs.declared.expanded.Location.{Location}
use Rattle.occ_typing_rules.specs.declared.expr.Selector.TheOpen.{Selector-F, TypedActual-F, TypedElement-F, TypedExpr-F}
use Rattle.occ_usage_parts.specs.Selecting.{with_segment, with_subscript}
use Rattle.occ_usage_parts.specs.declared.place.SelectedPart.{SelectedPart}
use Rattle.occ_usage_values.specs.Bounds.{Env, body_of, effect_of, place_of, size_of, value_of}
use Rattle.occ_usage_values.specs.Calls.{called_all, made}
use Rattle.occ_usage_values.specs.Differing.{DifferAt, IsSame}
use Rattle.occ_usage_values.specs.Values.{both, converted_to, folded_after, int_of, known_or, less, one, size_value, whole}
use Rattle.occ_usage_values.specs.Views.{ActualView, ElementView, ExprView, SelectorView, actual_step, actuals_calls, actuals_effect, actuals_uses, around, call_at, call_calls, call_effect, call_uses, called_uses, composed, each_calls, each_effect, each_uses, element_step, expr_step, folded_all, name_value, placed, placed_from, places_of, selector_step, selectors_calls, selectors_effect, selectors_uses, sized, values_of}
use Rattle.occ_usage_values.specs.declared.bound.Bound.{Bound}
use Rattle.occ_usage_values.specs.declared.bound.Bound.TheVariants as b
use Rattle.occ_usage_values.specs.Calls.{Call}
use Rattle.occ_usage_values.specs.declared.uses.Use.{Use}

-- ---- tests

pub left_false : (a c : Bool) → (a || c) ≡ false → a ≡ false
left_false true c h = h
left_false false c h = refl

pub right_false : (a c : Bool) → (a || c) ≡ false → c ≡ false
right_false true c h = cc
right_false false c h = h

-- ---- what is found in scope

get_at : (before after : Env) (x : Bound) → slice_get (before ++ x ∷ after) (length before) ≡ Some x
get_at [] after x = refl
get_at (y ∷ ys) after x = get_at ys after x

get_other : (before after : Env) (x y : Bound) (k : ℕ) → (k == length before) ≡ false → slice_get (before ++ x ∷ after) k ≡ slice_get (before ++ y ∷ after) k
get_other [] after x y zero h = cc
get_other [] after x y (suc k) h = refl
get_other (z ∷ zs) after x y zero h = refl
get_other (z ∷ zs) after x y (suc k) h = get_other zs after x y k (grind (arith, h))

-- another specification
pub other_same : (d : ℕ) (e f : Env) → DifferAt d e f → (k : ℕ) → (k == d) ≡ false → slice_get e k ≡ slice_get f k
other_same d e f m k h =
    ap (λ (env : Env). slice_get env k) m.one
    ∙ get_other m.before m.after (b.Value m.v None []) (b.Value m.w None []) k (ap (λ (n : ℕ). k == n) (sym m.number) ∙ h)
    ∙ ap (λ (env : Env). slice_get env k) (sym m.other)

-- what does not look at values
pub found_same : {X : Type 0} (g : Option Bound → X) → ((v w : Option Value) → g (Some (b.Value v None [])) ≡ g (Some (b.Value w None [])))
    → (d : ℕ) (e f : Env) → DifferAt d e f → (k : ℕ) → g (slice_get e k) ≡ g (slice_get f k)
found_same g alike d e f m k = by_test (k == d) refl where
  by_test : (t : Bool) → (k == d) ≡ t → g (slice_get e k) ≡ g (slice_get f k)
  by_test false h = ap g (other_same d e f m k h)
  by_test true h =
      let is : k ≡ length m.before = grind (arith, h, m.number) in
      ap (λ (env : Env). g (slice_get env k)) m.one ∙ ap (λ (n : ℕ). g (slice_get (m.before ++ b.Value m.v None [] ∷ m.after) n)) is
      ∙ ap g (get_at m.before m.after (b.Value m.v None []))
      ∙ alike m.v m.w
      ∙ sym (ap g (get_at m.before m.after (b.Value m.w None [])))
      ∙ sym (ap (λ (n : ℕ). g (slice_get (m.before ++ b.Value m.w None [] ∷ m.after) n)) is)
      ∙ sym (ap (λ (env : Env). g (slice_get env k)) m.other)

size_same : (d : ℕ) (e f : Env) → DifferAt d e f → (k : ℕ) → size_of (slice_get e k) ≡ size_of (slice_get f k)
size_same = found_same size_of (λ v w. refl)

place_same : (n : ℕ) (d : ℕ) (e f : Env) → DifferAt d e f → (k : ℕ) → place_of n (slice_get e k) ≡ place_of n (slice_get f k)
place_same n = found_same (place_of n) (λ v w. refl)

body_same : (d : ℕ) (e f : Env) → DifferAt d e f → (k : ℕ) → body_of (slice_get e k) ≡ body_of (slice_get f k)
body_same = found_same body_of (λ v w. refl)

effect_same : (d : ℕ) (e f : Env) → DifferAt d e f → (k : ℕ) → effect_of (slice_get e k) ≡ effect_of (slice_get f k)
effect_same = found_same effect_of (λ v w. refl)

-- ---- views that are the same in both scopes

pub record ExprSame (d : ℕ) (x : ExprView) : Type 0 where
  pub value : IsSame d x.value
  pub size : IsSame d x.size
  pub uses : (line : Location) → IsSame d (λ env. x.uses env line)
  pub calls : (line : Location) → IsSame d (λ env. x.calls env line)
  pub effect : IsSame d x.effect

-- all but its value, and the number of its components
pub record ExprAlike (d : ℕ) (x : ExprView) : Type 0 where
  pub uses : (line : Location) → IsSame d (λ env. x.uses env line)
  pub calls : (line : Location) → IsSame d (λ env. x.calls env line)
  pub effect : IsSame d x.effect

pub record ElementSame (d : ℕ) (x : ElementView) : Type 0 where
  pub value : IsSame d x.value
  pub size : IsSame d x.size
  pub place : IsSame d x.place
  pub uses : (line : Location) → IsSame d (λ env. x.uses env line)
  pub calls : (line : Location) → IsSame d (λ env. x.calls env line)
  pub effect : IsSame d x.effect

-- all but its value
pub record ElementAlike (d : ℕ) (x : ElementView) : Type 0 where
  pub size : IsSame d x.size
  pub place : IsSame d x.place
  pub uses : (line : Location) → IsSame d (λ env. x.uses env line)
  pub calls : (line : Location) → IsSame d (λ env. x.calls env line)
  pub effect : IsSame d x.effect

pub record SelectorSame (d : ℕ) (x : SelectorView) : Type 0 where
  pub size : (n : Option ℤ) → IsSame d (λ env. x.size env n)
  pub place : (n : Option ℤ) (p : SelectedPart) → IsSame d (λ env. x.place env n p)
  pub uses : (line : Location) → IsSame d (λ env. x.uses env line)
  pub calls : (line : Location) → IsSame d (λ env. x.calls env line)
  pub effect : IsSame d x.effect

pub record ActualSame (d : ℕ) (x : ActualView) : Type 0 where
  pub place : IsSame d x.place
  pub uses : (line : Location) → IsSame d (λ env. x.uses env line)
  pub calls : (line : Location) → IsSame d (λ env. x.calls env line)
  pub effect : IsSame d x.effect

-- it holds of each
abbrev pub Every : {X : Type 0} → (X → Type 0) → List X → Type 0
Every P [] = Unit {0}
Every P (x ∷ xs) = P x × Every P xs

pub expr_alike : (d : ℕ) (x : ExprView) → ExprSame d x → ExprAlike d x
expr_alike d x s = record { uses = s.uses; calls = s.calls; effect = s.effect }

pub element_alike : (d : ℕ) (x : ElementView) → ElementSame d x → ElementAlike d x
element_alike d x s = record { size = s.size; place = s.place; uses = s.uses; calls = s.calls; effect = s.effect }

exprs_alike : (d : ℕ) (xs : List ExprView) → Every (ExprSame d) xs → Every (ExprAlike d) xs
exprs_alike d [] all = tt
exprs_alike d (x ∷ xs) all = (expr_alike d x all.0, exprs_alike d xs all.1)

-- ---- one after the other

pub each_uses_same : (d : ℕ) (xs : List ExprView) → Every (ExprAlike d) xs → (line : Location) → IsSame d (λ env. each_uses xs env line)
each_uses_same d [] all line e f m = refl
each_uses_same d (x ∷ xs) all line e f m = ap₂ (λ (us vs : List Use). us ++ vs) (all.0.uses line e f m) (each_uses_same d xs all.1 line e f m)

pub each_calls_same : (d : ℕ) (xs : List ExprView) → Every (ExprAlike d) xs → (line : Location) → IsSame d (λ env. each_calls xs env line)
each_calls_same d [] all line e f m = refl
each_calls_same d (x ∷ xs) all line e f m = ap₂ (λ (us vs : List Call). us ++ vs) (all.0.calls line e f m) (each_calls_same d xs all.1 line e f m)

pub each_effect_same : (d : ℕ) (xs : List ExprView) → Every (ExprAlike d) xs → IsSame d (each_effect xs)
each_effect_same d [] all e f m = refl
each_effect_same d (x ∷ xs) all e f m = ap₂ (λ (a c : Bool). a || c) (all.0.effect e f m) (each_effect_same d xs all.1 e f m)

selectors_uses_same : (d : ℕ) (xs : List SelectorView) → Every (SelectorSame d) xs → (line : Location) → IsSame d (λ env. selectors_uses xs env line)
selectors_uses_same d [] all line e f m = refl
selectors_uses_same d (x ∷ xs) all line e f m = ap₂ (λ (us vs : List Use). us ++ vs) (all.0.uses line e f m) (selectors_uses_same d xs all.1 line e f m)

selectors_calls_same : (d : ℕ) (xs : List SelectorView) → Every (SelectorSame d) xs → (line : Location) → IsSame d (λ env. selectors_calls xs env line)
selectors_calls_same d [] all line e f m = refl
selectors_calls_same d (x ∷ xs) all line e f m = ap₂ (λ (us vs : List Call). us ++ vs) (all.0.calls line e f m) (selectors_calls_same d xs all.1 line e f m)

selectors_effect_same : (d : ℕ) (xs : List SelectorView) → Every (SelectorSame d) xs → IsSame d (selectors_effect xs)
selectors_effect_same d [] all e f m = refl
selectors_effect_same d (x ∷ xs) all e f m = ap₂ (λ (a c : Bool). a || c) (all.0.effect e f m) (selectors_effect_same d xs all.1 e f m)

actuals_uses_same : (d : ℕ) (xs : List ActualView) → Every (ActualSame d) xs → (line : Location) → IsSame d (λ env. actuals_uses xs env line)
actuals_uses_same d [] all line e f m = refl
actuals_uses_same d (x ∷ xs) all line e f m = ap₂ (λ (us vs : List Use). us ++ vs) (all.0.uses line e f m) (actuals_uses_same d xs all.1 line e f m)

actuals_calls_same : (d : ℕ) (xs : List ActualView) → Every (ActualSame d) xs → (line : Location) → IsSame d (λ env. actuals_calls xs env line)
actuals_calls_same d [] all line e f m = refl
actuals_calls_same d (x ∷ xs) all line e f m = ap₂ (λ (us vs : List Call). us ++ vs) (all.0.calls line e f m) (actuals_calls_same d xs all.1 line e f m)

actuals_effect_same : (d : ℕ) (xs : List ActualView) → Every (ActualSame d) xs → IsSame d (actuals_effect xs)
actuals_effect_same d [] all e f m = refl
actuals_effect_same d (x ∷ xs) all e f m = ap₂ (λ (a c : Bool). a || c) (all.0.effect e f m) (actuals_effect_same d xs all.1 e f m)

places_same : (d : ℕ) (xs : List ActualView) → Every (ActualSame d) xs → IsSame d (places_of xs)
places_same d [] all e f m = refl
places_same d (x ∷ xs) all e f m = ap₂ (λ (p : Option SelectedPart) (ps : List (Option SelectedPart)). p ∷ ps) (all.0.place e f m) (places_same d xs all.1 e f m)

-- ---- calls

called_uses_same : (d callee : ℕ) (xs : List ActualView) → Every (ActualSame d) xs → (line : Location) → IsSame d (λ env. called_uses callee xs env line)
called_uses_same d callee xs all line e f m =
    ap₂ (λ (ps : List (Option SelectedPart)) (us : List Use). called_all line callee ps us) (places_same d xs all e f m) (body_same d e f m callee)

pub call_uses_same : (d callee : ℕ) (xs : List ActualView) → Every (ActualSame d) xs → (line : Location) → IsSame d (λ env. call_uses callee xs env line)
call_uses_same d callee xs all line e f m =
    ap₂ (λ (us vs : List Use). us ++ vs) (actuals_uses_same d xs all line e f m) (called_uses_same d callee xs all line e f m)

call_at_same : (d callee : ℕ) (xs : List ActualView) → Every (ActualSame d) xs → (line : Location) → IsSame d (λ env. call_at callee xs env line)
call_at_same d callee xs all line e f m =
    ap (λ (ps : List (Option SelectedPart)). call_of ps (actuals_uses xs e line) (called_uses callee xs e line)) (places_same d xs all e f m)
    ∙ ap₂ (λ (rs us : List Use). call_of (places_of xs f) rs us) (actuals_uses_same d xs all line e f m) (called_uses_same d callee xs all line e f m)
  where
    call_of : List (Option SelectedPart) → List Use → List Use → Call
    call_of ps rs us = record { callee = callee; places = ps; reads = rs; uses = us }

pub call_calls_same : (d callee : ℕ) (xs : List ActualView) → Every (ActualSame d) xs → (line : Location) → IsSame d (λ env. call_calls callee xs env line)
call_calls_same d callee xs all line e f m =
    ap₂ (λ (cs : List Call) (c : Call). cs ++ c ∷ []) (actuals_calls_same d xs all line e f m) (call_at_same d callee xs all line e f m)

pub call_effect_same : (d callee : ℕ) (xs : List ActualView) → Every (ActualSame d) xs → IsSame d (call_effect callee xs)
call_effect_same d callee xs all e f m = ap₂ (λ (a c : Bool). a || c) (actuals_effect_same d xs all e f m) (effect_same d e f m callee)

-- ---- elements

sized_same : (d : ℕ) (xs : List SelectorView) → Every (SelectorSame d) xs → (n : Option ℤ) → IsSame d (λ env. sized xs env n)
sized_same d [] all n e f m = refl
sized_same d (x ∷ xs) all n e f m =
    ap (λ (k : Option ℤ). sized xs e k) (all.0.size n e f m) ∙ sized_same d xs all.1 (x.size f n) e f m

placed_same : (d : ℕ) (xs : List SelectorView) → Every (SelectorSame d) xs → (n : Option ℤ) (p : SelectedPart) → IsSame d (λ env. placed xs env n p)
placed_same d [] all n p e f m = refl
placed_same d (x ∷ xs) all n p e f m =
    ap₂ (λ (k : Option ℤ) (q : SelectedPart). placed xs e k q) (all.0.size n e f m) (all.0.place n p e f m)
    ∙ placed_same d xs all.1 (x.size f n) (x.place f n p) e f m

placed_from_same : (d : ℕ) (xs : List SelectorView) → Every (SelectorSame d) xs → (n : Option ℤ) (p : Option SelectedPart) → IsSame d (λ env. placed_from xs env n p)
placed_from_same d xs all n None e f m = refl
placed_from_same d xs all n (Some p) e f m = ap (λ (q : SelectedPart). Some q) (placed_same d xs all n p e f m)

pub element_step_alike : (d : ℕ) (el : TypedElement-F SelectorView ActualView ExprView ElementView) → Every (SelectorSame d) el.selectors → ElementAlike d (element_step el)
element_step_alike d el all = record {
  size = λ e f m. ap (λ (n : Option ℤ). sized el.selectors e n) (size_same d e f m el.referent.spec) ∙ sized_same d el.selectors all (size_of (slice_get f el.referent.spec)) e f m;
  place = λ e f m.
      ap₂ (λ (n : Option ℤ) (p : Option SelectedPart). placed_from el.selectors e n p) (size_same d e f m el.referent.spec) (place_same el.referent.spec d e f m el.referent.spec)
      ∙ placed_from_same d el.selectors all (size_of (slice_get f el.referent.spec)) (place_of el.referent.spec (slice_get f el.referent.spec)) e f m;
  uses = selectors_uses_same d el.selectors all;
  calls = selectors_calls_same d el.selectors all;
  effect = selectors_effect_same d el.selectors all;
}

pub element_step_same : (d : ℕ) (el : TypedElement-F SelectorView ActualView ExprView ElementView) → (el.referent.spec == d) ≡ false → Every (SelectorSame d) el.selectors → ElementSame d (element_step el)
element_step_same d el other all =
    let x = element_step_alike d el all in
    record {
      value = λ e f m. ap (λ (b : Option Bound). known_or el.known.value (name_value el.selectors (value_of b))) (other_same d e f m el.referent.spec other);
      size = x.size;
      place = x.place;
      uses = x.uses;
      calls = x.calls;
      effect = x.effect;
    }

-- ---- selectors

pub field_same : (d k : ℕ) (name : List ℕ) → SelectorSame d (selector_step (Selector-F.Field k name))
field_same d k name = record { size = λ n e f m. refl; place = λ n p e f m. refl; uses = λ line e f m. refl; calls = λ line e f m. refl; effect = λ e f m. refl }

pub component_same : (d : ℕ) (x : ExprView) → ExprSame d x → SelectorSame d (selector_step (Selector-F.Component x))
component_same d x s = record {
  size = λ n e f m. refl;
  place = λ n p e f m. ap (λ (v : Option Value). with_subscript p (int_of v)) (s.value e f m);
  uses = s.uses;
  calls = s.calls;
  effect = s.effect;
}

pub from_same : (d : ℕ) (typed : Option ℕ) (x : ExprView) → ExprSame d x → SelectorSame d (selector_step (Selector-F.From typed x))
from_same d typed x s = record {
  size = λ n e f m. ap (λ (v : Option Value). less (whole typed n) (int_of v)) (s.value e f m);
  place = λ n p e f m. ap (λ (v : Option Value). with_segment p (int_of v) (less (whole typed n) (int_of v))) (s.value e f m);
  uses = s.uses;
  calls = s.calls;
  effect = s.effect;
}

pub for_same : (d : ℕ) (typed : Option ℕ) (x : ExprView) → ExprSame d x → SelectorSame d (selector_step (Selector-F.For typed x))
for_same d typed x s = record {
  size = λ n e f m. ap int_of (s.value e f m);
  place = λ n p e f m. ap (λ (v : Option Value). with_segment p (Some (pos 0)) (int_of v)) (s.value e f m);
  uses = s.uses;
  calls = s.calls;
  effect = s.effect;
}

pub from_for_same : (d : ℕ) (typed : Option ℕ) (x y : ExprView) → ExprSame d x → ExprSame d y → SelectorSame d (selector_step (Selector-F.FromFor typed x y))
from_for_same d typed x y s t = record {
  size = λ n e f m. ap int_of (t.value e f m);
  place = λ n p e f m. ap₂ (λ (v w : Option Value). with_segment p (int_of v) (int_of w)) (s.value e f m) (t.value e f m);
  uses = λ line e f m. ap₂ (λ (us vs : List Use). us ++ vs) (s.uses line e f m) (t.uses line e f m);
  calls = λ line e f m. ap₂ (λ (us vs : List Call). us ++ vs) (s.calls line e f m) (t.calls line e f m);
  effect = λ e f m. ap₂ (λ (a c : Bool). a || c) (s.effect e f m) (t.effect e f m);
}

-- ---- actuals

pub actual_value_same : (d : ℕ) (x : ExprView) → ExprAlike d x → ActualSame d (actual_step (TypedActual-F.Value x))
actual_value_same d x s = record { place = λ e f m. refl; uses = s.uses; calls = s.calls; effect = s.effect }

pub actual_variable_same : (d : ℕ) (x : ElementView) → ElementAlike d x → ActualSame d (actual_step (TypedActual-F.Variable x))
actual_variable_same d x s = record { place = s.place; uses = s.uses; calls = s.calls; effect = s.effect }

-- ---- expressions

folded_after_same : (d : ℕ) (op : Operator) (found : Option Value) (xs : List ExprView) → Every (ExprSame d) xs → IsSame d (λ env. folded_after op found (values_of xs) env)
folded_after_same d op found [] all e f m = refl
folded_after_same d op found (x ∷ xs) all e f m =
    ap (λ (v : Option Value). folded_after op (both op found v) (values_of xs) e) (all.0.value e f m)
    ∙ folded_after_same d op (both op found (x.value f)) xs all.1 e f m

folded_all_same : (d : ℕ) (op : Operator) (xs : List ExprView) → Every (ExprSame d) xs → IsSame d (folded_all op xs)
folded_all_same d op [] all e f m = refl
folded_all_same d op (x ∷ xs) all e f m =
    ap (λ (v : Option Value). folded_after op v (values_of xs) e) (all.0.value e f m) ∙ folded_after_same d op (x.value f) xs all.1 e f m

pub literal_same : (d : ℕ) (x : Known) → ExprSame d (expr_step (TypedExpr-F.Literal x))
literal_same d x = record { value = λ e f m. refl; size = λ e f m. refl; uses = λ line e f m. refl; calls = λ line e f m. refl; effect = λ e f m. refl }

pub element_read_same : (d : ℕ) (x : ElementView) → ElementSame d x → ExprSame d (expr_step (TypedExpr-F.Element x))
element_read_same d x s = record {
  value = s.value;
  size = s.size;
  uses = λ line e f m. ap₂ (λ (us : List Use) (p : Option SelectedPart). us ++ made line kind.Read p) (s.uses line e f m) (s.place e f m);
  calls = s.calls;
  effect = s.effect;
}

pub operation_same : (d : ℕ) (x : Known) (op : Operator) (xs : List ExprView) → Every (ExprSame d) xs → ExprSame d (expr_step (TypedExpr-F.Operation x op xs))
operation_same d x op xs all = record {
  value = λ e f m. ap (λ (v : Option Value). known_or x.value v) (folded_all_same d op xs all e f m);
  size = λ e f m. refl;
  uses = each_uses_same d xs (exprs_alike d xs all);
  calls = each_calls_same d xs (exprs_alike d xs all);
  effect = each_effect_same d xs (exprs_alike d xs all);
}

pub applied_same : (d : ℕ) (x : Known) (op : Monadic) (y : ExprView) → ExprSame d y → ExprSame d (expr_step (TypedExpr-F.Applied x op y))
applied_same d x op y s = record {
  value = λ e f m. ap (λ (v : Option Value). known_or x.value (one op v)) (s.value e f m);
  size = λ e f m. refl;
  uses = s.uses;
  calls = s.calls;
  effect = s.effect;
}

pub size_of_same : (d : ℕ) (x : Known) (y : ExprView) → ExprSame d y → ExprSame d (expr_step (TypedExpr-F.Size x y))
size_of_same d x y s = record {
  value = λ e f m. ap (λ (n : Option ℤ). known_or x.value (size_value n)) (s.size e f m);
  size = λ e f m. refl;
  uses = λ line e f m. refl;
  calls = λ line e f m. refl;
  effect = λ e f m. refl;
}

pub converted_same : (d : ℕ) (x : Known) (y : ExprView) → ExprSame d y → ExprSame d (expr_step (TypedExpr-F.Converted x y))
converted_same d x y s = record {
  value = λ e f m. ap (λ (v : Option Value). known_or x.value (converted_to x.of v)) (s.value e f m);
  size = λ e f m. refl;
  uses = s.uses;
  calls = s.calls;
  effect = s.effect;
}

pub table_same : (d : ℕ) (x : Known) (xs : List ExprView) → Every (ExprSame d) xs → ExprSame d (expr_step (TypedExpr-F.Table x xs))
table_same d x xs all = record { value = λ e f m. refl; size = λ e f m. refl; uses = each_uses_same d xs (exprs_alike d xs all); calls = each_calls_same d xs (exprs_alike d xs all); effect = each_effect_same d xs (exprs_alike d xs all) }

pub call_same : (d : ℕ) (x : Known) (callee : Referent) (xs : List ActualView) → Every (ActualSame d) xs → ExprSame d (expr_step (TypedExpr-F.Call x callee xs))
call_same d x callee xs all = record {
  value = λ e f m. refl;
  size = λ e f m. refl;
  uses = call_uses_same d callee.spec xs all;
  calls = call_calls_same d callee.spec xs all;
  effect = call_effect_same d callee.spec xs all;
}

-- ---- what is used, whatever the values are

pub element_read_alike : (d : ℕ) (x : ElementView) → ElementAlike d x → ExprAlike d (expr_step (TypedExpr-F.Element x))
element_read_alike d x s = record {
  uses = λ line e f m. ap₂ (λ (us : List Use) (p : Option SelectedPart). us ++ made line kind.Read p) (s.uses line e f m) (s.place e f m);
  calls = s.calls;
  effect = s.effect;
}

pub parts_alike : (d : ℕ) (value : Env → Option Value) (xs : List ExprView) → Every (ExprAlike d) xs → ExprAlike d (composed value xs)
parts_alike d value xs all = record { uses = each_uses_same d xs all; calls = each_calls_same d xs all; effect = each_effect_same d xs all }

pub around_alike : (d : ℕ) (value : Env → Option Value) (x : ExprView) → ExprAlike d x → ExprAlike d (around value x)
around_alike d value x s = record { uses = s.uses; calls = s.calls; effect = s.effect }
