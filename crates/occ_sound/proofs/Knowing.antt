-- What comes of work is what the rules know of it.
use Rattle.std.proofs.Common.{arith, suc, ◌≡◌, ◌+◌, ℕ, Bool, ap, sym, subst, ◌∙◌, refl, List, [], ◌∷◌, ◌++◌, Option, Some, None, length}
use Rattle.std.specs.Prelude.{ℤ, pos, ◌⊎◌, slice_get}
use Rattle.occ_project.specs.declared.expanded.Location.{Location}
use Rattle.occ_scope.specs.declared.meaning.ScopeEntry.{ScopeEntry}
use Rattle.occ_types.specs.declared.interface.Export.{Export}
use Rattle.occ_types.specs.declared.interface.Interface.{Interface}
use Rattle.occ_types.specs.declared.value.Value.{Value}
use Rattle.occ_typing.specs.declared.tree.TypedLine.{TypedLine, out-TypedLine}
use Rattle.occ_typing_lines.specs.declared.tree.TypedForm.{TypedForm}
use Rattle.occ_typing_lines.specs.declared.tree.TypedForm.TheVariants as form
use Rattle.occ_typing_operands.specs.declared.kind.Known.{Known}
use Rattle.occ_typing_rules.specs.declared.expr.Selector.{Selector, out-Selector}
use Rattle.occ_typing_rules.specs.declared.expr.Selector.TheOpen.{Selector-F, TypedExpr-F}
use Rattle.occ_typing_rules.specs.declared.expr.TypedElement.{TypedElement, out-TypedElement}
use Rattle.occ_typing_rules.specs.declared.expr.TypedExpr.{TypedExpr, out-TypedExpr}
use Rattle.occ_typing_statements.specs.declared.replicator_tree.KnownReplicator.{KnownReplicator}
use Rattle.occ_usage_lines.specs.Entering.{abbreviated, export_bounds, exported_uses, interface_bounds, looked_at, named_at, one_line, retyped, retyped_value, specified, valued}
use Rattle.occ_usage_conflicts.specs.Bodies.{body_uses}
use Rattle.occ_usage_conflicts.specs.Components.{joined}
use Rattle.occ_usage_parts.specs.declared.place.SelectedPart.{SelectedPart}
use Rattle.occ_usage_values.specs.Bounds.{Env, place_of, size_of, value_of}
use Rattle.occ_usage_values.specs.Values.{int_of, known_or, less, size_value, whole}
use Rattle.occ_usage_values.specs.Views.{ElementView, ExprView, SelectorView, element_step, element_view, expr_view, name_value, placed_from, selector_view, selector_views, sized}
use Rattle.occ_usage_values.specs.declared.bound.Bound.{Bound}
use Rattle.occ_usage_values.specs.declared.bound.Bound.TheVariants as b
use Rattle.occ_usage_values.specs.declared.uses.Use.{Use}
use Rattle.occ_usage.specs.Effect.{effect_under, is_body}
use Rattle.occ_usage.specs.Lines.{added, added_by, body_over, components, components_by, items_of, known_replicator}
use Rattle.occ_usage.specs.Trees.{Head, head_of, under}
use Rattle.occ_running.specs.Memory.{ComponentOf, FieldOf, Recast, SegmentOf, Spot, Step, Thread}
use Rattle.occ_running.specs.Running
use Rattle.occ_running.specs.Running.{Brings, Does, Gave, Outcome, Passed, Stopped, at_end, both_ended, ended, exported, exports_of, found_of, of_process, specifying}
use Rattle.occ_running.specs.Runs.{Run}
use Rattle.occ_running.specs.Scopes.{Body, Clock, Element, Formal, Formula, Held, Other, Shown, Scope, Stored, Thing}
use Rattle.occ_running.specs.Works.{Both, Call, Choice, Evaluate, ExprForm, Find, IsComponent, IsField, IsNumber, IsSegment, Item, Main, Nothing, Pieces, Reach, Select, SelectorForm, Selects, Specify, Taken, Tells, Together, Under, Way, Work, bounds, count_in, count_value, evaluate, or_else}
use Rattle.occ_sound.specs.Agreeing.{Agrees, IsAt, Knows, Matches, one_more, uses_of_body}
use Rattle.occ_sound.specs.Covering.{form_view}
use Rattle.occ_sound.proofs.Forms.{element_opened, expr_form, layer, selector_form, selector_opened}
use Rattle.occ_sound.proofs.Lists.{length_last, one_same}
use Rattle.occ_sound.proofs.Names.{FoundAs, agrees_then, declared_agree, name_found, agrees_same}
use Rattle.occ_sound.proofs.Places.{component_lies, field_lies, named_lies, recast_lies, segment_lies}
use Rattle.occ_sound.proofs.Values.{AreKnown, decided_known, either_tells, int_known, known_first, known_tells, knows_tells, operation_known, operation_size, rest_known, size_tells}
use Rattle.occ_types.specs.declared.value.Value.TheVariants as v

-- ---- selectors

-- one selector, of a place that is perhaps not known
abbrev step_place : SelectorView → Env → Option ℤ → Option SelectedPart → Option SelectedPart
step_place w env size None = None
step_place w env size (Some p) = Some (w.place env size p)

placed_more : (w : SelectorView) (ws : List SelectorView) (env : Env) (size : Option ℤ) (p : Option SelectedPart) → placed_from (w ∷ ws) env size p ≡ placed_from ws env (w.size env size) (step_place w env size p)
placed_more w ws env size None = refl
placed_more w ws env size (Some p) = refl

field_place : (d : Scope) (place : Option SelectedPart) (name : List ℕ) (at : Spot) (env : Env) (size : Option ℤ) (k : ℕ) → IsAt d place at
    → IsAt d (step_place (selector_form (Selector-F.Field k name)) env size place) (FieldOf at name)
field_place d None name at env size k h = absurd h
field_place d (Some p) name at env size k h = field_lies d p name at h

field_found : (d : Scope) (env : Env) (place : Option SelectedPart) (size : Option ℤ) (value : Option Value) (k : ℕ) (name : List ℕ) (x y : Thing) → FoundAs d place size value x → IsField name x y
    → FoundAs d (step_place (selector_form (Selector-F.Field k name)) env size place) None None y
field_found d env place size value k name (Element at n) y h i =
    subst (λ (z : Thing). FoundAs d (step_place (selector_form (Selector-F.Field k name)) env size place) None None z) (sym i) (field_place d place name at env size k h.0, tt, refl)
field_found d env place size value k name (Held x n) y h i = subst (λ (z : Thing). FoundAs d (step_place (selector_form (Selector-F.Field k name)) env size place) None None z) (sym i.1) (tt, tt)
field_found d env place size value k name (Clock n) y h i = absurd i
field_found d env place size value k name (Stored t) y h i = absurd h
field_found d env place size value k name (Formal at) y h i = absurd h
field_found d env place size value k name (Body l) y h i = absurd h
field_found d env place size value k name (Formula fs rs) y h i = absurd h
field_found d env place size value k name (Shown us2) y h i = absurd h
field_found d env place size value k name Other y h i = absurd h

component_place : (d : Scope) (env : Env) (place : Option SelectedPart) (size : Option ℤ) (e : TypedExpr) (at : Spot) (k : ℤ) → Knows (int_of ((expr_view e).value env)) k → IsAt d place at
    → IsAt d (step_place (selector_form (Selector-F.Component e)) env size place) (ComponentOf at k)
component_place d env None size e at k h i = absurd i
component_place d env (Some p) size e at k h i = component_lies d p (int_of ((expr_view e).value env)) at k h i

component_found : (d : Scope) (env : Env) (place : Option SelectedPart) (size : Option ℤ) (value : Option Value) (e : TypedExpr) (k : ℤ) (x y : Thing) → Knows (int_of ((expr_view e).value env)) k → FoundAs d place size value x
    → IsComponent k x y → FoundAs d (step_place (selector_form (Selector-F.Component e)) env size place) None None y
component_found d env place size value e k (Element at n) y g h i =
    subst (λ (z : Thing). FoundAs d (step_place (selector_form (Selector-F.Component e)) env size place) None None z) (sym i) (component_place d env place size e at k g h.0, tt, refl)
component_found d env place size value e k (Held x n) y g h i = subst (λ (z : Thing). FoundAs d (step_place (selector_form (Selector-F.Component e)) env size place) None None z) (sym i.1) (tt, tt)
component_found d env place size value e k (Clock n) y g h i = subst (λ (z : Thing). FoundAs d (step_place (selector_form (Selector-F.Component e)) env size place) None None z) (sym i) tt
component_found d env place size value e k (Stored t) y g h i = absurd h
component_found d env place size value e k (Formal at) y g h i = absurd h
component_found d env place size value e k (Body l) y g h i = absurd h
component_found d env place size value e k (Formula fs rs) y g h i = absurd h
component_found d env place size value e k (Shown us2) y g h i = absurd h
component_found d env place size value e k Other y g h i = absurd h

abbrev segment_place : Option ℤ → Option ℤ → Option SelectedPart → Option SelectedPart
segment_place base count None = None
segment_place base count (Some p) = Some (Rattle.occ_usage_parts.specs.Selecting.with_segment p base count)

segment_at : (d : Scope) (base count : Option ℤ) (place : Option SelectedPart) (at : Spot) (k n : ℤ) → Knows base k → Knows count n → IsAt d place at → IsAt d (segment_place base count place) (SegmentOf at k n)
segment_at d base count None at k n g h i = absurd i
segment_at d base count (Some p) at k n g h i = segment_lies d p base count at k n g h i

segment_found : (d : Scope) (base count : Option ℤ) (place : Option SelectedPart) (size : Option ℤ) (value : Option Value) (k n : ℤ) (x y : Thing) → Knows base k → Knows count n → FoundAs d place size value x → IsSegment k n x y
    → FoundAs d (segment_place base count place) count None y
segment_found d base count place size value k n (Element at m) y f g h i = subst (λ (z : Thing). FoundAs d (segment_place base count place) count None z) (sym i) (segment_at d base count place at k n f g h.0, knows_tells count n g, refl)
segment_found d base count place size value k n (Held x m) y f g h i = subst (λ (z : Thing). FoundAs d (segment_place base count place) count None z) (sym i.1) (tt, knows_tells count n g)
segment_found d base count place size value k n (Clock m) y f g h i = subst (λ (z : Thing). FoundAs d (segment_place base count place) count None z) (sym i) (knows_tells count n g)
segment_found d base count place size value k n (Stored t) y f g h i = absurd h
segment_found d base count place size value k n (Formal at) y f g h i = absurd h
segment_found d base count place size value k n (Body l) y f g h i = absurd h
segment_found d base count place size value k n (Formula fs rs) y f g h i = absurd h
segment_found d base count place size value k n (Shown us2) y f g h i = absurd h
segment_found d base count place size value k n Other y f g h i = absurd h

size_told : (d : Scope) (place : Option SelectedPart) (size : Option ℤ) (value : Option Value) (x : Thing) → FoundAs d place size value x → Tells size (count_in x)
size_told d place size value (Element at n) h = h.1
size_told d place size value (Held x n) h = h.1
size_told d place size value (Clock n) h = h
size_told d place size value (Stored t) h = absurd h
size_told d place size value (Formal at) h = absurd h
size_told d place size value (Body l) h = absurd h
size_told d place size value (Formula fs rs) h = absurd h
size_told d place size value (Shown us2) h = absurd h
size_told d place size value Other h = absurd h

same_from : (w : SelectorView) (env : Env) (size base count : Option ℤ) (place : Option SelectedPart) → ((p : SelectedPart) → w.place env size p ≡ Rattle.occ_usage_parts.specs.Selecting.with_segment p base count)
    → step_place w env size place ≡ segment_place base count place
same_from w env size base count None h = refl
same_from w env size base count (Some p) h = ap Some (h p)

by_segment : (d : Scope) (w : SelectorView) (env : Env) (size base count : Option ℤ) (place : Option SelectedPart) (y : Thing)
    → ((p : SelectedPart) → w.place env size p ≡ Rattle.occ_usage_parts.specs.Selecting.with_segment p base count) → w.size env size ≡ count → FoundAs d (segment_place base count place) count None y
    → FoundAs d (step_place w env size place) (w.size env size) None y
by_segment d w env size base count place y h k f =
    subst (λ (z : Option ℤ). FoundAs d (step_place w env size place) z None y) (sym k) (subst (λ (z : Option SelectedPart). FoundAs d z count None y) (sym (same_from w env size base count place h)) f)

one_known : (env : Env) (e : TypedExpr) (x : Thing) (xs : List Thing) (k : ℤ) (es : List TypedExpr) → AreKnown env (e ∷ es) (x ∷ xs) → IsNumber k x → Knows (int_of ((expr_view e).value env)) k
one_known env e x xs k es h i = int_known ((expr_view e).value env) x k (known_first env e es x xs h).0 i

-- what a selector selects lies where the rules place it
selector_found : (d : Scope) (env : Env) (f : SelectorForm) (xs : List Thing) (place : Option SelectedPart) (size : Option ℤ) (value : Option Value) (x y : Thing) → AreKnown env (bounds f) xs → FoundAs d place size value x
    → Selects f xs x y → FoundAs d (step_place (selector_form f) env size place) ((selector_form f).size env size) None y
selector_found d env (Selector-F.Field k name) [] place size value x y g h i = field_found d env place size value k name x y h i
selector_found d env (Selector-F.Field k name) (z ∷ xs) place size value x y g h i = absurd g
selector_found d env (Selector-F.Component e) [] place size value x y g h i = absurd g
selector_found d env (Selector-F.Component e) (z ∷ []) place size value x y g h i = component_found d env place size value e i.0 x y (one_known env e z [] i.0 [] g i.1) h i.2
selector_found d env (Selector-F.Component e) (z ∷ w ∷ xs) place size value x y g h i = absurd i
selector_found d env (Selector-F.From typed e) [] place size value x y g h i = absurd g
selector_found d env (Selector-F.From typed e) (z ∷ []) place size value x y g h i =
    let base = int_of ((expr_view e).value env) in
    let knows = one_known env e z [] i.0 [] g i.2 in
    let count = less (whole typed size) base in
    by_segment d (selector_form (Selector-F.From typed e)) env size base count place y (λ p. refl) refl
    (segment_found d base count place size value i.0 i.1 x y knows (rest_known typed size (count_in x) base i.0 i.1 (size_told d place size value x h) knows i.3) h i.4)
selector_found d env (Selector-F.From typed e) (z ∷ w ∷ xs) place size value x y g h i = absurd i
selector_found d env (Selector-F.For typed e) [] place size value x y g h i = absurd g
selector_found d env (Selector-F.For typed e) (z ∷ []) place size value x y g h i =
    let count = int_of ((expr_view e).value env) in
    by_segment d (selector_form (Selector-F.For typed e)) env size (Some (pos 0)) count place y (λ p. refl) refl
    (segment_found d (Some (pos 0)) count place size value (pos 0) i.0 x y refl (one_known env e z [] i.0 [] g i.1) h i.2)
selector_found d env (Selector-F.For typed e) (z ∷ w ∷ xs) place size value x y g h i = absurd i
selector_found d env (Selector-F.FromFor typed e f) [] place size value x y g h i = absurd g
selector_found d env (Selector-F.FromFor typed e f) (z ∷ []) place size value x y g h i = absurd i
selector_found d env (Selector-F.FromFor typed e f) (z ∷ w ∷ []) place size value x y g h i =
    let base = int_of ((expr_view e).value env) in
    let count = int_of ((expr_view f).value env) in
    let after = known_first env e (f ∷ []) z (w ∷ []) g in
    by_segment d (selector_form (Selector-F.FromFor typed e f)) env size base count place y (λ p. refl) refl
    (segment_found d base count place size value i.0 i.1 x y (one_known env e z (w ∷ []) i.0 (f ∷ []) g i.2) (one_known env f w [] i.1 [] after.1 i.3) h i.4)
selector_found d env (Selector-F.FromFor typed e f) (z ∷ w ∷ v ∷ xs) place size value x y g h i = absurd i

-- ---- work

abbrev pub raw_value : TypedElement → Env → Option Value
raw_value el env = name_value (layer el).selectors (value_of (slice_get env (out-TypedElement el).referent.spec))

abbrev pub FoundWith : Scope → ElementView → Option Value → Env → List Thing → Type 0
FoundWith d w raw env zs = (y : Thing) × (zs ≡ y ∷ []) × FoundAs d (w.place env) (w.size env) raw y

abbrev pub Good : Env → Scope → Work → List Thing → Type 0
Good env d Nothing zs = zs ≡ []
Good env d (Both w u) zs = (xs ys : List Thing) × (zs ≡ xs ++ ys) × Good env d w xs × Good env d u ys
Good env d (Evaluate f) zs = (x : Option Value) × (n : Option ℤ) × (zs ≡ Held x n ∷ []) × Tells ((form_view f).value env) x × Tells ((form_view f).size env) n
Good env d (Find el) zs = FoundWith d (element_view el) (raw_value el env) env zs
Good env d (Select ss x) zs = (place : Option SelectedPart) (size : Option ℤ) (value : Option Value) → FoundAs d place size value x
    → (y : Thing) × (zs ≡ y ∷ []) × FoundAs d (placed_from (selector_views ss) env size place) (sized (selector_views ss) env size) (name_value (selector_views ss) value) y
Good env d (Specify l) zs = Agrees (env ++ added env (head_of l) (under l) (items_of (under l))) (d ++ zs)
Good env d (Reach k els) zs = Unit {0}
Good env d (Call n xs) zs = Unit {0}
Good env d (Main way l) zs = Unit {0}
Good env d (Under way l) zs = Unit {0}
Good env d (Item way ls) zs = Unit {0}
Good env d (Pieces way k ps) zs = Unit {0}

abbrev pub GoodOutcome : Env → Scope → Work → Outcome → Type 0
GoodOutcome env d w Stopped = Unit {0}
GoodOutcome env d w (Gave zs) = Good env d w zs
GoodOutcome env d w Passed = Unit {0}

call_good : (env : Env) (d : Scope) (n : ℕ) (xs : List _) (o : Outcome) → GoodOutcome env d (Call n xs) o
call_good env d n xs Stopped = tt
call_good env d n xs (Gave zs) = tt
call_good env d n xs Passed = tt

main_good : (env : Env) (d : Scope) (way : Way) (l : TypedLine) (o : Outcome) → GoodOutcome env d (Main way l) o
main_good env d way l Stopped = tt
main_good env d way l (Gave zs) = tt
main_good env d way l Passed = tt

under_good : (env : Env) (d : Scope) (way : Way) (l : TypedLine) (o : Outcome) → GoodOutcome env d (Under way l) o
under_good env d way l Stopped = tt
under_good env d way l (Gave zs) = tt
under_good env d way l Passed = tt

item_good : (env : Env) (d : Scope) (way : Way) (ls : List TypedLine) (o : Outcome) → GoodOutcome env d (Item way ls) o
item_good env d way ls Stopped = tt
item_good env d way ls (Gave zs) = tt
item_good env d way ls Passed = tt

pieces_good : (env : Env) (d : Scope) (way : Way) (k : ℕ) (ps : List _) (o : Outcome) → GoodOutcome env d (Pieces way k ps) o
pieces_good env d way k ps Stopped = tt
pieces_good env d way k ps (Gave zs) = tt
pieces_good env d way k ps Passed = tt

-- ---- expressions and elements

evaluated_by : (env : Env) (e : TypedExpr) (es : List TypedExpr) (x : Option Value) (n : Option ℤ) (xs ys zs : List Thing) → zs ≡ xs ++ ys → xs ≡ Held x n ∷ []
    → Tells ((form_view (out-TypedExpr e)).value env) x → Tells ((form_view (out-TypedExpr e)).size env) n → AreKnown env es ys → AreKnown env (e ∷ es) zs
evaluated_by env e es x n xs ys zs h i j k rest =
    subst (λ (ws : List Thing). AreKnown env (e ∷ es) ws) (sym (h ∙ ap (λ (ws : List Thing). ws ++ ys) i))
    (subst (λ (w : ExprView). Tells (w.value env) x) (sym (expr_form e)) j, subst (λ (w : ExprView). Tells (w.size env) n) (sym (expr_form e)) k, rest)

pub evaluated : (env : Env) (d : Scope) (es : List TypedExpr) (zs : List Thing) → Good env d (evaluate es) zs → AreKnown env es zs
evaluated env d [] zs h = subst (λ (ws : List Thing). AreKnown env [] ws) (sym h) tt
evaluated env d (e ∷ es) zs (xs, ys, same, first, rest) = evaluated_by env e es first.0 first.1 xs ys zs same first.2 first.3 first.4 (evaluated env d es ys rest)

found_by : (env : Env) (d : Scope) (el : TypedElement) (zs : List Thing) → FoundWith d (element_step (layer el)) (raw_value el env) env zs → Good env d (Find el) zs
found_by env d el zs h = subst (λ (w : ElementView). FoundWith d w (raw_value el env) env zs) (sym (element_opened el)) h

find_good : (env : Env) (d : Scope) (el : TypedElement) (y : Thing) (o : Outcome)
    → FoundAs d (place_of (out-TypedElement el).referent.spec (slice_get env (out-TypedElement el).referent.spec)) (size_of (slice_get env (out-TypedElement el).referent.spec)) (value_of (slice_get env (out-TypedElement el).referent.spec)) y
    → GoodOutcome env d (Select (out-TypedElement el).selectors y) o → GoodOutcome env d (Find el) o
find_good env d el y Stopped h g = tt
find_good env d el y (Gave zs) h g =
    let n = (out-TypedElement el).referent.spec in
    found_by env d el zs (g (place_of n (slice_get env n)) (size_of (slice_get env n)) (value_of (slice_get env n)) h)
find_good env d el y Passed h g = tt

one_more_selected : (d : Scope) (env : Env) (s : Selector) (ss : List Selector) (place : Option SelectedPart) (size : Option ℤ) (value : Option Value) (zs : List Thing) (y : Thing)
    → FoundAs d (step_place (selector_form (out-Selector s)) env size place) ((selector_form (out-Selector s)).size env size) None y
    → ((p : Option SelectedPart) (m : Option ℤ) (v : Option Value) → FoundAs d p m v y → (z : Thing) × (zs ≡ z ∷ []) × FoundAs d (placed_from (selector_views ss) env m p) (sized (selector_views ss) env m) (name_value (selector_views ss) v) z)
    → (z : Thing) × (zs ≡ z ∷ []) × FoundAs d (placed_from (selector_views (s ∷ ss)) env size place) (sized (selector_views (s ∷ ss)) env size) (name_value (selector_views (s ∷ ss)) value) z
one_more_selected d env s ss place size value zs y h g =
    let w = selector_view s in
    let opened : selector_view s ≡ selector_form (out-Selector s) = selector_opened s in
    let at : FoundAs d (step_place w env size place) (w.size env size) None y = subst (λ (v : SelectorView). FoundAs d (step_place v env size place) (v.size env size) None y) (sym opened) h in
    let found = g (step_place w env size place) (w.size env size) None at in (
      found.0,
      found.1,
      subst (λ (p : Option SelectedPart). FoundAs d p (sized (selector_views ss) env (w.size env size)) None found.0) (sym (placed_more w (selector_views ss) env size place))
          (subst (λ (v : Option Value). FoundAs d (placed_from (selector_views ss) env (w.size env size) (step_place w env size place)) (sized (selector_views ss) env (w.size env size)) v found.0) (no_value (selector_views ss)) found.2),
    )
  where
    no_value : (ws : List SelectorView) → name_value ws None ≡ None
    no_value [] = refl
    no_value (w ∷ ws) = refl

select_good : (env : Env) (d : Scope) (s : Selector) (ss : List Selector) (x y : Thing) (xs : List Thing) (o : Outcome) → AreKnown env (bounds (out-Selector s)) xs → Selects (out-Selector s) xs x y
    → GoodOutcome env d (Select ss y) o → GoodOutcome env d (Select (s ∷ ss) x) o
select_good env d s ss x y xs Stopped a h g = tt
select_good env d s ss x y xs (Gave zs) a h g = λ place size value f.
    one_more_selected d env s ss place size value zs y (selector_found d env (out-Selector s) xs place size value x y a f h) g
select_good env d s ss x y xs Passed a h g = tt

-- the element that was found, as the rules know it
pub found_one : (env : Env) (d : Scope) (el : TypedElement) (y : Thing) → Good env d (Find el) (y ∷ []) → FoundAs d ((element_view el).place env) ((element_view el).size env) (raw_value el env) y
found_one env d el y h = subst (λ (z : Thing). FoundAs d ((element_view el).place env) ((element_view el).size env) (raw_value el env) z) (sym (one_same y h.0 h.1)) h.2

element_value : (env : Env) (el : TypedElement) (x : Option Value) → Tells (known_or (out-TypedElement el).known.value (raw_value el env)) x → Tells ((element_view el).value env) x
element_value env el x h = subst (λ (w : ElementView). Tells (w.value env) x) (sym (element_opened el)) h

read_good : (env : Env) (d : Scope) (el : TypedElement) (at : Spot) (n : Option ℤ) (x : Option Value) → Good env d (Find el) (Element at n ∷ []) → Tells (out-TypedElement el).known.value x
    → Good env d (Evaluate (TypedExpr-F.Element el)) (Held x n ∷ [])
read_good env d el at n x h t =
    let found = found_one env d el (Element at n) h in
    (x, n, refl, element_value env el x (either_tells (out-TypedElement el).known.value (raw_value el env) x t (subst (λ (z : Option Value). Tells z x) (sym found.2) tt)), found.1)

held_good : (env : Env) (d : Scope) (el : TypedElement) (x : Option Value) (n : Option ℤ) → Good env d (Find el) (Held x n ∷ []) → Tells (out-TypedElement el).known.value x
    → Good env d (Evaluate (TypedExpr-F.Element el)) (Held x n ∷ [])
held_good env d el x n h t =
    let found = found_one env d el (Held x n) h in
    (x, n, refl, element_value env el x (either_tells (out-TypedElement el).known.value (raw_value el env) x t found.0), found.1)

size_good : (env : Env) (d : Scope) (k : Known) (e : TypedExpr) (el : TypedElement) (y : Thing) (n : Option Value) → out-TypedExpr e ≡ TypedExpr-F.Element el → Good env d (Find el) (y ∷ [])
    → Tells (or_else k.value (count_value (count_in y))) n → Good env d (Evaluate (TypedExpr-F.Size k e)) (Held n None ∷ [])
size_good env d k e el y n same h t =
    let found = found_one env d el y h in
    let told : Tells ((element_view el).size env) (count_in y) = size_told d ((element_view el).place env) ((element_view el).size env) (raw_value el env) y found in
    let view : expr_view e ≡ form_view (TypedExpr-F.Element el) = expr_form e ∙ ap form_view same in
    let here : Tells ((expr_view e).size env) (count_in y) = subst (λ (w : ExprView). Tells (w.size env) (count_in y)) (sym view) told in
    (n, None, refl, known_tells k.value (count_value (count_in y)) (size_value ((expr_view e).size env)) n (size_tells ((expr_view e).size env) (count_in y) here) t, tt)

no_size : (env : Env) (f : ExprForm) → ((el : TypedElement) → f ≡ TypedExpr-F.Element el → ⊥) → (form_view f).size env ≡ None
no_size env (TypedExpr-F.Literal k) h = refl
no_size env (TypedExpr-F.Element el) h = absurd (h el refl)
no_size env (TypedExpr-F.Operation k op gs) h = refl
no_size env (TypedExpr-F.Applied k op e) h = refl
no_size env (TypedExpr-F.Size k e) h = refl
no_size env (TypedExpr-F.Converted k e) h = refl
no_size env (TypedExpr-F.Table k gs) h = refl
no_size env (TypedExpr-F.Call k callee actuals) h = refl

plain_size_good : (env : Env) (d : Scope) (k : Known) (e : TypedExpr) (n : Option Value) → ((el : TypedElement) → out-TypedExpr e ≡ TypedExpr-F.Element el → ⊥) → Tells k.value n
    → Good env d (Evaluate (TypedExpr-F.Size k e)) (Held n None ∷ [])
plain_size_good env d k e n h t =
    let none : (expr_view e).size env ≡ None = ap (λ (w : ExprView). w.size env) (expr_form e) ∙ no_size env (out-TypedExpr e) h in
    (n, None, refl, either_tells k.value (size_value ((expr_view e).size env)) n t (subst (λ (z : Option ℤ). Tells (size_value z) n) (sym none) tt), tt)

noted_size_good : (env : Env) (d : Scope) (k : Known) (e : TypedExpr) (n : Value) → k.value ≡ Some n → Good env d (Evaluate (TypedExpr-F.Size k e)) (Held (Some n) None ∷ [])
noted_size_good env d k e n h = (Some n, None, refl, subst (λ (z : Option Value). Tells (known_or z (size_value ((expr_view e).size env))) (Some n)) (sym h) refl, tt)

-- ---- specifications

abbrev pub entered_as : Env → Head → List Use → Bool → List ScopeEntry → TypedForm → List Bound
entered_as env h us does names f = Rattle.std.specs.Prelude.if◌then◌else◌ (is_body f) (body_over env h us does ∷ []) (specified env h.place names f)

one_agrees : (env : Env) (d : Scope) (bound : Bound) (x : Thing) (ys : List Thing) → Agrees env d → Matches env d bound x → ys ≡ x ∷ [] → Agrees (env ++ bound ∷ []) (d ++ ys)
one_agrees env d bound x ys a m h = subst (λ (zs : List Thing). Agrees (env ++ bound ∷ []) (d ++ zs)) (sym h) (one_more env d bound x a m)

named_is_at : (d : Scope) (p : Option SelectedPart) (n : ℕ) (at : Spot) → IsAt d p at → IsAt d (named_at n p) at
named_is_at d None n at h = absurd h
named_is_at d (Some p) n at h = named_lies d p n at h

retyped_is_at : (d : Scope) (p : Option SelectedPart) (n : ℕ) (at : Spot) (layout : List Step → List Step) (apart : (one other : List Step) → layout one ≡ layout other → one ≡ other) → IsAt d p at
    → IsAt d (named_at n (looked_at p)) (Recast at layout apart)
retyped_is_at d None n at layout apart h = absurd h
retyped_is_at d (Some p) n at layout apart h = named_lies d (Rattle.occ_usage_parts.specs.Selecting.retyped p) n (Recast at layout apart) (recast_lies d p at layout apart h)

abbreviation_matches : (env : Env) (d : Scope) (el : TypedElement) (line : Location) (x : Thing) → FoundAs d ((element_view el).place env) ((element_view el).size env) (raw_value el env) x → Matches env d (abbreviated el env line) x
abbreviation_matches env d el line (Element at n) h = (named_is_at d ((element_view el).place env) (length env) at h.0, h.1)
abbreviation_matches env d el line (Held x n) h = h.1
abbreviation_matches env d el line (Clock n) h = h
abbreviation_matches env d el line (Stored t) h = absurd h
abbreviation_matches env d el line (Formal at) h = absurd h
abbreviation_matches env d el line (Body l) h = absurd h
abbreviation_matches env d el line (Formula fs rs) h = absurd h
abbreviation_matches env d el line (Shown us2) h = absurd h
abbreviation_matches env d el line Other h = absurd h

all_exported : (env : Env) (d : Scope) (n : ℕ) (line : Location) (xs : List Export) (bs : List Bound) (ys : List Thing) → n ≡ length env
    → ((e : Env) (f : Scope) → n + length xs ≡ length e → Agrees e f → Agrees (e ++ bs) (f ++ ys)) → Agrees env d → Agrees (env ++ (export_bounds n line xs ++ bs)) (d ++ (exported xs ++ ys))
all_exported env d n line [] bs ys same k a = k env d (omega (arith, same)) a
all_exported env d n line (x ∷ xs) bs ys same k a =
    let bound = b.Body (exported_uses n line x.uses) x.effect in
    let after : length (env ++ bound ∷ []) ≡ suc (length env) = length_last env bound in
    agrees_then env d bound (export_bounds (n + 1) line xs ++ bs) (Shown x.uses) (exported xs ++ ys)
    (all_exported (env ++ bound ∷ []) (d ++ Shown x.uses ∷ []) (n + 1) line xs bs ys (omega (arith, same, after)) (λ e f h g. k e f (let z : (n + 1) + length xs ≡ length e = h in omega (arith, z)) g)
    (one_more env d bound (Shown x.uses) a (line, ap (λ (m : ℕ). exported_uses m line x.uses) same)))

interfaces_agree : (n : ℕ) (line : Location) (is : List Interface) (env : Env) (d : Scope) → n ≡ length env → Agrees env d → Agrees (env ++ interface_bounds n line is) (d ++ exports_of is)
interfaces_agree n line [] env d same a = agrees_same env d a
interfaces_agree n line (i ∷ is) env d same a =
    all_exported env d n line i.exports (interface_bounds (n + length i.exports) line is) (exports_of is) same (λ e f h g. interfaces_agree (n + length i.exports) line is e f h g) a

-- under a head the lines stand as they are
head_uses : (env : Env) (l : TypedLine) (f : TypedForm) → (out-TypedLine l).form ≡ f → known_replicator f ≡ None
    → body_uses (length env) (length env + length (head_of l).enters) (head_of l).place (joined (components env (head_of l) (items_of (under l)))) ≡ uses_of_body env l
head_uses env l f is none =
    ap (λ (o : Option KnownReplicator). body_uses (length env) (length env + length (head_of l).enters) (head_of l).place (joined (components_by o env (head_of l) (items_of (under l))))) (ap known_replicator is ∙ none)

-- a line of specification, of this form
abbrev Brought : Env → Scope → TypedLine → List ScopeEntry → TypedForm → List Thing → Type 0
Brought env d l names f ys =
    Agrees (env ++ entered_as env (head_of l) (joined (components env (head_of l) (items_of (under l)))) (effect_under (under l) env (head_of l)) names f) (d ++ ys)

same_brought : (env : Env) (d : Scope) (bound : Bound) (xs ys : List Thing) (x : Thing) → Agrees env d → ys ≡ xs → xs ≡ x ∷ [] → Matches env d bound x → Agrees (env ++ bound ∷ []) (d ++ ys)
same_brought env d bound xs ys x a h k m = one_agrees env d bound x ys a m (h ∙ k)

recast_brought : (env : Env) (d : Scope) (el : TypedElement) (line : Location) (at : Spot) (n : Option ℤ) (layout : List Step → List Step) (apart : (one other : List Step) → layout one ≡ layout other → one ≡ other) (xs ys : List Thing)
    → Agrees env d → xs ≡ Element at n ∷ [] → ys ≡ Element (Recast at layout apart) None ∷ [] → Good env d (Find el) xs → Agrees (env ++ retyped el env line ∷ []) (d ++ ys)
recast_brought env d el line at n layout apart xs ys a h k g =
    let found = found_one env d el (Element at n) (subst (λ (zs : List Thing). Good env d (Find el) zs) h g) in
    one_agrees env d (retyped el env line) (Element (Recast at layout apart) None) ys a (retyped_is_at d ((element_view el).place env) (length env) at layout apart found.0, tt) k

value_matches : (env : Env) (d : Scope) (e : TypedExpr) (line : Location) (x : Option Value) (n : Option ℤ) → Tells ((form_view (out-TypedExpr e)).value env) x → Tells ((form_view (out-TypedExpr e)).size env) n → Matches env d (valued e env line) (Held x n)
value_matches env d e line x n h k = (subst (λ (w : ExprView). Tells (w.value env) x) (sym (expr_form e)) h, subst (λ (w : ExprView). Tells (w.size env) n) (sym (expr_form e)) k)

brought : (env : Env) (d : Scope) (t : Thread) (l : TypedLine) (names : List ScopeEntry) (f : TypedForm) (xs ys : List Thing) → (out-TypedLine l).form ≡ f → Agrees env d → Good env d (specifying f) xs → Brings t l names f xs ys → Brought env d l names f ys
brought env d t l names (form.Abbreviation el) xs ys is a g h =
    same_brought env d (abbreviated el env (head_of l).place) xs ys g.0 a h g.1 (abbreviation_matches env d el (head_of l).place g.0 g.2)
brought env d t l names (form.Retyped el) xs ys is a g h = recast_brought env d el (head_of l).place h.0 h.1 h.2 h.3 xs ys a h.4 h.5 g
brought env d t l names (form.Value e) xs ys is a g h = same_brought env d (valued e env (head_of l).place) xs ys (Held g.0 g.1) a h g.2 (value_matches env d e (head_of l).place g.0 g.1 g.3 g.4)
brought env d t l names (form.RetypedValue e) xs ys is a g h = one_agrees env d (retyped_value e env (head_of l).place) (Held h.0 None) ys a (tt, tt) h.1
brought env d t l names (form.OneLineFunction formals results) xs ys is a g h = one_agrees env d (one_line formals results env (head_of l).place) (Formula formals results) ys a ((head_of l).place, refl) h
brought env d t l names (form.Uses interfaces) xs ys is a g h = subst (λ (zs : List Thing). Agrees (env ++ interface_bounds (length env) (head_of l).place interfaces) (d ++ zs)) (sym h) (interfaces_agree (length env) (head_of l).place interfaces env d refl a)
brought env d t l names form.ProcedureHead xs ys is a g h =
    one_agrees env d (body_over env (head_of l) (joined (components env (head_of l) (items_of (under l)))) (effect_under (under l) env (head_of l))) (Body l) ys a (head_uses env l form.ProcedureHead is refl) h
brought env d t l names form.FunctionHead xs ys is a g h =
    one_agrees env d (body_over env (head_of l) (joined (components env (head_of l) (items_of (under l)))) (effect_under (under l) env (head_of l))) (Body l) ys a (head_uses env l form.FunctionHead is refl) h
brought env d t l names form.Declaration xs ys is a g h = declared_agree env d t names ys a h
brought env d t l names form.DataType xs ys is a g h = declared_agree env d t names ys a h
brought env d t l names form.Protocol xs ys is a g h = declared_agree env d t names ys a h
brought env d t l names form.RecordHead xs ys is a g h = declared_agree env d t names ys a h
brought env d t l names form.ProtocolHead xs ys is a g h = declared_agree env d t names ys a h
brought env d t l names form.Member xs ys is a g h = declared_agree env d t names ys a h
brought env d t l names form.Close xs ys is a g h = declared_agree env d t names ys a h
brought env d t l names form.Skip xs ys is a g h = declared_agree env d t names ys a h
brought env d t l names form.Stop xs ys is a g h = declared_agree env d t names ys a h
brought env d t l names form.Otherwise xs ys is a g h = declared_agree env d t names ys a h
brought env d t l names form.ValueOf xs ys is a g h = declared_agree env d t names ys a h
brought env d t l names form.Unknown xs ys is a g h = declared_agree env d t names ys a h
brought env d t l names (form.Assignment els es) xs ys is a g h = declared_agree env d t names ys a h
brought env d t l names (form.Output el os) xs ys is a g h = declared_agree env d t names ys a h
brought env d t l names (form.Input i) xs ys is a g h = declared_agree env d t names ys a h
brought env d t l names (form.Instance callee actuals) xs ys is a g h = declared_agree env d t names ys a h
brought env d t l names (form.Block k r) xs ys is a g h = declared_agree env d t names ys a h
brought env d t l names (form.While e) xs ys is a g h = declared_agree env d t names ys a h
brought env d t l names (form.Selection e) xs ys is a g h = declared_agree env d t names ys a h
brought env d t l names (form.CaseInput el) xs ys is a g h = declared_agree env d t names ys a h
brought env d t l names (form.Condition e) xs ys is a g h = declared_agree env d t names ys a h
brought env d t l names (form.Options es) xs ys is a g h = declared_agree env d t names ys a h
brought env d t l names (form.Guard e g2) xs ys is a g h = declared_agree env d t names ys a h
brought env d t l names (form.Variant place tag ts) xs ys is a g h = declared_agree env d t names ys a h
brought env d t l names (form.Results es) xs ys is a g h = declared_agree env d t names ys a h

added_names : (env : Env) (d : Scope) (l : TypedLine) (names : List ScopeEntry) (ys : List Thing) → (out-TypedLine l).adds ≡ Some names → Brought env d l names (out-TypedLine l).form ys → Good env d (Specify l) ys
added_names env d l names ys h k =
    subst (λ (o : Option (List ScopeEntry)). Agrees (env ++ added_by env (head_of l) (joined (components env (head_of l) (items_of (under l)))) (effect_under (under l) env (head_of l)) o) (d ++ ys)) (sym h) k

-- ---- what comes of work is what the rules know of it

pub good : (d : Scope) (t : Thread) (w : Work) (r : Run) (o : Outcome) → Does d t w r o → (env : Env) → Agrees env d → GoodOutcome env d w o
good _ _ _ _ _ (Running.stops_before d t w) env a = tt
good _ _ _ _ _ (Running.stops_after d t w r o x) env a = tt
good _ _ _ _ _ (Running.nothing d t) env a = refl
good _ _ _ _ _ (Running.both d t w u r s xs ys x y) env a = (xs, ys, refl, good d t w r (Gave xs) x env a, good d t u s (Gave ys) y env a)
good _ _ _ _ _ (Running.first_stops d t w u r x) env a = tt
good _ _ _ _ _ (Running.second_stops d t w u r s xs x y) env a = tt
good _ _ _ _ _ (Running.operation d t f es r xs x h y i) env a =
    (x, None, refl, operation_known env f es xs x h (evaluated env d es xs (good d t (evaluate es) r (Gave xs) y env a)) i, subst (λ (z : Option ℤ). Tells z None) (sym (operation_size env f es h)) tt)
good _ _ _ _ _ (Running.decided d t k op b es fs r xs i x h told) env a =
    (Some (v.Bool b), None, refl, decided_known env k op b es fs xs i (evaluated env d es xs (good d t (evaluate es) r (Gave xs) x env a)) h told, tt)
good _ _ _ _ _ (Running.operand_stops d t f es r h x) env a = tt
good _ _ _ _ _ (Running.read d t el r s at n c x y touches has told) env a = read_good env d el at n x (good d t (Find el) r (Gave (Element at n ∷ [])) y env a) told
good _ _ _ _ _ (Running.read_nothing d t el r at n x y bare told) env a = read_good env d el at n x (good d t (Find el) r (Gave (Element at n ∷ [])) y env a) told
good _ _ _ _ _ (Running.held d t el r x n y told) env a = held_good env d el x n (good d t (Find el) r (Gave (Held x n ∷ [])) y env a) told
good _ _ _ _ _ (Running.element_stops d t el r x) env a = tt
good _ _ _ _ _ (Running.size_of_element d t k e el r y n h x told) env a = size_good env d k e el y n h (good d t (Find el) r (Gave (y ∷ [])) x env a) told
good _ _ _ _ _ (Running.size_noted d t k e n h) env a = noted_size_good env d k e n h
good _ _ _ _ _ (Running.size d t k e n h told) env a = plain_size_good env d k e n h told
good _ _ _ _ _ (Running.result d t k callee xs r n x) env a = (n, None, refl, tt, tt)
good _ _ _ _ _ (Running.call_stops d t k callee xs r x) env a = tt
good _ _ _ _ _ (Running.named d t el x y r o h f z) env a =
    find_good env d el y o (name_found env d (out-TypedElement el).referent.spec x y a h f) (good d t (Select (out-TypedElement el).selectors y) r o z env a)
good _ _ _ _ _ (Running.all_selected d t x) env a = λ place size value f. (x, refl, all_same place size value f) where
  all_same : (place : Option SelectedPart) (size : Option ℤ) (value : Option Value) → FoundAs d place size value x → FoundAs d (placed_from [] env size place) size value x
  all_same None size value f = f
  all_same (Some p) size value f = f
good _ _ _ _ _ (Running.selects d t s ss x y r q xs o z sel w) env a =
    select_good env d s ss x y xs o (evaluated env d (bounds (out-Selector s)) xs (good d t (evaluate (bounds (out-Selector s))) r (Gave xs) z env a)) sel (good d t (Select ss y) q o w env a)
good _ _ _ _ _ (Running.bound_stops d t s ss x r y) env a = tt
good _ _ _ _ _ (Running.reaches d t k els r s xs x y) env a = tt
good _ _ _ _ _ (Running.finding_stops d t k els r x) env a = tt
good _ _ _ _ _ (Running.calls d t n xs l r s ys o h x suits y) env a = call_good env d n xs (of_process o)
good _ _ _ _ _ (Running.calls_formula d t n xs formals results r s ys o h x suits y) env a = call_good env d n xs (of_process o)
good _ _ _ _ _ (Running.calls_export d t n actuals us r s xs h x clean shown) env a = tt
good _ _ _ _ _ (Running.actual_stops d t n xs r x) env a = tt
good _ _ _ _ _ (Running.specifies d t l names r xs ys h x brings) env a =
    added_names env d l names ys h (brought env d t l names (out-TypedLine l).form xs ys refl a (good d t (specifying (out-TypedLine l).form) r (Gave xs) x env a) brings)
good _ _ _ _ _ (Running.specifying_stops d t l r x) env a = tt
good _ _ _ _ _ (Running.main d t way next l w r s xs o h x y) env a = main_good env d way l (ended way o)
good _ _ _ _ _ (Running.main_stops d t way next l w r h x) env a = tt
good _ _ _ _ _ (Running.leaves d t way l e r n h k x) env a = tt
good _ _ _ _ _ (Running.loops d t way l e r s q n xs o h k x y z) env a = main_good env d way l o
good _ _ _ _ _ (Running.loop_stops d t way l e r s n h k x y) env a = tt
good _ _ _ _ _ (Running.condition_stops d t way l e r h x) env a = tt
good _ _ _ _ _ (Running.chosen d t l e r s n o h x y) env a = main_good env d Choice l (of_process o)
good _ _ _ _ _ (Running.passed_over d t l e r n h x) env a = tt
good _ _ _ _ _ (Running.left_out d t l) env a = tt
good _ _ _ _ _ (Running.shut d t l e g r n h x) env a = tt
good _ _ _ _ _ (Running.alternation d t way l by r s xs o h k x y) env a = main_good env d way l (of_process o)
good _ _ _ _ _ (Running.waiting_stops d t way l by r h k x) env a = tt
good _ _ _ _ _ (Running.idle d t l) env a = tt
good _ _ _ _ _ (Running.lines_under d t way l r o h k x) env a = under_good env d way l o
good _ _ _ _ _ (Running.replicates d t way l by r s base count i j o h k x noted y) env a = under_good env d way l o
good _ _ _ _ _ (Running.replicator_stops d t way l by r h x) env a = tt
good _ _ _ _ _ (Running.no_line d t way) env a = item_good env d way [] (at_end way)
good _ _ _ _ _ (Running.with_specification d t way l ls names r s xs o h x y) env a = item_good env d way (l ∷ ls) o
good _ _ _ _ _ (Running.specification_stops d t way l ls names r h x) env a = tt
good _ _ _ _ _ (Running.main_line d t way l ls r o h x) env a = item_good env d way (l ∷ ls) o
good _ _ _ _ _ (Running.none_left d t way k) env a = pieces_good env d way k [] (at_end way)
good _ _ _ _ _ (Running.goes_on d t way k p ps r s o q x g y) env a = pieces_good env d way k (p ∷ ps) q
good _ _ _ _ _ (Running.ends_there d t way k p ps r o x h) env a = pieces_good env d way k (p ∷ ps) o
good _ _ _ _ _ (Running.not_taken d t k p ps r o x) env a = pieces_good env d Taken k (p ∷ ps) o
good _ _ _ _ _ (Running.beside d t k p ps r s o q x y) env a = pieces_good env d Together k (p ∷ ps) (both_ended o q)
