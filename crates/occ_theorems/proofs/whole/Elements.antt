-- Elements and calls without faults: what they are is known, and their trees are there.
use Rattle.std.proofs.Common.{◌≡◌, ◌∙◌, ◌+◌, ◌++◌, ◌||◌, ℕ, Bool, true, false, List, [], ◌∷◌, map, length, Option, Some, None, if◌then◌else◌, refl, ap, sym, subst, arith}
use Rattle.std.specs.Prelude.{◌==◌, ℤ, pos}
use Rattle.std.specs.Str.{bytes_eq}
use Rattle.std.specs.List.{list_any}
use Rattle.occ_base.specs.declared.code.Code.TheVariants as code
use Rattle.occ_base.specs.declared.fault.Fault.{Fault}
use Rattle.occ_expr_operations.specs.OpenExprs.{by_value, called_tree, conversion_open, formal_types, operand_call, typed_call}
use Rattle.occ_expr_operations.specs.Elements.{component_at, element_open, element_of, field_at, field_place_from, one_selector, place_tree, selector, selector_in, selectors, with_selectors}
use Rattle.occ_expr_operations.specs.Operations.{converted, plain}
use Rattle.occ_expr_operations.specs.Parts.{ExprView, Said, argument_as, call, call_of, call_of_type, component, element_of_type, field_or_component, function_call, in_scope, kind_of_whole, named, named_element, no_call, no_function, one_result, only, own_faults, part, segment_element, segment_of, subscript, subscripts, table, table_of_one_as, terms, whole_element, whole_element_of}
use Rattle.occ_expr_operations.specs.Views.{BoundsView, ElementView, call_open, call_open_of, components_of, converted_call, converted_element, item_opens, named_tree, part_of, segment_tree, whole_open_of, whole_element_open}
use Rattle.occ_scope.specs.Lookup.{element}
use Rattle.occ_scope.specs.Visible.{referent, visible}
use Rattle.occ_scope.specs.declared.meaning.Meaning.{Meaning}
use Rattle.occ_scope.specs.declared.meaning.Meaning.TheVariants as m
use Rattle.occ_scope.specs.declared.meaning.Referent.{Referent}
use Rattle.occ_scope.specs.declared.meaning.Whole.{Whole}
use Rattle.occ_scope.specs.declared.scope.Scope.{Scope}
use Rattle.occ_typing_operands.specs.Operators.{all_faults, is_faulty, kinds}
use Rattle.occ_typing_operands.specs.Parts.{field, field_named, field_reported, subscripted}
use Rattle.occ_typing_operands.specs.Settling.{Finding, fault_of, int, known, silent}
use Rattle.occ_typing_operands.specs.declared.kind.Kind.{Kind}
use Rattle.occ_typing_operands.specs.declared.kind.Kind.TheVariants as k
use Rattle.occ_typing_operands.specs.declared.kind.Known.{Known}
use Rattle.occ_typing_tables.specs.Segments.{bound, constant_of, count_of, is_beyond, is_negative, segment_in, taken, to_the_end}
use Rattle.occ_typing_tables.specs.Terms.{Judged, alone, hidden_faults, judged, judged_all, unless_faulty, with_items}
use Rattle.occ_typing_tables.specs.declared.selection.BoundTerms.{BoundTerms}
use Rattle.occ_typing_tables.specs.declared.selection.BoundTerms.TheVariants as bounds
use Rattle.occ_typing_rules.specs.Calling.{Matched, as_many, each_for, matched}
use Rattle.occ_typing_rules.specs.Numbering.{any_faulty, number_faults, of_another_number}
use Rattle.occ_typing_rules.specs.Placing.{each_placed, placed}
use Rattle.occ_typing_rules.specs.declared.open_expr.OpenExpr.{OpenExpr}
use Rattle.occ_typing_rules.specs.declared.open_expr.OpenExpr.TheVariants as dr
use Rattle.occ_typing_rules.specs.declared.expr.Selector.{Selector}
use Rattle.occ_typing_rules.specs.declared.expr.Selector.TheViews.{out-roll-TypedElement}
use Rattle.occ_typing_rules.specs.declared.expr.TypedElement.{TypedElement, out-TypedElement, roll-TypedElement}
use Rattle.occ_typing_rules.specs.declared.expr.TypedExpr.{TypedExpr}
use Rattle.occ_typing_rules.specs.declared.expr.TypedExpr.TheVariants as typed
use Rattle.occ_types.specs.Fits.{unnamed}
use Rattle.occ_types.specs.Unknown.{any_of, fields_unknown}
use Rattle.occ_types.specs.View.{as_array, fields_in}
use Rattle.occ_types.specs.declared.interface.Formal.{Formal}
use Rattle.occ_types.specs.declared.types.Field.{Field}
use Rattle.occ_types.specs.declared.types.OccType.{OccType}
use Rattle.occ_types.specs.declared.types.OccType.TheVariants as t
use Rattle.occ_types.proofs.Unknowns.{unknown_array}
use Rattle.occ_typing.specs.Known.{AreKnownFormals, AreKnownTypes, IsKnownElement, IsKnownScope, IsKnownType}
use Rattle.occ_typing.specs.WholeTrees.{AreWholeExprs, AreWholeSelectors, IsWholeElement, IsWholeExpr, IsWholeSelector}
use Rattle.occ_typing.specs.WholeTrees as wholes
use Rattle.occ_typing.proofs.whole.Made as made
use Rattle.occ_theorems.proofs.whole.Clean.{Has, IsThere, back_clean, front_clean, same_number}
use Rattle.occ_theorems.proofs.whole.Names.{IsElement, NamesElement, NamesFunction, PerhapsKnown, element_found, element_named, function_named, visible_known}
use Rattle.occ_theorems.proofs.whole.Operating.{opened_reads, known_typed}
use Rattle.occ_theorems.proofs.whole.Literals.{conversion_reads, plain_reads}
use Rattle.occ_theorems.proofs.whole.Reading.{IsKnown, MayRead, ReadsAs, chosen, field_reads, int_known, placed_as, subscripted_reads}
use Rattle.occ_theorems.proofs.whole.Roots.{actuals_by_value}
use Rattle.occ_theorems.proofs.whole.Sound.{AllSound, Sound, alone_none, reads_no_fault, table_sound, with_clean}
use Rattle.occ_theorems.proofs.whole.Trees.{EachTree, each_there}
use Rattle.occ_theorems.proofs.whole.Types.{fields_hold, parts_hold, unnamed_holds}

abbrev whole_or : Option Whole → Whole → Whole
whole_or None x = x
whole_or (Some y) x = y

abbrev view_or : Option ExprView → ExprView → ExprView
view_or None x = x
view_or (Some y) x = y

abbrev IsFunction : Option Meaning → Type 0
IsFunction None = ⊥
IsFunction (Some m.Faulty) = ⊥
IsFunction (Some (m.Type of)) = ⊥
IsFunction (Some (m.Protocol c)) = ⊥
IsFunction (Some (m.Procedure fs)) = ⊥
IsFunction (Some (m.Function fs results)) = Unit {0}
IsFunction (Some (m.Element whole)) = ⊥

-- ---- what is asked of the parts

abbrev pub SaidSound : Said → OpenExpr → Type 0
SaidSound x d = x.faults ≡ [] → Sound (judged x.term) d

abbrev pub ExprSound : Scope → ExprView → Type 0
ExprSound s e = SaidSound (e.said s) (e.open_expr s)

abbrev pub AllExprs : Scope → List ExprView → Type 0
AllExprs s [] = Unit {0}
AllExprs s (e ∷ es) = ExprSound s e × AllExprs s es

pub all_sound : (s : Scope) (es : List ExprView) → AllExprs s es → own_faults (in_scope s es) ≡ [] → AllSound (judged_all (terms (in_scope s es))) (item_opens s es)
all_sound s [] h e = tt
all_sound s (x ∷ es) h e =
    (h.0 (front_clean (x.said s).faults (own_faults (in_scope s es)) e), all_sound s es h.1 (back_clean (x.said s).faults (own_faults (in_scope s es)) e))

-- what is known of an element, and its whole tree, of which the same is known
abbrev pub ElementReads : Kind → Option TypedElement → Type 0
ElementReads k.Faulty el = ⊥
ElementReads (k.Untyped f) el = ⊥
ElementReads (k.Known x) None = ⊥
ElementReads (k.Known x) (Some el) = IsKnownType x.of × ((out-TypedElement el).known ≡ x) × IsWholeElement el

-- ---- subscripts

abbrev Selected : Kind → Option Selector → Type 0
Selected kind x = IsKnown kind × Has IsWholeSelector x

component_there : (t : Option TypedExpr) → Has IsWholeExpr t → Has IsWholeSelector (component_at t)
component_there None h = h
component_there (Some t) h = made.component t h

component_reads : (s : Scope) (of : OccType) (e : ExprView) → ExprSound s e → IsKnownType of → (component s of e).faults ≡ [] → Selected (component s of e).kind (component_at (place_tree s e))
unfolding component
component_reads s of e h known c =
    let x = e.said s in
    let y = plain (judged x.term) in
    let rest = back_clean x.faults (y.faults ++ (subscripted of y.kind).faults) c in
    let r = plain_reads (judged x.term) (e.open_expr s) (h (front_clean x.faults (y.faults ++ (subscripted of y.kind).faults) c)) (front_clean y.faults (subscripted of y.kind).faults rest) in
    let z = subscripted_reads of y.kind (e.open_expr s) known r (back_clean y.faults (subscripted of y.kind).faults rest) in
    (z.0, component_there (place_tree s e) z.1)

place_if_only : (b : Bool) (n : ℕ) (rest : Option ℕ) → (b ≡ false → IsThere rest) → IsThere (if b then Some n else rest)
place_if_only true n rest h = tt
place_if_only false n rest h = h refl

-- a field that is there has its place
place_there : (n : ℕ) (name : List ℕ) (fs : List Field) → IsThere (field_named name fs) → IsThere (field_place_from n name fs)
place_there n name [] h = h
place_there n name (f ∷ fs) h = place_if_only (bytes_eq f.name name) n (field_place_from (n + 1) name fs) (λ e. place_there (n + 1) name fs (subst (λ (b : Bool). IsThere (if b then Some f.of else field_named name fs)) e h))

field_reported_there : (name : List ℕ) (found : Option OccType) → (field_reported name found).faults ≡ [] → IsThere found
field_reported_there name None e = absurd cc
field_reported_there name (Some of) e = tt

at_place : (name : List ℕ) (n : Option ℕ) → IsThere n → Has IsWholeSelector (field_at name n)
at_place name None h = h
at_place name (Some n) h = made.field n name

field_selected : (name : List ℕ) (fs : List Field) → any_of (fields_unknown fs) ≡ false → (field fs name).faults ≡ [] → Selected (field fs name).kind (field_at name (field_place_from 0 name fs))
field_selected name fs known c = (
  field_reads name fs (field_named name fs) known refl c,
  at_place name (field_place_from 0 name fs) (place_there 0 name fs (field_reported_there name (field_named name fs) c)),
)

by_name : (s : Scope) (of : OccType) (fs : List Field) (e : ExprView) (name : Option (List ℕ)) → ExprSound s e → IsKnownType of → any_of (fields_unknown fs) ≡ false → (field_or_component s of fs e name).faults ≡ [] → Selected (field_or_component s of fs e name).kind (selector_in s e (Some fs) name)
by_name s of fs e None h known f c = component_reads s of e h known c
by_name s of fs e (Some name) h known f c = field_selected name fs f c

in_fields : (s : Scope) (of : OccType) (fields : Option (List Field)) (e : ExprView) → ExprSound s e → IsKnownType of → fields_in (unnamed of) ≡ fields → (part s of fields e).faults ≡ [] → Selected (part s of fields e).kind (selector_in s e fields e.name)
unfolding part
in_fields s of None e h known is c = component_reads s of e h known c
in_fields s of (Some fs) e h known is c = by_name s of fs e e.name h known (fields_hold (unnamed of) fs is ∙ unnamed_holds of ∙ known) c

subscript_reads : (s : Scope) (e : ExprView) (kind : Kind) → ExprSound s e → IsKnown kind → (subscript s e kind).faults ≡ [] → Selected (subscript s e kind).kind (selector s e kind)
unfolding subscript selector
subscript_reads s e k.Faulty h g c = absurd g
subscript_reads s e (k.Untyped f) h g c = absurd g
subscript_reads s e (k.Known x) h g c = in_fields s x.of (fields_in (unnamed x.of)) e h g refl c

more_selectors : (xs ys : List Selector) → AreWholeSelectors xs → AreWholeSelectors ys → AreWholeSelectors (xs ++ ys)
more_selectors _ ys wholes.no_selector g = g
more_selectors _ ys (wholes.one_selector x xs here following) g = wholes.one_selector x (xs ++ ys) here (more_selectors xs ys following g)

both_selectors : (xs ys : Option (List Selector)) → Has AreWholeSelectors xs → Has AreWholeSelectors ys → Has AreWholeSelectors (with_selectors xs ys)
both_selectors None ys h g = h
both_selectors (Some xs) None h g = g
both_selectors (Some xs) (Some ys) h g = more_selectors xs ys h g

one_there : (x : Option Selector) → Has IsWholeSelector x → Has AreWholeSelectors (one_selector x)
one_there None h = h
one_there (Some x) h = wholes.one_selector x [] h wholes.no_selector

pub subscripts_read : (s : Scope) (es : List ExprView) (kind : Kind) → AllExprs s es → IsKnown kind → (subscripts s es kind).faults ≡ [] → IsKnown (subscripts s es kind).kind × Has AreWholeSelectors (selectors s es kind)
subscripts_read s [] kind h g c = (g, wholes.no_selector)
subscripts_read s (e ∷ es) kind h g c =
    let x = subscript s e kind in
    let y = subscripts s es x.kind in
    let a = subscript_reads s e kind h.0 g (front_clean x.faults y.faults c) in
    let b = subscripts_read s es x.kind h.1 a.0 (back_clean x.faults y.faults c) in
    (b.0, both_selectors (one_selector (selector s e kind)) (selectors s es x.kind) (one_there (selector s e kind) a.1) b.1)

-- ---- a name with subscripts

element_is : (kind : Kind) (name : List ℕ) (r : Option Referent) (xs : Option (List Selector)) → IsKnown kind → Has NamesElement r → Has AreWholeSelectors xs → ElementReads kind (element_of kind name r xs)
unfolding element_of
element_is k.Faulty name r xs h g i = h
element_is (k.Untyped f) name r xs h g i = h
element_is (k.Known x) name None xs h g i = absurd g
element_is (k.Known x) name (Some r) None h g i = absurd i
element_is (k.Known x) name (Some r) (Some xs) h g i =
    let el = roll-TypedElement (record { known = x; name = name; referent = r; selectors = xs }) in
    let is = out-roll-TypedElement (record { known = x; name = name; referent = r; selectors = xs }) in (
      h,
      ap (λ z. z.known) is,
      wholes.whole_element el (subst (λ z. IsKnownType z.known.of) (sym is) h) (subst (λ z. IsKnownElement z.referent.meaning) (sym is) g) (subst (λ z. AreWholeSelectors z.selectors) (sym is) i),
    )

whole_known : (x : Option Whole) (whole : Whole) → x ≡ Some whole → IsKnownType whole.of → IsKnown (kind_of_whole x)
whole_known None whole is h = absurd cc
whole_known (Some y) whole is h = subst (λ (z : Whole). IsKnownType z.of) (sym (ap (λ (o : Option Whole). whole_or o y) is)) h

pub named_element_reads : (s : Scope) (name : List ℕ) (es : List ExprView) → IsKnownScope s → AllExprs s es → (named_element s name es).faults ≡ [] → ElementReads (named_element s name es).kind (named_tree s name es)
unfolding named_element named_tree
named_element_reads s name es known h c =
    let x = named (element name (visible s name)) in
    let y = subscripts s es x.kind in
    let f = element_found name (visible s name) (visible_known s name known) (front_clean x.faults y.faults c) in
    let z = subscripts_read s es x.kind h (whole_known (element name (visible s name)).found f.whole f.found f.known) (back_clean x.faults y.faults c) in
    element_is y.kind name (referent s name) (selectors s es x.kind) z.0 (element_named s name f.whole f.is f.known) z.1

-- the name stands for an element
pub named_stands : (s : Scope) (name : List ℕ) (es : List ExprView) → IsKnownScope s → (named_element s name es).faults ≡ [] → IsElement (visible s name) (element name (visible s name))
unfolding named_element
named_stands s name es known c =
    let x = named (element name (visible s name)) in
    element_found name (visible s name) (visible_known s name known) (front_clean x.faults (subscripts s es x.kind).faults c)

pub element_may : (kind : Kind) (el : Option TypedElement) → ElementReads kind el → MayRead kind (element_open el)
element_may k.Faulty el h = absurd h
element_may (k.Untyped f) el h = absurd h
element_may (k.Known x) None h = absurd h
element_may (k.Known x) (Some el) h = known_typed x (typed.Element el) h.0 (made.element el h.2)

-- ---- segments

-- bounds of which each has its whole tree where it is an INT
abbrev pub BoundSound : BoundTerms → (Option ℕ → Option Selector) → Type 0
BoundSound (bounds.From x) tree = (d : OpenExpr) × Sound (judged x) d × ((n : Option ℕ) → Has IsWholeExpr (placed d int) → Has IsWholeSelector (tree n))
BoundSound (bounds.For x) tree = (d : OpenExpr) × Sound (judged x) d × ((n : Option ℕ) → Has IsWholeExpr (placed d int) → Has IsWholeSelector (tree n))
BoundSound (bounds.FromFor x y) tree = (d : OpenExpr) × (e : OpenExpr) × Sound (judged x) d × Sound (judged y) e × ((n : Option ℕ) → Has IsWholeExpr (placed d int) → Has IsWholeExpr (placed e int) → Has IsWholeSelector (tree n))

abbrev pub BoundsSound : Scope → BoundsView → Type 0
BoundsSound s b = (b.said s).faults ≡ [] → BoundSound (b.said s).bounds (b.tree s)

abbrev Segmented : Kind → (Option ℕ → Option Selector) → Type 0
Segmented kind tree = IsKnown kind × ((n : Option ℕ) → Has IsWholeSelector (tree n))

taken_or : (b : Bool) (n : Option ℕ) (of : OccType) → IsKnownType of → (chosen b (fault_of code.T6) (record { faults = []; kind = known (t.Array n of) None })).faults ≡ [] → IsKnown (chosen b (fault_of code.T6) (record { faults = []; kind = known (t.Array n of) None })).kind
taken_or true n of h e = absurd cc
taken_or false n of h e = unknown_array n of ∙ h

taken_known : (n : Option ℕ) (of : OccType) (base count : Option ℤ) → IsKnownType of → (taken n of base count).faults ≡ [] → IsKnown (taken n of base count).kind
taken_known n of base count h e = taken_or (is_negative count || is_beyond n base count) (count_of count) of h e

-- one operand, and two, that are wanted to be INTs
one_none : (x : Finding) (d : OpenExpr) → ReadsAs int x.kind d → list_any is_faulty (kinds (x ∷ [])) ≡ false
one_none x d h = ap (λ (b : Bool). b || false) (reads_no_fault int x.kind d h)

two_none : (x y : Finding) (d e : OpenExpr) → ReadsAs int x.kind d → ReadsAs int y.kind e → list_any is_faulty (kinds (x ∷ y ∷ [])) ≡ false
two_none x y d e h g = ap (λ (b : Bool). b || (is_faulty y.kind || false)) (reads_no_fault int x.kind d h) ∙ ap (λ (b : Bool). b || false) (reads_no_fault int y.kind e g)

one_clean : (x whole : Finding) → (with_items (x ∷ []) whole).faults ≡ [] → x.faults ≡ []
one_clean x whole e = front_clean x.faults [] (front_clean (x.faults ++ []) (unless_faulty (kinds (x ∷ [])) whole).faults e)

two_clean : (x y whole : Finding) → (with_items (x ∷ y ∷ []) whole).faults ≡ [] → (x.faults ≡ []) × (y.faults ≡ [])
two_clean x y whole e =
    let g = front_clean (x.faults ++ (y.faults ++ [])) (unless_faulty (kinds (x ∷ y ∷ [])) whole).faults e in
    (front_clean x.faults (y.faults ++ []) g, front_clean y.faults [] (back_clean x.faults (y.faults ++ []) g))

one_bound : (x : Finding) (d : OpenExpr) (whole : Finding) → (x.faults ≡ [] → ReadsAs int x.kind d) → (whole.faults ≡ [] → IsKnown whole.kind) → (with_items (x ∷ []) whole).faults ≡ [] → IsKnown (with_items (x ∷ []) whole).kind × Has IsWholeExpr (placed d int)
one_bound x d whole h g e =
    let r = h (one_clean x whole e) in
    let y = with_clean (x ∷ []) whole (one_none x d r) e in
    (subst (λ (z : Finding). IsKnown z.kind) (sym y.0) (g y.1), placed_as int x.kind d int_known r)

two_bounds : (x y : Finding) (d f : OpenExpr) (whole : Finding) → (x.faults ≡ [] → ReadsAs int x.kind d) → (y.faults ≡ [] → ReadsAs int y.kind f) → (whole.faults ≡ [] → IsKnown whole.kind) → (with_items (x ∷ y ∷ []) whole).faults ≡ [] → IsKnown (with_items (x ∷ y ∷ []) whole).kind × Has IsWholeExpr (placed d int) × Has IsWholeExpr (placed f int)
two_bounds x y d f whole h i g e =
    let c = two_clean x y whole e in
    let a = h c.0 in
    let b = i c.1 in
    let z = with_clean (x ∷ y ∷ []) whole (two_none x y d f a b) e in
    (subst (λ (w : Finding). IsKnown w.kind) (sym z.0) (g z.1), placed_as int x.kind d int_known a, placed_as int y.kind f int_known b)

-- nothing has no segment
never : (c : (fault_of code.T2).faults ≡ []) → IsKnown (fault_of code.T2).kind
never c = absurd cc

segment_bounds : (parts : Option (Option ℕ × OccType)) (b : BoundTerms) (tree : Option ℕ → Option Selector) → ((p : Option ℕ × OccType) → parts ≡ Some p → IsKnownType p.1) → BoundSound b tree → (segment_in parts b).faults ≡ [] → Segmented (segment_in parts b).kind tree
segment_bounds None (bounds.From x) tree h g e = let r = one_bound (bound (judged x)) g.0 (fault_of code.T2) (g.1.wanted int) never e in (r.0, λ n. g.2 n r.1)
segment_bounds None (bounds.For x) tree h g e = let r = one_bound (bound (judged x)) g.0 (fault_of code.T2) (g.1.wanted int) never e in (r.0, λ n. g.2 n r.1)
segment_bounds None (bounds.FromFor x y) tree h g e = let r = two_bounds (bound (judged x)) (bound (judged y)) g.0 g.1 (fault_of code.T2) (g.2.wanted int) (g.3.wanted int) never e in (r.0, λ n. g.4 n r.1 r.2)
segment_bounds (Some parts) (bounds.From x) tree h g e =
    let z = bound (judged x) in
    let r = one_bound z g.0 (taken parts.0 parts.1 (constant_of z.kind) (to_the_end parts.0 (constant_of z.kind))) (g.1.wanted int) (taken_known parts.0 parts.1 (constant_of z.kind) (to_the_end parts.0 (constant_of z.kind)) (h parts refl)) e in
    (r.0, λ n. g.2 n r.1)
segment_bounds (Some parts) (bounds.For x) tree h g e =
    let z = bound (judged x) in
    let r = one_bound z g.0 (taken parts.0 parts.1 (Some (pos 0)) (constant_of z.kind)) (g.1.wanted int) (taken_known parts.0 parts.1 (Some (pos 0)) (constant_of z.kind) (h parts refl)) e in
    (r.0, λ n. g.2 n r.1)
segment_bounds (Some parts) (bounds.FromFor x y) tree h g e =
    let z = bound (judged x) in
    let w = bound (judged y) in
    let r = two_bounds z w g.0 g.1 (taken parts.0 parts.1 (constant_of z.kind) (constant_of w.kind)) (g.2.wanted int) (g.3.wanted int) (taken_known parts.0 parts.1 (constant_of z.kind) (constant_of w.kind) (h parts refl)) e in
    (r.0, λ n. g.4 n r.1 r.2)

segment_reads : (kind : Kind) (b : BoundTerms) (tree : Option ℕ → Option Selector) → IsKnown kind → BoundSound b tree → (segment_of kind b).faults ≡ [] → Segmented (segment_of kind b).kind tree
unfolding segment_of
segment_reads k.Faulty b tree h g e = absurd h
segment_reads (k.Untyped f) b tree h g e = absurd h
segment_reads (k.Known x) b tree h g e = segment_bounds (as_array (unnamed x.of)) b tree (λ p is. parts_hold (unnamed x.of) p is ∙ unnamed_holds x.of ∙ h) g e

pub element_known : (kind : Kind) (el : Option TypedElement) → ElementReads kind el → IsKnown kind × Has IsWholeElement el
element_known k.Faulty el h = absurd h
element_known (k.Untyped f) el h = absurd h
element_known (k.Known x) None h = absurd h
element_known (k.Known x) (Some el) h = (h.0, h.2)

element_names : (el : TypedElement) → IsWholeElement el → IsKnownElement (out-TypedElement el).referent.meaning
element_names _ (wholes.whole_element el h name selecting) = name

element_selects : (el : TypedElement) → IsWholeElement el → AreWholeSelectors (out-TypedElement el).selectors
element_selects _ (wholes.whole_element el h name selecting) = selecting

part_is : (kind : Kind) (el : Option TypedElement) (x : Option Selector) (following : Option (List Selector)) → IsKnown kind → Has IsWholeElement el → Has IsWholeSelector x → Has AreWholeSelectors following → ElementReads kind (part_of kind el x following)
unfolding part_of
part_is kind None x following h g i j = absurd g
part_is kind (Some el) x following h g i j =
    let z = out-TypedElement el in
    element_is kind z.name (Some z.referent) (with_selectors (with_selectors (Some z.selectors) (one_selector x)) following) h (element_names el g)
    (both_selectors (with_selectors (Some z.selectors) (one_selector x)) following (both_selectors (Some z.selectors) (one_selector x) (element_selects el g) (one_there x i)) j)

pub segment_element_reads : (s : Scope) (el : ElementView) (b : BoundsView) (es : List ExprView) → ((el.reported s).faults ≡ [] → ElementReads (el.reported s).kind (el.tree s)) → BoundsSound s b → AllExprs s es
    → (segment_element s (el.reported s) (b.said s) es).faults ≡ [] → ElementReads (segment_element s (el.reported s) (b.said s) es).kind (segment_tree s el b es)
segment_element_reads s el b es h g i e =
    let x = el.reported s in
    let y = b.said s in
    let z = segment_of x.kind y.bounds in
    let w = subscripts s es z.kind in
    let first = front_clean (x.faults ++ (y.faults ++ z.faults)) w.faults e in
    let second = back_clean x.faults (y.faults ++ z.faults) first in
    let a = element_known x.kind (el.tree s) (h (front_clean x.faults (y.faults ++ z.faults) first)) in
    let c = segment_reads x.kind y.bounds (b.tree s) a.0 (g (front_clean y.faults z.faults second)) (back_clean y.faults z.faults second) in
    let d = subscripts_read s es z.kind i c.0 (back_clean (x.faults ++ (y.faults ++ z.faults)) w.faults e) in
    part_is w.kind (el.tree s) (b.tree s (components_of x.kind)) (selectors s es z.kind) d.0 a.1 (c.1 (components_of x.kind)) d.1

-- ---- calls

each_for_read : (fs : List Formal) (js : List Judged) (ds : List OpenExpr) → AreKnownFormals fs → length fs ≡ length js → AllSound js ds → all_faults (each_for fs js) ≡ [] → (list_any is_faulty (kinds (each_for fs js)) ≡ false) × EachTree ds (formal_types fs)
each_for_read [] [] [] known same h e = (refl, tt)
each_for_read [] [] (d ∷ ds) known same h e = absurd h
each_for_read [] (j ∷ js) ds known same h e = absurd (omega (arith, same))
each_for_read (f ∷ fs) [] ds known same h e = absurd (omega (arith, same))
each_for_read (f ∷ fs) (j ∷ js) [] known same h e = absurd h
each_for_read (f ∷ fs) (j ∷ js) (d ∷ ds) known same h e =
    let x = j.under f.of in
    let r = h.0.wanted f.of (front_clean x.faults (all_faults (each_for fs js)) e) in
    let rest = each_for_read fs js ds known.1 (omega (arith, same)) h.1 (back_clean x.faults (all_faults (each_for fs js)) e) in
    (ap (λ (b : Bool). b || list_any is_faulty (kinds (each_for fs js))) (reads_no_fault f.of x.kind d r) ∙ rest.0, (placed_as f.of x.kind d known.0 r, rest.1))

number_reported : (b : Bool) → b ≡ false → number_faults (false || b) ≡ [] → ⊥
number_reported true is e = absurd cc
number_reported false is e = absurd cc

-- of more or fewer values than places it is reported
pub another_reported : (js : List Judged) (ds : List OpenExpr) → AllSound js ds → of_another_number false (map alone js) ≡ [] → ⊥
another_reported js ds h e =
    let xs = map alone js in
    number_reported (any_faulty xs) (alone_none js ds h (front_clean (all_faults xs) (number_faults (false || any_faulty xs)) e)) (back_clean (all_faults xs) (number_faults (false || any_faulty xs)) e)

abbrev matched_if : Bool → List Formal → List Judged → Matched
matched_if b formals js = if b then as_many (each_for formals js) else record { faults = of_another_number false (map alone js); is_faulty = true }

if_matched : (b : Bool) (fs : List Formal) (js : List Judged) (ds : List OpenExpr) → AreKnownFormals fs → (b ≡ true → length fs ≡ length js) → AllSound js ds → (matched_if b fs js).faults ≡ [] → ((matched_if b fs js).is_faulty ≡ false) × EachTree ds (formal_types fs)
if_matched true fs js ds known same h e = each_for_read fs js ds known (same refl) h e
if_matched false fs js ds known same h e = absurd (another_reported js ds h e)

pub matched_reads : (fs : List Formal) (js : List Judged) (ds : List OpenExpr) → AreKnownFormals fs → AllSound js ds → (matched fs js).faults ≡ [] → ((matched fs js).is_faulty ≡ false) × EachTree ds (formal_types fs)
matched_reads fs js ds known h e = if_matched (length fs == length js) fs js ds known (same_number (length fs) (length js)) h e

result_known : (results : List OccType) → AreKnownTypes results → (one_result results).faults ≡ [] → IsKnown (one_result results).kind
result_known [] h e = absurd cc
result_known (of ∷ []) h e = h.0
result_known (of ∷ q ∷ qs) h e = absurd cc

after_known : (results : List OccType) (b : Bool) → AreKnownTypes results → b ≡ false → (chosen b silent (one_result results)).faults ≡ [] → IsKnown (chosen b silent (one_result results)).kind
after_known results true h is e = absurd cc
after_known results false h is e = result_known results h e

call_there : (x : Known) (r : Option Referent) (ts : Option (List TypedExpr)) → IsKnownType x.of → Has NamesFunction r → Has AreWholeExprs ts → Has IsWholeExpr (typed_call x r ts)
call_there x None ts known h g = h
call_there x (Some r) None known h g = g
call_there x (Some r) (Some ts) known h g = made.call x r (by_value ts) known h (actuals_by_value ts g)

pub called_there : (of : OccType) (r : Option Referent) (fs : List Formal) (ds : List OpenExpr) → IsKnownType of → Has NamesFunction r → EachTree ds (formal_types fs) → Has IsWholeExpr (called_tree of r fs ds)
unfolding called_tree
called_there of r fs ds known h g = call_there (record { of = of; value = None }) r (each_placed ds (formal_types fs)) known h (each_there ds (formal_types fs) g)

operand_read : (kind : Kind) (r : Option Referent) (fs : List Formal) (ds : List OpenExpr) → IsKnown kind → Has NamesFunction r → EachTree ds (formal_types fs) → MayRead kind (operand_call kind r fs ds)
operand_read k.Faulty r fs ds h g i = absurd h
operand_read (k.Untyped f) r fs ds h g i = absurd h
operand_read (k.Known x) r fs ds h g i = opened_reads x (called_tree x.of r fs ds) h (called_there x.of r fs ds h g i)

function_reads : (s : Scope) (es : List ExprView) (fs : List Formal) (results : List OccType) (r : Option Referent) → AllExprs s es → AreKnownFormals fs → AreKnownTypes results → Has NamesFunction r → (function_call fs results (in_scope s es)).faults ≡ []
    → MayRead (function_call fs results (in_scope s es)).kind (operand_call (function_call fs results (in_scope s es)).kind r fs (item_opens s es))
unfolding function_call
function_reads s es fs results r h formals known g e =
    let xs = in_scope s es in
    let x = matched fs (judged_all (terms xs)) in
    let y = chosen x.is_faulty silent (one_result results) in
    let own = front_clean (own_faults xs ++ x.faults) y.faults e in
    let z = matched_reads fs (judged_all (terms xs)) (item_opens s es) formals (all_sound s es h (front_clean (own_faults xs) x.faults own)) (back_clean (own_faults xs) x.faults own) in
    operand_read y.kind r fs (item_opens s es) (after_known results x.is_faulty known z.0 (back_clean (own_faults xs ++ x.faults) y.faults e)) g z.1

argument_reads : (to : OccType) (x : Said) (d : OpenExpr) → IsKnownType to → SaidSound x d → (argument_as (Some to) x).faults ≡ [] → MayRead (argument_as (Some to) x).kind (conversion_open (Some to) (judged x.term) d)
argument_reads to x d h g e =
    let y = converted (Some to) (judged x.term) in
    conversion_reads (Some to) (judged x.term) d h (g (front_clean x.faults y.faults e)) (back_clean x.faults y.faults e)

-- where a name stands for no function, it is reported
no_function_reported : (name : List ℕ) (meaning : Option Meaning) (rest : List Fault) → PerhapsKnown meaning → (IsFunction meaning → ⊥) → no_function name meaning ++ rest ≡ [] → ⊥
no_function_reported name None rest h g e = absurd cc
no_function_reported name (Some m.Faulty) rest h g e = h
no_function_reported name (Some (m.Type None)) rest h g e = h
no_function_reported name (Some (m.Type (Some of))) rest h g e = absurd cc
no_function_reported name (Some (m.Protocol c)) rest h g e = absurd cc
no_function_reported name (Some (m.Procedure fs)) rest h g e = absurd cc
no_function_reported name (Some (m.Function fs results)) rest h g e = g tt
no_function_reported name (Some (m.Element whole)) rest h g e = absurd cc

no_call_reported : (s : Scope) (name : List ℕ) (es : List ExprView) (meaning : Option Meaning) → PerhapsKnown meaning → (IsFunction meaning → ⊥) → visible s name ≡ meaning → (no_call s name es).faults ≡ [] → ⊥
unfolding no_call
no_call_reported s name es meaning h g is e =
    let rest = own_faults (in_scope s es) ++ hidden_faults (judged_all (terms (in_scope s es))) in
    no_function_reported name meaning rest h g (sym (ap (λ (z : Option Meaning). no_function name z ++ rest) is) ∙ e)

type_call : (s : Scope) (name : List ℕ) (es : List ExprView) (to : OccType) (one : Option ExprView) → IsKnownType to → ((e : ExprView) → one ≡ Some e → ExprSound s e) → visible s name ≡ Some (m.Type (Some to)) → (call_of_type s name es (Some to) one).faults ≡ []
    → MayRead (call_of_type s name es (Some to) one).kind (converted_call s (Some to) one)
type_call s name es to None known g is e = absurd (no_call_reported s name es (Some (m.Type (Some to))) known (λ f. f) is e)
type_call s name es to (Some e') known g is e = argument_reads to (e'.said s) (e'.open_expr s) known (g e' refl) e

only_sound : (s : Scope) (es : List ExprView) (e : ExprView) → AllExprs s es → only es ≡ Some e → ExprSound s e
only_sound s [] e h is = absurd cc
only_sound s (x ∷ []) e h is = subst (ExprSound s) (ap (λ (o : Option ExprView). view_or o x) is) h.0
only_sound s (x ∷ y ∷ es) e h is = absurd cc

call_reads_of : (s : Scope) (name : List ℕ) (es : List ExprView) (meaning : Option Meaning) → PerhapsKnown meaning → AllExprs s es → visible s name ≡ meaning → (call_of s name es meaning).faults ≡ [] → MayRead (call_of s name es meaning).kind (call_open_of s name es meaning)
call_reads_of s name es None known h is e = absurd (no_call_reported s name es None known (λ f. f) is e)
call_reads_of s name es (Some m.Faulty) known h is e = absurd known
call_reads_of s name es (Some (m.Type None)) known h is e = absurd known
call_reads_of s name es (Some (m.Type (Some to))) known h is e = type_call s name es to (only es) known (λ x i. only_sound s es x h i) is e
call_reads_of s name es (Some (m.Protocol c)) known h is e = absurd (no_call_reported s name es (Some (m.Protocol c)) known (λ f. f) is e)
call_reads_of s name es (Some (m.Procedure fs)) known h is e = absurd (no_call_reported s name es (Some (m.Procedure fs)) known (λ f. f) is e)
call_reads_of s name es (Some (m.Function fs results)) known h is e = function_reads s es fs results (referent s name) h known.0 known.1 (function_named s name fs results is known.0 known.1) e
call_reads_of s name es (Some (m.Element whole)) known h is e = absurd (no_call_reported s name es (Some (m.Element whole)) known (λ f. f) is e)

pub call_reads : (s : Scope) (name : List ℕ) (es : List ExprView) → IsKnownScope s → AllExprs s es → (call s name es).faults ≡ [] → MayRead (call s name es).kind (call_open s name es)
unfolding call call_open
call_reads s name es known h e = call_reads_of s name es (visible s name) (visible_known s name known) h refl e

-- ---- a name with subscripts as a whole expression

one_table : (to : OccType) (x : Said) (d : OpenExpr) → IsKnownType to → SaidSound x d → (table_of_one_as (Some to) x).faults ≡ [] → MayRead (table_of_one_as (Some to) x).kind (conversion_open (Some to) (judged (table (x ∷ [])).term) (dr.Table (d ∷ [])))
one_table to x d h g e =
    let y = table (x ∷ []) in
    let own = front_clean y.faults (converted (Some to) (judged y.term)).faults e in
    conversion_reads (Some to) (judged y.term) (dr.Table (d ∷ [])) h (table_sound (x.term ∷ []) d [] (g (front_clean x.faults [] own), tt)) (back_clean y.faults (converted (Some to) (judged y.term)).faults e)

of_type_reads : (s : Scope) (name : List ℕ) (es : List ExprView) (to : OccType) (one : Option ExprView) → IsKnownScope s → AllExprs s es → IsKnownType to → ((e : ExprView) → one ≡ Some e → ExprSound s e) → (element_of_type s name es (Some to) one).faults ≡ []
    → MayRead (element_of_type s name es (Some to) one).kind (converted_element s (Some to) one (element_open (named_tree s name es)))
of_type_reads s name es to None scope h known g e = element_may (named_element s name es).kind (named_tree s name es) (named_element_reads s name es scope h e)
of_type_reads s name es to (Some x) scope h known g e = one_table to (x.said s) (x.open_expr s) known (g x refl) e

whole_reads_of : (s : Scope) (name : List ℕ) (es : List ExprView) (meaning : Option Meaning) → IsKnownScope s → PerhapsKnown meaning → AllExprs s es → (whole_element_of s name es meaning).faults ≡ []
    → MayRead (whole_element_of s name es meaning).kind (whole_open_of s es meaning (element_open (named_tree s name es)))
whole_reads_of s name es None scope known h e = element_may (named_element s name es).kind (named_tree s name es) (named_element_reads s name es scope h e)
whole_reads_of s name es (Some m.Faulty) scope known h e = absurd known
whole_reads_of s name es (Some (m.Type None)) scope known h e = absurd known
whole_reads_of s name es (Some (m.Type (Some to))) scope known h e = of_type_reads s name es to (only es) scope h known (λ x i. only_sound s es x h i) e
whole_reads_of s name es (Some (m.Protocol c)) scope known h e = element_may (named_element s name es).kind (named_tree s name es) (named_element_reads s name es scope h e)
whole_reads_of s name es (Some (m.Procedure fs)) scope known h e = element_may (named_element s name es).kind (named_tree s name es) (named_element_reads s name es scope h e)
whole_reads_of s name es (Some (m.Function fs results)) scope known h e = element_may (named_element s name es).kind (named_tree s name es) (named_element_reads s name es scope h e)
whole_reads_of s name es (Some (m.Element whole)) scope known h e = element_may (named_element s name es).kind (named_tree s name es) (named_element_reads s name es scope h e)

pub whole_element_reads : (s : Scope) (name : List ℕ) (es : List ExprView) → IsKnownScope s → AllExprs s es → (whole_element s name es).faults ≡ [] → MayRead (whole_element s name es).kind (whole_element_open s name es)
unfolding whole_element whole_element_open
whole_element_reads s name es known h e = whole_reads_of s name es (visible s name) known (visible_known s name known) h e
