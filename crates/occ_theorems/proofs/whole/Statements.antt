-- Lines of processes without faults: the trees of their elements and expressions are there.
use Rattle.std.proofs.Common.{◌≡◌, ◌∙◌, ◌++◌, ◌||◌, ℕ, Bool, true, false, List, [], ◌∷◌, map, length, Option, Some, None, if◌then◌else◌, refl, ap, sym, subst, arith}
use Rattle.std.specs.Prelude.{◌==◌, ℤ}
use Rattle.std.specs.List.{list_any}
use Rattle.std.specs.BTreeSet.{BTreeSet}
use Rattle.occ_base.specs.Reporting.{nameless}
use Rattle.occ_base.specs.declared.code.Code.TheVariants as code
use Rattle.occ_base.specs.declared.fault.Fault.{Fault}
use Rattle.occ_expr_operations.specs.OpenExprs.{called_tree, opened, formal_types}
use Rattle.occ_expr_operations.specs.Parts.{in_scope, own_faults, segment_element, segment_within, subscripts, terms}
use Rattle.occ_expr_operations.specs.Sides.{Called, Side, call_of_first, call_side, one_call, result_opens, result_terms, results_side, side, side_by}
use Rattle.occ_expr.specs.Trees.{int_tree}
use Rattle.occ_expr_operations.specs.Views.{bounds_view, element_view, expr_view, expr_views, item_opens}
use Rattle.occ_expr_operations.proofs.Views as views
use Rattle.occ_forms_expressions.proofs.Induction.{Every}
use Rattle.occ_forms_expressions.specs.declared.tree.Bounds.{Bounds}
use Rattle.occ_forms_expressions.specs.declared.tree.Element.{Element}
use Rattle.occ_forms_expressions.specs.declared.tree.Element.TheVariants as ev
use Rattle.occ_forms_expressions.specs.declared.tree.Expr.{Expr}
use Rattle.occ_scope.specs.Visible.{referent, visible}
use Rattle.occ_scope.specs.declared.meaning.Meaning.{Meaning}
use Rattle.occ_scope.specs.declared.meaning.Meaning.TheVariants as m
use Rattle.occ_scope.specs.declared.meaning.Referent.{Referent}
use Rattle.occ_scope.specs.declared.meaning.Access.{Access}
use Rattle.occ_scope.specs.declared.meaning.Access.TheVariants as access
use Rattle.occ_scope.specs.declared.meaning.Whole.{Whole}
use Rattle.occ_scope.specs.declared.scope.Scope.{Scope}
use Rattle.occ_typing_operands.specs.Operators.{all_faults, is_bool, is_faulty, is_there, kinds}
use Rattle.occ_typing_operands.specs.Settling.{Finding, fault_of, int, known, number}
use Rattle.occ_typing_operands.specs.declared.kind.Kind.{Kind}
use Rattle.occ_typing_operands.specs.declared.kind.Kind.TheVariants as k
use Rattle.occ_typing_operands.specs.declared.kind.Known.{Known}
use Rattle.occ_typing_tables.specs.Terms.{Judged, alone, and_then, judged, judged_all}
use Rattle.occ_typing_tables.specs.declared.term.Term.TheVariants as v
use Rattle.occ_typing_rules.specs.Abbreviating.{holding}
use Rattle.occ_typing_rules.specs.Assigning.{assigned as spec_assigned, pair, pairs, target, unpaired}
use Rattle.occ_typing_rules.specs.Assigning as assigning
use Rattle.occ_typing_rules.specs.Calling.{matched}
use Rattle.occ_typing_rules.specs.Choosing as choosing
use Rattle.occ_typing_rules.specs.Numbering.{any_faulty, of_another_number}
use Rattle.occ_typing_rules.specs.Resulting.{each_under, results as spec_results}
use Rattle.occ_typing_rules.specs.Placing.{all_placed, each_placed, placed}
use Rattle.occ_typing_rules.specs.declared.open_expr.OpenExpr.{OpenExpr}
use Rattle.occ_typing_rules.specs.declared.open_expr.OpenExpr.TheVariants as dr
use Rattle.occ_typing_rules.specs.declared.expr.TypedElement.{TypedElement}
use Rattle.occ_typing_rules.specs.declared.expr.TypedExpr.{TypedExpr}
use Rattle.occ_typing_statements.specs.Statements.{assignment, condition, options, results, selector}
use Rattle.occ_typing_statements.specs.StatementTrees.{assigned, assigned_values, assignment_tree, condition_tree, open_exprs, one_element, options_trees, results_trees, target_trees, types_of, with_elements}
use Rattle.occ_expr.specs.Targets.{reached, root, target_of}
use Rattle.occ_typing_statements.specs.Targets.{targets}
use Rattle.occ_expr.proofs.Roots.{root_named, root_segment}
use Rattle.occ_types.specs.Fits.{is_data}
use Rattle.occ_types.specs.View.{as_primitive}
use Rattle.occ_types.specs.declared.interface.Formal.{Formal}
use Rattle.occ_types.specs.declared.types.OccType.{OccType}
use Rattle.occ_types.specs.declared.types.OccType.TheVariants as t
use Rattle.occ_types.specs.declared.value.Primitive.{Primitive}
use Rattle.occ_types.specs.declared.value.Primitive.TheVariants as p
use Rattle.occ_types.proofs.Unknowns.{unknown_primitive}
use Rattle.occ_typing_statements.specs.declared.statement.TypedAssignment.{TypedAssignment}
use Rattle.occ_typing.specs.Known.{AreKnownFormals, AreKnownTypes, IsKnownScope, IsKnownType}
use Rattle.occ_typing.specs.WholeTrees.{AllAre, AreWholeExprs, IsWholeElement, IsWholeExpr, no_expr}
use Rattle.occ_theorems.proofs.whole.Clean.{Has, back_clean, front_clean, same_number}
use Rattle.occ_theorems.proofs.whole.Elements.{ElementReads, SaidSound, all_sound, another_reported, called_there, matched_reads, named_stands}
use Rattle.occ_theorems.proofs.whole.Expressions.{each_element, OfExpr, all_exprs, element_sound, expr_sound}
use Rattle.occ_theorems.proofs.whole.Names.{NamesFunction, PerhapsKnown, function_named, visible_known}
use Rattle.occ_theorems.proofs.whole.Operating.{opened_reads}
use Rattle.occ_theorems.proofs.whole.Reading.{IsKnown, Reads, chosen, int_known, placed_as, reads_may}
use Rattle.occ_theorems.proofs.whole.Sound.{AllSound, Sound, single_sound}
use Rattle.occ_theorems.proofs.whole.Trees.{EachTree, each_there, first_there}
use Rattle.occ_theorems.proofs.whole.Types.{depth, flat_primitive}

-- ---- expressions and elements in a scope whose names are known

pub every_expr_known : (s : Scope) (es : List Expr) → IsKnownScope s → own_faults (in_scope s (expr_views es)) ≡ [] → AllSound (judged_all (terms (in_scope s (expr_views es)))) (item_opens s (expr_views es))
every_expr_known s es known e = all_sound s (expr_views es) (all_exprs s es known (every es)) e where
  every : (es : List Expr) → Every OfExpr es
  every [] = tt
  every (x ∷ es) = (expr_sound x, every es)

pub said_sound : (s : Scope) (e : Expr) → IsKnownScope s → SaidSound ((expr_view e).said s) ((expr_view e).open_expr s)
said_sound s e known = expr_sound e s known

-- ---- the name of which an element is a part

pub record Stands (s : Scope) (name : List ℕ) : Type 0 where
  pub whole : Whole
  pub is : visible s name ≡ Some (m.Element whole)

abbrev OfRoot : Element → Type 0
OfRoot el = (s : Scope) → IsKnownScope s → ((element_view el).reported s).faults ≡ [] → Stands s (root el)

named_root : (n : List ℕ) (es : List Expr) → OfRoot (ev.Named n es)
named_root n es s known c =
    let x = named_stands s n (expr_views es) known (sym (ap (λ (y : Finding). y.faults) (views.element_named_reported n es s)) ∙ c) in
    record { whole = x.whole; is = ap (visible s) (root_named n es) ∙ x.is }

segment_root : (el : Element) (b : Bounds) (es : List Expr) → OfRoot el → OfRoot (ev.Segment el b es)
segment_root el b es h s known c =
    let x = (element_view el).reported s in
    let y = (bounds_view b).said s in
    let z = and_then x (segment_within y) in
    let g : (segment_element s x y (expr_views es)).faults ≡ [] = sym (ap (λ (w : Finding). w.faults) (views.element_segment_reported el b es s)) ∙ c in
    let r = h s known (front_clean x.faults (segment_within y x.kind).faults (front_clean z.faults (subscripts s (expr_views es) z.kind).faults g)) in
    record { whole = r.whole; is = ap (visible s) (root_segment el b es) ∙ r.is }

pub root_stands : (el : Element) → OfRoot el
root_stands = each_element OfRoot named_root segment_root

-- ---- targets

access_reads : (a : Access) (name : List ℕ) (x : Known) (el : Option TypedElement) → ElementReads (k.Known x) el → (assigning.reached a name x).faults ≡ [] → ElementReads (assigning.reached a name x).kind el
access_reads access.Variable name x el h e = h
access_reads access.Formal name x el h e = absurd cc
access_reads access.Value name x el h e = absurd cc

target_reads : (whole : Whole) (kind : Kind) (el : Option TypedElement) → ElementReads kind el → (target whole kind).faults ≡ [] → ElementReads (target whole kind).kind el
target_reads whole k.Faulty el h e = h
target_reads whole (k.Untyped f) el h e = absurd h
target_reads whole (k.Known x) el h e = access_reads whole.access whole.root x el h e

reached_reads : (found : Option Meaning) (whole : Whole) (kind : Kind) (el : Option TypedElement) → found ≡ Some (m.Element whole) → ElementReads kind el → (reached found kind).faults ≡ [] → ElementReads (reached found kind).kind el
reached_reads found whole kind el is h e =
    subst (λ (o : Option Meaning). ElementReads (reached o kind).kind el) (sym is) (target_reads whole kind el h (sym (ap (λ (o : Option Meaning). (reached o kind).faults) is) ∙ e))

pub target_sound : (s : Scope) (el : Element) → IsKnownScope s → (target_of s el).faults ≡ [] → ElementReads (target_of s el).kind ((element_view el).tree s)
unfolding target_of
target_sound s el known e =
    let x = (element_view el).reported s in
    let y = reached (visible s (root el)) x.kind in
    let own = front_clean x.faults y.faults e in
    let r = root_stands el s known own in
    reached_reads (visible s (root el)) r.whole x.kind ((element_view el).tree s) r.is ((element_sound el s known).reported own) (back_clean x.faults y.faults e)

-- what is reported of a target, is reported of the element
pub target_clean : (s : Scope) (el : Element) → (target_of s el).faults ≡ [] → ((element_view el).reported s).faults ≡ []
unfolding target_of
target_clean s el e = front_clean ((element_view el).reported s).faults (reached (visible s (root el)) ((element_view el).reported s).kind).faults e

-- ---- right sides

all_results : (call : Option TypedExpr) (types : List OccType) → AreKnownTypes types → Has IsWholeExpr call → AllSound (judged_all (result_terms types)) (result_opens call types)
all_results call [] h g = tt
all_results call (of ∷ types) h g = (single_sound (known of None) (opened call) (reads_may (known of None) (opened call) (opened_reads (record { of = of; value = None }) call h.0 g)), all_results call types h.1 g)

some_results : (types : List OccType) (r : Option Referent) (fs : List Formal) (ds : List OpenExpr) → AreKnownTypes types → Has NamesFunction r → EachTree ds (formal_types fs) → AllSound (judged_all (result_terms types)) (result_opens (call_of_first types r fs ds) types)
some_results [] r fs ds h g i = tt
some_results (of ∷ types) r fs ds h g i = all_results (called_tree of r fs ds) (of ∷ types) h (called_there of r fs ds h.0 g i)

abbrev side_if : Bool → List Fault → Option TypedExpr → List OccType → Side
side_if b fs call types = if b then record { faults = fs; terms = v.Single k.Faulty ∷ []; open_exprs = dr.Faulty ∷ [] } else record { faults = fs; terms = result_terms types; open_exprs = result_opens call types }

if_side : (b : Bool) (fs : List Fault) (call : Option TypedExpr) (types : List OccType) → b ≡ false → AllSound (judged_all (result_terms types)) (result_opens call types) → AllSound (judged_all (side_if b fs call types).terms) (side_if b fs call types).open_exprs
if_side true fs call types is h = absurd cc
if_side false fs call types is h = h

after_faults : (b : Bool) (fs : List Fault) (call : Option TypedExpr) (types : List OccType) → (side_if b fs call types).faults ≡ [] → fs ≡ []
after_faults true fs call types e = e
after_faults false fs call types e = e

results_sound : (s : Scope) (name : List ℕ) (es : List Expr) (fs : List Formal) (types : List OccType) → IsKnownScope s → AreKnownFormals fs → AreKnownTypes types → Has NamesFunction (referent s name) → (results_side s name es fs types).faults ≡ [] → AllSound (judged_all (results_side s name es fs types).terms) (results_side s name es fs types).open_exprs
unfolding results_side
results_sound s name es fs types known formals h g e =
    let xs = in_scope s (expr_views es) in
    let x = matched fs (judged_all (terms xs)) in
    let call = call_of_first types (referent s name) fs (item_opens s (expr_views es)) in
    let clean = after_faults x.is_faulty (own_faults xs ++ x.faults) call types e in
    let z = matched_reads fs (judged_all (terms xs)) (item_opens s (expr_views es)) formals (every_expr_known s es known (front_clean (own_faults xs) x.faults clean)) (back_clean (own_faults xs) x.faults clean) in
    if_side x.is_faulty (own_faults xs ++ x.faults) call types z.0 (some_results types (referent s name) fs (item_opens s (expr_views es)) h g z.1)

call_sound : (s : Scope) (all : List Expr) (name : List ℕ) (es : List Expr) (found : Option Meaning) → IsKnownScope s → PerhapsKnown found → visible s name ≡ found → (call_side s all name es found).faults ≡ [] → AllSound (judged_all (call_side s all name es found).terms) (call_side s all name es found).open_exprs
call_sound s all name es None known h is e = every_expr_known s all known e
call_sound s all name es (Some m.Faulty) known h is e = absurd h
call_sound s all name es (Some (m.Type of)) known h is e = every_expr_known s all known e
call_sound s all name es (Some (m.Protocol c)) known h is e = every_expr_known s all known e
call_sound s all name es (Some (m.Procedure fs)) known h is e = every_expr_known s all known e
call_sound s all name es (Some (m.Function fs types)) known h is e = results_sound s name es fs types known h.0 h.1 (function_named s name fs types is h.0 h.1) e
call_sound s all name es (Some (m.Element whole)) known h is e = every_expr_known s all known e

by_sound : (s : Scope) (all : List Expr) (call : Option Called) → IsKnownScope s → (side_by s all call).faults ≡ [] → AllSound (judged_all (side_by s all call).terms) (side_by s all call).open_exprs
by_sound s all None known e = every_expr_known s all known e
by_sound s all (Some call) known e = call_sound s all call.0 call.1 (visible s call.0) known (visible_known s call.0 known) refl e

pub side_sound : (s : Scope) (es : List Expr) → IsKnownScope s → (side s es).faults ≡ [] → AllSound (judged_all (side s es).terms) (side s es).open_exprs
unfolding side
side_sound s es known e = by_sound s es (one_call es) known e

-- ---- assignments

abbrev KindOf : Kind → OccType → Type 0
KindOf k.Faulty of = ⊥
KindOf (k.Untyped f) of = ⊥
KindOf (k.Known x) of = (x.of ≡ of) × IsKnownType x.of

-- of each target what is known is known to have the type at its place
abbrev KindsOf : List Kind → List OccType → Type 0
KindsOf [] [] = Unit {0}
KindsOf [] (of ∷ types) = ⊥
KindsOf (kind ∷ ks) [] = ⊥
KindsOf (kind ∷ ks) (of ∷ types) = KindOf kind of × KindsOf ks types

record TargetsRead (xs : List Kind) (found : Option (List TypedElement)) : Type 0 where
  els : List TypedElement
  is : found ≡ Some els
  typed : KindsOf xs (types_of els)
  whole : AllAre IsWholeElement els

one_more : (kind : Kind) (ks : List Kind) (el : Option TypedElement) (found : Option (List TypedElement)) → ElementReads kind el → TargetsRead ks found → TargetsRead (kind ∷ ks) (with_elements (one_element el) found)
one_more k.Faulty ks el found h g = absurd h
one_more (k.Untyped f) ks el found h g = absurd h
one_more (k.Known x) ks None found h g = absurd h
one_more (k.Known x) ks (Some el) found h g =
    record { els = el ∷ g.els; is = ap (λ (o : Option (List TypedElement)). with_elements (Some (el ∷ [])) o) g.is; typed = ((ap (λ (y : Known). y.of) (sym h.1), h.0), g.typed); whole = (h.2, g.whole) }

targets_read : (s : Scope) (els : List Element) → IsKnownScope s → all_faults (targets s els) ≡ [] → TargetsRead (kinds (targets s els)) (target_trees s els)
targets_read s [] known e = record { els = []; is = refl; typed = tt; whole = tt }
targets_read s (el ∷ els) known e =
    let x = target_of s el in
    one_more x.kind (kinds (targets s els)) ((element_view el).tree s) (target_trees s els) (target_sound s el known (front_clean x.faults (all_faults (targets s els)) e)) (targets_read s els known (back_clean x.faults (all_faults (targets s els)) e))

value_if : (b : Bool) (of : OccType) (j : Judged) (d : OpenExpr) → IsKnownType of → Sound j d → (if b then (j.under of).faults else nameless code.T2 ∷ []) ≡ [] → Has IsWholeExpr (placed d of)
value_if true of j d known h e = placed_as of (j.under of).kind d known (h.wanted of e)
value_if false of j d known h e = absurd cc

pair_read : (kind : Kind) (of : OccType) (j : Judged) (d : OpenExpr) → KindOf kind of → Sound j d → pair kind j ≡ [] → Has IsWholeExpr (placed d of)
pair_read k.Faulty of j d h g e = absurd h
pair_read (k.Untyped f) of j d h g e = absurd h
pair_read (k.Known x) of j d h g e = subst (λ (u : OccType). Has IsWholeExpr (placed d u)) h.0 (value_if (is_data x.of) x.of j d h.1 g e)

pairs_read : (ks : List Kind) (types : List OccType) (js : List Judged) (ds : List OpenExpr) → length ks ≡ length js → KindsOf ks types → AllSound js ds → pairs ks js ≡ [] → EachTree ds types
pairs_read [] [] [] [] same h g e = tt
pairs_read [] [] [] (d ∷ ds) same h g e = absurd g
pairs_read [] [] (j ∷ js) ds same h g e = absurd (omega (arith, same))
pairs_read [] (of ∷ types) js ds same h g e = absurd h
pairs_read (kind ∷ ks) [] js ds same h g e = absurd h
pairs_read (kind ∷ ks) (of ∷ types) [] ds same h g e = absurd (omega (arith, same))
pairs_read (kind ∷ ks) (of ∷ types) (j ∷ js) [] same h g e = absurd g
pairs_read (kind ∷ ks) (of ∷ types) (j ∷ js) (d ∷ ds) same h g e =
    (pair_read kind of j d h.0 g.0 (front_clean (pair kind j) (pairs ks js) e), pairs_read ks types js ds (omega (arith, same)) h.1 g.1 (back_clean (pair kind j) (pairs ks js) e))

data_faultless : (b : Bool) (x : Known) → (chosen b (record { faults = []; kind = k.Known x }) (fault_of code.T2)).faults ≡ [] → is_faulty (chosen b (record { faults = []; kind = k.Known x }) (fault_of code.T2)).kind ≡ false
data_faultless true x e = refl
data_faultless false x e = absurd cc

holding_faultless : (kind : Kind) (of : OccType) → KindOf kind of → (holding kind).faults ≡ [] → is_faulty (holding kind).kind ≡ false
holding_faultless k.Faulty of h e = absurd h
holding_faultless (k.Untyped f) of h e = absurd h
holding_faultless (k.Known x) of h e = data_faultless (is_data x.of) x e

holdings_faultless : (ks : List Kind) (types : List OccType) → KindsOf ks types → all_faults (map holding ks) ≡ [] → list_any is_faulty (kinds (map holding ks)) ≡ false
holdings_faultless [] types h e = refl
holdings_faultless (kind ∷ ks) [] h e = absurd h
holdings_faultless (kind ∷ ks) (of ∷ types) h e =
    ap (λ (b : Bool). b || list_any is_faulty (kinds (map holding ks))) (holding_faultless kind of h.0 (front_clean (holding kind).faults (all_faults (map holding ks)) e))
    ∙ holdings_faultless ks types h.1 (back_clean (holding kind).faults (all_faults (map holding ks)) e)

assigned_if : (b : Bool) (ks : List Kind) (types : List OccType) (js : List Judged) (ds : List OpenExpr) → (b ≡ true → length ks ≡ length js) → KindsOf ks types → AllSound js ds → (if b then pairs ks js else unpaired ks js) ≡ [] → EachTree ds types
assigned_if true ks types js ds same h g e = pairs_read ks types js ds (same refl) h g e
assigned_if false ks types js ds same h g e =
    let ts = map holding ks in
    let clean = front_clean (all_faults ts) (of_another_number (any_faulty ts) (map alone js)) e in
    let rest : of_another_number false (map alone js) ≡ [] = sym (ap (λ (b : Bool). of_another_number b (map alone js)) (holdings_faultless ks types h clean)) ∙ back_clean (all_faults ts) (of_another_number (any_faulty ts) (map alone js)) e in
    absurd (another_reported js ds g rest)

abbrev pub IsWholeAssignment : TypedAssignment → Type 0
IsWholeAssignment x = AllAre IsWholeElement x.targets × AreWholeExprs x.values

values_there : (els : List TypedElement) (ts : Option (List TypedExpr)) → AllAre IsWholeElement els → Has AreWholeExprs ts → Has IsWholeAssignment (assigned_values els ts)
values_there els None h g = g
values_there els (Some ts) h g = (h, g)

assigned_there : (found : Option (List TypedElement)) (els : List TypedElement) (ds : List OpenExpr) → found ≡ Some els → AllAre IsWholeElement els → EachTree ds (types_of els) → Has IsWholeAssignment (assigned found ds)
assigned_there found els ds is h g = subst (λ (o : Option (List TypedElement)). Has IsWholeAssignment (assigned o ds)) (sym is) (values_there els (each_placed ds (types_of els)) h (each_there ds (types_of els) g))

pub assignment_there : (s : Scope) (els : List Element) (es : List Expr) → IsKnownScope s → assignment s els es ≡ [] → Has IsWholeAssignment (assignment_tree s els es)
assignment_there s els es known e =
    let ts = targets s els in
    let x = side s es in
    let rest = spec_assigned (kinds ts) (judged_all x.terms) in
    let following = back_clean (all_faults ts) (x.faults ++ rest) e in
    let r = targets_read s els known (front_clean (all_faults ts) (x.faults ++ rest) e) in
    let g = side_sound s es known (front_clean x.faults rest following) in
    assigned_there (target_trees s els) r.els x.open_exprs r.is r.whole
    (assigned_if (length (kinds ts) == length (judged_all x.terms)) (kinds ts) (types_of r.els) (judged_all x.terms) x.open_exprs (same_number (length (kinds ts)) (length (judged_all x.terms))) r.typed g (back_clean x.faults rest following))

-- ---- conditions and selectors

bool_flat : (of : OccType) (base : Option Primitive) → as_primitive of ≡ base → is_bool base ≡ true → depth of ≡ 0
bool_flat of None is e = absurd cc
bool_flat of (Some x) is e = flat_primitive of x is

bool_reported : (b : Bool) → (if b then [] else nameless code.T7 ∷ []) ≡ [] → b ≡ true
bool_reported true e = refl
bool_reported false e = absurd cc

condition_read : (kind : Kind) (d : OpenExpr) (of : OccType) → IsKnownType of → Reads kind d → choosing.no_condition kind ≡ [] → Has IsWholeExpr (placed d of)
condition_read k.Faulty d of known h e = absurd h
condition_read (k.Untyped f) d of known h e = absurd h
condition_read (k.Known x) d of known h e = let z = bool_flat x.of (as_primitive x.of) refl (bool_reported (is_bool (as_primitive x.of)) e) in h.1 of (omega (arith, z)) known

pub condition_there : (s : Scope) (e : Expr) → IsKnownScope s → condition s e ≡ [] → Has IsWholeExpr (condition_tree s e)
condition_there s e known c =
    let x = (expr_view e).said s in
    let y = (judged x.term).alone in
    let rest = back_clean x.faults (y.faults ++ choosing.no_condition y.kind) c in
    let r = (said_sound s e known (front_clean x.faults (y.faults ++ choosing.no_condition y.kind) c)).by_itself (front_clean y.faults (choosing.no_condition y.kind) rest) in
    condition_read y.kind ((expr_view e).open_expr s) (t.Primitive p.Bool) (unknown_primitive p.Bool) r (back_clean y.faults (choosing.no_condition y.kind) rest)

number_flat : (of : OccType) (base : Option Primitive) → as_primitive of ≡ base → is_there (number base) ≡ true → depth of ≡ 0
number_flat of None is e = absurd cc
number_flat of (Some x) is e = flat_primitive of x is

selecting_if : (b : Bool) (x : Known) (d : OpenExpr) (of : OccType) → IsKnownType of → (b ≡ true → depth x.of ≡ 0) → Reads (k.Known x) d → (chosen b (record { faults = []; kind = k.Known x }) (fault_of code.T7)).faults ≡ []
    → IsKnown (chosen b (record { faults = []; kind = k.Known x }) (fault_of code.T7)).kind × Has IsWholeExpr (placed d of)
selecting_if true x d of known z h e = let n = z refl in (h.0, h.1 of (omega (arith, n)) known)
selecting_if false x d of known z h e = absurd cc

selector_read : (kind : Kind) (d : OpenExpr) (of : OccType) → IsKnownType of → Reads kind d → (choosing.selecting kind).faults ≡ [] → IsKnown (choosing.selecting kind).kind × Has IsWholeExpr (placed d of)
selector_read k.Faulty d of known h e = absurd h
selector_read (k.Untyped f) d of known h e = absurd h
selector_read (k.Known x) d of known h e = selecting_if (is_there (number (as_primitive x.of))) x d of known (number_flat x.of (as_primitive x.of) refl) h e

-- what the options are compared with is known, and the selector has its whole tree
pub selector_reads : (s : Scope) (e : Expr) → IsKnownScope s → (selector s e).faults ≡ [] → IsKnown (selector s e).kind × Has IsWholeExpr (int_tree s e)
unfolding int_tree
selector_reads s e known c =
    let x = (expr_view e).said s in
    let y = (judged x.term).alone in
    let rest = back_clean x.faults (y.faults ++ (choosing.selecting y.kind).faults) c in
    let r = (said_sound s e known (front_clean x.faults (y.faults ++ (choosing.selecting y.kind).faults) c)).by_itself (front_clean y.faults (choosing.selecting y.kind).faults rest) in
    selector_read y.kind ((expr_view e).open_expr s) int int_known r (back_clean y.faults (choosing.selecting y.kind).faults rest)

-- ---- options

options_read : (of : OccType) (before : BTreeSet ℤ) (js : List Judged) (ds : List OpenExpr) → IsKnownType of → AllSound js ds → (choosing.options of before js).faults ≡ [] → Has AreWholeExprs (all_placed ds of)
options_read of before [] [] known h e = no_expr
options_read of before [] (d ∷ ds) known h e = absurd h
options_read of before (j ∷ js) [] known h e = absurd h
options_read of before (j ∷ js) (d ∷ ds) known h e =
    let y = choosing.option of before j in
    let z = choosing.options of y.numbers js in
    let x = j.under of in
    let own = front_clean y.faults z.faults e in
    first_there (placed d of) (all_placed ds of) (placed_as of x.kind d known (h.0.wanted of (front_clean x.faults (choosing.chosen before x.kind).faults own))) (options_read of y.numbers js ds known h.1 (back_clean y.faults z.faults e))

same_opens : (s : Scope) (es : List Expr) → open_exprs s es ≡ item_opens s (expr_views es)
same_opens s [] = refl
same_opens s (e ∷ es) = ap (λ (ds : List OpenExpr). (expr_view e).open_expr s ∷ ds) (same_opens s es)

pub options_there : (s : Scope) (kind : Kind) (before : BTreeSet ℤ) (es : List Expr) → IsKnownScope s → IsKnown kind → (options s kind before es).faults ≡ [] → Has AreWholeExprs (options_trees s kind es)
options_there s k.Faulty before es known h e = absurd h
options_there s (k.Untyped f) before es known h e = absurd h
options_there s (k.Known x) before es known h e =
    let xs = in_scope s (expr_views es) in
    let y = choosing.options x.of before (judged_all (terms xs)) in
    subst (λ (ds : List OpenExpr). Has AreWholeExprs (all_placed ds x.of)) (sym (same_opens s es))
    (options_read x.of before (judged_all (terms xs)) (item_opens s (expr_views es)) h (every_expr_known s es known (front_clean (own_faults xs) y.faults e)) (back_clean (own_faults xs) y.faults e))

-- ---- results

results_read : (types : List OccType) (js : List Judged) (ds : List OpenExpr) → AreKnownTypes types → length types ≡ length js → AllSound js ds → each_under types js ≡ [] → EachTree ds types
results_read [] [] [] known same h e = tt
results_read [] [] (d ∷ ds) known same h e = absurd h
results_read [] (j ∷ js) ds known same h e = absurd (omega (arith, same))
results_read (of ∷ types) [] ds known same h e = absurd (omega (arith, same))
results_read (of ∷ types) (j ∷ js) [] known same h e = absurd h
results_read (of ∷ types) (j ∷ js) (d ∷ ds) known same h e =
    (placed_as of (j.under of).kind d known.0 (h.0.wanted of (front_clean (j.under of).faults (each_under types js) e)), results_read types js ds known.1 (omega (arith, same)) h.1 (back_clean (j.under of).faults (each_under types js) e))

results_if : (b : Bool) (types : List OccType) (js : List Judged) (ds : List OpenExpr) → AreKnownTypes types → (b ≡ true → length types ≡ length js) → AllSound js ds → (if b then each_under types js else of_another_number false (map alone js)) ≡ [] → EachTree ds types
results_if true types js ds known same h e = results_read types js ds known (same refl) h e
results_if false types js ds known same h e = absurd (another_reported js ds h e)

pub results_there : (s : Scope) (types : List OccType) (es : List Expr) → IsKnownScope s → AreKnownTypes types → results s types es ≡ [] → Has AreWholeExprs (results_trees s types es)
results_there s types es known h e =
    let x = side s es in
    let js = judged_all x.terms in
    each_there x.open_exprs types
    (results_if (length types == length js) types js x.open_exprs h (same_number (length types) (length js)) (side_sound s es known (front_clean x.faults (spec_results types js) e)) (back_clean x.faults (spec_results types js) e))
