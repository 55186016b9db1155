-- Heads, one-line functions and replicators without faults.
use Rattle.std.proofs.Common.{◌≡◌, ◌∙◌, ◌++◌, ◌||◌, ◌&&◌, ℕ, Bool, true, false, List, [], ◌∷◌, Option, Some, None, refl, ap, sym, subst}
use Rattle.occ_base.specs.declared.fault.Fault.{Fault}
use Rattle.occ_expr_operations.specs.Sides.{side}
use Rattle.occ_expr.specs.Trees.{int_tree}
use Rattle.occ_expr_operations.specs.Views.{dimension_views, each, expr_view}
use Rattle.occ_expr_operations.specs.declared.written.Opening.TheVariants as opening
use Rattle.occ_forms_expressions.proofs.Induction.{Every}
use Rattle.occ_forms_expressions.specs.declared.tree.Dimension.{Dimension}
use Rattle.occ_forms_expressions.specs.declared.tree.Expr.{Expr}
use Rattle.occ_forms_expressions.specs.declared.tree.TypeForm.{TypeForm}
use Rattle.occ_forms.specs.declared.tree.Replicator.{Replicator}
use Rattle.occ_scope.specs.Visible.{with_all}
use Rattle.occ_scope.specs.declared.meaning.Meaning.{Meaning}
use Rattle.occ_scope.specs.declared.scope.Scope.{Scope}
use Rattle.occ_typing_operands.specs.Operators.{is_faulty}
use Rattle.occ_typing_operands.specs.Settling.{int}
use Rattle.occ_typing_statements.specs.Bounds.{bound}
use Rattle.occ_typing_statements.specs.Replicating.{asked, counting, enters, faults, faults_of, index_of, read, tree, tree_of, unless_faulty}
use Rattle.occ_typing_statements.specs.declared.replicating.Replicating.{Replicating}
use Rattle.occ_typing_statements.specs.declared.replicator_tree.KnownReplicator.{KnownReplicator}
use Rattle.occ_forms.specs.declared.specification_tree.FormalGroup.{FormalGroup}
use Rattle.occ_forms.specs.declared.specification_tree.FormalGroup.TheVariants as g
use Rattle.occ_forms.specs.declared.specification_tree.FunctionHead.{FunctionHead}
use Rattle.occ_typing_tables.specs.Terms.{judged, judged_all}
use Rattle.occ_typing_rules.specs.Listing.{repetitions}
use Rattle.occ_typing_rules.specs.Resulting as resulting
use Rattle.occ_typing_rules.specs.declared.expr.TypedExpr.{TypedExpr}
use Rattle.occ_typing_specifications.specs.Formals.{all_known, as_element, called_formal, called_formals, each_of, entries}
use Rattle.occ_typing_specifications.specs.Groups.{group, groups, names_of, passing_of, plain_type, type_of, value_type, values}
use Rattle.occ_typing_specifications.specs.Heads.{Headed, function, function_heading, procedure, procedure_heading, types_known}
use Rattle.occ_typing_specifications.specs.Knowing.{all_found, is_known, known_type, known_types, unless_reported}
use Rattle.occ_typing_specifications.specs.Results.{results}
use Rattle.occ_typing_specifications.specs.declared.formal.HeadFormal.{HeadFormal}
use Rattle.occ_typing_specifications.specs.declared.heading.Expected.{Expected}
use Rattle.occ_typing_specifications.specs.declared.heading.Expected.TheVariants as expected
use Rattle.occ_typing_specifications.specs.declared.heading.Heading.{Heading}
use Rattle.occ_typing_lines.specs.Parts.{results_in, results_of}
use Rattle.occ_typing_lines.specs.Specifying.{function_faults, function_meaning, known_unless}
use Rattle.occ_typing_specifications.specs.Defining.{data_form_type}
use Rattle.occ_typing_statements.specs.Statements.{is_any_faulty}
use Rattle.occ_types.specs.declared.interface.Formal.{Formal}
use Rattle.occ_types.specs.declared.interface.Passing.{Passing}
use Rattle.occ_types.specs.declared.types.OccType.{OccType}
use Rattle.occ_types.specs.declared.value.Primitive.TheVariants as p
use Rattle.occ_types.proofs.Unknowns.{unknown_primitive}
use Rattle.occ_typing.specs.Known.{AreKnownEntries, AreKnownFormals, AreKnownTypes, IsKnownMeaning, IsKnownScope}
use Rattle.occ_typing.specs.WholeTrees.{AreWholeExprs, IsWholeExpr, IsWholeReplicator}
use Rattle.occ_theorems.proofs.whole.Clean.{Has, back_clean, front_clean}
use Rattle.occ_theorems.proofs.whole.Expressions.{OfDimension, all_spans, dimension_sound, type_sound}
use Rattle.occ_theorems.proofs.whole.Names.{IsTyped, with_all_known}
use Rattle.occ_theorems.proofs.whole.Reading.{int_known, placed_as}
use Rattle.occ_theorems.proofs.whole.Sound.{none_faulty, reads_no_fault}
use Rattle.occ_theorems.proofs.whole.Specifications.{data_form_known}
use Rattle.occ_theorems.proofs.whole.Statements.{results_there, said_sound, side_sound}
use Rattle.occ_theorems.proofs.whole.Written.{TypeSound, data_form_sound}

-- ---- formals

abbrev AllTyped : List HeadFormal → Type 0
AllTyped [] = Unit {0}
AllTyped (x ∷ xs) = IsTyped x.of × AllTyped xs

each_typed : (of : Option OccType) (by : Passing) (names : List (List ℕ)) → IsTyped of → AllTyped (each_of of by names)
each_typed of by [] h = tt
each_typed of by (name ∷ names) h = (h, each_typed of by names h)

pub every_dimension_sound : (ds : List Dimension) → Every OfDimension ds
every_dimension_sound [] = tt
every_dimension_sound (x ∷ ds) = (dimension_sound x, every_dimension_sound ds)

group_type_sound : (s : Scope) (x : FormalGroup) → IsKnownScope s → TypeSound (type_of s x)
unfolding value_type plain_type
group_type_sound s (g.Value x) known = data_form_sound s (each opening.Allowed s (dimension_views x.form.dimensions)) x.form.base known (all_spans opening.Allowed s x.form.dimensions known (every_dimension_sound x.form.dimensions))
group_type_sound s (g.Plain of first more) known = type_sound of opening.Allowed s known

group_typed : (s : Scope) (before : List (List ℕ)) (x : FormalGroup) → IsKnownScope s → (group s before x).faults ≡ [] → AllTyped (group s before x).formals
unfolding group
group_typed s before x known e =
    let of = type_of s x in
    each_typed of.found (passing_of x) (names_of x) (group_type_sound s x known (front_clean of.faults (repetitions before (names_of x)) e))

both_typed : (xs ys : List HeadFormal) → AllTyped xs → AllTyped ys → AllTyped (xs ++ ys)
both_typed [] ys h i = i
both_typed (x ∷ xs) ys h i = (h.0, both_typed xs ys h.1 i)

groups_typed : (s : Scope) (before : List (List ℕ)) (xs : List FormalGroup) → IsKnownScope s → (groups s before xs).faults ≡ [] → AllTyped (groups s before xs).formals
groups_typed s before [] known e = tt
groups_typed s before (x ∷ xs) known e =
    let y = group s before x in
    let ys = groups s (before ++ names_of x) xs in
    both_typed y.formals ys.formals (group_typed s before x known (front_clean y.faults ys.faults e)) (groups_typed s (before ++ names_of x) xs known (back_clean y.faults ys.faults e))

type_is_known : (o : Option OccType) → IsTyped o → is_known o ≡ true
type_is_known None h = absurd h
type_is_known (Some of) h = refl

all_are_known : (xs : List HeadFormal) → AllTyped xs → all_known xs ≡ true
all_are_known [] h = refl
all_are_known (x ∷ xs) h = ap (λ (b : Bool). b && all_known xs) (type_is_known x.of h.0) ∙ all_are_known xs h.1

element_known : (o : Option OccType) (by : Passing) (name : List ℕ) → IsTyped o → IsKnownMeaning (as_element o by name)
element_known None by name h = h
element_known (Some of) by name h = h

entries_known : (xs : List HeadFormal) → AllTyped xs → AreKnownEntries (entries true xs)
entries_known [] h = tt
entries_known (x ∷ xs) h = (element_known x.of x.passing x.name h.0, entries_known xs h.1)

one_formal : (o : Option OccType) (by : Passing) (fs : List Formal) → IsTyped o → AreKnownFormals fs → AreKnownFormals (called_formal o by ++ fs)
one_formal None by fs h i = i
one_formal (Some of) by fs h i = (h, i)

formals_known : (xs : List HeadFormal) → AllTyped xs → AreKnownFormals (called_formals xs)
formals_known [] h = tt
formals_known (x ∷ xs) h = one_formal x.of x.passing (called_formals xs) h.0 (formals_known xs h.1)

-- ---- results

abbrev AllFound : List (Option OccType) → Type 0
AllFound [] = Unit {0}
AllFound (x ∷ xs) = IsTyped x × AllFound xs

results_found : (s : Scope) (forms : List TypeForm) → IsKnownScope s → (results s forms).faults ≡ [] → AllFound (results s forms).types
results_found s [] known e = tt
results_found s (form ∷ forms) known e =
    let x = data_form_type s form in
    let xs = results s forms in
    (data_form_known s form known (front_clean x.faults xs.faults e), results_found s forms known (back_clean x.faults xs.faults e))

all_are_found : (xs : List (Option OccType)) → AllFound xs → all_found xs ≡ true
all_are_found [] h = refl
all_are_found (x ∷ xs) h = ap (λ (b : Bool). b && all_found xs) (type_is_known x h.0) ∙ all_are_found xs h.1

one_type : (o : Option OccType) (types : List OccType) → IsTyped o → AreKnownTypes types → AreKnownTypes (known_type o ++ types)
one_type None types h i = i
one_type (Some of) types h i = (h, i)

found_known : (xs : List (Option OccType)) → AllFound xs → AreKnownTypes (known_types xs)
found_known [] h = tt
found_known (x ∷ xs) h = one_type x (known_types xs) h.0 (found_known xs h.1)

-- ---- heads

-- types that are known are compared with the results of the body
abbrev pub IsTypes : Expected → Type 0
IsTypes (expected.Types types) = AreKnownTypes types
IsTypes (expected.Count n) = ⊥

pub record HeadKnown (h : Heading) : Type 0 where
  pub formals : AreKnownEntries h.formals
  pub meaning : IsKnownMeaning h.meaning
  pub results : IsTypes h.results

all_reported : (fs : List Fault) (b : Bool) → fs ≡ [] → b ≡ true → unless_reported fs b ≡ true
all_reported [] b e h = h
all_reported (f ∷ fs) b e h = absurd cc

pub procedure_known : (s : Scope) (xs : List FormalGroup) → IsKnownScope s → (procedure s xs).faults ≡ [] → HeadKnown (procedure s xs).heading
unfolding procedure
procedure_known s xs known e =
    let x = groups s [] xs in
    let h = groups_typed s [] xs known e in
    subst (λ (b : Bool). HeadKnown (procedure_heading b x.formals)) (sym (all_reported x.faults (all_known x.formals) e (all_are_known x.formals h)))
    (record { formals = entries_known x.formals h; meaning = formals_known x.formals h; results = tt })

pub function_known : (s : Scope) (head : FunctionHead) → IsKnownScope s → (function s head).faults ≡ [] → HeadKnown (function s head).heading
unfolding function
function_known s head known e =
    let x = results s (head.first ∷ head.more) in
    let y = groups s [] (values head.formals) in
    let h = results_found s (head.first ∷ head.more) known (front_clean x.faults y.faults e) in
    let i = groups_typed s [] (values head.formals) known (back_clean x.faults y.faults e) in
    subst (λ (b : Bool). HeadKnown (function_heading b y.formals x.types))
    (sym (all_reported (x.faults ++ y.faults) (types_known y.formals x.types) e (ap (λ (b : Bool). b && all_found x.types) (all_are_known y.formals i) ∙ all_are_found x.types h)))
    (record { formals = entries_known y.formals i; meaning = (formals_known y.formals i, found_known x.types h); results = found_known x.types h })

-- ---- results of a body, and functions of one line

pub results_known : (s : Scope) (wanted : Expected) (es : List Expr) → IsKnownScope s → IsTypes wanted → results_of s wanted es ≡ [] → Has AreWholeExprs (results_in s wanted es)
results_known s (expected.Count n) es known h e = absurd h
results_known s (expected.Types types) es known h e = results_there s types es known h e

results_side_clean : (s : Scope) (wanted : Expected) (es : List Expr) → IsTypes wanted → results_of s wanted es ≡ [] → (side s es).faults ≡ []
results_side_clean s (expected.Count n) es h e = absurd h
results_side_clean s (expected.Types types) es h e = front_clean (side s es).faults (resulting.results types (judged_all (side s es).terms)) e

none_any_faulty : (s : Scope) (es : List Expr) → IsKnownScope s → (side s es).faults ≡ [] → is_any_faulty s es ≡ false
none_any_faulty s es known e = none_faulty (judged_all (side s es).terms) (side s es).open_exprs (side_sound s es known e)

unless_known : (fs : List Fault) (b : Bool) (meaning : Meaning) → fs ≡ [] → b ≡ false → IsKnownMeaning meaning → IsKnownMeaning (known_unless fs b meaning)
unless_known [] false meaning e h i = i
unless_known [] true meaning e h i = absurd cc
unless_known (f ∷ fs) b meaning e h i = absurd cc

pub record FunctionLine (s : Scope) (h : Headed) (es : List Expr) : Type 0 where
  pub formals : AreKnownEntries h.heading.formals
  pub meaning : IsKnownMeaning (function_meaning s h es)
  pub results : Has AreWholeExprs (results_in (with_all s h.heading.formals) h.heading.results es)

pub function_line_known : (s : Scope) (head : FunctionHead) (es : List Expr) → IsKnownScope s → function_faults s (function s head) es ≡ [] → FunctionLine s (function s head) es
unfolding function_faults function_meaning
function_line_known s head es known e =
    let h = function s head in
    let inner = with_all s h.heading.formals in
    let rest = results_of inner h.heading.results es in
    let x = function_known s head known (front_clean h.faults rest e) in
    let sure = with_all_known s h.heading.formals known x.formals in
    let clean = back_clean h.faults rest e in
    record {
      formals = x.formals;
      meaning = unless_known (h.faults ++ rest) (is_any_faulty inner es) h.heading.meaning e (none_any_faulty inner es sure (results_side_clean inner h.heading.results es x.results clean)) x.meaning;
      results = results_known inner h.heading.results es sure x.results clean;
    }

-- ---- replicators

pub bound_reads : (s : Scope) (e : Expr) → IsKnownScope s → (bound s e).faults ≡ [] → (is_faulty (bound s e).kind ≡ false) × Has IsWholeExpr (int_tree s e)
unfolding bound int_tree
bound_reads s e known c =
    let x = (expr_view e).said s in
    let y = (judged x.term).under int in
    let r = (said_sound s e known (front_clean x.faults y.faults c)).wanted int (back_clean x.faults y.faults c) in
    (reads_no_fault int y.kind ((expr_view e).open_expr s) r, placed_as int y.kind ((expr_view e).open_expr s) int_known r)

index_known : (fs : List Fault) (b : Bool) (name : List ℕ) → fs ≡ [] → b ≡ false → IsKnownMeaning (index_of fs b name)
index_known [] false name e h = unknown_primitive p.Int
index_known [] true name e h = absurd cc
index_known (f ∷ fs) b name e h = absurd cc

tree_there : (level : ℕ) (x : Option KnownReplicator) (a b : Option TypedExpr) → Has IsWholeExpr a → Has IsWholeExpr b → Has IsWholeReplicator (tree_of level x a b)
tree_there level x None b h i = h
tree_there level x (Some a) None h i = i
tree_there level x (Some a) (Some b) h i = (h, i)

pub record Replicated (s : Scope) (by : Replicating) (rounds : ℕ) (r : Replicator) : Type 0 where
  pub index : AreKnownEntries (enters s by rounds r)
  pub tree : Has IsWholeReplicator (tree s rounds r)

pub replicator_known : (s : Scope) (by : Replicating) (rounds : ℕ) (r : Replicator) → IsKnownScope s → faults s by rounds r ≡ [] → Replicated s by rounds r
unfolding faults enters tree read
replicator_known s by rounds r known e =
    let a = bound s r.base in
    let b = bound s r.count in
    let x = read s r in
    let own = front_clean (a.faults ++ b.faults) (unless_faulty x.is_faulty (asked by r.name rounds x.constants)) e in
    let c = bound_reads s r.base known (front_clean a.faults b.faults own) in
    let d = bound_reads s r.count known (back_clean a.faults b.faults own) in
    record {
      index = (index_known (faults_of by r.name rounds x) x.is_faulty r.name e (ap (λ (z : Bool). z || is_faulty b.kind) c.0 ∙ d.0), tt);
      tree = tree_there _ (counting s rounds r).known (int_tree s r.base) (int_tree s r.count) c.1 d.1;
    }
