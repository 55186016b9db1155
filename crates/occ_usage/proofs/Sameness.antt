-- Lines that do not name a specification use and report the same in scopes that differ in the value of that alone.
use Rattle.std.proofs.Common.{◌≡◌, ◌∙◌, ◌++◌, ◌+◌, ◌||◌, ◌&&◌, ℕ, zero, suc, ℤ, Bool, true, false, not, Option, Some, None, List, [], ◌∷◌, length, if◌then◌else◌, refl, ap, ap₂, subst}
use Rattle.occ_base.specs.Errors.{error_at}
use Rattle.occ_base.specs.Order.{diag_order, placed}
use Rattle.occ_base.specs.declared.diag.Diag.{Diag}
use Rattle.occ_alias.specs.Entering.{body_bound, entry_bounds, specified}
use Rattle.occ_alias.specs.Naming.{elements_depend, form_depends}
use Rattle.occ_alias.proofs.Sameness.{differ_more, form_effect_same, form_uses_same, length_same, line_faults_same, root_name_same, specified_same, used_same}
use Rattle.occ_project.specs.declared.expanded.Location.{Location}
use Rattle.occ_scope.specs.declared.meaning.ScopeEntry.{ScopeEntry}
use Rattle.occ_types.specs.declared.interface.UseKind.TheVariants as kind
use Rattle.occ_typing.specs.Forms.{BlockKind, TypedForm}
use Rattle.occ_typing.specs.BlockVariants as block
use Rattle.occ_typing.specs.FormVariants as form
use Rattle.occ_typing_rules.specs.declared.expr.TypedElement.{TypedElement}
use Rattle.occ_typing_statements.specs.declared.replicator_tree.KnownReplicator.{KnownReplicator}
use Rattle.occ_usage_conflicts.specs.Bodies.{body_uses}
use Rattle.occ_usage_conflicts.specs.Components.{joined}
use Rattle.occ_usage_conflicts.specs.ParallelRule.{below, code_of, component_faults, fault_if, root_fault, root_faults, some_clash, target_faults}
use Rattle.occ_usage_conflicts.specs.declared.rule.Least.TheVariants as least
use Rattle.occ_usage_conflicts.specs.declared.rule.Rule.{Rule as ConflictRule}
use Rattle.occ_usage_conflicts.specs.declared.rule.Rule.TheVariants as rule
use Rattle.occ_usage_values.specs.Bounds.{Env}
use Rattle.occ_usage_values.specs.Differing.{DifferAt, IsSame}
use Rattle.occ_usage_values.specs.Naming.{element_depends, exprs_depend}
use Rattle.occ_usage_values.specs.declared.bound.Bound.{Bound}
use Rattle.occ_usage_values.specs.declared.uses.Use.{Use}
use Rattle.occ_usage_values.proofs.Differing.{left_false, right_false}
use Rattle.occ_usage.specs.AbbreviationRule.{abbreviation_at}
use Rattle.occ_usage.specs.Effect.{effect_after, effect_under, inner, is_body, line_effect, lines_effect}
use Rattle.occ_usage.specs.Lines.{Under, added, added_by, after_by, body_over, components, components_by, ends_item, entered, items, items_of, known_replicator, line_uses, rounds_to, under_uses, with_index}
use Rattle.occ_usage.specs.Naming.{lines_depend}
use Rattle.occ_usage.specs.ParallelRule.{assignment_faults, block_faults, own_faults, parallel_at, targets}
use Rattle.occ_usage.specs.Trees.{Empty, Head, Tree, Trees}
use Rattle.occ_usage.specs.Walk.{Finding, Rule, reported, reported_of, rounds_reported, under_reported_by}

-- ---- lines that do not name it

record PartsUnnamed (d : ℕ) (h : Head) (t following : Trees) : Type 0 where
  form : form_depends d h.form ≡ false
  under : lines_depend d t ≡ false
  after : lines_depend d following ≡ false

parts_unnamed : (d : ℕ) (h : Head) (t following : Trees) → lines_depend d (Tree h t following) ≡ false → PartsUnnamed d h t following
parts_unnamed d h t following n =
    let first : (form_depends d h.form || lines_depend d t) ≡ false = left_false (form_depends d h.form || lines_depend d t) (lines_depend d following) n in record {
      form = left_false (form_depends d h.form) (lines_depend d t) first;
      under = right_false (form_depends d h.form) (lines_depend d t) first;
      after = right_false (form_depends d h.form || lines_depend d t) (lines_depend d following) n;
    }

-- ---- effects

-- what comes into scope after a line with this effect
effect_after_same : (d : ℕ) (h : Head) → form_depends d h.form ≡ false → (outer outer1 e f : Env) → DifferAt d outer outer1 → DifferAt d e f → (does : Bool) (adds : Option (List ScopeEntry))
    → DifferAt d (effect_after outer e h does adds) (effect_after outer1 f h does adds)
effect_after_same d h n outer outer1 e f o m does None = o
effect_after_same d h n outer outer1 e f o m does (Some entries) =
    subst (λ (more : List Bound). DifferAt d (e ++ (if is_body h.form then body_bound [] does ∷ [] else specified e h.place entries h.form)) (f ++ (if is_body h.form then body_bound [] does ∷ [] else more)))
    (specified_same d h.form n h.place entries e f m)
    (differ_more d e f (if is_body h.form then body_bound [] does ∷ [] else specified e h.place entries h.form) m)

lines_effect_same : (d : ℕ) (t : Trees) → lines_depend d t ≡ false → (outer outer1 e f : Env) → DifferAt d outer outer1 → DifferAt d e f → lines_effect t outer e ≡ lines_effect t outer1 f
lines_effect_same d Empty n outer outer1 e f o m = refl
lines_effect_same d (Tree h t following) n outer outer1 e f o m =
    let parts = parts_unnamed d h t following n in
    let own = parts.form in
    let within = differ_more d e f (entry_bounds h.enters) m in
    let under : lines_effect t (inner e h) (inner e h) ≡ lines_effect t (inner f h) (inner f h)
    = lines_effect_same d t parts.under (inner e h) (inner f h) (inner e h) (inner f h) within within in
    let later : lines_effect following outer (effect_after outer e h (lines_effect t (inner f h) (inner f h)) h.adds) ≡ lines_effect following outer1 (effect_after outer1 f h (lines_effect t (inner f h) (inner f h)) h.adds)
    = lines_effect_same d following parts.after outer outer1 _ _ o (effect_after_same d h own outer outer1 e f o m (lines_effect t (inner f h) (inner f h)) h.adds) in
    ap (λ (does : Bool). line_effect e h does || lines_effect following outer (effect_after outer e h does h.adds)) under
    ∙ ap₂ (λ (x y : Bool). (x || (lines_effect t (inner f h) (inner f h) && not (is_body h.form))) || y) (form_effect_same d h.form own e f m) later

effect_under_same : (d : ℕ) (t : Trees) (h : Head) → lines_depend d t ≡ false → IsSame d (λ env. effect_under t env h)
effect_under_same d t h n e f m = let within = differ_more d e f (entry_bounds h.enters) m in lines_effect_same d t n (inner e h) (inner f h) (inner e h) (inner f h) within within

-- ---- uses

-- the uses of items under a line
abbrev pub UnderSame : ℕ → Under → Type 0
UnderSame d under = (e f : Env) → DifferAt d e f → under e ≡ under f

rounds_same : (d n : ℕ) (base : ℤ) (under : Under) → UnderSame d under → IsSame d (λ env. rounds_to n base env under)
rounds_same d zero base under u e f m = refl
rounds_same d (suc i) base under u e f m =
    ap₂ (λ (xs : List (List Use)) (ys : List (List Use)). xs ++ joined ys ∷ []) (rounds_same d i base under u e f m)
    (u (with_index e base i) (with_index f base i) (differ_more d e f _ m))

components_by_same : (d : ℕ) (k : Option KnownReplicator) (h : Head) (under : Under) → UnderSame d under → IsSame d (λ env. components_by k env h under)
components_by_same d None h under u e f m = u (inner e h) (inner f h) (differ_more d e f (entry_bounds h.enters) m)
components_by_same d (Some k) h under u e f m = rounds_same d k.count k.base under u e f m

components_same : (d : ℕ) (h : Head) (under : Under) → UnderSame d under → IsSame d (λ env. components env h under)
components_same d h under u = components_by_same d (known_replicator h.form) h under u

line_uses_same : (d : ℕ) (h : Head) (under : Under) → form_depends d h.form ≡ false → UnderSame d under → IsSame d (λ env. line_uses env h under)
line_uses_same d h under own u e f m =
    ap₂ (λ (us vs : List Use). us ++ vs) (form_uses_same d h.form own h.place e f m) (ap (λ (xs : List (List Use)). under_uses h.form h.place (joined xs)) (components_same d h under u e f m))

body_over_same : (d : ℕ) (h : Head) (e f : Env) → DifferAt d e f → (us vs : List Use) (does is : Bool) → us ≡ vs → does ≡ is → body_over e h us does ≡ body_over f h vs is
body_over_same d h e f m us vs does is p q =
    ap₂ (λ (xs : List Use) (t : Bool). body_over e h xs t) p q
    ∙ ap (λ (n : ℕ). body_bound (body_uses n (n + length h.enters) h.place vs) is) (length_same d e f m)

entered_same : (d : ℕ) (h : Head) → form_depends d h.form ≡ false → (e f : Env) → DifferAt d e f → (us vs : List Use) (does is : Bool) → us ≡ vs → does ≡ is → (entries : List ScopeEntry)
    → entered e h us does entries ≡ entered f h vs is entries
entered_same d h own e f m us vs does is p q entries =
    ap₂ (λ (x : Bound) (xs : List Bound). if is_body h.form then x ∷ [] else xs) (body_over_same d h e f m us vs does is p q) (specified_same d h.form own h.place entries e f m)

added_by_same : (d : ℕ) (h : Head) → form_depends d h.form ≡ false → (e f : Env) → DifferAt d e f → (us vs : List Use) (does is : Bool) → us ≡ vs → does ≡ is → (adds : Option (List ScopeEntry))
    → added_by e h us does adds ≡ added_by f h vs is adds
added_by_same d h own e f m us vs does is p q None = refl
added_by_same d h own e f m us vs does is p q (Some entries) = entered_same d h own e f m us vs does is p q entries

added_same : (d : ℕ) (h : Head) (t : Trees) (under : Under) → form_depends d h.form ≡ false → lines_depend d t ≡ false → UnderSame d under → IsSame d (λ env. added env h t under)
added_same d h t under own n u e f m =
    added_by_same d h own e f m _ _ _ _ (ap joined (components_same d h under u e f m)) (effect_under_same d t h n e f m) h.adds

grown_same : (d : ℕ) (e f more others : Env) → DifferAt d e f → more ≡ others → DifferAt d (e ++ more) (f ++ others)
grown_same d e f more others m p = subst (λ (z : Env). DifferAt d (e ++ more) (f ++ z)) p (differ_more d e f more m)

items_same : (d : ℕ) (t : Trees) → lines_depend d t ≡ false → (outer outer1 e f : Env) → DifferAt d outer outer1 → DifferAt d e f → (own own1 : List Use) → own ≡ own1
    → items t outer e own ≡ items t outer1 f own1
items_same d Empty n outer outer1 e f o m own own1 p = ap (λ (us : List Use). us ∷ []) p
items_same d (Tree h t following) n outer outer1 e f o m own own1 p =
    let parts = parts_unnamed d h t following n in
    let named = parts.form in
    let below = parts.under in
    let after = parts.after in
    let under : UnderSame d (items_of t) = λ x y q. items_same d t below x y x y q q [] [] refl in
    let line : own ++ line_uses e h (items_of t) ≡ own1 ++ line_uses f h (items_of t) = ap₂ (λ (us vs : List Use). us ++ vs) p (line_uses_same d h (items_of t) named under e f m) in
    let grown : DifferAt d (e ++ added e h t (items_of t)) (f ++ added f h t (items_of t)) = grown_same d e f _ _ m (added_same d h t (items_of t) named below under e f m) in
    let ended : items following outer outer [] ≡ items following outer1 outer1 [] = items_same d following after outer outer1 outer outer1 o o [] [] refl in
    let more : items following outer (e ++ added e h t (items_of t)) (own ++ line_uses e h (items_of t)) ≡ items following outer1 (f ++ added f h t (items_of t)) (own1 ++ line_uses f h (items_of t))
    = items_same d following after outer outer1 _ _ o grown _ _ line in
    ap₂ (λ (xs ys : List (List Use)). if ends_item h.adds then xs else ys) (ap₂ (λ (us : List Use) (xs : List (List Use)). us ∷ xs) line ended) more

pub items_of_same : (d : ℕ) (t : Trees) → lines_depend d t ≡ false → UnderSame d (items_of t)
items_of_same d t n e f m = items_same d t n e f e f m m [] [] refl

-- ---- what is reported

-- a rule reports the same of a line that does not name it
abbrev RuleSame : Rule → Type 0
RuleSame r = (d : ℕ) (h : Head) (t : Trees) → form_depends d h.form ≡ false → lines_depend d t ≡ false → (e f : Env) → DifferAt d e f
    → r (record { line = h; under = t; env = e }) ≡ r (record { line = h; under = t; env = f })

abbrev pub FindingSame : ℕ → Finding → Type 0
FindingSame d x = (e f : Env) → DifferAt d e f → x e ≡ x f

rounds_reported_same : (d n : ℕ) (base : ℤ) (x : Finding) → FindingSame d x → IsSame d (λ env. rounds_reported n base env x)
rounds_reported_same d zero base x u e f m = refl
rounds_reported_same d (suc i) base x u e f m =
    ap₂ (λ (ds es : List Diag). placed diag_order es ds) (rounds_reported_same d i base x u e f m) (u (with_index e base i) (with_index f base i) (differ_more d e f _ m))

under_reported_same : (d : ℕ) (k : Option KnownReplicator) (h : Head) (x : Finding) → FindingSame d x → IsSame d (λ env. under_reported_by k env h x)
under_reported_same d None h x u e f m = u (inner e h) (inner f h) (differ_more d e f (entry_bounds h.enters) m)
under_reported_same d (Some k) h x u e f m = rounds_reported_same d k.count k.base x u e f m

after_by_same : (d : ℕ) (h : Head) (t : Trees) → form_depends d h.form ≡ false → lines_depend d t ≡ false → (outer outer1 e f : Env) → DifferAt d outer outer1 → DifferAt d e f → (adds : Option (List ScopeEntry))
    → DifferAt d (after_by outer e h t adds) (after_by outer1 f h t adds)
after_by_same d h t own n outer outer1 e f o m None = o
after_by_same d h t own n outer outer1 e f o m (Some entries) = grown_same d e f _ _ m (added_same d h t (items_of t) own n (items_of_same d t n) e f m)

reported_same : (r : Rule) → RuleSame r → (d : ℕ) (t : Trees) → lines_depend d t ≡ false → (outer outer1 e f : Env) → DifferAt d outer outer1 → DifferAt d e f
    → reported r t outer e ≡ reported r t outer1 f
reported_same r u d Empty n outer outer1 e f o m = refl
reported_same r u d (Tree h t following) n outer outer1 e f o m =
    let parts = parts_unnamed d h t following n in
    let named = parts.form in
    let below = parts.under in
    let after = parts.after in
    let inside : FindingSame d (λ (z : Env). reported r t z z) = λ x y q. reported_same r u d t below x y x y q q in
    ap₂ (λ (ds es : List Diag). ds ++ es)
    (ap₂ (λ (ds es : List Diag). ds ++ es) (under_reported_same d (known_replicator h.form) h (λ (z : Env). reported r t z z) inside e f m) (u d h t named below e f m))
    (reported_same r u d following after outer outer1 _ _ o (after_by_same d h t named below outer outer1 e f o m h.adds))

abbreviation_same : RuleSame abbreviation_at
abbreviation_same d h t own n e f m = line_faults_same d h.form own h.place e f m

-- ---- the parallel rule

fault_if_same : (d : ℕ) (test : Bool) (r : ConflictRule) (line : Location) (root : ℕ) → IsSame d (λ env. fault_if test r line env root)
fault_if_same d true r line root e f m = ap (λ (name : Option (List ℕ)). error_at line.file line.line (code_of r) name ∷ []) (root_name_same d root e f m)
fault_if_same d false r line root e f m = refl

below_alike : (n : ℕ) (f g : ℕ → List Diag) → ((k : ℕ) → f k ≡ g k) → below n f ≡ below n g
below_alike zero f g h = refl
below_alike (suc n) f g h = ap₂ (λ (ds es : List Diag). ds ++ es) (below_alike n f g h) (h n)

component_faults_same : (d : ℕ) (line : Location) (xs : List (List Use)) → IsSame d (λ env. component_faults line env xs)
component_faults_same d line xs e f m =
    ap (λ (n : ℕ). below n (root_faults line e xs)) (length_same d e f m)
    ∙ below_alike (length f) (root_faults line e xs) (root_faults line f xs) (λ k.
    ap₂ (λ (ds es : List Diag). ds ++ es)
    (ap₂ (λ (ds es : List Diag). ds ++ es) (fault_if_same d (some_clash rule.Written least.May k xs) rule.Written line k e f m) (fault_if_same d (some_clash rule.Input least.May k xs) rule.Input line k e f m))
    (fault_if_same d (some_clash rule.Output least.May k xs) rule.Output line k e f m))

target_faults_same : (d : ℕ) (line : Location) (xs : List (List Use)) → IsSame d (λ env. target_faults line env xs)
target_faults_same d line xs e f m =
    ap (λ (n : ℕ). below n (root_fault rule.Written least.Must line e xs)) (length_same d e f m)
    ∙ below_alike (length f) (root_fault rule.Written least.Must line e xs) (root_fault rule.Written least.Must line f xs) (λ k.
    fault_if_same d (some_clash rule.Written least.Must k xs) rule.Written line k e f m)

targets_same : (d : ℕ) (els : List TypedElement) → elements_depend d els ≡ false → (line : Location) → IsSame d (λ env. targets els env line)
targets_same d [] n line e f m = refl
targets_same d (el ∷ els) n line e f m =
    ap₂ (λ (us : List Use) (xs : List (List Use)). us ∷ xs) (used_same d kind.Write el (left_false (element_depends d el) (elements_depend d els) n) line e f m)
    (targets_same d els (right_false (element_depends d el) (elements_depend d els) n) line e f m)

assignment_same : (d : ℕ) (els : List TypedElement) → elements_depend d els ≡ false → (line : Location) → IsSame d (λ env. assignment_faults els env line)
assignment_same d [] n line e f m = refl
assignment_same d (el ∷ []) n line e f m = refl
assignment_same d (el ∷ other ∷ els) n line e f m =
    ap (λ (xs : List (List Use)). target_faults line e xs) (targets_same d (el ∷ other ∷ els) n line e f m) ∙ target_faults_same d line (targets (el ∷ other ∷ els) f line) e f m

block_same : (d : ℕ) (k : BlockKind) (line : Location) (xs : List (List Use)) → IsSame d (λ env. block_faults k line env xs)
block_same d block.Parallel line xs e f m = component_faults_same d line xs e f m
block_same d block.Sequence line xs e f m = refl
block_same d block.Conditional line xs e f m = refl
block_same d block.Alternation line xs e f m = refl

own_same : (d : ℕ) (x : TypedForm) → form_depends d x ≡ false → (line : Location) (xs : List (List Use)) → IsSame d (λ env. own_faults x line env xs)
own_same d (form.Block k r) n line xs e f m = block_same d k line xs e f m
own_same d (form.Assignment els es) n line xs e f m = assignment_same d els (right_false (exprs_depend d es) (elements_depend d els) n) line e f m
own_same d other n line xs e f m = refl

parallel_same : RuleSame parallel_at
parallel_same d h t own n e f m =
    ap (λ (xs : List (List Use)). own_faults h.form h.place e xs) (components_same d h (items_of t) (items_of_same d t n) e f m)
    ∙ own_same d h.form own h.place (components f h (items_of t)) e f m

pub reported_parallel_same : (d : ℕ) (t : Trees) → lines_depend d t ≡ false → FindingSame d (reported_of parallel_at t)
reported_parallel_same d t n e f m = reported_same parallel_at parallel_same d t n e f e f m m

pub reported_abbreviation_same : (d : ℕ) (t : Trees) → lines_depend d t ≡ false → FindingSame d (reported_of abbreviation_at t)
reported_abbreviation_same d t n e f m = reported_same abbreviation_at abbreviation_same d t n e f e f m m
