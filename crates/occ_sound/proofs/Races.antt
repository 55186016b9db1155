-- What the rules tell nothing of has no race.
use Rattle.std.proofs.Common.{◌≡◌, ◌+◌, ◌<◌, ◌≤◌, ℕ, zero, suc, Bool, true, false, ap, sym, subst, ◌∙◌, refl, arith, List, [], ◌∷◌, ◌++◌, Option, Some, None, inl, inr, length}
use Rattle.std.specs.Prelude.{ℤ, pos, ◌+ℤ◌, ◌⊎◌, ◌&&◌, ◌==◌, ◌||◌, slice_get, take}
use Rattle.std.specs.BTreeSet.{insert_key}
use Rattle.std.specs.Ordering.{match_ordering}
use Rattle.std.specs.declared.cmp.Ordering.{Ordering}
use Rattle.std.specs.declared.cmp.Ordering.TheVariants.{Less, Equal, Greater}
use Rattle.occ_base.specs.Order.{diag_order, placed}
use Rattle.occ_base.specs.declared.diag.Diag.{Diag}
use Rattle.occ_project.specs.declared.expanded.Location.{Location}
use Rattle.occ_scope.specs.declared.meaning.ScopeEntry.{ScopeEntry}
use Rattle.occ_types.specs.declared.interface.UseKind.{UseKind}
use Rattle.occ_types.specs.declared.interface.UseKind.TheVariants as kind
use Rattle.occ_types.specs.declared.value.Value.{Value}
use Rattle.occ_types.specs.declared.value.Value.TheVariants as v
use Rattle.occ_typing.specs.declared.tree.TypedLine.{TypedLine, out-TypedLine}
use Rattle.occ_typing_lines.specs.declared.tree.BlockKind.TheVariants as block
use Rattle.occ_typing_lines.specs.declared.tree.TypedForm.{TypedForm}
use Rattle.occ_typing_lines.specs.declared.tree.TypedForm.TheVariants as form
use Rattle.occ_typing_rules.specs.declared.expr.Selector.{out-Selector}
use Rattle.occ_typing_rules.specs.declared.expr.TypedActual.{TypedActual}
use Rattle.occ_typing_rules.specs.declared.expr.TypedElement.{out-TypedElement}
use Rattle.occ_typing_rules.specs.declared.expr.TypedExpr.{TypedExpr, out-TypedExpr}
use Rattle.occ_usage_lines.specs.Forms.{each_uses, form_uses}
use Rattle.occ_usage_values.specs.Bounds.{Env}
use Rattle.occ_usage_values.specs.Views.{expr_view}
use Rattle.occ_usage_values.specs.declared.uses.Use.{Use}
use Rattle.occ_running.specs.Memory.{IsOneOf, Thread}
use Rattle.occ_running.specs.Running.{specifying}
use Rattle.occ_running.specs.Runs.{Event}
use Rattle.occ_running.specs.Scopes.{Element, Scope, Thing}
use Rattle.occ_running.specs.Works.{Both, Call, Choice, Evaluate, ExprForm, Find, Idle, InTurn, Item, Main, Nothing, Pieces, Plan, Reach, Select, SelectorForm, Specify, Taken, Together, Under, Waiting, Way, Work, actual_work, block_plan, bounds, choice_plan, evaluate, find, guard_waits, guard_work, input_work, operands, pass, plan, process_plan, receive, receive_all, received, send, send_all, taken_plan, wait_for, waiting_plan}
use Rattle.occ_sound.specs.Agreeing.{Covered, Shared}
use Rattle.occ_sound.specs.Covering.{CoveredWork}
use Rattle.occ_sound.proofs.Knowing.{Good}
use Rattle.occ_sound.proofs.Lists.{in_cases, in_left, in_right, no_more, some_same}
use Rattle.occ_alias.specs.AbbreviationRule.{calls_faults, reported_with, scope_faults}
use Rattle.occ_alias.specs.LineCalls.{each_calls, form_calls, replicator_calls}
use Rattle.occ_typing_statements.specs.declared.replicator_tree.KnownReplicator.{KnownReplicator}
use Rattle.occ_typing_statements.specs.declared.replicator_tree.TypedReplicator.{TypedReplicator}
use Rattle.occ_usage.specs.AbbreviationRule.{abbreviation_at}
use Rattle.occ_usage.specs.Effect.{effect_under, inner}
use Rattle.occ_usage.specs.Lines.{added, added_by, after_by, after_line, components, items_of, known_replicator, rounds_to, with_index}
use Rattle.occ_usage.specs.ParallelRule.{parallel_at}
use Rattle.occ_usage.specs.Trees.{Tree, Trees, head_of, trees_of, under}
use Rattle.occ_usage.specs.Walk.{Finding, Rule as WalkRule, line_reported, reported, rounds_reported, under_reported, under_reported_by}
use Rattle.occ_usage.proofs.Exact.{same_diags}
use Rattle.occ_usage_conflicts.specs.Components.{joined}
use Rattle.occ_usage_conflicts.specs.ParallelRule.{some_clash}
use Rattle.occ_usage_conflicts.specs.declared.rule.Least.TheVariants as least
use Rattle.occ_usage_conflicts.specs.declared.rule.Rule.{Rule}
use Rattle.occ_usage_conflicts.specs.declared.rule.Rule.TheVariants as rule
use Rattle.occ_usage_lines.specs.Entering.{entry_bounds, index_value}
use Rattle.occ_usage_parts.specs.Parts.{overlap_of}
use Rattle.occ_usage_values.specs.Bounds.{body_of}
use Rattle.occ_usage_values.specs.declared.bound.Bound.{Bound}
use Rattle.occ_usage_values.specs.declared.bound.Bound.TheVariants as b
use Rattle.occ_usage_values.specs.Calls.{Call as ACall}
use Rattle.occ_running.specs.Works as works
use Rattle.occ_running.specs.Works.{Piece, items_behind, behind_line, replicator_of, rounds, rounds_in}
use Rattle.occ_sound.specs.Covering.{Allows, AllowsOne, AreIndices, item_uses}
use Rattle.occ_sound.specs.Safe.{IsClean, IsCleanFormula, IsOther, IsSilent, NoClash, Separate}
use Rattle.occ_sound.proofs.Covers.{BroughtBodies, IsBrought}
use Rattle.occ_sound.proofs.Items.{copies, first_tree, in_first_item, index_if, items_allowed, known_none, known_some, own_uses, rounds_front, to_front}
use Rattle.occ_sound.proofs.Keeping.{BodiesClean, same_number, separate_in, separate_left, separate_right}
use Rattle.occ_running.specs.Memory.{Cell, InCall, InComponent, Mark}
use Rattle.occ_running.specs.Running
use Rattle.occ_running.specs.Running.{Does, Gave, Outcome, Passed, Stopped, Touches, both_ended, ended, of_process}
use Rattle.occ_running.specs.Runs.{NoRace, Occurs, Race, RaceFree, Run, collide}
use Rattle.occ_running.specs.Scopes.{Body, Clock, Formal, Formula, Held, Other, Shown, Stored, Suits, formals_of}
use Rattle.occ_running.specs.Works.{EntersIndex, IsNoted}
use Rattle.occ_sound.specs.Agreeing.{Agrees, Extends, InPart, uses_of_body}
use Rattle.occ_sound.specs.Covering.{ByOne}
use Rattle.occ_sound.specs.Safe.{Safe}
use Rattle.occ_sound.proofs.Covers.{AreHere, append_length, body_matches, bounds_length, covers, env_length, first_piece, indices_agree, indices_here, known_components, plain_components, root_below, specified_bodies, specified_here, unknown_components}
use Rattle.occ_sound.proofs.Items.{in_joined, index_bounds, main_item, replicated_uses, specified_item}
use Rattle.occ_sound.proofs.Keeping.{AllVisible, count_meeting, extends_length, other_number, part_visible, safe_called, safe_deeper, safe_more, separate_called, separate_more}
use Rattle.occ_sound.proofs.Knowing.{entered_as, good}
use Rattle.occ_sound.proofs.Lists.{and_both, get_below, in_got, length_last, none_some, take_length}
use Rattle.occ_sound.proofs.Cells.{own_number}
use Rattle.occ_sound.proofs.Names.{agrees_length, formals_agree, stands}
use Rattle.occ_sound.proofs.Readying.{AllReady, ClashFree, IsCleanLine, IsReady, Ready, ReadyOne, bounds_ready, called_ready, decided_ready, evaluate_ready, expression_ready, finds_ready, form_under, line_ready, operands_ready, passing_ready, plan_ready, planned_under, read_ready, rest_ready, select_ready, silent_left, silent_right, specifying_ready}
use Rattle.occ_usage_conflicts.proofs.Clashing.{any_given}
use Rattle.occ_usage_conflicts.specs.Bodies.{body_uses}
use Rattle.occ_usage_conflicts.specs.ParallelRule.{clash, clash_between, conflict, counts, uses_clash}
use Rattle.std.specs.List.{list_any}

-- ---- lines of which nothing is told

clean_same : (t u : Trees) (outer env : Env) → t ≡ u → IsClean t outer env → IsClean u outer env
clean_same t u outer env e h = subst (λ (z : Trees). IsClean z outer env) e h

pub first_clean : (l : TypedLine) (ls : List TypedLine) (outer env : Env) → IsClean (trees_of (l ∷ ls)) outer env → IsCleanLine env l
first_clean l ls outer env h =
    let g = clean_same (trees_of (l ∷ ls)) (Tree (head_of l) (under l) (trees_of ls)) outer env (first_tree l ls) h in (
      silent_left (line_reported parallel_at env (head_of l) (under l) (λ (e : Env). reported parallel_at (under l) e e)) (reported parallel_at (trees_of ls) outer (after_line outer env (head_of l) (under l))) g.parallel,
      silent_left (line_reported abbreviation_at env (head_of l) (under l) (λ (e : Env). reported abbreviation_at (under l) e e)) (reported abbreviation_at (trees_of ls) outer (after_line outer env (head_of l) (under l))) g.abbreviations,
    )

later_clean : (l : TypedLine) (ls : List TypedLine) (outer env : Env) → IsClean (trees_of (l ∷ ls)) outer env → IsClean (trees_of ls) outer (after_line outer env (head_of l) (under l))
later_clean l ls outer env h =
    let g = clean_same (trees_of (l ∷ ls)) (Tree (head_of l) (under l) (trees_of ls)) outer env (first_tree l ls) h in
    record {
      parallel = silent_right (line_reported parallel_at env (head_of l) (under l) (λ (e : Env). reported parallel_at (under l) e e)) (reported parallel_at (trees_of ls) outer (after_line outer env (head_of l) (under l))) g.parallel;
      abbreviations = silent_right (line_reported abbreviation_at env (head_of l) (under l) (λ (e : Env). reported abbreviation_at (under l) e e)) (reported abbreviation_at (trees_of ls) outer (after_line outer env (head_of l) (under l))) g.abbreviations;
    }

pub behind_specified : (l : TypedLine) (ls : List TypedLine) (outer env : Env) (names : List ScopeEntry) → (out-TypedLine l).adds ≡ Some names → IsClean (trees_of (l ∷ ls)) outer env → IsClean (trees_of ls) outer (env ++ added env (head_of l) (under l) (items_of (under l)))
behind_specified l ls outer env names h c =
    subst (λ (e : Env). IsClean (trees_of ls) outer e) (ap (λ (o : Option (List ScopeEntry)). after_by outer env (head_of l) (under l) o) h ∙ sym (ap (λ (o : Option (List ScopeEntry)). env ++ added env (head_of l) (under l) (items_of (under l))) h)) (later_clean l ls outer env c)

behind_main : (l : TypedLine) (ls : List TypedLine) (outer env : Env) → (out-TypedLine l).adds ≡ None → IsClean (trees_of (l ∷ ls)) outer env → IsClean (trees_of ls) outer outer
behind_main l ls outer env h c = subst (λ (e : Env). IsClean (trees_of ls) outer e) (ap (λ (o : Option (List ScopeEntry)). after_by outer env (head_of l) (under l) o) h) (later_clean l ls outer env c)

-- ---- items and rounds

-- items without an index, each with lines of which nothing is told
abbrev PlainClean : Env → List Piece → Type 0
PlainClean outer [] = Unit {0}
PlainClean outer (p ∷ ps) = (p.index ≡ []) × IsClean (trees_of p.lines) outer outer × PlainClean outer ps

behind_clean_by : (l : TypedLine) (ls : List TypedLine) (outer env : Env) (o : Option (List ScopeEntry)) → (out-TypedLine l).adds ≡ o → IsClean (trees_of (l ∷ ls)) outer env
    → ((e : Env) → IsClean (trees_of ls) outer e → PlainClean outer (items_behind ls)) → PlainClean outer (items_behind (l ∷ ls))
behind_clean_by l ls outer env None h c k =
    subst (λ (o : Option (List ScopeEntry)). PlainClean outer (behind_line o ls (items_behind ls))) (sym h) (refl, behind_main l ls outer env h c, k outer (behind_main l ls outer env h c))
behind_clean_by l ls outer env (Some names) h c k =
    subst (λ (o : Option (List ScopeEntry)). PlainClean outer (behind_line o ls (items_behind ls))) (sym h) (k (env ++ added env (head_of l) (under l) (items_of (under l))) (behind_specified l ls outer env names h c))

behind_clean : (ls : List TypedLine) (outer env : Env) → IsClean (trees_of ls) outer env → PlainClean outer (items_behind ls)
behind_clean [] outer env c = tt
behind_clean (l ∷ ls) outer env c = behind_clean_by l ls outer env (out-TypedLine l).adds refl c (λ e k. behind_clean ls outer e k)

no_indices : (bs : List Bound) (xs : List Thing) → xs ≡ [] → AreIndices bs xs → bs ≡ []
no_indices bs xs h k = none_left bs (subst (λ (zs : List Thing). AreIndices bs zs) h k) where
  none_left : (cs : List Bound) → AreIndices cs [] → cs ≡ []
  none_left [] i = refl
  none_left (b.Value w size reads ∷ cs) i = absurd i
  none_left (b.Root name ∷ cs) i = absurd i
  none_left (b.Abbreviation p size reads ∷ cs) i = absurd i
  none_left (b.Body us does ∷ cs) i = absurd i
  none_left (b.Other ∷ cs) i = absurd i

one_ready : (env : Env) (p : Piece) (us : List Use) → p.index ≡ [] → IsClean (trees_of p.lines) env env → AllowsOne env p us → ReadyOne env p us
one_ready env p us h c a =
    let same : env ≡ env ++ a.0 = sym (no_more env) ∙ ap (λ (bs : List Bound). env ++ bs) (sym (no_indices a.0 p.index h a.1)) in
    (a.0, a.1, a.2, env, subst (λ (e : Env). IsClean (trees_of p.lines) env e) same c)

plain_ready : (env : Env) (ps : List Piece) (comps : List (List Use)) → PlainClean env ps → Allows env ps comps → AllReady env ps comps
plain_ready env [] comps c a = tt
plain_ready env (p ∷ ps) [] c a = absurd a
plain_ready env (p ∷ ps) (us ∷ comps) c a = (one_ready env p us c.0 c.1 a.0, plain_ready env ps comps c.2 a.1)

pub items_ready : (env : Env) (ls : List TypedLine) → IsClean (trees_of ls) env env → AllReady env (works.items_of ls) (items_of (trees_of ls) env)
items_ready env ls c = plain_ready env (works.items_of ls) (items_of (trees_of ls) env) (refl, c, behind_clean ls env env c) (items_allowed env ls)

rounds_ready : (n i : ℕ) (env : Env) (base : ℤ) (ls : List TypedLine) → ((j : ℕ) → j < i + n → IsClean (trees_of ls) (with_index env base j) (with_index env base j)) → AllReady env (rounds n i base ls) (rounds_front n i base env (items_of (trees_of ls)))
rounds_ready zero i env base ls c = tt
rounds_ready (suc n) i env base ls c = (
  (b.Value (index_value base i) None [] ∷ [], (index_if _ (base +ℤ pos i), tt, tt), λ u h. in_first_item (with_index env base i) ls u h, with_index env base i, c i (omega arith)),
  rounds_ready n (suc i) env base ls (λ j l. c j (let k : j < suc i + n = l in omega (arith, k))),
)

known_ready : (n : ℕ) (env : Env) (base : ℤ) (ls : List TypedLine) → ((j : ℕ) → j < n → IsClean (trees_of ls) (with_index env base j) (with_index env base j)) → AllReady env (rounds n 0 base ls) (rounds_to n base env (items_of (trees_of ls)))
known_ready n env base ls c =
    subst (λ (comps : List (List Use)). AllReady env (rounds n 0 base ls) comps) (sym (to_front n base env (items_of (trees_of ls)))) (rounds_ready n 0 env base ls (λ j l. c j (let k : j < 0 + n = l in omega (arith, k))))

unknown_ready : (n i : ℕ) (env : Env) (base : ℤ) (ls : List TypedLine) → IsClean (trees_of ls) (env ++ b.Value None None [] ∷ []) (env ++ b.Value None None [] ∷ [])
    → AllReady env (rounds n i base ls) (copies n (joined (items_of (trees_of ls) (env ++ b.Value None None [] ∷ []))))
unknown_ready zero i env base ls c = tt
unknown_ready (suc n) i env base ls c = (
  (b.Value None None [] ∷ [], (tt, tt, tt), λ u h. in_first_item (env ++ b.Value None None [] ∷ []) ls u h, env ++ b.Value None None [] ∷ [], c),
  unknown_ready n (suc i) env base ls c,
)

allowed : (env : Env) (ps : List Piece) (comps : List (List Use)) → AllReady env ps comps → Allows env ps comps
allowed env [] comps h = tt
allowed env (p ∷ ps) [] h = absurd h
allowed env (p ∷ ps) (us ∷ comps) h = ((h.0.0, h.0.1, h.0.2), allowed env ps comps h.1)

-- ---- the lines under a line of which nothing is told

under_of : (rule_ : WalkRule) (env : Env) (l : TypedLine) → IsSilent (line_reported rule_ env (head_of l) (under l) (λ (e : Env). reported rule_ (under l) e e)) → IsSilent (under_reported env (head_of l) (λ (e : Env). reported rule_ (under l) e e))
under_of rule_ env l h = silent_left (under_reported env (head_of l) (λ (e : Env). reported rule_ (under l) e e)) (rule_ (record { line = head_of l; under = under l; env = env })) h

own_of : (rule_ : WalkRule) (env : Env) (l : TypedLine) → IsSilent (line_reported rule_ env (head_of l) (under l) (λ (e : Env). reported rule_ (under l) e e)) → IsSilent (rule_ (record { line = head_of l; under = under l; env = env }))
own_of rule_ env l h = silent_right (under_reported env (head_of l) (λ (e : Env). reported rule_ (under l) e e)) (rule_ (record { line = head_of l; under = under l; env = env })) h

plain_under : (rule_ : WalkRule) (env : Env) (l : TypedLine) → known_replicator (out-TypedLine l).form ≡ None → IsSilent (line_reported rule_ env (head_of l) (under l) (λ (e : Env). reported rule_ (under l) e e))
    → IsSilent (reported rule_ (under l) (inner env (head_of l)) (inner env (head_of l)))
plain_under rule_ env l none h = subst (λ (o : Option KnownReplicator). IsSilent (under_reported_by o env (head_of l) (λ (e : Env). reported rule_ (under l) e e))) none (under_of rule_ env l h)

pub clean_under : (env : Env) (l : TypedLine) → known_replicator (out-TypedLine l).form ≡ None → IsCleanLine env l → IsClean (under l) (inner env (head_of l)) (inner env (head_of l))
clean_under env l none c = record { parallel = plain_under parallel_at env l none c.0; abbreviations = plain_under abbreviation_at env l none c.1 }

-- what is told once: of which nothing is told, of that nothing was reported
put_silent : (there : List Diag) (d : Diag) → IsSilent (insert_key diag_order there d) → IsOther d.code × IsSilent there
put_silent [] d h = h
put_silent (x ∷ there) d h = by (diag_order d x) refl h (put_silent there d) where
  by : (o : Ordering) → diag_order d x ≡ o → IsSilent (match_ordering o (d ∷ x ∷ there) (x ∷ there) (x ∷ insert_key diag_order there d))
      → (IsSilent (insert_key diag_order there d) → IsOther d.code × IsSilent there) → IsOther d.code × IsSilent (x ∷ there)
  by Less e h rest = h
  by Equal e h rest = (subst (λ (y : Diag). IsOther y.code) (sym (same_diags d x e)) h.0, h)
  by Greater e h rest = let r = rest h.1 in (r.0, (h.0, r.1))

placed_silent : (ds there : List Diag) → IsSilent (placed diag_order ds there) → IsSilent ds × IsSilent there
placed_silent [] there h = (tt, h)
placed_silent (d ∷ ds) there h =
    let first = put_silent (placed diag_order ds there) d h in
    let rest = placed_silent ds there first.1 in
    ((first.0, rest.0), rest.1)

round_by : (n : ℕ) (base : ℤ) (env : Env) (f : Finding) (j : ℕ) (t : Bool) → (j == n) ≡ t → j < suc n → (j < n → IsSilent (f (with_index env base j))) → IsSilent (f (with_index env base n)) → IsSilent (f (with_index env base j))
round_by n base env f j true e l before last = subst (λ (k : ℕ). IsSilent (f (with_index env base k))) (sym (same_number j n e)) last
round_by n base env f j false e l before last = before (let u : (j == n) ≡ false = e in grind (arith, l, u))

in_round : (n : ℕ) (base : ℤ) (env : Env) (f : Finding) (j : ℕ) → IsSilent (rounds_reported n base env f) → j < n → IsSilent (f (with_index env base j))
in_round zero base env f j h l = absurd (omega (arith, l))
in_round (suc n) base env f j h l =
    let both = placed_silent (f (with_index env base n)) (rounds_reported n base env f) h in
    round_by n base env f j (j == n) refl l (λ k. in_round n base env f j both.1 k) both.0

round_under : (rule_ : WalkRule) (env : Env) (l : TypedLine) (k : KnownReplicator) (j : ℕ) → known_replicator (out-TypedLine l).form ≡ Some k → j < k.count → IsSilent (line_reported rule_ env (head_of l) (under l) (λ (e : Env). reported rule_ (under l) e e))
    → IsSilent (reported rule_ (under l) (with_index env k.base j) (with_index env k.base j))
round_under rule_ env l k j known l2 h =
    in_round k.count k.base env (λ (e : Env). reported rule_ (under l) e e) j (subst (λ (o : Option KnownReplicator). IsSilent (under_reported_by o env (head_of l) (λ (e : Env). reported rule_ (under l) e e))) known (under_of rule_ env l h)) l2

clean_round : (env : Env) (l : TypedLine) (k : KnownReplicator) (j : ℕ) → known_replicator (out-TypedLine l).form ≡ Some k → j < k.count → IsCleanLine env l → IsClean (under l) (with_index env k.base j) (with_index env k.base j)
clean_round env l k j known l2 c = record { parallel = round_under parallel_at env l k j known l2 c.0; abbreviations = round_under abbreviation_at env l k j known l2 c.1 }

-- ---- bodies that come into scope

pub head_known : (l : TypedLine) → ((out-TypedLine l).form ≡ form.ProcedureHead) ⊎ ((out-TypedLine l).form ≡ form.FunctionHead) → known_replicator (out-TypedLine l).form ≡ None
head_known l (inl h) = ap known_replicator h
head_known l (inr h) = ap known_replicator h

body_clean : (env : Env) (l m : TypedLine) (bs : List Bound) (i : ℕ) → IsCleanLine env l → IsBrought l i (Body m) → IsClean (under m) (inner (env ++ take i bs) (head_of m)) (inner (env ++ take i bs) (head_of m))
body_clean env l m bs i c h =
    let here = clean_under env l (head_known l h.2) c in
    subst (λ (k : ℕ). IsClean (under m) (inner (env ++ take k bs) (head_of m)) (inner (env ++ take k bs) (head_of m))) (sym h.0)
    (subst (λ (x : TypedLine). IsClean (under x) (inner (env ++ []) (head_of x)) (inner (env ++ []) (head_of x))) (sym h.1)
    (subst (λ (e : Env). IsClean (under l) (inner e (head_of l)) (inner e (head_of l))) (sym (no_more env)) here))

formula_silent : (env : Env) (l : TypedLine) (fs : List ScopeEntry) (rs : List TypedExpr) → (out-TypedLine l).form ≡ form.OneLineFunction fs rs → IsSilent (reported_with (out-TypedLine l).form env (head_of l).place (form_uses (out-TypedLine l).form env (head_of l).place))
    → IsSilent (calls_faults (head_of l).place (env ++ entry_bounds fs) (each_calls rs (env ++ entry_bounds fs) (head_of l).place))
formula_silent env l fs rs same h =
    let line = (head_of l).place in
    let g = subst (λ (f : TypedForm). IsSilent (reported_with f env line (form_uses f env line))) same h in
    silent_right (scope_faults 0 (env ++ entry_bounds fs) (env ++ entry_bounds fs) (each_uses rs (env ++ entry_bounds fs) line)) (calls_faults line (env ++ entry_bounds fs) (each_calls rs (env ++ entry_bounds fs) line)) g

formula_added : (env : Env) (l : TypedLine) (names : List ScopeEntry) (fs : List ScopeEntry) (rs : List TypedExpr) → (out-TypedLine l).adds ≡ Some names → (out-TypedLine l).form ≡ form.OneLineFunction fs rs
    → body_of (slice_get (added env (head_of l) (under l) (items_of (under l))) 0) ≡ body_uses (length env) (length (env ++ entry_bounds fs)) (head_of l).place (each_uses rs (env ++ entry_bounds fs) (head_of l).place)
formula_added env l names fs rs h same =
    let us = joined (components env (head_of l) (items_of (under l))) in
    let does = effect_under (under l) env (head_of l) in
    ap (λ (o : Option (List ScopeEntry)). body_of (slice_get (added_by env (head_of l) us does o) 0)) h ∙ ap (λ (f : TypedForm). body_of (slice_get (entered_as env (head_of l) us does names f) 0)) same

formula_clean : (env : Env) (l : TypedLine) (names fs : List ScopeEntry) (rs : List TypedExpr) (i : ℕ) → (out-TypedLine l).adds ≡ Some names → IsCleanLine env l → IsBrought l i (Formula fs rs)
    → IsCleanFormula (env ++ take i (added env (head_of l) (under l) (items_of (under l)))) (body_of (slice_get (added env (head_of l) (under l) (items_of (under l))) i)) fs rs
formula_clean env l names fs rs i adds c h =
    let bs = added env (head_of l) (under l) (items_of (under l)) in
    subst (λ (k : ℕ). IsCleanFormula (env ++ take k bs) (body_of (slice_get bs k)) fs rs) (sym h.0)
    (subst (λ (e : Env). IsCleanFormula e (body_of (slice_get bs 0)) fs rs) (sym (no_more env)) ((head_of l).place, formula_added env l names fs rs adds h.1, formula_silent env l fs rs h.1 (own_of abbreviation_at env l c.1)))

pub bodies_clean : (env : Env) (l : TypedLine) (names : List ScopeEntry) (xs : List Thing) → (out-TypedLine l).adds ≡ Some names → IsCleanLine env l → BroughtBodies l xs → BodiesClean env (added env (head_of l) (under l) (items_of (under l))) xs
bodies_clean env l names xs adds c h =
    (λ i m e. body_clean env l m (added env (head_of l) (under l) (items_of (under l))) i c (h i (Body m) e), λ i fs rs e. formula_clean env l names fs rs i adds c (h i (Formula fs rs) e))

-- an index is no body
index_held : (bs : List Bound) (xs : List Thing) (i : ℕ) (z : Thing) → AreIndices bs xs → slice_get xs i ≡ Some z → (v : Option Value) × (n : Option ℤ) × (z ≡ Held v n)
index_held [] [] i z h e = none_some z e
index_held [] (y ∷ xs) i z h e = absurd h
index_held (b.Value w size reads ∷ bs) [] i z h e = absurd h
index_held (b.Value w size reads ∷ bs) (Held v n ∷ xs) zero z h e = (v, n, sym (some_same (Held v n) z e))
index_held (b.Value w size reads ∷ bs) (Held v n ∷ xs) (suc i) z h e = index_held bs xs i z h.2 e
index_held (b.Value w size reads ∷ bs) (Element at n ∷ xs) i z h e = absurd h
index_held (b.Value w size reads ∷ bs) (Clock n ∷ xs) i z h e = absurd h
index_held (b.Value w size reads ∷ bs) (Stored t ∷ xs) i z h e = absurd h
index_held (b.Value w size reads ∷ bs) (Formal at ∷ xs) i z h e = absurd h
index_held (b.Value w size reads ∷ bs) (Body l ∷ xs) i z h e = absurd h
index_held (b.Value w size reads ∷ bs) (Formula fs rs ∷ xs) i z h e = absurd h
index_held (b.Value w size reads ∷ bs) ((Shown us2) ∷ xs) i z h e = absurd h
index_held (b.Value w size reads ∷ bs) (Other ∷ xs) i z h e = absurd h
index_held (b.Root name ∷ bs) [] i z h e = absurd h
index_held (b.Root name ∷ bs) (y ∷ xs) i z h e = absurd h
index_held (b.Abbreviation p size reads ∷ bs) [] i z h e = absurd h
index_held (b.Abbreviation p size reads ∷ bs) (y ∷ xs) i z h e = absurd h
index_held (b.Body us does ∷ bs) [] i z h e = absurd h
index_held (b.Body us does ∷ bs) (y ∷ xs) i z h e = absurd h
index_held (b.Other ∷ bs) [] i z h e = absurd h
index_held (b.Other ∷ bs) (y ∷ xs) i z h e = absurd h

body_held : (l : TypedLine) (v : Option Value) (n : Option ℤ) → Body l ≡ Held v n → ⊥
body_held l v n e = cc

formula_held : (fs : List ScopeEntry) (rs : List TypedExpr) (v : Option Value) (n : Option ℤ) → Formula fs rs ≡ Held v n → ⊥
formula_held fs rs v n e = cc

indices_clean : (env : Env) (bs : List Bound) (xs : List Thing) → AreIndices bs xs → BodiesClean env bs xs
indices_clean env bs xs h = (
  (λ i l e. let g = index_held bs xs i (Body l) h e in absurd (body_held l g.0 g.1 g.2)),
  λ i fs rs e. let g = index_held bs xs i (Formula fs rs) h e in absurd (formula_held fs rs g.0 g.1 g.2),
)

-- ---- two components

number_of : Mark → ℕ
number_of (InComponent k) = k
number_of InCall = 0

same_mark : (k j : ℕ) → InComponent k ≡ InComponent j → k ≡ j
unfolding number_of
same_mark k j h = ap number_of h

one_thread : (t u : Thread) (k j : ℕ) → Extends (t ++ InComponent k ∷ []) u → Extends (t ++ InComponent j ∷ []) u → k ≡ j
one_thread [] [] k j h i = absurd h
one_thread [] (m ∷ u) k j h i = same_mark k j (h.0 ∙ sym i.0)
one_thread (x ∷ t) [] k j h i = absurd h
one_thread (x ∷ t) (m ∷ u) k j h i = one_thread t u k j h.1 i.1

not_deeper : (t u : Thread) (m : Mark) → Extends (t ++ m ∷ []) u → Extends u t → ⊥
not_deeper t u m h i =
    let a : length (t ++ m ∷ []) ≤ length u = extends_length (t ++ m ∷ []) u h in
    let c : length u ≤ length t = extends_length u t i in
    let e : length (t ++ m ∷ []) ≡ suc (length t) = length_last t m in
    omega (arith, a, c, e)

collides : (k l : UseKind) → collide k l ≡ true → (r : Rule) × (conflict r k l ≡ true)
collides kind.Read kind.Read h = cc
collides kind.Read kind.Write h = (rule.Written, refl)
collides kind.Read kind.Input h = cc
collides kind.Read kind.Output h = cc
collides kind.Write kind.Read h = (rule.Written, refl)
collides kind.Write kind.Write h = (rule.Written, refl)
collides kind.Write kind.Input h = cc
collides kind.Write kind.Output h = cc
collides kind.Input kind.Read h = cc
collides kind.Input kind.Write h = cc
collides kind.Input kind.Input h = (rule.Input, refl)
collides kind.Input kind.Output h = cc
collides kind.Output kind.Read h = cc
collides kind.Output kind.Write h = cc
collides kind.Output kind.Input h = cc
collides kind.Output kind.Output h = (rule.Output, refl)

same_kinds : (k l m n : UseKind) → k ≡ m → l ≡ n → collide m n ≡ true → collide k l ≡ true
same_kinds k l m n a c e = subst (λ (x : UseKind). collide x l ≡ true) (sym a) (subst (λ (y : UseKind). collide m y ≡ true) (sym c) e)

clashes : (r : Rule) (root : ℕ) (u v : Use) → u.part.root ≡ root → v.part.root ≡ root → conflict r u.kind v.kind ≡ true → counts least.May (overlap_of u.part v.part) ≡ true → clash r least.May root u v ≡ true
clashes r root u v a c e f =
    and_both ((u.part.root == root) && (v.part.root == root) && conflict r u.kind v.kind) (counts least.May (overlap_of u.part v.part))
    (and_both ((u.part.root == root) && (v.part.root == root)) (conflict r u.kind v.kind) (and_both (u.part.root == root) (v.part.root == root) (own_number u.part.root root a) (own_number v.part.root root c)) e) f

or_left_false : (a c : Bool) → (a || c) ≡ false → a ≡ false
or_left_false true c h = cc
or_left_false false c h = refl

or_right_false : (a c : Bool) → (a || c) ≡ false → c ≡ false
or_right_false true c h = cc
or_right_false false c h = h

not_both : (a : Bool) → a ≡ true → a ≡ false → ⊥
not_both a h k = let e : true ≡ false = sym h ∙ k in cc

not_clashing : (n root : ℕ) (us vs : List Use) (comps : List (List Use)) (place : ℕ) (u v : Use) (r : Rule) → NoClash n (us ∷ comps) → root < n → slice_get comps place ≡ Some vs → IsOneOf us u → IsOneOf vs v → clash r least.May root u v ≡ true → ⊥
not_clashing n root us vs comps place u v r h l at i j told =
    let first = or_left_false (list_any (λ (ws : List Use). clash_between r least.May root us ws) comps) (some_clash r least.May root comps) (h r root l) in
    let in_us = in_got us u i in
    let in_vs = in_got vs v j in
    let of_u = any_given (λ (y : Use). clash r least.May root u y) vs v in_vs.0 in_vs.1 told in
    let between = any_given (λ (x : Use). uses_clash r least.May root x vs) us u in_us.0 in_us.1 of_u in
    not_both (list_any (λ (ws : List Use). clash_between r least.May root us ws) comps) (any_given (λ (ws : List Use). clash_between r least.May root us ws) comps vs place at between) first

behind_clash : (n : ℕ) (us : List Use) (comps : List (List Use)) → NoClash n (us ∷ comps) → NoClash n comps
behind_clash n us comps h r root l = or_right_false (list_any (λ (vs : List Use). clash_between r least.May root us vs) comps) (some_clash r least.May root comps) (h r root l)

by_names : (env : Env) (d : Scope) (us vs : List Use) (comps : List (List Use)) (place : ℕ) (e f : Event) → Agrees env d → NoClash (length env) (us ∷ comps) → Separate d (us ++ joined comps) → slice_get comps place ≡ Some vs
    → (x : Shared d us e) (y : Shared d vs f) → Race e f → (t : Bool) → (x.u.part.root == y.u.part.root) ≡ t → ⊥
by_names env d us vs comps place e f a n sep at x y r true same =
    let roots : x.u.part.root ≡ y.u.part.root = same_number x.u.part.root y.u.part.root same in
    let here : InPart d y.u.part e.cell = subst (λ (c : Cell). InPart d y.u.part c) (sym r.0) y.cell in
    let high : x.u.part.root < length d = root_below d x.u.part e.cell x.cell in
    let sizes : length env ≡ length d = agrees_length env d a in
    let which = collides x.u.kind y.u.kind (same_kinds x.u.kind y.u.kind e.kind f.kind x.kind y.kind r.1) in
    not_clashing (length env) x.u.part.root us vs comps place x.u y.u which.0 n (omega (arith, high, sizes)) at x.among y.among
    (clashes which.0 x.u.part.root x.u y.u refl (sym roots) which.1 (count_meeting d x.u.part y.u.part e.cell roots x.cell here))
by_names env d us vs comps place e f a n sep at x y r false other =
    sep x.u y.u (in_left x.u us (joined comps) x.among) (in_right y.u us (joined comps) (in_joined comps place vs y.u at y.among)) (other_number x.u.part.root y.u.part.root other) e.cell x.cell
    (subst (λ (c : Cell). InPart d y.u.part c) (sym r.0) y.cell)

no_race : (env : Env) (d : Scope) (t : Thread) (k j : ℕ) (us vs : List Use) (comps : List (List Use)) (place : ℕ) (e f : Event) → Safe env d t → k < j → NoClash (length env) (us ∷ comps) → Separate d (us ++ joined comps) → slice_get comps place ≡ Some vs
    → Covered d (t ++ InComponent k ∷ []) us e → Covered d (t ++ InComponent j ∷ []) vs f → Race e f → ⊥
no_race env d t k j us vs comps place e f s l n sep at (inl x) (inl y) r =
    let same : k ≡ j = one_thread t f.cell.thread k j (subst (λ (u : Thread). Extends (t ++ InComponent k ∷ []) u) (ap (λ (c : Cell). c.thread) r.0) x) y in
    omega (arith, l, same)
no_race env d t k j us vs comps place e f s l n sep at (inl x) (inr y) r =
    not_deeper t e.cell.thread (InComponent k) x (subst (λ (c : Cell). Extends c.thread t) (sym r.0) (part_visible d t y.u.part f.cell s.visible y.cell))
no_race env d t k j us vs comps place e f s l n sep at (inr x) (inl y) r =
    not_deeper t f.cell.thread (InComponent j) y (subst (λ (c : Cell). Extends c.thread t) r.0 (part_visible d t x.u.part e.cell s.visible x.cell))
no_race env d t k j us vs comps place e f s l n sep at (inr x) (inr y) r = by_names env d us vs comps place e f s.agrees n sep at x y r (x.u.part.root == y.u.part.root) refl

no_race_with : (env : Env) (d : Scope) (t : Thread) (k : ℕ) (us : List Use) (comps : List (List Use)) (e f : Event) → Safe env d t → NoClash (length env) (us ∷ comps) → Separate d (us ++ joined comps) → Covered d (t ++ InComponent k ∷ []) us e
    → ByOne Together d t (suc k) comps f → Race e f → ⊥
no_race_with env d t k us comps e f s n sep x y r = no_race env d t k (suc k + y.place) us y.us comps y.place e f s (omega arith) n sep y.is x y.covered r

-- ---- runs

touches_free : (k : UseKind) (xs : List Thing) (r : Run) → Touches k xs r → RaceFree r
touches_free k xs _ Running.none = tt
touches_free k xs _ (Running.one_more el n c x r h has t) = (tt, touches_free k xs r t)

-- the first item or round
piece_safe : (env : Env) (d : Scope) (t : Thread) (p : Piece) (bs : List Bound) → Safe env d t → AreIndices bs p.index → Safe (env ++ bs) (d ++ p.index) t
piece_safe env d t p bs s h = safe_more env d t bs p.index s (indices_agree env d bs p.index s.agrees h) (indices_here t bs p.index h) (indices_clean env bs p.index h)

piece_ready : (env : Env) (d : Scope) (t : Thread) (way : Way) (p : Piece) (us : List Use) (line : Location) → AllVisible d t → (h : ReadyOne env p us) → Separate d us → Ready (Item way p.lines) (env ++ h.0) (d ++ p.index) line
piece_ready env d t way p us line v h s =
    (separate_more d t (item_uses (trees_of p.lines) (env ++ h.0)) p.index v (indices_here t h.0 p.index h.1) (separate_in d us (item_uses (trees_of p.lines) (env ++ h.0)) h.2 s), (h.3, h.4))

tail_clash : (way : Way) (env : Env) (us : List Use) (comps : List (List Use)) → ClashFree way env (us ∷ comps) → ClashFree way env comps
tail_clash Together env us comps h = behind_clash (length env) us comps h
tail_clash InTurn env us comps h = tt
tail_clash Choice env us comps h = tt
tail_clash Waiting env us comps h = tt
tail_clash Taken env us comps h = tt
tail_clash Idle env us comps h = tt

-- with the first of them
first_by : (env : Env) (d : Scope) (t : Thread) (u : Thread) (way : Way) (p : Piece) (ps : List Piece) (line : Location) (r : Run) → Safe env d u → (comps : List (List Use)) → AllReady env (p ∷ ps) comps → Separate d (joined comps)
    → ((e : Env) → Safe e (d ++ p.index) u → Ready (Item way p.lines) e (d ++ p.index) line → RaceFree r) → RaceFree r
first_by env d t u way p ps line r s [] h sep k = absurd h
first_by env d t u way p ps line r s (us ∷ comps) h sep k =
    k (env ++ h.0.0) (piece_safe env d u p h.0.0 s h.0.1) (piece_ready env d u way p us line s.visible h.0 (separate_left d us (joined comps) sep))

later_by : (env : Env) (d : Scope) (way : Way) (k : ℕ) (p : Piece) (ps : List Piece) (line : Location) → (comps : List (List Use)) → AllReady env (p ∷ ps) comps → Separate d (joined comps) → ClashFree way env comps → Ready (Pieces way (suc k) ps) env d line
later_by env d way k p ps line [] h sep clash = absurd h
later_by env d way k p ps line (us ∷ comps) h sep clash = (comps, h.1, separate_right d us (joined comps) sep, tail_clash way env us comps clash)

beside_by : (env : Env) (d : Scope) (t : Thread) (k : ℕ) (p : Piece) (ps : List Piece) (r s : Run) → Safe env d t → (comps : List (List Use)) → AllReady env (p ∷ ps) comps → Separate d (joined comps) → NoClash (length env) comps
    → ((e : Event) → Occurs e r → (f : Env) → Agrees f (d ++ p.index) → CoveredWork (Item Together p.lines) f (d ++ p.index) (t ++ InComponent k ∷ []) e)
    → ((e : Event) → Occurs e s → CoveredWork (Pieces Together (suc k) ps) env d t e) → NoRace r s
beside_by env d t k p ps r s safe [] h sep clash x y = absurd h
beside_by env d t k p ps r s safe (us ∷ comps) h sep clash x y = λ e f i j race.
    no_race_with env d t k us comps e f safe clash sep (first_piece env d t Together p us (t ++ InComponent k ∷ []) e safe.agrees (h.0.0, h.0.1, h.0.2) (x e i)) (y f j comps (allowed env ps comps h.1)) race

-- a body, ready to run
body_ready : (env : Env) (d : Scope) (t : Thread) (n : ℕ) (actuals : List TypedActual) (l : TypedLine) (xs : List Thing) (line : Location) → Safe env d t → slice_get d n ≡ Some (Body l) → Good env d (pass actuals) xs → Suits (out-TypedLine l).enters xs
    → Ready (Call n actuals) env d line → Ready (Pieces InTurn 0 (works.items_of (out-TypedLine l).under)) (take n env ++ entry_bounds (out-TypedLine l).enters) (take n d ++ formals_of xs) line
body_ready env d t n actuals l xs line s at g suits ready =
    let st = stands env d s.agrees n (Body l) at in
    let high : n < length d = get_below d n (Body l) at in
    let len : length (take n d) ≡ n = take_length n d (omega (arith, high)) in
    let e = take n env ++ entry_bounds (out-TypedLine l).enters in
    let env_len : length (take n env) ≡ n = env_length env d n st.agrees len in
    let all : length e ≡ length (take n d ++ formals_of xs) = agrees_length e (take n d ++ formals_of xs) (formals_agree (take n env) (take n d) (out-TypedLine l).enters xs st.agrees suits) in
    let sum : length e ≡ length (take n env) + length (entry_bounds (out-TypedLine l).enters) = append_length (take n env) (entry_bounds (out-TypedLine l).enters) in
    let names : length (entry_bounds (out-TypedLine l).enters) ≡ length (out-TypedLine l).enters = bounds_length (out-TypedLine l).enters in
    let uses : body_of (slice_get env n) ≡ uses_of_body (take n env) l = ap body_of st.got ∙ body_matches (take n env) (take n d) st.bound l st.matches in
    let parts = called_ready d line env n actuals ready in (
      items_of (under l) e,
      items_ready e (out-TypedLine l).under (s.bodies n l at),
      separate_called env d line (head_of l).place n (length (take n env) + length (head_of l).enters) actuals xs (joined (items_of (under l) e)) st.kept len g (omega (arith, all, sum, names))
          (uses ∙ ap (λ (k : ℕ). body_uses k (length (take n env) + length (head_of l).enters) (head_of l).place (joined (items_of (under l) e))) env_len) parts.1 parts.0,
      tt,
    )

formula_ready : (env : Env) (d : Scope) (t : Thread) (n : ℕ) (actuals : List TypedActual) (fs : List ScopeEntry) (rs : List TypedExpr) (xs : List Thing) (line : Location) → Safe env d t → slice_get d n ≡ Some (Formula fs rs) → Good env d (pass actuals) xs → Suits fs xs
    → Ready (Call n actuals) env d line → (place : Location) × Ready (evaluate rs) (take n env ++ entry_bounds fs) (take n d ++ formals_of xs) place
formula_ready env d t n actuals fs rs xs line s at g suits ready =
    let st = stands env d s.agrees n (Formula fs rs) at in
    let high : n < length d = get_below d n (Formula fs rs) at in
    let len : length (take n d) ≡ n = take_length n d (omega (arith, high)) in
    let e = take n env ++ entry_bounds fs in
    let env_len : length (take n env) ≡ n = env_length env d n st.agrees len in
    let clean = s.formulas n fs rs at in
    let parts = called_ready d line env n actuals ready in
    let apart = separate_called env d line clean.0 n (length e) actuals xs (each_uses rs e clean.0) st.kept len g (agrees_length e (take n d ++ formals_of xs) (formals_agree (take n env) (take n d) fs xs st.agrees suits))
    (clean.1 ∙ ap (λ (k : ℕ). body_uses k (length e) clean.0 (each_uses rs e clean.0)) env_len) parts.1 parts.0 in
    (clean.0, evaluate_ready (take n d ++ formals_of xs) clean.0 e rs (apart, clean.2))

replicated_calls : (f : TypedForm) (by : TypedReplicator) (env : Env) (line : Location) → replicator_of f ≡ Some by → form_calls f env line ≡ replicator_calls (Some by) env line
replicated_calls form.Declaration by env line h = absurd cc
replicated_calls form.DataType by env line h = absurd cc
replicated_calls form.Protocol by env line h = absurd cc
replicated_calls form.ProcedureHead by env line h = absurd cc
replicated_calls form.FunctionHead by env line h = absurd cc
replicated_calls form.RecordHead by env line h = absurd cc
replicated_calls form.ProtocolHead by env line h = absurd cc
replicated_calls form.Member by env line h = absurd cc
replicated_calls form.Close by env line h = absurd cc
replicated_calls form.Skip by env line h = absurd cc
replicated_calls form.Stop by env line h = absurd cc
replicated_calls form.Otherwise by env line h = absurd cc
replicated_calls form.ValueOf by env line h = absurd cc
replicated_calls form.Unknown by env line h = absurd cc
replicated_calls (form.Abbreviation el) by env line h = absurd cc
replicated_calls (form.Retyped el) by env line h = absurd cc
replicated_calls (form.Value e) by env line h = absurd cc
replicated_calls (form.RetypedValue e) by env line h = absurd cc
replicated_calls (form.OneLineFunction formals results) by env line h = absurd cc
replicated_calls (form.Uses interfaces) by env line h = absurd cc
replicated_calls (form.Assignment els es) by env line h = absurd cc
replicated_calls (form.Output el os) by env line h = absurd cc
replicated_calls (form.Input i) by env line h = absurd cc
replicated_calls (form.Instance callee actuals) by env line h = absurd cc
replicated_calls (form.Block k r) by env line h = ap (λ (o : Option TypedReplicator). replicator_calls o env line) h
replicated_calls (form.While e) by env line h = absurd cc
replicated_calls (form.Selection e) by env line h = absurd cc
replicated_calls (form.CaseInput el) by env line h = absurd cc
replicated_calls (form.Condition e) by env line h = absurd cc
replicated_calls (form.Options es) by env line h = absurd cc
replicated_calls (form.Guard e g) by env line h = absurd cc
replicated_calls (form.Variant place tag ts) by env line h = absurd cc
replicated_calls (form.Results es) by env line h = absurd cc

bounds_of_ready : (env : Env) (d : Scope) (way : Way) (l : TypedLine) (by : TypedReplicator) (line : Location) → replicator_of (out-TypedLine l).form ≡ Some by → Ready (Under way l) env d line → Ready (evaluate (by.base ∷ by.count ∷ [])) env d (head_of l).place
bounds_of_ready env d way l by line h r =
    let place = (head_of l).place in
    let uses : each_uses (by.base ∷ by.count ∷ []) env place ≡ form_uses (head_of l).form env place =
    ap (λ (us : List Use). (expr_view by.base).uses env place ++ us) (no_more ((expr_view by.count).uses env place)) ∙ sym (replicated_uses (out-TypedLine l).form by env place h) in
    let calls : each_calls (by.base ∷ by.count ∷ []) env place ≡ form_calls (head_of l).form env place =
    ap (λ (cs : List ACall). (expr_view by.base).calls env place ++ cs) (no_more ((expr_view by.count).calls env place)) ∙ sym (replicated_calls (out-TypedLine l).form by env place h) in
    evaluate_ready d place env (by.base ∷ by.count ∷ [])
    (subst (λ (us : List Use). IsReady d place env us (each_calls (by.base ∷ by.count ∷ []) env place)) (sym uses)
    (subst (λ (cs : List ACall). IsReady d place env (form_uses (head_of l).form env place) cs) (sym calls)
    (separate_left d (form_uses (head_of l).form env place) (joined (components env (head_of l) (items_of (under l)))) r.0, r.3)))

under_ready : (env : Env) (d : Scope) (way : Way) (l : TypedLine) (line : Location) → replicator_of (out-TypedLine l).form ≡ None → (out-TypedLine l).enters ≡ [] → Ready (Under way l) env d line
    → Ready (Pieces way 0 (works.items_of (out-TypedLine l).under)) env d line
under_ready env d way l line h none r =
    let same = plain_components env l h none in
    let clean = clean_under env l (known_none (out-TypedLine l).form h) r.1 in
    let here : inner env (head_of l) ≡ env = ap (λ (es : List ScopeEntry). env ++ entry_bounds es) none ∙ no_more env in (
      items_of (under l) env,
      items_ready env (out-TypedLine l).under (subst (λ (e : Env). IsClean (under l) e e) here clean),
      separate_right d (form_uses (head_of l).form env (head_of l).place) (joined (items_of (under l) env)) (subst (λ (comps : List (List Use)). Separate d (form_uses (head_of l).form env (head_of l).place ++ joined comps)) same r.0),
      subst (λ (comps : List (List Use)). ClashFree way env comps) same r.2,
    )

in_copies : (n : ℕ) (one : List Use) (u : Use) → IsOneOf (joined (copies n one)) u → IsOneOf one u
in_copies zero one u h = absurd h
in_copies (suc n) one u h = elim (in_cases u one (joined (copies n one)) h) [ inl a ↦ a | inr c ↦ in_copies n one u c ]

copies_clash : (way : Way) (env : Env) (base : ℤ) (n m : ℕ) (one : List Use) → IsNoted way None base m → ClashFree way env (copies n one)
copies_clash Together env base n m one h = absurd h
copies_clash InTurn env base n m one h = tt
copies_clash Choice env base n m one h = tt
copies_clash Waiting env base n m one h = tt
copies_clash Taken env base n m one h = tt
copies_clash Idle env base n m one h = tt

rounds_of_ready : (env : Env) (d : Scope) (way : Way) (l : TypedLine) (by : TypedReplicator) (base : ℤ) (n : ℕ) (line : Location) (o : Option KnownReplicator) → replicator_of (out-TypedLine l).form ≡ Some by → EntersIndex (out-TypedLine l).enters
    → by.known ≡ o → IsNoted way o base n → Ready (Under way l) env d line → Ready (Pieces way 0 (rounds n 0 base (out-TypedLine l).under)) env d line
rounds_of_ready env d way l by base n line (Some k) h enters known noted r =
    let same = known_components env l by k h known in
    let comps = rounds_to k.count k.base env (items_of (under l)) in
    let clean = known_ready k.count env k.base (out-TypedLine l).under (λ j l2. clean_round env l k j (known_some (out-TypedLine l).form by h ∙ known) l2 r.1) in (
      comps,
      subst (λ (z : ℤ). AllReady env (rounds n 0 z (out-TypedLine l).under) comps) (sym noted.0) (subst (λ (z : ℕ). AllReady env (rounds z 0 k.base (out-TypedLine l).under) comps) (sym noted.1) clean),
      separate_right d (form_uses (head_of l).form env (head_of l).place) (joined comps) (subst (λ (cs : List (List Use)). Separate d (form_uses (head_of l).form env (head_of l).place ++ joined cs)) same r.0),
      subst (λ (cs : List (List Use)). ClashFree way env cs) same r.2,
    )
rounds_of_ready env d way l by base n line None h enters known noted r =
    let same = unknown_components env l by h known enters in
    let one = joined (items_of (under l) (env ++ b.Value None None [] ∷ [])) in
    let clean = clean_under env l (known_some (out-TypedLine l).form by h ∙ known) r.1 in
    let here : inner env (head_of l) ≡ env ++ b.Value None None [] ∷ [] = ap (λ (bs : List Bound). env ++ bs) (index_bounds (out-TypedLine l).enters enters) in
    let apart = separate_right d (form_uses (head_of l).form env (head_of l).place) one (subst (λ (cs : List (List Use)). Separate d (form_uses (head_of l).form env (head_of l).place ++ joined cs)) same r.0) in
    (copies n one, unknown_ready n 0 env base (out-TypedLine l).under (subst (λ (e : Env). IsClean (under l) e e) here clean), separate_in d one (joined (copies n one)) (λ u i. in_copies n one u i) apart, copies_clash way env base n n one noted)

-- an item
specified_ready : (env : Env) (d : Scope) (way : Way) (l : TypedLine) (ls : List TypedLine) (names : List ScopeEntry) (line : Location) → (out-TypedLine l).adds ≡ Some names → Ready (Item way (l ∷ ls)) env d line → Ready (Specify l) env d line
specified_ready env d way l ls names line h r =
    (separate_left d (own_uses env l) (item_uses (trees_of ls) (env ++ added env (head_of l) (under l) (items_of (under l)))) (subst (λ (us : List Use). Separate d us) (specified_item env l ls names h) r.0), first_clean l ls r.1.0 env r.1.1)

behind_ready : (env : Env) (d : Scope) (t : Thread) (way : Way) (l : TypedLine) (ls : List TypedLine) (names : List ScopeEntry) (xs : List Thing) (line : Location) → (out-TypedLine l).adds ≡ Some names → AllVisible d t → AreHere t xs → Ready (Item way (l ∷ ls)) env d line
    → Ready (Item way ls) (env ++ added env (head_of l) (under l) (items_of (under l))) (d ++ xs) line
behind_ready env d t way l ls names xs line h v here r =
    let after = item_uses (trees_of ls) (env ++ added env (head_of l) (under l) (items_of (under l))) in
    (separate_more d t after xs v here (separate_right d (own_uses env l) after (subst (λ (us : List Use). Separate d us) (specified_item env l ls names h) r.0)), (r.1.0, behind_specified l ls r.1.0 env names h r.1.1))

main_ready : (env : Env) (d : Scope) (way : Way) (l : TypedLine) (ls : List TypedLine) (line : Location) → (out-TypedLine l).adds ≡ None → Ready (Item way (l ∷ ls)) env d line → Ready (Main way l) env d line
main_ready env d way l ls line h r = (subst (λ (us : List Use). Separate d us) (main_item env l ls h) r.0, first_clean l ls r.1.0 env r.1.1)

while_ready : (env : Env) (d : Scope) (way : Way) (l : TypedLine) (e : TypedExpr) (line : Location) → (out-TypedLine l).form ≡ form.While e → Ready (Main way l) env d line → Ready (Evaluate (out-TypedExpr e)) env d (head_of l).place
while_ready env d way l e line h r = expression_ready env d l (form.While e) e h (λ z. refl) (λ z. refl) r.0 r.1

condition_ready : (env : Env) (d : Scope) (way : Way) (l : TypedLine) (e : TypedExpr) (line : Location) → (out-TypedLine l).form ≡ form.Condition e → Ready (Main way l) env d line → Ready (Evaluate (out-TypedExpr e)) env d (head_of l).place
condition_ready env d way l e line h r = expression_ready env d l (form.Condition e) e h (λ z. refl) (λ z. refl) r.0 r.1

either_ready : (env : Env) (d : Scope) (way : Way) (l : TypedLine) (e : TypedExpr) (line : Location) → ((out-TypedLine l).form ≡ form.While e) ⊎ ((out-TypedLine l).form ≡ form.Condition e) → Ready (Main way l) env d line → Ready (Evaluate (out-TypedExpr e)) env d (head_of l).place
either_ready env d way l e line (inl h) r = while_ready env d way l e line h r
either_ready env d way l e line (inr h) r = condition_ready env d way l e line h r

pub free : (d : Scope) (t : Thread) (w : Work) (r : Run) (o : Outcome) → Does d t w r o → (env : Env) (line : Location) → Safe env d t → Ready w env d line → RaceFree r
free _ _ _ _ _ (Running.stops_before d t w) env line s h = tt
free _ _ _ _ _ (Running.stops_after d t w r o y) env line s h = free d t w r o y env line s h
free _ _ _ _ _ (Running.nothing d t) env line s h = tt
free _ _ _ _ _ (Running.both d t w u r q xs ys y z) env line s h = (free d t w r (Gave xs) y env line s h.0, free d t u q (Gave ys) z env line s h.1)
free _ _ _ _ _ (Running.first_stops d t w u r y) env line s h = free d t w r Stopped y env line s h.0
free _ _ _ _ _ (Running.second_stops d t w u r q xs y z) env line s h = (free d t w r (Gave xs) y env line s h.0, free d t u q Stopped z env line s h.1)
free _ _ _ _ _ (Running.operation d t f es r xs x k y i) env line s h = free d t (evaluate es) r (Gave xs) y env line s (operands_ready d line env f es k h)
free _ _ _ _ _ (Running.decided d t k op b es fs r xs i y g told) env line s h = free d t (evaluate es) r (Gave xs) y env line s (decided_ready d line env k op es fs h)
free _ _ _ _ _ (Running.operand_stops d t f es r k y) env line s h = free d t (evaluate es) r Stopped y env line s (operands_ready d line env f es k h)
free _ _ _ _ _ (Running.read d t el r q at n c x y touches has told) env line s h = (free d t (Find el) r (Gave (Element at n ∷ [])) y env line s (read_ready d line env el h), (touches_free kind.Read (Element at n ∷ []) q touches, tt))
free _ _ _ _ _ (Running.read_nothing d t el r at n x y bare told) env line s h = free d t (Find el) r (Gave (Element at n ∷ [])) y env line s (read_ready d line env el h)
free _ _ _ _ _ (Running.held d t el r x n y told) env line s h = free d t (Find el) r (Gave (Held x n ∷ [])) y env line s (read_ready d line env el h)
free _ _ _ _ _ (Running.element_stops d t el r y) env line s h = free d t (Find el) r Stopped y env line s (read_ready d line env el h)
free _ _ _ _ _ (Running.size_of_element d t k e el r y n g x told) env line s h = tt
free _ _ _ _ _ (Running.size_noted d t k e n g) env line s h = tt
free _ _ _ _ _ (Running.size d t k e n g told) env line s h = tt
free _ _ _ _ _ (Running.result d t k callee xs r n y) env line s h = free d t (Call callee.spec xs) r (Gave []) y env line s h
free _ _ _ _ _ (Running.call_stops d t k callee xs r y) env line s h = free d t (Call callee.spec xs) r Stopped y env line s h
free _ _ _ _ _ (Running.named d t el x y r o k f z) env line s h = free d t (Select (out-TypedElement el).selectors y) r o z env line s (select_ready d line env el y h)
free _ _ _ _ _ (Running.all_selected d t x) env line s h = tt
free _ _ _ _ _ (Running.selects d t g ss x y r q xs o z sel w) env line s h = (
  free d t (evaluate (bounds (out-Selector g))) r (Gave xs) z env line s (bounds_ready d line env g ss x h),
  free d t (Select ss y) q o w env line s (rest_ready d line env g ss x y h),
)
free _ _ _ _ _ (Running.bound_stops d t g ss x r y) env line s h = free d t (evaluate (bounds (out-Selector g))) r Stopped y env line s (bounds_ready d line env g ss x h)
free _ _ _ _ _ (Running.reaches d t k els r q xs y touches) env line s h = (free d t (find els) r (Gave xs) y env line s (finds_ready d line env k els h), touches_free k xs q touches)
free _ _ _ _ _ (Running.finding_stops d t k els r y) env line s h = free d t (find els) r Stopped y env line s (finds_ready d line env k els h)
free _ _ _ _ _ (Running.calls d t n actuals l r q xs o k y suits z) env line s h =
    let g = good d t (pass actuals) r (Gave xs) y env s.agrees in (
      free d t (pass actuals) r (Gave xs) y env line s (passing_ready d line env n actuals h),
      free (take n d ++ formals_of xs) (t ++ InCall ∷ []) (Pieces InTurn 0 (works.items_of (out-TypedLine l).under)) q o z (take n env ++ entry_bounds (out-TypedLine l).enters) line (safe_called env d t n (Body l) (out-TypedLine l).enters actuals xs s k g suits)
          (body_ready env d t n actuals l xs line s k g suits h),
    )
free _ _ _ _ _ (Running.calls_formula d t n actuals fs rs r q xs o k y suits z) env line s h =
    let g = good d t (pass actuals) r (Gave xs) y env s.agrees in
    let e = formula_ready env d t n actuals fs rs xs line s k g suits h in (
      free d t (pass actuals) r (Gave xs) y env line s (passing_ready d line env n actuals h),
      free (take n d ++ formals_of xs) (t ++ InCall ∷ []) (evaluate rs) q o z (take n env ++ entry_bounds fs) e.0 (safe_called env d t n (Formula fs rs) fs actuals xs s k g suits) e.1,
    )
free _ _ _ _ _ (Running.calls_export d t n actuals us r q xs k y clean shown) env line s h = (free d t (pass actuals) r (Gave xs) y env line s (passing_ready d line env n actuals h), clean)
free _ _ _ _ _ (Running.actual_stops d t n actuals r y) env line s h = free d t (pass actuals) r Stopped y env line s (passing_ready d line env n actuals h)
free _ _ _ _ _ (Running.specifies d t l names r xs ys k y brings) env line s h =
    free d t (specifying (out-TypedLine l).form) r (Gave xs) y env (head_of l).place s (specifying_ready env d (head_of l).place (out-TypedLine l).form (line_ready env d l h.0 h.1))
free _ _ _ _ _ (Running.specifying_stops d t l r y) env line s h =
    free d t (specifying (out-TypedLine l).form) r Stopped y env (head_of l).place s (specifying_ready env d (head_of l).place (out-TypedLine l).form (line_ready env d l h.0 h.1))
free _ _ _ _ _ (Running.main d t way next l w r q xs o k y z) env line s h = (
  free d t w r (Gave xs) y env (head_of l).place s (plan_ready env d (head_of l).place way next (out-TypedLine l).form w k (line_ready env d l h.0 h.1)),
  free d t (Under next l) q o z env line s (planned_under env d way next l w line k h.0 h.1),
)
free _ _ _ _ _ (Running.main_stops d t way next l w r k y) env line s h = free d t w r Stopped y env (head_of l).place s (plan_ready env d (head_of l).place way next (out-TypedLine l).form w k (line_ready env d l h.0 h.1))
free _ _ _ _ _ (Running.leaves d t way l e r n k p y) env line s h = free d t (Evaluate (out-TypedExpr e)) r (Gave (Held (Some (v.Bool false)) n ∷ [])) y env (head_of l).place s (while_ready env d way l e line k h)
free _ _ _ _ _ (Running.loops d t way l e r q p n xs o k f y z w) env line s h = (
  free d t (Evaluate (out-TypedExpr e)) r (Gave (Held (Some (v.Bool true)) n ∷ [])) y env (head_of l).place s (while_ready env d way l e line k h),
  (free d t (Under InTurn l) q (Gave xs) z env line s (form_under env d InTurn l (form.While e) line k refl (λ comps. tt) h.0 h.1), free d t (Main way l) p o w env line s h),
)
free _ _ _ _ _ (Running.loop_stops d t way l e r q n k f y z) env line s h = (
  free d t (Evaluate (out-TypedExpr e)) r (Gave (Held (Some (v.Bool true)) n ∷ [])) y env (head_of l).place s (while_ready env d way l e line k h),
  free d t (Under InTurn l) q Stopped z env line s (form_under env d InTurn l (form.While e) line k refl (λ comps. tt) h.0 h.1),
)
free _ _ _ _ _ (Running.condition_stops d t way l e r k y) env line s h = free d t (Evaluate (out-TypedExpr e)) r Stopped y env (head_of l).place s (either_ready env d way l e line k h)
free _ _ _ _ _ (Running.chosen d t l e r q n o k y z) env line s h = (
  free d t (Evaluate (out-TypedExpr e)) r (Gave (Held (Some (v.Bool true)) n ∷ [])) y env (head_of l).place s (condition_ready env d Choice l e line k h),
  free d t (Under InTurn l) q o z env line s (form_under env d InTurn l (form.Condition e) line k refl (λ comps. tt) h.0 h.1),
)
free _ _ _ _ _ (Running.passed_over d t l e r n k y) env line s h = free d t (Evaluate (out-TypedExpr e)) r (Gave (Held (Some (v.Bool false)) n ∷ [])) y env (head_of l).place s (condition_ready env d Choice l e line k h)
free _ _ _ _ _ (Running.left_out d t l) env line s h = tt
free _ _ _ _ _ (Running.alternation d t way l by r q xs o k f y z) env line s h = (
  free d t (Under Waiting l) r (Gave xs) y env line s (form_under env d Waiting l (form.Block block.Alternation by) line k refl (λ comps. tt) h.0 h.1),
  free d t (Under Taken l) q o z env line s (form_under env d Taken l (form.Block block.Alternation by) line k refl (λ comps. tt) h.0 h.1),
)
free _ _ _ _ _ (Running.shut d t l e g r n k y) env line s h =
    free d t (Evaluate (out-TypedExpr e)) r (Gave (Held (Some (v.Bool false)) n ∷ [])) y env (head_of l).place s
    (plan_ready env d (head_of l).place Waiting Idle (out-TypedLine l).form (Both (Evaluate (out-TypedExpr e)) (guard_waits g)) (ap waiting_plan k) (line_ready env d l h.0 h.1)).0
free _ _ _ _ _ (Running.waiting_stops d t way l by r k f y) env line s h = free d t (Under Waiting l) r Stopped y env line s (form_under env d Waiting l (form.Block block.Alternation by) line k refl (λ comps. tt) h.0 h.1)
free _ _ _ _ _ (Running.idle d t l) env line s h = tt
free _ _ _ _ _ (Running.lines_under d t way l r o k none y) env line s h = free d t (Pieces way 0 (works.items_of (out-TypedLine l).under)) r o y env line s (under_ready env d way l line k none h)
free _ _ _ _ _ (Running.replicates d t way l by r q base count f g o k enters y noted z) env line s h = (
  free d t (evaluate (by.base ∷ by.count ∷ [])) r (Gave (Held (Some (v.Int base)) f ∷ Held (Some (v.Int count)) g ∷ [])) y env (head_of l).place s (bounds_of_ready env d way l by line k h),
  free d t (Pieces way 0 (rounds (rounds_in count) 0 base (out-TypedLine l).under)) q o z env line s (rounds_of_ready env d way l by base (rounds_in count) line by.known k enters refl noted h),
)
free _ _ _ _ _ (Running.replicator_stops d t way l by r k y) env line s h = free d t (evaluate (by.base ∷ by.count ∷ [])) r Stopped y env (head_of l).place s (bounds_of_ready env d way l by line k h)
free _ _ _ _ _ (Running.no_line d t way) env line s h = tt
free _ _ _ _ _ (Running.with_specification d t way l ls names r q xs o k y z) env line s h =
    let here = specified_here d t l r xs y env s.agrees in
    let parts = specified_ready env d way l ls names line k h in
    let bs = added env (head_of l) (under l) (items_of (under l)) in (
      free d t (Specify l) r (Gave xs) y env line s parts,
      free (d ++ xs) t (Item way ls) q o z (env ++ bs) line (safe_more env d t bs xs s (good d t (Specify l) r (Gave xs) y env s.agrees) here (bodies_clean env l names xs k parts.1 (specified_bodies d t l r xs y env s.agrees)))
          (behind_ready env d t way l ls names xs line k s.visible here h),
    )
free _ _ _ _ _ (Running.specification_stops d t way l ls names r k y) env line s h = free d t (Specify l) r Stopped y env line s (specified_ready env d way l ls names line k h)
free _ _ _ _ _ (Running.main_line d t way l ls r o k y) env line s h = free d t (Main way l) r o y env line s (main_ready env d way l ls line k h)
free _ _ _ _ _ (Running.none_left d t way k) env line s h = tt
free _ _ _ _ _ (Running.goes_on d t way k p ps r q o u y g z) env line s h = (
  first_by env d t t way p ps line r s h.0 h.1 h.2 (λ e f ready. free (d ++ p.index) t (Item way p.lines) r o y e line f ready),
  free d t (Pieces way (suc k) ps) q u z env line s (later_by env d way k p ps line h.0 h.1 h.2 h.3),
)
free _ _ _ _ _ (Running.ends_there d t way k p ps r o y g) env line s h = first_by env d t t way p ps line r s h.0 h.1 h.2 (λ e f ready. free (d ++ p.index) t (Item way p.lines) r o y e line f ready)
free _ _ _ _ _ (Running.not_taken d t k p ps r o y) env line s h = free d t (Pieces Taken (suc k) ps) r o y env line s (later_by env d Taken k p ps line h.0 h.1 h.2 h.3)
free _ _ _ _ _ (Running.beside d t k p ps r q o u y z) env line s h = (
  first_by env d t (t ++ InComponent k ∷ []) Together p ps line r (safe_deeper env d t (InComponent k) s) h.0 h.1 h.2 (λ e f ready. free (d ++ p.index) (t ++ InComponent k ∷ []) (Item Together p.lines) r o y e line f ready),
  free d t (Pieces Together (suc k) ps) q u z env line s (later_by env d Together k p ps line h.0 h.1 h.2 h.3),
  beside_by env d t k p ps r q s h.0 h.1 h.2 h.3 (λ e i f a. covers (d ++ p.index) (t ++ InComponent k ∷ []) (Item Together p.lines) r o y f a e i) (λ e i. covers d t (Pieces Together (suc k) ps) q u z env s.agrees e i),
)
