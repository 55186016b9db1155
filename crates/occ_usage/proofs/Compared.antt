-- What is reported of a line whose components are compared, and of one whose components are not.
use Rattle.std.proofs.Common.{◌≡◌, ◌∙◌, true, false, List, [], ◌++◌, append_assoc, Option, Some, None, refl, ap, sym}
use Rattle.occ_base.specs.declared.diag.Diag.{Diag}
use Rattle.occ_usage_values.specs.Bounds.{Env}
use Rattle.occ_usage_values.specs.declared.uses.Use.{Use}
use Rattle.occ_project.specs.declared.expanded.Location.{Location}
use Rattle.occ_typing.specs.Forms.{BlockKind, TypedForm}
use Rattle.occ_typing.specs.BlockVariants as block
use Rattle.occ_typing.specs.FormVariants as form
use Rattle.occ_usage.specs.Comparing.{are_compared, is_compared}
use Rattle.occ_usage_conflicts.specs.ParallelRule.{component_faults}
use Rattle.occ_typing_statements.specs.declared.replicator_tree.KnownReplicator.{KnownReplicator}
use Rattle.occ_usage.specs.Effect.{inner}
use Rattle.occ_usage.specs.Lines.{Under, components, components_by, items_of, known_replicator, rounds_to}
use Rattle.occ_usage.specs.ParallelRule.{block_faults, own_faults, parallel_at}
use Rattle.occ_usage.specs.Trees.{Head, Trees}
use Rattle.occ_usage.specs.Walk.{Finding, line_reported, rounds_reported, reported_of, under_reported, under_reported_by}

block_alike : (kind : BlockKind) (line : Location) (env : Env) (xs ys : List (List Use)) → is_compared kind ≡ false → block_faults kind line env xs ≡ block_faults kind line env ys
block_alike block.Parallel line env xs ys h = cc
block_alike block.Sequence line env xs ys h = refl
block_alike block.Conditional line env xs ys h = refl
block_alike block.Alternation line env xs ys h = refl

pub own_alike : (f : TypedForm) (line : Location) (env : Env) (xs ys : List (List Use)) → are_compared f ≡ false → own_faults f line env xs ≡ own_faults f line env ys
own_alike (form.Block kind r) line env xs ys h = block_alike kind line env xs ys h
own_alike (form.Assignment els es) line env xs ys h = refl
own_alike other line env xs ys h = refl

block_compared : (kind : BlockKind) (line : Location) (env : Env) (xs : List (List Use)) → is_compared kind ≡ true → block_faults kind line env xs ≡ component_faults line env xs
block_compared block.Parallel line env xs h = refl
block_compared block.Sequence line env xs h = cc
block_compared block.Conditional line env xs h = cc
block_compared block.Alternation line env xs h = cc

pub own_compared : (f : TypedForm) (line : Location) (env : Env) (xs : List (List Use)) → are_compared f ≡ true → own_faults f line env xs ≡ component_faults line env xs
own_compared (form.Block kind r) line env xs h = block_compared kind line env xs h
own_compared (form.Assignment els es) line env xs h = cc
own_compared other line env xs h = cc

-- ---- components

pub rounds_components : (env : Env) (h : Head) (k : KnownReplicator) (under : Under) → known_replicator h.form ≡ Some k → components env h under ≡ rounds_to k.count k.base env under
rounds_components env h k under e = ap (λ (o : Option KnownReplicator). components_by o env h under) e

pub rounds_under : (env : Env) (h : Head) (k : KnownReplicator) (reported : Finding) → known_replicator h.form ≡ Some k → under_reported env h reported ≡ rounds_reported k.count k.base env reported
rounds_under env h k reported e = ap (λ (o : Option KnownReplicator). under_reported_by o env h reported) e

pub items_components : (env : Env) (h : Head) (under : Under) → known_replicator h.form ≡ None → components env h under ≡ under (inner env h)
items_components env h under e = ap (λ (o : Option KnownReplicator). components_by o env h under) e

pub items_under : (env : Env) (h : Head) (reported : Finding) → known_replicator h.form ≡ None → under_reported env h reported ≡ reported (inner env h)
items_under env h reported e = ap (λ (o : Option KnownReplicator). under_reported_by o env h reported) e

-- ---- what is reported

pub reported_by : (env : Env) (h : Head) (t : Trees) (old mid new under own : List Diag)
    → mid ≡ old ++ under → new ≡ mid ++ own → under ≡ under_reported env h (reported_of parallel_at t) → own ≡ own_faults h.form h.place env (components env h (items_of t))
    → new ≡ old ++ line_reported parallel_at env h t (reported_of parallel_at t)
reported_by env h t old mid new under own a b u o =
    b ∙ ap (λ (ds : List Diag). ds ++ own) a ∙ append_assoc old under own
    ∙ ap (λ (ds : List Diag). old ++ (ds ++ own)) u
    ∙ ap (λ (ds : List Diag). old ++ (under_reported env h (reported_of parallel_at t) ++ ds)) o

pub reported_rounds : (env : Env) (h : Head) (t : Trees) (k : KnownReplicator) (comps : List (List Use)) (old mid new : List Diag)
    → are_compared h.form ≡ true → known_replicator h.form ≡ Some k → comps ≡ rounds_to k.count k.base env (items_of t)
    → mid ≡ old ++ rounds_reported k.count k.base env (reported_of parallel_at t) → new ≡ mid ++ component_faults h.place env comps
    → new ≡ old ++ line_reported parallel_at env h t (reported_of parallel_at t)
reported_rounds env h t k comps old mid new compared known is a b =
    reported_by env h t old mid new (rounds_reported k.count k.base env (reported_of parallel_at t)) (component_faults h.place env comps) a b
    (sym (rounds_under env h k (reported_of parallel_at t) known))
    (sym (own_compared h.form h.place env comps compared) ∙ ap (own_faults h.form h.place env) (is ∙ sym (rounds_components env h k (items_of t) known)))

pub reported_items : (env : Env) (h : Head) (t : Trees) (comps : List (List Use)) (old mid new : List Diag)
    → known_replicator h.form ≡ None → comps ≡ items_of t (inner env h)
    → mid ≡ old ++ reported_of parallel_at t (inner env h) → new ≡ mid ++ own_faults h.form h.place env comps
    → new ≡ old ++ line_reported parallel_at env h t (reported_of parallel_at t)
reported_items env h t comps old mid new known is a b =
    reported_by env h t old mid new (reported_of parallel_at t (inner env h)) (own_faults h.form h.place env comps) a b
    (sym (items_under env h (reported_of parallel_at t) known))
    (ap (own_faults h.form h.place env) (is ∙ sym (items_components env h (items_of t) known)))

pub reported_apart : (env : Env) (h : Head) (t : Trees) (old mid new : List Diag)
    → are_compared h.form ≡ false → mid ≡ old ++ under_reported env h (reported_of parallel_at t) → new ≡ mid ++ own_faults h.form h.place env []
    → new ≡ old ++ line_reported parallel_at env h t (reported_of parallel_at t)
reported_apart env h t old mid new apart a b =
    reported_by env h t old mid new (under_reported env h (reported_of parallel_at t)) (own_faults h.form h.place env []) a b refl
    (own_alike h.form h.place env [] (components env h (items_of t)) apart)
