-- What a rule reports of a unit, said place by place: of each line by what stands in scope there, for each choice of the known
-- indices round it.
use Rattle.std.specs.Prelude.{◌≡◌, ◌<◌, ℕ, Some, None}
use Rattle.std.specs.List.{Contains}
use Rattle.occ_base.specs.declared.diag.Diag.{Diag}
use Rattle.occ_usage_values.specs.Bounds.{Env}
use Rattle.occ_typing_statements.specs.declared.replicator_tree.KnownReplicator.{KnownReplicator}
use Rattle.occ_usage.specs.Effect.{inner}
use Rattle.occ_usage.specs.Lines.{after_line, known_replicator, with_index}
use Rattle.occ_usage.specs.Trees.{Head, Tree, Trees}
use Rattle.occ_usage.specs.Walk.{At, Rule}

-- a line stands in trees, where env stands in scope at the first line and outer at the next item
pub data Stands : Trees → Env → Env → At → Type 0 where
  first : (h : Head) (t following : Trees) (outer env : Env) → Stands (Tree h t following) outer env (record { line = h; under = t; env = env })
  -- under a line that has no known replicator
  below : (h : Head) (t following : Trees) (outer env : Env) (a : At) → known_replicator h.form ≡ None
      → Stands t (inner env h) (inner env h) a → Stands (Tree h t following) outer env a
  -- in one of the rounds of a known one
  in_round : (h : Head) (t following : Trees) (outer env : Env) (a : At) (k : KnownReplicator) (i : ℕ) → known_replicator h.form ≡ Some k → i < k.count
      → Stands t (with_index env k.base i) (with_index env k.base i) a → Stands (Tree h t following) outer env a
  later : (h : Head) (t following : Trees) (outer env : Env) (a : At)
      → Stands following outer (after_line outer env h t) a → Stands (Tree h t following) outer env a

-- of some line in these trees
abbrev pub IsReportedIn : Rule → Trees → Env → Env → Diag → Type 0
IsReportedIn rule t outer env d = (a : At) × Stands t outer env a × Contains (rule a) d
