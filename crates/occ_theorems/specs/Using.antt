-- What a process uses, said line by line: what the lines use that stand in it, outside the bodies of PROCs and FUNCTIONs in it. Of what
-- the rules see of it each use is told by the outermost replicator round its line, at its own.
use Rattle.std.specs.Prelude.{◌≡◌, ◌<◌, ℕ, false, Some, None, if◌then◌else◌}
use Rattle.std.specs.List.{Contains}
use Rattle.occ_typing_statements.specs.declared.replicator_tree.KnownReplicator.{KnownReplicator}
use Rattle.occ_usage.specs.Effect.{inner, is_body}
use Rattle.occ_usage.specs.Lines.{after_line, is_replicated, known_replicator, with_index}
use Rattle.occ_usage.specs.Trees.{Empty, Head, Tree, Trees}
use Rattle.occ_usage_lines.specs.Forms.{form_uses}
use Rattle.occ_usage_values.specs.Bounds.{Env}
use Rattle.occ_usage_values.specs.Uses.{at_line}
use Rattle.occ_usage_values.specs.declared.uses.Use.{Use}

-- a line of these trees has the use, where env stands in scope at the first line and outer at the next item
pub data IsUsed : Trees → Env → Env → Use → Type 0 where
  itself : (h : Head) (t following : Trees) (outer env : Env) (u : Use) → Contains (form_uses h.form env h.place) u → IsUsed (Tree h t following) outer env u
  -- under a line that is no head of a PROC or FUNCTION, and has no known replicator
  under : (h : Head) (t following : Trees) (outer env : Env) (u : Use) → is_body h.form ≡ false → known_replicator h.form ≡ None
      → IsUsed t (inner env h) (inner env h) u → IsUsed (Tree h t following) outer env u
  -- in one of the rounds of a known one
  in_some_round : (h : Head) (t following : Trees) (outer env : Env) (u : Use) (k : KnownReplicator) (i : ℕ) → is_body h.form ≡ false → known_replicator h.form ≡ Some k → i < k.count
      → IsUsed t (with_index env k.base i) (with_index env k.base i) u → IsUsed (Tree h t following) outer env u
  behind : (h : Head) (t following : Trees) (outer env : Env) (u : Use) → IsUsed following outer (after_line outer env h t) u → IsUsed (Tree h t following) outer env u

-- the line, or one that stands in it, has the use
abbrev pub IsUsedBy : Env → Head → Trees → Use → Type 0
IsUsedBy env h t u = IsUsed (Tree h t Empty) env env u

-- a use of a line under this one, as it is told here: by a replicator at its own line
abbrev pub told_at : Head → Use → Use
told_at h u = if is_replicated h.form then at_line u h.place else u

-- a line of these trees has it, or one under it, and it is told so: by a replicator round the line at its own
pub data IsToldOf : Trees → Env → Env → Use → Type 0 where
  told_itself : (h : Head) (t following : Trees) (outer env : Env) (u : Use) → Contains (form_uses h.form env h.place) u → IsToldOf (Tree h t following) outer env u
  told_under : (h : Head) (t following : Trees) (outer env : Env) (u : Use) → is_body h.form ≡ false → known_replicator h.form ≡ None
      → IsToldOf t (inner env h) (inner env h) u → IsToldOf (Tree h t following) outer env (told_at h u)
  told_in_some_round : (h : Head) (t following : Trees) (outer env : Env) (u : Use) (k : KnownReplicator) (i : ℕ) → is_body h.form ≡ false → known_replicator h.form ≡ Some k → i < k.count
      → IsToldOf t (with_index env k.base i) (with_index env k.base i) u → IsToldOf (Tree h t following) outer env (told_at h u)
  told_behind : (h : Head) (t following : Trees) (outer env : Env) (u : Use) → IsToldOf following outer (after_line outer env h t) u → IsToldOf (Tree h t following) outer env u

-- the line, or one that stands in it
abbrev pub IsToldBy : Env → Head → Trees → Use → Type 0
IsToldBy env h t u = IsToldOf (Tree h t Empty) env env u
