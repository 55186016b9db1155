-- What a process uses, each use at the line that has it. A known replicator counts as one copy of what is under it for each index
-- value. The rules for what holds a replicator see the same uses, told at its line.
use Rattle.std.specs.Prelude.{ℕ, zero, suc, ℤ, Option, Some, None, List, [], ◌++◌, if◌then◌else◌}
use Rattle.occ_alias.specs.Forms.{form_uses}
use Rattle.occ_typing_statements.specs.declared.replicator_tree.KnownReplicator.{KnownReplicator}
use Rattle.occ_usage.specs.Effect.{inner, is_body}
use Rattle.occ_usage.specs.Lines.{after_line, known_replicator, with_index}
use Rattle.occ_usage.specs.Trees.{Empty, Head, Tree, Trees}
use Rattle.occ_usage_values.specs.Bounds.{Env}
use Rattle.occ_usage_values.specs.declared.uses.Use.{Use}

-- the first n rounds of a replicator with this base
abbrev pub rounds_use : ℕ → ℤ → Env → (Env → List Use) → List Use
rounds_use zero base env under = []
rounds_use (suc i) base env under = rounds_use i base env under ++ under (with_index env base i)

-- what is under a line, or in the rounds of its replicator, if that is known
abbrev pub under_use : Option KnownReplicator → Env → Head → (Env → List Use) → List Use
under_use None env h under = under (inner env h)
under_use (Some k) env h under = rounds_use k.count k.base env under

-- a line, and what is under it: the body of a PROC or a FUNCTION uses nothing where it stands
abbrev pub with_under : Env → Head → (Env → List Use) → List Use
with_under env h under = form_uses h.form env h.place ++ (if is_body h.form then [] else under_use (known_replicator h.form) env h under)

-- lines: env stands in scope at the first of them, and outer at the next item
abbrev pub lines_use : Trees → Env → Env → List Use
lines_use Empty outer env = []
lines_use (Tree h t following) outer env = with_under env h (λ (e : Env). lines_use t e e) ++ lines_use following outer (after_line outer env h t)

-- a line with those under it
abbrev pub line_use : Env → Head → Trees → List Use
line_use env h t = with_under env h (λ (e : Env). lines_use t e e)
