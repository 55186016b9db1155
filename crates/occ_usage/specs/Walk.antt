-- What a rule reports of lines that is said of each line by what stands in scope there: under a known replicator for each round,
-- so for each choice of the known indices round a line. What several rounds report is told once.
use Rattle.std.specs.Prelude.{ℕ, zero, suc, ℤ, Option, Some, None, List, [], ◌++◌}
use Rattle.occ_base.specs.Order.{diag_order, placed}
use Rattle.occ_base.specs.declared.diag.Diag.{Diag}
use Rattle.occ_usage_values.specs.Bounds.{Env}
use Rattle.occ_typing_statements.specs.declared.replicator_tree.KnownReplicator.{KnownReplicator}
use Rattle.occ_typing.specs.declared.tree.TypedLine.{TypedLine}
use Rattle.occ_usage.specs.Effect.{inner}
use Rattle.occ_usage.specs.Lines.{after_line, known_replicator, with_index}
use Rattle.occ_usage.specs.Trees.{Empty, Head, Tree, Trees, trees_of}

-- a line with those under it, and what stands in scope there
pub record At : Type 0 where
  pub line : Head
  pub under : Trees
  pub env : Env

-- what is reported of a line there, without what is reported of the lines under it
abbrev pub Rule : Type 0
Rule = At → List Diag

abbrev pub Finding : Type 0
Finding = Env → List Diag

-- of the first n rounds of a replicator with this base, in order, each once
abbrev pub rounds_reported : ℕ → ℤ → Env → Finding → List Diag
rounds_reported zero base env reported = []
rounds_reported (suc i) base env reported = placed diag_order (reported (with_index env base i)) (rounds_reported i base env reported)

abbrev pub under_reported_by : Option KnownReplicator → Env → Head → Finding → List Diag
under_reported_by None env h reported = reported (inner env h)
under_reported_by (Some k) env h reported = rounds_reported k.count k.base env reported

-- of the lines under a line, in each round of a known replicator
abbrev pub under_reported : Env → Head → Finding → List Diag
under_reported env h reported = under_reported_by (known_replicator h.form) env h reported

-- of a line and those under it
abbrev pub line_reported : Rule → Env → Head → Trees → Finding → List Diag
line_reported rule env h t reported = under_reported env h reported ++ rule (record { line = h; under = t; env = env })

-- env stands in scope at the first of the lines, and outer at the next item
abbrev pub reported : Rule → Trees → Env → Env → List Diag
reported rule Empty outer env = []
reported rule (Tree h t following) outer env = line_reported rule env h t (λ (e : Env). reported rule t e e) ++ reported rule following outer (after_line outer env h t)

abbrev pub reported_of : Rule → Trees → Finding
reported_of rule t env = reported rule t env env

-- of the lines of a unit: nothing stands in scope at the first
abbrev pub unit_reported : Rule → List TypedLine → List Diag
unit_reported rule ls = reported_of rule (trees_of ls) []
