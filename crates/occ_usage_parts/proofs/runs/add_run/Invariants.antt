use Rattle.std.proofs.Common.{◌≤◌, ℕ}
use Rattle.std.specs.Prelude.{◌↔◌, ◌⊎◌}
use Rattle.std.specs.BTreeMap.{btree_map_len}
use Rattle.occ_usage_parts.specs.inside.Runs.{AreRuns, IsBetween, IsShort, LiesIn, runs_of}
use Rattle.occ_usage_parts.proofs.runs.add_run.Given as goal

abbrev pub invariant-loop-begin : goal.invariant-loop-begin
invariant-loop-begin l = record {
  runs : AreRuns (runs_of l.runs);
  forward : l.first ≤ l.last;
  short_first : IsShort l.first;
  short_last : IsShort l.last;
  less : (x : ℕ) → LiesIn (runs_of l.runs) x → LiesIn (runs_of l.initial.runs) x;
  places : (x : ℕ) → (LiesIn (runs_of l.runs) x ⊎ IsBetween l.first l.last x) ↔ (LiesIn (runs_of l.initial.runs) x ⊎ IsBetween l.initial.first l.initial.last x);
}

abbrev pub decreases-loop-begin : goal.decreases-loop-begin
decreases-loop-begin l = btree_map_len l.runs
