-- What stands in scope at a line of a unit, each specification made anew: it is what a line of the unit brings into scope there,
-- in the scope of what stands before it.
use Rattle.std.specs.Prelude.{◌≡◌, ◌<◌, ℕ, Some, None, [], ◌++◌, slice_get, take}
use Rattle.occ_usage_values.specs.Bounds.{Env}
use Rattle.occ_usage_values.specs.declared.bound.Bound.{Bound}
use Rattle.occ_usage_values.specs.declared.bound.Bound.TheVariants as b
use Rattle.occ_alias.specs.Entering.{entry_bounds, index_value}
use Rattle.occ_typing_statements.specs.declared.replicator_tree.KnownReplicator.{KnownReplicator}
use Rattle.occ_usage.specs.Lines.{added, items_of, known_replicator}
use Rattle.occ_usage.specs.Standing.{Stands}
use Rattle.occ_usage.specs.Trees.{Head, Trees}

-- by a line that stands in the unit, where the scope before is that of the line
pub data IsBroughtIn : Trees → Env → Bound → Type 0 where
  -- one of those that it adds after itself, as a PROC or a FUNCTION with what its lines use there
  added_by : (unit : Trees) (before : Env) (h : Head) (t : Trees) (k : ℕ) (x : Bound) → Stands unit [] [] (record { line = h; under = t; env = before })
      → slice_get (added before h t (items_of t)) k ≡ Some x → IsBroughtIn unit (before ++ take k (added before h t (items_of t))) x
  -- one of those that it enters for the lines under it, if it has no known replicator
  entered_by : (unit : Trees) (before : Env) (h : Head) (t : Trees) (k : ℕ) (x : Bound) → Stands unit [] [] (record { line = h; under = t; env = before })
      → known_replicator h.form ≡ None → slice_get (entry_bounds h.enters) k ≡ Some x → IsBroughtIn unit (before ++ take k (entry_bounds h.enters)) x
  -- the index of its replicator in one of the rounds
  index_of : (unit : Trees) (before : Env) (h : Head) (t : Trees) (r : KnownReplicator) (i : ℕ) → Stands unit [] [] (record { line = h; under = t; env = before })
      → known_replicator h.form ≡ Some r → i < r.count → IsBroughtIn unit before (b.Value (index_value r.base i) None [])

-- each specification in scope
abbrev pub AllBroughtIn : Trees → Env → Type 0
AllBroughtIn unit env = (n : ℕ) (x : Bound) → slice_get env n ≡ Some x → IsBroughtIn unit (take n env) x
