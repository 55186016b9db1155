-- What a process of a unit uses of what stands round it, where no index round it is known. Its number says how many
-- processes stand before it in the listing.
use Rattle.std.specs.Prelude.{ℕ, zero, suc, nat_lt, Bool, true, false, Option, Some, None, List, [], ◌++◌, length, if◌then◌else◌}
use Rattle.std.specs.List.{filter}
use Rattle.occ_usage_values.specs.Bounds.{Env}
use Rattle.occ_usage_values.specs.declared.uses.Use.{Use}
use Rattle.occ_typing.specs.declared.tree.TypedLine.{TypedLine}
use Rattle.occ_usage.specs.Effect.{inner}
use Rattle.occ_usage.specs.EachLine.{line_use}
use Rattle.occ_usage.specs.Lines.{after_line}
use Rattle.occ_usage.specs.Trees.{Empty, Head, Tree, Trees, trees_of}

-- of what stands round it
abbrev pub from_round : ℕ → List Use → List Use
from_round n us = filter (λ (u : Use). nat_lt u.part.root n) us

-- where so many processes are still to be passed, or the one that is asked for is: a line that is a process is that one
abbrev pub is_asked : Bool → Option ℕ → Bool
is_asked false left = false
is_asked true None = false
is_asked true (Some zero) = true
is_asked true (Some (suc n)) = false

-- how many are still to be passed after a line that is a process, or none
abbrev pub passed : Bool → Option ℕ → Option ℕ
passed false left = left
passed true None = None
passed true (Some zero) = None
passed true (Some (suc n)) = Some n

-- after all of these lines
abbrev pub all_passed : Trees → Option ℕ → Option ℕ
all_passed Empty left = left
all_passed (Tree h t following) left = all_passed following (all_passed t (passed h.is_process left))

-- a line, if it is the process that is asked for
abbrev pub own_uses : Option ℕ → Head → Trees → Env → List Use
own_uses left h t env = if is_asked h.is_process left then from_round (length env) (line_use env h t) else []

-- env stands in scope at the first of the lines, and outer at the next item
abbrev pub process_uses : Option ℕ → Trees → Env → Env → List Use
process_uses left Empty outer env = []
process_uses left (Tree h t following) outer env =
    (own_uses left h t env ++ process_uses (passed h.is_process left) t (inner env h) (inner env h))
    ++ process_uses (all_passed t (passed h.is_process left)) following outer (after_line outer env h t)

-- a line, or one of those under it
abbrev pub whole_uses : Option ℕ → Head → Trees → Env → List Use
whole_uses left h t env = own_uses left h t env ++ process_uses (passed h.is_process left) t (inner env h) (inner env h)

abbrev pub uses_in : List TypedLine → ℕ → List Use
uses_in ls n = process_uses (Some n) (trees_of ls) [] []
