-- `n = e FOR e`: what it reports, and what its index is.
use Rattle.std.specs.Prelude.{ℕ, Bool, true, false, ◌||◌, length, Option, Some, None, List, [], ◌∷◌, ◌++◌, if◌then◌else◌}
use Rattle.occ_base.specs.declared.fault.Fault.{Fault}
use Rattle.occ_expr.specs.Trees.{int_tree}
use Rattle.occ_typing_operands.specs.Operators.{is_faulty}
use Rattle.occ_typing_operands.specs.Settling.{Finding, int}
use Rattle.occ_scope.specs.declared.meaning.Access.TheVariants as access
use Rattle.occ_scope.specs.declared.meaning.ScopeEntry.{ScopeEntry}
use Rattle.occ_scope.specs.declared.meaning.Meaning.{Meaning}
use Rattle.occ_scope.specs.declared.meaning.Meaning.TheVariants as m
use Rattle.occ_scope.specs.declared.scope.Scope.{Scope}
use Rattle.occ_forms.specs.declared.tree.Replicator.{Replicator}
use Rattle.occ_typing_rules.specs.declared.expr.TypedExpr.{TypedExpr}
use Rattle.occ_typing_statements.specs.Bounds.{bound, constant, constants}
use Rattle.occ_typing_statements.specs.Counting.{Counted, counted, parallel_faults}
use Rattle.occ_typing_statements.specs.declared.replicating.Replicating.{Replicating}
use Rattle.occ_typing_statements.specs.declared.replicating.Replicating.TheVariants as by
use Rattle.occ_typing_statements.specs.declared.replicator_tree.KnownReplicator.{KnownReplicator}
use Rattle.occ_typing_statements.specs.declared.replicator_tree.TypedReplicator.{TypedReplicator}

-- what is read of a replicator: its faults, whether one of its bounds has one, and the constants that these are
pub record Read : Type 0 where
  pub faults : List Fault
  pub is_faulty : Bool
  pub constants : Option KnownReplicator

abbrev pub read_of : Finding → Finding → Read
read_of base count =
    record {
      faults = base.faults ++ count.faults;
      is_faulty = is_faulty base.kind || is_faulty count.kind;
      constants = constants (constant base.kind) (constant count.kind);
    }

unfoldable pub read : Scope → Replicator → Read
read s r = read_of (bound s r.base) (bound s r.count)

-- ---- what is reported

-- a PAR asks for more than other constructs do
abbrev pub asked : Replicating → List ℕ → ℕ → Option KnownReplicator → List Fault
asked by.Other name rounds x = []
asked by.Parallel name rounds x = parallel_faults name rounds x

-- of a base or a count with a fault nothing more is asked
abbrev pub unless_faulty : Bool → List Fault → List Fault
unless_faulty faulty faults = if faulty then [] else faults

abbrev pub faults_of : Replicating → List ℕ → ℕ → Read → List Fault
faults_of construct name rounds x = x.faults ++ unless_faulty x.is_faulty (asked construct name rounds x.constants)

unfoldable pub faults : Scope → Replicating → ℕ → Replicator → List Fault
faults s construct rounds r = faults_of construct r.name rounds (read s r)

-- ---- the index: an INT that nothing is written to, and no constant. It is faulty where the replicator is

abbrev pub index_of : List Fault → Bool → List ℕ → Meaning
index_of [] false name = m.Element (record { of = int; access = access.Value; value = None; root = name })
index_of [] true name = m.Faulty
index_of (fault ∷ more) faulty name = m.Faulty

unfoldable pub enters : Scope → Replicating → ℕ → Replicator → List ScopeEntry
enters s construct rounds r =
    let x = read s r in
    (record { name = r.name; meaning = index_of (faults_of construct r.name rounds x) x.is_faulty r.name }) ∷ []

-- ---- whether it is known, and its tree

-- it, if it is known, and how often the lines under it stand
unfoldable pub counting : Scope → ℕ → Replicator → Counted
counting s rounds r = counted rounds (read s r).constants

abbrev pub tree_of : ℕ → Option KnownReplicator → Option TypedExpr → Option TypedExpr → Option TypedReplicator
tree_of level x None count = None
tree_of level x (Some base) None = None
tree_of level x (Some base) (Some count) = Some (record { index = level; base = base; count = count; known = x })

unfoldable pub tree : Scope → ℕ → Replicator → Option TypedReplicator
tree s rounds r = tree_of (length s.meanings) (counting s rounds r).known (int_tree s r.base) (int_tree s r.count)
