-- The base and the count of a replicator, each an INT.
use Rattle.std.specs.Prelude.{ℤ, pos, negsuc, Option, Some, None}
use Rattle.occ_types.specs.declared.value.Value.{Value}
use Rattle.occ_types.specs.declared.value.Value.TheVariants as v
use Rattle.occ_typing_operands.specs.Settling.{Finding, int}
use Rattle.occ_typing_operands.specs.declared.kind.Kind.{Kind}
use Rattle.occ_typing_operands.specs.declared.kind.Kind.TheVariants as k
use Rattle.occ_scope.specs.declared.scope.Scope.{Scope}
use Rattle.occ_typing_tables.specs.Terms.{judged}
use Rattle.occ_forms_expressions.specs.declared.tree.Expr.{Expr}
use Rattle.occ_expr_operations.specs.Parts.{Said, after}
use Rattle.occ_expr_operations.specs.Views.{expr_view}
use Rattle.occ_typing_statements.specs.declared.replicator_tree.KnownReplicator.{KnownReplicator}

abbrev pub as_int : Said → Finding
as_int x = after x.faults ((judged x.term).under int)

unfoldable pub bound : Scope → Expr → Finding
bound s e = as_int ((expr_view e).said s)

-- ---- constants, of which no index is one

abbrev pub int_value : Option Value → Option ℤ
int_value (Some (v.Int n)) = Some n
int_value (Some (v.Bool b)) = None
int_value (Some (v.Byte n)) = None
int_value (Some (v.Int16 n)) = None
int_value (Some (v.Int32 n)) = None
int_value (Some (v.Int64 n)) = None
int_value None = None

abbrev pub constant : Kind → Option ℤ
constant k.Faulty = None
constant (k.Untyped f) = None
constant (k.Known x) = int_value x.value

abbrev pub counted_from : ℤ → ℤ → Option KnownReplicator
counted_from base (negsuc n) = None
counted_from base (pos n) = Some (record { base = base; count = n })

-- a constant base and a constant count, which is not negative
abbrev pub constants : Option ℤ → Option ℤ → Option KnownReplicator
constants None count = None
constants (Some base) None = None
constants (Some base) (Some count) = counted_from base count
