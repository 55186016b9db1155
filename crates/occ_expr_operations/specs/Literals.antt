-- Literals: an integer is free, a character is a BYTE, a string an array of as many BYTEs as it has.
use Rattle.std.specs.Prelude.{pos, Bool, Option, Some, None, length}
use Rattle.occ_types.specs.declared.types.OccType.{OccType}
use Rattle.occ_types.specs.declared.types.OccType.TheVariants as t
use Rattle.occ_types.specs.declared.value.Primitive.TheVariants as p
use Rattle.occ_types.specs.declared.value.Value.TheVariants as v
use Rattle.occ_typing_operands.specs.Outcomes.{decimal, hexadecimal}
use Rattle.occ_typing_operands.specs.Settling.{Finding, known, silent}
use Rattle.occ_typing_operands.specs.Wanting.{wanted}
use Rattle.occ_typing_operands.specs.declared.kind.Kind.{Kind}
use Rattle.occ_typing_operands.specs.declared.kind.Kind.TheVariants as k
use Rattle.occ_typing_tables.specs.Decorating.{decorated}
use Rattle.occ_typing_tables.specs.Terms.{and_then, as_it_is, table_type}
use Rattle.occ_forms_expressions.specs.declared.tree.Literal.{Literal}
use Rattle.occ_forms_expressions.specs.declared.tree.Literal.TheVariants as l

abbrev pub byte : OccType
byte = t.Primitive p.Byte

unfoldable pub literal : Literal → Finding
literal (l.Decimal n) = as_it_is (k.Untyped (decimal (pos n)))
literal (l.Hexadecimal n) = as_it_is (k.Untyped (hexadecimal n))
literal (l.Character b) = as_it_is (known byte (Some (v.Byte b)))
literal (l.String bytes) = table_type (length bytes) (Some byte)

abbrev pub truth : Bool → Finding
truth b = as_it_is (known (t.Primitive p.Bool) (Some (v.Bool b)))

-- ---- a literal with its type, of which nothing is asked where that is not known

abbrev pub decorated_kind : OccType → Kind → Finding
decorated_kind to k.Faulty = silent
decorated_kind to (k.Untyped f) = wanted to (k.Untyped f)
decorated_kind to (k.Known x) = decorated to x.of x.value

unfoldable pub decorated_literal : Option OccType → Literal → Finding
decorated_literal None lit = silent
decorated_literal (Some to) lit = and_then (literal lit) (decorated_kind to)
