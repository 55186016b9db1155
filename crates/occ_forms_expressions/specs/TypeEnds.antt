-- What may follow a type, since `::[]u` can go on with the type of a channel.
use Rattle.std.specs.Prelude.{◌≡◌, true, false, List}
use Rattle.occ_lines.specs.declared.token.Token.{Token}
use Rattle.occ_forms_expressions.specs.declared.tree.Builtin.{Builtin}
use Rattle.occ_forms_expressions.specs.declared.tree.Builtin.TheVariants as uv
use Rattle.occ_forms_expressions.specs.declared.tree.ChannelWords.{ChannelWords}
use Rattle.occ_forms_expressions.specs.declared.tree.DataBase.{DataBase}
use Rattle.occ_forms_expressions.specs.declared.tree.DataForm.{DataForm}
use Rattle.occ_forms_expressions.specs.declared.tree.Dimension.{Dimension}
use Rattle.occ_forms_expressions.specs.declared.tree.TypeForm.{TypeForm}
use Rattle.occ_forms_expressions.specs.declared.tree.TypeForm.TheVariants as tv
use Rattle.occ_forms_expressions.specs.declared.types.Following.{Following}
use Rattle.occ_forms_expressions.specs.declared.types.Following.TheVariants as bh
use Rattle.occ_forms_expressions.specs.Reading.{IsEndOfRun, IsNotCounted, begin_of, is_operand_begin}
use Rattle.occ_forms_expressions.specs.Spelling.{counted_array, data_form_then}

-- where `::[]u` follows, an operand stands after u: `[]u` converts it
abbrev pub EndsChannel : List Token → Type 0
EndsChannel k = (form : DataForm) (l : List Token) → k ≡ counted_array (data_form_then form l) → is_operand_begin (begin_of l) ≡ true

-- what may follow the type of MOSTPOS or MOSTNEG, if it is a channel type on which `::[]u` could go
abbrev pub EndsMost : TypeForm → List Token → Type 0
EndsMost type k = (es : List Dimension) (words : ChannelWords) (ds : List Dimension) (base : DataBase) → type ≡ tv.Builtin es (uv.Channel words ds base) → EndsChannel k

-- The same by what stands after the type. This may follow the data type that a channel carries,
abbrev pub EndsCarried : Following → List Token → Type 0
EndsCarried bh.More k = IsNotCounted k
EndsCarried bh.End k = EndsChannel k

-- this the data type after `::[]`,
abbrev pub EndsArray : Following → List Token → Type 0
EndsArray bh.More k = Unit {0}
EndsArray bh.End k = is_operand_begin (begin_of k) ≡ false

-- and this a type.
abbrev pub EndsBuiltin : Following → Builtin → List Token → Type 0
EndsBuiltin bh.More b k = IsNotCounted k
EndsBuiltin bh.End b k = IsEndOfRun k × ((words : ChannelWords) (ds : List Dimension) (base : DataBase) → b ≡ uv.Channel words ds base → EndsChannel k)

abbrev pub EndsType : Following → TypeForm → List Token → Type 0
EndsType bh.More type k = IsNotCounted k
EndsType bh.End type k = IsEndOfRun k × EndsMost type k
