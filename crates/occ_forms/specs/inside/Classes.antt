-- Which class of forms a line can have, as the first token says that stands in no expression and no type.
use Rattle.std.specs.Prelude.{List, Option, Some, None}
use Rattle.occ_lines.specs.declared.token.Token.{Token}
use Rattle.occ_lines.specs.declared.token.Token.TheVariants as t
use Rattle.occ_lines.specs.declared.token.Symbol.{Symbol}
use Rattle.occ_lines.specs.declared.token.Symbol.TheVariants as s
use Rattle.occ_lines.specs.declared.token.Word.{Word}
use Rattle.occ_lines.specs.declared.token.Word.TheVariants as w
use Rattle.occ_forms.specs.declared.class.Class.{Class}
use Rattle.occ_forms.specs.declared.class.Class.TheVariants as cl
use Rattle.occ_forms_expressions.specs.Marks.{first_mark}

abbrev pub symbol_class : Symbol → Class
symbol_class s.Assign = cl.Assignment
symbol_class s.Output = cl.Output
symbol_class s.Input = cl.Input
symbol_class s.Ampersand = cl.Guard
symbol_class s.Semicolon = cl.Tagged
symbol_class s.Colon = cl.Close
symbol_class other = cl.Other

abbrev pub word_class : Word → Class
word_class w.Skip = cl.Skip
word_class w.Stop = cl.Stop
word_class w.Seq = cl.Replicable
word_class w.Par = cl.Replicable
word_class w.Pri = cl.Replicable
word_class w.If = cl.Replicable
word_class w.Alt = cl.Replicable
word_class w.While = cl.While
word_class w.Case = cl.Case
word_class w.Else = cl.Else
word_class w.ValOf = cl.ValueOf
word_class w.Result = cl.Result
word_class w.Record = cl.Record
word_class w.Packed = cl.PackedRecord
word_class other = cl.Other

abbrev pub mark_class : Token → Class
mark_class (t.Symbol symbol) = symbol_class symbol
mark_class (t.Word word) = word_class word
mark_class other = cl.Other

abbrev pub class_at : Option Token → Class
class_at None = cl.Expressions
class_at (Some mark) = mark_class mark

abbrev pub class_of : List Token → Class
class_of tokens = class_at (first_mark tokens)
