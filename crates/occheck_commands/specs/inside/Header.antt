-- What the program's values of a command's first line stand for.
use Rattle.std.specs.Prelude.{ℕ, List, [], Option, Some, None}
use Rattle.std.specs.Borrow.{Bor}
use Rattle.occheck_commands.specs.Left.{meant}
use Rattle.occheck_commands.specs.Lines.{words}
use Rattle.occheck_commands.specs.Script.{Edit, Header}
use Rattle.occheck_commands.specs.Script.Edit.{Opening, Changing}
use Rattle.occheck_commands.specs.Script.Header.{Alone, Texts}
use Rattle.occheck_commands.specs.declared.command.Edit.{Edit as LentEdit}
use Rattle.occheck_commands.specs.declared.command.Edit.TheVariants as edit
use Rattle.occheck_commands.specs.declared.command.Header.{Header as Lent}
use Rattle.occheck_commands.specs.declared.command.Header.TheVariants as lent

abbrev pub edit_seen : LentEdit → Edit
edit_seen edit.Open = Opening
edit_seen edit.Change = Changing

abbrev pub seen : Lent → Header
seen (lent.Texts e name n) = Texts (edit_seen e) name.now n
seen (lent.Alone command) = Alone (meant command)

abbrev pub header_seen : Option Lent → Option Header
header_seen None = None
header_seen (Some header) = Some (seen header)

-- the words after the first blank, if there is one
abbrev pub words_after : Option (Bor (List ℕ)) → List (List ℕ)
words_after None = []
words_after (Some rest) = words rest.now
