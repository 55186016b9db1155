-- What is printed of messages.
use Rattle.std.specs.Prelude.{◌≡◌, ◌++◌, ℕ, Bool, true, false, List, [], ◌∷◌, Some}
use Rattle.std.specs.List.{flat_map}
use Rattle.serde_json.specs.Data.{array}
use Rattle.serde_json.specs.Read.{read}
use Rattle.occ_messages.specs.declared.format.Format.{Format}
use Rattle.occ_messages.specs.declared.format.Format.TheVariants as format
use Rattle.occ_messages.specs.declared.message.Message.{Message}
use Rattle.occ_messages_formats.specs.Written.{message_items, short_line}

-- this is written of the messages: in JSON a list of them all, in the short format a line of each. Of the others no more is said here
abbrev pub IsWritten : Format → List Message → List ℕ → Type 0
IsWritten format.Short messages text = text ≡ flat_map short_line messages
IsWritten format.Json messages text = read text ≡ Some (array (message_items messages))
IsWritten format.Text messages text = Unit {0}
IsWritten format.Sarif messages text = Unit {0}
IsWritten format.Github messages text = Unit {0}

-- this comes after them: in JSON and SARIF a line feed (10), in the words of GitHub nothing, and nothing where only messages are asked
-- for. Of what else people are told no more is said here
abbrev pub IsEnd : Format → Bool → List ℕ → Type 0
IsEnd format.Json quiet end = end ≡ 10 ∷ []
IsEnd format.Sarif quiet end = end ≡ 10 ∷ []
IsEnd format.Github quiet end = end ≡ []
IsEnd format.Text true end = end ≡ []
IsEnd format.Short true end = end ≡ []
IsEnd format.Text false end = Unit {0}
IsEnd format.Short false end = Unit {0}

-- this is printed: the messages, and what comes after them
abbrev pub IsPrinted : Format → Bool → List Message → List ℕ → Type 0
IsPrinted format quiet messages text = (front end : List ℕ) × IsWritten format messages front × IsEnd format quiet end × (text ≡ front ++ end)
