-- A talk with a client: what it has asked for, and the texts of the files that it has open, as its messages leave them.
use Rattle.std.specs.Prelude.{◌≡◌, ℕ, Bool, true, false, codes, List, Option, Some, None, if◌then◌else◌}
use Rattle.std.specs.Str.{IsUtf8}
use Rattle.serde_json.specs.Data.{Data, null, boolean, number, string, array, object}
use Rattle.serde_json.specs.Find.{get}
use Rattle.serde_json.specs.Read.{read}
use Rattle.occ_editor_edits.specs.Documents.{text_in}
use Rattle.occ_editor_edits.specs.Messages.{Saying, is_method, method_of, saying}
use Rattle.occ_editor_edits.specs.Texts.{Texts, after_saying}
use Rattle.occ_editor_messages.specs.declared.server.Flow.{Flow}
use Rattle.occ_editor_messages.specs.declared.server.Flow.TheVariants as next
use Rattle.occ_editor_messages.specs.declared.server.Phase.{Phase}
use Rattle.occ_editor_messages.specs.declared.server.Phase.TheVariants as phase
use Rattle.occ_editor_messages.specs.declared.server.LanguageServer.{LanguageServer}

pub record Talk : Type 0 where
  pub phase : Phase
  pub texts : Texts

-- the bytes of a message are this JSON, or none
abbrev pub IsJson : List ℕ → Data → Type 0
IsJson bytes message = IsUtf8 bytes × (read bytes ≡ Some message)

abbrev pub IsNoJson : List ℕ → Type 0
IsNoJson bytes = IsUtf8 bytes → read bytes ≡ None

-- a number or a string stands there
abbrev pub is_id : Option Data → Bool
is_id None = false
is_id (Some null) = false
is_id (Some (boolean b)) = false
is_id (Some (number n)) = true
is_id (Some (string s)) = true
is_id (Some (array ds)) = false
is_id (Some (object ms)) = false

-- a message asks for an answer, if it has an id
abbrev pub asks : Data → Bool
asks message = is_id (get (codes "id") message)

-- what the client has asked for behind a request of that method
abbrev pub phase_after : Phase → Option (List ℕ) → Phase
phase_after phase.New method = if is_method (codes "initialize") method then phase.Begun else phase.New
phase_after phase.Begun method = if is_method (codes "shutdown") method then phase.Shut else phase.Begun
phase_after phase.Shut method = phase.Shut

-- the texts behind a note, which counts while the server serves
abbrev pub texts_after : Phase → Option Saying → Texts → Texts
texts_after phase.New said texts = texts
texts_after phase.Begun None texts = texts
texts_after phase.Begun (Some said) texts = after_saying texts said
texts_after phase.Shut said texts = texts

-- a talk after a message
abbrev pub heard : Talk → Data → Talk
heard talk message =
    if asks message then record { phase = phase_after talk.phase (method_of message); texts = talk.texts }
    else record { phase = talk.phase; texts = texts_after talk.phase (saying message) talk.texts }

-- a talk of which nothing was heard
abbrev pub silence : Talk
silence = record { phase = phase.New; texts = λ path. None }

-- the server has heard this talk
abbrev pub HasHeard : {D : Type 0} → LanguageServer D → Talk → Type 0
HasHeard server talk = (server.phase ≡ talk.phase) × ((path : List ℕ) → text_in server.editor.documents.all.items path ≡ talk.texts path)

-- a server ends well, if it was asked to answer no more
abbrev pub status_of : Phase → ℕ
status_of phase.New = 1
status_of phase.Begun = 1
status_of phase.Shut = 0

-- a server ends with a message that asks for it, and goes on behind each other one
abbrev pub next_of : Talk → Data → Flow
next_of talk message = if is_method (codes "exit") (method_of message) then next.Ends (status_of talk.phase) else next.Goes
