-- What a client is sent of files.
use Rattle.std.specs.Prelude.{◌≡◌, ◌≤◌, ◌+◌, ◌-◌, ℕ, ℤ, Bool, true, false, codes, List, [], ◌∷◌, ◌++◌, map, Option, Some, None, if◌then◌else◌}
use Rattle.std.specs.List.{All, flat_map}
use Rattle.std.specs.String.{string_bytes}
use Rattle.serde_json.specs.Data.{Data, Items, array, depth, member, no_members, number, object, string, unsigned}
use Rattle.serde_json.specs.Find.{of_integer}
use Rattle.serde_json.specs.Read.{max_depth, read}
use Rattle.serde_json.specs.View.{items_of}
use Rattle.serde_json.specs.Written.{compact_text, has_float}
use Rattle.occ_base.specs.Diag.{code_text}
use Rattle.occ_base.specs.declared.code.Grade.{Grade}
use Rattle.occ_base.specs.declared.code.Grade.TheVariants as grade
use Rattle.occ_editor.specs.Publishing.{AreWhole, IsPublished}
use Rattle.occ_editor.specs.declared.editor.Published.{Published}
use Rattle.occ_editor_edits.specs.Frames.{framed}
use Rattle.occ_editor_edits.specs.Places.{goes_on, units}
use Rattle.occ_editor_edits.specs.Uris.{IsUriOf}
use Rattle.occ_editor_messages.specs.declared.server.LanguageServer.{LanguageServer}
use Rattle.occ_files.specs.Words.{why_words}
use Rattle.occ_files.specs.declared.refusal.Why.{Why}
use Rattle.occ_messages.specs.declared.message.Message.{Message}
use Rattle.occ_messages.specs.declared.told.Quoted.{Quoted}

-- ---- a message, as the protocol has it

abbrev pub place_data : ℕ → ℕ → Data
place_data line character = object (member (codes "character") (number (unsigned character)) (member (codes "line") (number (unsigned line)) no_members))

abbrev pub range_data : Data → Data → Data
range_data start end = object (member (codes "end") end (member (codes "start") start no_members))

abbrev pub location_data : List ℕ → Data → Data
location_data uri range = object (member (codes "range") range (member (codes "uri") (string uri) no_members))

-- the UTF-16 units of a text
abbrev pub units_in : List ℕ → ℕ
units_in [] = 0
units_in (b ∷ bs) = (if goes_on b then 0 else units b) + units_in bs

-- the whole of a line, from 1, that has this text
abbrev pub line_data : ℕ → List ℕ → Data
line_data line source = range_data (place_data (line - 1) 0) (place_data (line - 1) (units_in source))

abbrev pub severity_of : Grade → ℕ
severity_of grade.Error = 1
severity_of grade.Check = 2

-- what is wrong, and below it what may help
abbrev pub words_of : Message → List ℕ
words_of m = string_bytes m.words ++ flat_map (λ hint. codes "\nhelp: " ++ string_bytes hint) m.hints.items

-- another line that matters
abbrev pub other_data : List ℕ → Quoted → Data
other_data uri other = object (member (codes "location") (location_data uri (line_data other.number (string_bytes other.source))) (member (codes "message") (string other.label.now) no_members))

abbrev pub diagnostic_data : List ℕ → Message → Data
diagnostic_data uri m =
    object (member (codes "code") (string (code_text m.code))
    (member (codes "message") (string (words_of m))
    (member (codes "range") (line_data m.line (string_bytes m.source))
    (member (codes "relatedInformation") (array (items_of (map (other_data uri) m.others.items)))
    (member (codes "severity") (number (unsigned (severity_of m.grade)))
    (member (codes "source") (string (codes "occ")) no_members))))))

-- that a file is not checked, at its first line, in these words
abbrev pub refusal_data : List ℕ → Data
refusal_data words =
    object (member (codes "message") (string words)
    (member (codes "range") (line_data 1 [])
    (member (codes "severity") (number (unsigned 1))
    (member (codes "source") (string (codes "occ")) no_members))))

-- where there is a reason, it is told first, in its words
abbrev pub first_data : Option Why → List Data
first_data None = []
first_data (Some why) = refusal_data (why_words why) ∷ []

-- a note of a file that has these diagnostics
abbrev pub params_data : List ℕ → Data → Data
params_data uri diagnostics = object (member (codes "diagnostics") diagnostics (member (codes "uri") (string uri) no_members))

-- this tells what is published of a file
abbrev pub IsTold : Published → Data → Type 0
IsTold p params =
    (uri : List ℕ) × IsUriOf (string_bytes p.path) uri
    × (params ≡ params_data uri (array (items_of (first_data p.refusal ++ map (diagnostic_data uri) p.messages.items))))

abbrev pub AreTold : List Published → List Data → Type 0
AreTold [] [] = Unit {0}
AreTold [] (d ∷ ds) = ⊥
AreTold (p ∷ ps) [] = ⊥
AreTold (p ∷ ps) (d ∷ ds) = IsTold p d × AreTold ps ds

-- ---- the bytes

abbrev pub note_data : List ℕ → Data → Data
note_data method params = object (member (codes "jsonrpc") (string (codes "2.0")) (member (codes "method") (string method) (member (codes "params") params no_members)))

-- the answer to the request of that id
abbrev pub answer_data : Data → Data → Data
answer_data id told = object (member (codes "id") id (member (codes "jsonrpc") (string (codes "2.0")) (member (codes "result") told no_members)))

-- why a request is refused: a number of the protocol and words
abbrev pub error_data : ℤ → List ℕ → Data
error_data code words = object (member (codes "code") (number (of_integer code)) (member (codes "message") (string words) no_members))

-- that the request of that id is refused
abbrev pub refused_data : Data → ℤ → List ℕ → Data
refused_data id code words = object (member (codes "error") (error_data code words) (member (codes "id") id (member (codes "jsonrpc") (string (codes "2.0")) no_members)))

-- a request of the server's own, whose id is always the word "watch"
abbrev pub request_data : List ℕ → Data → Data
request_data method params = object (member (codes "id") (string (codes "watch")) (member (codes "jsonrpc") (string (codes "2.0")) (member (codes "method") (string method) (member (codes "params") params no_members))))

-- what was to be sent before is to be sent still, and first
abbrev pub Extends : List ℕ → List ℕ → Type 0
Extends before now = (more : List ℕ) × (now ≡ before ++ more)

-- behind what was to be sent before stands one frame. Its text reads as the message, if that is no deeper than a reader goes, and
-- is the compact text of it, if it has no fraction
abbrev pub IsAdded : Data → List ℕ → List ℕ → Type 0
IsAdded message before now =
    (text : List ℕ) × (now ≡ before ++ framed text) × (depth message ≤ max_depth → read text ≡ Some message) × (has_float message ≡ false → text ≡ compact_text message)

-- a note in its frame
abbrev pub note_bytes : List ℕ → Data → List ℕ
note_bytes method params = framed (compact_text (note_data method params))

-- between these two the server tells of each file what the boards tell of it, but of those of which they tell what they told
pub record Tells {D : Type 0} (before now : LanguageServer D) : Type 0 where
  pub all : List Published
  pub params : List Data
  pub published : All (IsPublished now.editor.rooms.items) all
  pub whole : AreWhole before.editor.rooms.items now.editor.rooms.items all
  pub told : AreTold all params
  pub sent : now.sending.bytes.items ≡ before.sending.bytes.items ++ flat_map (note_bytes (codes "textDocument/publishDiagnostics")) params
