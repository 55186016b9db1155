-- How messages are written.
use Rattle.std.specs.Prelude.{◌≡◌, ℕ, zero, suc, length, List, ◌++◌, ◌∷◌, [], codes, map, String}
use Rattle.std.specs.declared.alloc.Global.{Global}
use Rattle.std.specs.Fmt.{decimal}
use Rattle.std.specs.String.{string_bytes}
use Rattle.occ_base.specs.Diag.{code_text, grade_text}
use Rattle.occ_messages.specs.declared.message.Message.{Message}
use Rattle.serde_json.specs.View.{items_of}
use Rattle.serde_json.specs.Data.{Data, Items, array, member, no_members, number, object, string, unsigned}

-- PATH:LINE: GRADE[CODE]: WORDS, and the end of the line
abbrev pub short_line : Message → List ℕ
short_line m = string_bytes m.path ++ (codes ":" ++ (decimal m.line ++ (codes ": " ++ (grade_text m.grade ++ (codes "[" ++ (code_text m.code ++ (codes "]: " ++ (string_bytes m.words ++ 10 ∷ []))))))))

-- so many blanks
abbrev pub blank : ℕ → List ℕ
blank zero = []
blank (suc n) = blank n ++ 32 ∷ []

-- as many as a number has digits
abbrev pub blanks : ℕ → List ℕ
blanks n = blank (length (decimal n))

-- GRADE[CODE]: WORDS, and on the next line, behind blanks, --> PATH:LINE
abbrev pub long_head : Message → List ℕ
long_head m = grade_text m.grade ++ (codes "[" ++ (code_text m.code ++ (codes "]: " ++ (string_bytes m.words ++ (10 ∷ [] ++ (blanks m.line ++ (codes "--> " ++ (string_bytes m.path ++ (codes ":" ++ (decimal m.line ++ 10 ∷ []))))))))))

-- a text has this as its front
abbrev pub Begins : List ℕ → List ℕ → Type 0
Begins text front = (rest : List ℕ) × (text ≡ front ++ rest)

abbrev pub text_data : String Global → Data
text_data t = string (string_bytes t)

abbrev pub text_items : List (String Global) → Items
text_items ts = items_of (map text_data ts)

-- the members stand in the order of their keys
abbrev pub message_data : Message → Data
message_data m = object (member (codes "code") (string (code_text m.code))
    (member (codes "file") (string (string_bytes m.path))
    (member (codes "grade") (string (grade_text m.grade))
    (member (codes "hints") (array (text_items m.hints.items))
    (member (codes "line") (number (unsigned m.line))
    (member (codes "message") (string (string_bytes m.words)) no_members))))))

abbrev pub message_items : List Message → Items
message_items ms = items_of (map message_data ms)
