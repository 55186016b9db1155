-- What lines say, as a relation: cut in order into lines without bytes, commands with their lines of text, and a fault.
use Rattle.std.specs.Prelude.{◌≡◌, ◌≢◌, ◌+◌, ◌<◌, ℕ, Bool, List, [], ◌∷◌, ◌++◌, cond, length, Some, None}
use Rattle.occheck_commands.specs.Lines.{whole_lines}
use Rattle.occheck_commands.specs.Script.{Command, Edit, Script, ended, header, is_over, then, with_lines}
use Rattle.occheck_commands.specs.Script.Header.{Alone, Texts}

-- the lines from line n on say this
pub data Says (over : Bool) : ℕ → List (List ℕ) → Script → Type 0 where
  -- nothing more; if there were bytes over the limit, they are the fault
  at_end : (n : ℕ) → Says over n [] (ended (cond over (Some n) None))
  skipped : (n : ℕ) (lines : List (List ℕ)) (script : Script) → Says over (n + 1) lines script → Says over n ([] ∷ lines) script
  alone : (n : ℕ) (line : List ℕ) (lines : List (List ℕ)) (command : Command) (script : Script)
      → header line ≡ Some (Alone command) → Says over (n + 1) lines script → Says over n (line ∷ lines) (then n command script)
  with_text : (n : ℕ) (line : List ℕ) (text lines : List (List ℕ)) (edit : Edit) (name : List ℕ) (script : Script)
      → header line ≡ Some (Texts edit name (length text)) → Says over (n + 1 + length text) lines script → Says over n (line ∷ text ++ lines) (then n (with_lines edit name text) script)
  cut_short : (n : ℕ) (line : List ℕ) (lines : List (List ℕ)) (edit : Edit) (name : List ℕ) (k : ℕ)
      → header line ≡ Some (Texts edit name k) → length lines < k → Says over n (line ∷ lines) (ended (Some n))
  wrong : (n : ℕ) (line : List ℕ) (lines : List (List ℕ)) → line ≢ [] → header line ≡ None → Says over n (line ∷ lines) (ended (Some n))

-- the bytes of a script say this
abbrev pub ScriptSays : List ℕ → Script → Type 0
ScriptSays bytes script = Says (is_over bytes) 1 (whole_lines bytes) script
