-- The lines of a script, and the words of a line.
use Rattle.std.specs.Prelude.{ℕ, Bool, List, [], ◌∷◌, ◌++◌, ◌+◌, ◌==◌, cond, length, take, nat_lt}

-- the byte put before the first of the pieces
abbrev pub put_before : ℕ → List (List ℕ) → List (List ℕ)
put_before b [] = (b ∷ []) ∷ []
put_before b (piece ∷ pieces) = (b ∷ piece) ∷ pieces

-- the bytes cut at each LF; what stands after the last one is a line if it has a byte
abbrev pub cut_lines : List ℕ → List (List ℕ)
cut_lines [] = []
cut_lines (b ∷ bytes) = cond (b == 10) ([] ∷ cut_lines bytes) (put_before b (cut_lines bytes))

-- the words of a line: what stands between its blanks, perhaps nothing
abbrev pub words : List ℕ → List (List ℕ)
words [] = [] ∷ []
words (b ∷ bytes) = cond (b == 32) ([] ∷ words bytes) (put_before b (words bytes))

-- lines as a text, each with its LF
abbrev pub text_of : List (List ℕ) → List ℕ
text_of [] = []
text_of (line ∷ lines) = line ++ 10 ∷ text_of lines

-- how many LFs there are
abbrev pub feeds : List ℕ → ℕ
feeds [] = 0
feeds (b ∷ bytes) = cond (b == 10) 1 0 + feeds bytes

-- the greatest number of bytes of a script
abbrev pub script_limit : ℕ
script_limit = 67108864

-- the lines of a script that lie whole within the limit: those that end there, if bytes stand after it
abbrev pub whole_lines : List ℕ → List (List ℕ)
whole_lines bytes =
    let front = take script_limit bytes in
    cond (nat_lt script_limit (length bytes)) (take (feeds front) (cut_lines front)) (cut_lines bytes)

-- the lines that are ended by LF
abbrev pub ended_lines : List ℕ → List (List ℕ)
ended_lines bytes = take (feeds bytes) (cut_lines bytes)

-- the lines that end a script: where there are bytes over the limit behind them, those alone that are ended
abbrev pub last_lines : Bool → List ℕ → List (List ℕ)
last_lines over bytes = cond over (ended_lines bytes) (cut_lines bytes)
