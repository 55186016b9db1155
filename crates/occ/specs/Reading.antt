-- What is read of a text.
use Rattle.std.specs.Prelude.{ℕ, List, take}

-- all its bytes, or one more than any text may have
abbrev pub read_of : List ℕ → List ℕ
read_of bytes = take 262145 bytes
