-- What stands between quotes: bytes, each written as itself or as an escape.
use Rattle.std.specs.Prelude.{◌≡◌, ◌+◌, ◌*◌, ◌==◌, ◌&&◌, ◌||◌, not, ℕ, nat_le, Bool, cond, List, [], ◌∷◌, Option, Some, None}
use Rattle.std.specs.Char.{digit_value, is_ascii_hexdigit}

-- printed, and no quote of this kind and no '*' (42): it is written as itself
abbrev pub is_plain : ℕ → ℕ → Bool
is_plain quote b = (nat_le 32 b && nat_le b 126) && (not (b == quote) && not (b == 42))

-- the byte that a letter or mark stands for after a '*': 'c', 'n', 't', 's' in either case, and the quotes and '*' themselves
abbrev pub escaped : ℕ → Option ℕ
escaped b = cond (b == 99 || b == 67) (Some 13) (cond (b == 110 || b == 78) (Some 10) (cond (b == 116 || b == 84) (Some 9) (cond (b == 115 || b == 83) (Some 32)
    (cond (b == 39 || (b == 34 || b == 42)) (Some b) None))))

-- two hexadecimal digits, and what is after them
abbrev pub two_digits : List ℕ → Option (ℕ × List ℕ)
two_digits [] = None
two_digits (high ∷ []) = None
two_digits (high ∷ low ∷ rest) = cond (is_ascii_hexdigit high && is_ascii_hexdigit low) (Some (digit_value high * 16 + digit_value low, rest)) None

abbrev pub with_rest : List ℕ → Option ℕ → Option (ℕ × List ℕ)
with_rest rest None = None
with_rest rest (Some value) = Some (value, rest)

-- what is after a '*' stands for a byte: after '#' (35) by its digits
abbrev pub escape : List ℕ → Option (ℕ × List ℕ)
escape [] = None
escape (b ∷ rest) = cond (b == 35) (two_digits rest) (with_rest rest (escaped b))

-- the byte that the text spells first between quotes of this kind, and what is after its spelling
abbrev pub unit : ℕ → List ℕ → Option (ℕ × List ℕ)
unit quote [] = None
unit quote (b ∷ rest) = cond (b == 42) (escape rest) (cond (is_plain quote b) (Some (b, rest)) None)

-- between '"' (34) the text spells these bytes, as far as it spells any, and rest is after them
abbrev pub IsQuoted : List ℕ → List ℕ → List ℕ → Type 0
IsQuoted text [] rest = (unit 34 text ≡ None) × (text ≡ rest)
IsQuoted text (value ∷ values) rest = (after : List ℕ) × (unit 34 text ≡ Some (value, after)) × IsQuoted after values rest
