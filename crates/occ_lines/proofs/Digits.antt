-- The value of digits, one by one.
use Rattle.std.proofs.Common.{◌≡◌, ◌≤◌, ◌<◌, ◌+◌, ◌*◌, ℕ, true, List, [], ◌∷◌, length, take, get_or, sym, ap, ◌∙◌, arith}
use Rattle.std.specs.Char.{digit_value, is_ascii_digit, is_ascii_hexdigit}
use Rattle.std.specs.List.{list_all}
use Rattle.std.specs.Str.Parse.{digits_value}
use Rattle.std.proofs.lemmas.Bool.{and_from, and_parts}
use Rattle.std.proofs.lemmas.Bool.Decides.{nat_tests}
use Rattle.std.proofs.lemmas.Int.Digits.{digits_value_more}
use Rattle.std.proofs.lemmas.Str.Parse.{digits_value-take-le}
use Rattle.occ_lines.specs.Lexeme.{is_number, starts_number}

pub one_more : (radix : ℕ) (bytes : List ℕ) (i value : ℕ) → i < length bytes → value ≡ digits_value radix (take i bytes) → digits_value radix (take (i + 1) bytes) ≡ value * radix + digit_value (get_or bytes i 0)
one_more radix bytes i value l so_far = digits_value_more radix bytes i l ∙ ap (λ (n : ℕ). n * radix + digit_value (get_or bytes i 0)) (sym so_far)

pub front_le : (radix : ℕ) (bytes : List ℕ) (i : ℕ) → 1 ≤ radix → digits_value radix (take i bytes) ≤ digits_value radix bytes
front_le radix bytes i some = digits_value-take-le radix bytes i some

-- a decimal digit is a hexadecimal one

digit_is : (b : ℕ) → is_ascii_digit b ≡ true → is_ascii_hexdigit b ≡ true
digit_is b h = grind (arith, nat_tests)

digits_are : (bytes : List ℕ) → list_all is_ascii_digit bytes ≡ true → list_all is_ascii_hexdigit bytes ≡ true
digits_are [] h = h
digits_are (b ∷ more) h =
    let both = and_parts (is_ascii_digit b) (list_all is_ascii_digit more) h in
    and_from _ _ (digit_is b both.0) (digits_are more both.1)

pub number_digits : (bytes : List ℕ) → is_number bytes ≡ true → list_all is_ascii_hexdigit bytes ≡ true
number_digits bytes h = digits_are bytes (and_parts (starts_number bytes) _ h).1
