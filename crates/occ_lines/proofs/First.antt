-- The first token of a text, and that there is one at most.
use Rattle.std.proofs.Common.{◌≡◌, ◌<◌, ◌+◌, inl, inr, ℕ, true, List, [], ◌∷◌, ◌++◌, length, take, drop, Option, Some, None, refl, sym, ap, ◌∙◌, arith, length-take, length-append, take-append-drop}
use Rattle.std.specs.Option.{is_some}
use Rattle.std.proofs.lemmas.Bool.{cases_Bool, cond-false}
use Rattle.std.proofs.lemmas.List.{take_at, drop_at}
use Rattle.occ_lines.specs.declared.token.Symbol.{Symbol}
use Rattle.occ_lines.specs.declared.token.Token.{Token}
use Rattle.occ_lines.specs.Lexeme.{IsFirst, is_hexadecimal, is_lexeme, is_name, is_number, is_symbol, symbol_by_row, symbol_row, symbol_token, token_of}
use Rattle.occ_lines.specs.inside.Scan.{IsLongest}
use Rattle.occ_lines.proofs.Longest.{is_lexeme_hexadecimal, is_lexeme_name, is_lexeme_number, is_lexeme_symbol, no_double, no_lexeme_empty, no_single}

-- what is a token is a lexeme

row_some : (row : Option Symbol) (token : Token) → symbol_by_row row ≡ Some token → is_some row ≡ true
row_some None token h = absurd cc
row_some (Some x) token h = refl

symbol_is : (bytes : List ℕ) (token : Token) → symbol_token bytes ≡ Some token → is_symbol bytes ≡ true
unfolding symbol_token is_symbol
symbol_is bytes token h = row_some (symbol_row bytes) token h

token_is : (bytes : List ℕ) (token : Token) → token_of bytes ≡ Some token → is_lexeme bytes ≡ true
unfolding token_of
token_is bytes token h = elim (cases_Bool (is_name bytes)) [
  | inl name ↦ is_lexeme_name bytes name
  | inr no_name ↦ elim (cases_Bool (is_number bytes)) [
    | inl number ↦ is_lexeme_number bytes number
    | inr no_number ↦ elim (cases_Bool (is_hexadecimal bytes)) [
      | inl hexadecimal ↦ is_lexeme_hexadecimal bytes hexadecimal
      | inr no_hexadecimal ↦ is_lexeme_symbol bytes (symbol_is bytes token (sym (cond-false _ _ _ no_name ∙ cond-false _ _ _ no_number ∙ cond-false _ _ _ no_hexadecimal) ∙ h))
    ]
  ]
]

some_bytes : (bytes : List ℕ) → is_lexeme bytes ≡ true → 0 < length bytes
some_bytes [] h = absurd (no_lexeme_empty h)
some_bytes (b ∷ more) h = omega arith

-- two fronts of one length are one
same_front : (a b x y : List ℕ) → a ++ x ≡ b ++ y → length a ≡ length b → (a ≡ b) × (x ≡ y)
same_front a b x y e n =
    let front : a ≡ b = sym (take_at a x (length b) n) ∙ ap (take (length b)) e ∙ take_at b y (length b) refl in
    let end : x ≡ y = sym (drop_at a x (length b) n) ∙ ap (drop (length b)) e ∙ drop_at b y (length b) refl in
    (front, end)

pub front_spelled : (text : List ℕ) (n : ℕ) → IsLongest is_lexeme text n → 0 < length (take n text) → is_lexeme (take n text) ≡ true
front_spelled text n most some = most.passed (omega (arith, length-take n text, some))

pub first_found : (text : List ℕ) (n : ℕ) (token : Token) → IsLongest is_lexeme text n → token_of (take n text) ≡ Some token → IsFirst text token (drop n text)
first_found text n token most is =
    let size : length (take n text) ≡ n = omega (arith, length-take n text, most.within) in
    record {
      bytes = take n text;
      parts = sym (take-append-drop n text);
      spelled = is;
      longest = λ other after parts h. rw size (most.longest other after parts h);
    }

pub first_shorter : (text : List ℕ) (token : Token) (rest : List ℕ) → IsFirst text token rest → length rest < length text
first_shorter text token rest f =
    let some = some_bytes f.bytes (token_is f.bytes token f.spelled) in
    let sizes : length text ≡ length f.bytes + length rest = ap length f.parts ∙ length-append f.bytes rest in
    omega arith

pub first_none : (text : List ℕ) (n : ℕ) → IsLongest is_lexeme text n → token_of (take n text) ≡ None → (token : Token) (rest : List ℕ) → IsFirst text token rest → ⊥
first_none text n most none token rest f =
    let lexeme = token_is f.bytes token f.spelled in
    let some = some_bytes f.bytes lexeme in
    let low = most.longest f.bytes rest f.parts lexeme in
    let size : length (take n text) ≡ n = omega (arith, length-take n text, most.within) in
    let high = f.longest (take n text) (drop n text) (sym (take-append-drop n text)) (most.passed (omega arith)) in
    let same = same_front (take n text) f.bytes (drop n text) rest (take-append-drop n text ∙ f.parts) (omega arith) in
    let is : token_of (take n text) ≡ Some token = ap token_of same.0 ∙ f.spelled in
    absurd cc

pub first_same : (text : List ℕ) (a b : Token) (x y : List ℕ) → IsFirst text a x → IsFirst text b y → (a ≡ b) × (x ≡ y)
first_same text a b x y f g =
    let low = f.longest g.bytes y g.parts (token_is g.bytes b g.spelled) in
    let high = g.longest f.bytes x f.parts (token_is f.bytes a f.spelled) in
    let same = same_front f.bytes g.bytes x y (sym f.parts ∙ g.parts) (omega arith) in
    let is : Some a ≡ Some b = sym f.spelled ∙ ap token_of same.0 ∙ g.spelled in
    (cc, same.1)

-- quotes

pub first_no_character : (text : List ℕ) (token : Token) (rest body : List ℕ) → IsFirst text token rest → text ≡ 39 ∷ body → ⊥
first_no_character text token rest body f opened = no_single body f.bytes rest (sym opened ∙ f.parts) (token_is f.bytes token f.spelled)

pub first_no_string : (text : List ℕ) (token : Token) (rest body : List ℕ) → IsFirst text token rest → text ≡ 34 ∷ body → ⊥
first_no_string text token rest body f opened = no_double body f.bytes rest (sym opened ∙ f.parts) (token_is f.bytes token f.spelled)
