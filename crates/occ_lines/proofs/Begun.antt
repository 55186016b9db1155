-- Each text that does not end begins with a token, or reading stops there.
use Rattle.std.proofs.Common.{◌≡◌, ◌≤◌, ◌<◌, ◌+◌, ◌*◌, ◌==◌, ◌&&◌, ◌⊎◌, ◌∙◌, inl, inr, ℕ, zero, suc, true, cond, List, [], ◌∷◌, length, take, drop, Option, Some, None, IfSome, refl, ap, subst, arith}
use Rattle.std.specs.Char.{digit_value, is_ascii_hexdigit}
use Rattle.std.proofs.lemmas.Bool.{cases_Bool, cases_lt, cond_both, eqb-true}
use Rattle.occ_base.specs.declared.code.Code.TheVariants as code
use Rattle.occ_lines.specs.declared.ending.Ending.{Ending}
use Rattle.occ_lines.specs.declared.ending.Ending.TheVariants as ending
use Rattle.occ_lines.specs.declared.token.Token.{Token}
use Rattle.occ_lines.specs.declared.token.Token.TheVariants as t
use Rattle.occ_lines.specs.Lexeme.{IsToken, LexesFrom, Stops, after_blanks, is_end, is_lexeme, is_symbol, starts_hexadecimal, starts_name, starts_number, string_ending, token_of}
use Rattle.occ_lines.specs.Quoted.{IsQuoted, escape, escaped, is_plain, two_digits, unit, with_rest}
use Rattle.occ_lines.specs.inside.Scan.{IsLongest}
use Rattle.occ_lines.proofs.First.{first_found, first_none, first_shorter}
use Rattle.occ_lines.proofs.Longest.{hexadecimal_longest, name_longest, number_longest, symbol_longest, symbol_none, symbol_one, symbol_two}
use Rattle.occ_lines.proofs.Reading.{bad_character, bad_lexeme, blanks_le, no_close, no_unit, stop_end, whole_end}
use Rattle.occ_lines.proofs.Strings.{heads}

-- what holds of a list wherever it holds of all shorter ones holds of each
pub from_shorter : {X : Type 0} (P : List X → Type 0) → ((text : List X) → ((after : List X) → length after < length text → P after) → P text) → (n : ℕ) (text : List X) → length text ≤ n → P text
from_shorter P step zero text h = step text (λ after l. absurd (omega arith))
from_shorter P step (suc n) text h = step text (λ after l. from_shorter P step n after (omega arith))

some_or_none : {X : Type 0} (o : Option X) → (o ≡ None) ⊎ ((x : X) × (o ≡ Some x))
some_or_none None = inl refl
some_or_none (Some x) = inr (x, refl)

-- the byte stands first, with what is after it, or it does not
pub begins_with : (b : ℕ) (text : List ℕ) → ((after : List ℕ) × (text ≡ b ∷ after)) ⊎ ((after : List ℕ) → text ≡ b ∷ after → ⊥)
begins_with b [] = inr (λ after h. absurd cc)
begins_with b (a ∷ more) = elim (cases_Bool (a == b)) [
  | inl is ↦ inl (more, ap (λ (n : ℕ). n ∷ more) (eqb-true a b is))
  | inr isnt ↦ inr (λ after h. let same = heads a b more after h in absurd cc)
]

-- what is after a spelling between quotes is shorter

abbrev Within : ℕ → Option (ℕ × List ℕ) → Type 0
Within n o = IfSome o (λ x. length x.1 < n)

within_more : (n m : ℕ) (o : Option (ℕ × List ℕ)) → n ≤ m → Within n o → Within m o
within_more n m None l h = tt
within_more n m (Some x) l h = omega arith

digits_within : (text : List ℕ) → Within (length text) (two_digits text)
digits_within [] = tt
digits_within (a ∷ []) = tt
digits_within (a ∷ b ∷ rest) = cond_both (is_ascii_hexdigit a && is_ascii_hexdigit b) (Some (digit_value a * 16 + digit_value b, rest)) None (Within (length (a ∷ b ∷ rest))) (λ _. omega arith) (λ _. tt)

letter_within : (n : ℕ) (rest : List ℕ) (o : Option ℕ) → length rest < n → Within n (with_rest rest o)
letter_within n rest None h = tt
letter_within n rest (Some value) h = h

escape_within : (text : List ℕ) → Within (length text) (escape text)
escape_within [] = tt
escape_within (b ∷ rest) = cond_both (b == 35) (two_digits rest) (with_rest rest (escaped b)) (Within (length (b ∷ rest)))
    (λ _. within_more (length rest) (length (b ∷ rest)) (two_digits rest) (omega arith) (digits_within rest)) (λ _. letter_within (length (b ∷ rest)) rest (escaped b) (omega arith))

plain_within : (quote b : ℕ) (rest : List ℕ) (n : ℕ) → length rest < n → Within n (cond (is_plain quote b) (Some (b, rest)) None)
plain_within quote b rest n h = cond_both (is_plain quote b) (Some (b, rest)) None (Within n) (λ _. h) (λ _. tt)

unit_within : (quote : ℕ) (text : List ℕ) → Within (length text) (unit quote text)
unit_within quote [] = tt
unit_within quote (b ∷ rest) = cond_both (b == 42) (escape rest) (cond (is_plain quote b) (Some (b, rest)) None) (Within (length (b ∷ rest)))
    (λ _. within_more (length rest) (length (b ∷ rest)) (escape rest) (omega arith) (escape_within rest)) (λ _. plain_within quote b rest (length (b ∷ rest)) (omega arith))

unit_shorter : (quote : ℕ) (text : List ℕ) (x : ℕ × List ℕ) → unit quote text ≡ Some x → length x.1 < length text
unit_shorter quote text x h = subst (Within (length text)) h (unit_within quote text)

-- each text spells bytes between quotes, as far as it spells any
pub record Quoting (text : List ℕ) : Type 0 where
  pub values : List ℕ
  pub rest : List ℕ
  pub spelled : IsQuoted text values rest
  pub within : length rest ≤ length text

quoting_step : (text : List ℕ) → ((after : List ℕ) → length after < length text → Quoting after) → Quoting text
quoting_step text again = elim (some_or_none (unit 34 text)) [
  | inl none ↦ record { values = []; rest = text; spelled = (none, refl); within = omega arith }
  | inr some ↦
      let shorter = unit_shorter 34 text some.0 some.1 in
      let more = again some.0.1 shorter in
      record { values = some.0.0 ∷ more.values; rest = more.rest; spelled = (some.0.1, some.1, more.spelled); within = omega (arith, more.within) }
]

pub quoting : (text : List ℕ) → Quoting text
quoting text = from_shorter Quoting quoting_step (length text) text (omega arith)

-- each text begins with a longest spelling, perhaps of no byte

is_front : (text : List ℕ) (n : ℕ) → ((n ≤ length text) × (is_symbol (take n text) ≡ true)) ⊎ ((n ≤ length text) × (is_symbol (take n text) ≡ true) → ⊥)
is_front text n = elim (cases_lt (length text) n) [
  | inl short ↦ inr (λ h. let l = h.0 in absurd (omega arith))
  | inr fits ↦ elim (cases_Bool (is_symbol (take n text))) [
    | inl is ↦ inl (fits, is)
    | inr isnt ↦ inr (λ h. let e = h.1 in absurd cc)
  ]
]

symbol_len : (text : List ℕ) → (n : ℕ) × IsLongest is_symbol text n
symbol_len text = elim (is_front text 2) [
  | inl two ↦ (2, symbol_two text two)
  | inr no_two ↦ elim (is_front text 1) [
    | inl one ↦ (1, symbol_one text no_two one)
    | inr no_one ↦ (0, symbol_none text no_two no_one)
  ]
]

lexeme_len : (text : List ℕ) → (n : ℕ) × IsLongest is_lexeme text n
lexeme_len text = elim (cases_Bool (starts_name text)) [
  | inl name ↦ (_, name_longest text name)
  | inr no_name ↦ elim (cases_Bool (starts_number text)) [
    | inl number ↦ (_, number_longest text number)
    | inr no_number ↦ elim (cases_Bool (starts_hexadecimal text)) [
      | inl hexadecimal ↦ (_, hexadecimal_longest text hexadecimal)
      | inr no_hexadecimal ↦ let most = symbol_len text in (most.0, symbol_longest text most.0 no_name no_number no_hexadecimal most.1)
    ]
  ]
]

-- a token begins each text, or reading stops there

record Begun (text : List ℕ) : Type 0 where
  token : Token
  rest : List ℕ
  first : IsToken text token rest
  shorter : length rest < length text

abbrev Begins : List ℕ → Type 0
Begins text = Begun text ⊎ ((x : Ending) × Stops text x)

lexeme_begins : (text : List ℕ) → ((k : List ℕ) → text ≡ 39 ∷ k → ⊥) → ((k : List ℕ) → text ≡ 34 ∷ k → ⊥) → Begins text
lexeme_begins text no_single no_double =
    let most = lexeme_len text in
    elim (some_or_none (token_of (take most.0 text))) [
      | inl none ↦ inr (ending.Bad code.L1, bad_lexeme text no_single no_double (first_none text most.0 most.1 none))
      | inr some ↦
          let first = first_found text most.0 some.0 most.1 some.1 in
          inl (record { token = some.0; rest = drop most.0 text; first = inl first; shorter = first_shorter text some.0 (drop most.0 text) first })
    ]

character_begins : (text body : List ℕ) → text ≡ 39 ∷ body → Begins text
character_begins text body opened = elim (some_or_none (unit 39 body)) [
  | inl none ↦ inr (ending.Bad code.L1, bad_character text body opened (no_unit body none))
  | inr some ↦ elim (begins_with 39 some.0.1) [
    | inl closed ↦
        let spelled : unit 39 body ≡ Some (some.0.0, 39 ∷ closed.0) = some.1 ∙ ap (λ (r : List ℕ). Some (some.0.0, r)) closed.1 in
        let shorter = unit_shorter 39 body (some.0.0, 39 ∷ closed.0) spelled in
        inl (record {
          token = t.Character some.0.0;
          rest = closed.0;
          first = inr (inl (record { value = some.0.0; body = body; opened = opened; spelled = spelled; is = refl }));
          shorter = omega (arith, ap length opened);
        })
    | inr open_one ↦ inr (ending.Bad code.L1, bad_character text body opened (no_close body some.0.1 some.0.0 some.1 open_one))
  ]
]

string_begins : (text body : List ℕ) → text ≡ 34 ∷ body → Begins text
string_begins text body opened =
    let q = quoting body in
    elim (begins_with 34 q.rest) [
      | inl closed ↦
          let spelled : IsQuoted body q.values (34 ∷ closed.0) = subst (IsQuoted body q.values) closed.1 q.spelled in
          inl (record {
            token = t.String q.values;
            rest = closed.0;
            first = inr (inr (record { values = q.values; body = body; opened = opened; spelled = spelled; is = refl }));
            shorter = omega (arith, ap length opened, q.within, ap length closed.1);
          })
      | inr open_one ↦ inr (string_ending q.values q.rest, inl (record { values = q.values; body = body; rest = q.rest; opened = opened; spelled = q.spelled; no_close = open_one; is = refl }))
    ]

token_begins : (text : List ℕ) → Begins text
token_begins text = elim (begins_with 34 text) [
  | inl double ↦ string_begins text double.0 double.1
  | inr no_double ↦ elim (begins_with 39 text) [
    | inl single ↦ character_begins text single.0 single.1
    | inr no_single ↦ lexeme_begins text no_single no_double
  ]
]

-- each text is a list of tokens with an ending
pub record Lexing (text : List ℕ) : Type 0 where
  pub tokens : List Token
  pub end : Ending
  pub lexes : LexesFrom text tokens end

lexing_step : (text : List ℕ) → ((after : List ℕ) → length after < length text → Lexing after) → Lexing text
lexing_step text again = elim (cases_Bool (is_end text)) [
  | inl end ↦ record { tokens = []; end = ending.Whole; lexes = whole_end text end }
  | inr goes_on ↦ elim (token_begins text) [
    | inl begun ↦
        let more = again (after_blanks begun.rest) (omega (arith, blanks_le begun.rest, begun.shorter)) in
        record { tokens = begun.token ∷ more.tokens; end = more.end; lexes = (goes_on, begun.rest, begun.first, more.lexes) }
    | inr stop ↦ record { tokens = []; end = stop.0; lexes = stop_end text stop.0 goes_on stop.1 }
  ]
]

pub lexing : (text : List ℕ) → Lexing text
lexing text = from_shorter Lexing lexing_step (length text) text (omega arith)
