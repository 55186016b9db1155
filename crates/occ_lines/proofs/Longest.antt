-- The longest spelling that begins a text.
use Rattle.std.proofs.Common.{◌≡◌, ◌≤◌, ◌<◌, ◌&&◌, ◌==◌, ◌||◌, ◌+◌, ◌⊎◌, inl, inr, ℕ, suc, Bool, true, false, not, nat_le, List, [], ◌∷◌, ◌++◌, length, take, drop, refl, sym, ap, subst, ◌∙◌, arith, take-append-drop}
use Rattle.std.specs.Char.{is_ascii_alphabetic, is_ascii_digit, is_ascii_hexdigit}
use Rattle.std.specs.List.{list_all, prefix_len}
use Rattle.std.specs.Option.{is_some}
use Rattle.std.specs.Str.{bytes_eq}
use Rattle.std.proofs.lemmas.Bool.{and_parts, and_from, eqb-true, cases_Bool, cases_lt, leb-true, not-true, or_cases, or_left, or_right, false≢true, cond-true, cond-false}
use Rattle.std.proofs.lemmas.Bool.Decides.{nat_tests}
use Rattle.std.proofs.lemmas.Slice.Eq.{bytes_eq-Decides}
use Rattle.std.proofs.lemmas.List.Sums.{prefix_len-le-length}
use Rattle.std.proofs.lemmas.List.Folds.{length-prefix_len}
use Rattle.std.proofs.lemmas.List.Prefix.{front_fits}
use Rattle.std.proofs.lemmas.List.{take_at}
use Rattle.occ_lines.specs.Lexeme.{found_in, is_hexadecimal, is_lexeme, is_name, is_name_byte, is_number, is_symbol, starts_hexadecimal, starts_name, starts_number, symbol_row, symbols}
use Rattle.occ_lines.specs.inside.Scan.{IsLongest}

-- bytes of one class in front

front_passes : (p : ℕ → Bool) (xs : List ℕ) → list_all p (take (prefix_len p xs) xs) ≡ true
front_passes p [] = refl
front_passes p (x ∷ xs) = elim (cases_Bool (p x)) [
  | inl is ↦
      let n : prefix_len p (x ∷ xs) ≡ suc (prefix_len p xs) = cond-true _ _ _ is ∙ omega arith in
      rw n (rw is (front_passes p xs))
  | inr isnt ↦
      let n : prefix_len p (x ∷ xs) ≡ 0 = cond-false _ _ _ isnt in
      rw n refl
]

front_holds : (p : ℕ → Bool) (xs ys : List ℕ) → list_all p xs ≡ true → length xs ≤ prefix_len p (xs ++ ys)
front_holds p [] ys h = omega arith
front_holds p (x ∷ xs) ys h =
    let both = and_parts (p x) (list_all p xs) h in
    let n : prefix_len p (x ∷ (xs ++ ys)) ≡ suc (prefix_len p (xs ++ ys)) = cond-true _ _ _ both.0 ∙ omega arith in
    rw n (omega (arith, front_holds p xs ys both.1))

-- what every spelling of a table is like

of_table : {X : Type 0} (q : List ℕ → Bool) (rows : List (List ℕ × X)) → list_all (λ row. q row.0) rows ≡ true → (bytes : List ℕ) → is_some (found_in rows bytes) ≡ true → q bytes ≡ true
of_table q [] all bytes found = absurd (false≢true found)
of_table q (row ∷ rows) all bytes found =
    let both = and_parts (q row.0) (list_all (λ r. q r.0) rows) all in
    elim (cases_Bool (bytes_eq row.0 bytes)) [
      | inl is ↦ let same : row.0 ≡ bytes = (bytes_eq-Decides row.0 bytes).0 is in subst (λ (b : List ℕ). q b ≡ true) same both.0
      | inr isnt ↦ of_table q rows both.1 bytes (rw (cond-false _ _ _ isnt) at found)
    ]

-- a '#' or a quote
unfoldable pub starts_mark : List ℕ → Bool
starts_mark [] = false
starts_mark (b ∷ more) = b == 35 || (b == 34 || b == 39)

abbrev looks_symbol : List ℕ → Bool
looks_symbol bytes = (nat_le 1 (length bytes) && nat_le (length bytes) 2) && (not (starts_name bytes) && (not (starts_number bytes) && not (starts_mark bytes)))

symbol_looks : (bytes : List ℕ) → is_symbol bytes ≡ true → looks_symbol bytes ≡ true
unfolding is_symbol symbol_row starts_mark
symbol_looks bytes h = of_table looks_symbol symbols refl bytes h

record Looks (bytes : List ℕ) : Type 0 where
  some : 1 ≤ length bytes
  short : length bytes ≤ 2
  no_name : starts_name bytes ≡ false
  no_number : starts_number bytes ≡ false
  no_mark : starts_mark bytes ≡ false

looks : (bytes : List ℕ) → is_symbol bytes ≡ true → Looks bytes
looks bytes h =
    let both = and_parts _ _ (symbol_looks bytes h) in
    let sizes = and_parts (nat_le 1 (length bytes)) (nat_le (length bytes) 2) both.0 in
    let starts = and_parts (not (starts_name bytes)) _ both.1 in
    let more = and_parts (not (starts_number bytes)) (not (starts_mark bytes)) starts.1 in
    record {
      some = leb-true _ _ sizes.0;
      short = leb-true _ _ sizes.1;
      no_name = not-true _ starts.0;
      no_number = not-true _ more.0;
      no_mark = not-true _ more.1;
    }

no_marked : (b : ℕ) (more : List ℕ) → starts_mark (b ∷ more) ≡ true → is_symbol (b ∷ more) ≡ true → ⊥
no_marked b more mark h = false≢true (sym (looks (b ∷ more) h).no_mark ∙ mark)

mark_of : (b : ℕ) (xs ys : List ℕ) → starts_mark (b ∷ xs) ≡ true → starts_mark (b ∷ ys) ≡ true
unfolding starts_mark
mark_of b xs ys h = h

-- symbols

in_front : (text other after : List ℕ) (n : ℕ) → text ≡ other ++ after → is_symbol other ≡ true → length other ≡ n → (n ≤ length text) × (is_symbol (take n text) ≡ true)
in_front text other after n parts h size =
    let fits : length other ≤ length text = front_fits text other after parts in
    let same : take n text ≡ other = ap (take n) parts ∙ take_at other after n size in
    (omega arith, rw same h)

pub symbol_two : (text : List ℕ) → (2 ≤ length text) × (is_symbol (take 2 text) ≡ true) → IsLongest is_symbol text 2
symbol_two text h = record { within = h.0; passed = λ _. h.1; longest = λ other after parts s. (looks other s).short }

pub symbol_one : (text : List ℕ) → ((2 ≤ length text) × (is_symbol (take 2 text) ≡ true) → ⊥) → (1 ≤ length text) × (is_symbol (take 1 text) ≡ true) → IsLongest is_symbol text 1
symbol_one text no_two h = record {
  within = h.0;
  passed = λ _. h.1;
  longest = λ other after parts s. elim (cases_lt 1 (length other)) [
    | inl more ↦
        let short = (looks other s).short in
        absurd (no_two (in_front text other after 2 parts s (omega arith)))
    | inr less ↦ less
  ];
}

pub symbol_none : (text : List ℕ) → ((2 ≤ length text) × (is_symbol (take 2 text) ≡ true) → ⊥) → ((1 ≤ length text) × (is_symbol (take 1 text) ≡ true) → ⊥) → IsLongest is_symbol text 0
symbol_none text no_two no_one = record {
  within = omega arith;
  passed = λ h. absurd (omega arith);
  longest = λ other after parts s. elim (cases_lt 1 (length other)) [
    | inl more ↦
        let short = (looks other s).short in
        absurd (no_two (in_front text other after 2 parts s (omega arith)))
    | inr less ↦
        let some = (looks other s).some in
        absurd (no_one (in_front text other after 1 parts s (omega arith)))
  ];
}

-- every spelling

-- a spelling begins as its class does
abbrev Begins : List ℕ → Type 0
Begins bytes = ((starts_name bytes ≡ true) × (list_all is_name_byte bytes ≡ true)) ⊎ (((starts_number bytes ≡ true) × (list_all is_ascii_digit bytes ≡ true))
    ⊎ (((starts_hexadecimal bytes ≡ true) × (list_all is_ascii_hexdigit (drop 1 bytes) ≡ true)) ⊎ (is_symbol bytes ≡ true)))

begins : (bytes : List ℕ) → is_lexeme bytes ≡ true → Begins bytes
unfolding is_lexeme
begins bytes h = elim (or_cases (is_name bytes) _ h) [
  | inl name ↦ inl (and_parts (starts_name bytes) _ name)
  | inr other ↦ elim (or_cases (is_number bytes) _ other) [
    | inl number ↦ inr (inl (and_parts (starts_number bytes) _ number))
    | inr rest ↦ elim (or_cases (is_hexadecimal bytes) _ rest) [
      | inl hexadecimal ↦ inr (inr (inl (and_parts (starts_hexadecimal bytes) _ hexadecimal)))
      | inr symbol ↦ inr (inr (inr symbol))
    ]
  ]
]

-- what begins with a '#' is no name and no number
record IsMarked (bytes : List ℕ) : Type 0 where
  no_name : starts_name bytes ≡ false
  no_number : starts_number bytes ≡ false
  mark : starts_mark bytes ≡ true

hash_marks : (a : ℕ) (more : List ℕ) → a ≡ 35 → IsMarked (a ∷ more)
unfolding starts_mark
hash_marks a more is = subst (λ (n : ℕ). IsMarked (n ∷ more)) (sym is) (record { no_name = refl; no_number = refl; mark = refl })

hexadecimal_marks : (bytes : List ℕ) → starts_hexadecimal bytes ≡ true → IsMarked bytes
hexadecimal_marks [] h = absurd (false≢true h)
hexadecimal_marks (a ∷ []) h = absurd (false≢true h)
hexadecimal_marks (a ∷ b ∷ more) h = hash_marks a (b ∷ more) (eqb-true a 35 (and_parts (a == 35) _ h).0)

hexadecimal_starts : (text other after : List ℕ) → text ≡ other ++ after → starts_hexadecimal other ≡ true → starts_hexadecimal text ≡ true
hexadecimal_starts text [] after parts h = absurd (false≢true h)
hexadecimal_starts text (a ∷ []) after parts h = absurd (false≢true h)
hexadecimal_starts text (a ∷ b ∷ more) after parts h = ap starts_hexadecimal parts ∙ h

digit_no_letter : (b : ℕ) → is_ascii_digit b ≡ true → is_ascii_alphabetic b ≡ false
digit_no_letter b h = grind (arith, nat_tests)

letter_in_name : (b : ℕ) → is_ascii_alphabetic b ≡ true → is_name_byte b ≡ true
letter_in_name b h = grind (arith, nat_tests)

number_no_name : (bytes : List ℕ) → starts_number bytes ≡ true → starts_name bytes ≡ false
number_no_name [] h = refl
number_no_name (b ∷ more) h = digit_no_letter b h

-- a front that has a byte begins as its text does
name_starts : (text other after : List ℕ) → text ≡ other ++ after → 0 < length other → starts_name other ≡ starts_name text
name_starts text [] after parts h = absurd (omega arith)
name_starts text (b ∷ more) after parts h = sym (ap starts_name parts)

number_starts : (text other after : List ℕ) → text ≡ other ++ after → 0 < length other → starts_number other ≡ starts_number text
number_starts text [] after parts h = absurd (omega arith)
number_starts text (b ∷ more) after parts h = sym (ap starts_number parts)

pub is_lexeme_name : (bytes : List ℕ) → is_name bytes ≡ true → is_lexeme bytes ≡ true
unfolding is_lexeme
is_lexeme_name bytes h = or_left _ _ h

pub is_lexeme_number : (bytes : List ℕ) → is_number bytes ≡ true → is_lexeme bytes ≡ true
unfolding is_lexeme
is_lexeme_number bytes h = or_right (is_name bytes) _ (or_left _ _ h)

pub is_lexeme_hexadecimal : (bytes : List ℕ) → is_hexadecimal bytes ≡ true → is_lexeme bytes ≡ true
unfolding is_lexeme
is_lexeme_hexadecimal bytes h = or_right (is_name bytes) _ (or_right (is_number bytes) _ (or_left _ _ h))

pub is_lexeme_symbol : (bytes : List ℕ) → is_symbol bytes ≡ true → is_lexeme bytes ≡ true
unfolding is_lexeme
is_lexeme_symbol bytes h = or_right (is_name bytes) _ (or_right (is_number bytes) _ (or_right (is_hexadecimal bytes) _ h))

-- of a spelling the first bytes say which it is
pub told_name : (bytes : List ℕ) → (0 < length bytes → is_lexeme bytes ≡ true) → starts_name bytes ≡ true → is_name bytes ≡ true
told_name [] h s = absurd (false≢true s)
told_name (b ∷ more) h s = elim (begins (b ∷ more) (h (omega arith))) [
  | inl name ↦ and_from _ _ name.0 name.1
  | inr rest ↦ elim rest [
    | inl number ↦ let e = number_no_name (b ∷ more) number.0 in absurd cc
    | inr last ↦ elim last [
      | inl hexadecimal ↦ let e = (hexadecimal_marks (b ∷ more) hexadecimal.0).no_name in absurd cc
      | inr symbol ↦ let e = (looks (b ∷ more) symbol).no_name in absurd cc
    ]
  ]
]

pub told_number : (bytes : List ℕ) → (0 < length bytes → is_lexeme bytes ≡ true) → starts_number bytes ≡ true → is_number bytes ≡ true
told_number [] h s = absurd (false≢true s)
told_number (b ∷ more) h s = elim (begins (b ∷ more) (h (omega arith))) [
  | inl name ↦ let e = number_no_name (b ∷ more) s in let f = name.0 in absurd cc
  | inr rest ↦ elim rest [
    | inl number ↦ and_from _ _ number.0 number.1
    | inr last ↦ elim last [
      | inl hexadecimal ↦ let e = (hexadecimal_marks (b ∷ more) hexadecimal.0).no_number in absurd cc
      | inr symbol ↦ let e = (looks (b ∷ more) symbol).no_number in absurd cc
    ]
  ]
]

pub told_hexadecimal : (bytes : List ℕ) → (0 < length bytes → is_lexeme bytes ≡ true) → starts_hexadecimal bytes ≡ true → is_hexadecimal bytes ≡ true
told_hexadecimal [] h s = absurd (false≢true s)
told_hexadecimal (b ∷ more) h s =
    let marks = hexadecimal_marks (b ∷ more) s in
    elim (begins (b ∷ more) (h (omega arith))) [
      | inl name ↦ let e = marks.no_name in let f = name.0 in absurd cc
      | inr rest ↦ elim rest [
        | inl number ↦ let e = marks.no_number in let f = number.0 in absurd cc
        | inr last ↦ elim last [
          | inl hexadecimal ↦ and_from _ _ hexadecimal.0 hexadecimal.1
          | inr symbol ↦ absurd (no_marked b more marks.mark symbol)
        ]
      ]
    ]

pub name_longest : (text : List ℕ) → starts_name text ≡ true → IsLongest is_lexeme text (prefix_len is_name_byte text)
name_longest text starts = record {
  within = prefix_len-le-length is_name_byte text;
  passed = λ some.
      let front = take (prefix_len is_name_byte text) text in
      let size : length front ≡ prefix_len is_name_byte text = length-prefix_len is_name_byte text in
      let begin : starts_name front ≡ true = name_starts text front (drop (prefix_len is_name_byte text) text) (sym (take-append-drop (prefix_len is_name_byte text) text)) (omega arith) ∙ starts in
      is_lexeme_name front (and_from _ _ begin (front_passes is_name_byte text));
  longest = λ other after parts h. elim (cases_lt 0 (length other)) [
    | inl some ↦
        let begin : starts_name other ≡ true = name_starts text other after parts some ∙ starts in
        elim (begins other h) [
          | inl name ↦ rw parts (front_holds is_name_byte other after name.1)
          | inr rest ↦ elim rest [
            | inl number ↦ let e = number_no_name other number.0 in absurd cc
            | inr last ↦ elim last [
              | inl hexadecimal ↦ let e = (hexadecimal_marks other hexadecimal.0).no_name in absurd cc
              | inr symbol ↦ let e = (looks other symbol).no_name in absurd cc
            ]
          ]
        ]
    | inr none ↦ omega arith
  ];
}

pub number_longest : (text : List ℕ) → starts_number text ≡ true → IsLongest is_lexeme text (prefix_len is_ascii_digit text)
number_longest text starts = record {
  within = prefix_len-le-length is_ascii_digit text;
  passed = λ some.
      let front = take (prefix_len is_ascii_digit text) text in
      let size : length front ≡ prefix_len is_ascii_digit text = length-prefix_len is_ascii_digit text in
      let begin : starts_number front ≡ true = number_starts text front (drop (prefix_len is_ascii_digit text) text) (sym (take-append-drop (prefix_len is_ascii_digit text) text)) (omega arith) ∙ starts in
      is_lexeme_number front (and_from _ _ begin (front_passes is_ascii_digit text));
  longest = λ other after parts h. elim (cases_lt 0 (length other)) [
    | inl some ↦
        let begin : starts_number other ≡ true = number_starts text other after parts some ∙ starts in
        elim (begins other h) [
          | inl name ↦ let e = number_no_name other begin in let f = name.0 in absurd cc
          | inr rest ↦ elim rest [
            | inl number ↦ rw parts (front_holds is_ascii_digit other after number.1)
            | inr last ↦ elim last [
              | inl hexadecimal ↦ let e = (hexadecimal_marks other hexadecimal.0).no_number in absurd cc
              | inr symbol ↦ let e = (looks other symbol).no_number in absurd cc
            ]
          ]
        ]
    | inr none ↦ omega arith
  ];
}

hexadecimal_front : (b : ℕ) (more : List ℕ) → is_ascii_hexdigit b ≡ true → (n : ℕ) × (prefix_len is_ascii_hexdigit (b ∷ more) ≡ suc n)
hexadecimal_front b more h = (prefix_len is_ascii_hexdigit more, cond-true _ _ _ h ∙ omega arith)

hexadecimal_passes : (a : ℕ) (rest : List ℕ) → starts_hexadecimal (a ∷ rest) ≡ true → is_hexadecimal (a ∷ take (prefix_len is_ascii_hexdigit rest) rest) ≡ true
hexadecimal_passes a [] h = absurd (false≢true h)
hexadecimal_passes a (b ∷ more) h =
    let both = and_parts (a == 35) (is_ascii_hexdigit b) h in
    let n = hexadecimal_front b more both.1 in
    let all = front_passes is_ascii_hexdigit (b ∷ more) in
    let all' : list_all is_ascii_hexdigit (b ∷ take n.0 more) ≡ true = subst (λ (m : ℕ). list_all is_ascii_hexdigit (take m (b ∷ more)) ≡ true) n.1 all in
    subst (λ (m : ℕ). is_hexadecimal (a ∷ take m (b ∷ more)) ≡ true) (sym n.1) (and_from _ _ h all')

hexadecimal_most : (a : ℕ) (rest other after : List ℕ) → starts_hexadecimal (a ∷ rest) ≡ true → a ∷ rest ≡ other ++ after → is_lexeme other ≡ true → length other ≤ 1 + prefix_len is_ascii_hexdigit rest
hexadecimal_most a rest [] after starts parts h = omega arith
hexadecimal_most a rest (o ∷ os) after starts parts h =
    let marks = hexadecimal_marks (a ∷ rest) starts in
    let same : o ≡ a = cc in
    let tail : rest ≡ os ++ after = cc in
    elim (begins (o ∷ os) h) [
      | inl name ↦ let e : starts_name (a ∷ rest) ≡ true = ap is_ascii_alphabetic (sym same) ∙ name.0 in let f = marks.no_name in absurd cc
      | inr more ↦ elim more [
        | inl number ↦ let e : starts_number (a ∷ rest) ≡ true = ap is_ascii_digit (sym same) ∙ number.0 in let f = marks.no_number in absurd cc
        | inr last ↦ elim last [
          | inl hexadecimal ↦ let fits = front_holds is_ascii_hexdigit os after hexadecimal.1 in rw tail (omega arith)
          | inr symbol ↦ absurd (no_marked o os (subst (λ (n : ℕ). starts_mark (n ∷ os) ≡ true) (sym same) (mark_of a rest os marks.mark)) symbol)
        ]
      ]
    ]

pub hexadecimal_longest : (text : List ℕ) → starts_hexadecimal text ≡ true → IsLongest is_lexeme text (1 + prefix_len is_ascii_hexdigit (drop 1 text))
hexadecimal_longest [] starts = absurd (false≢true starts)
hexadecimal_longest (a ∷ rest) starts = record {
  within = omega (arith, prefix_len-le-length is_ascii_hexdigit rest);
  passed = λ some.
      let is : 1 + prefix_len is_ascii_hexdigit rest ≡ suc (prefix_len is_ascii_hexdigit rest) = omega arith in
      subst (λ (m : ℕ). is_lexeme (take m (a ∷ rest)) ≡ true) (sym is) (is_lexeme_hexadecimal _ (hexadecimal_passes a rest starts));
  longest = λ other after parts h. hexadecimal_most a rest other after starts parts h;
}

pub symbol_longest : (text : List ℕ) (n : ℕ) → starts_name text ≡ false → starts_number text ≡ false → starts_hexadecimal text ≡ false → IsLongest is_symbol text n → IsLongest is_lexeme text n
symbol_longest text n no_name no_number no_hexadecimal most = record {
  within = most.within;
  passed = λ some. is_lexeme_symbol _ (most.passed some);
  longest = λ other after parts h. elim (cases_lt 0 (length other)) [
    | inl some ↦ elim (begins other h) [
      | inl name ↦ let e = name_starts text other after parts some in let f = name.0 in absurd cc
      | inr rest ↦ elim rest [
        | inl number ↦ let e = number_starts text other after parts some in let f = number.0 in absurd cc
        | inr last ↦ elim last [
          | inl hexadecimal ↦ let e = hexadecimal_starts text other after parts hexadecimal.0 in absurd cc
          | inr symbol ↦ most.longest other after parts symbol
        ]
      ]
    ]
    | inr none ↦ omega arith
  ];
}

-- nothing is no spelling, and none begins with a quote

pub no_lexeme_empty : is_lexeme [] ≡ true → ⊥
no_lexeme_empty h = elim (begins [] h) [
  | inl name ↦ false≢true name.0
  | inr rest ↦ elim rest [
    | inl number ↦ false≢true number.0
    | inr last ↦ elim last [
      | inl hexadecimal ↦ false≢true hexadecimal.0
      | inr symbol ↦ let some = (looks [] symbol).some in absurd (omega arith)
    ]
  ]
]

record IsQuote (b : ℕ) : Type 0 where
  no_letter : is_ascii_alphabetic b ≡ false
  no_digit : is_ascii_digit b ≡ false
  no_hash : (b == 35) ≡ false
  mark : (more : List ℕ) → starts_mark (b ∷ more) ≡ true

single : IsQuote 39
unfolding starts_mark
single = record { no_letter = refl; no_digit = refl; no_hash = refl; mark = λ more. refl }

double : IsQuote 34
unfolding starts_mark
double = record { no_letter = refl; no_digit = refl; no_hash = refl; mark = λ more. refl }

no_hexadecimal : (b : ℕ) (more : List ℕ) → IsQuote b → starts_hexadecimal (b ∷ more) ≡ true → ⊥
no_hexadecimal b [] q h = false≢true h
no_hexadecimal b (c ∷ more) q h = let e = (and_parts (b == 35) _ h).0 in let f = q.no_hash in absurd cc

no_quoted : (b : ℕ) (more : List ℕ) → IsQuote b → is_lexeme (b ∷ more) ≡ true → ⊥
no_quoted b more q h = elim (begins (b ∷ more) h) [
  | inl name ↦ false≢true (sym q.no_letter ∙ name.0)
  | inr rest ↦ elim rest [
    | inl number ↦ false≢true (sym q.no_digit ∙ number.0)
    | inr last ↦ elim last [
      | inl hexadecimal ↦ no_hexadecimal b more q hexadecimal.0
      | inr symbol ↦ no_marked b more (q.mark more) symbol
    ]
  ]
]

no_quote : (q : ℕ) (more bytes rest : List ℕ) → IsQuote q → q ∷ more ≡ bytes ++ rest → is_lexeme bytes ≡ true → ⊥
no_quote q more [] rest is parts h = no_lexeme_empty h
no_quote q more (b ∷ bytes) rest is parts h = let same : q ≡ b = cc in no_quoted b bytes (subst IsQuote same is) h

pub no_single : (more bytes rest : List ℕ) → 39 ∷ more ≡ bytes ++ rest → is_lexeme bytes ≡ true → ⊥
no_single more bytes rest parts h = no_quote 39 more bytes rest single parts h

pub no_double : (more bytes rest : List ℕ) → 34 ∷ more ≡ bytes ++ rest → is_lexeme bytes ≡ true → ⊥
no_double more bytes rest parts h = no_quote 34 more bytes rest double parts h
