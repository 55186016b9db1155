-- Texts that differ in skipped lines alone spell the same lines.
use Rattle.std.proofs.Common.{◌≡◌, ◌∙◌, ◌+◌, ◌&&◌, ◌||◌, ◌==◌, inl, inr, ℕ, Bool, true, false, cond, not, List, [], ◌∷◌, ◌++◌, Option, Some, None, refl, sym, ap, subst, map}
use Rattle.std.specs.List.{filter}
use Rattle.std.specs.Str.{bytes_eq}
use Rattle.std.proofs.lemmas.Bool.{MatchBool-at_false, MatchBool-at_true, and_parts, cases_Bool, eqb-true, or_cases}
use Rattle.std.proofs.lemmas.Slice.Eq.{bytes_eq-Decides}
use Rattle.bstr.specs.Text.{lines_of, without_terminator}
use Rattle.occ_lines.specs.declared.statement.Statement.{Statement}
use Rattle.occ_lines.specs.declared.statement.Wants.{Wants}
use Rattle.occ_lines.specs.declared.statement.Wants.TheVariants as wants
use Rattle.occ_lines.specs.declared.text.Logical.{Logical}
use Rattle.occ_lines.specs.Directive.{directive_of}
use Rattle.occ_lines.specs.Lexeme.{after_blanks, is_end}
use Rattle.occ_lines.specs.Lines.{IsLines, column, continues, is_skipped, resumes, starts_star}
use Rattle.occ_lines.specs.Listing.{listed, list_of, name_on, names_on}
use Rattle.occ_lines.specs.inside.Alike.{are_alike, is_alike}
use Rattle.occ_lines.specs.inside.Walk.{AreLogical, AreRead, BreaksOff, Continues, IsFresh, IsLine, IsWanted, Resumes, Speaks, broken_off}
use Rattle.occ_lines.proofs.Cut.{cut_read, read_lines}
use Rattle.occ_lines.proofs.Lists.{lines_in, names, skips}
use Rattle.occ_lines.proofs.Reading.{other_match, same_match}

-- a skipped line is passed where no statement is open
skipped_fresh : (number : ℕ) (line other : List ℕ) (ended : List Logical) (next : Option Statement) → is_skipped line ≡ true → is_skipped other ≡ true → IsFresh number line ended next → IsFresh number other ended next
skipped_fresh number line other ended next s t h =
    same_match (is_skipped other) ((ended ≡ []) × (next ≡ None)) (Speaks (directive_of (after_blanks other)) number other ended next) t
    (MatchBool-at_true ((ended ≡ []) × (next ≡ None)) (Speaks (directive_of (after_blanks line)) number line ended next) s h)

-- no string goes on with one
end_no_star : (text : List ℕ) → is_end text ≡ true → starts_star text ≡ false
end_no_star [] h = refl
end_no_star (a ∷ []) h = absurd cc
end_no_star (a ∷ b ∷ more) h = no_star a (and_parts (a == 45) (b == 45) h).0 where
  no_star : (a : ℕ) → (a == 45) ≡ true → (a == 42) ≡ false
  no_star a h = ap (λ (b : ℕ). b == 42) (eqb-true a 45 h)

no_rest : (a b : Bool) → b ≡ false → (a && b) ≡ false
no_rest true b h = h
no_rest false b h = refl

not_resumed : (margin : ℕ) (line : List ℕ) → is_skipped line ≡ true → resumes margin line ≡ false
not_resumed margin line h = no_rest _ _ (end_no_star (after_blanks line) h)

skipped_wanted : (w : Wants) (statement : Statement) (number : ℕ) (line other : List ℕ) (ended : List Logical) (next : Option Statement) → is_skipped line ≡ true → is_skipped other ≡ true → IsWanted w statement number line ended next → IsWanted w statement number other ended next
skipped_wanted wants.More statement number line other ended next s t h =
    same_match (is_skipped other) ((ended ≡ []) × (next ≡ Some statement)) _ t (MatchBool-at_true ((ended ≡ []) × (next ≡ Some statement)) _ s h)
skipped_wanted (wants.Rest bytes) statement number line other ended next s t h =
    let off : BreaksOff (broken_off statement) number line ended next =
    MatchBool-at_false (Resumes statement.line statement.column statement.tokens bytes line ended next) (BreaksOff (broken_off statement) number line ended next) (not_resumed statement.column line s) h in
    other_match (resumes statement.column other) (Resumes statement.line statement.column statement.tokens bytes other ended next) (BreaksOff (broken_off statement) number other ended next) (not_resumed statement.column other t)
    (off.0, off.1, skipped_fresh number line other off.0 next s t off.2)

skipped_line : (o : Option Statement) (number : ℕ) (line other : List ℕ) (ended : List Logical) (next : Option Statement) → is_skipped line ≡ true → is_skipped other ≡ true → IsLine o number line ended next → IsLine o number other ended next
skipped_line None number line other ended next s t h = skipped_fresh number line other ended next s t h
skipped_line (Some statement) number line other ended next s t h = skipped_wanted statement.wants statement number line other ended next s t h

alike_line : (o : Option Statement) (number : ℕ) (line other : List ℕ) (ended : List Logical) (next : Option Statement) → is_alike line other ≡ true → IsLine o number line ended next → IsLine o number other ended next
alike_line o number line other ended next a h = elim (or_cases (bytes_eq line other) (is_skipped line && is_skipped other) a) [
  | inl same ↦ subst (λ (l : List ℕ). IsLine o number l ended next) ((bytes_eq-Decides line other).0 same) h
  | inr skipped ↦ let both = and_parts (is_skipped line) (is_skipped other) skipped in skipped_line o number line other ended next both.0 both.1 h
]

alike_lines : (o : Option Statement) (number : ℕ) (lines others : List (List ℕ)) (xs : List Logical) → are_alike lines others ≡ true → AreLogical o number lines xs → AreLogical o number others xs
alike_lines o number [] [] xs a h = h
alike_lines o number [] (other ∷ others) xs a h = absurd cc
alike_lines o number (line ∷ lines) [] xs a h = absurd cc
alike_lines o number (line ∷ lines) (other ∷ others) xs a h =
    let both = and_parts (is_alike line other) (are_alike lines others) a in
    (h.0, h.1, h.2, alike_line o number line other h.0 h.1 both.0 h.3, h.4, alike_lines h.1 (number + 1) lines others h.2 both.1 h.5)

pub same_lines : (a b : List ℕ) (xs : List Logical) → are_alike (lines_in a) (lines_in b) ≡ true → IsLines a xs → IsLines b xs
same_lines a b xs alike h = read_lines b xs (alike_lines None 1 (lines_in a) (lines_in b) xs alike (cut_read a xs h))

-- and list the same units
alike_names : (lines others : List (List ℕ)) → are_alike lines others ≡ true → names_on lines ≡ names_on others
alike_names [] [] a = refl
alike_names [] (other ∷ others) a = absurd cc
alike_names (line ∷ lines) [] a = absurd cc
alike_names (line ∷ lines) (other ∷ others) a =
    let both = and_parts (is_alike line other) (are_alike lines others) a in
    let more = alike_names lines others both.1 in
    elim (or_cases (bytes_eq line other) (is_skipped line && is_skipped other) both.0) [
      | inl same ↦ rw ((bytes_eq-Decides line other).0 same) (one other lines others more)
      | inr skipped ↦ let both_skipped = and_parts (is_skipped line) (is_skipped other) skipped in skips line lines both_skipped.0 ∙ more ∙ sym (skips other others both_skipped.1)
    ] where
      one : (line : List ℕ) (lines others : List (List ℕ)) → names_on lines ≡ names_on others → names_on (line ∷ lines) ≡ names_on (line ∷ others)
      one line lines others more = elim (cases_Bool (is_skipped line)) [
        | inl skipped ↦ skips line lines skipped ∙ more ∙ sym (skips line others skipped)
        | inr spoken ↦ names line lines spoken ∙ ap (λ (ns : List (List ℕ)). name_on line ∷ ns) more ∙ sym (names line others spoken)
      ]

pub same_list : (a b : List ℕ) → are_alike (lines_in a) (lines_in b) ≡ true → listed a ≡ listed b
unfolding listed
same_list a b alike = ap list_of (alike_names (lines_in a) (lines_in b) alike)
