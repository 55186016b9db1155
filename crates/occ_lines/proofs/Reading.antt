-- Tokens one after the other.
use Rattle.std.proofs.Common.{◌≡◌, ◌≤◌, ◌<◌, ℕ, Bool, true, false, List, [], ◌∷◌, ◌++◌, length, Some, None, refl, sym, ap, subst, ◌∙◌, arith, append_assoc, inl, inr}
use Rattle.std.specs.Bool.{MatchBool}
use Rattle.std.proofs.lemmas.List.{append-nil}
use Rattle.std.proofs.lemmas.Bool.{MatchBool-at_false, MatchBool-at_true, cases_Bool, false≢true, cond-true, cond-false}
use Rattle.occ_base.specs.declared.code.Code.TheVariants as code
use Rattle.occ_lines.specs.declared.ending.Ending.{Ending}
use Rattle.occ_lines.specs.declared.ending.Ending.TheVariants as ending
use Rattle.occ_lines.specs.declared.token.Token.{Token}
use Rattle.occ_lines.specs.declared.token.Token.TheVariants as t
use Rattle.occ_lines.specs.Lexeme.{Ends, IsCharacter, IsFirst, IsOpen, IsString, IsToken, LexesFrom, Stops, after_blanks, is_blank, is_end, string_ending}
use Rattle.occ_lines.specs.Quoted.{IsQuoted, unit}
use Rattle.occ_lines.specs.inside.Scan.{IsRead}
use Rattle.occ_lines.proofs.First.{first_no_character, first_no_string, first_same}
use Rattle.occ_lines.proofs.Strings.{heads, one_quoted, one_unit, tails}

-- one token begins a text at most

no_quotes : (xs ys text : List ℕ) → text ≡ 39 ∷ xs → text ≡ 34 ∷ ys → ⊥
no_quotes xs ys text h k = false≢true (heads 39 34 xs ys (sym h ∙ k))

same_character : (text : List ℕ) (a b : Token) (x y : List ℕ) → IsCharacter text a x → IsCharacter text b y → (a ≡ b) × (x ≡ y)
same_character text a b x y f g =
    let body : f.body ≡ g.body = tails 39 39 f.body g.body (sym f.opened ∙ g.opened) in
    let same = one_unit _ _ f.value g.value (39 ∷ x) (39 ∷ y) f.spelled g.spelled (ap (unit 39) body) in
    (f.is ∙ ap (λ (n : ℕ). t.Character n) same.0 ∙ sym g.is, tails 39 39 x y same.1)

same_quoted : (text : List ℕ) (a b vs ws x y : List ℕ) → text ≡ 34 ∷ a → text ≡ 34 ∷ b → IsQuoted a vs x → IsQuoted b ws y → (vs ≡ ws) × (x ≡ y)
same_quoted text a b vs ws x y h k f g =
    let body : a ≡ b = tails 34 34 a b (sym h ∙ k) in
    one_quoted b vs ws x y (subst (λ (s : List ℕ). IsQuoted s vs x) body f) g

same_string : (text : List ℕ) (a b : Token) (x y : List ℕ) → IsString text a x → IsString text b y → (a ≡ b) × (x ≡ y)
same_string text a b x y f g =
    let same = same_quoted text f.body g.body f.values g.values (34 ∷ x) (34 ∷ y) f.opened g.opened f.spelled g.spelled in
    (f.is ∙ ap (λ (vs : List ℕ). t.String vs) same.0 ∙ sym g.is, tails 34 34 x y same.1)

pub same_token : (text : List ℕ) (a b : Token) (x y : List ℕ) → IsToken text a x → IsToken text b y → (a ≡ b) × (x ≡ y)
same_token text a b x y (inl f) (inl g) = first_same text a b x y f g
same_token text a b x y (inl f) (inr (inl g)) = absurd (first_no_character text a x g.body f g.opened)
same_token text a b x y (inl f) (inr (inr g)) = absurd (first_no_string text a x g.body f g.opened)
same_token text a b x y (inr (inl f)) (inl g) = absurd (first_no_character text b y f.body g f.opened)
same_token text a b x y (inr (inl f)) (inr (inl g)) = same_character text a b x y f g
same_token text a b x y (inr (inl f)) (inr (inr g)) = absurd (no_quotes f.body g.body text f.opened g.opened)
same_token text a b x y (inr (inr f)) (inl g) = absurd (first_no_string text b y f.body g f.opened)
same_token text a b x y (inr (inr f)) (inr (inl g)) = absurd (no_quotes g.body f.body text g.opened f.opened)
same_token text a b x y (inr (inr f)) (inr (inr g)) = same_string text a b x y f g

-- where reading stops no token begins

open_none : (text : List ℕ) (x : Ending) (token : Token) (rest : List ℕ) → IsOpen text x → IsToken text token rest → ⊥
open_none text x token rest f (inl g) = first_no_string text token rest f.body g f.opened
open_none text x token rest f (inr (inl g)) = no_quotes g.body f.body text g.opened f.opened
open_none text x token rest f (inr (inr g)) = f.no_close rest (same_quoted text f.body g.body f.values g.values f.rest (34 ∷ rest) f.opened g.opened f.spelled g.spelled).1

pub stops_none : (text : List ℕ) (x : Ending) (token : Token) (rest : List ℕ) → Stops text x → IsToken text token rest → ⊥
stops_none text x token rest (inl f) g = open_none text x token rest f g
stops_none text x token rest (inr f) g = f.none token rest g

-- where no token begins, and no string

pub bad_character : (text body : List ℕ) → text ≡ 39 ∷ body → ((value : ℕ) (rest : List ℕ) → unit 39 body ≡ Some (value, 39 ∷ rest) → ⊥) → Stops text (ending.Bad code.L1)
bad_character text body opened none = inr (record {
  none = λ token rest h. no_token token rest h;
  no_string = λ other h. no_quotes body other text opened h;
  is = refl;
}) where
  no_token : (token : Token) (rest : List ℕ) → IsToken text token rest → ⊥
  no_token token rest (inl f) = first_no_character text token rest body f opened
  no_token token rest (inr (inl g)) = none g.value rest (ap (unit 39) (tails 39 39 body g.body (sym opened ∙ g.opened)) ∙ g.spelled)
  no_token token rest (inr (inr g)) = no_quotes body g.body text opened g.opened

pub no_unit : (body : List ℕ) → unit 39 body ≡ None → (value : ℕ) (rest : List ℕ) → unit 39 body ≡ Some (value, 39 ∷ rest) → ⊥
no_unit body h value rest k = absurd cc

pub no_close : (body after : List ℕ) (first : ℕ) → unit 39 body ≡ Some (first, after) → ((k : List ℕ) → after ≡ 39 ∷ k → ⊥) → (value : ℕ) (rest : List ℕ) → unit 39 body ≡ Some (value, 39 ∷ rest) → ⊥
no_close body after first h none value rest k = none rest (one_unit _ _ first value after (39 ∷ rest) h k refl).1

pub bad_lexeme : (text : List ℕ) → ((k : List ℕ) → text ≡ 39 ∷ k → ⊥) → ((k : List ℕ) → text ≡ 34 ∷ k → ⊥) → ((token : Token) (rest : List ℕ) → IsFirst text token rest → ⊥) → Stops text (ending.Bad code.L1)
bad_lexeme text no_single no_double none = inr (record {
  none = λ token rest h. no_token token rest h;
  no_string = λ other h. no_double other h;
  is = refl;
}) where
  no_token : (token : Token) (rest : List ℕ) → IsToken text token rest → ⊥
  no_token token rest (inl f) = none token rest f
  no_token token rest (inr (inl g)) = no_single g.body g.opened
  no_token token rest (inr (inr g)) = no_double g.body g.opened

same_open : (text : List ℕ) (x y : Ending) → IsOpen text x → IsOpen text y → x ≡ y
same_open text x y f g =
    let same = same_quoted text f.body g.body f.values g.values f.rest g.rest f.opened g.opened f.spelled g.spelled in
    f.is ∙ ap (λ (vs : List ℕ). string_ending vs f.rest) same.0 ∙ ap (string_ending g.values) same.1 ∙ sym g.is

same_stop : (text : List ℕ) (x y : Ending) → Stops text x → Stops text y → x ≡ y
same_stop text x y (inl f) (inl g) = same_open text x y f g
same_stop text x y (inl f) (inr g) = absurd (g.no_string f.body f.opened)
same_stop text x y (inr f) (inl g) = absurd (f.no_string g.body g.opened)
same_stop text x y (inr f) (inr g) = f.is ∙ sym g.is

same_end : (text : List ℕ) (x y : Ending) → Ends text x → Ends text y → x ≡ y
same_end text x y h k = elim (cases_Bool (is_end text)) [
  | inl end ↦ MatchBool-at_true _ (Stops text x) end h ∙ sym (MatchBool-at_true _ (Stops text y) end k)
  | inr more ↦ same_stop text x y (MatchBool-at_false (x ≡ ending.Whole) (Stops text x) more h) (MatchBool-at_false (y ≡ ending.Whole) (Stops text y) more k)
]

-- a line that ends has no further token
end_none : (text : List ℕ) (x : Ending) (token : Token) (rest : List ℕ) → Ends text x → is_end text ≡ false → IsToken text token rest → ⊥
end_none text x token rest h more first = stops_none text x token rest (MatchBool-at_false (x ≡ ending.Whole) (Stops text x) more h) first

-- a text is one list of tokens at most, with one ending
pub one_list : (text : List ℕ) (a b : List Token) (x y : Ending) → LexesFrom text a x → LexesFrom text b y → (a ≡ b) × (x ≡ y)
one_list text [] [] x y h k = (refl, same_end text x y h k)
one_list text [] (u ∷ us) x y h k = absurd (end_none text x u k.1 h k.0 k.2)
one_list text (v ∷ vs) [] x y h k = absurd (end_none text y v h.1 k h.0 h.2)
one_list text (v ∷ vs) (u ∷ us) x y h k =
    let same = same_token text v u h.1 k.1 h.2 k.2 in
    let more = one_list (after_blanks h.1) vs us x y h.3 (subst (λ (r : List ℕ). LexesFrom (after_blanks r) us y) (sym same.1) k.3) in
    (ap (λ (n : Token). n ∷ vs) same.0 ∙ ap (λ (xs : List Token). u ∷ xs) more.0, more.1)

-- these tokens are read, and the rest goes on where the text would
pub record Kept (so_far : List Token) (text : List ℕ) (found : List Token) (rest : List ℕ) : Type 0 where
  pub done : List Token
  pub is : found ≡ so_far ++ done
  pub joined : (more : List Token) (x : Ending) → LexesFrom rest more x → LexesFrom text (done ++ more) x

pub begins : (so_far : List Token) (text : List ℕ) → Kept so_far text so_far text
begins so_far text = record { done = []; is = sym (append-nil so_far); joined = λ more x h. h }

pub goes_on : (so_far : List Token) (text : List ℕ) (found : List Token) (rest after : List ℕ) (token : Token) → Kept so_far text found rest → is_end rest ≡ false → IsToken rest token after → Kept so_far text (found ++ token ∷ []) (after_blanks after)
goes_on so_far text found rest after token kept more first = record {
  done = kept.done ++ token ∷ [];
  is = ap (λ (ts : List Token). ts ++ token ∷ []) kept.is ∙ append_assoc so_far kept.done (token ∷ []);
  joined = λ ts x h. subst (λ (us : List Token). LexesFrom text us x) (sym (append_assoc kept.done (token ∷ []) ts)) (kept.joined (token ∷ ts) x (more, after, first, h));
}

pub is_done : (so_far : List Token) (text : List ℕ) (found : List Token) (rest : List ℕ) (x : Ending) → Kept so_far text found rest → Ends rest x → IsRead so_far text found x
is_done so_far text found rest x kept end = (kept.done, kept.is, subst (λ (ts : List Token). LexesFrom text ts x) (append-nil kept.done) (kept.joined [] x end))

pub same_match : (b : Bool) (P Q : Type 0) → b ≡ true → P → MatchBool b P Q
same_match true P Q h p = p
same_match false P Q h p = absurd cc

pub other_match : (b : Bool) (P Q : Type 0) → b ≡ false → Q → MatchBool b P Q
other_match true P Q h q = absurd cc
other_match false P Q h q = q

pub whole_end : (text : List ℕ) → is_end text ≡ true → Ends text ending.Whole
whole_end text h = same_match (is_end text) (ending.Whole ≡ ending.Whole) (Stops text ending.Whole) h refl

pub stop_end : (text : List ℕ) (x : Ending) → is_end text ≡ false → Stops text x → Ends text x
stop_end text x h stop = other_match (is_end text) (x ≡ ending.Whole) (Stops text x) h stop

pub blanks_le : (text : List ℕ) → length (after_blanks text) ≤ length text
blanks_le [] = omega arith
blanks_le (b ∷ more) = elim (cases_Bool (is_blank b)) [
  | inl is ↦ rw (cond-true (is_blank b) (after_blanks more) (b ∷ more) is) (omega (arith, blanks_le more))
  | inr isnt ↦ rw (cond-false (is_blank b) (after_blanks more) (b ∷ more) isnt) (omega arith)
]

pub smaller : (rest after left : List ℕ) → left ≡ after_blanks after → length after < length rest → length left < length rest
smaller rest after left is shorter = rw is (omega (arith, blanks_le after))
