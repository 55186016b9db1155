-- The logical lines of lines, one after the other.
use Rattle.std.proofs.Common.{◌≡◌, ◌+◌, inl, inr, ℕ, zero, suc, Bool, true, false, List, [], ◌∷◌, ◌++◌, get_or, length, map, remove, slice_get, Option, Some, None, Result, Ok, Err, refl, sym, ap, subst, ◌∙◌, arith, append_assoc}
use Rattle.std.specs.Bool.{MatchBool}
use Rattle.std.specs.Result.{OnOk}
use Rattle.std.proofs.lemmas.List.{append-nil}
use Rattle.bstr.specs.Text.{lines_of, without_terminator}
use Rattle.occ_lines.specs.declared.directive.Directive.{Directive}
use Rattle.occ_lines.specs.declared.ending.Ending.{Ending}
use Rattle.occ_lines.specs.declared.text.Logical.{Logical}
use Rattle.occ_lines.specs.declared.statement.Statement.{Statement}
use Rattle.occ_lines.specs.declared.statement.Wants.{Wants}
use Rattle.occ_lines.specs.declared.statement.Wants.TheVariants as wants
use Rattle.occ_lines.specs.declared.token.Token.{Token}
use Rattle.occ_lines.specs.declared.token.Token.TheVariants as t
use Rattle.occ_lines.specs.Directive.{directive_of}
use Rattle.occ_lines.specs.Lexeme.{Lexes, after_blanks, string_ending}
use Rattle.occ_lines.specs.Lines.{IsClosed, IsUnclosed, LexesString, column, continues, goes_on, goes_on_token, is_skipped, resumes}
use Rattle.occ_lines.specs.inside.Walk.{AreLogical, AreRead, BreaksOff, Continues, IsFresh, IsLine, IsWanted, Reached, Resumes, Settles, Speaks, broken_off, settled, unfinished}
use Rattle.occ_lines.specs.inside.Scan.{Adds, Gathers, IsStringRead}
use Rattle.occ_lines.proofs.Reading.{one_list}
use Rattle.occ_lines.proofs.Strings.{one_quoted, tails}

-- a string that is not closed
pub unclosed : (so_far : List Token) (bytes text all rest : List ℕ) → Gathers bytes text all rest → ((k : List ℕ) → rest ≡ 34 ∷ k → ⊥) → IsStringRead so_far bytes text so_far (string_ending all rest)
unclosed so_far bytes text all rest g no_close =
    ([], sym (append-nil so_far), inr (record { values = g.0; rest = rest; spelled = g.2; no_close = no_close; none = refl; is = ap (λ (b : List ℕ). string_ending b rest) g.1 }))

-- the last token decides whether a statement goes on
pub last_asked : (tokens : List Token) (n : ℕ) (other : Token) → n + 1 ≡ length tokens → goes_on_token (get_or tokens n other) ≡ goes_on tokens
last_asked [] n other h = absurd (omega arith)
last_asked (x ∷ []) zero other h = refl
last_asked (x ∷ []) (suc n) other h = absurd (omega arith)
last_asked (x ∷ y ∷ more) zero other h = absurd (omega arith)
last_asked (x ∷ y ∷ more) (suc n) other h = last_asked (y ∷ more) n other (omega arith)

-- these logical lines are read, and those of the lines that are left go on from them
pub record Goes (text : List ℕ) (found : List Logical) (statement : Option Statement) (number : ℕ) (left : List (List ℕ)) : Type 0 where
  pub joined : (more : List Logical) → AreLogical statement (number + 1) left more → AreRead text (found ++ more)

pub goes_begins : (text : List ℕ) (found : List Logical) (left : List (List ℕ)) → found ≡ [] → left ≡ map without_terminator (lines_of text) → Goes text found None 0 left
goes_begins text found left none all = rw (none, all) (record { joined = λ more h. h })

pub goes_over : (text : List ℕ) (found : List Logical) (statement : Option Statement) (number : ℕ) (line : List ℕ) (left : List (List ℕ)) (all : List Logical) (next : Option Statement)
    → Adds found all (λ ended. IsLine statement (number + 1) line ended next) → Goes text found statement number (line ∷ left) → Goes text all next (number + 1) left
goes_over text found statement number line left all next adds goes = record {
  joined = λ more h. subst (λ (xs : List Logical). AreRead text xs) (sym (append_assoc found adds.0 more) ∙ ap (λ (xs : List Logical). xs ++ more) (sym adds.1))
      (goes.joined (adds.0 ++ more) (adds.0, next, more, adds.2, refl, h));
}

pub goes_to_end : (text : List ℕ) (found : List Logical) (statement : Option Statement) (number : ℕ) (left : List (List ℕ)) (all : List Logical) → left ≡ [] → all ≡ found ++ unfinished statement → Goes text found statement number left → AreRead text all
goes_to_end text found statement number left all none is kept =
    let goes : Goes text found statement number [] = rw none at kept in
    subst (λ (xs : List Logical). AreRead text xs) (sym is) (goes.joined (unfinished statement) refl)

-- what a sink holds of lines that go on so
pub record Sent (holds : List Logical → Type 0) (text : List ℕ) (statement : Option Statement) (number : ℕ) (left : List (List ℕ)) : Type 0 where
  pub lines : List Logical
  pub goes : Goes text lines statement number left
  pub held : holds lines

pub sent_begins : (holds : List Logical → Type 0) (text : List ℕ) (left : List (List ℕ)) → holds [] → left ≡ map without_terminator (lines_of text) → Sent holds text None 0 left
sent_begins holds text left held all = record { lines = []; goes = goes_begins text [] left refl all; held = held }

pub sent_over : (before after : List Logical → Type 0) (text : List ℕ) (found : List Logical) (statement : Option Statement) (number : ℕ) (line : List ℕ) (left : List (List ℕ)) (all : List Logical) (next : Option Statement)
    → found ≡ [] → Adds found all (λ ended. IsLine statement (number + 1) line ended next) → ((lines : List Logical) → before lines → after (lines ++ all))
    → Sent before text statement number (line ∷ left) → Sent after text next (number + 1) left
sent_over before after text found statement number line left all next none adds taken sent =
    let ended : all ≡ adds.0 = adds.1 ∙ ap (λ (xs : List Logical). xs ++ adds.0) none in
    record {
      lines = sent.lines ++ all;
      goes = goes_over text sent.lines statement number line left (sent.lines ++ all) next (adds.0, ap (λ (xs : List Logical). sent.lines ++ xs) ended, adds.2) sent.goes;
      held = taken sent.lines sent.held;
    }

sent_to_end : (before after : List Logical → Type 0) (text : List ℕ) (found : List Logical) (statement : Option Statement) (number : ℕ) (left : List (List ℕ)) (all : List Logical)
    → left ≡ [] → found ≡ [] → all ≡ found ++ unfinished statement → ((lines : List Logical) → before lines → after (lines ++ all))
    → Sent before text statement number left → (lines : List Logical) × AreRead text lines × after lines
sent_to_end before after text found statement number left all over none is taken sent =
    let ended : all ≡ unfinished statement = is ∙ ap (λ (xs : List Logical). xs ++ unfinished statement) none in
    (sent.lines ++ all, goes_to_end text sent.lines statement number left (sent.lines ++ all) over (ap (λ (xs : List Logical). sent.lines ++ xs) ended) sent.goes, taken sent.lines sent.held)

-- what holds of a sink where it takes them all without an error
pub sent_if_ok : {T E : Type 0} (result : Result T E) (before after : List Logical → Type 0) (text : List ℕ) (found : List Logical) (statement : Option Statement) (number : ℕ) (left : List (List ℕ)) (all : List Logical)
    → left ≡ [] → found ≡ [] → all ≡ found ++ unfinished statement → OnOk result ((lines : List Logical) → before lines → after (lines ++ all))
    → Sent before text statement number left → OnOk result ((lines : List Logical) × AreRead text lines × after lines)
sent_if_ok (Ok x) before after text found statement number left all over none is taken sent = sent_to_end before after text found statement number left all over none is taken sent
sent_if_ok (Err e) before after text found statement number left all over none is taken sent = tt

-- the sink has taken the first of these lines, and those that are left are to be taken
pub record Handed (before after : List Logical → Type 0) (all left : List Logical) : Type 0 where
  pub taken : List Logical
  pub parts : all ≡ taken ++ left
  pub held : (lines : List Logical) → before lines → after (lines ++ taken)

pub handed_none : (before : List Logical → Type 0) (all : List Logical) → Handed before before all all
handed_none before all = record { taken = []; parts = refl; held = λ lines h. subst before (sym (append-nil lines)) h }

pub handed_more : (before between after : List Logical → Type 0) (all left rest : List Logical) (x : Logical)
    → slice_get left 0 ≡ Some x → rest ≡ remove left 0 → ((lines : List Logical) → between lines → after (lines ++ x ∷ []))
    → Handed before between all left → Handed before after all rest
handed_more before between after all [] rest x first is takes handed = absurd cc
handed_more before between after all (y ∷ ys) rest x first is takes handed =
    let same : y ≡ x = (cc) in
    record {
      taken = handed.taken ++ x ∷ [];
      parts = handed.parts ∙ ap (λ (z : Logical). handed.taken ++ z ∷ ys) same ∙ ap (λ (zs : List Logical). handed.taken ++ x ∷ zs) (sym is) ∙ sym (append_assoc handed.taken (x ∷ []) rest);
      held = λ lines h. subst after (append_assoc lines handed.taken (x ∷ [])) (takes (lines ++ handed.taken) (handed.held lines h));
    }

pub handed_all : (before after : List Logical → Type 0) (all left : List Logical) → left ≡ [] → Handed before after all left → (lines : List Logical) → before lines → after (lines ++ all)
handed_all before after all left none handed lines h =
    let whole : all ≡ handed.taken = handed.parts ∙ ap (λ (xs : List Logical). handed.taken ++ xs) none ∙ append-nil handed.taken in
    subst (λ (xs : List Logical). after (lines ++ xs)) (sym whole) (handed.held lines h)

-- a text spells one list at most

abbrev Same : List Logical → List Logical → Option Statement → Option Statement → Type 0
Same a b m n = (a ≡ b) × (m ≡ n)

same_settles : (r : Reached) (a b : List Logical) (m n : Option Statement) → Settles r a m → Settles r b n → Same a b m n
same_settles (Reached.Open statement) a b m n h k = (h.0 ∙ sym k.0, h.1 ∙ sym k.1)
same_settles (Reached.Done x) a b m n h k = (h.0 ∙ sym k.0, h.1 ∙ sym k.1)

-- what follows the tokens of one line and its ending is one
same_read : (first column : ℕ) (tokens ts us : List Token) (x y : Ending) (a b : List Logical) (m n : Option Statement) → (ts ≡ us) × (x ≡ y)
    → Settles (settled first column (tokens ++ ts) x) a m → Settles (settled first column (tokens ++ us) y) b n → Same a b m n
same_read first column tokens ts us x y a b m n same h k =
    let is : settled first column (tokens ++ ts) x ≡ settled first column (tokens ++ us) y =
    ap (λ (vs : List Token). settled first column (tokens ++ vs) x) same.0 ∙ ap (settled first column (tokens ++ us)) same.1 in
    same_settles (settled first column (tokens ++ us) y) a b m n (subst (λ (r : Reached). Settles r a m) is h) k

same_continues : (first column : ℕ) (tokens : List Token) (text : List ℕ) (a b : List Logical) (m n : Option Statement) → Continues first column tokens text a m → Continues first column tokens text b n → Same a b m n
same_continues first column tokens text a b m n h k =
    same_read first column tokens h.0 k.0 h.1 k.1 a b m n (one_list text h.0 k.0 h.1 k.1 h.2 k.2) h.3 k.3

same_closed : (bytes text : List ℕ) (ts us : List Token) (x y : Ending) → IsClosed bytes text ts x → IsClosed bytes text us y → (ts ≡ us) × (x ≡ y)
same_closed bytes text ts us x y h k =
    let same = one_quoted text h.values k.values (34 ∷ h.rest) (34 ∷ k.rest) h.spelled k.spelled in
    let rest = tails 34 34 h.rest k.rest same.1 in
    let more = one_list (after_blanks k.rest) h.more k.more x y (subst (λ (r : List ℕ). Lexes r h.more x) rest h.follow) k.follow in
    (h.is ∙ ap (λ (vs : List ℕ). t.String (bytes ++ vs) ∷ h.more) same.0 ∙ ap (λ (vs : List Token). t.String (bytes ++ k.values) ∷ vs) more.0 ∙ sym k.is, more.1)

same_unclosed : (bytes text : List ℕ) (ts us : List Token) (x y : Ending) → IsUnclosed bytes text ts x → IsUnclosed bytes text us y → (ts ≡ us) × (x ≡ y)
same_unclosed bytes text ts us x y h k =
    let same = one_quoted text h.values k.values h.rest k.rest h.spelled k.spelled in
    (h.none ∙ sym k.none, h.is ∙ ap (λ (vs : List ℕ). string_ending (bytes ++ vs) h.rest) same.0 ∙ ap (string_ending (bytes ++ k.values)) same.1 ∙ sym k.is)

not_both : (bytes text : List ℕ) (ts us : List Token) (x y : Ending) → IsClosed bytes text ts x → IsUnclosed bytes text us y → ⊥
not_both bytes text ts us x y h k = k.no_close h.rest (sym (one_quoted text h.values k.values (34 ∷ h.rest) k.rest h.spelled k.spelled).1)

same_string : (bytes text : List ℕ) (ts us : List Token) (x y : Ending) → LexesString bytes text ts x → LexesString bytes text us y → (ts ≡ us) × (x ≡ y)
same_string bytes text ts us x y (inl h) (inl k) = same_closed bytes text ts us x y h k
same_string bytes text ts us x y (inl h) (inr k) = absurd (not_both bytes text ts us x y h k)
same_string bytes text ts us x y (inr h) (inl k) = absurd (not_both bytes text us ts y x k h)
same_string bytes text ts us x y (inr h) (inr k) = same_unclosed bytes text ts us x y h k

same_resumes : (first column : ℕ) (tokens : List Token) (bytes line : List ℕ) (a b : List Logical) (m n : Option Statement) → Resumes first column tokens bytes line a m → Resumes first column tokens bytes line b n → Same a b m n
same_resumes first column tokens bytes line a b m n h k = same_read first column tokens h.0 k.0 h.1 k.1 a b m n (same_string bytes _ h.0 k.0 h.1 k.1 h.2 k.2) h.3 k.3

same_speaks : (o : Option Directive) (number : ℕ) (line : List ℕ) (a b : List Logical) (m n : Option Statement) → Speaks o number line a m → Speaks o number line b n → Same a b m n
same_speaks None number line a b m n h k = same_continues number (column line) [] (after_blanks line) a b m n h k
same_speaks (Some d) number line a b m n h k = (h.0 ∙ sym k.0, h.1 ∙ sym k.1)

-- of two cases the one that holds gives one answer
same_match : (b : Bool) (P Q R S : Type 0) (T : Type 0) → MatchBool b P Q → MatchBool b R S → (P → R → T) → (Q → S → T) → T
same_match true P Q R S T h k f g = f h k
same_match false P Q R S T h k f g = g h k

same_fresh : (number : ℕ) (line : List ℕ) (a b : List Logical) (m n : Option Statement) → IsFresh number line a m → IsFresh number line b n → Same a b m n
same_fresh number line a b m n h k = same_match (is_skipped line) ((a ≡ []) × (m ≡ None)) (Speaks (directive_of (after_blanks line)) number line a m)
    ((b ≡ []) × (n ≡ None)) (Speaks (directive_of (after_blanks line)) number line b n) (Same a b m n) h k
    (λ u v. (u.0 ∙ sym v.0, u.1 ∙ sym v.1)) (same_speaks (directive_of (after_blanks line)) number line a b m n)

same_break : (x : Logical) (number : ℕ) (line : List ℕ) (a b : List Logical) (m n : Option Statement) → BreaksOff x number line a m → BreaksOff x number line b n → Same a b m n
same_break x number line a b m n h k =
    let same = same_fresh number line h.0 k.0 m n h.2 k.2 in
    (h.1 ∙ ap (λ (xs : List Logical). x ∷ xs) same.0 ∙ sym k.1, same.1)

same_wanted : (w : Wants) (statement : Statement) (number : ℕ) (line : List ℕ) (a b : List Logical) (m n : Option Statement) → IsWanted w statement number line a m → IsWanted w statement number line b n → Same a b m n
same_wanted wants.More s number line a b m n h k = same_match (is_skipped line)
    ((a ≡ []) × (m ≡ Some s)) (MatchBool (continues s.column line) (Continues s.line s.column s.tokens (after_blanks line) a m) (BreaksOff (broken_off s) number line a m))
    ((b ≡ []) × (n ≡ Some s)) (MatchBool (continues s.column line) (Continues s.line s.column s.tokens (after_blanks line) b n) (BreaksOff (broken_off s) number line b n))
    (Same a b m n) h k
    (λ u v. (u.0 ∙ sym v.0, u.1 ∙ sym v.1))
    (λ u v. same_match (continues s.column line) (Continues s.line s.column s.tokens (after_blanks line) a m) (BreaksOff (broken_off s) number line a m)
    (Continues s.line s.column s.tokens (after_blanks line) b n) (BreaksOff (broken_off s) number line b n) (Same a b m n) u v
    (same_continues s.line s.column s.tokens (after_blanks line) a b m n) (same_break (broken_off s) number line a b m n))
same_wanted (wants.Rest bytes) s number line a b m n h k = same_match (resumes s.column line)
    (Resumes s.line s.column s.tokens bytes line a m) (BreaksOff (broken_off s) number line a m)
    (Resumes s.line s.column s.tokens bytes line b n) (BreaksOff (broken_off s) number line b n) (Same a b m n) h k
    (same_resumes s.line s.column s.tokens bytes line a b m n) (same_break (broken_off s) number line a b m n)

same_line : (o : Option Statement) (number : ℕ) (line : List ℕ) (a b : List Logical) (m n : Option Statement) → IsLine o number line a m → IsLine o number line b n → Same a b m n
same_line None number line a b m n h k = same_fresh number line a b m n h k
same_line (Some s) number line a b m n h k = same_wanted s.wants s number line a b m n h k

one_spelled : (o : Option Statement) (number : ℕ) (lines : List (List ℕ)) (xs ys : List Logical) → AreLogical o number lines xs → AreLogical o number lines ys → xs ≡ ys
one_spelled o number [] xs ys h k = h ∙ sym k
one_spelled o number (line ∷ lines) xs ys h k =
    let same = same_line o number line h.0 k.0 h.1 k.1 h.3 k.3 in
    let rest = one_spelled k.1 (number + 1) lines h.2 k.2 (subst (λ (m : Option Statement). AreLogical m (number + 1) lines h.2) same.1 h.5) k.5 in
    h.4 ∙ ap (λ (e : List Logical). e ++ h.2) same.0 ∙ ap (λ (r : List Logical). k.0 ++ r) rest ∙ sym k.4

pub one_read : (text : List ℕ) (xs ys : List Logical) → AreRead text xs → AreRead text ys → xs ≡ ys
one_read text xs ys h k = one_spelled None 1 (map without_terminator (lines_of text)) xs ys h k
