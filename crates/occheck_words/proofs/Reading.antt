-- What `get_one` reads of an id: the number below 256 that its text is, or whether it is `true`.
use Rattle.std.proofs.Common.{◌⊎◌, inl, inr, ◌≡◌, ℕ, ◌<◌, Bool, true, false, List, [], ◌∷◌, Option, Some, None, Decides, refl, sym, subst, ap, ◌∙◌, codes, nat_lt, length, map, option_map, unwrap_or}
use Rattle.std.proofs.lemmas.Bool.Decides.{Decides-and, Decides-ltb}
use Rattle.std.proofs.lemmas.Bool.{false≢true}
use Rattle.std.proofs.lemmas.Slice.Eq.{bytes_eq-Decides}
use Rattle.std.specs.Prelude.{◌&&◌, ◌==◌, IfErr, IfOk, Result, Ok, Err, if◌then◌else◌, option_and_then}
use Rattle.std.specs.Borrow.{Bor}
use Rattle.std.specs.Str.Parse.{AllDigits, IsNumeral, ParsesBool, ParsesUnsigned, digits_value, false_text, true_text, without_leading_plus}
use Rattle.std.specs.Char.{digit_value}
use Rattle.std.specs.List.{list_all}
use Rattle.std.specs.Option.{option_map_or}
use Rattle.clap.proofs.WalkLemmas.{one_text-rows}
use Rattle.clap.specs.ValueTests.{is_numeral}
use Rattle.clap.specs.Words.{Kinds, ReadsOne, Row, Text, fault_of, matches_of, one_of, one_text, rows_of}
use Rattle.clap.specs.declared.error.kind.ErrorKind.{ErrorKind}
use Rattle.clap.specs.declared.error.kind.ErrorKind.TheVariants as kinds
use Rattle.clap.specs.declared.parser.matches.Found.{Found}
use Rattle.occheck_words.specs.Line.{Asked, IsRefusal, asked, asked_in, asked_of, either_of, has_steps, is_true, line, number_in, scripts_in, view, where_taken, workers_in}
use Rattle.occheck_words.specs.declared.words.Mode.{Mode}
use Rattle.occheck_words.specs.declared.words.WordsFault.{WordsFault}
use Rattle.occheck_words.specs.declared.words.WordsFault.TheVariants as fault

-- the text is a number below 256
abbrev IsNumber : Text → Type 0
IsNumber text = IsNumeral 10 (without_leading_plus text) × (digits_value 10 (without_leading_plus text) < 256)

is_number : Text → Bool
is_number text = is_numeral (without_leading_plus text) && nat_lt (digits_value 10 (without_leading_plus text)) 256

digits_decide : (ds : List ℕ) → Decides (list_all (λ d. nat_lt (digit_value d) 10) ds) (AllDigits 10 ds)
digits_decide [] = (λ _. tt, λ _. refl)
digits_decide (d ∷ ds) = Decides-and _ _ (Decides-ltb (digit_value d) 10) (digits_decide ds)

numeral_decides : (ds : List ℕ) → Decides (is_numeral ds) (IsNumeral 10 ds)
numeral_decides ds = Decides-and _ _ (Decides-ltb 0 (length ds)) (digits_decide ds)

number_decides : (text : Text) → Decides (is_number text) (IsNumber text)
unfolding is_number
number_decides text = Decides-and _ _ (numeral_decides (without_leading_plus text)) (Decides-ltb _ _)

number_if : (text : Text) → number_in text ≡ (if is_number text then Some (digits_value 10 (without_leading_plus text)) else None)
unfolding is_number
number_if text = refl

where_one : (b : Bool) (P : Type 0) (n v : ℕ) → Decides b P → P → v ≡ n → Some v ≡ (if b then Some n else None)
where_one true P n v d p e = ap Some e
where_one false P n v d p e = absurd (false≢true (d.1 p))

where_none : (b : Bool) (P : Type 0) (n : ℕ) → Decides b P → (P → ⊥) → None ≡ (if b then Some n else None)
where_none true P n d p = absurd (p (d.0 refl))
where_none false P n d p = refl

pub number_is : {E : Type 0} (G : List ℕ → Result ℕ E → Type 0) (text : Text) (r : Option ℕ) → ((u : Text) (x : Result ℕ E) → G u x → ParsesUnsigned 8 10 u x) → ReadsOne G text r → r ≡ number_in text
number_is G text (Some n) parses h =
    let p = parses text (Ok n) h in
    where_one (is_number text) (IsNumber text) _ n (number_decides text) p.0 p.1 ∙ sym (number_if text)
number_is G text None parses h = where_none (is_number text) (IsNumber text) _ (number_decides text) (parses text (Err h.0) h.1) ∙ sym (number_if text)

not_true : (text : Text) → (text ≡ true_text → ⊥) → is_true text ≡ false
not_true text ne = go (is_true text) refl where
  go : (b : Bool) → is_true text ≡ b → is_true text ≡ false
  go true e = absurd (ne ((bytes_eq-Decides text (codes "true")).0 e))
  go false e = e

other_text : (false_text ≡ true_text) → ⊥
other_text e = cc

flag_of : (E : Type 0) (text : Text) (r : Option Bool) → ReadsOne (ParsesBool {E = E}) text r → unwrap_or r false ≡ is_true text
flag_of E text (Some true) h = sym ((bytes_eq-Decides text (codes "true")).1 h)
flag_of E text (Some false) h = sym (not_true text (λ e. other_text (sym h ∙ e)))
flag_of E text None h = sym (not_true text h.1.0)

-- what `get_one` reads of an id, by what it promises where the id has no text and where it has one
pub flag_is : (E : Type 0) (f : Found) (id : Text) (r : Option Bool) → (one_text f id ≡ None → r ≡ None) → ((t : Text) → one_text f id ≡ Some t → ReadsOne (ParsesBool {E = E}) t r) → unwrap_or r false ≡ option_map_or is_true (one_of id (rows_of f)) false
flag_is E f id r none some = go (one_text f id) refl ∙ ap (λ o. option_map_or is_true o false) (one_text-rows f id) where
  go : (o : Option Text) → one_text f id ≡ o → unwrap_or r false ≡ option_map_or is_true o false
  go None e = ap (λ x. unwrap_or x false) (none e)
  go (Some t) e = flag_of E t r (some t e)

pub workers_are : {E : Type 0} (G : List ℕ → Result ℕ E → Type 0) (f : Found) (id : Text) (r : Option ℕ) → ((u : Text) (x : Result ℕ E) → G u x → ParsesUnsigned 8 10 u x) → (one_text f id ≡ None → r ≡ None) → ((t : Text) → one_text f id ≡ Some t → ReadsOne G t r) → r ≡ option_and_then number_in (one_of id (rows_of f))
workers_are G f id r parses none some = go (one_text f id) refl ∙ ap (option_and_then number_in) (one_text-rows f id) where
  go : (o : Option Text) → one_text f id ≡ o → r ≡ option_and_then number_in o
  go None e = none e
  go (Some t) e = number_is G t r parses (some t e)

pub scripts_are : (o : Option (Bor (List (Bor Text)))) (d : Bor (List (Bor Text))) (m : Option (List Text)) → option_map (λ s. map (λ v. v.now) s.now) o ≡ m → d.now ≡ [] → map (λ v. v.now) (unwrap_or o d).now ≡ unwrap_or m []
scripts_are (Some s) d m e k = ap (λ m. unwrap_or m []) e
scripts_are None d m e k = ap (map (λ v. v.now)) k ∙ ap (λ m. unwrap_or m []) e

pub asked_by : (rows : List Row) (s : Bool) (w : Option ℕ) (scripts : List Text) → s ≡ has_steps rows → w ≡ workers_in rows → scripts ≡ scripts_in rows → either_of s w scripts ≡ asked_of rows
unfolding asked_of
asked_by rows s w scripts e f g = ap₃ either_of e f g where
  ap₃ : {A B C D : Type 0} (k : A → B → C → D) {a a' : A} {b b' : B} {c c' : C} → a ≡ a' → b ≡ b' → c ≡ c' → k a b c ≡ k a' b' c'
  ap₃ k e f g = cc

-- what a line asks for that clap takes, and one that it does not take
pub asked_taken : (words : List Text) (rows : List Row) → fault_of line words ≡ [] → rows ≡ matches_of line words → asked_of rows ≡ asked_in words
unfolding asked_in
asked_taken words rows e f = ap asked_of f ∙ sym (ap (λ k. where_taken k (matches_of line words)) e)

asked_not : (words : List Text) → (fault_of line words ≡ [] → ⊥) → asked_in words ≡ None
unfolding asked_in
asked_not words h = go (fault_of line words) refl where
  go : (k : Kinds) → fault_of line words ≡ k → where_taken k (matches_of line words) ≡ None
  go [] e = absurd (h e)
  go (k ∷ ks) e = refl

pub refuses : (words : List Text) (k : ErrorKind) (f : WordsFault) → (k ≡ kinds.OutOfMemory) ⊎ (fault_of line words ≡ [] → ⊥) → (k ≡ kinds.OutOfMemory → f ≡ fault.Memory) → IsRefusal (asked_in words) f
refuses words k (fault.Refused text) (inl e) h = cc (h e)
refuses words k (fault.Refused text) (inr off) h = asked_not words off
refuses words k fault.Memory o h = tt

-- the words, of which there are some, after the program's name
pub asked_some : (words all : List (Bor Text)) → false ≡ (length words == 0) → map (λ w. w.now) all ≡ codes "occheck" ∷ map (λ w. w.now) words → asked_in (map (λ w. w.now) all) ≡ asked (map (λ w. w.now) words)
asked_some [] all h e = absurd (false≢true h)
asked_some (word ∷ words) all h e = ap asked_in e

-- what is asked for is the same, so the answer fits it, too
pub fits : (r : Result Mode WordsFault) (o p : Option Asked) → o ≡ p → IfOk r (λ mode. o ≡ Some (view mode)) × IfErr r (λ f. IsRefusal o f) → IfOk r (λ mode. p ≡ Some (view mode)) × IfErr r (λ f. IsRefusal p f)
fits r o p e = subst (λ q. IfOk r (λ mode. q ≡ Some (view mode)) × IfErr r (λ f. IsRefusal q f)) e
