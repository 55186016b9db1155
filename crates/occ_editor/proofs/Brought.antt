-- What texts are on a board, where some are brought in place of others.
use Rattle.std.proofs.Common.{◌≡◌, ◌∙◌, ◌++◌, ◌+◌, ◌<◌, Bool, true, false, not, ◌&&◌, ◌||◌, cond, ℕ, zero, suc, List, [], ◌∷◌, drop, length, map, slice_set, take, Option, Some, None, is_some, arith, refl, subst, sym, ap, if◌then◌else◌}
use Rattle.std.proofs.lemmas.Slice.Eq.{bytes_eq-Decides}
use Rattle.std.specs.List.{slice_get}
use Rattle.std.specs.Str.{bytes_eq}
use Rattle.std.specs.String.{string_bytes}
use Rattle.occ_editor.specs.Rooms.{source_in}
use Rattle.occ_editor.specs.inside.Bringing.{AreShared, Before, has_same, same_or, shared_by}
use Rattle.occ_files.specs.Gathering.{AreGiven, are_apart, has_name}
use Rattle.occ_files.specs.Paths.{Gives, Known}
use Rattle.occ_files.specs.declared.gathering.Text.{Text}
use Rattle.occ_forms.specs.Prepared.{Prepared}

pub named_source : (texts : List Text) (name : List ℕ) → is_some (source_in texts name) ≡ has_name texts name
named_source [] name = refl
named_source (t ∷ ts) name = by (bytes_eq t.name name) (named_source ts name) where
  by : (b : Bool) → is_some (source_in ts name) ≡ has_name ts name → is_some (if b then Some t.source else source_in ts name) ≡ b || has_name ts name
  by true e = refl
  by false e = e

pub not_named : (texts : List Text) (name : List ℕ) → has_name texts name ≡ false → source_in texts name ≡ None
not_named [] name none = refl
not_named (t ∷ ts) name none = by (bytes_eq t.name name) none (not_named ts name) where
  by : (b : Bool) → b || has_name ts name ≡ false → (has_name ts name ≡ false → source_in ts name ≡ None) → (if b then Some t.source else source_in ts name) ≡ None
  by true h rest = absurd cc
  by false h rest = rest h

-- ---- texts of which no two have one name

split : (a b : Bool) → not a && b ≡ true → (a ≡ false) × (b ≡ true)
split true b h = absurd cc
split false b h = (refl, h)

-- a name that is there twice
named_there : (texts : List Text) (i : ℕ) (t : Text) → slice_get texts i ≡ Some t → has_name texts t.name ≡ true
named_there [] i t e = absurd cc
named_there (u ∷ us) zero t e =
    let is : u ≡ t = cc in
    ap (λ (b : Bool). b || has_name us t.name) (ap (λ (v : Text). bytes_eq v.name t.name) is ∙ (bytes_eq-Decides t.name t.name).1 refl)
named_there (u ∷ us) (suc i) t e = ap (λ (b : Bool). bytes_eq u.name t.name || b) (named_there us i t e) ∙ by (bytes_eq u.name t.name) where
  by : (b : Bool) → b || true ≡ true
  by true = refl
  by false = refl

-- it is the only one of its name
other_name : (u : Text) (us : List Text) (i : ℕ) (t : Text) → has_name us u.name ≡ false → slice_get us i ≡ Some t → bytes_eq u.name t.name ≡ false
other_name u us i t none e = by (bytes_eq u.name t.name) refl where
  by : (b : Bool) → bytes_eq u.name t.name ≡ b → bytes_eq u.name t.name ≡ false
  by false h = h
  by true h =
      let same : u.name ≡ t.name = (bytes_eq-Decides u.name t.name).0 h in
      let there : has_name us u.name ≡ true = ap (has_name us) same ∙ named_there us i t e in
      absurd cc

pub source_there : (texts : List Text) (i : ℕ) (t : Text) → slice_get texts i ≡ Some t → are_apart texts ≡ true → source_in texts t.name ≡ Some t.source
source_there [] i t e apart = absurd cc
source_there (u ∷ us) zero t e apart =
    let is : u ≡ t = cc in
    ap (λ (v : Text). if bytes_eq v.name t.name then Some v.source else source_in us t.name) is ∙ ap (λ (b : Bool). if b then Some t.source else source_in us t.name) ((bytes_eq-Decides t.name t.name).1 refl)
source_there (u ∷ us) (suc i) t e apart =
    let h = split (has_name us u.name) (are_apart us) apart in
    ap (λ (b : Bool). if b then Some u.source else source_in us t.name) (other_name u us i t h.0 e) ∙ source_there us i t e h.1

-- none before it has its name
back : (a b : List ℕ) → bytes_eq a b ≡ false → bytes_eq b a ≡ false
back a b differs = by (bytes_eq b a) refl where
  by : (c : Bool) → bytes_eq b a ≡ c → bytes_eq b a ≡ false
  by false h = h
  by true h =
      let same : bytes_eq a b ≡ true = (bytes_eq-Decides a b).1 (sym ((bytes_eq-Decides b a).0 h)) in
      absurd cc

pub new_there : (texts : List Text) (i : ℕ) (t : Text) → slice_get texts i ≡ Some t → are_apart texts ≡ true → has_name (take i texts) t.name ≡ false
new_there [] i t e apart = absurd cc
new_there (u ∷ us) zero t e apart = refl
new_there (u ∷ us) (suc i) t e apart =
    let h = split (has_name us u.name) (are_apart us) apart in
    ap (λ (b : Bool). b || has_name (take i us) t.name) (other_name u us i t h.0 e) ∙ new_there us i t e h.1

-- ---- one more

pub named_next : (texts : List Text) (t : Text) (name : List ℕ) → has_name (texts ++ t ∷ []) name ≡ has_name texts name || bytes_eq t.name name
named_next [] t name = by (bytes_eq t.name name) where
  by : (b : Bool) → b || false ≡ b
  by true = refl
  by false = refl
named_next (u ∷ us) t name = ap (λ (b : Bool). bytes_eq u.name name || b) (named_next us t name) ∙ by (bytes_eq u.name name) where
  by : (b : Bool) → b || (has_name us name || bytes_eq t.name name) ≡ (b || has_name us name) || bytes_eq t.name name
  by true = refl
  by false = refl

pub source_next : (texts : List Text) (t : Text) (name : List ℕ) → has_name texts t.name ≡ false → source_in (texts ++ t ∷ []) name ≡ cond (bytes_eq t.name name) (Some t.source) (source_in texts name)
source_next [] t name none = by (bytes_eq t.name name) where
  by : (b : Bool) → (if b then Some t.source else None) ≡ cond b (Some t.source) None
  by true = refl
  by false = refl
source_next (u ∷ us) t name none = by (bytes_eq u.name t.name) refl none (source_next us t name) where
  mixed : (b c : Bool) → (b ≡ true → c ≡ true → ⊥) → (if b then Some u.source else cond c (Some t.source) (source_in us name)) ≡ cond c (Some t.source) (if b then Some u.source else source_in us name)
  mixed true true f = absurd (f refl refl)
  mixed true false f = refl
  mixed false true f = refl
  mixed false false f = refl

  other : bytes_eq u.name t.name ≡ false → bytes_eq u.name name ≡ true → bytes_eq t.name name ≡ true → ⊥
  other h a b =
      let one : u.name ≡ name = (bytes_eq-Decides u.name name).0 a in
      let two : t.name ≡ name = (bytes_eq-Decides t.name name).0 b in
      let same : bytes_eq u.name t.name ≡ true = (bytes_eq-Decides u.name t.name).1 (one ∙ sym two) in
      cc (same, h)

  by : (b : Bool) → bytes_eq u.name t.name ≡ b → b || has_name us t.name ≡ false → (has_name us t.name ≡ false → source_in (us ++ t ∷ []) name ≡ cond (bytes_eq t.name name) (Some t.source) (source_in us name))
      → (if bytes_eq u.name name then Some u.source else source_in (us ++ t ∷ []) name) ≡ cond (bytes_eq t.name name) (Some t.source) (if bytes_eq u.name name then Some u.source else source_in us name)
  by true h q rest = absurd cc
  by false h q rest = ap (λ (o : Option Prepared). if bytes_eq u.name name then Some u.source else o) (rest q) ∙ mixed (bytes_eq u.name name) (bytes_eq t.name name) (other h)

-- ---- what is shared

pub names_shared : (b : Before) (ts : List Text) (name : List ℕ) → has_name (map (shared_by b) ts) name ≡ has_name ts name
names_shared b [] name = refl
names_shared b (t ∷ ts) name = ap (λ (c : Bool). bytes_eq t.name name || c) (names_shared b ts name)

pub apart_shared : (b : Before) (ts : List Text) → are_apart (map (shared_by b) ts) ≡ are_apart ts
apart_shared b [] = refl
apart_shared b (t ∷ ts) = ap (λ (c : Bool). not c && are_apart (map (shared_by b) ts)) (names_shared b ts t.name) ∙ ap (λ (c : Bool). not (has_name ts t.name) && c) (apart_shared b ts)

same_text : (o : Option Prepared) (s : Prepared) → (same_or o s).text ≡ s.text
same_text None s = refl
same_text (Some old) s = by (bytes_eq old.text s.text) refl where
  by : (b : Bool) → bytes_eq old.text s.text ≡ b → (if b then old else s).text ≡ s.text
  by true h = (bytes_eq-Decides old.text s.text).0 h
  by false h = refl

pub given_shared : (b : Before) (known : Known) (ts : List Text) → AreGiven known ts → AreGiven known (map (shared_by b) ts)
given_shared b known [] are = are
given_shared b known (t ∷ ts) are = (subst (λ (bytes : List ℕ). Gives known (string_bytes t.path) (Some bytes)) (sym (same_text (b t.name) t.source)) are.0, given_shared b known ts are.1)

shared_one : (o : Option Prepared) (s : Prepared) → has_same o (same_or o s) ≡ true → o ≡ Some (same_or o s)
shared_one None s h = absurd cc
shared_one (Some old) s h = by (bytes_eq old.text s.text) refl h where
  by : (b : Bool) → bytes_eq old.text s.text ≡ b → bytes_eq old.text (if b then old else s).text ≡ true → Some old ≡ Some (if b then old else s)
  by true e k = refl
  by false e k = absurd cc

pub are_shared : (b : Before) (ts : List Text) → AreShared b (map (shared_by b) ts)
are_shared b [] i t e h = absurd cc
are_shared b (u ∷ us) zero t e h =
    let is : shared_by b u ≡ t = cc in
    subst (λ (v : Text). has_same (b v.name) v.source ≡ true → b v.name ≡ Some v.source) is (shared_one (b u.name) u.source) h
are_shared b (u ∷ us) (suc i) t e h = are_shared b us i t e h

-- ---- the steps of loops

-- one more by name
pub by_name_next : (olds : List Text) (i : ℕ) (t : Text) (before now : Before) → are_apart olds ≡ true → slice_get olds i ≡ Some t → take (i + 1) olds ≡ take i olds ++ t ∷ [] → ((name : List ℕ) → before name ≡ source_in (take i olds) name) → ((name : List ℕ) → now name ≡ cond (bytes_eq t.name name) (Some t.source) (before name)) → (name : List ℕ) → now name ≡ source_in (take (i + 1) olds) name
by_name_next olds i t before now apart e next are updates name =
    updates name
    ∙ ap (cond (bytes_eq t.name name) (Some t.source)) (are name)
    ∙ sym (ap (λ (ts : List Text). source_in ts name) next ∙ source_next (take i olds) t name (new_there olds i t e apart))

-- one is taken away, of which there is no text now
gone : {X : Type 0} (a e n : Bool) (x s : X) → (e ≡ true → n ≡ false) → cond e x (cond (a && not n) x s) ≡ cond ((a || e) && not n) x s
gone true true true x s f = absurd (let no : true ≡ false = f refl in cc)
gone true true false x s f = refl
gone true false true x s f = refl
gone true false false x s f = refl
gone false true true x s f = absurd (let no : true ≡ false = f refl in cc)
gone false true false x s f = refl
gone false false true x s f = refl
gone false false false x s f = refl

stays : {X : Type 0} (a e n : Bool) (x s : X) → (e ≡ true → n ≡ true) → cond (a && not n) x s ≡ cond ((a || e) && not n) x s
stays true true true x s f = refl
stays true true false x s f = absurd (let no : false ≡ true = f refl in cc)
stays true false true x s f = refl
stays true false false x s f = refl
stays false true true x s f = refl
stays false true false x s f = absurd (let no : false ≡ true = f refl in cc)
stays false false true x s f = refl
stays false false false x s f = refl

-- what is there of the old texts after the first i of them
abbrev pub Left : List Text → Before → ℕ → List ℕ → Option Prepared
Left olds news i name = cond (has_name (take i olds) name && not (is_some (news name))) None (source_in olds name)

named_step : (olds : List Text) (i : ℕ) (t : Text) → take (i + 1) olds ≡ take i olds ++ t ∷ [] → (name : List ℕ) → has_name (take (i + 1) olds) name ≡ has_name (take i olds) name || bytes_eq t.name name
named_step olds i t next name = ap (λ (ts : List Text). has_name ts name) next ∙ named_next (take i olds) t name

pub taken_next : (olds : List Text) (i : ℕ) (t : Text) (news on after : Before) → take (i + 1) olds ≡ take i olds ++ t ∷ [] → is_some (news t.name) ≡ false → ((name : List ℕ) → on name ≡ Left olds news i name) → ((name : List ℕ) → after name ≡ cond (bytes_eq t.name name) None (on name)) → (name : List ℕ) → after name ≡ Left olds news (i + 1) name
taken_next olds i t news on after next none are edits name =
    edits name
    ∙ ap (cond (bytes_eq t.name name) None) (are name)
    ∙ gone (has_name (take i olds) name) (bytes_eq t.name name) (is_some (news name)) None (source_in olds name) (λ h. ap (λ (n : List ℕ). is_some (news n)) (sym ((bytes_eq-Decides t.name name).0 h)) ∙ none)
    ∙ ap (λ (b : Bool). cond (b && not (is_some (news name))) None (source_in olds name)) (sym (named_step olds i t next name))

pub left_next : (olds : List Text) (i : ℕ) (t : Text) (news on : Before) → take (i + 1) olds ≡ take i olds ++ t ∷ [] → is_some (news t.name) ≡ true → ((name : List ℕ) → on name ≡ Left olds news i name) → (name : List ℕ) → on name ≡ Left olds news (i + 1) name
left_next olds i t news on next there are name =
    are name
    ∙ stays (has_name (take i olds) name) (bytes_eq t.name name) (is_some (news name)) None (source_in olds name) (λ h. ap (λ (n : List ℕ). is_some (news n)) (sym ((bytes_eq-Decides t.name name).0 h)) ∙ there)
    ∙ ap (λ (b : Bool). cond (b && not (is_some (news name))) None (source_in olds name)) (sym (named_step olds i t next name))

-- in the end those are left of which there is a text now
pub left_all : (olds : List Text) (news : Before) (n : ℕ) → take n olds ≡ olds → (name : List ℕ) → Left olds news n name ≡ cond (is_some (news name)) (source_in olds name) None
left_all olds news n all name =
    ap (λ (ts : List Text). cond (has_name ts name && not (is_some (news name))) None (source_in olds name)) all
    ∙ by (has_name olds name) (is_some (news name)) (not_named olds name) where
      by : (a b : Bool) → (a ≡ false → source_in olds name ≡ None) → cond (a && not b) None (source_in olds name) ≡ cond b (source_in olds name) None
      by true true f = refl
      by true false f = refl
      by false true f = refl
      by false false f = f refl

-- what is there of the texts after the first i of them were put
abbrev pub Put : List Text → Before → ℕ → List ℕ → Option Prepared
Put texts kept i name = cond (has_name (take i texts) name) (source_in texts name) (kept name)

placed_at : {X : Type 0} (a e : Bool) (x s k : X) → (e ≡ true → s ≡ x) → cond e x (cond a s k) ≡ cond (a || e) s k
placed_at true true x s k f = sym (f refl)
placed_at true false x s k f = refl
placed_at false true x s k f = sym (f refl)
placed_at false false x s k f = refl

kept_at : {X : Type 0} (a e : Bool) (s k : X) → (e ≡ true → a ≡ false → k ≡ s) → cond a s k ≡ cond (a || e) s k
kept_at true true s k f = refl
kept_at true false s k f = refl
kept_at false true s k f = f refl refl
kept_at false false s k f = refl

pub put_next : (texts : List Text) (i : ℕ) (t : Text) (kept on after : Before) → are_apart texts ≡ true → slice_get texts i ≡ Some t → take (i + 1) texts ≡ take i texts ++ t ∷ [] → ((name : List ℕ) → on name ≡ Put texts kept i name) → ((name : List ℕ) → after name ≡ cond (bytes_eq t.name name) (Some t.source) (on name)) → (name : List ℕ) → after name ≡ Put texts kept (i + 1) name
put_next texts i t kept on after apart e next are edits name =
    edits name
    ∙ ap (cond (bytes_eq t.name name) (Some t.source)) (are name)
    ∙ placed_at (has_name (take i texts) name) (bytes_eq t.name name) (Some t.source) (source_in texts name) (kept name) (λ h. ap (source_in texts) (sym ((bytes_eq-Decides t.name name).0 h)) ∙ source_there texts i t e apart)
    ∙ ap (λ (b : Bool). cond b (source_in texts name) (kept name)) (sym (named_step texts i t next name))

pub kept_next : (texts : List Text) (i : ℕ) (t : Text) (kept on : Before) → are_apart texts ≡ true → slice_get texts i ≡ Some t → take (i + 1) texts ≡ take i texts ++ t ∷ [] → kept t.name ≡ Some t.source → ((name : List ℕ) → on name ≡ Put texts kept i name) → (name : List ℕ) → on name ≡ Put texts kept (i + 1) name
kept_next texts i t kept on apart e next was are name =
    are name
    ∙ kept_at (has_name (take i texts) name) (bytes_eq t.name name) (source_in texts name) (kept name) (λ h none. ap kept (sym ((bytes_eq-Decides t.name name).0 h)) ∙ was ∙ sym (source_there texts i t e apart) ∙ ap (source_in texts) ((bytes_eq-Decides t.name name).0 h))
    ∙ ap (λ (b : Bool). cond b (source_in texts name) (kept name)) (sym (named_step texts i t next name))

-- in the end all are there
pub put_end : (texts : List Text) (kept before : Before) (n : ℕ) → take n texts ≡ texts → ((name : List ℕ) → kept name ≡ cond (has_name texts name) (before name) None) → (name : List ℕ) → Put texts kept n name ≡ source_in texts name
put_end texts kept before n all are name =
    ap (λ (ts : List Text). cond (has_name ts name) (source_in texts name) (kept name)) all
    ∙ by (has_name texts name) (not_named texts name) (are name) where
      by : (b : Bool) → (b ≡ false → source_in texts name ≡ None) → kept name ≡ cond b (before name) None → cond b (source_in texts name) (kept name) ≡ source_in texts name
      by true f e = refl
      by false f e = e ∙ sym (f refl)

-- of which there is a text that was there, it was
pub was_there : (texts : List Text) (i : ℕ) (t : Text) (kept before : Before) → slice_get texts i ≡ Some t → ((name : List ℕ) → kept name ≡ cond (has_name texts name) (before name) None) → before t.name ≡ Some t.source → kept t.name ≡ Some t.source
was_there texts i t kept before e are was = are t.name ∙ ap (λ (b : Bool). cond b (before t.name) None) (named_there texts i t e) ∙ was

-- one more is shared
pub shared_next : (f : Text → Text) (xs : List Text) (i : ℕ) (x : Text) → slice_get xs i ≡ Some x → slice_set (map f (take i xs) ++ drop i xs) i (f x) ≡ map f (take (suc i) xs) ++ drop (suc i) xs
shared_next f [] i x e = absurd cc
shared_next f (y ∷ ys) zero x e = let same : y ≡ x = cc in ap (λ (z : Text). f z ∷ ys) (sym same)
shared_next f (y ∷ ys) (suc i) x e = ap (λ (zs : List Text). f y ∷ zs) (shared_next f ys i x e)

pub shared_there : (f : Text → Text) (xs : List Text) (i : ℕ) (x : Text) → slice_get xs i ≡ Some x → slice_get (map f (take i xs) ++ drop i xs) i ≡ Some x
shared_there f [] i x e = absurd cc
shared_there f (y ∷ ys) zero x e = e
shared_there f (y ∷ ys) (suc i) x e = shared_there f ys i x e

pub text_within : (xs : List Text) (i : ℕ) → i < length xs → (x : Text) × (slice_get xs i ≡ Some x)
text_within [] i less = absurd (omega (arith, less))
text_within (y ∷ ys) zero less = (y, refl)
text_within (y ∷ ys) (suc i) less = text_within ys i (omega (arith, less))
