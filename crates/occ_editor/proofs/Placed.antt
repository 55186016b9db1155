-- A text at its place.
use Rattle.std.proofs.Common.{◌≡◌, ◌∙◌, ◌+◌, ◌<◌, Bool, true, false, not, ◌&&◌, ◌||◌, cond, ℕ, zero, suc, List, [], ◌∷◌, length, slice_set, Option, Some, None, IfSome, arith, refl, subst, sym, ap, if◌then◌else◌}
use Rattle.std.proofs.lemmas.Slice.Eq.{bytes_eq-Decides}
use Rattle.std.specs.List.{slice_get}
use Rattle.std.specs.Str.{bytes_eq}
use Rattle.std.specs.String.{string_bytes}
use Rattle.occ_board.specs.Machine.{State}
use Rattle.occ_editor_edits.specs.Documents.{ChangesAt, text_in}
use Rattle.occ_editor.specs.Placing.{source_on}
use Rattle.occ_editor.specs.Rooms.{AreOpen, HasTexts, Knows, source_at, source_in}
use Rattle.occ_editor_edits.specs.declared.documents.Document.{Document}
use Rattle.occ_editor.specs.inside.Placed.{place_at, place_from}
use Rattle.occ_files.specs.Gathering.{AreGiven, are_apart, has_name}
use Rattle.occ_files.specs.Paths.{Known}
use Rattle.occ_files.specs.declared.gathering.Text.{Text}
use Rattle.occ_forms.specs.Prepared.{Prepared}

-- the first file at the path is at this place
abbrev pub IsAt : List Text → List ℕ → ℕ → Type 0
IsAt [] path i = ⊥
IsAt (t ∷ ts) path zero = bytes_eq (string_bytes t.path) path ≡ true
IsAt (t ∷ ts) path (suc i) = (bytes_eq (string_bytes t.path) path ≡ false) × IsAt ts path i

from : (n : ℕ) (ts : List Text) (path : List ℕ) (i : ℕ) → place_from n ts path ≡ Some i → (k : ℕ) × (n + k ≡ i) × IsAt ts path k
from n [] path i e = absurd cc
from n (t ∷ ts) path i e = by (bytes_eq (string_bytes t.path) path) refl e (from (n + 1) ts path i) where
  by : (b : Bool) → bytes_eq (string_bytes t.path) path ≡ b → (if b then Some n else place_from (n + 1) ts path) ≡ Some i → (place_from (n + 1) ts path ≡ Some i → (k : ℕ) × (n + 1 + k ≡ i) × IsAt ts path k) → (k : ℕ) × (n + k ≡ i) × IsAt (t ∷ ts) path k
  by true h here rest = let is : n ≡ i = cc in (0, omega (arith, is), h)
  by false h there rest = let k = rest there in let is = k.1 in (suc k.0, omega (arith, is), (h, k.2))

pub is_at : (ts : List Text) (path : List ℕ) (i : ℕ) → place_at ts path ≡ Some i → IsAt ts path i
is_at ts path i e = let k = from 0 ts path i e in let is = k.1 in subst (IsAt ts path) (let same : k.0 ≡ i = omega (arith, is) in same) k.2

not_from : (n : ℕ) (ts : List Text) (path : List ℕ) → place_from n ts path ≡ None → source_at ts path ≡ None
not_from n [] path e = refl
not_from n (t ∷ ts) path e = by (bytes_eq (string_bytes t.path) path) e (not_from (n + 1) ts path) where
  by : (b : Bool) → (if b then Some n else place_from (n + 1) ts path) ≡ None → (place_from (n + 1) ts path ≡ None → source_at ts path ≡ None) → (if b then Some t.source else source_at ts path) ≡ None
  by true h rest = absurd cc
  by false h rest = rest h

pub not_at : (ts : List Text) (path : List ℕ) → place_at ts path ≡ None → source_at ts path ≡ None
not_at ts path e = not_from 0 ts path e

-- what is there
pub text_at : (ts : List Text) (path : List ℕ) (i : ℕ) → IsAt ts path i → (t : Text) × (slice_get ts i ≡ Some t) × (string_bytes t.path ≡ path) × (source_at ts path ≡ Some t.source) × (i < length ts)
text_at [] path i is = absurd is
text_at (t ∷ ts) path zero is = (t, refl, (bytes_eq-Decides (string_bytes t.path) path).0 is, ap (λ (b : Bool). if b then Some t.source else source_at ts path) is, omega arith)
text_at (t ∷ ts) path (suc i) is =
    let rest = text_at ts path i is.1 in
    let less = rest.4 in
    (rest.0, rest.1, rest.2, ap (λ (b : Bool). if b then Some t.source else source_at ts path) is.0 ∙ rest.3, omega (arith, less))

-- with another source
abbrev pub other_source : Text → Prepared → Text
other_source t s = record { path = t.path; name = t.name; source = s }

pub source_at_set : (ts : List Text) (path : List ℕ) (i : ℕ) (t : Text) (s : Prepared) → IsAt ts path i → slice_get ts i ≡ Some t → (p : List ℕ) → source_at (slice_set ts i (other_source t s)) p ≡ cond (bytes_eq path p) (Some s) (source_at ts p)
source_at_set [] path i t s is e p = absurd is
source_at_set (u ∷ us) path zero t s is e p =
    let same : u ≡ t = cc in
    let at : string_bytes t.path ≡ path = ap (λ (v : Text). string_bytes v.path) (sym same) ∙ (bytes_eq-Decides (string_bytes u.path) path).0 is in
    ap (λ (q : List ℕ). if bytes_eq q p then Some s else source_at us p) at
    ∙ by (bytes_eq path p) refl
    ∙ ap (λ (q : List ℕ). cond (bytes_eq path p) (Some s) (if bytes_eq q p then Some u.source else source_at us p)) (sym ((bytes_eq-Decides (string_bytes u.path) path).0 is)) where
      by : (b : Bool) → bytes_eq path p ≡ b → (if b then Some s else source_at us p) ≡ cond b (Some s) (if bytes_eq path p then Some u.source else source_at us p)
      by true h = refl
      by false h = sym (ap (λ (c : Bool). if c then Some u.source else source_at us p) h)
source_at_set (u ∷ us) path (suc i) t s is e p =
    ap (λ (o : Option Prepared). if bytes_eq (string_bytes u.path) p then Some u.source else o) (source_at_set us path i t s is.1 e p)
    ∙ by (bytes_eq (string_bytes u.path) p) refl (bytes_eq path p) refl where
      by : (b : Bool) → bytes_eq (string_bytes u.path) p ≡ b → (c : Bool) → bytes_eq path p ≡ c → (if b then Some u.source else cond c (Some s) (source_at us p)) ≡ cond c (Some s) (if b then Some u.source else source_at us p)
      by true h true k =
          let one : string_bytes u.path ≡ p = (bytes_eq-Decides (string_bytes u.path) p).0 h in
          let two : path ≡ p = (bytes_eq-Decides path p).0 k in
          let same : bytes_eq (string_bytes u.path) path ≡ true = (bytes_eq-Decides (string_bytes u.path) path).1 (one ∙ sym two) in
          let differs = is.0 in
          absurd cc
      by true h false k = refl
      by false h true k = refl
      by false h false k = refl

-- names stay
named_set : (ts : List Text) (i : ℕ) (t : Text) (s : Prepared) (name : List ℕ) → slice_get ts i ≡ Some t → has_name (slice_set ts i (other_source t s)) name ≡ has_name ts name
named_set [] i t s name e = absurd cc
named_set (u ∷ us) zero t s name e = let same : u ≡ t = cc in ap (λ (v : Text). bytes_eq v.name name || has_name us name) (sym same)
named_set (u ∷ us) (suc i) t s name e = ap (λ (b : Bool). bytes_eq u.name name || b) (named_set us i t s name e)

pub apart_set : (ts : List Text) (i : ℕ) (t : Text) (s : Prepared) → slice_get ts i ≡ Some t → are_apart (slice_set ts i (other_source t s)) ≡ are_apart ts
apart_set [] i t s e = absurd cc
apart_set (u ∷ us) zero t s e = let same : u ≡ t = cc in ap (λ (v : Text). not (has_name us v.name) && are_apart us) (sym same)
apart_set (u ∷ us) (suc i) t s e =
    ap (λ (b : Bool). not b && are_apart (slice_set us i (other_source t s))) (named_set us i t s u.name e) ∙ ap (λ (b : Bool). not (has_name us u.name) && b) (apart_set us i t s e)

split : (a b : Bool) → not a && b ≡ true → (a ≡ false) × (b ≡ true)
split true b h = absurd cc
split false b h = (refl, h)

there : (ts : List Text) (i : ℕ) (t : Text) → slice_get ts i ≡ Some t → has_name ts t.name ≡ true
there [] i t e = absurd cc
there (u ∷ us) zero t e =
    let is : u ≡ t = cc in
    ap (λ (b : Bool). b || has_name us t.name) (ap (λ (v : Text). bytes_eq v.name t.name) is ∙ (bytes_eq-Decides t.name t.name).1 refl)
there (u ∷ us) (suc i) t e = ap (λ (b : Bool). bytes_eq u.name t.name || b) (there us i t e) ∙ by (bytes_eq u.name t.name) where
  by : (b : Bool) → b || true ≡ true
  by true = refl
  by false = refl

source_in_set : (ts : List Text) (i : ℕ) (t : Text) (s : Prepared) → slice_get ts i ≡ Some t → are_apart ts ≡ true → (name : List ℕ) → source_in (slice_set ts i (other_source t s)) name ≡ cond (bytes_eq t.name name) (Some s) (source_in ts name)
source_in_set [] i t s e apart name = absurd cc
source_in_set (u ∷ us) zero t s e apart name =
    let same : u ≡ t = cc in
    by (bytes_eq t.name name) refl
    ∙ ap (λ (v : Text). cond (bytes_eq t.name name) (Some s) (if bytes_eq v.name name then Some v.source else source_in us name)) (sym same) where
      by : (b : Bool) → bytes_eq t.name name ≡ b → (if b then Some s else source_in us name) ≡ cond b (Some s) (if bytes_eq t.name name then Some t.source else source_in us name)
      by true h = refl
      by false h = sym (ap (λ (c : Bool). if c then Some t.source else source_in us name) h)
source_in_set (u ∷ us) (suc i) t s e apart name =
    ap (λ (o : Option Prepared). if bytes_eq u.name name then Some u.source else o) (source_in_set us i t s e (split (has_name us u.name) (are_apart us) apart).1 name)
    ∙ by (bytes_eq u.name name) refl (bytes_eq t.name name) refl where
      by : (b : Bool) → bytes_eq u.name name ≡ b → (c : Bool) → bytes_eq t.name name ≡ c → (if b then Some u.source else cond c (Some s) (source_in us name)) ≡ cond c (Some s) (if b then Some u.source else source_in us name)
      by true h true k =
          let one : u.name ≡ name = (bytes_eq-Decides u.name name).0 h in
          let two : t.name ≡ name = (bytes_eq-Decides t.name name).0 k in
          let none : has_name us u.name ≡ false = (split (has_name us u.name) (are_apart us) apart).0 in
          let is : has_name us u.name ≡ true = ap (has_name us) (one ∙ sym two) ∙ there us i t e in
          absurd cc
      by true h false k = refl
      by false h true k = refl
      by false h false k = refl

pub has_set : (before now : State) (ts : List Text) (i : ℕ) (t : Text) (s : Prepared) → slice_get ts i ≡ Some t → are_apart ts ≡ true → HasTexts before ts → ((name : List ℕ) → source_on now name ≡ cond (bytes_eq t.name name) (Some s) (source_on before name)) → HasTexts now (slice_set ts i (other_source t s))
has_set before now ts i t s e apart has edits name =
    edits name ∙ ap (cond (bytes_eq t.name name) (Some s)) (has name) ∙ sym (source_in_set ts i t s e apart name)

-- ---- open files

some : {X : Type 0} (a b : X) → Some a ≡ Some b → a ≡ b
some a b e = cc

pub open_beside : (before now : List Document) (path : List ℕ) (text : Option (List ℕ)) (ts : List Text) → ChangesAt before now path text → ((source : Prepared) → source_at ts path ≡ Some source → text ≡ Some source.text) → AreOpen before ts → AreOpen now ts
open_beside before now path text ts changes agrees are p bytes source e f = by (bytes_eq path p) refl (sym (changes p) ∙ e) where
  by : (b : Bool) → bytes_eq path p ≡ b → cond b text (text_in before p) ≡ Some bytes → source.text ≡ bytes
  by true h is =
      let same : path ≡ p = (bytes_eq-Decides path p).0 h in
      some source.text bytes (sym (agrees source (ap (source_at ts) same ∙ f)) ∙ is)
  by false h is = are p bytes source is f

pub open_put : (before now : List Document) (path : List ℕ) (s : Prepared) (ts us : List Text) → ChangesAt before now path (Some s.text) → ((p : List ℕ) → source_at us p ≡ cond (bytes_eq path p) (Some s) (source_at ts p)) → AreOpen before ts → AreOpen now us
open_put before now path s ts us changes put are p bytes source e f = by (bytes_eq path p) (sym (changes p) ∙ e) (sym (put p) ∙ f) where
  by : (b : Bool) → cond b (Some s.text) (text_in before p) ≡ Some bytes → cond b (Some s) (source_at ts p) ≡ Some source → source.text ≡ bytes
  by true is there = ap (λ (q : Prepared). q.text) (sym (some s source there)) ∙ some s.text bytes is
  by false is there = are p bytes source is there

pub given_open : (known : Known) (documents : List Document) (ts : List Text) → Knows known documents → AreGiven known ts → AreOpen documents ts
given_open known documents [] knows are p bytes source e f = absurd cc
given_open known documents (t ∷ ts) knows are p bytes source e f = by (bytes_eq (string_bytes t.path) p) refl f (given_open known documents ts knows are.1 p bytes source e) where
  by : (b : Bool) → bytes_eq (string_bytes t.path) p ≡ b → (if b then Some t.source else source_at ts p) ≡ Some source → (source_at ts p ≡ Some source → source.text ≡ bytes) → source.text ≡ bytes
  by true h is rest =
      let same : p ≡ string_bytes t.path = sym ((bytes_eq-Decides (string_bytes t.path) p).0 h) in
      let known_is : known (string_bytes t.path) ≡ Some (Some bytes) = ap known (sym same) ∙ knows p bytes e in
      let gives : Some t.source.text ≡ Some bytes = subst (λ (o : Option (Option (List ℕ))). IfSome o (λ held. Some t.source.text ≡ held)) known_is are.0 in
      ap (λ (q : Prepared). q.text) (sym (some t.source source is)) ∙ some t.source.text bytes gives
  by false h is rest = rest is

pub or_left : (a b : Bool) → a || b ≡ false → a ≡ false
or_left true b h = absurd cc
or_left false b h = refl

pub or_right : (a b : Bool) → a || b ≡ false → b ≡ false
or_right true b h = absurd cc
or_right false b h = h

-- the text of a name, where no two have one
pub source_named : (ts : List Text) (i : ℕ) (t : Text) → slice_get ts i ≡ Some t → are_apart ts ≡ true → source_in ts t.name ≡ Some t.source
source_named [] i t e apart = absurd cc
source_named (u ∷ us) zero t e apart =
    let same : u ≡ t = cc in
    ap (λ (b : Bool). if b then Some u.source else source_in us t.name) (ap (λ (v : Text). bytes_eq v.name t.name) same ∙ (bytes_eq-Decides t.name t.name).1 refl)
    ∙ ap (λ (v : Text). Some v.source) same
source_named (u ∷ us) (suc i) t e apart = by (bytes_eq u.name t.name) refl (source_named us i t e (split (has_name us u.name) (are_apart us) apart).1) where
  by : (b : Bool) → bytes_eq u.name t.name ≡ b → source_in us t.name ≡ Some t.source → (if b then Some u.source else source_in us t.name) ≡ Some t.source
  by true h rest =
      let one : u.name ≡ t.name = (bytes_eq-Decides u.name t.name).0 h in
      let none : has_name us u.name ≡ false = (split (has_name us u.name) (are_apart us) apart).0 in
      let is : has_name us u.name ≡ true = ap (has_name us) one ∙ there us i t e in
      absurd cc
  by false h rest = rest
