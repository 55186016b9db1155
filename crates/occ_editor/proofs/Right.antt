-- Refusals of open files are right, and stay so.
use Rattle.std.proofs.Common.{◌≡◌, ◌∙◌, ◌||◌, ◌&&◌, ◌≤◌, Bool, true, false, cond, not, ℕ, zero, suc, List, [], ◌∷◌, length, map, slice_set, Option, Some, None, IfSome, arith, refl, subst, sym, ap, if◌then◌else◌}
use Rattle.std.proofs.lemmas.Slice.Eq.{bytes_eq-Decides}
use Rattle.std.specs.List.{slice_get}
use Rattle.std.specs.Str.{bytes_eq}
use Rattle.std.specs.String.{string_bytes}
use Rattle.occ_editor.proofs.Placed.{other_source}
use Rattle.occ_editor.specs.Publishing.{refusal_at}
use Rattle.occ_editor.specs.Rooms.{Knows, RefusesRightly}
use Rattle.occ_editor.specs.inside.Bringing.{Before, shared_by}
use Rattle.occ_editor_edits.specs.Documents.{ChangesAt, text_in}
use Rattle.occ_editor_edits.specs.declared.documents.Document.{Document}
use Rattle.occ_files.proofs.Refused.{Grows, right_grows}
use Rattle.occ_files.specs.Gathering.{AreNamed, is_refused}
use Rattle.occ_files.specs.Paths.{Known, name_of}
use Rattle.occ_files.specs.Refusals.{AreRight, Held, IsRight, has_other, is_other}
use Rattle.occ_files.specs.declared.gathering.Text.{Text}
use Rattle.occ_files.specs.declared.refusal.Refusal.{Refusal}
use Rattle.occ_files.specs.declared.refusal.Why.{Why}
use Rattle.occ_forms.specs.Prepared.{Prepared}

pub right_open : (known : Known) (documents : List Document) (texts : List Text) (refusals : List Refusal) → Knows known documents → AreRight known texts refusals → RefusesRightly documents texts refusals
right_open known documents texts [] knows are path bytes why e f = absurd cc
right_open known documents texts (r ∷ rs) knows are path bytes why e f = by (bytes_eq (string_bytes r.path) path) refl f (right_open known documents texts rs knows are.1 path bytes why e) where
  by : (b : Bool) → bytes_eq (string_bytes r.path) path ≡ b → (if b then Some r.why else refusal_at rs path) ≡ Some why → (refusal_at rs path ≡ Some why → IsRight (Some (Some bytes)) texts path why) → IsRight (Some (Some bytes)) texts path why
  by true h is rest =
      let same : string_bytes r.path ≡ path = (bytes_eq-Decides (string_bytes r.path) path).0 h in
      let reason : r.why ≡ why = cc in
      let held : known (string_bytes r.path) ≡ Some (Some bytes) = ap known same ∙ knows path bytes e in
      subst (IsRight (Some (Some bytes)) texts path) reason (subst (λ (p : List ℕ). IsRight (Some (Some bytes)) texts p r.why) same (subst (λ (o : Held). IsRight o texts (string_bytes r.path) r.why) held are.0))
  by false h is rest = rest is

-- a file that is refused has a reason
pub reason : (refusals : List Refusal) (path : List ℕ) → is_refused refusals path ≡ true → (why : Why) × (refusal_at refusals path ≡ Some why)
reason [] path h = absurd cc
reason (r ∷ rs) path h = by (bytes_eq (string_bytes r.path) path) h (reason rs path) where
  by : (b : Bool) → b || is_refused rs path ≡ true → (is_refused rs path ≡ true → (why : Why) × (refusal_at rs path ≡ Some why)) → (why : Why) × ((if b then Some r.why else refusal_at rs path) ≡ Some why)
  by true k rest = (r.why, refl)
  by false k rest = rest k

-- where a file that is not refused changes, the others stay right
pub right_beside : (before now : List Document) (path : List ℕ) (text : Option (List ℕ)) (ts us : List Text) (refusals : List Refusal) → ChangesAt before now path text → refusal_at refusals path ≡ None → Grows ts us → RefusesRightly before ts refusals → RefusesRightly now us refusals
right_beside before now path text ts us refusals changes none grows are p bytes why e f = by (bytes_eq path p) refl (sym (changes p) ∙ e) where
  by : (b : Bool) → bytes_eq path p ≡ b → cond b text (text_in before p) ≡ Some bytes → IsRight (Some (Some bytes)) us p why
  by true h is =
      let same : path ≡ p = (bytes_eq-Decides path p).0 h in
      let no_reason : refusal_at refusals p ≡ None = ap (refusal_at refusals) (sym same) ∙ none in
      absurd cc
  by false h is = right_grows (Some (Some bytes)) ts us p why grows (are p bytes why is f)

pub grows_same : (ts : List Text) → Grows ts ts
grows_same ts = (omega arith, λ path has. has)

-- ---- texts that are what they were before

pub grows_shared : (before : Before) (ts : List Text) → Grows ts (map (shared_by before) ts)
grows_shared before ts = ((let len = lengths ts in omega (arith, len)), λ path has. others ts path ∙ has) where
  lengths : (us : List Text) → length (map (shared_by before) us) ≡ length us
  lengths [] = refl
  lengths (u ∷ us) = ap suc (lengths us)

  others : (us : List Text) (path : List ℕ) → has_other (map (shared_by before) us) path ≡ has_other us path
  others [] path = refl
  others (u ∷ us) path = ap (λ (b : Bool). is_other path u || b) (others us path)

pub named_shared : (before : Before) (ts : List Text) → AreNamed ts → AreNamed (map (shared_by before) ts)
named_shared before [] are = are
named_shared before (t ∷ ts) are = (are.0, named_shared before ts are.1)

-- ---- another source at a place

pub grows_set : (ts : List Text) (i : ℕ) (t : Text) (s : Prepared) → slice_get ts i ≡ Some t → Grows ts (slice_set ts i (other_source t s))
grows_set ts i t s e = ((let len = lengths ts i e in omega (arith, len)), λ path has. others ts i path e ∙ has) where
  lengths : (us : List Text) (k : ℕ) → slice_get us k ≡ Some t → length (slice_set us k (other_source t s)) ≡ length us
  lengths [] k f = absurd cc
  lengths (u ∷ us) zero f = refl
  lengths (u ∷ us) (suc k) f = ap suc (lengths us k f)

  others : (us : List Text) (k : ℕ) (path : List ℕ) → slice_get us k ≡ Some t → has_other (slice_set us k (other_source t s)) path ≡ has_other us path
  others [] k path f = absurd cc
  others (u ∷ us) zero path f = let same : u ≡ t = cc in ap (λ (v : Text). is_other path v || has_other us path) (sym same)
  others (u ∷ us) (suc k) path f = ap (λ (b : Bool). is_other path u || b) (others us k path f)

pub named_set : (ts : List Text) (i : ℕ) (t : Text) (s : Prepared) → slice_get ts i ≡ Some t → AreNamed ts → AreNamed (slice_set ts i (other_source t s))
named_set [] i t s e are = absurd cc
named_set (u ∷ us) zero t s e are = let same : u ≡ t = cc in (subst (λ (v : Text). v.name ≡ name_of (string_bytes v.path)) same are.0, are.1)
named_set (u ∷ us) (suc i) t s e are = (are.0, named_set us i t s e are.1)

pub name_at : (ts : List Text) (i : ℕ) (t : Text) → slice_get ts i ≡ Some t → AreNamed ts → t.name ≡ name_of (string_bytes t.path)
name_at [] i t e are = absurd cc
name_at (u ∷ us) zero t e are = let same : u ≡ t = cc in subst (λ (v : Text). v.name ≡ name_of (string_bytes v.path)) same are.0
name_at (u ∷ us) (suc i) t e are = name_at us i t e are.1
