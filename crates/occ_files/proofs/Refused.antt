-- Refusals that are right stay so where files are added, and files keep their names.
use Rattle.std.proofs.Common.{◌≡◌, ◌∙◌, ◌++◌, ◌+◌, ◌≤◌, Bool, true, false, ◌||◌, ℕ, List, [], ◌∷◌, length, reverse, arith, refl, subst, sym, ap}
use Rattle.std.proofs.lemmas.List.{length-append, reverse-append}
use Rattle.std.specs.String.{string_bytes}
use Rattle.occ_files.proofs.Kept.{any_more, or_back}
use Rattle.occ_files.specs.Gathering.{AreNamed}
use Rattle.occ_files.specs.Paths.{Known, name_of}
use Rattle.occ_files.specs.Refusals.{AreRight, Held, IsRight, has_other, is_other}
use Rattle.occ_files.specs.declared.gathering.Text.{Text}
use Rattle.occ_files.specs.declared.refusal.Refusal.{Refusal}
use Rattle.occ_files.specs.declared.refusal.Why.{Why}
use Rattle.occ_files.specs.declared.refusal.Why.TheVariants as why

-- more files of which one is another one, if one was
abbrev pub Grows : List Text → List Text → Type 0
Grows texts more = (length texts ≤ length more) × ((path : List ℕ) → has_other texts path ≡ true → has_other more path ≡ true)

pub right_grows : (held : Held) (texts more : List Text) (path : List ℕ) (w : Why) → Grows texts more → IsRight held texts path w → IsRight held more path w
right_grows held texts more path why.NotThere grows is = is
right_grows held texts more path why.NoUnit grows is = is
right_grows held texts more path (why.Disk kind) grows is = is
right_grows held texts more path (why.Name fault) grows is = is
right_grows held texts more path (why.Text fault) grows is = is
right_grows held texts more path why.Twice grows is = grows.1 path is
right_grows held texts more path why.TooMany grows is = let less = grows.0 in omega (arith, less, is)

all_right_grows : (known : Known) (texts more : List Text) (refusals : List Refusal) → Grows texts more → AreRight known texts refusals → AreRight known more refusals
all_right_grows known texts more [] grows are = tt
all_right_grows known texts more (r ∷ rs) grows are = (right_grows (known (string_bytes r.path)) texts more (string_bytes r.path) r.why grows are.0, all_right_grows known texts more rs grows are.1)

grows_one : (texts : List Text) (t : Text) → Grows texts (texts ++ t ∷ [])
grows_one texts t = (
  (let len : length (texts ++ t ∷ []) ≡ length texts + 1 = length-append texts (t ∷ []) in omega (arith, len)),
  λ path has. any_more (is_other path) texts t ∙ ap (λ (b : Bool). b || is_other path t) has,
)

length_reverse : (texts : List Text) → length (reverse texts) ≡ length texts
length_reverse [] = refl
length_reverse (t ∷ ts) =
    let one : length (reverse (t ∷ ts)) ≡ length (reverse ts ++ t ∷ []) = ap length (reverse-append (t ∷ []) ts) in
    let two : length (reverse ts ++ t ∷ []) ≡ length (reverse ts) + 1 = length-append (reverse ts) (t ∷ []) in
    let three = length_reverse ts in
    omega (arith, one, two, three)

other_reverse : (texts : List Text) (path : List ℕ) → has_other (reverse texts) path ≡ has_other texts path
other_reverse [] path = refl
other_reverse (t ∷ ts) path =
    ap (λ (us : List Text). has_other us path) (reverse-append (t ∷ []) ts)
    ∙ any_more (is_other path) (reverse ts) t
    ∙ ap (λ (b : Bool). b || is_other path t) (other_reverse ts path)
    ∙ or_back (has_other ts path) (is_other path t)

pub all_right_more : (known : Known) (texts : List Text) (t : Text) (refusals : List Refusal) → AreRight known texts refusals → AreRight known (texts ++ t ∷ []) refusals
all_right_more known texts t refusals are = all_right_grows known texts (texts ++ t ∷ []) refusals (grows_one texts t) are

pub all_right_reverse : (known : Known) (texts : List Text) (refusals : List Refusal) → AreRight known texts refusals → AreRight known (reverse texts) refusals
all_right_reverse known texts refusals are = all_right_grows known texts (reverse texts) refusals ((let len = length_reverse texts in omega (arith, len)), λ path has. other_reverse texts path ∙ has) are

-- what is right of no file is right of any
pub right_alone : (held : Held) (texts : List Text) (path : List ℕ) (w : Why) → IsRight held [] path w → IsRight held texts path w
right_alone held texts path w is = right_grows held [] texts path w (omega arith, λ path has. absurd cc) is

pub right_more : (known : Known) (texts : List Text) (refusals : List Refusal) (r : Refusal) → AreRight known texts refusals → IsRight (known (string_bytes r.path)) texts (string_bytes r.path) r.why → AreRight known texts (refusals ++ r ∷ [])
right_more known texts [] r are is = (is, tt)
right_more known texts (x ∷ xs) r are is = (are.0, right_more known texts xs r are.1 is)

pub names_more : (texts : List Text) (t : Text) → AreNamed texts → t.name ≡ name_of (string_bytes t.path) → AreNamed (texts ++ t ∷ [])
names_more [] t are is = (is, tt)
names_more (u ∷ us) t are is = (are.0, names_more us t are.1 is)

pub names_reverse : (texts : List Text) → AreNamed texts → AreNamed (reverse texts)
names_reverse [] are = are
names_reverse (t ∷ ts) are = subst AreNamed (sym (reverse-append (t ∷ []) ts)) (names_more (reverse ts) t (names_reverse ts are.1) are.0)
