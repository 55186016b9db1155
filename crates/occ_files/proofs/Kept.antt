-- Files that were found or refused stay so.
use Rattle.std.proofs.Common.{◌≡◌, ◌∙◌, ◌++◌, ◌+◌, ◌<◌, ◌≤◌, take, Bool, true, false, ◌||◌, Bor, ℕ, zero, suc, List, [], ◌∷◌, length, reverse, Option, Some, None, IfSome, String, Global, arith, refl, subst, sym, ap}
use Rattle.std.specs.Prelude.{get_or, nat_lt}
use Rattle.std.specs.Slice.{IsItemAt}
use Rattle.std.proofs.lemmas.List.Elements.{All-more}
use Rattle.std.proofs.lemmas.Option.{slice_get_read}
use Rattle.std.proofs.lemmas.List.{reverse-append}
use Rattle.std.proofs.lemmas.Slice.Eq.{bytes_eq-Decides}
use Rattle.std.specs.List.{All, list_any, slice_get}
use Rattle.std.specs.Str.{bytes_eq}
use Rattle.std.specs.String.{string_bytes}
use Rattle.occ_files.specs.Gathering.{has_path, is_met, is_refused}
use Rattle.occ_files.specs.declared.gathering.Gathered.{Gathered}
use Rattle.occ_files.specs.declared.gathering.Text.{Text}
use Rattle.occ_files.specs.declared.refusal.Refusal.{Refusal}
use Rattle.occ_files.specs.inside.Found.{IsMet, Keeps}

or_false : (b : Bool) → b || false ≡ b
or_false true = refl
or_false false = refl

or_or : (a b c : Bool) → a || (b || c) ≡ (a || b) || c
or_or true b c = refl
or_or false b c = refl

pub or_true : (b : Bool) → b || true ≡ true
or_true true = refl
or_true false = refl

pub or_back : (a b : Bool) → a || b ≡ b || a
or_back true true = refl
or_back true false = refl
or_back false true = refl
or_back false false = refl

pub any_more : {A : Type 0} (p : A → Bool) (xs : List A) (x : A) → list_any p (xs ++ x ∷ []) ≡ list_any p xs || p x
any_more p [] x = or_false (p x)
any_more p (y ∷ ys) x = ap (λ (b : Bool). p y || b) (any_more p ys x) ∙ or_or (p y) (list_any p ys) (p x)

is_same : (a b : List ℕ) → a ≡ b → bytes_eq a b ≡ true
is_same a b e = (bytes_eq-Decides a b).1 e

pub refused_met : (texts : List Text) (refusals : List Refusal) (r : Refusal) (path : List ℕ) → string_bytes r.path ≡ path → is_met texts (refusals ++ r ∷ []) path ≡ true
refused_met texts refusals r path is =
    ap (λ (b : Bool). has_path texts path || b) (any_more (λ (x : Refusal). bytes_eq (string_bytes x.path) path) refusals r ∙ ap (λ (b : Bool). is_refused refusals path || b) (is_same (string_bytes r.path) path is) ∙ or_true (is_refused refusals path))
    ∙ or_true (has_path texts path)

there : (texts : List Text) (t : Text) (path : List ℕ) → string_bytes t.path ≡ path → has_path (texts ++ t ∷ []) path ≡ true
there texts t path is = any_more (λ (x : Text). bytes_eq (string_bytes x.path) path) texts t ∙ ap (λ (b : Bool). has_path texts path || b) (is_same (string_bytes t.path) path is) ∙ or_true (has_path texts path)

pub found_met : (texts : List Text) (refusals : List Refusal) (t : Text) (path : List ℕ) → string_bytes t.path ≡ path → is_met (texts ++ t ∷ []) refusals path ≡ true
found_met texts refusals t path is = ap (λ (b : Bool). b || is_refused refusals path) (there texts t path is)

pub path_at : (texts : List Text) (i : ℕ) (t : Text) → slice_get texts i ≡ Some t → has_path texts (string_bytes t.path) ≡ true
path_at [] i t e = absurd cc
path_at (x ∷ xs) zero t e =
    let one : x ≡ t = cc in
    ap (λ (b : Bool). b || has_path xs (string_bytes t.path)) (is_same (string_bytes x.path) (string_bytes t.path) (ap (λ (y : Text). string_bytes y.path) one))
path_at (x ∷ xs) (suc i) t e = ap (λ (b : Bool). bytes_eq (string_bytes x.path) (string_bytes t.path) || b) (path_at xs i t e) ∙ or_true (bytes_eq (string_bytes x.path) (string_bytes t.path))

pub path_reverse : (texts : List Text) (path : List ℕ) → has_path (reverse texts) path ≡ has_path texts path
path_reverse [] path = refl
path_reverse (t ∷ ts) path =
    ap (λ (us : List Text). has_path us path) (reverse-append (t ∷ []) ts)
    ∙ any_more (λ (x : Text). bytes_eq (string_bytes x.path) path) (reverse ts) t
    ∙ ap (λ (b : Bool). b || bytes_eq (string_bytes t.path) path) (path_reverse ts path)
    ∙ or_back (has_path ts path) (bytes_eq (string_bytes t.path) path)

pub keeps_twice : (a b c : Gathered) → Keeps a b → Keeps b c → Keeps a c
keeps_twice a b c one two path met = two path (one path met)

pub all_kept : (before now : Gathered) (paths : List (String Global)) → Keeps before now → All (λ path. IsMet before (string_bytes path)) paths → All (λ path. IsMet now (string_bytes path)) paths
all_kept before now paths keeps all k d within = keeps (string_bytes (get_or paths k d)) (all k d within)

-- what stands at a place is there
pub item_there : (texts : List Text) (i : ℕ) (r : Option (Bor Text)) → IsItemAt texts i r → IfSome r (λ t. has_path texts (string_bytes t.now.path) ≡ true)
item_there texts i None is = tt
item_there texts i (Some t) is =
    let at : true ≡ nat_lt i (length texts) = is.0 in
    let less : i < length texts = grind (arith, at) in
    path_at texts i t.now (slice_get_read texts (length texts) i t.now refl less is.1)

take_whole : {X : Type 0} (xs : List X) (i : ℕ) → length xs ≤ i → take i xs ≡ xs
take_whole [] zero past = refl
take_whole [] (suc i) past = refl
take_whole (x ∷ xs) zero past = absurd (omega (arith, past))
take_whole (x ∷ xs) (suc i) past = ap (λ (ys : List _). x ∷ ys) (take_whole xs i (omega (arith, past)))

-- one more of those that are asked for is met
pub asked_more : (before now : Gathered) (paths : List (String Global)) (i : ℕ) (path : String Global) → i < length paths → path ≡ get_or paths i path → Keeps before now → IsMet now (string_bytes path) → All (λ path. IsMet before (string_bytes path)) (take i paths) → All (λ path. IsMet now (string_bytes path)) (take (i + 1) paths)
asked_more before now paths i path less is keeps met all = All-more (λ (p : String Global). IsMet now (string_bytes p)) paths i path less (all_kept before now (take i paths) keeps all) (subst (λ (p : String Global). IsMet now (string_bytes p)) is met)

-- and then all are
pub asked_all : (found : Gathered) (paths : List (String Global)) (i : ℕ) → length paths ≤ i → All (λ path. IsMet found (string_bytes path)) (take i paths) → All (λ path. IsMet found (string_bytes path)) paths
asked_all found paths i past all = subst (All (λ (path : String Global). IsMet found (string_bytes path))) (take_whole paths i past) all

-- so they are the other way round
pub met_reverse : (texts : List Text) (refusals : List Refusal) (paths : List (String Global)) → All (λ path. is_met texts refusals (string_bytes path) ≡ true) paths → All (λ path. is_met (reverse texts) refusals (string_bytes path) ≡ true) paths
met_reverse texts refusals paths all k d within = ap (λ (b : Bool). b || is_refused refusals (string_bytes (get_or paths k d))) (path_reverse texts (string_bytes (get_or paths k d))) ∙ all k d within
