-- The files that were found, where one more is.
use Rattle.std.proofs.Common.{◌≡◌, ◌∙◌, ◌++◌, ◌<◌, Bool, Bor, IfSome, true, false, not, ◌&&◌, ◌||◌, cond, ℕ, suc, List, [], ◌∷◌, length, reverse, zero, Option, Some, None, is_some, arith, refl, subst, sym, ap, if◌then◌else◌}
use Rattle.std.proofs.lemmas.List.{reverse-append}
use Rattle.std.proofs.lemmas.Map.Text.{is_eq-slice_cmp}
use Rattle.std.proofs.lemmas.Slice.Eq.{bytes_eq-Decides}
use Rattle.std.specs.BTreeMap.{BTreeMap, get}
use Rattle.std.specs.Prelude.{nat_lt}
use Rattle.std.specs.Option.{option_map}
use Rattle.std.proofs.lemmas.Option.{slice_get_read}
use Rattle.std.specs.Ordering.{is_eq}
use Rattle.std.specs.Slice.{IsItemAt}
use Rattle.std.specs.Str.{bytes_eq}
use Rattle.std.specs.String.{string_bytes}
use Rattle.std.specs.List.{list_any, slice_get}
use Rattle.occ_files.proofs.Kept.{or_true}
use Rattle.occ_files.proofs.Refused.{all_right_more, names_more, right_more}
use Rattle.occ_files.specs.Gathering.{AreGiven, are_apart, has_name}
use Rattle.occ_files.specs.Paths.{Gives, Known, name_of}
use Rattle.occ_files.specs.Refusals.{IsRight, has_other, is_other}
use Rattle.occ_files.specs.declared.gathering.Text.{Text}
use Rattle.occ_files.specs.declared.refusal.Refusal.{Refusal}
use Rattle.occ_files.specs.inside.Found.{AreFound, place_in}
use Rattle.occ_project.specs.Reads.{name_cmp}

-- a name is there where it has a place, which is within
named_place : (texts : List Text) (name : List ℕ) → is_some (place_in texts name) ≡ has_name texts name
named_place [] name = refl
named_place (t ∷ ts) name = by (bytes_eq t.name name) (place_in ts name) (named_place ts name) where
  by : (b : Bool) (o : Option ℕ) → is_some o ≡ has_name ts name → is_some (if b then Some 0 else option_map suc o) ≡ b || has_name ts name
  by true o e = refl
  by false None e = e
  by false (Some i) e = e

within : (texts : List Text) (name : List ℕ) (i : ℕ) → place_in texts name ≡ Some i → i < length texts
within [] name i e = absurd cc
within (t ∷ ts) name i e = by (bytes_eq t.name name) (place_in ts name) (λ k. within ts name k) e where
  by : (b : Bool) (o : Option ℕ) → ((k : ℕ) → o ≡ Some k → k < length ts) → (if b then Some 0 else option_map suc o) ≡ Some i → i < length (t ∷ ts)
  by true o f h = let zero_is : 0 ≡ i = cc in omega (arith, zero_is)
  by false None f h = absurd cc
  by false (Some k) f h = let at : suc k ≡ i = cc in let less = f k refl in omega (arith, at, less)

pub none_named : (texts : List Text) (places : BTreeMap (List ℕ) ℕ) (name : List ℕ) → ((n : List ℕ) → get name_cmp places n ≡ place_in texts n) → get name_cmp places name ≡ None → has_name texts name ≡ false
none_named texts places name placed none = sym (named_place texts name) ∙ ap (λ (o : Option ℕ). is_some o) (sym (placed name) ∙ none)

pub some_named : (texts : List Text) (places : BTreeMap (List ℕ) ℕ) (name : List ℕ) (i : ℕ) → ((n : List ℕ) → get name_cmp places n ≡ place_in texts n) → get name_cmp places name ≡ Some i → nat_lt i (length texts) ≡ has_name texts name
some_named texts places name i placed there =
    let less : i < length texts = within texts name i (sym (placed name) ∙ there) in
    let is_less : nat_lt i (length texts) ≡ true = grind (arith, less) in
    is_less
    ∙ sym (sym (named_place texts name) ∙ ap (λ (o : Option ℕ). is_some o) (sym (placed name) ∙ there))

-- what has the place of a name has this name
named_at : (texts : List Text) (name : List ℕ) (i : ℕ) (t : Text) → place_in texts name ≡ Some i → slice_get texts i ≡ Some t → bytes_eq t.name name ≡ true
named_at [] name i t place at = absurd cc
named_at (x ∷ xs) name i t place at = by (bytes_eq x.name name) refl (place_in xs name) refl i place at (λ k. named_at xs name k t) where
  by : (b : Bool) → bytes_eq x.name name ≡ b → (o : Option ℕ) → place_in xs name ≡ o → (k : ℕ) → (if b then Some 0 else option_map suc o) ≡ Some k → slice_get (x ∷ xs) k ≡ Some t → ((n : ℕ) → place_in xs name ≡ Some n → slice_get xs n ≡ Some t → bytes_eq t.name name ≡ true) → bytes_eq t.name name ≡ true
  by true e o m zero p here rest = let one : x ≡ t = cc in ap (λ (y : Text). bytes_eq y.name name) (sym one) ∙ e
  by true e o m (suc k) p here rest = absurd cc
  by false e None m k p here rest = absurd cc
  by false e (Some j) m zero p here rest = absurd cc
  by false e (Some j) m (suc k) p here rest = let same : j ≡ k = cc in rest k (m ∙ ap Some same) here

any_at : (p : Text → Bool) (texts : List Text) (i : ℕ) (t : Text) → slice_get texts i ≡ Some t → p t ≡ true → list_any p texts ≡ true
any_at p [] i t at is = absurd cc
any_at p (x ∷ xs) zero t at is = let one : x ≡ t = cc in ap (λ (y : Text). p y || list_any p xs) one ∙ ap (λ (b : Bool). b || list_any p xs) is
any_at p (x ∷ xs) (suc i) t at is = ap (λ (b : Bool). p x || b) (any_at p xs i t at is) ∙ or_true (p x)

pub other_at : (texts : List Text) (name : List ℕ) (i : ℕ) (t : Text) (path : List ℕ) → place_in texts name ≡ Some i → slice_get texts i ≡ Some t → name ≡ name_of path → bytes_eq (string_bytes t.path) path ≡ false → has_other texts path ≡ true
other_at texts name i t path place at is differs =
    let same : bytes_eq t.name (name_of path) ≡ true = ap (bytes_eq t.name) (sym is) ∙ named_at texts name i t place at in
    any_at (is_other path) texts i t at (ap (λ (b : Bool). b && not (bytes_eq (string_bytes t.path) path)) same ∙ ap not differs)

pub other_there : (texts : List Text) (name : List ℕ) (i : ℕ) (r : Option (Bor Text)) → place_in texts name ≡ Some i → IsItemAt texts i r → IfSome r (λ t. (path : List ℕ) → name ≡ name_of path → bytes_eq (string_bytes t.now.path) path ≡ false → has_other texts path ≡ true)
other_there texts name i None place is = tt
other_there texts name i (Some t) place is =
    let at : true ≡ nat_lt i (length texts) = is.0 in
    let less : i < length texts = grind (arith, at) in
    λ path named differs. other_at texts name i t.now path place (slice_get_read texts (length texts) i t.now refl less is.1) named differs

-- ---- one more

given_more : (known : Known) (texts : List Text) (t : Text) → AreGiven known texts → Gives known (string_bytes t.path) (Some t.source.text) → AreGiven known (texts ++ t ∷ [])
given_more known [] t are more = (more, tt)
given_more known (u ∷ us) t are more = (are.0, given_more known us t are.1 more)

named_more : (texts : List Text) (t : Text) (name : List ℕ) → has_name (texts ++ t ∷ []) name ≡ has_name texts name || bytes_eq t.name name
named_more [] t name = by (bytes_eq t.name name) where
  by : (b : Bool) → b || false ≡ b
  by true = refl
  by false = refl
named_more (u ∷ us) t name = ap (λ (b : Bool). bytes_eq u.name name || b) (named_more us t name) ∙ by (bytes_eq u.name name) where
  by : (b : Bool) → b || (has_name us name || bytes_eq t.name name) ≡ (b || has_name us name) || bytes_eq t.name name
  by true = refl
  by false = refl

not_back : (a b : List ℕ) → bytes_eq a b ≡ false → bytes_eq b a ≡ false
not_back a b differs = by (bytes_eq b a) refl where
  by : (c : Bool) → bytes_eq b a ≡ c → bytes_eq b a ≡ false
  by false h = h
  by true h = let same : bytes_eq a b ≡ true = (bytes_eq-Decides a b).1 (sym ((bytes_eq-Decides b a).0 h)) in absurd cc

pub apart_more : (texts : List Text) (t : Text) → are_apart texts ≡ true → has_name texts t.name ≡ false → are_apart (texts ++ t ∷ []) ≡ true
apart_more [] t are none = refl
apart_more (u ∷ us) t are none =
    by (has_name us u.name) (bytes_eq u.name t.name) (has_name us t.name) (bytes_eq t.name u.name) are none (not_back u.name t.name) (apart_more us t) (named_more us t u.name) where
      by : (a b c d : Bool) → not a && are_apart us ≡ true → b || c ≡ false → (b ≡ false → d ≡ false) → (are_apart us ≡ true → c ≡ false → are_apart (us ++ t ∷ []) ≡ true)
          → has_name (us ++ t ∷ []) u.name ≡ a || d → not (has_name (us ++ t ∷ []) u.name) && are_apart (us ++ t ∷ []) ≡ true
      by true b c d h n back rest more = absurd cc
      by false true c d h n back rest more = absurd cc
      by false false true d h n back rest more = absurd cc
      by false false false true h n back rest more = let no : true ≡ false = back refl in absurd cc
      by false false false false h n back rest more = ap (λ (b : Bool). not b && are_apart (us ++ t ∷ [])) more ∙ rest h refl

-- the new one has the last place
alone : (b : Bool) → (if b then Some 0 else option_map suc None) ≡ cond b (Some 0) None
alone true = refl
alone false = refl

place_more : (texts : List Text) (t : Text) (name : List ℕ) → has_name texts t.name ≡ false → place_in (texts ++ t ∷ []) name ≡ cond (bytes_eq t.name name) (Some (length texts)) (place_in texts name)
place_more [] t name none = alone (bytes_eq t.name name)
place_more (u ∷ us) t name none = by (bytes_eq u.name t.name) refl (has_name us t.name) refl none (place_more us t name) where
  mixed : (b c : Bool) → (b ≡ true → c ≡ true → ⊥) → (if b then Some 0 else option_map suc (cond c (Some (length us)) (place_in us name))) ≡ cond c (Some (suc (length us))) (if b then Some 0 else option_map suc (place_in us name))
  mixed true true f = absurd (f refl refl)
  mixed true false f = refl
  mixed false true f = refl
  mixed false false f = refl

  other : bytes_eq u.name t.name ≡ false → bytes_eq u.name name ≡ true → bytes_eq t.name name ≡ true → ⊥
  other h a b =
      let one : u.name ≡ name = (bytes_eq-Decides u.name name).0 a in
      let two : t.name ≡ name = (bytes_eq-Decides t.name name).0 b in
      let same : bytes_eq u.name t.name ≡ true = (bytes_eq-Decides u.name t.name).1 (one ∙ sym two) in
      cc (same, h)

  by : (b : Bool) → bytes_eq u.name t.name ≡ b → (c : Bool) → has_name us t.name ≡ c → b || c ≡ false
      → (has_name us t.name ≡ false → place_in (us ++ t ∷ []) name ≡ cond (bytes_eq t.name name) (Some (length us)) (place_in us name))
      → (if bytes_eq u.name name then Some 0 else option_map suc (place_in (us ++ t ∷ []) name)) ≡ cond (bytes_eq t.name name) (Some (suc (length us))) (if bytes_eq u.name name then Some 0 else option_map suc (place_in us name))
  by true h c q n rest = absurd cc
  by false h true q n rest = absurd cc
  by false h false q n rest = ap (λ (o : Option ℕ). if bytes_eq u.name name then Some 0 else option_map suc o) (rest q) ∙ mixed (bytes_eq u.name name) (bytes_eq t.name name) (other h)

pub found_more : (known : Known) (texts : List Text) (refusals : List Refusal) (places more : BTreeMap (List ℕ) ℕ) (t : Text) (n : ℕ) → AreFound known texts refusals places → has_name texts t.name ≡ false → t.name ≡ name_of (string_bytes t.path) → Gives known (string_bytes t.path) (Some t.source.text) → n ≡ length texts
    → ((name : List ℕ) → get name_cmp more name ≡ cond (is_eq (name_cmp t.name name)) (Some n) (get name_cmp places name)) → AreFound known (texts ++ t ∷ []) refusals more
found_more known texts refusals places more t n found none named given len updates = record {
  given = given_more known texts t found.given given;
  named = names_more texts t found.named named;
  right = all_right_more known texts t refusals found.right;
  apart = apart_more texts t found.apart none;
  placed = λ name.
      updates name
      ∙ ap (λ (b : Bool). cond b (Some n) (get name_cmp places name)) (is_eq-slice_cmp t.name name)
      ∙ ap (λ (m : ℕ). cond (bytes_eq t.name name) (Some m) (get name_cmp places name)) len
      ∙ ap (cond (bytes_eq t.name name) (Some (length texts))) (found.placed name)
      ∙ sym (place_more texts t name none);
}

-- one more that is not checked
pub refused_more : (known : Known) (texts : List Text) (refusals : List Refusal) (places : BTreeMap (List ℕ) ℕ) (r : Refusal) → AreFound known texts refusals places → IsRight (known (string_bytes r.path)) texts (string_bytes r.path) r.why → AreFound known texts (refusals ++ r ∷ []) places
refused_more known texts refusals places r found right = record {
  given = found.given;
  named = found.named;
  right = right_more known texts refusals r found.right right;
  apart = found.apart;
  placed = found.placed;
}

-- ---- the other way round

next : (t : Text) (ts : List Text) → reverse (t ∷ ts) ≡ reverse ts ++ t ∷ []
next t ts = reverse-append (t ∷ []) ts

pub given_reverse : (known : Known) (texts : List Text) → AreGiven known texts → AreGiven known (reverse texts)
given_reverse known [] are = are
given_reverse known (t ∷ ts) are = subst (AreGiven known) (sym (next t ts)) (given_more known (reverse ts) t (given_reverse known ts are.1) are.0)

named_reverse : (texts : List Text) (name : List ℕ) → has_name (reverse texts) name ≡ has_name texts name
named_reverse [] name = refl
named_reverse (t ∷ ts) name =
    ap (λ (us : List Text). has_name us name) (next t ts)
    ∙ named_more (reverse ts) t name
    ∙ ap (λ (b : Bool). b || bytes_eq t.name name) (named_reverse ts name)
    ∙ by (has_name ts name) (bytes_eq t.name name) where
      by : (a b : Bool) → a || b ≡ b || a
      by true true = refl
      by true false = refl
      by false true = refl
      by false false = refl

pub apart_reverse : (texts : List Text) → are_apart texts ≡ true → are_apart (reverse texts) ≡ true
apart_reverse [] are = refl
apart_reverse (t ∷ ts) are = by (has_name ts t.name) refl are (apart_reverse ts) where
  by : (b : Bool) → has_name ts t.name ≡ b → not b && are_apart ts ≡ true → (are_apart ts ≡ true → are_apart (reverse ts) ≡ true) → are_apart (reverse (t ∷ ts)) ≡ true
  by true h all rest = absurd cc
  by false h all rest = ap are_apart (next t ts) ∙ apart_more (reverse ts) t (rest all) (named_reverse ts t.name ∙ h)
