-- Lists of what is sent, where one more is added.
use Rattle.std.proofs.Common.{◌≡◌, ◌∙◌, ◌++◌, ◌+◌, ◌<◌, ◌≤◌, ◌||◌, Bool, false, true, ℕ, zero, suc, List, [], ◌∷◌, Option, Some, None, arith, codes, length, map, refl, subst, sym, take, ap}
use Rattle.std.proofs.lemmas.List.{append_assoc, take_more}
use Rattle.std.specs.List.{flat_map}
use Rattle.std.specs.Prelude.{get_or}
use Rattle.serde_json.specs.Data.{Data, array}
use Rattle.serde_json.specs.View.{items_of}
use Rattle.serde_json.specs.Written.{has_float, items_have_float}
use Rattle.occ_editor.specs.declared.editor.Published.{Published}
use Rattle.occ_editor_messages.specs.Sent.{AreTold, IsTold, diagnostic_data, first_data, other_data}
use Rattle.occ_files.specs.declared.refusal.Why.{Why}
use Rattle.occ_messages.specs.declared.message.Message.{Message}
use Rattle.occ_messages.specs.declared.told.Quoted.{Quoted}

pub map_end : {A B : Type 0} (f : A → B) (xs : List A) (x : A) → map f (xs ++ x ∷ []) ≡ map f xs ++ f x ∷ []
map_end f [] x = refl
map_end {A} {B} f (y ∷ ys) x = ap (λ (zs : List B). f y ∷ zs) (map_end f ys x)

take_next : {A : Type 0} (xs : List A) (i : ℕ) (x : A) → i < length xs → x ≡ get_or xs i x → take (i + 1) xs ≡ take i xs ++ x ∷ []
take_next {A} xs i x less is = take_more xs i x less ∙ ap (λ (y : A). take i xs ++ y ∷ []) (sym is)

take_whole : {A : Type 0} (xs : List A) (i : ℕ) → length xs ≤ i → take i xs ≡ xs
take_whole [] zero past = refl
take_whole [] (suc i) past = refl
take_whole (x ∷ xs) zero past = absurd (omega (arith, past))
take_whole {A} (x ∷ xs) (suc i) past = ap (λ (ys : List A). x ∷ ys) (take_whole xs i (omega (arith, past)))

-- one more of a list that is mapped
pub mapped : {A B : Type 0} (f : A → B) (xs : List A) (i : ℕ) (x : A) (front before : List B) → i < length xs → x ≡ get_or xs i x → before ≡ front ++ map f (take i xs) → before ++ f x ∷ [] ≡ front ++ map f (take (i + 1) xs)
mapped {A} {B} f xs i x front before less is so_far =
    ap (λ (ys : List B). ys ++ f x ∷ []) so_far
    ∙ append_assoc front (map f (take i xs)) (f x ∷ [])
    ∙ ap (λ (ys : List B). front ++ ys) (sym (map_end f (take i xs) x))
    ∙ ap (λ (ys : List A). front ++ map f ys) (sym (take_next xs i x less is))

pub mapped_all : {A B : Type 0} (f : A → B) (xs : List A) (i : ℕ) (front before : List B) → length xs ≤ i → before ≡ front ++ map f (take i xs) → before ≡ front ++ map f xs
mapped_all {A} f xs i front before past so_far = so_far ∙ ap (λ (ys : List A). front ++ map f ys) (take_whole xs i past)

flat_end : {A B : Type 0} (f : A → List B) (xs : List A) (x : A) → flat_map f (xs ++ x ∷ []) ≡ flat_map f xs ++ f x
flat_end f [] x = ends (f x) where
  ends : {B : Type 0} (ys : List B) → ys ++ [] ≡ ys
  ends [] = refl
  ends {B} (y ∷ ys) = ap (λ (zs : List B). y ∷ zs) (ends ys)
flat_end {A} {B} f (y ∷ ys) x = ap (λ (zs : List B). f y ++ zs) (flat_end f ys x) ∙ sym (append_assoc (f y) (flat_map f ys) (f x))

-- one more of a list whose texts are joined
pub joined : {A B : Type 0} (f : A → List B) (xs : List A) (i : ℕ) (x : A) (front before : List B) → i < length xs → x ≡ get_or xs i x → before ≡ front ++ flat_map f (take i xs) → before ++ f x ≡ front ++ flat_map f (take (i + 1) xs)
joined {A} {B} f xs i x front before less is so_far =
    ap (λ (ys : List B). ys ++ f x) so_far
    ∙ append_assoc front (flat_map f (take i xs)) (f x)
    ∙ ap (λ (ys : List B). front ++ ys) (sym (flat_end f (take i xs) x))
    ∙ ap (λ (ys : List A). front ++ flat_map f ys) (sym (take_next xs i x less is))

pub joined_all : {A B : Type 0} (f : A → List B) (xs : List A) (i : ℕ) (front before : List B) → length xs ≤ i → before ≡ front ++ flat_map f (take i xs) → before ≡ front ++ flat_map f xs
joined_all {A} f xs i front before past so_far = so_far ∙ ap (λ (ys : List A). front ++ flat_map f ys) (take_whole xs i past)

-- one more note
told_end : (ps : List Published) (ds : List Data) (p : Published) (d : Data) → AreTold ps ds → IsTold p d → AreTold (ps ++ p ∷ []) (ds ++ d ∷ [])
told_end [] [] p d are is = (is, tt)
told_end [] (e ∷ es) p d are is = absurd are
told_end (q ∷ qs) [] p d are is = absurd are
told_end (q ∷ qs) (e ∷ es) p d are is = (are.0, told_end qs es p d are.1 is)

pub told_next : (ps : List Published) (i : ℕ) (p : Published) (ds : List Data) (d : Data) → i < length ps → p ≡ get_or ps i p → AreTold (take i ps) ds → IsTold p d → AreTold (take (i + 1) ps) (ds ++ d ∷ [])
told_next ps i p ds d less is are told = subst (λ (qs : List Published). AreTold qs (ds ++ d ∷ [])) (sym (take_next ps i p less is)) (told_end (take i ps) ds p d are told)

pub told_all : (ps : List Published) (i : ℕ) (ds : List Data) → length ps ≤ i → AreTold (take i ps) ds → AreTold ps ds
told_all ps i ds past are = subst (λ (qs : List Published). AreTold qs ds) (take_whole ps i past) are

pub bytes_next : (f : Data → List ℕ) (ds : List Data) (d : Data) (first before now : List ℕ) → before ≡ first ++ flat_map f ds → now ≡ before ++ f d → now ≡ first ++ flat_map f (ds ++ d ∷ [])
bytes_next f ds d first before now so_far more =
    more ∙ ap (λ (xs : List ℕ). xs ++ f d) so_far ∙ append_assoc first (flat_map f ds) (f d) ∙ ap (λ (xs : List ℕ). first ++ xs) (sym (flat_end f ds d))

-- ---- no number of them is a fraction

others_plain : (uri : List ℕ) (qs : List Quoted) → items_have_float (items_of (map (other_data uri) qs)) ≡ false
others_plain uri [] = refl
others_plain uri (q ∷ qs) = others_plain uri qs

messages_plain : (uri : List ℕ) (ms : List Message) → items_have_float (items_of (map (diagnostic_data uri) ms)) ≡ false
messages_plain uri [] = refl
messages_plain uri (m ∷ ms) = ap (λ (b : Bool). (b || false) || items_have_float (items_of (map (diagnostic_data uri) ms))) (others_plain uri m.others.items) ∙ messages_plain uri ms

first_plain : (refusal : Option Why) (uri : List ℕ) (ms : List Message) → items_have_float (items_of (first_data refusal ++ map (diagnostic_data uri) ms)) ≡ false
first_plain None uri ms = messages_plain uri ms
first_plain (Some why) uri ms = messages_plain uri ms

pub told_plain : (p : Published) (d : Data) → IsTold p d → has_float d ≡ false
told_plain p d told =
    ap has_float told.2 ∙ ap (λ (b : Bool). b || false) (first_plain p.refusal told.0 p.messages.items)
