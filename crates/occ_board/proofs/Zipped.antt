-- Lists that are compared, index by index, with what names give.
use Rattle.std.proofs.Common.{◌≡◌, ◌∙◌, ◌++◌, ◌+◌, ◌<◌, ℕ, List, [], ◌∷◌, length, map, take, get_or, ap, sym}
use Rattle.std.proofs.lemmas.List.{get_or-map, map-append, take_more}

pub zip_more : {X : Type 0} (f : List ℕ → X) (xs : List X) (ns : List (List ℕ)) (i : ℕ) (x : X) (n : List ℕ) → i < length xs → i < length ns → x ≡ get_or xs i x → n ≡ get_or ns i n → x ≡ f n
    → take i xs ≡ map f (take i ns) → take (i + 1) xs ≡ map f (take (i + 1) ns)
zip_more {X} f xs ns i x n h k ex en e same =
    take_more xs i x h
    ∙ ap (λ (zs : List X). zs ++ get_or xs i x ∷ []) same
    ∙ ap (λ (z : X). map f (take i ns) ++ z ∷ []) (sym ex ∙ e ∙ ap f en)
    ∙ sym (ap (map f) (take_more ns i n k) ∙ map-append f (take i ns) (get_or ns i n ∷ []))

pub zip_there : {X : Type 0} (f : List ℕ → X) (xs : List X) (ns : List (List ℕ)) (i : ℕ) (x : X) (n : List ℕ) → i < length ns → x ≡ get_or xs i x → n ≡ get_or ns i n → xs ≡ map f ns → x ≡ f n
zip_there {X} f xs ns i x n k ex en same = ex ∙ ap (λ (zs : List X). get_or zs i x) same ∙ get_or-map f ns i n x k ∙ ap f (sym en)
