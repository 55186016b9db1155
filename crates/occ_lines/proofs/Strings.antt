-- What stands between quotes is one thing at most, and a loop finds it.
use Rattle.std.proofs.Common.{◌≡◌, ◌==◌, ℕ, true, List, [], ◌∷◌, ◌++◌, Option, Some, None, refl, sym, ap, subst, ◌∙◌, append_assoc}
use Rattle.std.proofs.lemmas.Bool.{eq-eqb}
use Rattle.std.proofs.lemmas.List.{append-nil}
use Rattle.occ_lines.specs.Quoted.{IsQuoted, unit}
use Rattle.occ_lines.specs.inside.Scan.{Gathers}

-- two texts that are one begin with one byte
pub heads : (a b : ℕ) (xs ys : List ℕ) → a ∷ xs ≡ b ∷ ys → (a == b) ≡ true
heads a b xs ys h = let same : a ≡ b = cc in eq-eqb a b same

pub tails : (a b : ℕ) (xs ys : List ℕ) → a ∷ xs ≡ b ∷ ys → xs ≡ ys
tails a b xs ys h = cc

pub one_unit : (x y : Option (ℕ × List ℕ)) (v w : ℕ) (a b : List ℕ) → x ≡ Some (v, a) → y ≡ Some (w, b) → x ≡ y → (v ≡ w) × (a ≡ b)
one_unit x y v w a b h k e = let same : Some (v, a) ≡ Some (w, b) = sym h ∙ e ∙ k in let pair : (v, a) ≡ (w, b) = cc in (ap (λ (p : ℕ × List ℕ). p.0) pair, ap (λ (p : ℕ × List ℕ). p.1) pair)

pub one_quoted : (text vs ws a b : List ℕ) → IsQuoted text vs a → IsQuoted text ws b → (vs ≡ ws) × (a ≡ b)
one_quoted text [] [] a b h k = (refl, sym h.1 ∙ k.1)
one_quoted text [] (w ∷ ws) a b h k = let e = h.0 in let f = k.1 in absurd cc
one_quoted text (v ∷ vs) [] a b h k = let e = k.0 in let f = h.1 in absurd cc
one_quoted text (v ∷ vs) (w ∷ ws) a b h k =
    let same = one_unit _ _ v w h.0 k.0 h.1 k.1 refl in
    let more = one_quoted h.0 vs ws a b h.2 (subst (λ (r : List ℕ). IsQuoted r ws b) (sym same.1) k.2) in
    (ap (λ (n : ℕ). n ∷ vs) same.0 ∙ ap (λ (xs : List ℕ). w ∷ xs) more.0, more.1)

-- these bytes are read, and the rest goes on where the text would
pub record Gathering (so_far text found rest : List ℕ) : Type 0 where
  pub done : List ℕ
  pub is : found ≡ so_far ++ done
  pub joined : (values end : List ℕ) → IsQuoted rest values end → IsQuoted text (done ++ values) end

pub gathering_begins : (so_far text : List ℕ) → Gathering so_far text so_far text
gathering_begins so_far text = record { done = []; is = sym (append-nil so_far); joined = λ values end h. h }

pub gathering_more : (so_far text found rest after : List ℕ) (value : ℕ) → Gathering so_far text found rest → unit 34 rest ≡ Some (value, after) → Gathering so_far text (found ++ value ∷ []) after
gathering_more so_far text found rest after value kept first = record {
  done = kept.done ++ value ∷ [];
  is = ap (λ (xs : List ℕ). xs ++ value ∷ []) kept.is ∙ append_assoc so_far kept.done (value ∷ []);
  joined = λ values end h. subst (λ (xs : List ℕ). IsQuoted text xs end) (sym (append_assoc kept.done (value ∷ []) values)) (kept.joined (value ∷ values) end (after, first, h));
}

pub gathered : (so_far text found rest : List ℕ) → Gathering so_far text found rest → unit 34 rest ≡ None → Gathers so_far text found rest
gathered so_far text found rest kept none = (kept.done, kept.is, subst (λ (xs : List ℕ). IsQuoted text xs rest) (append-nil kept.done) (kept.joined [] rest (none, refl)))
