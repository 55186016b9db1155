-- Where the last dot of a name stands.
use Rattle.std.proofs.Common.{◌≡◌, ◌==◌, ◌+◌, ◌<◌, ℕ, suc, Bool, true, false, cond, List, [], ◌∷◌, ◌++◌, length, take, get_or, Option, Some, None, refl, ap, subst, ◌∙◌, arith, length-take, take-suc}
use Rattle.std.specs.Option.{IfSome}
use Rattle.occ_lines.specs.Directive.{last_dot, later}

later_more : (first : Option ℕ) (test : Bool) (n : ℕ) (back : Option ℕ) → later first (cond test (Some n) back) ≡ cond test (Some (n + 1)) (later first back)
later_more first true n back = refl
later_more first false n back = refl

one_more : (name : List ℕ) (b : ℕ) → last_dot (name ++ b ∷ []) ≡ cond (b == 46) (Some (length name)) (last_dot name)
one_more [] b = refl
one_more (a ∷ name) b =
    let size : length name + 1 ≡ length (a ∷ name) = omega arith in
    ap (later (cond (a == 46) (Some 0) None)) (one_more name b) ∙ later_more (cond (a == 46) (Some 0) None) (b == 46) (length name) (last_dot name)
    ∙ ap (λ (n : ℕ). cond (b == 46) (Some n) (last_dot (a ∷ name))) size

pub next_dot : (name : List ℕ) (i : ℕ) → i < length name → last_dot (take (i + 1) name) ≡ cond (get_or name i 0 == 46) (Some i) (last_dot (take i name))
next_dot name i l =
    let s : i + 1 ≡ suc i = omega arith in
    let size : length (take i name) ≡ i = omega (arith, length-take i name) in
    ap (λ (k : ℕ). last_dot (take k name)) s ∙ ap last_dot (take-suc name i 0 l) ∙ one_more (take i name) (get_or name i 0)
    ∙ ap (λ (n : ℕ). cond (get_or name i 0 == 46) (Some n) (last_dot (take i name))) size

later_within : (first back : Option ℕ) (k : ℕ) → IfSome first (λ n. n < k + 1) → IfSome back (λ n. n < k) → IfSome (later first back) (λ n. n < k + 1)
later_within first None k h l = h
later_within first (Some n) k h l = omega arith

first_within : (test : Bool) (k : ℕ) → IfSome (cond test (Some 0) None) (λ n. n < k + 1)
first_within true k = omega arith
first_within false k = tt

pub dot_within : (name : List ℕ) → IfSome (last_dot name) (λ n. n < length name)
dot_within [] = tt
dot_within (b ∷ more) =
    let size : length more + 1 ≡ length (b ∷ more) = omega arith in
    subst (λ (k : ℕ). IfSome (last_dot (b ∷ more)) (λ n. n < k)) size (later_within (cond (b == 46) (Some 0) None) (last_dot more) (length more) (first_within (b == 46) (length more)) (dot_within more))
