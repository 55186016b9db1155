-- Parts that are apart share no cell.
use Rattle.std.proofs.Common.{◌≡◌, ℕ, Bool, true, false, ap, sym, subst, ◌∙◌, arith, List, [], ◌∷◌}
use Rattle.std.specs.Prelude.{ℤ, ◌+ℤ◌, ◌==◌, slice_get, if◌then◌else◌}
use Rattle.std.proofs.lemmas.Int.{ints}
use Rattle.occ_usage_parts.specs.Parts.{all_sure, are_apart, lies, overlap_of}
use Rattle.occ_usage_parts.specs.declared.part.Overlap.TheVariants as o
use Rattle.occ_usage_parts.specs.declared.part.Part.{Part}
use Rattle.occ_usage_parts.proofs.Elements.{met_apart}
use Rattle.occ_running.specs.Memory.{At, Cell, ComponentOf, FieldOf, Reaches, Recast, SegmentOf, Spot, Step, To, Variable}
use Rattle.occ_running.specs.Scopes.{Scope}
use Rattle.occ_sound.specs.Agreeing.{InPart, origin, steps_of}
use Rattle.occ_sound.proofs.Lists.{some_same, tail_same}

both_numbers : (i j : ℤ) (xs ys : List Step) → At i ∷ xs ≡ At j ∷ ys → (i ≡ j) × (xs ≡ ys)
both_numbers i j xs ys h = (cc, cc)

sum_same : (a b c : ℤ) → a +ℤ b ≡ a +ℤ c → b ≡ c
sum_same a b c h = grind (arith, ints, h)

same_components : (i j : ℤ) (xs ys : List Step) → i ≡ j → xs ≡ ys → At i ∷ xs ≡ At j ∷ ys
same_components i j xs ys h k = cc

-- from an element no two ways lead to one cell
pub reaches_same : (at : Spot) (xs ys : List Step) (c : Cell) → Reaches at xs c → Reaches at ys c → xs ≡ ys
reaches_same (Variable n t) xs ys c h k = ap (λ (z : Cell). z.steps) (sym h ∙ k)
reaches_same (FieldOf el name) xs ys c h k = tail_same (To name) (To name) xs ys (reaches_same el (To name ∷ xs) (To name ∷ ys) c h k)
reaches_same (ComponentOf el i) xs ys c h k = tail_same (At i) (At i) xs ys (reaches_same el (At i ∷ xs) (At i ∷ ys) c h k)
reaches_same (SegmentOf el b n) [] ys c h k = absurd h
reaches_same (SegmentOf el b n) (To name ∷ xs) ys c h k = absurd h
reaches_same (SegmentOf el b n) (At i ∷ xs) [] c h k = absurd k
reaches_same (SegmentOf el b n) (At i ∷ xs) (To name ∷ ys) c h k = absurd k
reaches_same (SegmentOf el b n) (At i ∷ xs) (At j ∷ ys) c h k =
    let both = both_numbers (b +ℤ i) (b +ℤ j) xs ys (reaches_same el (At (b +ℤ i) ∷ xs) (At (b +ℤ j) ∷ ys) c h.1 k.1) in
    same_components i j xs ys (sum_same b i j both.0) both.1
reaches_same (Recast el layout apart) xs ys c h k = apart xs ys (reaches_same el (layout xs) (layout ys) c h k)

pub meeting : (d : Scope) (p q : Part) (c : Cell) → p.root ≡ q.root → InPart d p c → InPart d q c → are_apart p.selectors q.selectors ≡ false
meeting d p q c e h k =
    let start : h.start ≡ k.start = some_same h.start k.start (sym h.is ∙ ap (λ (n : ℕ). origin n (slice_get d n)) e ∙ k.is) in
    let own : h.steps ≡ k.steps = reaches_same h.start h.steps k.steps c h.reaches (subst (λ (x : Spot). Reaches x k.steps c) (sym start) k.reaches) in
    met_apart p.selectors q.selectors (steps_of k.steps, subst (λ (ts : List Step). lies p.selectors (steps_of ts) ≡ true) own h.inside, k.inside)

apart_case : (c d e : Bool) → (if c then (if d then o.Apart else if e then o.Must else o.May) else o.Apart) ≡ o.Apart → c ≡ true → d ≡ false → ⊥
apart_case true true e h r a = cc
apart_case true false true h r a = cc
apart_case true false false h r a = cc
apart_case false d e h r a = cc

pub own_number : (m n : ℕ) → m ≡ n → (m == n) ≡ true
own_number m n e = grind (arith, e)

pub apart_cells : (d : Scope) (p q : Part) (c : Cell) → p.root ≡ q.root → overlap_of p q ≡ o.Apart → InPart d p c → InPart d q c → ⊥
apart_cells d p q c e a h k = apart_case (p.root == q.root) (are_apart p.selectors q.selectors) (all_sure p.selectors q.selectors) a (own_number p.root q.root e) (meeting d p q c e h k)
