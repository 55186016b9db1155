-- Where each line stands right below its parent, the trees are as deep as their lines.
use Rattle.std.proofs.Common.{◌≡◌, ◌≤◌, ◌+◌, ℕ, Bool, true, false, cond, ltb, List, [], ◌∷◌, refl, subst, arith}
use Rattle.std.proofs.lemmas.Bool.{eqb-true, ltb-false, le-ltb}
use Rattle.occ_project.specs.declared.expanded.ExpandedLine.{ExpandedLine}
use Rattle.occ_tree.specs.declared.outline.Outline.{Outline}
use Rattle.occ_tree.specs.Forest.{Forest, Empty, Tree, first_trees, nested, other_trees}
use Rattle.occ_tree.specs.Nesting.{is_right_under, parent_depth}
use Rattle.occ_tree.specs.Obeys.{HasDepths}
use Rattle.occ_tree.specs.Sorts.{outline}

-- each line stands right below its parent, these being before them
abbrev pub AreRight : List Outline → List ExpandedLine → Type 0
AreRight before [] = Unit {0}
AreRight before (l ∷ ls) = (is_right_under (parent_depth before l.depth) l.depth ≡ true) × AreRight (outline l ∷ before) ls

-- the lines that stand under none of the others do, and each tree under them is as deep as its lines
abbrev Exact : List Outline → Forest → Type 0
Exact before Empty = Unit {0}
Exact before (Tree l under following) = ((is_right_under (parent_depth before l.depth) l.depth ≡ true) × HasDepths (l.depth + 1) under) × Exact before following

-- these are no deeper than the bound, and than each of those before
abbrev Falls : ℕ → Forest → Type 0
Falls bound Empty = Unit {0}
Falls bound (Tree l under following) = (l.depth ≤ bound) × Falls l.depth following

abbrev IsFalling : Forest → Type 0
IsFalling Empty = Unit {0}
IsFalling (Tree l under following) = Falls l.depth following

falls_falling : (d : ℕ) (f : Forest) → Falls d f → IsFalling f
falls_falling d Empty h = tt
falls_falling d (Tree l under following) h = h.1

other_split : (b : Bool) (d : ℕ) (l : ExpandedLine) (under following other : Forest) → ltb d l.depth ≡ b → Falls l.depth following → Falls d other
    → Falls d (cond b other (Tree l under following))
other_split true d l under following other e h o = o
other_split false d l under following other e h o = (ltb-false d l.depth e, h)

other_falls : (d : ℕ) (f : Forest) → IsFalling f → Falls d (other_trees d f)
other_falls d Empty h = tt
other_falls d (Tree l under following) h =
    other_split (ltb d l.depth) d l under following (other_trees d following) refl h (other_falls d following (falls_falling l.depth following h))

nested_falling : (ls : List ExpandedLine) → IsFalling (nested ls)
nested_falling [] = tt
nested_falling (l ∷ ls) = other_falls l.depth (nested ls) (nested_falling ls)

below_right : (l : Outline) (before : List Outline) (d : ℕ) → ltb l.depth d ≡ true → is_right_under (parent_depth (l ∷ before) d) d ≡ true → d ≡ l.depth + 1
below_right l before d deeper h = eqb-true d (l.depth + 1) (rw deeper at h)

first_split : (b : Bool) (k : Outline) (before : List Outline) (l : ExpandedLine) (under first : Forest) → ltb k.depth l.depth ≡ b
    → (is_right_under (parent_depth (k ∷ before) l.depth) l.depth ≡ true) × HasDepths (l.depth + 1) under → HasDepths (k.depth + 1) first
    → HasDepths (k.depth + 1) (cond b (Tree l under first) Empty)
first_split true k before l under first e h r =
    let right = below_right k before l.depth e h.0 in
    (right, subst (λ (n : ℕ). HasDepths (n + 1) under) right h.1, r)
first_split false k before l under first e h r = tt

first_exact : (k : Outline) (before : List Outline) (f : Forest) → Exact (k ∷ before) f → HasDepths (k.depth + 1) (first_trees k.depth f)
first_exact k before Empty h = tt
first_exact k before (Tree l under following) h =
    first_split (ltb k.depth l.depth) k before l under (first_trees k.depth following) refl h.0 (first_exact k before following h.1)

-- below no line that is deeper, k is no parent
passed_right : (k : Outline) (before : List Outline) (d : ℕ) → d ≤ k.depth → is_right_under (parent_depth (k ∷ before) d) d ≡ true → is_right_under (parent_depth before d) d ≡ true
passed_right k before d le h = rw (le-ltb k.depth d le) at h

falls_exact : (k : Outline) (before : List Outline) (d : ℕ) (f : Forest) → d ≤ k.depth → Falls d f → Exact (k ∷ before) f → Exact before f
falls_exact k before d Empty le h e = tt
falls_exact k before d (Tree l under following) le h e =
    let here : l.depth ≤ k.depth = omega (arith, h.0, le) in
    ((passed_right k before l.depth here e.0.0, e.0.1), falls_exact k before l.depth following here h.1 e.1)

other_keep : (b : Bool) (before : List Outline) (l : ExpandedLine) (under following other : Forest) → Exact before (Tree l under following) → Exact before other
    → Exact before (cond b other (Tree l under following))
other_keep true before l under following other h o = o
other_keep false before l under following other h o = h

other_exact : (d : ℕ) (before : List Outline) (f : Forest) → Exact before f → Exact before (other_trees d f)
other_exact d before Empty h = tt
other_exact d before (Tree l under following) h = other_keep (ltb d l.depth) before l under following (other_trees d following) h (other_exact d before following h.1)

nested_exact : (before : List Outline) (ls : List ExpandedLine) → AreRight before ls → Exact before (nested ls)
nested_exact before [] h = tt
nested_exact before (l ∷ ls) h =
    let inner = nested_exact (outline l ∷ before) ls h.1 in
    let falling = other_falls l.depth (nested ls) (nested_falling ls) in (
      (h.0, first_exact (outline l) before (nested ls) inner),
      falls_exact (outline l) before l.depth (other_trees l.depth (nested ls)) (omega arith) falling (other_exact l.depth (outline l ∷ before) (nested ls) inner),
    )

roots_exact : (f : Forest) → Exact [] f → HasDepths 0 f
roots_exact Empty h = tt
roots_exact (Tree l under following) h =
    let top = eqb-true l.depth 0 h.0.0 in
    (top, subst (λ (n : ℕ). HasDepths (n + 1) under) top h.0.1, roots_exact following h.1)

pub nested_depths : (ls : List ExpandedLine) → AreRight [] ls → HasDepths 0 (nested ls)
nested_depths ls h = roots_exact (nested ls) (nested_exact [] ls h)
