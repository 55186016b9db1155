-- How many flags are set, and which indices are marked.
use Rattle.std.proofs.Common.{◌≡◌, ◌∙◌, ◌<◌, ◌≤◌, ◌+◌, ◌||◌, ℕ, zero, suc, Bool, true, false, cond, List, [], ◌∷◌, ◌++◌, length, get_or, take, replicate, refl, sym, ap, subst, arith, inl, inr}
use Rattle.std.proofs.lemmas.Bool.{eqb-false, eqb-true}
use Rattle.std.proofs.lemmas.List.{length-set}
use Rattle.std.specs.List.{insert}
use Rattle.std.specs.Prelude.{◌==◌, ◌-◌, remove, slice_set}
use Rattle.occ_board.proofs.Marked.{among_append}
use Rattle.occ_board.proofs.Spread.{set_apart, set_here}
use Rattle.occ_board.specs.inside.Flagged.{flagged}
use Rattle.occ_board.specs.inside.Touched.{AreMarked, AreMarks, marked, marked_too}
use Rattle.occ_project_graph.specs.Graph.{is_among}

abbrev one : Bool → ℕ
one b = cond b 1 0

pub one_set : (flags : List Bool) (p : ℕ) → p < length flags → get_or flags p false ≡ false → flagged flags + 1 ≡ flagged (slice_set flags p true)
one_set [] p lt e = absurd (omega (arith, lt))
one_set (f ∷ flags) zero lt e = let none : one f ≡ 0 = ap one e in omega (arith, none)
one_set (f ∷ flags) (suc p) lt e = let rest = one_set flags p (omega (arith, lt)) e in omega (arith, rest)

pub one_unset : (flags : List Bool) (p : ℕ) → get_or flags p false ≡ true → flagged flags ≡ flagged (slice_set flags p false) + 1
one_unset [] p e = absurd cc
one_unset (f ∷ flags) zero e = let some : one f ≡ 1 = ap one e in omega (arith, some)
one_unset (f ∷ flags) (suc p) e = let rest = one_unset flags p e in omega (arith, rest)

pub one_more : (flags : List Bool) (p : ℕ) → p ≤ length flags → flagged flags ≡ flagged (insert flags p false)
one_more [] zero le = refl
one_more [] (suc p) le = absurd (omega (arith, le))
one_more (f ∷ flags) zero le = let k : flagged (f ∷ flags) ≡ 0 + flagged (f ∷ flags) = omega arith in k
one_more (f ∷ flags) (suc p) le = let rest = one_more flags p (omega (arith, le)) in omega (arith, rest)

pub one_less : (flags : List Bool) (p : ℕ) → p < length flags → get_or flags p false ≡ false → flagged flags ≡ flagged (remove flags p)
one_less [] p lt e = absurd (omega (arith, lt))
one_less (f ∷ flags) zero lt e = let none : one f ≡ 0 = ap one e in let same : flagged (f ∷ flags) ≡ flagged flags = omega (arith, none) in same
one_less (f ∷ flags) (suc p) lt e = let rest = one_less flags p (omega (arith, lt)) e in omega (arith, rest)

-- one that is put in and taken out again
pub insert_undone : (flags : List Bool) (p : ℕ) → p ≤ length flags → remove (insert flags p false) p ≡ flags
insert_undone flags zero le = refl
insert_undone [] (suc p) le = absurd (omega (arith, le))
insert_undone (f ∷ flags) (suc p) le = ap (λ (fs : List Bool). f ∷ fs) (insert_undone flags p (omega (arith, le)))

most : (b : Bool) → one b ≤ 1
most true = omega arith
most false = omega arith

flagged_most : (flags : List Bool) → flagged flags ≤ length flags
flagged_most [] = omega arith
flagged_most (f ∷ flags) = let here = most f in let rest = flagged_most flags in omega (arith, here, rest)

pub flagged_under : (flags : List Bool) (p : ℕ) → p < length flags → get_or flags p false ≡ false → flagged flags < length flags
flagged_under [] p lt e = absurd (omega (arith, lt))
flagged_under (f ∷ flags) zero lt e = let none : one f ≡ 0 = ap one e in let rest = flagged_most flags in omega (arith, none, rest)
flagged_under (f ∷ flags) (suc p) lt e = let here = most f in let rest = flagged_under flags p (omega (arith, lt)) e in omega (arith, here, rest)

-- indices of marks
pub none_marked : (n : ℕ) → AreMarked (replicate n false) []
none_marked zero p = refl
none_marked (suc n) zero = refl
none_marked (suc n) (suc p) = none_marked n p

pub one_marked : (marks : List Bool) (indices : List ℕ) (at : ℕ) → AreMarked marks indices → at < length marks → AreMarked (slice_set marks at true) (indices ++ at ∷ [])
one_marked marks indices at are lt p = among_append indices at p ∙ by (at == p) refl where
  or_true : (b : Bool) → (b || true) ≡ true
  or_true true = refl
  or_true false = refl

  or_false : (b : Bool) → (b || false) ≡ b
  or_false true = refl
  or_false false = refl

  by : (b : Bool) → (at == p) ≡ b → (is_among indices p || b) ≡ get_or (slice_set marks at true) p false
  by true e = or_true (is_among indices p) ∙ sym (subst (λ (q : ℕ). get_or (slice_set marks at true) q false ≡ true) (eqb-true at p e) (set_here marks at lt))
  by false e = or_false (is_among indices p) ∙ are p ∙ sym (set_apart marks at p (λ q. eqb-false at p e (sym q)))

-- marks of one index more, and how many they are
pub marked_last : (marks : List Bool) (ps : List ℕ) (p : ℕ) → marked_too marks (ps ++ p ∷ []) ≡ slice_set (marked_too marks ps) p true
marked_last marks [] p = refl
marked_last marks (q ∷ ps) p = marked_last (slice_set marks q true) ps p

pub marked_long : (marks : List Bool) (ps : List ℕ) → length (marked_too marks ps) ≡ length marks
marked_long marks [] = refl
marked_long marks (p ∷ ps) = marked_long (slice_set marks p true) ps ∙ length-set marks p true

pub mark_more : (count : ℕ) (indices next : List ℕ) (at : ℕ) → next ≡ indices ++ at ∷ [] → marked count next ≡ slice_set (marked count indices) at true
mark_more count indices next at n = ap (marked count) n ∙ marked_last (replicate count false) indices at

pub marked_more : (count : ℕ) (indices next : List ℕ) (at : ℕ) → AreMarked (marked count indices) indices → at < length (marked count indices) → next ≡ indices ++ at ∷ [] → AreMarked (marked count next) next
marked_more count indices next at are lt n =
    subst (λ (ms : List Bool). AreMarked ms next) (sym (mark_more count indices next at n))
    (subst (AreMarked (slice_set (marked count indices) at true)) (sym n) (one_marked (marked count indices) indices at are lt))

-- where there are marks they are those
pub made_marks : (made marks : List Bool) → AreMarks made marks → (length made ≡ 0 → ⊥) → made ≡ marks
made_marks made marks (inl e) some = absurd (some (ap (length {A = Bool}) e))
made_marks made marks (inr e) some = e

pub none_made : (made : List Bool) → length made ≡ 0 → made ≡ []
none_made [] e = refl
none_made (m ∷ made) e = absurd cc

-- a list of nothing that is filled up
pub from_none : (old : List Bool) (n len : ℕ) → old ≡ [] → len ≡ length old → take n old ++ replicate (n - len) false ≡ replicate n false
from_none [] n len e l = ap (λ (k : ℕ). take n [] ++ replicate (n - k) false) l ∙ all n where
  all : (n : ℕ) → take n [] ++ replicate (n - 0) false ≡ replicate n false
  all zero = refl
  all (suc n) = let long : suc n - 0 ≡ suc n = omega arith in ap (λ (k : ℕ). replicate k false) long
from_none (f ∷ old) n len e l = absurd cc
