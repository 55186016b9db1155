-- What is known of the first lines under a parent says what all of them say.
use Rattle.std.proofs.Common.{◌≡◌, ◌∙◌, ◌||◌, ◌&&◌, not, ℕ, ltb, Bool, true, false, List, [], ◌∷◌, Option, Some, None, MatchOption, refl, ap, inl, inr}
use Rattle.std.proofs.lemmas.Bool.{cases_Bool}
use Rattle.std.specs.List.{list_any}
use Rattle.occ_tree.specs.declared.outline.Outline.{Outline}
use Rattle.occ_tree.specs.declared.row.Row.{Row}
use Rattle.occ_tree.specs.declared.siblings.Children.{Children}
use Rattle.occ_tree.specs.declared.sort.Sort.{Sort}
use Rattle.occ_tree.specs.inside.Children.{begins_before, one_child_more}
use Rattle.occ_tree.specs.Nesting.{after_deeper, first_deeper, sorts}
use Rattle.occ_tree.specs.Siblings.{begins_specification, ends_specified, first_is, is_disordered, is_misplaced, is_one_too_many}
use Rattle.occ_tree.specs.Table.{is_close, is_head, is_main, is_process, is_result, is_value, may_stand, needs_main}
use Rattle.occ_tree.specs.Wrong.{close_is_next}
use Rattle.occ_tree.proofs.Arranged.{begins_main}

-- the last specification so far has no main line after it, or one of these has none
abbrev ends_after : Row → Bool → List Sort → Bool
ends_after r specified ss = (specified && not (list_any (is_main r) ss)) || ends_specified r ss

-- a parent lacks something, if these follow the first lines under it
abbrev pub lacks_after : Row → Children → List Sort → Bool
lacks_after r c ss =
    (needs_main r && not (c.main || list_any (is_main r) ss))
    || ((is_value r && not ((c.process || list_any is_process ss) && (c.result || list_any is_result ss))) || ends_after r c.specified ss)

or_more : (x y z : Bool) → ((x || y) || z) ≡ (x || (y || z))
or_more true y z = refl
or_more false y z = refl

after_main : (p e b m : Bool) → b ≡ false → e ≡ ((p && not true) || (e || (b && not m)))
after_main true true b m h = refl
after_main true false b m h = rw h refl
after_main false true b m h = refl
after_main false false b m h = rw h refl

after_other : (p b m e : Bool) → (((p || b) && not m) || e) ≡ ((p && not m) || (e || (b && not m)))
after_other true b true true = refl
after_other true true true false = refl
after_other true false true false = refl
after_other true b false e = refl
after_other false true true true = refl
after_other false true true false = refl
after_other false true false true = refl
after_other false true false false = refl
after_other false false m true = refl
after_other false false m false = refl

-- of the specifications, one line more
ends_met : (r : Row) (p : Bool) (s : Sort) (ss : List Sort)
    → ends_after r (not (is_main r s) && (p || begins_specification r s ss)) ss ≡ ends_after r p (s ∷ ss)
ends_met r p s ss = elim (cases_Bool (is_main r s)) [
  | inl main ↦ rw main (after_main p (ends_specified r ss) (begins_specification r s ss) (list_any (is_main r) ss) (begins_main r s ss main))
  | inr other ↦ rw other (after_other p (begins_specification r s ss) (list_any (is_main r) ss) (ends_specified r ss))
]

-- where nothing but the accumulated answers differ
lacks_same : (n v m n' q q' t t' e e' : Bool) → m ≡ n' → q ≡ q' → t ≡ t' → e ≡ e'
    → ((n && not m) || ((v && not (q && t)) || e)) ≡ ((n && not n') || ((v && not (q' && t')) || e'))
lacks_same n v m n' q q' t t' e e' a b c d = rw a (rw b (rw c (rw d refl)))

-- one line more
pub met : (r : Row) (c : Children) (s : Sort) (before_close : Bool) (ss : List Sort) → before_close ≡ first_is is_close ss
    → lacks_after r (one_child_more r c s before_close) ss ≡ lacks_after r c (s ∷ ss)
met r c s before_close ss close =
    rw close (lacks_same (needs_main r) (is_value r) _ _ _ _ _ _ _ _
    (or_more c.main (is_main r s) (list_any (is_main r) ss)) (or_more c.process (is_process s) (list_any is_process ss))
    (or_more c.result (is_result s) (list_any is_result ss)) (ends_met r c.specified s ss))

-- the next one under the parent is a close
next_close : (d : ℕ) (ls : List Outline) → close_is_next (Some d) ls ≡ first_is is_close (sorts (first_deeper d ls))
next_close d [] = refl
next_close d (l ∷ ls) = elim (cases_Bool (ltb d l.depth)) [
  | inl deeper ↦ rw deeper refl
  | inr other ↦ rw other refl
]

told_after : (m c h close x : Bool) → ((m || ((c || (h && not true)) || x)) || (h && not close)) ≡ (m || ((c || (h && not close)) || x))
told_after true c h close x = refl
told_after false true h close x = refl
told_after false false false close true = refl
told_after false false false close false = refl
told_after false false true true true = refl
told_after false false true true false = refl
told_after false false true false true = refl
told_after false false true false false = refl

-- whether a close is next may be told after all others
pub close_told : (r : Row) (es : List Sort) (s : Sort) (close : Bool)
    → (is_misplaced r es s true || (is_head s && not close)) ≡ is_misplaced r es s close
close_told r es s close =
    told_after (not (may_stand r s)) (is_close s && not (first_is is_head es)) (is_head s) close (is_one_too_many r es s || is_disordered r es s)

-- and is asked of heads alone
head_begins : (r : Row) (s : Sort) (close : Bool) → begins_before r s (is_head s && close) ≡ begins_before r s close
head_begins r s close = elim (cases_Bool (is_head s)) [
  | inl head ↦ rw head refl
  | inr other ↦ rw other refl
]

head_child : (r : Row) (c : Children) (s : Sort) (close : Bool) → one_child_more r c s (is_head s && close) ≡ one_child_more r c s close
head_child r c s close = rw (head_begins r s close) refl

-- what lay on top is taken
pub popped : {X : Type 0} (r : Option X) (old new below : List X) (top : X) → MatchOption r ((old ≡ []) × (new ≡ [])) (λ t. old ≡ t ∷ new) → old ≡ top ∷ below
    → old ≡ top ∷ new
popped None old new below top h e = let none : old ≡ [] = h.0 in absurd cc
popped (Some t) old new below top h e = cc

-- one line more, which lay on top
pub child_taken : (r : Row) (d : ℕ) (rs rs' : List Outline) (l : Outline) (c c' : Children) (before_close lacking : Bool) (all : List Outline) → rs ≡ l ∷ rs' → ltb d l.depth ≡ true
    → before_close ≡ (is_head l.sort && close_is_next (Some d) rs') → c' ≡ one_child_more r c l.sort before_close
    → (lacks_after r c (sorts (first_deeper d rs)) ≡ lacking) × (after_deeper d rs ≡ all)
    → (lacks_after r c' (sorts (first_deeper d rs')) ≡ lacking) × (after_deeper d rs' ≡ all)
child_taken r d rs rs' l c c' before_close lacking all split deeper close more i =
    let known : c' ≡ one_child_more r c l.sort (close_is_next (Some d) rs')
    = more ∙ ap (one_child_more r c l.sort) close ∙ head_child r c l.sort (close_is_next (Some d) rs') in
    let before : lacks_after r c (l.sort ∷ sorts (first_deeper d rs')) ≡ lacking = rw deeper at rw split at i.0 in
    let rest : after_deeper d rs' ≡ all = rw deeper at rw split at i.1 in (
      ap (λ (x : Children). lacks_after r x (sorts (first_deeper d rs'))) known
          ∙ met r c l.sort (close_is_next (Some d) rs') (sorts (first_deeper d rs')) (next_close d rs') ∙ before,
      rest,
    )
