-- Siblings stand right exactly where they are items.
use Rattle.std.proofs.Common.{◌≡◌, ◌∙◌, ◌≤◌, ◌||◌, ◌&&◌, not, Bool, true, false, List, [], ◌∷◌, length, inl, inr, refl, sym, ap, subst, arith}
use Rattle.std.specs.List.{list_any}
use Rattle.std.proofs.lemmas.Bool.{cases_Bool, false≢true}
use Rattle.occ_tree.specs.declared.row.Row.{Row}
use Rattle.occ_tree.specs.declared.sort.Sort.{Sort}
use Rattle.occ_tree.specs.declared.sort.Sort.TheVariants as sort
use Rattle.occ_tree.specs.Obeys.{AreItems, AreOpenings, Fits, Headed, IsValue, Item, OneLine, Opening, items_sorts, openings_sorts}
use Rattle.occ_tree.specs.Siblings.{ends_specified, first_is, follows_first_process, is_disordered, is_loose, is_misplaced, is_one_too_many}
use Rattle.occ_tree.specs.Table.{is_close, is_head, is_list, is_main, is_process, is_result, is_single, is_value, may_stand, needs_main}
use Rattle.occ_tree.proofs.Exclusive.{close_main, head_line, head_main, head_process, head_result, line_head, line_main, line_process, line_result, main_head, process_result}
use Rattle.occ_theorems.proofs.shape.Exclusive.{head_close, line_close, main_no_close, single_value, value_single}
use Rattle.occ_tree.proofs.Arranged.{AllPlaced, after, quiet_main, quiet_process, quiet_result, any_after, any_openings, and_false, is_some, any_items, ends_items, AreOrdered, NoneLacks}

misplaced_whole : (a b c d : Bool) → a ≡ true → b ≡ false → c ≡ false → d ≡ false → (not a || (b || (c || d))) ≡ false
misplaced_whole a b c d p q r s = rw p (rw q (rw r (rw s refl)))

quiet_many : (r : Row) (s : Sort) (m : Bool) → is_main r s ≡ false → (is_single r && (is_main r s && m)) ≡ false
quiet_many r s m h = rw h (and_false (is_single r))

quiet_order : (r : Row) (s : Sort) (p q f : Bool) → is_process s ≡ false → is_result s ≡ false
    → (is_value r && ((is_process s && p) || (is_result s && (q || not f)))) ≡ false
quiet_order r s p q f h k = rw h (rw k (and_false (is_value r)))

opened : (r : Row) (os : List Opening) (es k : List Sort) → first_is is_head es ≡ false → AreOpenings r os → AllPlaced r (after os es) k → AllPlaced r es (openings_sorts os k)
opened r [] es k b h p = p
opened r (OneLine s ∷ os) es k b h p = (
  misplaced_whole _ _ _ _ (rw (line_main r s h.0) (rw h.0 refl)) (rw (line_close r s h.0) (rw (line_head r s h.0) refl))
      (quiet_many r s _ (line_main r s h.0)) (quiet_order r s _ _ _ (line_process r s h.0) (line_result r s h.0)),
  opened r os (s ∷ es) k (line_head r s h.0) h.1 p,
)
opened r (Headed s ∷ os) es k b h p = (
  misplaced_whole _ _ _ _ (rw (head_main r s h.0.1) (rw (head_line r s h.0.1) (rw h.0.0 (rw h.0.1 refl)))) (rw (head_close s h.0.1) (rw h.0.1 refl))
      (quiet_many r s _ (head_main r s h.0.1)) (quiet_order r s _ _ _ (head_process s h.0.1) (head_result s h.0.1)),
  (
    misplaced_whole _ _ _ _ (rw (close_main r) (rw h.0.0 refl)) (rw h.0.1 refl)
        (quiet_many r sort.Close _ (close_main r)) (quiet_order r sort.Close (list_any is_process (s ∷ es)) (list_any is_result (s ∷ es)) (follows_first_process (s ∷ es)) refl refl),
    opened r os (sort.Close ∷ (s ∷ es)) k refl h.1 p,
  ),
)

placed_main : (r : Row) (es : List Sort) (s : Sort) (b : Bool) → is_main r s ≡ true → is_one_too_many r es s ≡ false
    → is_disordered r es s ≡ false → is_misplaced r es s b ≡ false
placed_main r es s b h p q =
    misplaced_whole (may_stand r s) (is_loose es s b) (is_one_too_many r es s) (is_disordered r es s)
    (rw h refl) (rw (main_no_close r s h) (rw (main_head r s h) refl)) p q

ordered_placed : (r : Row) (es : List Sort) (is : List Item) (os : List Opening) → first_is is_head es ≡ false → AreItems r is → AreOpenings r os
    → AreOrdered r es is → AllPlaced r es (items_sorts is (openings_sorts os []))
ordered_placed r es [] os b h k o = opened r os es [] b k tt
ordered_placed r es (i ∷ is) os b h k o =
    let rest = items_sorts is (openings_sorts os []) in
    opened r i.openings es (i.main ∷ rest) b h.0
    (placed_main r (after i.openings es) i.main (first_is is_close rest) h.1 o.0 o.1, ordered_placed r (i.main ∷ after i.openings es) is os (main_head r i.main h.1) h.2 k o.2)

ordered_any : (r : Row) (es : List Sort) (is : List Item) → is_single r ≡ false → is_value r ≡ false → AreOrdered r es is
ordered_any r es [] s v = tt
ordered_any r es (i ∷ is) s v = (rw s refl, rw v refl, ordered_any r (i.main ∷ after i.openings es) is s v)

both_false : (a b c : Bool) → c ≡ false → (a && (b && c)) ≡ false
both_false a b c h = rw h (rw (and_false b) (and_false a))

ordered_single : (r : Row) (is : List Item) → is_single r ≡ true → AreItems r is → length is ≡ 1 → AreOrdered r [] is
ordered_single r [] s h n = tt
ordered_single r (i ∷ []) s h n = (
  both_false (is_single r) (is_main r i.main) (list_any (is_main r) (after i.openings [])) (any_after r (is_main r) i.openings [] (quiet_main r) h.0),
  rw (single_value r s) refl,
  tt,
)
ordered_single r (i ∷ j ∷ is) s h n = absurd (omega (arith, n))

first_ordered : (v p x q y : Bool) → x ≡ false → q ≡ false → (v && ((p && x) || (q && y))) ≡ false
first_ordered v p x q y a b = rw a (rw b (rw (and_false p) (and_false v)))

second_ordered : (v p x q e f : Bool) → p ≡ false → e ≡ false → f ≡ true → (v && ((p && x) || (q && (e || not f)))) ≡ false
second_ordered v p x q e f a b c = rw a (rw b (rw c (rw (and_false q) (and_false v))))

ordered_value : (r : Row) (is : List Item) → is_value r ≡ true → AreItems r is → IsValue is → AreOrdered r [] is
ordered_value r [] v h x = tt
ordered_value r (i ∷ []) v h x = absurd x
ordered_value r (i ∷ j ∷ []) v h x =
    let no_process = any_after r is_process i.openings [] (quiet_process r) h.0 in
    let no_result = any_after r is_result i.openings [] (quiet_result r) h.0 in
    let before = i.main ∷ after i.openings [] in
    let here : after j.openings before ≡ before = ap (λ (os : List Opening). after os before) x.1 in (
      rw (value_single r v) refl,
      first_ordered (is_value r) (is_process i.main) (list_any is_process (after i.openings [])) (is_result i.main) _ no_process (process_result i.main x.0),
      (
        rw (value_single r v) refl,
        second_ordered (is_value r) (is_process j.main) (list_any is_process (after j.openings before)) (is_result j.main) (list_any is_result (after j.openings before)) (follows_first_process (after j.openings before))
            (ap is_process x.2)
            (ap (list_any is_result) here ∙ rw (process_result i.main x.0) no_result)
            (ap follows_first_process here ∙ rw x.0 (rw no_process refl)),
        tt,
      ),
    )
ordered_value r (i ∷ j ∷ k ∷ is) v h x = absurd x

fits_ordered : (r : Row) (ss : List Sort) (f : Fits r ss) → AreOrdered r [] f.items
fits_ordered r ss f = elim (cases_Bool (is_single r)) [
  | inl single ↦ ordered_single r f.items single f.are_items (f.one single)
  | inr many ↦ elim (cases_Bool (is_value r)) [
    | inl value ↦ ordered_value r f.items value f.are_items (f.value value)
    | inr other ↦ ordered_any r [] f.items many other
  ]
]

pub placed_of : (r : Row) (ss : List Sort) → Fits r ss → AllPlaced r [] ss
placed_of r ss f =
    subst (AllPlaced r []) (sym f.spelled) (ordered_placed r [] f.items f.last refl f.are_items f.are_openings (fits_ordered r ss f))

needs_ok : (a b c : Bool) → (a ≡ true → c ≡ true) → (b ≡ true → c ≡ true) → ((a || b) && not c) ≡ false
needs_ok a b true f g = and_false (a || b)
needs_ok true b false f g = absurd (false≢true (f refl))
needs_ok false true false f g = absurd (false≢true (g refl))
needs_ok false false false f g = refl

one_some : (is : List Item) → length is ≡ 1 → is_some is ≡ true
one_some [] n = absurd (omega (arith, n))
one_some (i ∷ is) n = refl

many_some : (is : List Item) → 1 ≤ length is → is_some is ≡ true
many_some [] n = absurd (omega (arith, n))
many_some (i ∷ is) n = refl

value_ok : (v p q : Bool) → (v ≡ true → (p ≡ true) × (q ≡ true)) → (v && not (p && q)) ≡ false
value_ok false p q f = refl
value_ok true p q f = rw (f refl).0 (rw (f refl).1 refl)

value_has : (r : Row) (is : List Item) (os : List Opening) → AreItems r is → IsValue is
    → (list_any is_process (items_sorts is (openings_sorts os [])) ≡ true) × (list_any is_result (items_sorts is (openings_sorts os [])) ≡ true)
value_has r [] os h x = absurd x
value_has r (i ∷ []) os h x = absurd x
value_has r (i ∷ j ∷ []) os h x = (
  any_openings r is_process i.openings _ (quiet_process r) h.0 ∙ rw x.0 refl,
  any_openings r is_result i.openings _ (quiet_result r) h.0
      ∙ rw (process_result i.main x.0) (any_openings r is_result j.openings _ (quiet_result r) h.2.0 ∙ rw x.2 refl),
)
value_has r (i ∷ j ∷ k ∷ is) os h x = absurd x

lacks_whole : (a b c : Bool) → a ≡ false → b ≡ false → c ≡ false → (a || (b || c)) ≡ false
lacks_whole a b c p q r = rw p (rw q r)

pub lacks_of : (r : Row) (ss : List Sort) → Fits r ss → NoneLacks r ss
lacks_of r ss f file =
    let any : list_any (is_main r) ss ≡ is_some f.items = ap (list_any (is_main r)) f.spelled ∙ any_items r f.items f.last f.are_items f.are_openings in
    lacks_whole (needs_main r && not (list_any (is_main r) ss)) (is_value r && not (list_any is_process ss && list_any is_result ss)) (ends_specified r ss)
    (needs_ok (is_single r) (is_list r) (list_any (is_main r) ss) (λ s. any ∙ one_some f.items (f.one s)) (λ l. any ∙ many_some f.items (f.some l)))
    (value_ok (is_value r) (list_any is_process ss) (list_any is_result ss) (λ v.
    let has = value_has r f.items f.last f.are_items (f.value v) in
    (ap (list_any is_process) f.spelled ∙ has.0, ap (list_any is_result) f.spelled ∙ has.1)))
    (ap (ends_specified r) f.spelled ∙ ends_items r f.items (openings_sorts f.last []) f.are_items
    ∙ ap (λ (os : List Opening). ends_specified r (openings_sorts os [])) (f.alone file))
