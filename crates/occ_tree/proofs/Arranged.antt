-- Siblings stand right exactly where they are items.
use Rattle.std.proofs.Common.{◌≡◌, ◌∙◌, ◌≤◌, ◌||◌, ◌&&◌, not, Bool, true, false, List, [], ◌∷◌, length, inl, inr, refl, sym, ap, subst, arith}
use Rattle.std.specs.List.{list_any}
use Rattle.std.proofs.lemmas.Bool.{cases_Bool, false≢true, true≢false}
use Rattle.occ_tree.specs.declared.row.Row.{Row}
use Rattle.occ_tree.specs.declared.sort.Sort.{Sort}
use Rattle.occ_tree.specs.declared.sort.Sort.TheVariants as sort
use Rattle.occ_tree.specs.Obeys.{AreItems, AreOpenings, Fits, Headed, IsOpening, IsValue, Item, OneLine, Opening, is_file, items_sorts, opening_sorts, openings_sorts}
use Rattle.occ_tree.specs.Siblings.{begins_specification, ends_specified, first_is, follows_first_process, is_disordered, is_loose, is_misplaced, is_one_too_many, lacks}
use Rattle.occ_tree.specs.Table.{is_close, is_head, is_main, is_process, is_result, is_single, is_value, lets_line, may_stand, needs_main, takes_specifications}
use Rattle.occ_tree.proofs.Exclusive.{close_is, close_main, head_line, head_main, head_process, head_result, line_head, line_main, line_process, line_result, list_file, main_head, main_line, process_result, result_is, result_process, single_file, value_file, value_main}

-- none of them is misplaced, after those
abbrev pub AllPlaced : Row → List Sort → List Sort → Type 0
AllPlaced r es [] = Unit {0}
AllPlaced r es (s ∷ ss) = (is_misplaced r es s (first_is is_close ss) ≡ false) × AllPlaced r (s ∷ es) ss

misplaced_parts : (a b c d : Bool) → (not a || (b || (c || d))) ≡ false → (a ≡ true) × (b ≡ false) × (c ≡ false) × (d ≡ false)
misplaced_parts false b c d e = absurd (true≢false e)
misplaced_parts true true c d e = absurd (true≢false e)
misplaced_parts true false true d e = absurd (true≢false e)
misplaced_parts true false false true e = absurd (true≢false e)
misplaced_parts true false false false e = (refl, refl, refl, refl)

stand_rest : (m l t h c : Bool) → (m || (l || (t && (h || c)))) ≡ true → m ≡ false → l ≡ false → (t ≡ true) × ((h || c) ≡ true)
stand_rest true l t h c e p q = absurd (true≢false p)
stand_rest false true t h c e p q = absurd (true≢false q)
stand_rest false false true h c e p q = (refl, e)
stand_rest false false false h c e p q = absurd (false≢true e)

loose_close : (k h d b : Bool) → ((k && not h) || (d && not b)) ≡ false → k ≡ true → h ≡ true
loose_close true true d b e p = refl
loose_close true false d b e p = absurd (true≢false e)
loose_close false h d b e p = absurd (false≢true p)

loose_head : (k h d b : Bool) → ((k && not h) || (d && not b)) ≡ false → d ≡ true → b ≡ true
loose_head k h true true e p = refl
loose_head k h false b e p = absurd (false≢true p)
loose_head true true true false e p = absurd (true≢false e)
loose_head true false true false e p = absurd (true≢false e)
loose_head false h true false e p = absurd (true≢false e)

or_second : (a b : Bool) → (a || b) ≡ true → a ≡ false → b ≡ true
or_second true b e p = absurd (true≢false p)
or_second false b e p = e

abbrev Parsed : Row → List Sort → Type 0
Parsed r ss = (is : List Item) × (os : List Opening) × AreItems r is × AreOpenings r os × (ss ≡ items_sorts is (openings_sorts os []))

add_at : (r : Row) (o : Opening) (ss : List Sort) → IsOpening r o → (is : List Item) (os : List Opening) → AreItems r is → AreOpenings r os
    → ss ≡ items_sorts is (openings_sorts os []) → Parsed r (opening_sorts o ss)
add_at r o ss h [] os a b e = ([], o ∷ os, tt, (h, b), ap (opening_sorts o) e)
add_at r o ss h (i ∷ is) os a b e =
    ((record { openings = o ∷ i.openings; main = i.main }) ∷ is, os, ((h, a.0), a.1, a.2), b, ap (opening_sorts o) e)

add_opening : (r : Row) (o : Opening) (ss : List Sort) → IsOpening r o → Parsed r ss → Parsed r (opening_sorts o ss)
add_opening r o ss h p = add_at r o ss h p.0 p.1 p.2 p.3 p.4

add_main : (r : Row) (s : Sort) (ss : List Sort) → is_main r s ≡ true → Parsed r ss → Parsed r (s ∷ ss)
add_main r s ss h p = ((record { openings = []; main = s }) ∷ p.0, p.1, (tt, h, p.2), p.3, ap (λ (x : List Sort). s ∷ x) p.4)

-- a line that is neither a main line nor a specification of one line
add_body : (r : Row) (es : List Sort) (s : Sort) (ss : List Sort) → first_is is_head es ≡ false → is_misplaced r es s (first_is is_close ss) ≡ false
    → is_main r s ≡ false → lets_line r s ≡ false → (takes_specifications r ≡ true) × (is_head s ≡ true) × (first_is is_close ss ≡ true)
add_body r es s ss b h other none =
    let m = misplaced_parts (may_stand r s) (is_loose es s (first_is is_close ss)) (is_one_too_many r es s) (is_disordered r es s) h in
    let rest = stand_rest (is_main r s) (lets_line r s) (takes_specifications r) (is_head s) (is_close s) m.0 other none in
    elim (cases_Bool (is_head s)) [
      | inl head ↦ (rest.0, head, loose_head (is_close s) (first_is is_head es) (is_head s) (first_is is_close ss) m.1 head)
      | inr headless ↦
          absurd (true≢false (sym (loose_close (is_close s) (first_is is_head es) (is_head s) (first_is is_close ss) m.1 (or_second (is_head s) (is_close s) rest.1 headless)) ∙ b))
    ]

parse : (r : Row) (es ss : List Sort) → first_is is_head es ≡ false → AllPlaced r es ss → Parsed r ss
parse r es [] b h = ([], [], tt, tt, refl)
parse r es (s ∷ []) b h = elim (cases_Bool (is_main r s)) [
  | inl main ↦ add_main r s [] main ([], [], tt, tt, refl)
  | inr other ↦ elim (cases_Bool (lets_line r s)) [
    | inl line ↦ add_opening r (OneLine s) [] line ([], [], tt, tt, refl)
    | inr none ↦ absurd (false≢true (add_body r es s [] b h.0 other none).2)
  ]
]
parse r es (s ∷ c ∷ ss) b h = elim (cases_Bool (is_main r s)) [
  | inl main ↦ add_main r s (c ∷ ss) main (parse r (s ∷ es) (c ∷ ss) (main_head r s main) h.1)
  | inr other ↦ elim (cases_Bool (lets_line r s)) [
    | inl line ↦ add_opening r (OneLine s) (c ∷ ss) line (parse r (s ∷ es) (c ∷ ss) (line_head r s line) h.1)
    | inr none ↦
        let body = add_body r es s (c ∷ ss) b h.0 other none in
        let closed = close_is c body.2 in
        subst (λ (x : Sort). Parsed r (s ∷ x ∷ ss)) (sym closed)
        (add_opening r (Headed s) ss (body.0, body.1) (parse r (c ∷ s ∷ es) ss (ap is_head closed) h.1.1))
  ]
]

-- what stands before, the nearest first, after the specifications
abbrev pub after : List Opening → List Sort → List Sort
after [] es = es
after (OneLine s ∷ os) es = after os (s ∷ es)
after (Headed s ∷ os) es = after os (sort.Close ∷ (s ∷ es))

-- no line of a specification passes
pub record Quiet (r : Row) (p : Sort → Bool) : Type 0 where
  line : (s : Sort) → lets_line r s ≡ true → p s ≡ false
  head : (s : Sort) → is_head s ≡ true → p s ≡ false
  close : p sort.Close ≡ false

pub quiet_main : (r : Row) → Quiet r (is_main r)
quiet_main r = record { line = line_main r; head = head_main r; close = close_main r }

pub quiet_process : (r : Row) → Quiet r is_process
quiet_process r = record { line = line_process r; head = head_process; close = refl }

pub quiet_result : (r : Row) → Quiet r is_result
quiet_result r = record { line = line_result r; head = head_result; close = refl }

pub any_after : (r : Row) (p : Sort → Bool) (os : List Opening) (es : List Sort) → Quiet r p → AreOpenings r os → list_any p (after os es) ≡ list_any p es
any_after r p [] es q h = refl
any_after r p (OneLine s ∷ os) es q h = any_after r p os (s ∷ es) q h.1 ∙ rw (q.line s h.0) refl
any_after r p (Headed s ∷ os) es q h = any_after r p os (sort.Close ∷ (s ∷ es)) q h.1 ∙ rw q.close (rw (q.head s h.0.1) refl)

pub any_openings : (r : Row) (p : Sort → Bool) (os : List Opening) (k : List Sort) → Quiet r p → AreOpenings r os → list_any p (openings_sorts os k) ≡ list_any p k
any_openings r p [] k q h = refl
any_openings r p (OneLine s ∷ os) k q h = rw (q.line s h.0) (any_openings r p os k q h.1)
any_openings r p (Headed s ∷ os) k q h = rw (q.head s h.0.1) (rw q.close (any_openings r p os k q h.1))

head_after : (r : Row) (os : List Opening) (es : List Sort) → first_is is_head es ≡ false → AreOpenings r os → first_is is_head (after os es) ≡ false
head_after r [] es b h = b
head_after r (OneLine s ∷ os) es b h = head_after r os (s ∷ es) (line_head r s h.0) h.1
head_after r (Headed s ∷ os) es b h = head_after r os (sort.Close ∷ (s ∷ es)) refl h.1

unopened : (r : Row) (os : List Opening) (es k : List Sort) → AllPlaced r es (openings_sorts os k) → AllPlaced r (after os es) k
unopened r [] es k h = h
unopened r (OneLine s ∷ os) es k h = unopened r os (s ∷ es) k h.1
unopened r (Headed s ∷ os) es k h = unopened r os (sort.Close ∷ (s ∷ es)) k h.1.1

pub and_false : (a : Bool) → (a && false) ≡ false
and_false true = refl
and_false false = refl

or_true : (a : Bool) → (a || true) ≡ true
or_true true = refl
or_true false = refl

or_false : (a : Bool) → (a || false) ≡ a
or_false true = refl
or_false false = refl

abbrev pub is_some : List Item → Bool
is_some [] = false
is_some (i ∷ is) = true

pub any_items : (r : Row) (is : List Item) (os : List Opening) → AreItems r is → AreOpenings r os
    → list_any (is_main r) (items_sorts is (openings_sorts os [])) ≡ is_some is
any_items r [] os h k = any_openings r (is_main r) os [] (quiet_main r) k
any_items r (i ∷ is) os h k = any_openings r (is_main r) i.openings _ (quiet_main r) h.0 ∙ rw h.1 refl

and_not : (a b m : Bool) → m ≡ true → (a || (b && not m)) ≡ a
and_not a b m h = rw h (rw (and_false b) (or_false a))

and_none : (a b m : Bool) → b ≡ false → (a || (b && not m)) ≡ a
and_none a b m h = rw h (or_false a)

and_last : (a b m : Bool) → b ≡ true → m ≡ false → (a || (b && not m)) ≡ true
and_last a b m h k = rw h (rw k (or_true a))

before_main : (r : Row) (s : Sort) (ss : List Sort) → list_any (is_main r) ss ≡ true → ends_specified r (s ∷ ss) ≡ ends_specified r ss
before_main r s ss h = and_not (ends_specified r ss) (begins_specification r s ss) (list_any (is_main r) ss) h

begins_none : (r : Row) (s : Sort) (ss : List Sort) → begins_specification r s ss ≡ false → ends_specified r (s ∷ ss) ≡ ends_specified r ss
begins_none r s ss h = and_none (ends_specified r ss) (begins_specification r s ss) (list_any (is_main r) ss) h

begins_last : (r : Row) (s : Sort) (ss : List Sort) → begins_specification r s ss ≡ true → list_any (is_main r) ss ≡ false → ends_specified r (s ∷ ss) ≡ true
begins_last r s ss h k = and_last (ends_specified r ss) (begins_specification r s ss) (list_any (is_main r) ss) h k

begins_line : (r : Row) (s : Sort) (ss : List Sort) → lets_line r s ≡ true → begins_specification r s ss ≡ true
begins_line r s ss h = rw h refl

begins_head : (r : Row) (s : Sort) (ss : List Sort) → takes_specifications r ≡ true → is_head s ≡ true → begins_specification r s (sort.Close ∷ ss) ≡ true
begins_head r s ss h k = rw (head_line r s k) (rw h (rw k refl))

pub begins_main : (r : Row) (s : Sort) (ss : List Sort) → is_main r s ≡ true → begins_specification r s ss ≡ false
begins_main r s ss h = rw (main_line r s h) (rw (main_head r s h) (and_false (takes_specifications r)))

-- after specifications that a main line stands after
ends_openings : (r : Row) (os : List Opening) (k : List Sort) → AreOpenings r os → list_any (is_main r) k ≡ true
    → ends_specified r (openings_sorts os k) ≡ ends_specified r k
ends_openings r [] k h m = refl
ends_openings r (OneLine s ∷ os) k h m =
    before_main r s (openings_sorts os k) (any_openings r (is_main r) os k (quiet_main r) h.1 ∙ m) ∙ ends_openings r os k h.1 m
ends_openings r (Headed s ∷ os) k h m =
    let main : list_any (is_main r) (openings_sorts os k) ≡ true = any_openings r (is_main r) os k (quiet_main r) h.1 ∙ m in
    before_main r s (sort.Close ∷ openings_sorts os k) (rw (close_main r) main) ∙ before_main r sort.Close (openings_sorts os k) main ∙ ends_openings r os k h.1 m

-- after items
pub ends_items : (r : Row) (is : List Item) (k : List Sort) → AreItems r is → ends_specified r (items_sorts is k) ≡ ends_specified r k
ends_items r [] k h = refl
ends_items r (i ∷ is) k h =
    ends_openings r i.openings (i.main ∷ items_sorts is k) h.0 (rw h.1 refl)
    ∙ begins_none r i.main (items_sorts is k) (begins_main r i.main (items_sorts is k) h.1) ∙ ends_items r is k h.2

-- with specifications at the end
ends_last : (r : Row) (o : Opening) (os : List Opening) → AreOpenings r (o ∷ os) → ends_specified r (openings_sorts (o ∷ os) []) ≡ true
ends_last r (OneLine s) os h =
    begins_last r s (openings_sorts os []) (begins_line r s (openings_sorts os []) h.0) (any_openings r (is_main r) os [] (quiet_main r) h.1)
ends_last r (Headed s) os h =
    begins_last r s (sort.Close ∷ openings_sorts os []) (begins_head r s (openings_sorts os []) h.0.0 h.0.1)
    (rw (close_main r) (any_openings r (is_main r) os [] (quiet_main r) h.1))

ends_none : (r : Row) (os : List Opening) → AreOpenings r os → ends_specified r (openings_sorts os []) ≡ false → os ≡ []
ends_none r [] h e = refl
ends_none r (o ∷ os) h e = absurd (true≢false (sym (ends_last r o os h) ∙ e))

-- after those no main line of the items is one too many, and none is out of order
abbrev pub AreOrdered : Row → List Sort → List Item → Type 0
AreOrdered r es [] = Unit {0}
AreOrdered r es (i ∷ is) =
    (is_one_too_many r (after i.openings es) i.main ≡ false) × (is_disordered r (after i.openings es) i.main ≡ false)
    × AreOrdered r (i.main ∷ after i.openings es) is

placed_ordered : (r : Row) (es : List Sort) (is : List Item) (os : List Opening) → AllPlaced r es (items_sorts is (openings_sorts os [])) → AreOrdered r es is
placed_ordered r es [] os h = tt
placed_ordered r es (i ∷ is) os h =
    let rest = items_sorts is (openings_sorts os []) in
    let p = unopened r i.openings es (i.main ∷ rest) h in
    let before = after i.openings es in
    let m = misplaced_parts (may_stand r i.main) (is_loose before i.main (first_is is_close rest)) (is_one_too_many r before i.main) (is_disordered r before i.main) p.0 in
    (m.2, m.3, placed_ordered r (i.main ∷ before) is os p.1)

order_process : (v p x y : Bool) → v ≡ true → p ≡ true → x ≡ true → (v && ((p && x) || y)) ≡ true
order_process v p x y a b c = rw a (rw b (rw c refl))

order_result : (v p x q y : Bool) → v ≡ true → p ≡ false → q ≡ true → y ≡ true → (v && ((p && x) || (q && y))) ≡ true
order_result v p x q y a b c d = rw a (rw b (rw c (rw d refl)))

first_no : (e f : Bool) → f ≡ false → (e || not f) ≡ true
first_no e f h = rw h (or_true e)

none_first : (a b : Bool) → (a || b) ≡ false → (a && not b) ≡ false
none_first true b h = absurd (true≢false h)
none_first false b h = refl

follows_none : (es : List Sort) → list_any is_process es ≡ false → follows_first_process es ≡ false
follows_none [] h = refl
follows_none (s ∷ es) h = none_first (is_process s) (list_any is_process es) h

follows_opened : (r : Row) (o : Opening) (os : List Opening) (es : List Sort) → AreOpenings r (o ∷ os) → follows_first_process (after (o ∷ os) es) ≡ false
follows_opened r (OneLine s) [] es h = rw (line_process r s h.0) refl
follows_opened r (Headed s) [] es h = refl
follows_opened r (OneLine s) (o ∷ os) es h = follows_opened r o os (s ∷ es) h.1
follows_opened r (Headed s) (o ∷ os) es h = follows_opened r o os (sort.Close ∷ (s ∷ es)) h.1

-- a line is a process if it is no RESULT
value_process : {Z : Type 0} (r : Row) (es : List Sort) (s : Sort) → is_value r ≡ true → is_main r s ≡ true
    → is_disordered r es s ≡ false → follows_first_process es ≡ false → (is_process s ≡ true → Z) → Z
value_process r es s v m o f z = elim (value_main r s v m) [
  | inl process ↦ z process
  | inr result ↦ absurd (true≢false (sym (order_result (is_value r) (is_process s) (list_any is_process es) (is_result s) (list_any is_result es || not (follows_first_process es)) v (result_process s result) result (first_no _ _ f)) ∙ o))
]

-- and a RESULT if a process stands before it
value_result : {Z : Type 0} (r : Row) (es : List Sort) (s : Sort) → is_value r ≡ true → is_main r s ≡ true
    → is_disordered r es s ≡ false → list_any is_process es ≡ true → (is_result s ≡ true → Z) → Z
value_result r es s v m o f z = elim (value_main r s v m) [
  | inl process ↦ absurd (true≢false (sym (order_process (is_value r) (is_process s) (list_any is_process es) (is_result s && (list_any is_result es || not (follows_first_process es))) v process f) ∙ o))
  | inr result ↦ z result
]

-- which no other RESULT stands before, and no specification
result_alone : (r : Row) (es : List Sort) (s : Sort) → is_value r ≡ true → is_result s ≡ true → is_disordered r es s ≡ false
    → (list_any is_result es || not (follows_first_process es)) ≡ false
result_alone r es s v h o = elim (cases_Bool (list_any is_result es || not (follows_first_process es))) [
  | inl bad ↦ absurd (true≢false (sym (order_result (is_value r) (is_process s) (list_any is_process es) (is_result s) (list_any is_result es || not (follows_first_process es)) v (result_process s h) h bad) ∙ o))
  | inr good ↦ good
]

parted : (a b : Bool) → (a || not b) ≡ false → (a ≡ false) × (b ≡ true)
parted true b h = absurd (true≢false h)
parted false true h = (refl, refl)
parted false false h = absurd (true≢false h)

no_opening : (r : Row) (os : List Opening) (es : List Sort) → AreOpenings r os → follows_first_process (after os es) ≡ true → os ≡ []
no_opening r [] es h f = refl
no_opening r (o ∷ os) es h f = absurd (true≢false (sym f ∙ follows_opened r o os es h))

any_process : (r : Row) (os : List Opening) (s : Sort) (es : List Sort) → AreOpenings r os → is_process s ≡ true → list_any is_process (after os (s ∷ es)) ≡ true
any_process r os s es h p = any_after r is_process os (s ∷ es) (quiet_process r) h ∙ rw p refl

value_items : (r : Row) (is : List Item) (os : List Opening) → is_value r ≡ true → AreItems r is → AreOpenings r os → AreOrdered r [] is
    → list_any is_process (items_sorts is (openings_sorts os [])) ≡ true → list_any is_result (items_sorts is (openings_sorts os [])) ≡ true → IsValue is
value_items r [] os v h k o p q = absurd (true≢false (sym p ∙ any_openings r is_process os [] (quiet_process r) k))
value_items r (i ∷ []) os v h k o p q =
    let none = follows_none (after i.openings []) (any_after r is_process i.openings [] (quiet_process r) h.0) in
    value_process r (after i.openings []) i.main v h.1 o.1 none (λ process.
    absurd (true≢false (sym q ∙ any_openings r is_result i.openings (i.main ∷ openings_sorts os []) (quiet_result r) h.0
    ∙ rw (process_result i.main process) (any_openings r is_result os [] (quiet_result r) k))))
value_items r (i ∷ j ∷ []) os v h k o p q =
    let none = follows_none (after i.openings []) (any_after r is_process i.openings [] (quiet_process r) h.0) in
    let before = i.main ∷ after i.openings [] in
    value_process r (after i.openings []) i.main v h.1 o.1 none (λ process.
    value_result r (after j.openings before) j.main v h.2.1 o.2.1 (any_process r j.openings i.main (after i.openings []) h.2.0 process) (λ result.
    let alone = parted _ _ (result_alone r (after j.openings before) j.main v result o.2.1) in
    (process, no_opening r j.openings before h.2.0 alone.1, result_is j.main result)))
value_items r (i ∷ j ∷ k ∷ is) os v h l o p q =
    let none = follows_none (after i.openings []) (any_after r is_process i.openings [] (quiet_process r) h.0) in
    let one = i.main ∷ after i.openings [] in
    let two = j.main ∷ after j.openings one in
    value_process r (after i.openings []) i.main v h.1 o.1 none (λ process.
    let some = any_process r j.openings i.main (after i.openings []) h.2.0 process in
    value_result r (after j.openings one) j.main v h.2.1 o.2.1 some (λ result.
    let more : list_any is_process (after k.openings two) ≡ true
    = any_after r is_process k.openings two (quiet_process r) h.2.2.0 ∙ rw some (or_true (is_process j.main)) in
    value_result r (after k.openings two) k.main v h.2.2.1 o.2.2.1 more (λ again.
    let alone = parted _ _ (result_alone r (after k.openings two) k.main v again o.2.2.1) in
    absurd (true≢false (sym (any_after r is_result k.openings two (quiet_result r) h.2.2.0 ∙ rw result refl) ∙ alone.0)))))

single_one : (r : Row) (is : List Item) → is_single r ≡ true → AreItems r is → AreOrdered r [] is → is_some is ≡ true → length is ≡ 1
single_one r [] s h o n = absurd (false≢true n)
single_one r (i ∷ []) s h o n = refl
single_one r (i ∷ j ∷ is) s h o n =
    absurd (true≢false (sym (rw s (rw h.2.1 (any_after r (is_main r) j.openings (i.main ∷ after i.openings []) (quiet_main r) h.2.0 ∙ rw h.1 refl))) ∙ o.2.0))

some_one : (is : List Item) → is_some is ≡ true → 1 ≤ length is
some_one [] n = absurd (false≢true n)
some_one (i ∷ is) n = omega arith

needed : (a m x : Bool) → ((a && not m) || x) ≡ false → a ≡ true → m ≡ true
needed true true x e h = refl
needed true false x e h = absurd (true≢false e)
needed false m x e h = absurd (false≢true h)

or_rest : (a b : Bool) → (a || b) ≡ false → b ≡ false
or_rest true b e = absurd (true≢false e)
or_rest false b e = e

both : (v p q : Bool) → ((v && not (p && q)) || false) ≡ false → v ≡ true → (p ≡ true) × (q ≡ true)
both true true true e h = (refl, refl)
both true true false e h = absurd (true≢false e)
both true false q e h = absurd (true≢false e)
both false p q e h = absurd (false≢true h)

no_true : (a v : Bool) → (a || (v || true)) ≡ true
no_true true v = refl
no_true false v = or_true v

lacks_parts : (a m v p q b : Bool) → ((a && not m) || ((v && not (p && q)) || b)) ≡ false
    → (a ≡ true → m ≡ true) × (v ≡ true → (p ≡ true) × (q ≡ true)) × (b ≡ false)
lacks_parts a m v p q true e = absurd (true≢false (sym (no_true (a && not m) (v && not (p && q))) ∙ e))
lacks_parts a m v p q false e = (λ h. needed a m _ e h, λ h. both v p q (or_rest (a && not m) _ e) h, refl)

-- nothing lacks but in a file, where nothing is asked
abbrev pub NoneLacks : Row → List Sort → Type 0
NoneLacks r ss = is_file r ≡ false → lacks r ss ≡ false

pub fits_of : (r : Row) (ss : List Sort) → AllPlaced r [] ss → NoneLacks r ss → Fits r ss
fits_of r ss h n =
    let p = parse r [] ss refl h in
    let ordered = placed_ordered r [] p.0 p.1 (subst (AllPlaced r []) p.4 h) in
    let parts : is_file r ≡ false → (needs_main r ≡ true → list_any (is_main r) ss ≡ true) × (is_value r ≡ true → (list_any is_process ss ≡ true) × (list_any is_result ss ≡ true)) × (ends_specified r ss ≡ false)
    = λ f. lacks_parts (needs_main r) (list_any (is_main r) ss) (is_value r) (list_any is_process ss) (list_any is_result ss) (ends_specified r ss) (n f) in
    let some : is_file r ≡ false → needs_main r ≡ true → is_some p.0 ≡ true
    = λ f a. sym (any_items r p.0 p.1 p.2 p.3) ∙ ap (list_any (is_main r)) (sym p.4) ∙ (parts f).0 a in
    record {
      items = p.0;
      last = p.1;
      are_items = p.2;
      are_openings = p.3;
      spelled = p.4;
      one = λ s. single_one r p.0 s p.2 ordered (some (single_file r s) (rw s refl));
      some = λ l. some_one p.0 (some (list_file r l) (rw l (or_true (is_single r))));
      value = λ v.
          let both = (parts (value_file r v)).1 v in
          value_items r p.0 p.1 v p.2 p.3 ordered (ap (list_any is_process) (sym p.4) ∙ both.0) (ap (list_any is_result) (sym p.4) ∙ both.1);
      alone = λ f. ends_none r p.1 p.3 (sym (ends_items r p.0 (openings_sorts p.1 []) p.2) ∙ ap (ends_specified r) (sym p.4) ∙ (parts f).2);
    }
