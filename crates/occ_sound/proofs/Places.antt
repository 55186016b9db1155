-- What is selected from an element lies where the rules place it.
use Rattle.std.proofs.Common.{◌≡◌, ℕ, Bool, true, false, ap, sym, subst, ◌∙◌, refl, arith, List, [], ◌∷◌, ◌++◌, Option, Some, None, inl, inr, append_assoc}
use Rattle.std.specs.Prelude.{ℤ, pos, ◌+ℤ◌, ◌-ℤ◌, int_le, int_lt, unsigned_abs, ◌⊎◌, ◌&&◌, slice_get, if◌then◌else◌}
use Rattle.std.proofs.lemmas.Int.{ints}
use Rattle.std.proofs.Math.IntN.{+ℤ_assoc}
use Rattle.occ_types.specs.declared.interface.Interval.{Interval}
use Rattle.occ_types.specs.declared.interface.PartSelector.{PartSelector}
use Rattle.occ_types.specs.declared.interface.PartSelector.TheVariants as s
use Rattle.occ_types.specs.declared.interface.Places.{Places}
use Rattle.occ_types.specs.declared.interface.Places.TheVariants as places
use Rattle.occ_usage_parts.specs.Places.{from_place, holds, moved, near, run_from}
use Rattle.occ_usage_parts.specs.Selecting.{counted, cut_to, following, inside, named, retyped, segment, segment_ending, selectors_of, subscript, with_field, with_field_of, with_segment, with_subscript, with_subscript_of}
use Rattle.occ_usage_parts.specs.declared.place.Ending.{Ending}
use Rattle.occ_usage_parts.specs.declared.place.Ending.TheVariants as e
use Rattle.occ_usage_parts.specs.declared.place.SelectedPart.{SelectedPart}
use Rattle.occ_usage_parts.proofs.Sets.{common_holds}
use Rattle.std.specs.Str.{bytes_eq}
use Rattle.std.proofs.lemmas.Slice.Eq.{bytes_eq-Decides}
use Rattle.occ_running.specs.Memory.{At, Cell, ComponentOf, FieldOf, IsWithin, Reaches, Recast, SegmentOf, Spot, Step, To}
use Rattle.occ_running.specs.Scopes.{Scope}
use Rattle.occ_sound.specs.Agreeing.{AreSelected, Follows, IsAt, IsCounted, Knows, LiesAt, step_of}
use Rattle.occ_sound.proofs.Lists.{and_both}

-- ---- sets of places

near_if : (t : Bool) (n : ℤ) → ((if t then Some n else None) ≡ None) ⊎ ((if t then Some n else None) ≡ Some n)
near_if true n = inr refl
near_if false n = inl refl

pub near_cases : (n : ℤ) → (near n ≡ None) ⊎ (near n ≡ Some n)
near_cases n = near_if _ n

abbrev pub IfHeld : Option Places → ℤ → Type 0
IfHeld None x = Unit {0}
IfHeld (Some p) x = holds p x ≡ true

from_sum : (b a x : ℤ) → int_le a x ≡ true → int_le (b +ℤ a) (b +ℤ x) ≡ true
from_sum b a x h = grind (arith, ints)

run_sum : (b a x : ℤ) (n : ℕ) → (int_le a x && int_le x (a +ℤ pos n)) ≡ true → (int_le (b +ℤ a) (b +ℤ x) && int_le (b +ℤ x) (b +ℤ a +ℤ pos n)) ≡ true
run_sum b a x n h = grind (arith, ints)

moved_from : (b a x : ℤ) → int_le a x ≡ true → IfHeld (from_place (near (b +ℤ a))) (b +ℤ x)
moved_from b a x h = elim (near_cases (b +ℤ a)) [
  | inl e ↦ subst (λ (o : Option ℤ). IfHeld (from_place o) (b +ℤ x)) (sym e) tt
  | inr e ↦ subst (λ (o : Option ℤ). IfHeld (from_place o) (b +ℤ x)) (sym e) (from_sum b a x h)
]

moved_run : (b a x : ℤ) (n : ℕ) → (int_le a x && int_le x (a +ℤ pos n)) ≡ true → IfHeld (run_from n (near (b +ℤ a))) (b +ℤ x)
moved_run b a x n h = elim (near_cases (b +ℤ a)) [
  | inl e ↦ subst (λ (o : Option ℤ). IfHeld (run_from n o) (b +ℤ x)) (sym e) tt
  | inr e ↦ subst (λ (o : Option ℤ). IfHeld (run_from n o) (b +ℤ x)) (sym e) (run_sum b a x n h)
]

moved_holds : (b : ℤ) (p : Places) (x : ℤ) → holds p x ≡ true → IfHeld (moved b p) (b +ℤ x)
moved_holds b places.None x h = cc
moved_holds b places.All x h = refl
moved_holds b (places.From a) x h = moved_from b a x h
moved_holds b (places.Run a n) x h = moved_run b a x n h

-- ---- intervals

cut_holds : (outer : Interval) (i : Interval) (o : Option Places) (x : ℤ) → holds outer.places x ≡ true → IfHeld o x → holds (cut_to outer i.mark o).places x ≡ true
cut_holds outer i None x h k = h
cut_holds outer i (Some p) x h k = common_holds outer.places p x ∙ and_both (holds outer.places x) (holds p x) h k

pub inside_holds : (outer inner : Interval) (base : Option ℤ) (first x : ℤ) → Knows base first → holds outer.places (first +ℤ x) ≡ true → holds inner.places x ≡ true
    → holds (inside outer base inner).places (first +ℤ x) ≡ true
inside_holds outer inner None first x k h i = h
inside_holds outer inner (Some c) first x k h i =
    subst (λ (z : ℤ). holds (inside outer (Some z) inner).places (first +ℤ x) ≡ true) (sym k)
    (cut_holds outer inner (moved first inner.places) (first +ℤ x) h (moved_holds first inner.places x i))

own_place : (k : ℤ) → (int_le k k && int_le k (k +ℤ pos 0)) ≡ true
own_place k = grind (arith, ints)

subscript_holds : (k : Option ℤ) (x : ℤ) → Knows k x → holds (subscript k).places x ≡ true
subscript_holds None x h = refl
subscript_holds (Some k) x h = subst (λ (z : ℤ). holds (subscript (Some k)).places z ≡ true) h (own_place k)

not_empty : (j n : ℤ) → int_le (pos 0) j ≡ true → int_lt j n ≡ true → int_le n (pos 0) ≡ true → ⊥
not_empty j n h k l = grind (arith, ints, h, k, l)

within_run : (b j n : ℤ) → int_le (pos 0) j ≡ true → int_lt j n ≡ true → (int_le b (b +ℤ j) && int_le (b +ℤ j) (b +ℤ pos (unsigned_abs (n -ℤ pos 1)))) ≡ true
within_run b j n h k = and_both (int_le b (b +ℤ j)) (int_le (b +ℤ j) (b +ℤ pos (unsigned_abs (n -ℤ pos 1)))) (grind (arith, ints, h)) (grind (arith, ints, h, k))

after_base : (b j : ℤ) → int_le (pos 0) j ≡ true → int_le b (b +ℤ j) ≡ true
after_base b j h = grind (arith, ints, h)

counted_if : (b j n : ℤ) (t u : Bool) → int_le n (pos 0) ≡ t → int_le (pos 0) j ≡ true → int_lt j n ≡ true
    → holds (if t then places.None else if u then places.Run b (unsigned_abs (n -ℤ pos 1)) else places.From b) (b +ℤ j) ≡ true
counted_if b j n true u e h k = absurd (not_empty j n h k e)
counted_if b j n false true e h k = within_run b j n h k
counted_if b j n false false e h k = after_base b j h

counted_holds : (b j n : ℤ) → int_le (pos 0) j ≡ true → int_lt j n ≡ true → holds (counted b n) (b +ℤ j) ≡ true
counted_holds b j n h k = counted_if b j n (int_le n (pos 0)) (int_le n (pos 4294967296)) refl h k

segment_holds : (base count : Option ℤ) (b j n : ℤ) → Knows base b → Knows count n → IsWithin j n → holds (segment base count).places (b +ℤ j) ≡ true
segment_holds None count b j n h k i = refl
segment_holds (Some x) None b j n h k i = subst (λ (z : ℤ). int_le z (b +ℤ j) ≡ true) (sym h) (after_base b j i.0)
segment_holds (Some x) (Some m) b j n h k i =
    subst (λ (z : ℤ). holds (counted z m) (b +ℤ j) ≡ true) (sym h) (subst (λ (z : ℤ). holds (counted b z) (b +ℤ j) ≡ true) (sym k) (counted_holds b j n i.0 i.1))

sum_known : (x y first b : ℤ) → x ≡ first → y ≡ b → Knows (near (x +ℤ y)) (first +ℤ b)
sum_known x y first b h k = elim (near_cases (x +ℤ y)) [
  | inl e ↦ subst (λ (o : Option ℤ). Knows o (first +ℤ b)) (sym e) tt
  | inr e ↦ subst (λ (o : Option ℤ). Knows o (first +ℤ b)) (sym e) (ap (λ (z : ℤ). z +ℤ y) h ∙ ap (λ (z : ℤ). first +ℤ z) k)
]

following_known : (base other : Option ℤ) (first b : ℤ) → Knows base first → Knows other b → Knows (following base other) (first +ℤ b)
following_known None other first b h k = tt
following_known (Some x) None first b h k = tt
following_known (Some x) (Some y) first b h k = sum_known x y first b h k

-- ---- steps

selected_more : (xs ys : List PartSelector) (ts us : List Step) → AreSelected xs ts → AreSelected ys us → AreSelected (xs ++ ys) (ts ++ us)
selected_more [] ys [] us h k = k
selected_more [] ys (t ∷ ts) us h k = absurd h
selected_more (x ∷ xs) ys [] us h k = absurd h
selected_more (x ∷ xs) ys (t ∷ ts) us h k = (h.0, selected_more xs ys ts us h.1 k)

one_behind : (front tail : List Step) (t : Step) (own : List Step) → tail ≡ t ∷ own → front ++ tail ≡ (front ++ t ∷ []) ++ own
one_behind front tail t own h = ap (λ (z : List Step). front ++ z) h ∙ sym (append_assoc front (t ∷ []) own)

-- a component
component_case : (p : SelectedPart) (ending : Ending) (k : Option ℤ) (x : ℤ) (own whole front tail : List Step) → Knows k x → p.ending ≡ ending → whole ≡ front ++ tail → AreSelected p.selectors front
    → IsCounted ending (At x ∷ own) tail → Follows (with_subscript_of p ending (subscript k)) own whole
component_case p e.Plain k x own whole front tail h at is sel c =
    record {
      front = front ++ At x ∷ [];
      tail = own;
      is = is ∙ one_behind front tail (At x) own c;
      selected = selected_more p.selectors (s.Interval (subscript k) ∷ []) front (At x ∷ []) sel (subscript_holds k x h, tt);
      counted = refl;
    }
component_case p (e.Segment i base) k x own whole front tail h at is sel c =
    record {
      front = front ++ At (c.0 +ℤ x) ∷ [];
      tail = own;
      is = is ∙ one_behind front tail (At (c.0 +ℤ x)) own c.3;
      selected = selected_more p.selectors (s.Interval (inside i base (subscript k)) ∷ []) front (At (c.0 +ℤ x) ∷ []) sel (inside_holds i (subscript k) base c.0 x c.1 c.2 (subscript_holds k x h), tt);
      counted = refl;
    }
component_case p e.Whole k x own whole front tail h at is sel c =
    record { front = front; tail = tail; is = is; selected = sel; counted = subst (λ (z : Ending). IsCounted z own tail) (sym at) tt }

component_follows : (p : SelectedPart) (k : Option ℤ) (x : ℤ) (own whole : List Step) → Knows k x → Follows p (At x ∷ own) whole → Follows (with_subscript p k) own whole
component_follows p k x own whole h f = component_case p p.ending k x own whole f.front f.tail h refl f.is f.selected f.counted

pub component_lies : (d : Scope) (p : SelectedPart) (k : Option ℤ) (at : Spot) (x : ℤ) → Knows k x → LiesAt d p at → IsAt d (Some (with_subscript p k)) (ComponentOf at x)
component_lies d p k at x h f =
    record {
      start = f.start;
      is = root_same p p.ending (subscript k) f.start f.is;
      follows = λ own c r. let found = f.follows (At x ∷ own) c r in (found.0, found.1, component_follows p k x own found.0 h found.2);
    }
  where
    root_same : (p : SelectedPart) (ending : Ending) (i : Interval) (start : Spot) → Rattle.occ_sound.specs.Agreeing.origin p.root (slice_get d p.root) ≡ Some start
        → Rattle.occ_sound.specs.Agreeing.origin (with_subscript_of p ending i).root (slice_get d (with_subscript_of p ending i).root) ≡ Some start
    root_same p e.Plain i start g = g
    root_same p (e.Segment o b) i start g = g
    root_same p e.Whole i start g = g

-- a field
own_name : (m : List ℕ) → bytes_eq m m ≡ true
own_name m = (bytes_eq-Decides m m).1 refl

field_case : (p : SelectedPart) (ending : Ending) (name : List ℕ) (own whole front tail : List Step) → p.ending ≡ ending → whole ≡ front ++ tail → AreSelected p.selectors front
    → IsCounted ending (To name ∷ own) tail → Follows (with_field_of p ending name) own whole
field_case p e.Plain name own whole front tail at is sel c =
    record {
      front = front ++ To name ∷ [];
      tail = own;
      is = is ∙ one_behind front tail (To name) own c;
      selected = selected_more p.selectors (s.Field name ∷ []) front (To name ∷ []) sel (own_name name, tt);
      counted = refl;
    }
field_case p (e.Segment i base) name own whole front tail at is sel c = absurd c
field_case p e.Whole name own whole front tail at is sel c =
    record { front = front; tail = tail; is = is; selected = sel; counted = subst (λ (z : Ending). IsCounted z own tail) (sym at) tt }

pub field_lies : (d : Scope) (p : SelectedPart) (name : List ℕ) (at : Spot) → LiesAt d p at → IsAt d (Some (with_field p name)) (FieldOf at name)
field_lies d p name at f =
    record {
      start = f.start;
      is = root_same p p.ending f.start f.is;
      follows = λ own c r. let found = f.follows (To name ∷ own) c r in let g = found.2 in (found.0, found.1, field_case p p.ending name own found.0 g.front g.tail refl g.is g.selected g.counted);
    }
  where
    root_same : (p : SelectedPart) (ending : Ending) (start : Spot) → Rattle.occ_sound.specs.Agreeing.origin p.root (slice_get d p.root) ≡ Some start
        → Rattle.occ_sound.specs.Agreeing.origin (with_field_of p ending name).root (slice_get d (with_field_of p ending name).root) ≡ Some start
    root_same p e.Plain start g = g
    root_same p (e.Segment o b) start g = g
    root_same p e.Whole start g = g

-- a segment
sum_turned : (a b c : ℤ) → a +ℤ (b +ℤ c) ≡ (a +ℤ b) +ℤ c
sum_turned a b c = sym (+ℤ_assoc a b c)

segment_case : (ending : Ending) (base count : Option ℤ) (b j n : ℤ) (own tail : List Step) → Knows base b → Knows count n → IsWithin j n → IsCounted ending (At (b +ℤ j) ∷ own) tail
    → IsCounted (segment_ending ending base (segment base count)) (At j ∷ own) tail
segment_case e.Plain base count b j n own tail h k i c = (b, h, segment_holds base count b j n h k i, c)
segment_case (e.Segment outer b0) base count b j n own tail h k i c = (
  c.0 +ℤ b,
  following_known b0 base c.0 b c.1 h,
  subst (λ (z : ℤ). holds (inside outer b0 (segment base count)).places z ≡ true) (sum_turned c.0 b j) (inside_holds outer (segment base count) b0 c.0 (b +ℤ j) c.1 c.2 (segment_holds base count b j n h k i)),
  c.3 ∙ ap (λ (z : ℤ). At z ∷ own) (sum_turned c.0 b j),
)
segment_case e.Whole base count b j n own tail h k i c = tt

segment_follows : (p : SelectedPart) (base count : Option ℤ) (b j n : ℤ) (own whole : List Step) → Knows base b → Knows count n → IsWithin j n → Follows p (At (b +ℤ j) ∷ own) whole
    → Follows (with_segment p base count) (At j ∷ own) whole
segment_follows p base count b j n own whole h k i f =
    record { front = f.front; tail = f.tail; is = f.is; selected = f.selected; counted = segment_case p.ending base count b j n own f.tail h k i f.counted }

pub segment_lies : (d : Scope) (p : SelectedPart) (base count : Option ℤ) (at : Spot) (b n : ℤ) → Knows base b → Knows count n → LiesAt d p at → IsAt d (Some (with_segment p base count)) (SegmentOf at b n)
segment_lies d p base count at b n h k f = record { start = f.start; is = f.is; follows = by_steps }
  where
    by_steps : (own : List Step) (c : Cell) → Reaches (SegmentOf at b n) own c → (whole : List Step) × Reaches f.start whole c × Follows (with_segment p base count) own whole
    by_steps [] c r = absurd r
    by_steps (To name ∷ own) c r = absurd r
    by_steps (At j ∷ own) c r = let found = f.follows (At (b +ℤ j) ∷ own) c r.1 in (found.0, found.1, segment_follows p base count b j n own found.0 h k r.0 found.2)

-- RETYPES and RESHAPES
recast_case : (p : SelectedPart) (ending : Ending) (own other whole front tail : List Step) → whole ≡ front ++ tail → AreSelected p.selectors front → IsCounted ending own tail
    → (more rest : List Step) × (whole ≡ more ++ rest) × AreSelected (selectors_of p.selectors ending) more
recast_case p e.Plain own other whole front tail is sel c = (front, tail, is, sel)
recast_case p (e.Segment i base) [] other whole front tail is sel c = absurd c
recast_case p (e.Segment i base) (To name ∷ own) other whole front tail is sel c = absurd c
recast_case p (e.Segment i base) (At k ∷ own) other whole front tail is sel c =
    (front ++ At (c.0 +ℤ k) ∷ [], own, is ∙ one_behind front tail (At (c.0 +ℤ k)) own c.3, selected_more p.selectors (s.Interval i ∷ []) front (At (c.0 +ℤ k) ∷ []) sel (c.2, tt))
recast_case p e.Whole own other whole front tail is sel c = (front, tail, is, sel)

pub recast_lies : (d : Scope) (p : SelectedPart) (at : Spot) (layout : List Step → List Step) (apart : (one other : List Step) → layout one ≡ layout other → one ≡ other) → LiesAt d p at
    → IsAt d (Some (retyped p)) (Recast at layout apart)
recast_lies d p at layout apart f =
    record {
      start = f.start;
      is = f.is;
      follows = λ own c r.
          let found = f.follows (layout own) c r in
          let g = found.2 in
          let parts = recast_case p p.ending (layout own) own found.0 g.front g.tail g.is g.selected g.counted in
          (found.0, found.1, record { front = parts.0; tail = parts.1; is = parts.2; selected = parts.3; counted = tt });
    }

-- by one more name
pub named_lies : (d : Scope) (p : SelectedPart) (n : ℕ) (at : Spot) → LiesAt d p at → IsAt d (Some (named p n)) at
named_lies d p n at f =
    record {
      start = f.start;
      is = f.is;
      follows = λ own c r. let found = f.follows own c r in let g = found.2 in (found.0, found.1, record { front = g.front; tail = g.tail; is = g.is; selected = g.selected; counted = g.counted });
    }
