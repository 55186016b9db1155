-- What is touched lies in the uses of an element.
use Rattle.std.proofs.Common.{◌≡◌, ◌∙◌, true, false, ap, sym, subst, refl, List, [], ◌∷◌, ◌++◌, Option, Some, None, inl, inr}
use Rattle.std.specs.Prelude.{ℤ, ◌+ℤ◌}
use Rattle.occ_project.specs.declared.expanded.Location.{Location}
use Rattle.occ_types.specs.declared.interface.Interval.{Interval}
use Rattle.occ_types.specs.declared.interface.PartSelector.{PartSelector}
use Rattle.occ_types.specs.declared.interface.PartSelector.TheVariants as s
use Rattle.occ_types.specs.declared.interface.UseKind.{UseKind}
use Rattle.occ_usage_parts.specs.Parts.{lies, selects}
use Rattle.occ_usage_parts.specs.Places.{holds}
use Rattle.occ_usage_parts.specs.Selecting.{first_inside, followed, inside, part_of, selectors_of}
use Rattle.occ_usage_parts.specs.declared.part.Part.{Part}
use Rattle.occ_usage_parts.specs.declared.place.Ending.{Ending}
use Rattle.occ_usage_parts.specs.declared.place.Ending.TheVariants as e
use Rattle.occ_usage_parts.specs.declared.place.SelectedPart.{SelectedPart}
use Rattle.occ_usage_values.specs.Calls.{made}
use Rattle.occ_usage_values.specs.declared.uses.Use.{Use}
use Rattle.occ_running.specs.Memory.{At, Cell, Has, IsOneOf, Reaches, Spot, Step, Thread, To}
use Rattle.occ_running.specs.Running
use Rattle.occ_running.specs.Running.{Touches}
use Rattle.occ_running.specs.Runs.{Event, Occurs, Run}
use Rattle.occ_running.specs.Scopes.{Element, Scope, Thing}
use Rattle.occ_sound.specs.Agreeing.{AreSelected, Covered, Follows, InPart, IsAt, IsCounted, Knows, LiesAt, Shared, step_of, steps_of}
use Rattle.occ_sound.proofs.Lists.{and_both, and_left, and_right, in_left, in_right}
use Rattle.occ_sound.proofs.Places.{inside_holds}

-- ---- uses

pub shared_in : (d : Scope) (us vs : List Use) (e : Event) → ((u : Use) → IsOneOf us u → IsOneOf vs u) → Shared d us e → Shared d vs e
shared_in d us vs e f h = record { u = h.u; among = f h.u h.among; kind = h.kind; cell = h.cell }

pub covered_in : (d : Scope) (t : Thread) (us vs : List Use) (e : Event) → ((u : Use) → IsOneOf us u → IsOneOf vs u) → Covered d t us e → Covered d t vs e
covered_in d t us vs e f (inl h) = inl h
covered_in d t us vs e f (inr h) = inr (shared_in d us vs e f h)

-- one of these uses the same part in the same way
pub record HasAlike (us : List Use) (x : Use) : Type 0 where
  pub u : Use
  pub among : IsOneOf us u
  pub part : u.part ≡ x.part
  pub kind : u.kind ≡ x.kind

pub alike_here : (us : List Use) (x : Use) → IsOneOf us x → HasAlike us x
alike_here us x h = record { u = x; among = h; part = refl; kind = refl }

pub alike_in : (us vs : List Use) (x : Use) → ((u : Use) → IsOneOf us u → IsOneOf vs u) → HasAlike us x → HasAlike vs x
alike_in us vs x f h = record { u = h.u; among = f h.u h.among; part = h.part; kind = h.kind }

pub covered_alike : (d : Scope) (t : Thread) (us vs : List Use) (e : Event) → ((u : Use) → IsOneOf us u → HasAlike vs u) → Covered d t us e → Covered d t vs e
covered_alike d t us vs e f (inl h) = inl h
covered_alike d t us vs e f (inr h) =
    let a = f h.u h.among in
    inr (record { u = a.u; among = a.among; kind = a.kind ∙ h.kind; cell = subst (λ (p : Part). InPart d p e.cell) (sym a.part) h.cell })

pub covered_left : (d : Scope) (t : Thread) (us vs : List Use) (e : Event) → Covered d t us e → Covered d t (us ++ vs) e
covered_left d t us vs e h = covered_in d t us (us ++ vs) e (λ u i. in_left u us vs i) h

pub covered_right : (d : Scope) (t : Thread) (us vs : List Use) (e : Event) → Covered d t vs e → Covered d t (us ++ vs) e
covered_right d t us vs e h = covered_in d t vs (us ++ vs) e (λ u i. in_right u us vs i) h

-- ---- steps

pub selected_lies : (xs ys : List PartSelector) (ts us : List Step) → AreSelected xs ts → lies ys (steps_of us) ≡ true → lies (xs ++ ys) (steps_of (ts ++ us)) ≡ true
selected_lies [] ys [] us h k = k
selected_lies [] ys (t ∷ ts) us h k = absurd h
selected_lies (x ∷ xs) ys [] us h k = absurd h
selected_lies (x ∷ xs) ys (t ∷ ts) us h k =
    and_both (selects x (step_of t)) (lies (xs ++ ys) (steps_of (ts ++ us))) h.0 (selected_lies xs ys ts us h.1 k)

pub selected_front : (xs : List PartSelector) (ts us : List Step) → AreSelected xs ts → lies xs (steps_of (ts ++ us)) ≡ true
selected_front [] ts us h = refl
selected_front (x ∷ xs) [] us h = absurd h
selected_front (x ∷ xs) (t ∷ ts) us h = and_both (selects x (step_of t)) (lies xs (steps_of (ts ++ us))) h.0 (selected_front xs ts us h.1)

ending_lies : (xs : List PartSelector) (ending : Ending) (own front tail : List Step) → AreSelected xs front → IsCounted ending own tail → lies (selectors_of xs ending) (steps_of (front ++ tail)) ≡ true
ending_lies xs e.Plain own front tail h c = selected_front xs front tail h
ending_lies xs (e.Segment i base) [] front tail h c = absurd c
ending_lies xs (e.Segment i base) (To name ∷ own) front tail h c = absurd c
ending_lies xs (e.Segment i base) (At k ∷ own) front tail h c =
    subst (λ (z : List Step). lies (xs ++ s.Interval i ∷ []) (steps_of (front ++ z)) ≡ true) (sym c.3)
    (selected_lies xs (s.Interval i ∷ []) front (At (c.0 +ℤ k) ∷ own) h (and_both (holds i.places (c.0 +ℤ k)) true c.2 refl))
ending_lies xs e.Whole own front tail h c = selected_front xs front tail h

pub part_lies : (p : SelectedPart) (own whole : List Step) → Follows p own whole → lies (part_of p).selectors (steps_of whole) ≡ true
part_lies p own whole f = subst (λ (z : List Step). lies (selectors_of p.selectors p.ending) (steps_of z) ≡ true) (sym f.is) (ending_lies p.selectors p.ending own f.front f.tail f.selected f.counted)

-- a cell of an element at a place lies in the part
pub cell_in_part : (d : Scope) (p : SelectedPart) (at : Spot) (c : Cell) → LiesAt d p at → Has at c → InPart d (part_of p) c
cell_in_part d p at c h (own, r) =
    let found = h.follows own c r in
    record { start = h.start; is = h.is; steps = found.0; reaches = found.1; inside = part_lies p own found.0 found.2 }

pub made_shared : (d : Scope) (place : Option SelectedPart) (line : Location) (k : UseKind) (at : Spot) (e : Event) → IsAt d place at → e.kind ≡ k → Has at e.cell → Shared d (made line k place) e
made_shared d None line k at e h i c = absurd h
made_shared d (Some p) line k at e h i c =
    record { u = record { part = part_of p; kind = k; line = line; chain = p.chain }; among = inl refl; kind = sym i; cell = cell_in_part d p at e.cell h c }

-- ---- touches

pub touched : (k : UseKind) (xs : List Thing) (r : Run) → Touches k xs r → (e : Event) → Occurs e r → (e.kind ≡ k) × ((el : Spot) × (n : Option ℤ) × IsOneOf xs (Element el n) × Has el e.cell)
touched k xs _ Running.none e i = absurd i
touched k xs _ (Running.one_more el n c x r h has t) e (inl i) = (ap (λ (f : Event). f.kind) i, (el, n, h, subst (λ (f : Event). Has el f.cell) (sym i) has))
touched k xs _ (Running.one_more el n c x r h has t) e (inr i) = touched k xs r t e i

-- ---- parts of formals

segment_followed : (xs ys : List PartSelector) (outer : Interval) (base : Option ℤ) (k first : ℤ) (own front : List Step) → AreSelected xs front → Knows base first → holds outer.places (first +ℤ k) ≡ true
    → lies ys (steps_of (At k ∷ own)) ≡ true → lies (xs ++ first_inside outer base ys) (steps_of (front ++ At (first +ℤ k) ∷ own)) ≡ true
segment_followed xs [] outer base k first own front h g i l = selected_lies xs (s.Interval outer ∷ []) front (At (first +ℤ k) ∷ own) h (and_both (holds outer.places (first +ℤ k)) true i refl)
segment_followed xs (s.Field name ∷ ys) outer base k first own front h g i l = absurd (let no : false ≡ true = l in cc)
segment_followed xs (s.Interval j ∷ ys) outer base k first own front h g i l =
    selected_lies xs (s.Interval (inside outer base j) ∷ ys) front (At (first +ℤ k) ∷ own) h
    (and_both (holds (inside outer base j).places (first +ℤ k)) (lies ys (steps_of own)) (inside_holds outer j base first k g i (and_left (holds j.places k) (lies ys (steps_of own)) l)) (and_right (holds j.places k) (lies ys (steps_of own)) l))

followed_by_ending : (xs ys : List PartSelector) (ending : Ending) (own front tail : List Step) → AreSelected xs front → IsCounted ending own tail → lies ys (steps_of own) ≡ true
    → lies (followed xs ending ys) (steps_of (front ++ tail)) ≡ true
followed_by_ending xs ys e.Plain own front tail h c l = subst (λ (z : List Step). lies (xs ++ ys) (steps_of (front ++ z)) ≡ true) (sym c) (selected_lies xs ys front own h l)
followed_by_ending xs ys (e.Segment i base) [] front tail h c l = absurd c
followed_by_ending xs ys (e.Segment i base) (To name ∷ own) front tail h c l = absurd c
followed_by_ending xs ys (e.Segment i base) (At k ∷ own) front tail h c l =
    subst (λ (z : List Step). lies (xs ++ first_inside i base ys) (steps_of (front ++ z)) ≡ true) (sym c.3) (segment_followed xs ys i base k c.0 own front h c.1 c.2 l)
followed_by_ending xs ys e.Whole own front tail h c l = selected_front xs front tail h

-- a part of a formal is one of its actual
pub in_actual : (d : Scope) (p : SelectedPart) (ys : List PartSelector) (at : Spot) (c : Cell) (own : List Step) → LiesAt d p at → Reaches at own c → lies ys (steps_of own) ≡ true
    → InPart d (record { root = p.root; selectors = followed p.selectors p.ending ys }) c
in_actual d p ys at c own h r l =
    let found = h.follows own c r in
    let f = found.2 in
    record {
      start = h.start;
      is = h.is;
      steps = found.0;
      reaches = found.1;
      inside = subst (λ (z : List Step). lies (followed p.selectors p.ending ys) (steps_of z) ≡ true) (sym f.is) (followed_by_ending p.selectors ys p.ending own f.front f.tail f.selected f.counted l);
    }
