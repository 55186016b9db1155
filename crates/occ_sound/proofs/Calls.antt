-- What a call does, by the uses of the body and by the actuals.
use Rattle.std.proofs.Common.{◌≡◌, ◌+◌, ◌-◌, ◌<◌, ◌≤◌, ℕ, zero, suc, Bool, true, false, ap, sym, subst, ◌∙◌, refl, arith, List, [], ◌∷◌, ◌++◌, Option, Some, None, inl, inr, length}
use Rattle.std.specs.Prelude.{◌⊎◌, ◌||◌, nat_lt, slice_get, take, if◌then◌else◌}
use Rattle.occ_project.specs.declared.expanded.Location.{Location}
use Rattle.occ_typing_rules.specs.declared.expr.Selector.TheOpen.{TypedActual-F}
use Rattle.occ_typing_rules.specs.declared.expr.TypedActual.{TypedActual, out-TypedActual}
use Rattle.occ_usage_conflicts.specs.Bodies.{body_uses, from_outside, outside}
use Rattle.occ_usage_conflicts.specs.Distinct.{added, distinct, gathered, is_among, same_use}
use Rattle.occ_usage_conflicts.proofs.Equality.{same_exactly}
use Rattle.occ_usage_parts.specs.declared.place.SelectedPart.{SelectedPart}
use Rattle.occ_usage_parts.specs.Selecting.{followed_by, part_of}
use Rattle.occ_usage_values.specs.Bounds.{Env}
use Rattle.occ_usage_values.specs.Calls.{called, called_all, named_by, of_actual}
use Rattle.occ_usage_values.specs.Uses.{at_line}
use Rattle.occ_usage_values.specs.Views.{ActualView, actual_view, actual_views, element_view, places_of}
use Rattle.occ_usage_values.specs.declared.uses.Use.{Use}
use Rattle.occ_running.specs.Memory.{Cell, IsOneOf, Spot}
use Rattle.occ_running.specs.Scopes.{Body, Clock, Element, Formal, Formula, Held, Other, Shown, Scope, Stored, Thing, formal_of, formals_of}
use Rattle.occ_running.specs.Works.{Find, actual_work, pass}
use Rattle.occ_sound.specs.Agreeing.{InPart, IsAt, LiesAt, origin}
use Rattle.occ_sound.proofs.Forms.{ActualForm, actual_form, actual_opened}
use Rattle.occ_sound.proofs.Knowing.{Good, found_one, raw_value}
use Rattle.occ_sound.proofs.Lists.{get_below, get_cases, in_left, in_right, none_some, some_same}
use Rattle.occ_sound.proofs.Names.{FoundAs, Kept}
use Rattle.occ_sound.proofs.Touching.{cell_in_part, in_actual}

-- ---- uses, each once

among_by : (x u : Use) (xs : List Use) (t : Bool) → same_use x u ≡ t → (is_among xs u ≡ true → IsOneOf xs u) → (t || is_among xs u) ≡ true → IsOneOf (x ∷ xs) u
among_by x u xs true e rest h = inl (sym ((same_exactly x u).0 e))
among_by x u xs false e rest h = inr (rest h)

among_found : (found : List Use) (u : Use) → is_among found u ≡ true → IsOneOf found u
among_found [] u h = cc
among_found (x ∷ xs) u h = among_by x u xs (same_use x u) refl (among_found xs u) h

added_keeps : (u x : Use) (found : List Use) (t : Bool) → is_among found u ≡ t → (x ≡ u) ⊎ IsOneOf found x → IsOneOf (if t then found else found ++ u ∷ []) x
added_keeps u x found true e (inl h) = subst (λ (z : Use). IsOneOf found z) (sym h) (among_found found u e)
added_keeps u x found true e (inr h) = h
added_keeps u x found false e (inl h) = in_right x found (u ∷ []) (inl h)
added_keeps u x found false e (inr h) = in_left x found (u ∷ []) h

pub distinct_keeps : (us : List Use) (x : Use) → IsOneOf us x → IsOneOf (distinct us) x
distinct_keeps [] x h = h
distinct_keeps (u ∷ us) x (inl h) = added_keeps u x (distinct us) (is_among (distinct us) u) refl (inl h)
distinct_keeps (u ∷ us) x (inr h) = added_keeps u x (distinct us) (is_among (distinct us) u) refl (inr (distinct_keeps us x h))

-- ---- uses of one line

gathered_stays : (line : Location) (us found : List Use) (x : Use) → IsOneOf found x → IsOneOf (gathered line found us) x
gathered_stays line [] found x h = h
gathered_stays line (u ∷ us) found x h =
    gathered_stays line us (added (at_line u line) found) x (added_keeps (at_line u line) x found (is_among found (at_line u line)) refl (inr h))

pub gathered_keeps : (line : Location) (us found : List Use) (x : Use) → IsOneOf us x → IsOneOf (gathered line found us) (at_line x line)
gathered_keeps line [] found x h = absurd h
gathered_keeps line (u ∷ us) found x (inl h) =
    gathered_stays line us (added (at_line u line) found) (at_line x line)
    (added_keeps (at_line u line) (at_line x line) found (is_among found (at_line u line)) refl (inl (ap (λ (z : Use). at_line z line) h)))
gathered_keeps line (u ∷ us) found x (inr h) = gathered_keeps line us (added (at_line u line) found) x h

-- ---- a body from outside

outside_if : (n m : ℕ) (line : Location) (u : Use) (rest : List Use) (t : Bool) → nat_lt u.part.root m ≡ t → u.part.root < m → IsOneOf (if t then from_outside n line u ∷ rest else rest) (from_outside n line u)
outside_if n m line u rest true e l = inl refl
outside_if n m line u rest false e l = absurd (grind (arith, e, l))

outside_later : (x u : Use) (rest : List Use) (t : Bool) → IsOneOf rest x → IsOneOf (if t then u ∷ rest else rest) x
outside_later x u rest true h = inr h
outside_later x u rest false h = h

seen_outside : (n m : ℕ) (line : Location) (us : List Use) (u : Use) → IsOneOf us u → u.part.root < m → IsOneOf (outside n m line us) (from_outside n line u)
seen_outside n m line [] u h l = absurd h
seen_outside n m line (v ∷ us) u (inl h) l =
    subst (λ (z : Use). IsOneOf (outside n m line (v ∷ us)) (from_outside n line z)) (sym h)
    (outside_if n m line v (outside n m line us) (nat_lt v.part.root m) refl (subst (λ (z : Use). z.part.root < m) h l))
seen_outside n m line (v ∷ us) u (inr h) l = outside_later (from_outside n line u) (from_outside n line v) (outside n m line us) (nat_lt v.part.root m) (seen_outside n m line us u h l)

-- ---- actuals

pub has_entry : (n : ℕ) (x : Option Thing) (at : Spot) → origin n x ≡ Some at → (z : Thing) × (x ≡ Some z) × (origin n (Some z) ≡ Some at)
has_entry n None at h = none_some at h
has_entry n (Some z) at h = (z, refl, h)

-- what was passed for the formal with this number lies at this place
pub record Passed (env : Env) (d : Scope) (xs : List TypedActual) (i : ℕ) (at : Spot) : Type 0 where
  pub p : SelectedPart
  pub place : slice_get (places_of (actual_views xs) env) i ≡ Some (Some p)
  pub lies : LiesAt d p at

passed_place : (d : Scope) (place : Option SelectedPart) (at : Spot) → IsAt d place at → (p : SelectedPart) × (place ≡ Some p) × LiesAt d p at
passed_place d None at h = absurd h
passed_place d (Some p) at h = (p, refl, h)

first_passed : (env : Env) (d : Scope) (o : ActualForm) (ws : List Thing) (y : Thing) (m : ℕ) (at : Spot) → Good env d (actual_work o) ws → ws ≡ y ∷ [] → origin m (Some (formal_of y)) ≡ Some at
    → IsAt d ((actual_form o).place env) at
first_passed env d (TypedActual-F.Value e) ws y m at g h k = no_origin (Held g.0 g.1) (subst (λ (z : Thing). origin m (Some (formal_of z)) ≡ Some at) (same y (Held g.0 g.1) (sym h ∙ g.2)) k) where
  same : (x z : Thing) → x ∷ [] ≡ z ∷ [] → x ≡ z
  same x z e = cc

  no_origin : (z : Thing) → origin m (Some (formal_of (Held g.0 g.1))) ≡ Some at → IsAt d None at
  no_origin z e = none_some at e
first_passed env d (TypedActual-F.Variable el) ws y m at g h k = by_thing y (found_one env d el y (subst (λ (z : List Thing). Good env d (Find el) z) h g)) k where
  by_thing : (z : Thing) → FoundAs d ((element_view el).place env) ((element_view el).size env) (raw_value el env) z → origin m (Some (formal_of z)) ≡ Some at → IsAt d ((element_view el).place env) at
  by_thing (Element x n) f e = subst (λ (w : Spot). IsAt d ((element_view el).place env) w) (some_same x at e) f.0
  by_thing (Held v n) f e = none_some at e
  by_thing (Clock n) f e = none_some at e
  by_thing (Stored t) f e = absurd f
  by_thing (Formal x) f e = absurd f
  by_thing (Body l) f e = absurd f
  by_thing (Formula fs rs) f e = absurd f
  by_thing (Shown us2) f e = absurd f
  by_thing Other f e = absurd f

-- one thing comes of an actual
one_thing : (env : Env) (d : Scope) (o : ActualForm) (ws : List Thing) → Good env d (actual_work o) ws → (y : Thing) × (ws ≡ y ∷ [])
one_thing env d (TypedActual-F.Value e) ws g = (Held g.0 g.1, g.2)
one_thing env d (TypedActual-F.Variable el) ws g = (g.0, g.1)

passed_first : (env : Env) (d : Scope) (x : TypedActual) (xs : List TypedActual) (at : Spot) → IsAt d ((actual_form (out-TypedActual x)).place env) at → Passed env d (x ∷ xs) 0 at
passed_first env d x xs at h =
    let found = passed_place d ((actual_view x).place env) at (subst (λ (w : ActualView). IsAt d (w.place env) at) (sym (actual_opened x)) h) in
    record { p = found.0; place = ap Some found.1; lies = found.2 }

passed_later : (env : Env) (d : Scope) (x : TypedActual) (xs : List TypedActual) (i : ℕ) (at : Spot) → Passed env d xs i at → Passed env d (x ∷ xs) (suc i) at
passed_later env d x xs i at h = record { p = h.p; place = h.place; lies = h.lies }

passed_at : (env : Env) (d : Scope) (x : TypedActual) (xs : List TypedActual) (ws ys : List Thing) (y : Thing) (i m : ℕ) (z : Thing) (at : Spot) → ws ≡ y ∷ [] → Good env d (actual_work (out-TypedActual x)) ws
    → ((j : ℕ) → slice_get (formals_of ys) j ≡ Some z → Passed env d xs j at) → slice_get (formals_of (y ∷ ys)) i ≡ Some z → origin m (Some z) ≡ Some at → Passed env d (x ∷ xs) i at
passed_at env d x xs ws ys y zero m z at e g k h o =
    passed_first env d x xs at (first_passed env d (out-TypedActual x) ws y m at g e (subst (λ (w : Thing). origin m (Some w) ≡ Some at) (sym (some_same (formal_of y) z h)) o))
passed_at env d x xs ws ys y (suc i) m z at e g k h o = passed_later env d x xs i at (k i h)

-- what has an origin was passed as an element
pub passed : (env : Env) (d : Scope) (xs : List TypedActual) (zs : List Thing) → Good env d (pass xs) zs → (i m : ℕ) (z : Thing) (at : Spot) → slice_get (formals_of zs) i ≡ Some z → origin m (Some z) ≡ Some at → Passed env d xs i at
passed env d [] zs g i m z at h o = absurd (none_of (subst (λ (ws : List Thing). slice_get (formals_of ws) i ≡ Some z) g h)) where
  none_of : None ≡ Some z → ⊥
  none_of e = cc
passed env d (x ∷ xs) zs (ws, ys, same, first, rest) i m z at h o =
    let one = one_thing env d (out-TypedActual x) ws first in
    let all : zs ≡ one.0 ∷ ys = same ∙ ap (λ (vs : List Thing). vs ++ ys) one.1 in
    passed_at env d x xs ws ys one.0 i m z at one.1 first (λ j k. passed env d xs ys rest j m z at k o) (subst (λ (vs : List Thing). slice_get (formals_of vs) i ≡ Some z) all h) o

-- ---- a use of the body is one of the call

-- where the use of the body comes from: from round the body, or from an actual
abbrev pub Comes : Env → Scope → ℕ → List TypedActual → Use → Use → Cell → Type 0
Comes env d n xs u w c =
    ((u.part.root < n) × (w.part ≡ u.part))
    ⊎ ((i : ℕ) × (p : SelectedPart) × (u.part.root ≡ n + i) × (slice_get (places_of (actual_views xs) env) i ≡ Some (Some p)) × InPart d (part_of p) c × (w.part.root ≡ p.root))

pub record Mapped (env : Env) (d : Scope) (line : Location) (n : ℕ) (xs : List TypedActual) (us : List Use) (u : Use) (c : Cell) : Type 0 where
  pub source : IsOneOf us u
  pub w : Use
  pub among : IsOneOf (called_all line n (places_of (actual_views xs) env) us) w
  pub kind : w.kind ≡ u.kind
  pub cell : InPart d w.part c
  pub comes : Comes env d n xs u w c

called_in : (line : Location) (n : ℕ) (ps : List (Option SelectedPart)) (us : List Use) (u w : Use) → IsOneOf us u → IsOneOf (called line n ps u) w → IsOneOf (called_all line n ps us) w
called_in line n ps [] u w h i = absurd h
called_in line n ps (v ∷ us) u w (inl e) i = in_left w (called line n ps v) (called_all line n ps us) (subst (λ (x : Use). IsOneOf (called line n ps x) w) e i)
called_in line n ps (v ∷ us) u w (inr h) i = in_right w (called line n ps v) (called_all line n ps us) (called_in line n ps us u w h i)

called_free : (line : Location) (n : ℕ) (t : Bool) (u : Use) (vs : List Use) → nat_lt u.part.root n ≡ t → u.part.root < n → IsOneOf (if t then at_line u line ∷ [] else vs) (at_line u line)
called_free line n true u vs e l = inl refl
called_free line n false u vs e l = absurd (grind (arith, e, l))

called_passed : (line : Location) (n : ℕ) (t : Bool) (u w : Use) (vs ws : List Use) → nat_lt u.part.root n ≡ t → n ≤ u.part.root → IsOneOf vs w → IsOneOf (if t then ws else vs) w
called_passed line n true u w vs ws e l h = absurd (grind (arith, e, l))
called_passed line n false u w vs ws e l h = h

of_this : (line : Location) (n i : ℕ) (ps : List (Option SelectedPart)) (u : Use) (p : SelectedPart) → u.part.root ≡ n + i → slice_get ps i ≡ Some (Some p)
    → IsOneOf (of_actual line u (named_by (slice_get ps (u.part.root - n)))) (record { part = followed_by p u.part.selectors; kind = u.kind; line = line; chain = p.chain })
of_this line n i ps u p h k =
    let same : u.part.root - n ≡ i = omega (arith, h) in
    subst (λ (j : ℕ). IsOneOf (of_actual line u (named_by (slice_get ps j))) (record { part = followed_by p u.part.selectors; kind = u.kind; line = line; chain = p.chain })) (sym same)
    (subst (λ (o : Option (Option SelectedPart)). IsOneOf (of_actual line u (named_by o)) (record { part = followed_by p u.part.selectors; kind = u.kind; line = line; chain = p.chain })) (sym k) (inl refl))

-- a cell in a part that the body uses lies in one that the call uses
pub mapped : (env : Env) (d : Scope) (line : Location) (n : ℕ) (xs : List TypedActual) (zs : List Thing) (us : List Use) (u : Use) (c : Cell) → Kept (take n d) d → length (take n d) ≡ n → Good env d (pass xs) zs → IsOneOf us u
    → InPart (take n d ++ formals_of zs) u.part c → Mapped env d line n xs us u c
mapped env d line n xs zs us u c kept len g h part =
    let found = has_entry u.part.root (slice_get (take n d ++ formals_of zs) u.part.root) part.start part.is in
    elim (get_cases (take n d) (formals_of zs) u.part.root found.0 found.1) [
      | inl before ↦ from_round found.0 before found.2
      | inr later ↦ from_actual later.0 found.0 later.1 later.2 found.2
    ]
  where
    from_round : (z : Thing) → slice_get (take n d) u.part.root ≡ Some z → origin u.part.root (Some z) ≡ Some part.start → Mapped env d line n xs us u c
    from_round z at o =
        let low : u.part.root < length (take n d) = get_below (take n d) u.part.root z at in
        let below : u.part.root < n = omega (arith, low, len) in
        record {
          source = h;
          w = at_line u line;
          among = called_in line n (places_of (actual_views xs) env) us u (at_line u line) h (called_free line n (nat_lt u.part.root n) u _ refl below);
          kind = refl;
          cell = record { start = part.start; is = ap (origin u.part.root) (kept u.part.root z at) ∙ o; steps = part.steps; reaches = part.reaches; inside = part.inside };
          comes = inl (below, refl);
        }

    from_actual : (i : ℕ) (z : Thing) → u.part.root ≡ length (take n d) + i → slice_get (formals_of zs) i ≡ Some z → origin u.part.root (Some z) ≡ Some part.start → Mapped env d line n xs us u c
    from_actual i z e at o =
        let who = passed env d xs zs g i u.part.root z part.start at o in
        let root : u.part.root ≡ n + i = omega (arith, e, len) in
        let w : Use = record { part = followed_by who.p u.part.selectors; kind = u.kind; line = line; chain = who.p.chain } in
        record {
          source = h;
          w = w;
          among = called_in line n (places_of (actual_views xs) env) us u w h
              (called_passed line n (nat_lt u.part.root n) u w (of_actual line u (named_by (slice_get (places_of (actual_views xs) env) (u.part.root - n)))) _ refl (omega (arith, root)) (of_this line n i (places_of (actual_views xs) env) u who.p root who.place));
          kind = refl;
          cell = in_actual d who.p u.part.selectors part.start c part.steps who.lies part.reaches part.inside;
          comes = inr (i, who.p, root, who.place, cell_in_part d who.p part.start c who.lies (part.steps, part.reaches), refl);
        }

-- a use in the body, as it is seen from outside
pub seen : (n m : ℕ) (line : Location) (us : List Use) (u : Use) → IsOneOf us u → u.part.root < m → IsOneOf (body_uses n m line us) (from_outside n line u)
seen n m line us u h l = distinct_keeps (outside n m line us) (from_outside n line u) (seen_outside n m line us u h l)
