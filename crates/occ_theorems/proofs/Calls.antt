-- What a call uses, use by use.
use Rattle.std.proofs.Common.{◌≡◌, ◌-◌, ◌<◌, ◌≤◌, ℕ, zero, suc, Bool, true, false, List, [], ◌∷◌, Option, Some, None, arith, ap, inl, inr, nat_lt, refl, slice_get, subst, sym}
use Rattle.std.specs.List.{Contains}
use Rattle.std.specs.Prelude.{◌↔◌, if◌then◌else◌}
use Rattle.std.proofs.lemmas.List.Elements.{Contains-append_cases, Contains-append_left, Contains-append_right, Contains-push}
use Rattle.occ_usage_parts.specs.Selecting.{followed_by}
use Rattle.occ_usage_parts.specs.declared.place.SelectedPart.{SelectedPart}
use Rattle.occ_project.specs.declared.expanded.Location.{Location}
use Rattle.occ_usage_values.specs.Bounds.{Env, body_of}
use Rattle.occ_usage_values.specs.Calls.{called, called_all, named_by, of_actual}
use Rattle.occ_usage_values.specs.Making.{CallUses, Makes}
use Rattle.occ_usage_values.specs.Uses.{at_line}
use Rattle.occ_usage_values.specs.Views.{ActualView, actuals_uses, call_uses, places_of}
use Rattle.occ_usage_values.specs.declared.uses.Use.{Use}

one_item : {X : Type 0} (y x : X) → Contains (y ∷ []) x → y ≡ x
one_item y x (zero, h, e) = e
one_item y x (suc k, h, e) = absurd (omega arith)

no_item : {X : Type 0} (x : X) → Contains [] x → ⊥
no_item x (k, h, e) = omega arith

below : (m n : ℕ) → nat_lt m n ≡ true → m < n
below m n h = grind arith

not_below : (m n : ℕ) → nat_lt m n ≡ false → n ≤ m
not_below m n h = grind arith

-- of a formal: there is an actual that is used
of_one : (line : Location) (u w : Use) (actual : Option SelectedPart) → Contains (of_actual line u actual) w
    → (p : SelectedPart) × (actual ≡ Some p) × (w ≡ record { part = followed_by p u.part.selectors; kind = u.kind; line = line; chain = p.chain })
of_one line u w None h = absurd (no_item w h)
of_one line u w (Some p) h = (p, refl, sym (one_item _ w h))

named_back : (actual : Option (Option SelectedPart)) (p : SelectedPart) → named_by actual ≡ Some p → actual ≡ Some (Some p)
named_back None p e = absurd cc
named_back (Some q) p e = ap (λ (x : Option SelectedPart). Some x) e

made_from : (line : Location) (callee : ℕ) (places : List (Option SelectedPart)) (u w : Use) (b : Bool) → nat_lt u.part.root callee ≡ b
    → Contains (if b then at_line u line ∷ [] else of_actual line u (named_by (slice_get places (u.part.root - callee)))) w
    → Makes line callee places u w
made_from line callee places u w true e h = inl (below u.part.root callee e, sym (one_item _ w h))
made_from line callee places u w false e h =
    let f = of_one line u w (named_by (slice_get places (u.part.root - callee))) h in
    inr (not_below u.part.root callee e, f.0, named_back _ f.0 f.1, f.2)

made_to : (line : Location) (callee : ℕ) (places : List (Option SelectedPart)) (u w : Use) (b : Bool) → nat_lt u.part.root callee ≡ b → Makes line callee places u w
    → Contains (if b then at_line u line ∷ [] else of_actual line u (named_by (slice_get places (u.part.root - callee)))) w
made_to line callee places u w true e (inl h) = subst (λ (x : Use). Contains (at_line u line ∷ []) x) (sym h.1) (Contains-push [] (at_line u line))
made_to line callee places u w true e (inr h) = absurd (omega (arith, below u.part.root callee e, h.0))
made_to line callee places u w false e (inl h) = absurd (omega (arith, not_below u.part.root callee e, h.0))
made_to line callee places u w false e (inr h) =
    subst (λ (actual : Option (Option SelectedPart)). Contains (of_actual line u (named_by actual)) w) (sym h.2)
    (subst (λ (x : Use). Contains (of_actual line u (Some h.1)) x) (sym h.3) (Contains-push [] _))

all_from : (line : Location) (callee : ℕ) (places : List (Option SelectedPart)) (us : List Use) (w : Use) → Contains (called_all line callee places us) w
    → (u : Use) × Contains us u × Makes line callee places u w
all_from line callee places [] w h = absurd (no_item w h)
all_from line callee places (u ∷ us) w h = elim (Contains-append_cases (called line callee places u) (called_all line callee places us) w h) [
  | inl here ↦ (u, Contains-append_left (u ∷ []) us u (Contains-push [] u), made_from line callee places u w (nat_lt u.part.root callee) refl here)
  | inr following ↦ let r = all_from line callee places us w following in (r.0, Contains-append_right (u ∷ []) us r.0 r.1, r.2)
]

all_to : (line : Location) (callee : ℕ) (places : List (Option SelectedPart)) (us : List Use) (u w : Use) → Contains us u → Makes line callee places u w
    → Contains (called_all line callee places us) w
all_to line callee places [] u w h m = absurd (no_item u h)
all_to line callee places (v ∷ us) u w h m = elim (Contains-append_cases (v ∷ []) us u h) [
  | inl here ↦
      Contains-append_left (called line callee places v) (called_all line callee places us) w
      (subst (λ (x : Use). Contains (called line callee places x) w) (sym (one_item v u here)) (made_to line callee places u w (nat_lt u.part.root callee) refl m))
  | inr following ↦ Contains-append_right (called line callee places v) (called_all line callee places us) w (all_to line callee places us u w following m)
]

used_from : (callee : ℕ) (xs : List ActualView) (env : Env) (line : Location) (w : Use) → Contains (call_uses callee xs env line) w → CallUses callee xs env line w
used_from callee xs env line w h = elim (Contains-append_cases (actuals_uses xs env line) (called_all line callee (places_of xs env) (body_of (slice_get env callee))) w h) [
  | inl here ↦ inl here
  | inr following ↦ inr (all_from line callee (places_of xs env) (body_of (slice_get env callee)) w following)
]

used_to : (callee : ℕ) (xs : List ActualView) (env : Env) (line : Location) (w : Use) → CallUses callee xs env line w → Contains (call_uses callee xs env line) w
used_to callee xs env line w (inl h) = Contains-append_left (actuals_uses xs env line) _ w h
used_to callee xs env line w (inr h) =
    Contains-append_right (actuals_uses xs env line) _ w (all_to line callee (places_of xs env) (body_of (slice_get env callee)) h.0 w h.1 h.2)

pub call_exactly : (callee : ℕ) (xs : List ActualView) (env : Env) (line : Location) (w : Use) → Contains (call_uses callee xs env line) w ↔ CallUses callee xs env line w
call_exactly callee xs env line w = (used_from callee xs env line w, used_to callee xs env line w)
