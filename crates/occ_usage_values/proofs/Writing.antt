-- What a call writes: nothing by a body that writes nothing.
use Rattle.std.proofs.Common.{◌≡◌, ◌∙◌, ℕ, ◌-◌, Bool, true, false, cond, ◌||◌, Option, Some, None, List, [], ◌∷◌, refl, ap, ap₂}
use Rattle.std.specs.List.{list_any, slice_get}
use Rattle.std.specs.Prelude.{nat_lt}
use Rattle.std.proofs.lemmas.List.Folds.{list_any-append}
use Rattle.occ_project.specs.declared.expanded.Location.{Location}
use Rattle.occ_usage_parts.specs.declared.place.SelectedPart.{SelectedPart}
use Rattle.occ_usage_values.specs.Calls.{called, called_all, named_by, of_actual}
use Rattle.occ_usage_values.specs.Uses.{at_line, is_write}
use Rattle.occ_usage_values.specs.declared.uses.Use.{Use}
use Rattle.occ_usage_values.proofs.Differing.{left_false, right_false}

abbrev writes : Use → Bool
writes u = is_write u.kind

actual_writes : (line : Location) (u : Use) → writes u ≡ false → (place : Option SelectedPart) → list_any writes (of_actual line u place) ≡ false
actual_writes line u h None = refl
actual_writes line u h (Some p) = ap (λ (b : Bool). b || false) h

called_writes : (line : Location) (callee : ℕ) (places : List (Option SelectedPart)) (u : Use) → writes u ≡ false → list_any writes (called line callee places u) ≡ false
called_writes line callee places u h = by (nat_lt u.part.root callee) where
  by : (b : Bool) → list_any writes (cond b (at_line u line ∷ []) (of_actual line u (named_by (slice_get places (u.part.root - callee))))) ≡ false
  by true = ap (λ (b : Bool). b || false) h
  by false = actual_writes line u h (named_by (slice_get places (u.part.root - callee)))

pub writes_none : (line : Location) (callee : ℕ) (places : List (Option SelectedPart)) (body : List Use) → list_any (λ (u : Use). is_write u.kind) body ≡ false
    → list_any (λ (u : Use). is_write u.kind) (called_all line callee places body) ≡ false
writes_none line callee places [] h = refl
writes_none line callee places (u ∷ us) h =
    list_any-append writes (called line callee places u) (called_all line callee places us)
    ∙ ap₂ (λ (a b : Bool). a || b) (called_writes line callee places u (left_false (writes u) (list_any writes us) h)) (writes_none line callee places us (right_false (writes u) (list_any writes us) h))
