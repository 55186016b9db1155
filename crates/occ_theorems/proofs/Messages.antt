-- Nothing is reported of items exactly where they are a message.
use Rattle.std.proofs.Common.{◌≡◌, ◌≢◌, ◌∙◌, ◌++◌, ◌==◌, ◌||◌, ℕ, suc, Option, Some, None, List, [], ◌∷◌, length, Bool, true, false, if◌then◌else◌, refl, ap, sym, arith}
use Rattle.std.proofs.lemmas.Bool.{eq-eqb, eqb-true}
use Rattle.std.specs.List.{list_any}
use Rattle.occ_base.specs.declared.code.Code.TheVariants as code
use Rattle.occ_base.specs.declared.fault.Fault.{Fault}
use Rattle.occ_types.specs.declared.types.Item.{Item}
use Rattle.occ_types.specs.declared.types.Tag.{Tag}
use Rattle.occ_protocol.specs.Carrying.{Carrier, tag_named}
use Rattle.occ_types.specs.View.{is_faulty_tag}
use Rattle.occ_protocol.specs.Carrying.Carrier.{Hidden, Nothing, Time, Data, Sequence, Variant}
use Rattle.occ_protocol.specs.Lines.{exchanged}
use Rattle.occ_protocol.specs.Matching.{against, following, each_unmet, each_unmet_any, has_fault, meets, meets_any, named, of_another_number, reported, unmet}
use Rattle.occ_protocol.specs.Matching.Asked.{Silent, These}
use Rattle.occ_protocol.specs.Messages.{AreData, AreMet, IsMessage, IsSound}
use Rattle.occ_protocol.specs.Messages.AreMet.{none_met, one_met}
use Rattle.occ_protocol.specs.Messages.AreData.{no_data, one_datum}
use Rattle.occ_protocol.specs.Messages.IsMessage.{of_any, of_items, of_tag}
use Rattle.occ_protocol.specs.declared.given.Given.{Given}

no_false : {X : Type 0} → false ≡ true → X
no_false e = absurd (cc e)

no_true : {X : Type 0} → true ≡ false → X
no_true e = absurd (cc e)

not_none : {X : Type 0} (fault : Fault) (faults : List Fault) → fault ∷ faults ≡ [] → X
not_none fault faults e = absurd (cc e)

-- ---- of a message nothing is reported

nothing_of : (root : List ℕ) (b : Bool) (x : Given) → b ≡ true → unmet root b x ≡ []
nothing_of root true x e = refl
nothing_of root false x e = no_false e

each_silent : (root : List ℕ) (items : List Item) (xs : List Given) → AreMet items xs → each_unmet root items xs ≡ []
each_silent root _ _ none_met = refl
each_silent root _ _ (one_met item items x xs e rest) = ap (λ (fs : List Fault). fs ++ each_unmet root items xs) (nothing_of root (meets item x) x e) ∙ each_silent root items xs rest

as_many : (items : List Item) (xs : List Given) → AreMet items xs → length items ≡ length xs
as_many _ _ none_met = refl
as_many _ _ (one_met item items x xs e rest) = ap suc (as_many items xs rest)

any_silent : (root : List ℕ) (xs : List Given) → AreData xs → each_unmet_any root xs ≡ []
any_silent root _ no_data = refl
any_silent root _ (one_datum x xs e rest) = ap (λ (fs : List Fault). fs ++ each_unmet_any root xs) (nothing_of root (meets_any x) x e) ∙ any_silent root xs rest

against_silent : (root : List ℕ) (items : List Item) (xs : List Given) → AreMet items xs → against root items xs ≡ []
against_silent root items xs m = ap (λ (b : Bool). if b then each_unmet root items xs else of_another_number root xs) (eq-eqb _ _ (as_many items xs m)) ∙ each_silent root items xs m

after_silent : (root name : List ℕ) (tag : Tag) (xs : List Given) (b : Bool) → AreMet tag.items xs → reported root (if b then Silent else These tag.items) xs ≡ []
after_silent root name tag xs true m = refl
after_silent root name tag xs false m = against_silent root tag.items xs m

pub message_silent : (c : Carrier) (root : List ℕ) (tag : Option (List ℕ)) (xs : List Given) → IsMessage c tag xs → exchanged c root tag xs ≡ []
message_silent _ root _ _ (of_any xs d) = any_silent root xs d
message_silent _ root _ _ (of_items items xs m) = against_silent root items xs m
message_silent _ root _ _ (of_tag tags name tag xs e m) = ap (λ (t : Option Tag). reported root (following name t) xs) e ∙ after_silent root name tag xs (is_faulty_tag tag) m

-- ---- where nothing is reported, it is a message

-- an item without a fault, of which nothing is reported, and what is reported of those after it
met_of : (root : List ℕ) (b : Bool) (x : Given) (rest : List Fault) → has_fault x ≡ false → unmet root b x ++ rest ≡ [] → (b ≡ true) × (rest ≡ [])
met_of root true x rest f e = (refl, e)
met_of root false x rest f e = not_none _ _ (sym (ap (λ (b : Bool). (if b then [] else named code.P1 root) ++ rest) f) ∙ e)

no_fault : (a b : Bool) → (a || b) ≡ false → (a ≡ false) × (b ≡ false)
no_fault true b e = no_true e
no_fault false b e = (refl, e)

fewer : {X : Type 0} (n : ℕ) → 0 ≡ suc n → X
fewer n e = absurd (omega arith)

are_met : (root : List ℕ) (items : List Item) (xs : List Given) → list_any has_fault xs ≡ false → length items ≡ length xs → each_unmet root items xs ≡ [] → AreMet items xs
are_met root [] [] f n e = none_met
are_met root [] (x ∷ xs) f n e = fewer (length xs) n
are_met root (item ∷ items) [] f n e = fewer (length items) (sym n)
are_met root (item ∷ items) (x ∷ xs) f n e =
    let none = no_fault (has_fault x) (list_any has_fault xs) f in
    let is = met_of root (meets item x) x (each_unmet root items xs) none.0 e in
    let m : length items ≡ length xs = omega arith in
    one_met item items x xs is.0 (are_met root items xs none.1 m is.1)

are_data : (root : List ℕ) (xs : List Given) → list_any has_fault xs ≡ false → each_unmet_any root xs ≡ [] → AreData xs
are_data root [] f e = no_data
are_data root (x ∷ xs) f e =
    let none = no_fault (has_fault x) (list_any has_fault xs) f in
    let is = met_of root (meets_any x) x (each_unmet_any root xs) none.0 e in
    one_datum x xs is.0 (are_data root xs none.1 is.1)

no_number : {X : Type 0} (root : List ℕ) (b : Bool) → b ≡ false → (if b then [] else named code.P1 root) ≡ [] → X
no_number root true f e = no_true f
no_number root false f e = not_none _ _ e

met_against : (root : List ℕ) (items : List Item) (xs : List Given) → list_any has_fault xs ≡ false → against root items xs ≡ [] → AreMet items xs
met_against root items xs f e = by (length items == length xs) refl e where
  by : (b : Bool) → (length items == length xs) ≡ b → (if b then each_unmet root items xs else of_another_number root xs) ≡ [] → AreMet items xs
  by true n h = are_met root items xs f (eqb-true _ _ n) h
  by false n h = no_number root (list_any has_fault xs) f h

message_after : (tags : List Tag) (root name : List ℕ) (xs : List Given) (t : Option Tag) → tag_named tags name ≡ t → following name t ≢ Silent → list_any has_fault xs ≡ false → reported root (following name t) xs ≡ [] → IsMessage (Variant tags) (Some name) xs
message_after tags root name xs None is known f e = not_none _ _ e
message_after tags root name xs (Some tag) is known f e = by (is_faulty_tag tag) known e where
  by : (b : Bool) → (if b then Silent else These tag.items) ≢ Silent → reported root (if b then Silent else These tag.items) xs ≡ [] → IsMessage (Variant tags) (Some name) xs
  by true k h = absurd (k refl)
  by false k h = of_tag tags name tag xs is (met_against root tag.items xs f h)

pub silent_message : (c : Carrier) (root : List ℕ) (tag : Option (List ℕ)) (xs : List Given) → IsSound c tag → list_any has_fault xs ≡ false → exchanged c root tag xs ≡ [] → IsMessage c tag xs
silent_message Hidden root tag xs known f e = absurd (known refl)
silent_message Nothing root tag xs known f e = not_none _ _ e
silent_message Time root tag xs known f e = not_none _ _ e
silent_message Data root None xs known f e = of_any xs (are_data root xs f e)
silent_message Data root (Some name) xs known f e = not_none _ _ e
silent_message (Sequence items) root None xs known f e = of_items items xs (met_against root items xs f e)
silent_message (Sequence items) root (Some name) xs known f e = not_none _ _ e
silent_message (Variant tags) root None xs known f e = not_none _ _ e
silent_message (Variant tags) root (Some name) xs known f e = message_after tags root name xs (tag_named tags name) refl known f e
