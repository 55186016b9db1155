-- Rounds, one after the other.
use Rattle.std.proofs.Common.{◌≡◌, ◌∙◌, ◌≤◌, ◌+◌, ◌-◌, add-one, ℕ, ℤ, List, [], ◌∷◌, ◌++◌, length, length-append, drop, take, refl, ap, sym, arith}
use Rattle.std.proofs.lemmas.List.{drop-append-le, length-drop, take-append-le}
use Rattle.occ_base.specs.Order.{diag_order, placed}
use Rattle.occ_base.specs.declared.diag.Diag.{Diag}
use Rattle.occ_usage_values.specs.Bounds.{Env}
use Rattle.occ_usage_values.specs.declared.uses.Use.{Use}
use Rattle.occ_usage_conflicts.specs.Components.{joined, parted}
use Rattle.occ_usage_conflicts.specs.Distinct.{gathered}
use Rattle.occ_usage_conflicts.proofs.Copies.{gathered_both}
use Rattle.occ_project.specs.declared.expanded.Location.{Location}
use Rattle.occ_usage.specs.Lines.{Under, items_of, rounds_to, with_index}
use Rattle.occ_usage.specs.Trees.{Trees}
use Rattle.occ_usage.specs.Walk.{Rule, Finding, rounds_reported, reported_of}
use Rattle.occ_usage.proofs.Walking.{joined_after, joined_more}

abbrev pub total : List ℕ → ℕ
total [] = 0
total (n ∷ ns) = n + total ns

total_more : (ns : List ℕ) (n : ℕ) → total (ns ++ n ∷ []) ≡ total ns + n
total_more [] n = omega arith
total_more (m ∷ ns) n = let e : total (ns ++ n ∷ []) ≡ total ns + n = total_more ns n in omega (arith, e)

take_whole : (us : List Use) → take (length us) us ≡ us
take_whole [] = refl
take_whole (u ∷ us) = ap (λ (x : List Use). u ∷ x) (take_whole us)

parted_more : (ns : List ℕ) (us more : List Use) → total ns ≡ length us → parted (ns ++ length more ∷ []) (us ++ more) ≡ parted ns us ++ more ∷ []
parted_more [] [] more h = ap (λ (x : List Use). x ∷ []) (take_whole more)
parted_more [] (u ∷ us) more h = absurd (omega (arith, h))
parted_more (n ∷ ns) us more h =
    let w : n ≤ length us = omega (arith, h) in
    let rest : total ns ≡ length (drop n us) = omega (arith, h, length-drop n us) in
    ap (λ (x : List Use). x ∷ parted (ns ++ length more ∷ []) (drop n (us ++ more))) (take-append-le n us more w)
    ∙ ap (λ (x : List Use). take n us ∷ parted (ns ++ length more ∷ []) x) (drop-append-le n us more w)
    ∙ ap (λ (xs : List (List Use)). take n us ∷ xs) (parted_more ns (drop n us) more rest)

-- one round more
pub next_round : (ns ms : List ℕ) (us more new : List Use) (n : ℕ) (xs : List (List Use))
    → parted ns us ≡ xs → total ns ≡ length us → more ≡ us ++ new → n ≡ length more - length us → ms ≡ ns ++ n ∷ []
    → (parted ms more ≡ xs ++ new ∷ []) × (total ms ≡ length more)
next_round ns ms us more new n xs before size is many last =
    let long : length more ≡ length us + length new = ap length is ∙ length-append us new in
    let own : n ≡ length new = omega (arith, many, long) in
    let all : ms ≡ ns ++ length new ∷ [] = last ∙ ap (λ (k : ℕ). ns ++ k ∷ []) own in
    let sum : total ms ≡ total ns + length new = ap total all ∙ total_more ns (length new) in (
      ap (λ (k : List ℕ). parted k more) all ∙ ap (parted (ns ++ length new ∷ [])) is ∙ parted_more ns us new size ∙ ap (λ (ys : List (List Use)). ys ++ new ∷ []) before,
      omega (arith, sum, size, long),
    )

-- ---- the rounds up to the next

round_more : (i : ℕ) (base : ℤ) (env : Env) (under : Under) → rounds_to (i + 1) base env under ≡ rounds_to i base env under ++ joined (under (with_index env base i)) ∷ []
round_more i base env under = ap (λ (k : ℕ). rounds_to k base env under) (add-one i)

reported_more : (i : ℕ) (base : ℤ) (env : Env) (reported : Finding) → rounds_reported (i + 1) base env reported ≡ placed diag_order (reported (with_index env base i)) (rounds_reported i base env reported)
reported_more i base env reported = ap (λ (k : ℕ). rounds_reported k base env reported) (add-one i)

pub uses_step : (i : ℕ) (base : ℤ) (start env : Env) (t : Trees) (old us more : List Use) → env ≡ start
    → us ≡ old ++ joined (rounds_to i base start (items_of t)) → more ≡ us ++ joined (items_of t (with_index env base i))
    → more ≡ old ++ joined (rounds_to (i + 1) base start (items_of t))
uses_step i base start env t old us more same before is =
    joined_more old us more (joined (items_of t (with_index start base i))) (rounds_to i base start (items_of t)) before (is ∙ ap (λ (e : Env). us ++ joined (items_of t (with_index e base i))) same)
    ∙ ap (λ (xs : List (List Use)). old ++ joined xs) (sym (round_more i base start (items_of t)))

pub gather_step : (place : Location) (i : ℕ) (base : ℤ) (start env : Env) (t : Trees) (us own more : List Use) → env ≡ start
    → us ≡ gathered place [] (joined (rounds_to i base start (items_of t))) → own ≡ joined (items_of t (with_index env base i)) → more ≡ gathered place us own
    → more ≡ gathered place [] (joined (rounds_to (i + 1) base start (items_of t)))
gather_step place i base start env t us own more same before used is =
    is ∙ ap (gathered place us) (used ∙ ap (λ (e : Env). joined (items_of t (with_index e base i))) same)
    ∙ ap (λ (vs : List Use). gathered place vs (joined (items_of t (with_index start base i)))) before
    ∙ sym (gathered_both place (joined (rounds_to i base start (items_of t))) (joined (items_of t (with_index start base i))) [])
    ∙ ap (gathered place []) (sym (joined_after (rounds_to i base start (items_of t)) (joined (items_of t (with_index start base i)))))
    ∙ ap (λ (xs : List (List Use)). gathered place [] (joined xs)) (sym (round_more i base start (items_of t)))

pub sizes_step : (i : ℕ) (base : ℤ) (start env : Env) (t : Trees) (ns ms : List ℕ) (us more : List Use) (n : ℕ) → env ≡ start
    → (parted ns us ≡ rounds_to i base start (items_of t)) × (total ns ≡ length us) → more ≡ us ++ joined (items_of t (with_index env base i))
    → n ≡ length more - length us → ms ≡ ns ++ n ∷ []
    → (parted ms more ≡ rounds_to (i + 1) base start (items_of t)) × (total ms ≡ length more)
sizes_step i base start env t ns ms us more n same before is many last =
    let next = next_round ns ms us more (joined (items_of t (with_index start base i))) n (rounds_to i base start (items_of t)) before.0 before.1
    (is ∙ ap (λ (e : Env). us ++ joined (items_of t (with_index e base i))) same) many last in
    (next.0 ∙ sym (round_more i base start (items_of t)), next.1)

pub told_step : (rule : Rule) (i : ℕ) (base : ℤ) (start env : Env) (t : Trees) (found told more : List Diag) → env ≡ start
    → told ≡ rounds_reported i base start (reported_of rule t) → found ≡ reported_of rule t (with_index env base i) → more ≡ placed diag_order found told
    → more ≡ rounds_reported (i + 1) base start (reported_of rule t)
told_step rule i base start env t found told more same before own is =
    is ∙ ap (λ (ds : List Diag). placed diag_order ds told) own
    ∙ ap (λ (e : Env). placed diag_order (reported_of rule t (with_index e base i)) told) same
    ∙ ap (placed diag_order (reported_of rule t (with_index start base i))) before
    ∙ sym (reported_more i base start (reported_of rule t))
