-- Rounds of a replicator that no line under it names: what one of them uses and reports is what all do.
use Rattle.std.proofs.Common.{◌≡◌, ◌∙◌, ◌++◌, ◌≤◌, ◌<◌, ℕ, zero, suc, ℤ, true, false, Some, List, [], ◌∷◌, length, replicate, OnOk, Result, Ok, Err, refl, ap, ap₂, sym, arith}
use Rattle.std.proofs.lemmas.List.{append-nil}
use Rattle.occ_base.specs.Order.{diag_order, placed}
use Rattle.occ_base.specs.declared.diag.Diag.{Diag}
use Rattle.occ_alias.specs.Entering.{index_value}
use Rattle.occ_project.specs.declared.expanded.Location.{Location}
use Rattle.occ_typing.specs.Forms.{BlockKind, TypedForm}
use Rattle.occ_typing.specs.BlockVariants as block
use Rattle.occ_typing.specs.FormVariants as form
use Rattle.occ_typing_statements.specs.declared.replicator_tree.KnownReplicator.{KnownReplicator}
use Rattle.occ_usage_conflicts.specs.Components.{joined}
use Rattle.occ_usage_conflicts.specs.Distinct.{gathered}
use Rattle.occ_usage_conflicts.specs.ParallelRule.{component_faults}
use Rattle.occ_usage_conflicts.proofs.Copies.{copies_faults, copies_gathered}
use Rattle.occ_usage_conflicts.proofs.Reaching.{few_faults}
use Rattle.occ_usage_values.specs.Bounds.{Env}
use Rattle.occ_usage_values.specs.Differing.{DifferAt}
use Rattle.occ_usage_values.specs.declared.uses.Use.{Use}
use Rattle.occ_usage.specs.AbbreviationRule.{abbreviation_at}
use Rattle.occ_usage.specs.Comparing.{are_compared, is_compared}
use Rattle.occ_usage.specs.Lines.{Under, components, items_of, known_replicator, rounds_to, with_index}
use Rattle.occ_usage.specs.Naming.{lines_depend}
use Rattle.occ_usage.specs.ParallelRule.{block_faults, own_faults, parallel_at}
use Rattle.occ_usage.specs.Trees.{Head, Trees}
use Rattle.occ_usage.specs.Walk.{Finding, line_reported, reported_of, rounds_reported, under_reported}
use Rattle.occ_usage.proofs.Compared.{own_compared, reported_by, rounds_components, rounds_under}
use Rattle.occ_usage.proofs.Sameness.{FindingSame, UnderSame, items_of_same, reported_abbreviation_same, reported_parallel_same}
use Rattle.occ_usage.proofs.Told.{told_again}

pub on_ok : {T E : Type 0} (r : Result T E) {P Q : Type 0} → (P → Q) → OnOk r P → OnOk r Q
on_ok (Ok x) f h = f h
on_ok (Err e) f h = tt

-- the scopes of two rounds
index_differ : (env : Env) (base : ℤ) (i j : ℕ) → DifferAt (length env) (with_index env base i) (with_index env base j)
index_differ env base i j = record { before = env; after = []; v = index_value base i; w = index_value base j; number = refl; one = refl; other = refl }

replicate_last : {X : Type 0} (n : ℕ) (x : X) → replicate n x ++ x ∷ [] ≡ replicate (suc n) x
replicate_last zero x = refl
replicate_last (suc n) x = ap (λ xs. x ∷ xs) (replicate_last n x)

rounds_copies : (env : Env) (base : ℤ) (under : Under) → UnderSame (length env) under → (n : ℕ) → rounds_to n base env under ≡ replicate n (joined (under (with_index env base 0)))
rounds_copies env base under u zero = refl
rounds_copies env base under u (suc i) =
    ap₂ (λ (xs : List (List Use)) (ys : List (List Use)). xs ++ joined ys ∷ []) (rounds_copies env base under u i)
    (u (with_index env base i) (with_index env base 0) (index_differ env base i 0))
    ∙ replicate_last i (joined (under (with_index env base 0)))

rounds_told : (env : Env) (base : ℤ) (x : Finding) → FindingSame (length env) x → (n : ℕ) → rounds_reported (suc n) base env x ≡ placed diag_order (x (with_index env base 0)) []
rounds_told env base x u zero = refl
rounds_told env base x u (suc n) =
    ap₂ (λ (ds es : List Diag). placed diag_order ds es) (u (with_index env base (suc n)) (with_index env base 0) (index_differ env base (suc n) 0)) (rounds_told env base x u n)
    ∙ told_again (x (with_index env base 0)) []

at_least : (n : ℕ) → 1 ≤ n → (k : ℕ) × (n ≡ suc k)
at_least zero w = absurd (omega (arith, w))
at_least (suc k) w = (k, refl)

some_told : (env : Env) (base : ℤ) (x : Finding) → FindingSame (length env) x → (n : ℕ) → 1 ≤ n → placed diag_order (x (with_index env base 0)) [] ≡ rounds_reported n base env x
some_told env base x u n some =
    let more = at_least n some in
    sym (ap (λ (m : ℕ). rounds_reported m base env x) more.1 ∙ rounds_told env base x u more.0)

-- ---- uses

pub alike_gathered : (env : Env) (h : Head) (t : Trees) (k : KnownReplicator) → known_replicator h.form ≡ Some k → lines_depend (length env) t ≡ false → 1 ≤ k.count
    → gathered h.place [] (joined (items_of t (with_index env k.base 0))) ≡ gathered h.place [] (joined (components env h (items_of t)))
alike_gathered env h t k known names some =
    let us = joined (items_of t (with_index env k.base 0)) in
    let more = at_least k.count some in
    sym (ap (λ (xs : List (List Use)). gathered h.place [] (joined xs)) (rounds_components env h k (items_of t) known ∙ rounds_copies env k.base (items_of t) (items_of_same (length env) t names) k.count)
    ∙ ap (λ (n : ℕ). gathered h.place [] (joined (replicate n us))) more.1
    ∙ copies_gathered h.place more.0 us)

-- ---- what is reported

pub alike_abbreviations : (env : Env) (h : Head) (t : Trees) (k : KnownReplicator) → known_replicator h.form ≡ Some k → lines_depend (length env) t ≡ false → 1 ≤ k.count
    → placed diag_order (reported_of abbreviation_at t (with_index env k.base 0)) [] ≡ under_reported env h (reported_of abbreviation_at t)
alike_abbreviations env h t k known names some =
    some_told env k.base (reported_of abbreviation_at t) (reported_abbreviation_same (length env) t names) k.count some ∙ sym (rounds_under env h k (reported_of abbreviation_at t) known)

alike_under : (env : Env) (h : Head) (t : Trees) (k : KnownReplicator) → known_replicator h.form ≡ Some k → lines_depend (length env) t ≡ false → 1 ≤ k.count
    → placed diag_order (reported_of parallel_at t (with_index env k.base 0)) [] ≡ under_reported env h (reported_of parallel_at t)
alike_under env h t k known names some =
    some_told env k.base (reported_of parallel_at t) (reported_parallel_same (length env) t names) k.count some ∙ sym (rounds_under env h k (reported_of parallel_at t) known)

alike_components : (env : Env) (h : Head) (t : Trees) (k : KnownReplicator) → known_replicator h.form ≡ Some k → lines_depend (length env) t ≡ false
    → components env h (items_of t) ≡ replicate k.count (joined (items_of t (with_index env k.base 0)))
alike_components env h t k known names = rounds_components env h k (items_of t) known ∙ rounds_copies env k.base (items_of t) (items_of_same (length env) t names) k.count

block_none : (kind : BlockKind) (line : Location) (env : Env) (xs : List (List Use)) → is_compared kind ≡ false → block_faults kind line env xs ≡ []
block_none block.Parallel line env xs apart = cc
block_none block.Sequence line env xs apart = refl
block_none block.Conditional line env xs apart = refl
block_none block.Alternation line env xs apart = refl

own_none : (f : TypedForm) (k : KnownReplicator) (line : Location) (env : Env) (xs : List (List Use)) → known_replicator f ≡ Some k → are_compared f ≡ false → own_faults f line env xs ≡ []
own_none (form.Block kind r) k line env xs known apart = block_none kind line env xs apart
own_none (form.Assignment els es) k line env xs known apart = absurd cc
own_none other k line env xs known apart = refl

one_round : (n : ℕ) (us : List Use) → n ≤ 1 → length (replicate n us) < 2
one_round zero us w = omega arith
one_round (suc zero) us w = omega arith
one_round (suc (suc n)) us w = absurd (omega (arith, w))

two_rounds : (n : ℕ) → 1 < n → (k : ℕ) × (n ≡ suc (suc k))
two_rounds zero w = absurd (omega (arith, w))
two_rounds (suc zero) w = absurd (omega (arith, w))
two_rounds (suc (suc k)) w = (k, refl)

-- rounds that are not compared, or of which there is one at most
pub repeated_none : (f : TypedForm) (k : KnownReplicator) (line : Location) (env : Env) (us : List Use) → known_replicator f ≡ Some k → are_compared f ≡ false
    → own_faults f line env (replicate k.count us) ≡ []
repeated_none f k line env us known apart = own_none f k line env (replicate k.count us) known apart

pub repeated_few : (f : TypedForm) (n : ℕ) (line : Location) (env : Env) (us : List Use) → are_compared f ≡ true → n ≤ 1 → own_faults f line env (replicate n us) ≡ []
repeated_few f n line env us compared few = own_compared f line env (replicate n us) compared ∙ few_faults line env (replicate n us) (one_round n us few)

-- rounds that are compared: two stand for all
pub repeated_twice : (f : TypedForm) (n : ℕ) (line : Location) (env : Env) (us : List Use) → are_compared f ≡ true → 1 < n
    → own_faults f line env (replicate n us) ≡ component_faults line env (us ∷ us ∷ [])
repeated_twice f n line env us compared more =
    let count = two_rounds n more in
    own_compared f line env (replicate n us) compared
    ∙ ap (λ (m : ℕ). component_faults line env (replicate m us)) count.1
    ∙ copies_faults line env us count.0

-- what one round uses and reports, with what the rounds have in common
pub alike_parallel : (env : Env) (h : Head) (t : Trees) (k : KnownReplicator) (old mid new : List Diag) (us : List Use) → known_replicator h.form ≡ Some k → lines_depend (length env) t ≡ false → 1 ≤ k.count
    → mid ≡ old ++ placed diag_order (reported_of parallel_at t (with_index env k.base 0)) [] → us ≡ joined (items_of t (with_index env k.base 0))
    → new ≡ mid ++ own_faults h.form h.place env (replicate k.count us)
    → new ≡ old ++ line_reported parallel_at env h t (reported_of parallel_at t)
alike_parallel env h t k old mid new us known names some is used told =
    reported_by env h t old mid new (placed diag_order (reported_of parallel_at t (with_index env k.base 0)) []) (own_faults h.form h.place env (replicate k.count us)) is told (alike_under env h t k known names some)
    (sym (ap (λ (xs : List (List Use)). own_faults h.form h.place env xs) (alike_components env h t k known names ∙ ap (λ (vs : List Use). replicate k.count vs) (sym used))))

-- rounds that are not compared
pub sequence_parallel : (env : Env) (h : Head) (t : Trees) (k : KnownReplicator) (old new : List Diag) → known_replicator h.form ≡ Some k → are_compared h.form ≡ false
    → new ≡ old ++ rounds_reported k.count k.base env (reported_of parallel_at t) → new ≡ old ++ line_reported parallel_at env h t (reported_of parallel_at t)
sequence_parallel env h t k old new known apart told =
    reported_by env h t old new new (rounds_reported k.count k.base env (reported_of parallel_at t)) [] told (sym (append-nil new))
    (sym (rounds_under env h k (reported_of parallel_at t) known)) (sym (own_none h.form k h.place env (components env h (items_of t)) known apart))
