-- The two ways to say what a rule reports are one.
use Rattle.std.specs.Prelude.{◌==◌, ◌↔◌}
use Rattle.std.proofs.Common.{◌≡◌, ◌<◌, ◌⊎◌, ℕ, ℤ, zero, suc, Bool, true, false, Option, Some, None, List, [], ◌∷◌, inl, inr, refl, subst, sym, arith}
use Rattle.std.specs.BTreeSet.{insert_key}
use Rattle.std.specs.List.{Contains}
use Rattle.std.proofs.lemmas.List.Elements.{Contains-append_cases, Contains-append_left, Contains-append_right}
use Rattle.occ_base.specs.Order.{diag_order, placed}
use Rattle.occ_base.specs.declared.diag.Diag.{Diag}
use Rattle.occ_usage_values.specs.Bounds.{Env}
use Rattle.occ_typing_statements.specs.declared.replicator_tree.KnownReplicator.{KnownReplicator}
use Rattle.occ_usage.specs.Effect.{inner}
use Rattle.occ_usage.specs.Lines.{after_line, known_replicator, with_index}
use Rattle.occ_usage.specs.Standing.{IsReportedIn, Stands, below, first, in_round, later}
use Rattle.occ_usage.specs.Trees.{Empty, Head, Tree, Trees, trees_of}
use Rattle.occ_usage.specs.Walk.{At, Rule, Finding, line_reported, rounds_reported, reported, reported_of, under_reported, under_reported_by, unit_reported}
use Rattle.occ_usage.proofs.Exact.{same_diags}
use Rattle.occ_typing.specs.declared.tree.TypedLine.{TypedLine}
use Rattle.occ_theorems.proofs.Members.{Among, from_contains, from_insert, into_contains, new_insert, old_insert}

none_reported : (d : Diag) → Contains [] d → ⊥
none_reported d h = let k : h.0 < 0 = h.1 in omega (arith, k)

-- ---- what is told once

placed_found : (ds there : List Diag) (d : Diag) → Among d (placed diag_order ds there) → Among d ds ⊎ Among d there
placed_found [] there d h = inr h
placed_found (x ∷ ds) there d h = elim (from_insert diag_order (placed diag_order ds there) x d h) [
  | inl e ↦ inl (inl e)
  | inr k ↦ elim (placed_found ds there d k) [
    | inl j ↦ inl (inr j)
    | inr j ↦ inr j
  ]
]

placed_given : (ds there : List Diag) (d : Diag) → Among d ds → Among d (placed diag_order ds there)
placed_given [] there d h = absurd h
placed_given (x ∷ ds) there d (inl e) =
    subst (λ (y : Diag). Among y (insert_key diag_order (placed diag_order ds there) x)) e (new_insert diag_order (placed diag_order ds there) x (same_diags x))
placed_given (x ∷ ds) there d (inr h) = old_insert diag_order (placed diag_order ds there) x d (placed_given ds there d h)

placed_before : (ds there : List Diag) (d : Diag) → Among d there → Among d (placed diag_order ds there)
placed_before [] there d h = h
placed_before (x ∷ ds) there d h = old_insert diag_order (placed diag_order ds there) x d (placed_before ds there d h)

-- ---- rounds

same_number : (m n : ℕ) → (m == n) ≡ true → m ≡ n
same_number m n e = grind (arith, e)

among_found : (n : ℕ) (base : ℤ) (env : Env) (t : Finding) (d : Diag) → Among d (rounds_reported n base env t)
    → (i : ℕ) × (i < n) × Among d (t (with_index env base i))
among_found zero base env t d h = absurd h
among_found (suc n) base env t d h = elim (placed_found (t (with_index env base n)) (rounds_reported n base env t) d h) [
  | inl last ↦ (n, omega arith, last)
  | inr before ↦ let r = among_found n base env t d before in let k : r.0 < n = r.1 in (r.0, omega (arith, k), r.2)
]

among_given : (n : ℕ) (base : ℤ) (env : Env) (t : Finding) (d : Diag) (i : ℕ) → i < n → Among d (t (with_index env base i))
    → Among d (rounds_reported n base env t)
among_given zero base env t d i w h = absurd (omega (arith, w))
among_given (suc n) base env t d i w h = at (i == n) refl (λ v. among_given n base env t d i v h) where
  at : (s : Bool) → (i == n) ≡ s → (i < n → Among d (rounds_reported n base env t)) → Among d (placed diag_order (t (with_index env base n)) (rounds_reported n base env t))
  at true e before = placed_given (t (with_index env base n)) (rounds_reported n base env t) d (subst (λ (k : ℕ). Among d (t (with_index env base k))) (same_number i n e) h)
  at false e before = placed_before (t (with_index env base n)) (rounds_reported n base env t) d (before (let u : (i == n) ≡ false = e in grind (arith, w, u)))

rounds_found : (n : ℕ) (base : ℤ) (env : Env) (t : Finding) (d : Diag) → Contains (rounds_reported n base env t) d
    → (i : ℕ) × (i < n) × Contains (t (with_index env base i)) d
rounds_found n base env t d h =
    let r = among_found n base env t d (from_contains (rounds_reported n base env t) d h) in
    (r.0, r.1, into_contains (t (with_index env base r.0)) d r.2)

rounds_given : (n : ℕ) (base : ℤ) (env : Env) (t : Finding) (d : Diag) (i : ℕ) → i < n → Contains (t (with_index env base i)) d
    → Contains (rounds_reported n base env t) d
rounds_given n base env t d i w h =
    into_contains (rounds_reported n base env t) d (among_given n base env t d i w (from_contains (t (with_index env base i)) d h))

-- ---- from the list to the places

under_found : (rule : Rule) (k : Option KnownReplicator) (h : Head) (t following : Trees) (outer env : Env) (d : Diag) → known_replicator h.form ≡ k
    → ((e : Env) → Contains (reported_of rule t e) d → IsReportedIn rule t e e d)
    → Contains (under_reported_by k env h (reported_of rule t)) d → IsReportedIn rule (Tree h t following) outer env d
under_found rule None h t following outer env d known found c =
    let r = found (inner env h) c in (r.0, below h t following outer env r.0 known r.1, r.2)
under_found rule (Some k) h t following outer env d known found c =
    let i = rounds_found k.count k.base env (reported_of rule t) d c in
    let r = found (with_index env k.base i.0) i.2 in
    (r.0, in_round h t following outer env r.0 k i.0 known i.1 r.1, r.2)

found_in : (rule : Rule) (t : Trees) (outer env : Env) (d : Diag) → Contains (reported rule t outer env) d → IsReportedIn rule t outer env d
found_in rule Empty outer env d h = absurd (none_reported d h)
found_in rule (Tree h t following) outer env d c =
    elim (Contains-append_cases (line_reported rule env h t (reported_of rule t)) (reported rule following outer (after_line outer env h t)) d c) [
      | inl line ↦ elim (Contains-append_cases (under_reported env h (reported_of rule t)) (rule (record { line = h; under = t; env = env })) d line) [
        | inl under ↦ under_found rule (known_replicator h.form) h t following outer env d refl (λ (e : Env) x. found_in rule t e e d x) under
        | inr own ↦ (record { line = h; under = t; env = env }, first h t following outer env, own)
      ]
      | inr rest ↦ let r = found_in rule following outer (after_line outer env h t) d rest in (r.0, later h t following outer env r.0 r.1, r.2)
    ]

-- ---- from the places to the list

under_given : (rule : Rule) (k : Option KnownReplicator) (h : Head) (t following : Trees) (outer env : Env) (d : Diag) → known_replicator h.form ≡ k
    → Contains (under_reported_by k env h (reported_of rule t)) d → Contains (reported rule (Tree h t following) outer env) d
under_given rule k h t following outer env d known c =
    Contains-append_left (line_reported rule env h t (reported_of rule t)) (reported rule following outer (after_line outer env h t)) d
    (Contains-append_left (under_reported env h (reported_of rule t)) (rule (record { line = h; under = t; env = env })) d
    (subst (λ (z : Option KnownReplicator). Contains (under_reported_by z env h (reported_of rule t)) d) (sym known) c))

given_in : (rule : Rule) (t : Trees) (outer env : Env) (a : At) (d : Diag) → Stands t outer env a → Contains (rule a) d → Contains (reported rule t outer env) d
given_in rule _ _ _ _ d (first h t following outer env) c =
    Contains-append_left (line_reported rule env h t (reported_of rule t)) (reported rule following outer (after_line outer env h t)) d
    (Contains-append_right (under_reported env h (reported_of rule t)) (rule (record { line = h; under = t; env = env })) d c)
given_in rule _ _ _ _ d (below h t following outer env a known s) c =
    under_given rule None h t following outer env d known (given_in rule t (inner env h) (inner env h) a d s c)
given_in rule _ _ _ _ d (in_round h t following outer env a k i known w s) c =
    under_given rule (Some k) h t following outer env d known
    (rounds_given k.count k.base env (reported_of rule t) d i w (given_in rule t (with_index env k.base i) (with_index env k.base i) a d s c))
given_in rule _ _ _ _ d (later h t following outer env a s) c =
    Contains-append_right (line_reported rule env h t (reported_of rule t)) (reported rule following outer (after_line outer env h t)) d (given_in rule following outer (after_line outer env h t) a d s c)

pub place_law : (rule : Rule) (ls : List TypedLine) (d : Diag) → Contains (unit_reported rule ls) d ↔ IsReportedIn rule (trees_of ls) [] [] d
place_law rule ls d = (λ h. found_in rule (trees_of ls) [] [] d h, λ h. given_in rule (trees_of ls) [] [] h.0 d h.1 h.2)
