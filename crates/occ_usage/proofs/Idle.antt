-- Of a `#USE` over no line nothing is reported.
use Rattle.std.proofs.Common.{◌≡◌, ◌+◌, ◌∷◌, ℕ, None, Some, List, [], false, refl}
use Rattle.occ_alias.specs.AbbreviationRule.{bound_faults, scope_faults}
use Rattle.occ_types.specs.declared.interface.Interface.{Interface}
use Rattle.occ_typing.specs.FormVariants as form
use Rattle.occ_usage.specs.AbbreviationRule.{abbreviation_at}
use Rattle.occ_usage.specs.Effect.{is_body}
use Rattle.occ_usage.specs.ParallelRule.{parallel_at}
use Rattle.occ_usage.specs.Trees.{Empty, Head, Trees}
use Rattle.occ_usage.specs.Walk.{line_reported, reported_of}
use Rattle.occ_usage_values.specs.Bounds.{Env}
use Rattle.occ_usage_values.specs.declared.bound.Bound.{Bound}
use Rattle.occ_usage_values.specs.declared.bound.Bound.TheVariants as b

-- without a use
nothing_at : (n : ℕ) (env : Env) (x : Bound) → bound_faults n env x [] ≡ []
nothing_at n env (b.Abbreviation None size reads) = refl
nothing_at n env (b.Abbreviation (Some p) size reads) = refl
nothing_at n env (b.Value v size reads) = refl
nothing_at n env (b.Root name) = refl
nothing_at n env (b.Body uses does) = refl
nothing_at n env b.Other = refl

nothing_in : (n : ℕ) (env : Env) (xs : List Bound) → scope_faults n env xs [] ≡ []
nothing_in n env [] = refl
nothing_in n env (x ∷ xs) = rw (nothing_at n env x) (nothing_in (n + 1) env xs)

pub no_body : (h : Head) (shown : List Interface) → h.form ≡ form.Uses shown → is_body h.form ≡ false
no_body h shown is = rw is refl

pub idle_parallel : (env : Env) (h : Head) (t : Trees) (shown : List Interface) → h.form ≡ form.Uses shown → t ≡ Empty → line_reported parallel_at env h t (reported_of parallel_at t) ≡ []
idle_parallel env h t shown is none = rw none (rw is refl)

pub idle_abbreviations : (env : Env) (h : Head) (t : Trees) (shown : List Interface) → h.form ≡ form.Uses shown → t ≡ Empty → line_reported abbreviation_at env h t (reported_of abbreviation_at t) ≡ []
idle_abbreviations env h t shown is none = rw none (rw is (rw (nothing_in 0 env env) refl))
