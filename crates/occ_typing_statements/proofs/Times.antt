-- An input from a timer with no target, or with more than one.
use Rattle.std.proofs.Common.{◌≡◌, ◌≢◌, List, [], ◌∷◌, ◌++◌, None, refl}
use Rattle.occ_typing_rules.specs.declared.expr.TypedElement.{TypedElement}
use Rattle.occ_typing_statements.specs.Inputs.{time_of}
use Rattle.occ_typing_statements.specs.declared.exchange_tree.TypedTarget.{TypedTarget}
use Rattle.occ_typing_statements.specs.declared.exchange_tree.TypedTarget.TheVariants as target

pub no_time : (timer : TypedElement) (targets : List TypedTarget) → ((one : TypedTarget) → targets ≢ one ∷ []) → time_of timer targets ≡ None
no_time timer [] none = refl
no_time timer (target.Single x ∷ []) none = absurd (none (target.Single x) refl)
no_time timer (target.Single x ∷ y ∷ ys) none = refl
no_time timer (target.Counted n x ∷ ys) none = refl

pub ruleset time_rules = (no_time)

-- a list that does not end with its first item is no list of one
pub not_one : {X : Type 0} (front : List X) (last one : X) → (front ≡ [] → ⊥) → front ++ last ∷ [] ≢ one ∷ []
not_one [] last one more = absurd (more refl)
not_one (x ∷ []) last one more = λ e. absurd cc
not_one (x ∷ y ∷ ys) last one more = λ e. absurd cc

pub ruleset one_rules = (not_one)
