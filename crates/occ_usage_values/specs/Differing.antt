-- Scopes that differ in one value alone, and what is the same in both.
use Rattle.std.specs.Prelude.{ℕ, ◌≡◌, Option, None, [], ◌∷◌, ◌++◌, length}
use Rattle.occ_usage_values.specs.Bounds.{Env}
use Rattle.occ_usage_values.specs.declared.bound.Bound.TheVariants as b
use Rattle.occ_types.specs.declared.value.Value.{Value}

-- the two scopes differ at most in the value of the specification d, which reads nothing
pub record DifferAt (d : ℕ) (e f : Env) : Type 0 where
  pub before : Env
  pub after : Env
  pub v : Option Value
  pub w : Option Value
  pub number : d ≡ length before
  pub one : e ≡ before ++ b.Value v None [] ∷ after
  pub other : f ≡ before ++ b.Value w None [] ∷ after

-- it is the same in both of each two such scopes
abbrev pub IsSame : {X : Type 0} → ℕ → (Env → X) → Type 0
IsSame d x = (e f : Env) → DifferAt d e f → x e ≡ x f
