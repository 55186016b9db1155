-- Of uses that write nothing, no write of what was read is reported.
use Rattle.std.proofs.Common.{◌≡◌, Bool, false, cond, ◌&&◌, List, [], ◌∷◌, ◌++◌, refl, ap, ap₂}
use Rattle.std.specs.List.{list_any}
use Rattle.occ_base.specs.declared.code.Code.{Code}
use Rattle.occ_base.specs.declared.diag.Diag.{Diag}
use Rattle.occ_usage_values.specs.Bounds.{Env}
use Rattle.occ_usage_values.specs.Uses.{is_write}
use Rattle.occ_usage_values.specs.declared.uses.Use.{Use}
use Rattle.occ_usage_values.proofs.Differing.{left_false, right_false}
use Rattle.occ_usage_conflicts.specs.Kinds.{is_read}
use Rattle.occ_alias.specs.AbbreviationRule.{pair_faults, written_by, written_fault, written_faults}

abbrev writes : Use → Bool
writes u = is_write u.kind

no_fault : (c : Code) (env : Env) (u : Use) → writes u ≡ false → (r : Use) → written_fault c env u r ≡ []
no_fault c env u h r = ap (λ (b : Bool). cond (b && is_read r.kind) (pair_faults u.line c env u.part r.part) []) h

none_by : (c : Code) (env : Env) (u : Use) → writes u ≡ false → (rs : List Use) → written_by c env u rs ≡ []
none_by c env u h [] = refl
none_by c env u h (r ∷ rs) = ap₂ (λ (a b : List Diag). a ++ b) (no_fault c env u h r) (none_by c env u h rs)

pub nothing_written : (c : Code) (env : Env) (us rs : List Use) → list_any (λ (u : Use). is_write u.kind) us ≡ false → written_faults c env us rs ≡ []
nothing_written c env [] rs h = refl
nothing_written c env (u ∷ us) rs h =
    ap₂ (λ (a b : List Diag). a ++ b) (none_by c env u (left_false (writes u) (list_any writes us) h) rs) (nothing_written c env us rs (right_false (writes u) (list_any writes us) h))

-- where nothing was read
pub nothing_read : (c : Code) (env : Env) (us : List Use) → written_faults c env us [] ≡ []
nothing_read c env [] = refl
nothing_read c env (u ∷ us) = nothing_read c env us
