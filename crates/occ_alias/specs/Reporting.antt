-- What the abbreviation rule reports of a line, said use by use and call by call.
use Rattle.std.specs.Prelude.{◌≡◌, ◌==◌, ℕ, ℤ, true, false, Option, Some, List, ◌∷◌, ◌++◌, nat_lt, slice_get}
use Rattle.std.specs.List.{Contains, list_any}
use Rattle.occ_base.specs.declared.code.Code.{Code}
use Rattle.occ_base.specs.declared.code.Code.TheVariants as code
use Rattle.occ_base.specs.declared.diag.Diag.{Diag}
use Rattle.occ_usage_values.specs.Bounds.{Env, body_of}
use Rattle.occ_usage_values.specs.declared.bound.Bound.TheVariants as b
use Rattle.occ_usage_values.specs.Calls.{Call}
use Rattle.occ_usage_values.specs.declared.uses.Use.{Use}
use Rattle.occ_usage_conflicts.specs.Kinds.{is_read, is_write}
use Rattle.occ_usage_parts.specs.Selecting.{part_of}
use Rattle.occ_usage_parts.specs.declared.place.SelectedPart.{SelectedPart}
use Rattle.occ_project.specs.declared.expanded.Location.{Location}
use Rattle.occ_types.specs.declared.value.Value.{Value}
use Rattle.occ_alias.specs.AbbreviationRule.{pair_faults}

-- one of the first uses writes what one of the others reads
pub data IsChange : Code → Env → List Use → List Use → Diag → Type 0 where
  change : (c : Code) (env : Env) (us rs : List Use) (d : Diag) (u r : Use) → Contains us u → Contains rs r
      → is_write u.kind ≡ true → is_read r.kind ≡ true → Contains (pair_faults u.line c env u.part r.part) d → IsChange c env us rs d

pub data IsReportedInScope : Env → List Use → Diag → Type 0 where
  -- a use that is not by the name of an abbreviation, nor by one that was made from it
  beside : (env : Env) (us : List Use) (d : Diag) (n : ℕ) (p : SelectedPart) (size : Option ℤ) (reads : List Use) (u : Use)
      → slice_get env n ≡ Some (b.Abbreviation (Some p) size reads) → Contains us u → list_any (λ (k : ℕ). k == n) u.chain ≡ false
      → Contains (pair_faults u.line code.A1 env (part_of p) u.part) d → IsReportedInScope env us d
  -- a change of what the subscripts and bounds of an abbreviation read
  subscript : (env : Env) (us : List Use) (d : Diag) (n : ℕ) (place : Option SelectedPart) (size : Option ℤ) (reads : List Use)
      → slice_get env n ≡ Some (b.Abbreviation place size reads) → IsChange code.A2 env us reads d → IsReportedInScope env us d
  -- a change of what a VAL abbreviation reads
  value : (env : Env) (us : List Use) (d : Diag) (n : ℕ) (v : Option Value) (size : Option ℤ) (reads : List Use)
      → slice_get env n ≡ Some (b.Value v size reads) → IsChange code.A3 env us reads d → IsReportedInScope env us d

pub data IsReportedOfCall : Location → Env → Call → Diag → Type 0 where
  -- an actual, and one after it
  actuals : (line : Location) (env : Env) (c : Call) (d : Diag) (front following : List (Option SelectedPart)) (p q : SelectedPart)
      → c.places ≡ front ++ Some p ∷ following → Contains following (Some q) → Contains (pair_faults line code.A4 env (part_of p) (part_of q)) d
      → IsReportedOfCall line env c d
  -- an actual, and what the body uses of what stands round it
  free : (line : Location) (env : Env) (c : Call) (d : Diag) (p : SelectedPart) (u : Use) → Contains c.places (Some p)
      → Contains (body_of (slice_get env c.callee)) u → nat_lt u.part.root c.callee ≡ true → Contains (pair_faults line code.A4 env (part_of p) u.part) d
      → IsReportedOfCall line env c d
  -- a change by the body of what its actuals read
  read : (line : Location) (env : Env) (c : Call) (d : Diag) → IsChange code.A4 env c.uses c.reads d → IsReportedOfCall line env c d

-- these uses and calls at a line
pub data IsReportedOf : Location → Env → List Use → List Call → Diag → Type 0 where
  of_use : (line : Location) (env : Env) (us : List Use) (cs : List Call) (d : Diag) → IsReportedInScope env us d → IsReportedOf line env us cs d
  of_call : (line : Location) (env : Env) (us : List Use) (cs : List Call) (d : Diag) (c : Call) → Contains cs c → IsReportedOfCall line env c d
      → IsReportedOf line env us cs d
