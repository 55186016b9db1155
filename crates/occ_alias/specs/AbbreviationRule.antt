-- What the abbreviation rule reports of a line, by what stands in scope there. The abbreviations in whose scope a line stands are
-- those in scope there: so each use of a line is compared with each of them, and of a body that is specified in their scope each
-- line is one of these too.
use Rattle.std.specs.Prelude.{ℕ, ◌+◌, ◌==◌, nat_lt, ◌&&◌, Option, Some, None, List, [], ◌∷◌, ◌++◌, slice_get, if◌then◌else◌}
use Rattle.std.specs.List.{list_any}
use Rattle.occ_base.specs.declared.code.Code.{Code}
use Rattle.occ_base.specs.declared.code.Code.TheVariants as code
use Rattle.occ_base.specs.declared.code.Grade.{Grade}
use Rattle.occ_base.specs.declared.code.Grade.TheVariants as grade
use Rattle.occ_base.specs.declared.diag.Diag.{Diag}
use Rattle.occ_usage_values.specs.Bounds.{Env, body_of}
use Rattle.occ_usage_values.specs.declared.bound.Bound.{Bound}
use Rattle.occ_usage_values.specs.declared.bound.Bound.TheVariants as b
use Rattle.occ_usage_values.specs.Calls.{Call}
use Rattle.occ_usage_values.specs.declared.uses.Use.{Use}
use Rattle.occ_usage_conflicts.specs.Kinds.{is_read, is_write}
use Rattle.occ_usage_conflicts.specs.ParallelRule.{root_name}
use Rattle.occ_usage_lines.specs.Entering.{entry_bounds}
use Rattle.occ_usage_lines.specs.Forms.{each_uses, form_uses}
use Rattle.occ_scope.specs.declared.meaning.ScopeEntry.{ScopeEntry}
use Rattle.occ_usage_parts.specs.Parts.{overlap_of}
use Rattle.occ_usage_parts.specs.Selecting.{part_of}
use Rattle.occ_usage_parts.specs.declared.part.Overlap.{Overlap}
use Rattle.occ_usage_parts.specs.declared.part.Overlap.TheVariants as o
use Rattle.occ_usage_parts.specs.declared.part.Part.{Part}
use Rattle.occ_usage_parts.specs.declared.place.SelectedPart.{SelectedPart}
use Rattle.occ_project.specs.declared.expanded.Location.{Location}
use Rattle.occ_typing_rules.specs.declared.expr.TypedExpr.{TypedExpr}
use Rattle.occ_usage_lines.specs.TypedForm.{TypedForm}
use Rattle.occ_usage_lines.specs.TypedForm.TheVariants as form
use Rattle.occ_alias.specs.LineCalls.{each_calls, form_calls}

-- ---- two parts that are not apart: an error where they surely have an element in common, else a check

abbrev pub reported_at : Location → Code → Grade → Option (List ℕ) → List Diag
reported_at line c g name = (record { file = line.file; line = line.line; code = c; grade = g; name = name }) ∷ []

abbrev pub graded : Location → Code → Option (List ℕ) → Overlap → List Diag
graded line c name o.Apart = []
graded line c name o.May = reported_at line c grade.Check name
graded line c name o.Must = reported_at line c grade.Error name

abbrev pub pair_faults : Location → Code → Env → Part → Part → List Diag
pair_faults line c env p q = graded line c (root_name env p.root) (overlap_of p q)

-- ---- uses in the scope of abbreviations

-- of an element with this place, for which the specification n is a name: a use by that name, or by one made from it, is good
abbrev pub element_fault : ℕ → Env → Part → Use → List Diag
element_fault n env p u = if list_any (λ (k : ℕ). k == n) u.chain then [] else pair_faults u.line code.A1 env p u.part

abbrev pub element_faults : ℕ → Env → Part → List Use → List Diag
element_faults n env p [] = []
element_faults n env p (u ∷ us) = element_fault n env p u ++ element_faults n env p us

-- of an abbreviation of a timer nothing
abbrev pub place_faults : ℕ → Env → Option SelectedPart → List Use → List Diag
place_faults n env None us = []
place_faults n env (Some p) us = element_faults n env (part_of p) us

-- a write of what was read
abbrev pub written_fault : Code → Env → Use → Use → List Diag
written_fault c env u r = if is_write u.kind && is_read r.kind then pair_faults u.line c env u.part r.part else []

abbrev pub written_by : Code → Env → Use → List Use → List Diag
written_by c env u [] = []
written_by c env u (r ∷ rs) = written_fault c env u r ++ written_by c env u rs

abbrev pub written_faults : Code → Env → List Use → List Use → List Diag
written_faults c env [] rs = []
written_faults c env (u ∷ us) rs = written_by c env u rs ++ written_faults c env us rs

-- in the scope of the specification n
abbrev pub bound_faults : ℕ → Env → Bound → List Use → List Diag
bound_faults n env (b.Abbreviation place size reads) us = place_faults n env place us ++ written_faults code.A2 env us reads
bound_faults n env (b.Value v size reads) us = written_faults code.A3 env us reads
bound_faults n env (b.Root name) us = []
bound_faults n env (b.Body uses does) us = []
bound_faults n env b.Other us = []

-- in the scope of these specifications, the first of which is n
abbrev pub scope_faults : ℕ → Env → List Bound → List Use → List Diag
scope_faults n env [] us = []
scope_faults n env (x ∷ xs) us = bound_faults n env x us ++ scope_faults (n + 1) env xs us

-- ---- calls

abbrev pub place_pair : Location → Env → Part → Option SelectedPart → List Diag
place_pair line env p None = []
place_pair line env p (Some q) = pair_faults line code.A4 env p (part_of q)

-- an actual and those after it
abbrev pub place_pairs : Location → Env → Part → List (Option SelectedPart) → List Diag
place_pairs line env p [] = []
place_pairs line env p (q ∷ qs) = place_pair line env p q ++ place_pairs line env p qs

-- an actual and a use by the body of what stands round it, which is what stands in scope before the specification n
abbrev pub free_fault : Location → ℕ → Env → Part → Use → List Diag
free_fault line n env p u = if nat_lt u.part.root n then pair_faults line code.A4 env p u.part else []

abbrev pub free_faults : Location → ℕ → Env → Part → List Use → List Diag
free_faults line n env p [] = []
free_faults line n env p (u ∷ us) = free_fault line n env p u ++ free_faults line n env p us

abbrev pub actual_faults : Location → ℕ → Env → List Use → Option SelectedPart → List (Option SelectedPart) → List Diag
actual_faults line n env us None qs = []
actual_faults line n env us (Some p) qs = place_pairs line env (part_of p) qs ++ free_faults line n env (part_of p) us

-- of actuals of formals that are not VAL, and a body with these uses
abbrev pub actuals_faults : Location → ℕ → Env → List Use → List (Option SelectedPart) → List Diag
actuals_faults line n env us [] = []
actuals_faults line n env us (p ∷ ps) = actual_faults line n env us p ps ++ actuals_faults line n env us ps

-- what the body writes, and what the values and subscripts of the actuals read
abbrev pub call_faults : Location → Env → Call → List Diag
call_faults line env c =
    actuals_faults line c.callee env (body_of (slice_get env c.callee)) c.places ++ written_faults code.A4 env c.uses c.reads

abbrev pub calls_faults : Location → Env → List Call → List Diag
calls_faults line env [] = []
calls_faults line env (c ∷ cs) = call_faults line env c ++ calls_faults line env cs

-- ---- lines

-- these uses and calls at a line
abbrev pub evaluated_faults : Location → Env → List Use → List Call → List Diag
evaluated_faults line env us cs = scope_faults 0 env env us ++ calls_faults line env cs

-- a FUNCTION of one line has its results with its formals in scope
abbrev pub results_faults : List ScopeEntry → List TypedExpr → Env → Location → List Diag
results_faults formals results env line =
    let body = env ++ entry_bounds formals in
    evaluated_faults line body (each_uses results body line) (each_calls results body line)

-- a line that uses these itself
abbrev pub reported_with : TypedForm → Env → Location → List Use → List Diag
reported_with (form.OneLineFunction formals results) env line us = results_faults formals results env line
reported_with other env line us = evaluated_faults line env us (form_calls other env line)

abbrev pub line_faults : TypedForm → Env → Location → List Diag
line_faults f env line = reported_with f env line (form_uses f env line)
