-- What the function rule reports of lines: in the body of a FUNCTION, calls included, a write of what stands outside it, at the
-- line of the write, with its name; and each line with an effect. The body of a PROC in it counts by its calls, and that of
-- another FUNCTION is judged for itself. Indices of replicators round a line are not known here; under one of count 0 nothing is
-- written.
use Rattle.std.specs.Prelude.{ℕ, zero, nat_lt, Bool, true, false, ◌&&◌, ◌||◌, ◌==◌, not, Option, Some, None, List, [], ◌∷◌, ◌++◌, length, if◌then◌else◌}
use Rattle.occ_base.specs.Errors.{error_at, error_if}
use Rattle.occ_base.specs.declared.code.Code.TheVariants.{F1}
use Rattle.occ_base.specs.declared.diag.Diag.{Diag}
use Rattle.occ_usage_values.specs.Bounds.{Env}
use Rattle.occ_usage_values.specs.declared.uses.Use.{Use}
use Rattle.occ_usage_conflicts.specs.Kinds.{is_write}
use Rattle.occ_usage_conflicts.specs.ParallelRule.{root_name}
use Rattle.occ_alias.specs.Effects.{each_effect, form_effect}
use Rattle.occ_alias.specs.Entering.{entry_bounds}
use Rattle.occ_alias.specs.Forms.{each_uses, form_uses}
use Rattle.occ_scope.specs.declared.meaning.ScopeEntry.{ScopeEntry}
use Rattle.occ_project.specs.declared.expanded.Location.{Location}
use Rattle.occ_typing_statements.specs.declared.replicator_tree.KnownReplicator.{KnownReplicator}
use Rattle.occ_typing_rules.specs.declared.expr.TypedExpr.{TypedExpr}
use Rattle.occ_typing.specs.Forms.{TypedForm}
use Rattle.occ_typing.specs.FormVariants as form
use Rattle.occ_typing.specs.declared.tree.TypedLine.{TypedLine}
use Rattle.occ_usage.specs.Effect.{inner}
use Rattle.occ_usage.specs.Lines.{after_line, known_of}
use Rattle.occ_usage.specs.Trees.{Empty, Head, Tree, Trees, trees_of}
use Rattle.occ_usage.specs.declared.function.Within.{Within}
use Rattle.occ_usage.specs.declared.function.Within.TheVariants as within

-- a use in a FUNCTION round which n specifications stand
abbrev pub write_fault : ℕ → Env → Use → List Diag
write_fault n env u = if is_write u.kind && nat_lt u.part.root n then error_at u.line.file u.line.line F1 (root_name env u.part.root) ∷ [] else []

abbrev pub write_faults : ℕ → Env → List Use → List Diag
write_faults n env [] = []
write_faults n env (u ∷ us) = write_fault n env u ++ write_faults n env us

-- a FUNCTION of one line: its results with its formals in scope
abbrev pub side_effect_faults : List ScopeEntry → List TypedExpr → Env → Location → List Diag
side_effect_faults formals results env line =
    let body = env ++ entry_bounds formals in
    error_if (each_effect results body) line.file line.line F1 ++ write_faults (length env) body (each_uses results body line)

abbrev pub one_line_faults : TypedForm → Env → Location → List Diag
one_line_faults (form.OneLineFunction formals results) env line = side_effect_faults formals results env line
one_line_faults other env line = []

-- a line in the body of a FUNCTION, or in none
abbrev pub line_faults : Within → Head → Env → List Diag
line_faults within.Nothing h env = []
line_faults (within.Function n live) h env =
    error_if (form_effect h.form env) h.place.file h.place.line F1
    ++ (if live then write_faults n env (form_uses h.form env h.place) else [])

-- under a replicator of so many rounds
abbrev pub counted : ℕ → Within → Within
counted count within.Nothing = within.Nothing
counted count (within.Function n live) = within.Function n (live && not (count == zero))

abbrev pub counted_by : Option KnownReplicator → Within → Within
counted_by None w = w
counted_by (Some k) w = counted k.count w

-- where the lines under a line stand that has n specifications round it
abbrev pub within_under : TypedForm → ℕ → Within → Within
within_under form.FunctionHead n w = within.Function n true
within_under form.ProcedureHead n w = within.Nothing
within_under (form.Block kind r) n w = counted_by (known_of r) w
within_under other n w = w

-- env stands in scope at the first of the lines, and outer at the next item
abbrev pub faults : Within → Trees → Env → Env → List Diag
faults w Empty outer env = []
faults w (Tree h t following) outer env =
    (line_faults w h env ++ (one_line_faults h.form env h.place ++ faults (within_under h.form (length env) w) t (inner env h) (inner env h)))
    ++ faults w following outer (after_line outer env h t)

-- of a line with those under it
abbrev pub whole_faults : Within → Head → Trees → Env → List Diag
whole_faults w h t env =
    line_faults w h env ++ (one_line_faults h.form env h.place ++ faults (within_under h.form (length env) w) t (inner env h) (inner env h))

-- of the lines of a unit: nothing stands in scope at the first
abbrev pub function_faults : List TypedLine → List Diag
function_faults ls = faults within.Nothing (trees_of ls) [] []

-- ---- where a FUNCTION is specified

abbrev pub is_function : TypedForm → Bool
is_function form.FunctionHead = true
is_function (form.OneLineFunction formals results) = true
is_function other = false

-- at one of the lines, or under it
abbrev pub has_function : Trees → Bool
has_function Empty = false
has_function (Tree h t following) = (is_function h.form || has_function t) || has_function following
