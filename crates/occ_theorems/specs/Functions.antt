-- What the function rule reports of a unit, said place by place: of each line by the FUNCTION in whose body it stands, if it stands in
-- one, and by what stands in scope there.
use Rattle.std.specs.Prelude.{◌≡◌, ◌<◌, ◌⊎◌, ◌++◌, ℕ, Bool, true, List, [], length, None}
use Rattle.std.specs.List.{Contains}
use Rattle.occ_base.specs.Errors.{error_at}
use Rattle.occ_base.specs.declared.code.Code.TheVariants.{F1}
use Rattle.occ_base.specs.declared.diag.Diag.{Diag}
use Rattle.occ_project.specs.declared.expanded.Location.{Location}
use Rattle.occ_typing.specs.Forms.{TypedForm}
use Rattle.occ_typing.specs.FormVariants as form
use Rattle.occ_typing.specs.declared.tree.TypedLine.{TypedLine}
use Rattle.occ_usage.specs.Effect.{inner}
use Rattle.occ_usage.specs.FunctionRule.{within_under}
use Rattle.occ_usage.specs.Lines.{after_line}
use Rattle.occ_usage.specs.Trees.{Head, Tree, Trees, trees_of}
use Rattle.occ_usage.specs.declared.function.Within.{Within}
use Rattle.occ_usage.specs.declared.function.Within.TheVariants as within
use Rattle.occ_usage_conflicts.specs.Kinds.{is_write}
use Rattle.occ_usage_conflicts.specs.ParallelRule.{root_name}
use Rattle.occ_usage_lines.specs.Effects.{each_effect, form_effect}
use Rattle.occ_usage_lines.specs.Entering.{entry_bounds}
use Rattle.occ_usage_lines.specs.Forms.{each_uses, form_uses}
use Rattle.occ_usage_values.specs.Bounds.{Env}
use Rattle.occ_usage_values.specs.declared.uses.Use.{Use}

-- a line, in the body of a FUNCTION or in none, and what stands in scope there
pub record Placed : Type 0 where
  pub within : Within
  pub line : Head
  pub env : Env

-- it stands in these trees, the first of which stands so with env in scope, and with outer at the next item
pub data StandsWithin : Within → Trees → Env → Env → Placed → Type 0 where
  here : (w : Within) (h : Head) (t following : Trees) (outer env : Env) → StandsWithin w (Tree h t following) outer env (record { within = w; line = h; env = env })
  under : (w : Within) (h : Head) (t following : Trees) (outer env : Env) (p : Placed)
      → StandsWithin (within_under h.form (length env) w) t (inner env h) (inner env h) p → StandsWithin w (Tree h t following) outer env p
  behind : (w : Within) (h : Head) (t following : Trees) (outer env : Env) (p : Placed)
      → StandsWithin w following outer (after_line outer env h t) p → StandsWithin w (Tree h t following) outer env p

-- the line has an effect: an input, an output, a PAR or an ALT, calls included
abbrev pub IsEffectAt : Bool → Location → Diag → Type 0
IsEffectAt has place d = (has ≡ true) × (d ≡ error_at place.file place.line F1 None)

-- one of these uses writes what is among the first n specifications, which stand round the FUNCTION
abbrev pub IsWriteOutside : ℕ → Env → List Use → Diag → Type 0
IsWriteOutside n env us d = (u : Use) × Contains us u × (is_write u.kind ≡ true) × (u.part.root < n) × (d ≡ error_at u.line.file u.line.line F1 (root_name env u.part.root))

-- of a line in a body, round which n specifications stand; under a replicator without rounds nothing is written
abbrev pub IsFaultIn : Within → Head → Env → Diag → Type 0
IsFaultIn within.Nothing h env d = ⊥
IsFaultIn (within.Function n live) h env d =
    IsEffectAt (form_effect h.form env) h.place d ⊎ ((live ≡ true) × IsWriteOutside n env (form_uses h.form env h.place) d)

-- of a FUNCTION of one line: its results, with its formals in scope
abbrev pub IsOneLineFault : TypedForm → Env → Location → Diag → Type 0
IsOneLineFault (form.OneLineFunction formals results) env line d =
    IsEffectAt (each_effect results (env ++ entry_bounds formals)) line d
    ⊎ IsWriteOutside (length env) (env ++ entry_bounds formals) (each_uses results (env ++ entry_bounds formals) line) d
IsOneLineFault other env line d = ⊥

abbrev pub IsFaultOf : Placed → Diag → Type 0
IsFaultOf p d = IsFaultIn p.within p.line p.env d ⊎ IsOneLineFault p.line.form p.env p.line.place d

-- of some line of the unit
abbrev pub IsFunctionFault : List TypedLine → Diag → Type 0
IsFunctionFault ls d = (p : Placed) × StandsWithin within.Nothing (trees_of ls) [] [] p × IsFaultOf p d
