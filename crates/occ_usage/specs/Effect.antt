-- Whether lines have an effect: one of them is an input, an output, a PAR or an ALT, or calls a body with one. The lines of a
-- body that is specified count where it is called.
use Rattle.std.specs.Prelude.{Bool, true, false, ◌||◌, ◌&&◌, not, Option, Some, None, List, [], ◌∷◌, ◌++◌, if◌then◌else◌}
use Rattle.occ_usage_values.specs.Bounds.{Env}
use Rattle.occ_alias.specs.Effects.{form_effect}
use Rattle.occ_alias.specs.Entering.{body_bound, entry_bounds, specified}
use Rattle.occ_scope.specs.declared.meaning.ScopeEntry.{ScopeEntry}
use Rattle.occ_typing.specs.Forms.{TypedForm}
use Rattle.occ_typing.specs.FormVariants as form
use Rattle.occ_usage.specs.Trees.{Empty, Head, Tree, Trees}

-- the head of a PROC or of a FUNCTION: the lines under it are a body, and no part of what the line does
abbrev pub is_body : TypedForm → Bool
is_body form.ProcedureHead = true
is_body form.FunctionHead = true
is_body other = false

-- in scope at the first of the lines under a line
abbrev pub inner : Env → Head → Env
inner env h = env ++ entry_bounds h.enters

-- in scope after a line, where a body has this effect and its uses are not asked for; outer stands round its item
abbrev pub effect_after : Env → Env → Head → Bool → Option (List ScopeEntry) → Env
effect_after outer env h does None = outer
effect_after outer env h does (Some entries) = env ++ (if is_body h.form then body_bound [] does ∷ [] else specified env h.place entries h.form)

-- of a line, where those under it have this effect
abbrev pub line_effect : Env → Head → Bool → Bool
line_effect env h below = form_effect h.form env || (below && not (is_body h.form))

-- env stands in scope at the first of the lines, and outer at the next item
abbrev pub lines_effect : Trees → Env → Env → Bool
lines_effect Empty outer env = false
lines_effect (Tree h under following) outer env =
    let below = lines_effect under (inner env h) (inner env h) in
    line_effect env h below || lines_effect following outer (effect_after outer env h below h.adds)

-- of the lines under a line
abbrev pub effect_under : Trees → Env → Head → Bool
effect_under under env h = lines_effect under (inner env h) (inner env h)
