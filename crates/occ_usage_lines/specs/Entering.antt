-- What comes into scope by a line, for the uses of parts: of each name one specification, in the order of the names.
use Rattle.std.specs.Prelude.{ℕ, ℤ, pos, negsuc, ◌+◌, ◌+ℤ◌, int_le, Bool, true, false, ◌&&◌, Option, Some, None, List, [], ◌∷◌, ◌++◌, length, if◌then◌else◌}
use Rattle.occ_usage_values.specs.Bounds.{Env}
use Rattle.occ_usage_values.specs.Timers.{is_timer}
use Rattle.occ_usage_values.specs.Views.{element_view, expr_view}
use Rattle.occ_usage_values.specs.declared.bound.Bound.{Bound}
use Rattle.occ_usage_values.specs.declared.bound.Bound.TheVariants as b
use Rattle.occ_usage_values.specs.declared.uses.Use.{Use}
use Rattle.occ_usage_conflicts.specs.Bodies.{body_uses}
use Rattle.occ_usage_lines.specs.Effects.{each_effect}
use Rattle.occ_usage_lines.specs.Forms.{each_uses}
use Rattle.occ_scope.specs.declared.meaning.Access.{Access}
use Rattle.occ_scope.specs.declared.meaning.Access.TheVariants as access
use Rattle.occ_scope.specs.declared.meaning.ScopeEntry.{ScopeEntry}
use Rattle.occ_scope.specs.declared.meaning.Meaning.{Meaning}
use Rattle.occ_scope.specs.declared.meaning.Meaning.TheVariants as meaning
use Rattle.occ_usage_parts.specs.Selecting.{named, retyped as retyped_place}
use Rattle.occ_usage_parts.specs.declared.place.SelectedPart.{SelectedPart}
use Rattle.occ_project.specs.declared.expanded.Location.{Location}
use Rattle.occ_typing_rules.specs.declared.expr.TypedElement.{TypedElement}
use Rattle.occ_typing_rules.specs.declared.expr.TypedExpr.{TypedExpr}
use Rattle.occ_typing_lines.specs.declared.tree.TypedForm.{TypedForm}
use Rattle.occ_typing_lines.specs.declared.tree.TypedForm.TheVariants as form
use Rattle.occ_types.specs.declared.interface.Effect.{Effect}
use Rattle.occ_types.specs.declared.interface.Effect.TheVariants as effect
use Rattle.occ_types.specs.declared.interface.Export.{Export}
use Rattle.occ_types.specs.declared.interface.FormalUse.{FormalUse}
use Rattle.occ_types.specs.declared.interface.Interface.{Interface}
use Rattle.occ_types.specs.declared.value.Value.{Value}
use Rattle.occ_types.specs.declared.value.Value.TheVariants as v

-- ---- names of which their lines say nothing more

-- of what an element may name; a timer is not used
abbrev pub access_bound : List ℕ → Access → Bool → Bound
access_bound name access.Variable false = b.Root name
access_bound name access.Variable true = b.Other
access_bound name access.Formal timer = b.Value None None []
access_bound name access.Value timer = b.Value None None []

abbrev pub meaning_bound : List ℕ → Meaning → Bound
meaning_bound name (meaning.Element w) = access_bound name w.access (is_timer w.of)
meaning_bound name (meaning.Procedure formals) = b.Body [] effect.None
meaning_bound name (meaning.Function formals results) = b.Body [] effect.None
meaning_bound name meaning.Faulty = b.Other
meaning_bound name (meaning.Type of) = b.Other
meaning_bound name (meaning.Protocol protocol) = b.Other

abbrev pub entry_bounds : List ScopeEntry → List Bound
entry_bounds [] = []
entry_bounds (e ∷ es) = meaning_bound e.name e.meaning ∷ entry_bounds es

-- ---- indices

-- in one of the rounds, the first of which has number 0; over the range of INT it has no value
abbrev pub index_value : ℤ → ℕ → Option Value
index_value base i = if int_le (negsuc 2147483647) (base +ℤ pos i) && int_le (base +ℤ pos i) (pos 2147483647) then Some (v.Int (base +ℤ pos i)) else None

-- ---- abbreviations

-- the name of one more abbreviation, which is the specification with this number
abbrev pub named_at : ℕ → Option SelectedPart → Option SelectedPart
named_at n None = None
named_at n (Some p) = Some (named p n)

abbrev pub looked_at : Option SelectedPart → Option SelectedPart
looked_at None = None
looked_at (Some p) = Some (retyped_place p)

-- `n IS el:`
abbrev pub abbreviated : TypedElement → Env → Location → Bound
abbreviated el env line = b.Abbreviation (named_at (length env) ((element_view el).place env)) ((element_view el).size env) ((element_view el).uses env line)

-- RETYPES and RESHAPES
abbrev pub retyped : TypedElement → Env → Location → Bound
retyped el env line = b.Abbreviation (named_at (length env) (looked_at ((element_view el).place env))) None ((element_view el).uses env line)

-- `VAL n IS e:`
abbrev pub valued : TypedExpr → Env → Location → Bound
valued e env line = b.Value ((expr_view e).value env) ((expr_view e).size env) ((expr_view e).uses env line)

-- VAL RETYPES and VAL RESHAPES: their values are never known
abbrev pub retyped_value : TypedExpr → Env → Location → Bound
retyped_value e env line = b.Value None None ((expr_view e).uses env line)

-- ---- bodies

abbrev pub effect_if : Bool → Effect
effect_if true = effect.Some
effect_if false = effect.None

abbrev pub body_bound : List Use → Bool → Bound
body_bound uses does = b.Body uses (effect_if does)

-- a FUNCTION of one line
abbrev pub one_line : List ScopeEntry → List TypedExpr → Env → Location → Bound
one_line formals results env line =
    let inner = env ++ entry_bounds formals in
    body_bound (body_uses (length env) (length inner) line (each_uses results inner line)) (each_effect results inner)

-- ---- exports of used units

-- a use of a formal of an export, round which n specifications stand
abbrev pub exported_use : ℕ → Location → FormalUse → Use
exported_use n line u = record { part = record { root = n + u.formal; selectors = u.selectors }; kind = u.kind; line = line; chain = [] }

abbrev pub exported_uses : ℕ → Location → List FormalUse → List Use
exported_uses n line [] = []
exported_uses n line (u ∷ us) = exported_use n line u ∷ exported_uses n line us

abbrev pub export_bounds : ℕ → Location → List Export → List Bound
export_bounds n line [] = []
export_bounds n line (x ∷ xs) = b.Body (exported_uses n line x.uses) x.effect ∷ export_bounds (n + 1) line xs

abbrev pub interface_bounds : ℕ → Location → List Interface → List Bound
interface_bounds n line [] = []
interface_bounds n line (i ∷ is) = export_bounds n line i.exports ++ interface_bounds (n + length i.exports) line is

-- ---- lines of specification

-- What comes into scope after a line, by which these names do; of a head over the lines of a body, which say what the body
-- is, nothing more than the names.
abbrev pub specified : Env → Location → List ScopeEntry → TypedForm → List Bound
specified env line entries (form.Abbreviation el) = abbreviated el env line ∷ []
specified env line entries (form.Retyped el) = retyped el env line ∷ []
specified env line entries (form.Value e) = valued e env line ∷ []
specified env line entries (form.RetypedValue e) = retyped_value e env line ∷ []
specified env line entries (form.OneLineFunction formals results) = one_line formals results env line ∷ []
specified env line entries (form.Uses interfaces) = interface_bounds (length env) line interfaces
specified env line entries other = entry_bounds entries
