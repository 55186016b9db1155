-- What the parallel rule reports of lines: at each PAR what its components have in common, and at each assignment of several
-- targets what these have.
use Rattle.std.specs.Prelude.{List, [], ◌∷◌}
use Rattle.occ_base.specs.declared.diag.Diag.{Diag}
use Rattle.occ_usage_values.specs.Bounds.{Env}
use Rattle.occ_usage_values.specs.declared.uses.Use.{Use}
use Rattle.occ_usage_conflicts.specs.ParallelRule.{component_faults, target_faults}
use Rattle.occ_alias.specs.Forms.{used}
use Rattle.occ_project.specs.declared.expanded.Location.{Location}
use Rattle.occ_typing_rules.specs.declared.expr.TypedElement.{TypedElement}
use Rattle.occ_typing.specs.Forms.{BlockKind, TypedForm}
use Rattle.occ_typing.specs.BlockVariants as block
use Rattle.occ_typing.specs.FormVariants as form
use Rattle.occ_types.specs.declared.interface.UseKind.TheVariants as kind
use Rattle.occ_typing.specs.declared.tree.TypedLine.{TypedLine}
use Rattle.occ_usage.specs.Lines.{components, items_of}
use Rattle.occ_usage.specs.Walk.{Rule, unit_reported}

-- each target of an assignment as a component: what it writes, and what its subscripts and bounds use
abbrev pub targets : List TypedElement → Env → Location → List (List Use)
targets [] env line = []
targets (el ∷ els) env line = used kind.Write el env line ∷ targets els env line

-- of several targets: one is compared with nothing
abbrev pub assignment_faults : List TypedElement → Env → Location → List Diag
assignment_faults [] env line = []
assignment_faults (el ∷ []) env line = []
assignment_faults (el ∷ other ∷ els) env line = target_faults line env (targets (el ∷ other ∷ els) env line)

abbrev pub block_faults : BlockKind → Location → Env → List (List Use) → List Diag
block_faults block.Parallel line env comps = component_faults line env comps
block_faults block.Sequence line env comps = []
block_faults block.Conditional line env comps = []
block_faults block.Alternation line env comps = []

-- of a line with these components
abbrev pub own_faults : TypedForm → Location → Env → List (List Use) → List Diag
own_faults (form.Block kind r) line env comps = block_faults kind line env comps
own_faults (form.Assignment els es) line env comps = assignment_faults els env line
own_faults other line env comps = []

-- at a line: what the components of a PAR, and the targets of an assignment, have in common
abbrev pub parallel_at : Rule
parallel_at a = own_faults a.line.form a.line.place a.env (components a.env a.line (items_of a.under))

-- of the lines of a unit
abbrev pub parallel_faults : List TypedLine → List Diag
parallel_faults = unit_reported parallel_at
