-- Elements, expressions and a scope for the worked rows. What typing knows of them is that they are INTs.
use Rattle.std.specs.Prelude.{ℕ, pos, Some, None, List, [], ◌∷◌, codes}
use Rattle.occ_scope.specs.declared.meaning.Meaning.TheVariants as m
use Rattle.occ_typing_operands.specs.Settling.{int}
use Rattle.occ_typing_operands.specs.declared.kind.Known.{Known}
use Rattle.occ_usage_parts.specs.Selecting.{subscript}
use Rattle.occ_project.specs.declared.expanded.Location.{Location}
use Rattle.occ_typing_rules.specs.declared.expr.Selector.{Selector}
use Rattle.occ_typing_rules.specs.declared.expr.TypedElement.{TypedElement}
use Rattle.occ_typing_rules.specs.declared.expr.TypedExpr.{TypedExpr}
use Rattle.occ_typing_rules.specs.declared.expr.TypedExpr.TheVariants as e
use Rattle.occ_types.specs.declared.interface.Effect.TheVariants as effect
use Rattle.occ_types.specs.declared.interface.PartSelector.TheVariants as p
use Rattle.occ_types.specs.declared.interface.UseKind.{UseKind}
use Rattle.occ_types.specs.declared.interface.UseKind.TheVariants as kind
use Rattle.occ_types.specs.declared.value.Value.TheVariants as v
use Rattle.occ_usage_values.specs.Bounds.{Env}
use Rattle.occ_usage_values.specs.declared.bound.Bound.TheVariants as b
use Rattle.occ_usage_values.specs.declared.uses.Use.{Use}

abbrev pub varying : Known
varying = record { of = int; value = None }

-- a part of what the specification with this number gives a name
abbrev pub element : ℕ → List Selector → TypedElement
element number xs = record { known = varying; name = []; referent = record { spec = number; meaning = m.Faulty }; selectors = xs }

abbrev pub literal : ℕ → TypedExpr
literal n = e.Literal (record { of = int; value = Some (v.Int (pos n)) })

-- the component of the first specification, `a`, at one place
abbrev pub part_use : UseKind → ℕ → Location → Use
part_use k n line = record { part = record { root = 0; selectors = p.Interval (subscript (Some (pos n))) ∷ [] }; kind = k; line = line; chain = [] }

-- The array `a`; the index `i` where it is 3; a VAL formal `k`; a timer `t`; and `PROC p ([]INT x)` whose body is `x[1] := 0`,
-- with the number of components of `x` not known. The formal has the number that `p` has after the body.
abbrev pub scope : Location → Env
scope line =
    b.Root (codes "a")
    ∷ b.Value (Some (v.Int (pos 3))) None []
    ∷ b.Value None None []
    ∷ b.Other
    ∷ b.Body ((record { part = record { root = 4; selectors = p.Interval (subscript (Some (pos 1))) ∷ [] }; kind = kind.Write; line = line; chain = [] }) ∷ []) effect.None
    ∷ []
