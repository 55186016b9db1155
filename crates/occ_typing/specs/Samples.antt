-- Lines of worked examples.
use Rattle.std.specs.Prelude.{ℕ, List, [], ◌∷◌}
use Rattle.occ_forms.specs.declared.tree.Form.{Form}
use Rattle.occ_project.specs.declared.expanded.ExpandedBody.TheVariants as body
use Rattle.occ_project.specs.declared.expanded.ExpandedLine.{ExpandedLine}

-- `a.occ`
abbrev pub unit : List ℕ
unit = 97 ∷ 46 ∷ 111 ∷ 99 ∷ 99 ∷ []

-- a line of this form at this number; its depth says nothing once lines stand in trees
abbrev pub at : ℕ → Form → ExpandedLine
at line f = record { file = unit; line = line; depth = 0; body = body.Form f }
