-- The tags of a protocol, line by line.
use Rattle.std.specs.Prelude.{ℕ, Option, Some, None, List, [], ◌∷◌, ◌++◌}
use Rattle.occ_base.specs.declared.diag.Diag.{Diag}
use Rattle.occ_base.specs.declared.fault.Fault.{Fault}
use Rattle.occ_expr_operations.specs.Views.{expr_view}
use Rattle.occ_forms.specs.declared.tree.Detail.{Detail}
use Rattle.occ_forms.specs.declared.tree.Form.{Form}
use Rattle.occ_forms.specs.declared.tree.Form.TheVariants as form
use Rattle.occ_scope.specs.declared.scope.Scope.{Scope}
use Rattle.occ_project.specs.declared.expanded.ExpandedBody.{ExpandedBody}
use Rattle.occ_project.specs.declared.expanded.ExpandedBody.TheVariants as body
use Rattle.occ_tree.specs.Forest.{Forest, Empty, Tree}
use Rattle.occ_typing_specifications.specs.Tags.{tag_line}
use Rattle.occ_types.specs.declared.types.Tag.{Tag}
use Rattle.occ_typing_lines.specs.Placed.{placed}

-- the faults of a line, its tag and the name of that, if it is the line of one
pub record TagFound : Type 0 where
  pub faults : List Fault
  pub tags : List Tag
  pub names : List (List ℕ)

abbrev pub no_tag : TagFound
no_tag = record { faults = []; tags = []; names = [] }

abbrev pub tag_found : Scope → List (List ℕ) → List ℕ → List Detail → TagFound
tag_found s before name ds =
    let x = tag_line s before name ds in
    record { faults = x.faults; tags = x.tag ∷ []; names = name ∷ [] }

-- of a name alone
abbrev pub tag_named : Scope → List (List ℕ) → Option (List ℕ) → TagFound
tag_named s before None = no_tag
tag_named s before (Some name) = tag_found s before name []

abbrev pub form_tag : Scope → List (List ℕ) → Form → TagFound
form_tag s before (form.Specified x) = no_tag
form_tag s before form.Close = no_tag
form_tag s before (form.Action a) = no_tag
form_tag s before (form.Construct c) = no_tag
form_tag s before (form.Part q) = no_tag
form_tag s before (form.Expressions e es) = tag_named s before (expr_view e).name
form_tag s before (form.Tagged name d ds) = tag_found s before name (d ∷ ds)

-- of a line after others of the protocol, which have these names
abbrev pub body_tag : Scope → List (List ℕ) → ExpandedBody → TagFound
body_tag s before (body.Form f) = form_tag s before f
body_tag s before (body.Uses unit) = no_tag
body_tag s before (body.Fault code) = no_tag

-- the diagnostics of the lines of a protocol, and its tags
pub record TagLines : Type 0 where
  pub diags : List Diag
  pub tags : List Tag

abbrev pub no_tags : TagLines
no_tags = record { diags = []; tags = [] }

abbrev pub tag_lines : Scope → List (List ℕ) → Forest → TagLines
tag_lines s before Empty = no_tags
tag_lines s before (Tree l under following) =
    let x = body_tag s before l.body in
    let y = tag_lines s (before ++ x.names) following in
    record { diags = placed l x.faults ++ y.diags; tags = x.tags ++ y.tags }

-- what stands under the head of a protocol: one line, and the tags under that
abbrev pub protocol_of : Scope → Forest → TagLines
protocol_of s Empty = no_tags
protocol_of s (Tree l under following) = tag_lines s [] under
