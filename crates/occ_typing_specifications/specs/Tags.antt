-- A line of a protocol: a tag, and the types of what follows it. Each is a type of data.
use Rattle.std.specs.Prelude.{ℕ, Option, Some, None, List, [], ◌∷◌, ◌++◌}
use Rattle.occ_base.specs.declared.fault.Fault.{Fault}
use Rattle.occ_types.specs.declared.types.Item.{Item}
use Rattle.occ_types.specs.declared.types.Item.TheVariants as i
use Rattle.occ_types.specs.declared.types.OccType.TheVariants as t
use Rattle.occ_types.specs.declared.types.Tag.{Tag}
use Rattle.occ_scope.specs.Lookup.{Found, data_type}
use Rattle.occ_scope.specs.Visible.{visible}
use Rattle.occ_scope.specs.declared.scope.Scope.{Scope}
use Rattle.occ_forms.specs.declared.tree.Detail.{Detail}
use Rattle.occ_forms.specs.declared.tree.Detail.TheVariants as detail
use Rattle.occ_expr_operations.specs.Views.{builtin_view, dimension_view, dimension_views, each, element_view}
use Rattle.occ_expr_operations.specs.Written.{Written, array_over, array_over_more, faulty}
use Rattle.occ_expr_operations.specs.declared.written.Opening.TheVariants as opening
use Rattle.occ_typing_rules.specs.Listing.{repetition}
use Rattle.occ_scope.specs.Nearest.{nearest}
use Rattle.occ_typing_specifications.specs.Defining.{data_of}
use Rattle.occ_typing_specifications.specs.Items.{Items, counted_item, in_front, no_items, value_item}

-- a type that is a name alone; anything else that may be an element is none
abbrev pub named : Scope → Option (List ℕ) → Written
named s None = faulty
named s (Some name) = array_over [] (data_type name (visible s name))

-- what has to be a type of data, once it is known
abbrev pub data_only : Written → Written
data_only x = let y = data_of x.found in record { faults = x.faults ++ y.faults; found = y.found }

abbrev pub detail_item : Scope → Detail → Found Item
detail_item s (detail.Element el) = value_item (named s (element_view el).name)
detail_item s (detail.Counted n el) = record { faults = []; found = None }
detail_item s (detail.Array d ds name) =
    value_item (array_over_more (dimension_view d opening.Refused s) (each opening.Refused s (dimension_views ds)) (data_type name (visible s name)))
detail_item s (detail.Builtin ds word) = value_item (data_only (array_over (each opening.Refused s (dimension_views ds)) (builtin_view word s)))
detail_item s (detail.CountedType count of) = counted_item s count of

abbrev pub detail_items : Scope → List Detail → Items
detail_items s [] = no_items
detail_items s (d ∷ ds) = in_front (detail_item s d) (detail_items s ds)

-- the items of a tag whose line has a fault are not known
abbrev pub tag_items : List Fault → Option (List Item) → List Item
tag_items [] None = i.Value t.Unknown ∷ []
tag_items [] (Some items) = items
tag_items (fault ∷ faults) items = i.Value t.Unknown ∷ []

-- the faults of the line of a tag, and the tag
pub record TagLine : Type 0 where
  pub faults : List Fault
  pub tag : Tag

-- after tags with these names
unfoldable pub tag_line : Scope → List (List ℕ) → List ℕ → List Detail → TagLine
tag_line s before name ds =
    let x = detail_items s ds in
    let faults = x.faults ++ repetition name (nearest before name) in
    record { faults = faults; tag = record { name = name; items = tag_items faults x.items } }
