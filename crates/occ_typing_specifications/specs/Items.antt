-- The items of a protocol: a data type, or the type of a count and that of what is counted.
use Rattle.std.specs.Prelude.{Option, Some, None, List, [], ◌∷◌, ◌++◌, if◌then◌else◌}
use Rattle.occ_base.specs.Reporting.{nameless}
use Rattle.occ_base.specs.declared.code.Code.TheVariants as code
use Rattle.occ_base.specs.declared.fault.Fault.{Fault}
use Rattle.occ_types.specs.declared.types.Item.{Item}
use Rattle.occ_types.specs.declared.types.Item.TheVariants as i
use Rattle.occ_types.specs.declared.types.OccType.{OccType}
use Rattle.occ_types.specs.declared.types.OccType.TheVariants as t
use Rattle.occ_types.specs.declared.value.Primitive.{Primitive}
use Rattle.occ_scope.specs.Lookup.{Found, good}
use Rattle.occ_scope.specs.declared.scope.Scope.{Scope}
use Rattle.occ_typing_tables.specs.Extents.{is_too_large}
use Rattle.occ_forms_expressions.specs.declared.tree.DataForm.{DataForm}
use Rattle.occ_forms.specs.declared.specification_tree.ItemForm.{ItemForm}
use Rattle.occ_forms.specs.declared.specification_tree.ItemForm.TheVariants as item
use Rattle.occ_expr_operations.specs.Views.{dimension_views, each}
use Rattle.occ_expr_operations.specs.Written.{Written, count_type, data_form, faulty}
use Rattle.occ_expr_operations.specs.declared.written.Opening.TheVariants as opening
use Rattle.occ_base.specs.Lists.{joined, one_part}

-- a data type as it is written
abbrev pub written : Scope → DataForm → Written
written s of = data_form s (each opening.Refused s (dimension_views of.dimensions)) of.base

abbrev pub value_if : Option OccType → Option Item
value_if None = None
value_if (Some of) = Some (i.Value of)

abbrev pub value_item : Written → Found Item
value_item x = record { faults = x.faults; found = value_if x.found }

-- ---- `T::[]U`

-- any number of values of a type, which is then not too large
abbrev pub row_of : Option OccType → Written
row_of None = faulty
row_of (Some of) = if is_too_large (t.Array None of) then record { faults = nameless code.T9 ∷ []; found = None } else good of

abbrev pub counted_if : Option Primitive → Option OccType → Option Item
counted_if None of = None
counted_if (Some count) None = None
counted_if (Some count) (Some of) = Some (i.Counted count of)

-- T is an integer type or BYTE itself
unfoldable pub counted_item : Scope → DataForm → DataForm → Found Item
counted_item s count of =
    let x = written s count in
    let n = count_type x.found in
    let y = written s of in
    let z = row_of y.found in
    record { faults = x.faults ++ (n.faults ++ (y.faults ++ z.faults)); found = counted_if n.found z.found }

-- ---- items of one line

abbrev pub item_of : Scope → ItemForm → Found Item
item_of s (item.Plain of) = value_item (written s of)
item_of s (item.Counted count of) = counted_item s count of

-- the faults of items, and the items, if nothing is wrong with any
pub record Items : Type 0 where
  pub faults : List Fault
  pub items : Option (List Item)

abbrev pub no_items : Items
no_items = record { faults = []; items = Some [] }

-- an item in front of others
abbrev pub in_front : Found Item → Items → Items
in_front x xs = record { faults = x.faults ++ xs.faults; items = joined (one_part x.found) xs.items }

abbrev pub items_of : Scope → List ItemForm → Items
items_of s [] = no_items
items_of s (x ∷ xs) = in_front (item_of s x) (items_of s xs)
