-- What the walk down the lines knows of those that stand before a line under the same parent. No definition of shape needs it.
use Rattle.std.specs.Prelude.{List}
use Rattle.std.specs.List.{list_any}
use Rattle.occ_tree.specs.declared.row.Row.{Row}
use Rattle.occ_tree.specs.declared.siblings.Elders.{Elders}
use Rattle.occ_tree.specs.declared.sort.Sort.{Sort}
use Rattle.occ_tree.specs.Siblings.{first_is, follows_first_process}
use Rattle.occ_tree.specs.Table.{is_head, is_main, is_process, is_result}

-- what is known in the row of these siblings, the nearest first
abbrev pub elders_of : Row → List Sort → Elders
elders_of r before =
    record {
      head = first_is is_head before;
      main = list_any (is_main r) before;
      process = list_any is_process before;
      result = list_any is_result before;
      first_process = follows_first_process before;
    }
