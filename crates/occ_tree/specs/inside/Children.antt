-- What the walk up the lines knows of the first lines under a parent. No definition of shape needs it.
use Rattle.std.specs.Prelude.{Bool, false, not, ◌&&◌, ◌||◌}
use Rattle.occ_tree.specs.declared.row.Row.{Row}
use Rattle.occ_tree.specs.declared.siblings.Children.{Children}
use Rattle.occ_tree.specs.declared.sort.Sort.{Sort}
use Rattle.occ_tree.specs.Table.{is_head, is_main, is_process, is_result, is_value, lets_line, needs_main, takes_specifications}

-- the line is a specification, or a head that stands right before a close
abbrev pub begins_before : Row → Sort → Bool → Bool
begins_before r s before_close = lets_line r s || (takes_specifications r && (is_head s && before_close))

-- what is known of none
abbrev pub no_children : Children
no_children = record { main = false; process = false; result = false; specified = false }

-- of those, and then of a line of this sort, right before a close or not
abbrev pub one_child_more : Row → Children → Sort → Bool → Children
one_child_more r c s before_close =
    record {
      main = c.main || is_main r s;
      process = c.process || is_process s;
      result = c.result || is_result s;
      specified = not (is_main r s) && (c.specified || begins_before r s before_close);
    }

-- a parent lacks something, where these are all lines under it
abbrev pub children_lack : Row → Children → Bool
children_lack r c = (needs_main r && not c.main) || ((is_value r && not (c.process && c.result)) || c.specified)
