-- What a line asks of those that stand under the same parent, and a parent of those under it.
use Rattle.std.specs.Prelude.{Bool, false, not, ◌&&◌, ◌||◌, List, [], ◌∷◌}
use Rattle.std.specs.List.{list_any}
use Rattle.occ_tree.specs.declared.row.Row.{Row}
use Rattle.occ_tree.specs.declared.sort.Sort.{Sort}
use Rattle.occ_tree.specs.Table.{is_close, is_head, is_main, is_process, is_result, is_single, is_value, lets_line, may_stand, needs_main, takes_specifications}

-- the first of them passes
abbrev pub first_is : (Sort → Bool) → List Sort → Bool
first_is p [] = false
first_is p (s ∷ ss) = p s

-- the nearest of those before is a process, and none of the others is one
abbrev pub follows_first_process : List Sort → Bool
follows_first_process [] = false
follows_first_process (s ∷ ss) = is_process s && not (list_any is_process ss)

-- a close that is not right after a head, or a head that is not right before a close
abbrev pub is_loose : List Sort → Sort → Bool → Bool
is_loose before s before_close = (is_close s && not (first_is is_head before)) || (is_head s && not before_close)

-- a main line where there may be one and there is one already
abbrev pub is_one_too_many : Row → List Sort → Sort → Bool
is_one_too_many r before s = is_single r && (is_main r s && list_any (is_main r) before)

-- under VALOF a second process, a second RESULT, or a RESULT that is not directly after the first process
abbrev pub is_disordered : Row → List Sort → Sort → Bool
is_disordered r before s =
    is_value r && ((is_process s && list_any is_process before) || (is_result s && (list_any is_result before || not (follows_first_process before))))

-- a line of this sort cannot stand in the row after those siblings, the nearest first, and right before a close or not
abbrev pub is_misplaced : Row → List Sort → Sort → Bool → Bool
is_misplaced r before s before_close = not (may_stand r s) || (is_loose before s before_close || (is_one_too_many r before s || is_disordered r before s))

-- the line is a specification, or a head with its close right after it
abbrev pub begins_specification : Row → Sort → List Sort → Bool
begins_specification r s after = lets_line r s || (takes_specifications r && (is_head s && first_is is_close after))

-- one of the specifications has no main line after it
abbrev pub ends_specified : Row → List Sort → Bool
ends_specified r [] = false
ends_specified r (s ∷ after) = ends_specified r after || (begins_specification r s after && not (list_any (is_main r) after))

-- a parent with these under it lacks a main line, also after its last specification
abbrev pub lacks : Row → List Sort → Bool
lacks r ss =
    (needs_main r && not (list_any (is_main r) ss))
    || ((is_value r && not (list_any is_process ss && list_any is_result ss)) || ends_specified r ss)
