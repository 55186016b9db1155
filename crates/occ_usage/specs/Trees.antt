-- The typed lines of a unit as trees.
use Rattle.std.specs.Prelude.{Bool, Option, List, [], ◌∷◌, map}
use Rattle.occ_scope.specs.declared.meaning.ScopeEntry.{ScopeEntry}
use Rattle.occ_project.specs.declared.expanded.Location.{Location}
use Rattle.occ_typing.specs.Forms.{TypedForm}
use Rattle.occ_typing.specs.declared.tree.TypedLine.{TypedLine, out-TypedLine}
use Rattle.occ_typing.specs.declared.tree.TypedLine.TheFolds.{fold-TypedLine}
use Rattle.occ_typing.specs.declared.tree.TypedLine.TheOpen.{TypedLine-F}

-- a line by itself
pub record Head : Type 0 where
  pub place : Location
  pub is_process : Bool
  pub form : TypedForm
  pub enters : List ScopeEntry
  pub adds : Option (List ScopeEntry)

-- none, or a line, the lines under it, and those after it
pub data Trees : Type 0 where
  Empty : Trees
  Tree : Head → Trees → Trees → Trees

-- the lines that are these, where each is said what it is before others
abbrev pub one_after_other : List (Trees → Trees) → Trees
one_after_other [] = Empty
one_after_other (t ∷ ts) = t (one_after_other ts)

abbrev pub head_in : {X : Type 0} → TypedLine-F X → Head
head_in n = record { place = n.place; is_process = n.is_process; form = n.form; enters = n.enters; adds = n.adds }

abbrev pub tree_step : TypedLine-F (Trees → Trees) → Trees → Trees
tree_step n following = Tree (head_in n) (one_after_other n.under) following

-- a line, before others
abbrev pub tree_of : TypedLine → Trees → Trees
tree_of = fold-TypedLine (Trees → Trees) tree_step

abbrev pub trees_of : List TypedLine → Trees
trees_of ls = one_after_other (map tree_of ls)

abbrev pub head_of : TypedLine → Head
head_of l = head_in (out-TypedLine l)

-- the lines under it
abbrev pub under : TypedLine → Trees
under l = trees_of (out-TypedLine l).under
