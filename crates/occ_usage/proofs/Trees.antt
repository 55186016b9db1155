-- A line and those after it as trees.
use Rattle.std.proofs.Common.{◌≡◌, ◌∙◌, ◌<◌, ◌+◌, ℕ, List, ◌∷◌, drop, length, slice_index_or, ap, sym}
use Rattle.std.proofs.lemmas.List.{drop_more}
use Rattle.occ_typing.specs.declared.tree.TypedLine.{TypedLine}
use Rattle.occ_typing.specs.declared.tree.TypedLine.TheFolds.{fold_out-TypedLine}
use Rattle.occ_usage.specs.Trees.{Tree, Trees, head_of, tree_step, trees_of, under}

pub first_tree : (l : TypedLine) (ls : List TypedLine) → trees_of (l ∷ ls) ≡ Tree (head_of l) (under l) (trees_of ls)
first_tree l ls = ap (λ (t : Trees → Trees). t (trees_of ls)) (fold_out-TypedLine (Trees → Trees) tree_step l)

-- those from a line on
pub from_line : (ls : List TypedLine) (i : ℕ) (l : TypedLine) → i < length ls → l ≡ slice_index_or ls i l
    → trees_of (drop i ls) ≡ Tree (head_of l) (under l) (trees_of (drop (i + 1) ls))
from_line ls i l h e =
    ap trees_of (drop_more ls i l h ∙ ap (λ (z : TypedLine). z ∷ drop (i + 1) ls) (sym e)) ∙ first_tree l (drop (i + 1) ls)
