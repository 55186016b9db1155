-- Whether what lines use or specify may depend on the value of a specification, each with those under it.
use Rattle.std.specs.Prelude.{ℕ, Bool, false, ◌||◌}
use Rattle.occ_alias.specs.Naming.{form_depends}
use Rattle.occ_usage.specs.Trees.{Empty, Tree, Trees}

abbrev pub lines_depend : ℕ → Trees → Bool
lines_depend n Empty = false
lines_depend n (Tree h t following) = form_depends n h.form || lines_depend n t || lines_depend n following
