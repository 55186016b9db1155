-- What is held of a list: an array of its one item, or the list.
use Rattle.std.specs.Prelude.{List}
use Rattle.occ_typing_statements.specs.declared.few.Held.{Held}
use Rattle.occ_typing_statements.specs.declared.few.Held.TheVariants as h

abbrev pub items_of : {T : Type 0} → Held T → List T
items_of (h.One items) = items
items_of (h.Listed items) = items
