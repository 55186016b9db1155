-- What is held of selectors: an array of the one that there is, or their list.
use Rattle.std.specs.Prelude.{List}
use Rattle.occ_types.specs.declared.interface.PartSelector.{PartSelector}
use Rattle.occ_usage_parts.specs.declared.selectors.Held.{Held}
use Rattle.occ_usage_parts.specs.declared.selectors.Held.TheVariants as h

abbrev pub held_selectors : Held → List PartSelector
held_selectors (h.One selectors) = selectors
held_selectors (h.Listed selectors) = selectors
