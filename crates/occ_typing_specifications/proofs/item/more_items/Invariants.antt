use Rattle.std.proofs.Common.{◌≡◌, ◌++◌, drop}
use Rattle.occ_base.specs.Lists.{joined}
use Rattle.occ_typing_specifications.specs.Items.{items_of}
use Rattle.occ_typing_specifications.proofs.item.more_items.Given as goal

abbrev pub invariant-loop-form : goal.invariant-loop-form
invariant-loop-form l =
    (joined l.items (items_of l.scope (drop l.form-index l.forms)).items ≡ joined l.initial.items (items_of l.scope l.forms).items)
    × (l.faults ++ (items_of l.scope (drop l.form-index l.forms)).faults ≡ l.initial.faults ++ (items_of l.scope l.forms).faults)
