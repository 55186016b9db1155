use Rattle.std.proofs.Common.{◌≡◌, ◌++◌, drop}
use Rattle.occ_typing_rules.specs.Listing.{repetitions}
use Rattle.occ_typing_rules.proofs.repeat.repeated.Given as goal

abbrev pub invariant-loop-name : goal.invariant-loop-name
invariant-loop-name l =
    (l.before ++ drop l.name-index l.names ≡ l.initial.before ++ l.names)
    × (l.faults ++ repetitions l.before (drop l.name-index l.names) ≡ l.initial.faults ++ repetitions l.initial.before l.names)
