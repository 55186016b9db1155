use Rattle.std.proofs.Common.{◌≡◌, ◌++◌, drop}
use Rattle.occ_typing_specifications.specs.Fields.{each_of}
use Rattle.occ_typing_specifications.proofs.field.push_fields.Given as goal

abbrev pub invariant-loop-name : goal.invariant-loop-name
invariant-loop-name l = l.fields ++ each_of l.of (drop l.name-index l.names) ≡ l.initial.fields ++ each_of l.of l.names
