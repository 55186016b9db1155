use Rattle.std.proofs.Common.{◌≡◌, drop}
use Rattle.occ_protocol.specs.Carrying.{place_from, tag_named}
use Rattle.occ_protocol.proofs.carrier.found.Given as goal

abbrev pub invariant-loop-tag : goal.invariant-loop-tag
invariant-loop-tag l =
    (l.place ≡ l.tag-index)
    × (place_from l.place (drop l.tag-index l.tags) l.name ≡ place_from 0 l.tags l.name)
    × (tag_named (drop l.tag-index l.tags) l.name ≡ tag_named l.tags l.name)
