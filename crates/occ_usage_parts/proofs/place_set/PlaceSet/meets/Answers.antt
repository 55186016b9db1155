use Rattle.occ_usage_parts.proofs.Listing.{meets_tested}
use Rattle.occ_usage_parts.proofs.place_set.PlaceSet.meets.Goals as goal

pub returns : goal.returns
returns c = meets_tested c.args.self.now c.requires c.args.places c.has_some.result c.has_some.ensures
