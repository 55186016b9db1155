use Rattle.occ_usage_parts.proofs.Asking.{on_err, on_ok}
use Rattle.occ_usage_parts.proofs.Listing.{meets_fewer, meets_more}
use Rattle.occ_usage_parts.proofs.place_set.PlaceSet.add.Goals as goal

pub returns-clause-ok : goal.returns-clause-ok
returns-clause-ok c = on_ok c.put.result (λ law. meets_more c.args.self.now c.put.new.self c.requires c.put.ensures.set c.args.places law) c.put.ensures.ok

pub returns-clause-err : goal.returns-clause-err
returns-clause-err c = on_err c.put.result (λ law. meets_fewer c.args.self.now c.put.new.self c.requires c.put.ensures.set law) c.put.ensures.err
