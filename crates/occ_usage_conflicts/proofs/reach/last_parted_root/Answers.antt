use Rattle.occ_usage_conflicts.proofs.Parting.{got_parted}
use Rattle.occ_usage_conflicts.proofs.Reaching.{no_clash}
use Rattle.occ_usage_conflicts.specs.Components.{parted}
use Rattle.occ_usage_conflicts.proofs.reach.last_parted_root.Goals as goal

pub returns : goal.returns
returns c r root past =
    no_clash r root c.greatest.result (parted c.args.sizes.now c.args.uses.now) (λ k j us u at here.
    let m = got_parted c.args.sizes.now c.args.uses.now k j us u at here in c.greatest.ensures.roots (m.0) u (m.1)) past
