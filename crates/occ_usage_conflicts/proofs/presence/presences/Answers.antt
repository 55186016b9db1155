use Rattle.std.proofs.Common.{◌<◌, ◌≤◌, ℕ, length, arith, subst}
use Rattle.std.proofs.lemmas.Option.{slice_get_within}
use Rattle.occ_usage_conflicts.specs.inside.Presences.{IsIn}
use Rattle.occ_usage_conflicts.proofs.Once.{got_within}
use Rattle.occ_usage_conflicts.proofs.Targets.{apart_presence}
use Rattle.occ_usage_conflicts.proofs.presence.presences.Goals as goal

pub returns-clause-apart : goal.returns-clause-apart
returns-clause-apart c r l root stand at other =
    let all : length c.args.components.now ≤ c.loop-place.place = omega (arith, c.loop-place-test.false) in
    let within : root < length c.loop-place.stands = slice_get_within c.loop-place.stands root stand at in
    apart_presence r l root c.args.components.now c.loop-place.stands stand (λ i k us u there here is.
    let w : i < length c.args.components.now = got_within c.args.components.now i us there in
    subst (λ (n : ℕ). IsIn c.loop-place.stands n i) is (c.loop-place.invariant.1 i k us u (omega (arith, w, all)) there here (omega (arith, is, within, c.loop-place.invariant.0)))) at other
