use Rattle.std.proofs.Common.{◌≤◌, arith}
use Rattle.std.proofs.lemmas.Bool.Decides.{nat_tests}
use Rattle.occ_usage_parts.specs.inside.Runs.{runs_of}
use Rattle.occ_usage_parts.proofs.Neighbours.{decided}
use Rattle.occ_usage_parts.proofs.runs.meet_between.Goals as goal

pub returns-in-Some : goal.returns-in-Some
returns-in-Some c =
    let d = decided (runs_of c.args.runs.now) c.requires.runs c.in-Some.field-0-0 c.in-Some.end c.args.first c.args.last c.requires.forward c.in-Some.ensures.found
    c.in-Some.ensures.within c.in-Some.ensures.greatest in
    ((λ t. d.0 (grind (arith, nat_tests))), (λ h. let l : c.args.first ≤ c.in-Some.end = d.1 h in grind (arith, nat_tests)))
