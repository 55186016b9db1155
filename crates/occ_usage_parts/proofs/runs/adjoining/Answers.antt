use Rattle.std.proofs.Common.{◌<◌, ◌^◌, arith}
use Rattle.occ_usage_parts.specs.inside.Runs.{runs_of}
use Rattle.occ_usage_parts.proofs.Neighbours.{none_adjoins_before}
use Rattle.occ_usage_parts.proofs.runs.adjoining.Goals as goal

pub overflow_add-end : goal.overflow_add-end
overflow_add-end c = let s : c.in_ok-begin.end < 2 ^ 100 = c.requires.runs.short_last c.in_ok-begin.begin c.in_ok-begin.end c.in_ok-begin.ensures.found in omega arith

pub returns-then-end-first-clause-none : goal.returns-then-end-first-clause-none
returns-then-end-first-clause-none c _ =
    none_adjoins_before (runs_of c.args.runs.now) c.requires.runs c.in_ok-begin.begin c.in_ok-begin.end c.args.first c.args.last c.in_ok-begin.ensures.found
    c.in_ok-begin.ensures.greatest (omega arith)

pub returns-clause-some : goal.returns-clause-some
returns-clause-some c = record { run = c.in_ok-begin.ensures.found; from = c.in_ok-begin.ensures.within; to = omega arith }
