use Rattle.std.proofs.Common.{rules, ◌≡◌, ◌+◌, refl, arith}
use Rattle.occ_usage_parts.specs.declared.place_set.PlaceSet.{PlaceSet}
use Rattle.occ_usage_parts.specs.inside.PlaceSets.{place_at}
use Rattle.occ_usage_parts.proofs.Asking.{on_err, on_ok, run_lost, run_put}
use Rattle.occ_usage_parts.proofs.place_set.PlaceSet.put.Goals as goal

pub returns-in-Run-clause-ok : goal.returns-in-Run-clause-ok
returns-in-Run-clause-ok c =
    let t : PlaceSet = record { all = c.args.self.now.all; from = c.args.self.now.from; runs = c.add_run.new.runs } in
    let k : c.index-begin.result + c.from.result ≡ c.index-begin.result + c.in-Run.more = omega (arith, c.from.ensures) in
    let e : place_at c.index-begin.result ≡ c.in-Run.first = search rules in
    on_ok c.add_run.result (λ law. run_put c.args.self.now t c.index-begin.result c.in-Run.more (c.index-begin.result + c.from.result) c.in-Run.first c.args.places c.in-Run.is e k refl refl law) c.add_run.ensures.places

pub returns-in-Run-clause-err : goal.returns-in-Run-clause-err
returns-in-Run-clause-err c =
    let t : PlaceSet = record { all = c.args.self.now.all; from = c.args.self.now.from; runs = c.add_run.new.runs } in
    on_err c.add_run.result (λ law. run_lost c.args.self.now t refl refl law) c.add_run.ensures.err
