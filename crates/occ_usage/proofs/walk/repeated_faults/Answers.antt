use Rattle.std.proofs.Common.{rules, ◌≡◌, ◌∙◌, ◌<◌, ◌++◌, List, false, true, ap, sym, arith}
use Rattle.std.proofs.lemmas.List.{append-nil}
use Rattle.occ_base.specs.declared.diag.Diag.{Diag}
use Rattle.occ_usage.specs.Comparing.{are_compared}
use Rattle.occ_usage.specs.Trees.{head_of}
use Rattle.occ_usage.proofs.Repeated.{on_ok, repeated_few, repeated_none, repeated_twice}
use Rattle.occ_usage.proofs.walk.repeated_faults.Goals as goal

pub returns-then-not-is_parallel : goal.returns-then-not-is_parallel
returns-then-not-is_parallel c =
    let apart : are_compared (head_of c.args.line.now).form ≡ false = search rules in
    sym (append-nil c.args.faults.now)
    ∙ sym (ap (λ (ds : List Diag). c.args.faults.now ++ ds) (repeated_none (head_of c.args.line.now).form c.args.known (head_of c.args.line.now).place c.args.env.now c.args.uses.now c.requires apart))

pub returns-then-known-lt2 : goal.returns-then-known-lt2
returns-then-known-lt2 c =
    let compared : are_compared (head_of c.args.line.now).form ≡ true = search rules in
    let few : c.args.known.count < 2 = search rules in
    sym (append-nil c.args.faults.now)
    ∙ sym (ap (λ (ds : List Diag). c.args.faults.now ++ ds) (repeated_few (head_of c.args.line.now).form c.args.known.count (head_of c.args.line.now).place c.args.env.now c.args.uses.now compared (omega (arith, few))))

pub returns : goal.returns
returns c =
    let compared : are_compared (head_of c.args.line.now).form ≡ true = search rules in
    let more : 1 < c.args.known.count = search rules in
    on_ok c.twice_faults.result (λ e.
    e ∙ sym (ap (λ (ds : List Diag). c.args.faults.now ++ ds) (repeated_twice (head_of c.args.line.now).form c.args.known.count (head_of c.args.line.now).place c.args.env.now c.args.uses.now compared more)))
    c.twice_faults.ensures
