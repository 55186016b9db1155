use Rattle.std.proofs.Common.{rules, ◌≡◌, true}
use Rattle.occ_project_graph.specs.inside.Components.{all_apart}
use Rattle.occ_project_graph.proofs.Circled.{none_circular}
use Rattle.occ_project_graph.proofs.Free.{free_rests}
use Rattle.occ_project_graph.proofs.circles.find_rests.Goals as goal

pub returns-then-all_apart : goal.returns-then-all_apart
returns-then-all_apart c =
    let apart : all_apart c.in_ok-numbers.numbers 0 c.args.graph.now ≡ true = search rules in
    free_rests c.args.graph.now (none_circular c.args.graph.now c.in_ok-numbers.numbers c.in_ok-numbers.ensures c.requires.whole apart)
