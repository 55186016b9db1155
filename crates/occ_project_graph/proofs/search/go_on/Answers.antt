use Rattle.std.proofs.Common.{rules, ◌≡◌, ◌<◌, ◌≤◌, get_or, length, subst}
use Rattle.occ_project_graph.specs.Graph.{targets}
use Rattle.std.specs.Prelude.{ℕ}
use Rattle.occ_project_graph.specs.inside.Searching.{seen_all}
use Rattle.occ_project_graph.proofs.Searches.{ended, goes_on_from, turn_counted, within_turn}
use Rattle.occ_project_graph.proofs.search.go_on.Goals as goal

pub loop-index-preserved : goal.loop-index-preserved
loop-index-preserved c =
    let l : c.loop-index.index < length c.loop-index.seen.queue = search rules in
    let s = c.loop-index.seen in
    let t = c.see_all.new.seen in
    let g = c.args.graph.now in
    let os = c.args.others.now in
    let e : t ≡ seen_all os c.args.other c.args.mark s (targets g (get_or s.queue c.loop-index.index 0)) = search rules in
    let i = c.loop-index.invariant in (
      λ from old m is. goes_on_from g os c.args.other from old s t c.loop-index.index l (i.0 from old m is) (subst (λ (k : ℕ). t ≡ seen_all os c.args.other k s (targets g (get_or s.queue c.loop-index.index 0))) m e),
      within_turn os c.args.other c.args.mark g s t (get_or s.queue c.loop-index.index 0) c.loop-index.index l e,
      turn_counted os c.args.other c.args.mark _ g s t (get_or s.queue c.loop-index.index 0) i.2 e,
    )

pub returns : goal.returns
returns c =
    let l : length c.loop-index.seen.queue ≤ c.loop-index.index = search rules in
    λ from old m is. ended c.args.graph.now c.args.others.now c.args.other from old c.loop-index.seen c.loop-index.index l (c.loop-index.invariant.0 from old m is)
