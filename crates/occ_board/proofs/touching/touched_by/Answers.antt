use Rattle.std.proofs.Common.{◌≡◌, ℕ, List, get_or, rules, subst, true}
use Rattle.occ_board.proofs.Marked.{touched_all}
use Rattle.occ_board.proofs.Spread.{among_there}
use Rattle.occ_board.proofs.touching.touched_by.Goals as goal
use Rattle.occ_project_graph.specs.Graph.{is_among}

pub touch_also-requires-in-loop-reader-clause-within : goal.touch_also-requires-in-loop-reader-clause-within
touch_also-requires-in-loop-reader-clause-within c =
    let readers : List ℕ = c.args.readers.now in
    let i : ℕ = c.loop-reader.reader-index in
    c.readers_law.ensures.within c.args.graph.now (get_or readers i 0) c.args.index
    (subst (λ (ws : List ℕ). is_among ws (get_or readers i 0) ≡ true) c.requires.readers (among_there readers i c.loop-reader-test.true))

pub returns-clause-readers : goal.returns-clause-readers
returns-clause-readers c = λ p. touched_all c.args.graph.now c.args.flags.now c.args.all c.args.index c.args.readers.now c.loop-reader.touched c.loop-reader.reader-index c.loop-reader.invariant (search rules) p
