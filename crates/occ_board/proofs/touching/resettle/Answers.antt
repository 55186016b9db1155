use Rattle.std.proofs.Common.{◌∙◌, ◌<◌, List, ap, ℕ, subst, sym}
use Rattle.occ_project_graph.specs.Graph.{is_among}
use Rattle.occ_board.proofs.Marked.{marked_there, resettled_begun}
use Rattle.occ_board.proofs.touching.resettle.Goals as goal

pub settle_among-requires-clause-within : goal.settle_among-requires-clause-within
settle_among-requires-clause-within c = λ p h. subst (λ (n : ℕ). p < n) c.requires.marks (marked_there c.args.touched.now p (sym (c.indices.ensures p) ∙ ap (λ (ws : List ℕ). is_among ws p) (sym c.of_indices.ensures) ∙ h))

pub settle_among-requires-clause-full : goal.settle_among-requires-clause-full
settle_among-requires-clause-full c = resettled_begun c.args.graph.now c.args.cached.now c.of_indices.result c.args.touched.now c.args.flags.now (λ p. ap (λ (ws : List ℕ). is_among ws p) c.of_indices.ensures ∙ c.indices.ensures p) c.requires.full
