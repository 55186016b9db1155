use Rattle.std.proofs.Common.{◌∙◌, ◌&&◌, List, ap, false, get_or, inl, inr, not, sym, ℕ}
use Rattle.occ_board.proofs.Marked.{left_by}
use Rattle.occ_board.proofs.verified.forget_readers.Goals as goal
use Rattle.occ_project_graph.specs.Graph.{is_among}

pub returns-then-alike : goal.returns-then-alike
returns-then-alike c = λ p h.
    let parts = left_by (get_or c.args.verified.now p false) (is_among c.args.readers.now p) (sym (c.unflag.ensures.flags p ∙ ap (λ (ws : List ℕ). get_or c.args.verified.now p false && not (is_among ws p)) c.of_indices.ensures) ∙ h) in
    (parts.0, inl (c.if-alike.true, parts.1))

pub returns : goal.returns
returns c = λ p h.
    let parts = left_by (get_or c.args.verified.now p false) (is_among c.indices.result.now p) (sym (c.unflag-2.ensures.flags p ∙ ap (λ (ws : List ℕ). get_or c.args.verified.now p false && not (is_among ws p)) c.of_indices-2.ensures) ∙ h) in
    (parts.0, inr (sym (c.indices.ensures p) ∙ parts.1))
