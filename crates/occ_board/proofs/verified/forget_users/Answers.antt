use Rattle.std.proofs.Common.{◌≡◌, ◌∙◌, Some, ap, inl, inr, sym}
use Rattle.occ_board.proofs.Looked.{users_forgotten}
use Rattle.occ_board.proofs.Indices.{open_index}
use Rattle.occ_board.proofs.verified.forget_users.Goals as goal
use Rattle.occ_project.specs.Reads.{index}
use Rattle.occ_project_units.proofs.Finding.{index_within}

pub returns-then-same : goal.returns-then-same
returns-then-same c = λ u h. (h, inl c.if-same.true)

pub returns-in_default : goal.returns-in_default
returns-in_default c = λ u h.
    let there = open_index c.args.graph.now c.args.unit c.requires in
    let at = there.1 in
    let none = c.in_default.ensures ∙ ap (index c.args.unit) c.project.ensures in
    absurd (cc (at, none))

pub users-requires : goal.users-requires
users-requires c = index_within c.args.unit c.args.graph.now c.in-Some.index (sym (c.in-Some.ensures ∙ ap (index c.args.unit) c.project.ensures))

pub returns : goal.returns
returns c = λ u h.
    let at : index c.args.unit c.args.graph.now ≡ Some c.in-Some.index = sym (c.in-Some.ensures ∙ ap (index c.args.unit) c.project.ensures) in
    let left = users_forgotten c.args.graph.now c.args.verified.now c.unflag.new.flags c.users.result c.args.unit c.in-Some.index (λ p. c.users_law.ensures.users c.args.graph.now p c.in-Some.index) at c.users.ensures c.unflag.ensures.flags u h in
    (left.0, inr left.1)
