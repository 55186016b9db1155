use Rattle.std.proofs.Common.{◌≡◌, ◌∙◌, ◌<◌, Bool, List, ap, arith, false, inl, inr, length, ℕ, subst, sym, true}
use Rattle.std.proofs.lemmas.Bool.{eqb-false, eqb-true}
use Rattle.std.proofs.lemmas.List.{length-replicate}
use Rattle.std.specs.Prelude.{replicate, slice_set, vec_len}
use Rattle.occ_board.proofs.Counted.{made_marks, mark_more, marked_long, marked_more, none_made}
use Rattle.occ_board.proofs.Marked.{marked_there}
use Rattle.occ_board.proofs.touched.Touched.mark.Goals as goal
use Rattle.occ_board.specs.inside.Touched.{marked}
use Rattle.occ_project_graph.specs.Graph.{is_among}

pub invariant_of-self-then-not-is_empty : goal.invariant_of-self-then-not-is_empty
invariant_of-self-then-not-is_empty c =
    let lt : c.args.index < length (marked c.self.inside.count c.self.inside.indices) = subst (λ (ms : List Bool). c.args.index < length ms) (sym c.self.view_is) c.requires in
    let same = c.self.inside.marks.ok.0 in
    let made : c.self.inside.marks.items ≡ marked c.self.inside.count c.self.inside.indices =
    made_marks c.self.inside.marks.items (marked c.self.inside.count c.self.inside.indices) c.self.invariant.1 (λ e. eqb-false (vec_len c.self.inside.marks) 0 (sym c.if-not-is_empty.ensures) (omega (arith, e, same)))
    in (
      marked_more c.self.inside.count c.self.inside.indices c.push.new.self c.args.index c.self.invariant.0 lt c.in_ok-push.ensures.ok,
      inr (ap (λ (ms : List Bool). slice_set ms c.args.index true) made ∙ sym (mark_more c.self.inside.count c.self.inside.indices c.push.new.self c.args.index c.in_ok-push.ensures.ok)),
    )

pub make_marks-requires-clause-within : goal.make_marks-requires-clause-within
make_marks-requires-clause-within c = λ p h.
    let lt : c.args.index < length (marked c.self.inside.count c.self.inside.indices) = subst (λ (ms : List Bool). c.args.index < length ms) (sym c.self.view_is) c.requires in
    let are = marked_more c.self.inside.count c.self.inside.indices c.push.new.self c.args.index c.self.invariant.0 lt c.in_ok-push.ensures.ok in
    subst (λ (n : ℕ). p < n) (marked_long (replicate c.self.inside.count false) c.push.new.self ∙ length-replicate c.self.inside.count false)
    (marked_there (marked c.self.inside.count c.push.new.self) p (sym (are p) ∙ ap (λ (ws : List ℕ). is_among ws p) (sym c.as_slice.ensures) ∙ h))

pub invariant_of-self-in_err-make_marks : goal.invariant_of-self-in_err-make_marks
invariant_of-self-in_err-make_marks c =
    let lt : c.args.index < length (marked c.self.inside.count c.self.inside.indices) = subst (λ (ms : List Bool). c.args.index < length ms) (sym c.self.view_is) c.requires in
    (marked_more c.self.inside.count c.self.inside.indices c.push.new.self c.args.index c.self.invariant.0 lt c.in_ok-push.ensures.ok, inl c.in_err-make_marks.ensures.err)

pub invariant_of-self-then-len-le-FEW : goal.invariant_of-self-then-len-le-FEW
invariant_of-self-then-len-le-FEW c =
    let lt : c.args.index < length (marked c.self.inside.count c.self.inside.indices) = subst (λ (ms : List Bool). c.args.index < length ms) (sym c.self.view_is) c.requires in
    (marked_more c.self.inside.count c.self.inside.indices c.push.new.self c.args.index c.self.invariant.0 lt c.in_ok-push.ensures.ok, inl (none_made c.self.inside.marks.items (let same = c.self.inside.marks.ok.0 in let none = eqb-true (vec_len c.self.inside.marks) 0 (sym c.if-not-is_empty.ensures) in omega (arith, same, none))))

pub invariant_of-self-2 : goal.invariant_of-self-2
invariant_of-self-2 c =
    let lt : c.args.index < length (marked c.self.inside.count c.self.inside.indices) = subst (λ (ms : List Bool). c.args.index < length ms) (sym c.self.view_is) c.requires in
    (marked_more c.self.inside.count c.self.inside.indices c.push.new.self c.args.index c.self.invariant.0 lt c.in_ok-push.ensures.ok, inr (c.in_ok-make_marks.ensures.ok ∙ ap (marked c.self.inside.count) c.as_slice.ensures))

pub returns-then-not-is_empty : goal.returns-then-not-is_empty
returns-then-not-is_empty c = mark_more c.self.inside.count c.self.inside.indices c.push.new.self c.args.index c.in_ok-push.ensures.ok ∙ ap (λ (ms : List Bool). slice_set ms c.args.index true) c.self.view_is

pub returns-then-len-le-FEW : goal.returns-then-len-le-FEW
returns-then-len-le-FEW c = mark_more c.self.inside.count c.self.inside.indices c.push.new.self c.args.index c.in_ok-push.ensures.ok ∙ ap (λ (ms : List Bool). slice_set ms c.args.index true) c.self.view_is

pub returns : goal.returns
returns c = mark_more c.self.inside.count c.self.inside.indices c.push.new.self c.args.index c.in_ok-push.ensures.ok ∙ ap (λ (ms : List Bool). slice_set ms c.args.index true) c.self.view_is
