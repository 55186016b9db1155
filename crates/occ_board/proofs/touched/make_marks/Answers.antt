use Rattle.std.proofs.Common.{◌≡◌, ◌∙◌, List, ap, arith, false, get_or, length, ℕ, sym, true}
use Rattle.std.proofs.lemmas.List.{drop_all, drop_more, length-replicate, length-set}
use Rattle.std.specs.Prelude.{replicate, vec_len}
use Rattle.occ_board.proofs.Counted.{from_none}
use Rattle.occ_board.proofs.Spread.{among_there}
use Rattle.occ_board.proofs.touched.make_marks.Goals as goal
use Rattle.occ_board.specs.inside.Touched.{marked_too}

pub loop-index-init : goal.loop-index-init
loop-index-init c =
    let old = c.args.marks.now.ok.0 in
    let none : c.resize.new.self.items ≡ replicate c.args.count false = c.in_ok-resize.ensures.items ∙ from_none c.args.marks.now.items c.args.count (vec_len c.args.marks.now) c.requires.none (omega (arith, old)) in
    (ap (λ ms. marked_too ms c.args.indices.now) none, ap length none ∙ length-replicate c.args.count false)

pub index_mut-requires : goal.index_mut-requires
index_mut-requires c =
    let indices : List ℕ = c.args.indices.now in
    let i : ℕ = c.loop-index.index-index in
    let within = c.requires.within (get_or indices i 0) (among_there indices i c.loop-index-test.true) in
    let long = c.loop-index.invariant.1 in
    let same = c.loop-index.marks.ok.0 in
    omega (arith, within, long, same)

pub loop-index-preserved : goal.loop-index-preserved
loop-index-preserved c =
    let indices : List ℕ = c.args.indices.now in
    let i : ℕ = c.loop-index.index-index in
    (ap (marked_too c.loop-index.marks.items) (sym (drop_more indices i 0 c.loop-index-test.true)) ∙ c.loop-index.invariant.0, length-set c.loop-index.marks.items (get_or indices i 0) true ∙ c.loop-index.invariant.1)

pub returns-clause-ok : goal.returns-clause-ok
returns-clause-ok c = ap (marked_too c.loop-index.marks.items) (sym (drop_all c.loop-index.index-index c.args.indices.now c.loop-index-test.false)) ∙ c.loop-index.invariant.0
