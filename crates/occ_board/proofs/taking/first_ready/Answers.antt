use Rattle.std.proofs.Common.{◌≡◌, ◌∙◌, ◌≤◌, ap, arith, get_or, length, subst, sym}
use Rattle.occ_project.specs.declared.reads.Read.{Read}
use Rattle.occ_board.proofs.Nexts.{file_there}
use Rattle.occ_board.proofs.Indices.{within}
use Rattle.occ_board.proofs.Waits.{fewer_wait, one_waits, ready_there}
use Rattle.occ_board.proofs.taking.first_ready.Goals as goal

pub loop-index-preserved : goal.loop-index-preserved
loop-index-preserved c =
    one_waits c.args.graph.now c.args.flags.now c.loop-index.index c.get.result.now
    (file_there c.args.graph.now c.files-files.result.now c.loop-index.index c.get.result.now (c.files-files.ensures.files ∙ c.project.ensures) c.loop-index-test.true (subst (λ (file : Read). file ≡ get_or c.files-files.result.now c.loop-index.index file) (sym c.get.ensures) c.index-files-index.is))
    (sym c.if-is_ready.ensures) c.loop-index.invariant

pub returns-then-is_ready-clause-ready : goal.returns-then-is_ready-clause-ready
returns-then-is_ready-clause-ready c = λ file is.
    ready_there c.args.graph.now c.args.flags.now c.loop-index.index c.get.result.now file
    (file_there c.args.graph.now c.files-files.result.now c.loop-index.index c.get.result.now (c.files-files.ensures.files ∙ c.project.ensures) c.loop-index-test.true (subst (λ (file : Read). file ≡ get_or c.files-files.result.now c.loop-index.index file) (sym c.get.ensures) c.index-files-index.is))
    (sym c.if-is_ready.ensures) is

pub returns-clause-ready : goal.returns-clause-ready
returns-clause-ready c = λ file is.
    let same = ap length (c.files-files.ensures.files ∙ c.project.ensures) in
    let lt = within c.args.graph.now (length c.files-files.result.now) file is in
    absurd (omega (arith, lt, same))

pub returns-then-is_ready-clause-most : goal.returns-then-is_ready-clause-most
returns-then-is_ready-clause-most c =
    let same = ap length (c.files-files.ensures.files ∙ c.project.ensures) in
    let lt = c.loop-index-test.true in
    omega (arith, lt, same)

pub returns-clause-most : goal.returns-clause-most
returns-clause-most c =
    let same = ap length (c.files-files.ensures.files ∙ c.project.ensures) in
    omega (arith, same)

pub returns-clause-before : goal.returns-clause-before
returns-clause-before c =
    let over : length c.files-files.result.now ≤ c.loop-index.index = omega (arith, c.loop-index-test.false) in
    fewer_wait c.args.graph.now c.args.flags.now (length c.files-files.result.now) c.loop-index.index over c.loop-index.invariant
