use Rattle.std.proofs.Common.{ℕ, arith}
use Rattle.occ_project_units.proofs.Looking.{known_over, known_within, next_too, noted_more}
use Rattle.occ_project_units.proofs.seeking.lookers_of.Goals as goal
use Rattle.occ_project_units.specs.Along.{name_at}
use Rattle.occ_project_units.specs.inside.Keeping.{IsNoted}

pub note_at-requires-clause-within : goal.note_at-requires-clause-within
note_at-requires-clause-within c = known_within c.args.project.now c.args.facts.now c.loop-index.index c.requires.facts c.loop-index-test.true

pub loop-index-preserved : goal.loop-index-preserved
loop-index-preserved c =
    next_too (λ (p : ℕ). IsNoted c.args.project.now (name_at c.args.project.now p) c.note_at.new.lookers) c.loop-index.index
    (λ p lt. noted_more c.args.project.now (name_at c.args.project.now p) c.loop-index.lookers c.note_at.new.lookers c.note_at.ensures.more (c.loop-index.invariant p lt))
    (c.note_at.ensures.noted c.if-not-note_at.false)

pub returns : goal.returns
returns c = λ p lt. c.loop-index.invariant p (let over = known_over c.args.project.now c.args.facts.now c.loop-index.index c.requires.facts c.loop-index-test.false in omega (arith, lt, over))
