use Rattle.std.proofs.Common.{◌≡◌, ℕ, arith, true}
use Rattle.occ_project.specs.Entries.{is_among}
use Rattle.occ_project_units.proofs.Looking.{known_over, known_within, next_too, noted_more}
use Rattle.occ_project_units.proofs.seeking.note_readers.Goals as goal
use Rattle.occ_project_units.specs.Along.{name_at}
use Rattle.occ_project_units.specs.Units.{read_names}
use Rattle.occ_project_units.specs.inside.Keeping.{IsNoted}

pub note_reader-requires-clause-within : goal.note_reader-requires-clause-within
note_reader-requires-clause-within c = known_within c.args.project.now c.args.facts.now c.loop-index.index c.requires.facts c.loop-index-test.true

pub loop-index-preserved : goal.loop-index-preserved
loop-index-preserved c = (
  λ name unit k. c.note_reader.ensures.more name unit (c.loop-index.invariant.0 name unit k),
  next_too (λ (p : ℕ). is_among (read_names c.args.project.now (name_at c.args.project.now p)) c.args.edited ≡ true → IsNoted c.args.project.now (name_at c.args.project.now p) c.note_reader.new.lookers) c.loop-index.index
      (λ p lt r. noted_more c.args.project.now (name_at c.args.project.now p) c.loop-index.lookers c.note_reader.new.lookers c.note_reader.ensures.more (c.loop-index.invariant.1 p lt r))
      (c.note_reader.ensures.noted c.if-not-note_reader.false),
)

pub returns-clause-noted : goal.returns-clause-noted
returns-clause-noted c = λ _ p lt r. c.loop-index.invariant.1 p (let over = known_over c.args.project.now c.args.facts.now c.loop-index.index c.requires.facts c.loop-index-test.false in omega (arith, lt, over)) r
