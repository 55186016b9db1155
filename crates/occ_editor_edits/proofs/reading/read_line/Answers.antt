use Rattle.std.proofs.Common.{◌==◌, ap, ◌∙◌}
use Rattle.occ_editor_edits.proofs.Heads.{feed_ends}
use Rattle.occ_editor_edits.specs.Frames.{ends_line}
use Rattle.occ_editor_edits.proofs.reading.read_line.Goals as goal

pub returns-then-one-eq10-clause-line : goal.returns-then-one-eq10-clause-line
returns-then-one-eq10-clause-line g c _ = ap ends_line c.in_ok-push-in-Ok.ensures.items ∙ feed_ends c.loop.line.items _ c.loop.invariant.1 (ap (λ b. b == 10) c.if-one-eq10.true)
