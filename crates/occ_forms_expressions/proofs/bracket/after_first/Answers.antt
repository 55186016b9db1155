use Rattle.std.proofs.Common.{sym, ◌∙◌}
use Rattle.occ_forms_expressions.proofs.Closings.{segment_only}
use Rattle.occ_forms_expressions.proofs.bracket.after_first.Goals as goal

pub returns-then-begins_bounds-clause-only : goal.returns-then-begins_bounds-clause-only
returns-then-begins_bounds-clause-only g c = segment_only _ _ (sym c.begins_bounds.ensures ∙ c.if-begins_bounds.true) c.segment_end.ensures.only
