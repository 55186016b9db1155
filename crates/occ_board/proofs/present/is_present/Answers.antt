use Rattle.std.proofs.Common.{sym, ◌∙◌}
use Rattle.std.proofs.lemmas.Slice.Eq.{bytes_eq-Decides}
use Rattle.occ_board.proofs.Stands.{other_reads, other_unit, present_is, rested}
use Rattle.occ_board.proofs.Truths.{differ, not_both}
use Rattle.occ_board.proofs.present.is_present.Goals as goal
use Rattle.occ_board.proofs.present.is_present.Goals.{then-eq, else-eq}

pub are_units_now-requires : goal.are_units_now-requires
are_units_now-requires c = rested c.args.graph.now c.args.cached.now c.args.unit c.uses_near.result.now c.uses_near.ensures c.requires.rested

pub returns-then-are_reads_now : goal.returns-then-are_reads_now
returns-then-are_reads_now c = elim c.if-eq.branch [
  | then-eq w ↦
      present_is c.are_units_now.result c.args.job.now c.args.graph.now w.project.result.now c.args.unit w.as_slice.result.now w.reads_near.result.now c.used.result.now c.uses_near.result.now
      (sym c.unit.ensures.value ∙ (bytes_eq-Decides c.unit.result c.args.unit).0 (sym w.if-eq.ensures)) (w.as_slice.ensures ∙ w.reads.ensures) w.project.ensures w.reads_near.ensures
      (w.are_reads_now.ensures.0 (sym w.value-is ∙ c.if-are_reads_now.true)) c.used.ensures c.uses_near.ensures c.are_units_now.ensures
  | else-eq w ↦ absurd (not_both c.if-eq.value c.if-are_reads_now.true (w.value-is ∙ w.if-eq.false))
]

pub returns-else-are_reads_now : goal.returns-else-are_reads_now
returns-else-are_reads_now c = c.if-are_reads_now.false ∙ elim c.if-eq.branch [
  | then-eq w ↦
      other_reads w.are_reads_now.result c.args.job.now c.args.graph.now w.project.result.now c.args.unit w.as_slice.result.now w.reads_near.result.now
      (w.as_slice.ensures ∙ w.reads.ensures) w.project.ensures w.reads_near.ensures (sym w.value-is ∙ c.if-are_reads_now.false) w.are_reads_now.ensures
  | else-eq w ↦ other_unit c.args.job.now c.args.graph.now c.args.unit (λ e. differ c.unit.result c.args.unit (sym w.if-eq.ensures) (c.unit.ensures.value ∙ e))
]
