use Rattle.std.proofs.Common.{◌≡◌, rules}
use Rattle.occ_board.proofs.Likeness.{same_expansion}
use Rattle.occ_board.proofs.comparing.is_alike_job.Goals as goal
use Rattle.occ_board.proofs.comparing.is_alike_job.Goals.{else-eq, then-eq}
use Rattle.occ_board.specs.inside.Likeness.{AreAlikeReads}

pub returns-then-are_alike_reads-clause-expansion : goal.returns-then-are_alike_reads-clause-expansion
returns-then-are_alike_reads-clause-expansion c = λ _. elim c.if-eq.branch [
  | then-eq w ↦
      let unit : c.args.a.now.unit ≡ c.args.b.now.unit = search rules in
      let alike : AreAlikeReads c.args.a.now.reads c.args.b.now.reads = search rules in
      same_expansion c.args.a.now.reads c.args.b.now.reads c.args.a.now.unit c.args.b.now.unit unit alike
  | else-eq w ↦ search rules
]
