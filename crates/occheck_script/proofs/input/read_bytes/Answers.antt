use Rattle.std.proofs.Common.{arith, length-take}
use Rattle.occheck_script.proofs.Known.{read_to_end, read_so_many}
use Rattle.occheck_script.proofs.input.read_bytes.Goals as goal

pub returns-then-count-eq0-clause-all : goal.returns-then-count-eq0-clause-all
returns-then-count-eq0-clause-all g c = read_to_end _ _ _ 67108865 c.loop-piece.invariant.known (c.in-Ok.ensures.end (omega arith) (simp length-take (omega arith))) c.loop-piece.invariant.short

pub returns-clause-all : goal.returns-clause-all
returns-clause-all g c = read_so_many _ _ _ 67108865 c.loop-piece.invariant.known (omega arith)
