use Rattle.std.proofs.Common.{arith, sym, length}
use Rattle.std.proofs.lemmas.Bool.{eqb-true}
use Rattle.occheck_script.proofs.Left.{all_written, same_front, stuck}
use Rattle.occheck_script.proofs.written.write_all.Goals as goal

pub returns-clause-ok : goal.returns-clause-ok
returns-clause-ok g c = all_written _ _ c.loop-rest.rest.now _ (eqb-true (length c.loop-rest.rest.now) 0 (sym c.loop-rest-test.ensures)) c.loop-rest.invariant.left

pub returns-in-Ok-eq0-clause-front : goal.returns-in-Ok-eq0-clause-front
returns-in-Ok-eq0-clause-front g c = stuck _ _ _ _ _ _ (omega arith) c.in-Ok-eq0.ensures.bytes c.loop-rest.invariant.left

pub returns-in-Err-clause-front : goal.returns-in-Err-clause-front
returns-in-Err-clause-front g c = same_front _ _ _ _ _ c.in-Err.ensures.none_written c.loop-rest.invariant.left
