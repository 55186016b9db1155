use Rattle.std.proofs.Common.{rules}
use Rattle.occ_scope.proofs.Alike.{with_one}
use Rattle.occ_scope.proofs.meanings.Meanings.push.Goals as goal

pub invariant_of-self-2 : goal.invariant_of-self-2
invariant_of-self-2 c = with_one c.self.inside.meanings c.push.new.self c.args.meaning c.self.inside.alike c.in_ok-push.ensures.ok c.self.invariant.within c.self.invariant.same
