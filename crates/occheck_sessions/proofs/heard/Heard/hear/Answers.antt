use Rattle.std.proofs.Common.{List, subst, sym}
use Rattle.std.proofs.lemmas.List.Elements.{All-push}
use Rattle.std.specs.List.{All}
use Rattle.occheck_sessions.specs.declared.talk.Said.{Said}
use Rattle.occheck_sessions.specs.inside.Told.{IsTold, seen_by}
use Rattle.occheck_sessions.proofs.heard.Heard.hear.Goals as goal

pub invariant_of-self-2 : goal.invariant_of-self-2
invariant_of-self-2 c =
    subst (λ (xs : List Said). All (IsTold (seen_by c.self.inside.last)) xs) (sym c.in_ok-push.ensures.items) (All-push (IsTold (seen_by c.self.inside.last)) c.self.inside.said.items c.args.said c.self.invariant (c.requires (seen_by c.self.inside.last)))
