use Rattle.std.specs.Option.{is_some}
use Rattle.std.proofs.Common.{◌≡◌, ◌∙◌, ◌++◌, Option, false, ap, append-nil, length, nat_lt, sym}
use Rattle.occ_alias.specs.inside.Choosing.{numbered_faults}
use Rattle.occ_usage_values.specs.declared.bound.Bound.{Bound}
use Rattle.occ_alias.proofs.Elements.{none_at}
use Rattle.occ_alias.proofs.scope.numbered_faults.Goals as goal

pub returns-in-None : goal.returns-in-None
returns-in-None c =
    let env = c.args.env.now in
    let following : nat_lt c.args.number (length env) ≡ false = sym c.get.ensures.lookup.0 ∙ ap is_some c.in-None.is in
    sym (
    ap (λ (o : Option Bound). c.args.faults.now ++ numbered_faults c.args.number env o c.args.uses.now) (none_at env c.args.number following)
    ∙ append-nil c.args.faults.now
    )
