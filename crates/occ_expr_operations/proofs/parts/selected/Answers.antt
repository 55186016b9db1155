use Rattle.std.proofs.Common.{◌≡◌, ◌∙◌, IfOk, ap, subst, sym}
use Rattle.occ_typing_operands.specs.Parts.{subscripted}
use Rattle.occ_typing_operands.specs.Settling.{Finding}
use Rattle.occ_typing_tables.specs.Terms.{as_it_is, judged}
use Rattle.occ_typing_tables.specs.declared.term.Term.{Term}
use Rattle.occ_expr_operations.specs.Operations.{plain}
use Rattle.occ_expr_operations.proofs.Pairs.{plain_single}
use Rattle.occ_expr_operations.proofs.parts.selected.Goals as goal

pub returns-in-Single-clause-kind : goal.returns-in-Single-clause-kind
returns-in-Single-clause-kind c =
    let told : as_it_is c.in-Single.index ≡ plain (judged c.args.place.now) = sym (ap (λ (t : Term). plain (judged t)) c.in-Single.is ∙ plain_single c.in-Single.index) in
    subst (λ (x : Finding). IfOk c.subscripted.result (λ kind. kind ≡ (subscripted c.args.of.now x.kind).kind)) told c.subscripted.ensures.kind
