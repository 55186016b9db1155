use Rattle.std.proofs.Common.{rules, ◌≡◌, ◌∙◌, ◌++◌, Some, ap, [], ◌∷◌, IfOk, OnOk, None, subst, sym}
use Rattle.std.proofs.lemmas.List.{append-nil}
use Rattle.occ_typing_operands.specs.Operators.{class_of, given, operated}
use Rattle.occ_typing_operands.specs.Settling.{Finding, known}
use Rattle.occ_typing_operands.specs.declared.kind.Kind.{Kind}
use Rattle.occ_typing_operands.specs.declared.kind.Kind.TheVariants as k
use Rattle.occ_typing_operands.proofs.Varying.{anyhow, varying_type}
use Rattle.occ_typing_operands.proofs.operate.operated_pair.Goals as goal

said : (c : goal.After-varying)
    → record { faults = []; kind = known (given (class_of c.args.op) c.in-Some-Known.known.of) None } ≡ operated c.args.op (c.args.first.now ∷ c.args.second.now ∷ [])
said c =
    let is : c.in-Some-Known.field-0.now ≡ k.Known c.in-Some-Known.known = search rules in
    varying_type c.args.op c.get.result.now c.in-Some-Known.known (c.args.first.now ∷ c.args.second.now ∷ []) (c.in-Some-Known.ensures ∙ ap Some is) c.get.ensures c.if-vary_both.ensures

pub returns-in-Some-Known-clause-kind : goal.returns-in-Some-Known-clause-kind
returns-in-Some-Known-clause-kind c =
    subst (λ (x : Finding). IfOk c.varying.result (λ kind. kind ≡ x.kind)) (said c) c.varying.ensures

pub returns-in-Some-Known-clause-faults : goal.returns-in-Some-Known-clause-faults
returns-in-Some-Known-clause-faults c =
    subst (λ (x : Finding). OnOk c.varying.result (c.args.faults.now ≡ c.args.faults.now ++ x.faults)) (said c)
    (anyhow c.varying.result (sym (append-nil c.args.faults.now)))
