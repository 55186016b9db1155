use Rattle.std.proofs.Common.{rules, ◌≡◌, ◌++◌, IfOk, IsTrue, OnOk, subst, sym}
use Rattle.occ_typing_operands.specs.Settling.{Finding}
use Rattle.occ_typing_operands.specs.declared.kind.Kind.{Kind}
use Rattle.occ_typing_specifications.proofs.Named.{type_agrees}
use Rattle.occ_typing_specifications.proofs.abbreviating.of_type.Goals as goal

pub returns-then-is_known-clause-kind : goal.returns-then-is_known-clause-kind
returns-then-is_known-clause-kind c =
    let is_so : IsTrue c.args.is_known = search rules in
    let x = c.in-Some-Known.found in
    let e = type_agrees c.args.to.now c.args.kind.now c.in-Some-Known.to x c.in-Some-Known.is-0 c.in-Some-Known.is-1 (c.requires c.in-Some-Known.to x is_so c.in-Some-Known.is-0 c.in-Some-Known.is-1) in
    subst (λ (z : Finding). IfOk c.known-then-is_known.result (λ (named : Kind). named ≡ z.kind)) (sym e) (search rules)

pub returns-then-is_known-clause-faults : goal.returns-then-is_known-clause-faults
returns-then-is_known-clause-faults c =
    let is_so : IsTrue c.args.is_known = search rules in
    let x = c.in-Some-Known.found in
    let e = type_agrees c.args.to.now c.args.kind.now c.in-Some-Known.to x c.in-Some-Known.is-0 c.in-Some-Known.is-1 (c.requires c.in-Some-Known.to x is_so c.in-Some-Known.is-0 c.in-Some-Known.is-1) in
    subst (λ (z : Finding). OnOk c.known-then-is_known.result (c.args.faults.now ≡ c.args.faults.now ++ z.faults)) (sym e) (search rules)
