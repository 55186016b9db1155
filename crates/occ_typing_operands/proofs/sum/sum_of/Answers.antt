use Rattle.std.proofs.Common.{◌≡◌, ◌∷◌, ◌∙◌, ◌+◌, ℕ, List, ap, arith, drop, sym}
use Rattle.std.proofs.lemmas.List.{drop_more}
use Rattle.std.specs.List.{list_any}
use Rattle.occ_types.specs.declared.constant.Operator.TheVariants as op
use Rattle.occ_typing_operands.specs.declared.kind.Kind.{Kind}
use Rattle.occ_typing_operands.specs.inside.Sums.{sum_with}
use Rattle.occ_typing_operands.specs.Operators.{needs_faulty, run_in}
use Rattle.occ_typing_operands.proofs.Sums as sums
use Rattle.occ_typing_operands.proofs.sum.sum_of.Goals as goal

pub loop-kind-init : goal.loop-kind-init
loop-kind-init c = (
  (λ of. sums.starts of c.in_ok-total.total c.args.first.now c.args.others.now c.in_ok-total.ensures),
  sym (sums.needs_none c.in_ok-total.total c.args.first.now c.args.others.now c.in_ok-total.ensures),
)

pub loop-kind-preserved : goal.loop-kind-preserved
loop-kind-preserved c =
    let i = c.loop-kind.kind-index in
    let others = c.args.others.now in
    let item = c.kind-item.result in
    let rest : List Kind = drop (i + 1) others in
    let n : ℕ = c.in_ok-next.next in
    let split : drop i others ≡ item ∷ rest = drop_more others i item (omega arith) ∙ ap (λ (z : Kind). z ∷ rest) (sym c.kind-item.is) in
    let total : c.in_ok-total-2.total ≡ c.loop-kind.total + n = c.in_ok-total-2.ensures.1 in (
      (λ of.
          ap (λ (z : ℕ). sum_with of z c.max-most.result rest) total
          ∙ ap (λ (z : ℕ). sum_with of (c.loop-kind.total + n) z rest) c.max-most.ensures
          ∙ sums.goes_on of c.loop-kind.total c.loop-kind.most n item rest (run_in op.Add of (c.args.first.now ∷ others)) c.in_ok-next.ensures
          (ap (λ (z : List Kind). sum_with of c.loop-kind.total c.loop-kind.most z) (sym split) ∙ c.loop-kind.invariant.0 of)),
      sym (sums.needs_none n item rest c.in_ok-next.ensures) ∙ ap (list_any needs_faulty) (sym split) ∙ c.loop-kind.invariant.1,
    )
