use Rattle.std.proofs.Common.{◌≡◌, ◌∙◌, ap, sym, subst, false, true, rules}
use Rattle.occ_types.specs.declared.types.OccType.TheVariants as t
use Rattle.occ_typing_operands.specs.Outcomes.{in_type}
use Rattle.occ_typing_operands.specs.Settling.{settled}
use Rattle.occ_typing_operands.specs.declared.kind.Kind.{Kind}
use Rattle.occ_typing_tables.specs.Terms.{settled_itself}
use Rattle.occ_typing_tables.specs.inside.Plain.{IsPlain, is_landed}
use Rattle.occ_typing_tables.proofs.Plain.{plain_untyped}
use Rattle.occ_typing_tables.proofs.counted.is_plain_kind.Goals as goal

pub returns-then-not-is_faulty : goal.returns-then-not-is_faulty
returns-then-not-is_faulty c h =
    let of = c.args.of in
    let untyped = c.in-Untyped.untyped in
    let faultless : untyped.is_faulty ≡ false = search rules in
    let lands : is_landed (in_type untyped of) ≡ true = ap is_landed (sym c.in_type.ensures) ∙ sym c.is_landed.ensures ∙ h in
    subst (λ (kind : Kind). IsPlain (t.Primitive of) (settled_itself (settled (t.Primitive of) kind))) (sym c.in-Untyped.is) (plain_untyped of untyped faultless lands)
