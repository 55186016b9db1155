use Rattle.std.proofs.Common.{sym, subst, length}
use Rattle.occ_types.specs.declared.types.OccType.{OccType}
use Rattle.occ_typing_tables.specs.Terms.{judged_all}
use Rattle.occ_typing_tables.specs.inside.Plain.{IsCounted}
use Rattle.occ_typing_tables.proofs.Judging.{judged_length}
use Rattle.occ_typing_tables.proofs.Plain.{counted}
use Rattle.occ_typing_tables.proofs.counted.is_counted.Goals as goal

pub returns-in-Primitive : goal.returns-in-Primitive
returns-in-Primitive c h =
    let items = c.args.items.now in
    subst (λ (of : OccType). IsCounted (length items) of (judged_all items)) (sym c.in-Primitive.is) (counted c.in-Primitive.primitive (judged_all items) (length items) (judged_length items) (c.are_plain.ensures h))
