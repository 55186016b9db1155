use Rattle.std.proofs.Common.{◌∙◌, ap, sym, ℕ, Option, Some}
use Rattle.occ_types.specs.declared.types.OccType.TheVariants as t
use Rattle.occ_typing_tables.proofs.Filling.{closed_array}
use Rattle.occ_typing_tables.proofs.merge.+is_closed.Goals as goal

pub returns-in-Some : goal.returns-in-Some
returns-in-Some run c =
    λ closed other.
    closed_array c.args.of.now c.in-Some.field-0 c.get.result.now other
    (c.in-Array.is ∙ ap (λ (m : Option ℕ). t.Array m c.in-Array.inner) c.in-Some.is ∙ ap (t.Array (Some c.in-Some.field-0)) (sym c.get.ensures))
    (c.is_closed.ensures closed)
