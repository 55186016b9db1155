-- What is reported of each form of an operand of which a type is wanted.
use Rattle.std.proofs.Common.{◌≡◌, ◌∙◌, List, ap, sym}
use Rattle.occ_types.specs.View.{as_array}
use Rattle.occ_types.specs.declared.types.OccType.{OccType}
use Rattle.occ_typing_operands.specs.Settling.{settled}
use Rattle.occ_typing_operands.specs.declared.kind.Kind.{Kind}
use Rattle.occ_typing_tables.specs.Terms.{judged}
use Rattle.occ_typing_tables.specs.declared.term.Term.{Term}
use Rattle.occ_typing_tables.specs.declared.term.Term.TheOpen.{Term-F}
use Rattle.occ_typing_tables.specs.declared.term.Term.TheViews.{out-roll-Term}
use Rattle.occ_typing_tables.specs.declared.term.Term.TheVariants as v
use Rattle.occ_typing_statements.specs.Sending.{as_layer, operand_as, table_as}

pub operand_single : (of : OccType) (k : Kind) → operand_as of (v.Single k) ≡ settled of k
unfolding operand_as
operand_single of k = ap (operand_as of) (sym (v.rolls-Single k)) ∙ ap (as_layer of) (out-roll-Term (Term-F.Single k))

pub operand_table : (of : OccType) (xs : List Term) → operand_as of (v.Table xs) ≡ table_as (judged (v.Table xs)) (as_array of)
unfolding operand_as
operand_table of xs = ap (operand_as of) (sym (v.rolls-Table xs)) ∙ ap (as_layer of) (out-roll-Term (Term-F.Table xs))

pub ruleset operand_rules = (operand_single, operand_table)
