-- What is read of operands that are no tables: they are what they are beside others, so none of them is listed.
use Rattle.std.proofs.Common.{◌≡◌, ◌∙◌, [], ◌∷◌, ap}
use Rattle.occ_types.specs.declared.constant.Operator.{Operator}
use Rattle.occ_typing_operands.specs.Operators.{operated}
use Rattle.occ_typing_operands.specs.declared.kind.Kind.{Kind}
use Rattle.occ_typing_tables.specs.Terms.{Judged, as_it_is, judged, judged_all, term_step}
use Rattle.occ_typing_tables.specs.declared.term.Term.TheOpen.{Term-F}
use Rattle.occ_typing_tables.specs.declared.term.Term.TheVariants as v
use Rattle.occ_typing_tables.proofs.Judging.{judged_single}
use Rattle.occ_expr_operations.specs.Operations.{operation, plain}

pub plain_single : (k : Kind) → plain (judged (v.Single k)) ≡ as_it_is k
unfolding plain
plain_single k = ap plain (judged_single k)

pub pair_operated : (op : Operator) (a b : Kind) → operation op (judged_all (v.Single a ∷ v.Single b ∷ [])) ≡ operated op (a ∷ b ∷ [])
unfolding operation
pair_operated op a b =
    ap (λ (x : Judged). operation op (x ∷ judged (v.Single b) ∷ [])) (judged_single a)
    ∙ ap (λ (x : Judged). operation op (term_step (Term-F.Single a) ∷ x ∷ [])) (judged_single b)
