-- What is reported of an operand, form by form.
use Rattle.std.proofs.Common.{◌≡◌, ◌∙◌, List, [], ◌∷◌, length, map, refl, ap, sym, arith}
use Rattle.occ_typing_operands.specs.declared.kind.Kind.{Kind}
use Rattle.occ_typing_tables.specs.declared.term.Term.{Term}
use Rattle.occ_typing_tables.specs.declared.term.Term.TheFolds.{fold-roll-Term}
use Rattle.occ_typing_tables.specs.declared.term.Term.TheOpen.{Term-F}
use Rattle.occ_typing_tables.specs.declared.term.Term.TheVariants as v
use Rattle.occ_typing_tables.specs.Terms.{Judged, judged, judged_all, term_step}

all_judged : (xs : List Term) → map judged xs ≡ judged_all xs
all_judged [] = refl
all_judged (x ∷ xs) = ap (λ (js : List Judged). judged x ∷ js) (all_judged xs)

pub judged_single : (k : Kind) → judged (v.Single k) ≡ term_step (Term-F.Single k)
judged_single k = ap judged (sym (v.rolls-Single k)) ∙ fold-roll-Term Judged term_step (Term-F.Single k)

pub judged_table : (xs : List Term) → judged (v.Table xs) ≡ term_step (Term-F.Table (judged_all xs))
judged_table xs =
    ap judged (sym (v.rolls-Table xs)) ∙ fold-roll-Term Judged term_step (Term-F.Table xs)
    ∙ ap (λ (js : List Judged). term_step (Term-F.Table js)) (all_judged xs)

pub judged_length : (xs : List Term) → length (judged_all xs) ≡ length xs
judged_length [] = refl
judged_length (x ∷ xs) = omega (arith, judged_length xs)

pub ruleset judging_rules = (judged_single, judged_table)

pub ruleset counting_rules = (judged_single, judged_table, judged_length)
