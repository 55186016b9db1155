use Rattle.std.proofs.Common.{◌≡◌, ◌∙◌, Some, ap, sym}
use Rattle.occ_forms_expressions.specs.declared.tree.Element.{Element}
use Rattle.occ_forms.specs.declared.binding.Binding.{Binding}
use Rattle.occ_forms.specs.declared.specification_tree.Specification.{Specification}
use Rattle.occ_forms.specs.inside.Lines.{element_line}
use Rattle.occ_forms.proofs.OneTree.{binding_once}
use Rattle.occ_forms.proofs.Results.{word_is_no_names}
use Rattle.occ_forms.proofs.typed.of_type.Goals as goal

pub returns-in_default-2-clause-declared : goal.returns-in_default-2-clause-declared
returns-in_default-2-clause-declared c ns is = absurd (word_is_no_names _ _ _ ns c.in-Some.ensures is)

pub returns-in-Some-clause-bound : goal.returns-in-Some-clause-bound
returns-in-Some-clause-bound c b el is =
    let h = binding_once _ _ _ _ (sym c.in-Some.ensures ∙ is) in
    let m : Some c.in-Some-2.element ≡ Some el = rw c.in-Some-2.is at c.in_ok-element.ensures.only el h.1 in
    let j : c.in-Some-2.element ≡ el = cc in
    ap (λ (z : Specification). Some z) (c.element_bound.ensures ∙ ap (λ (z : Binding). element_line z c.args.form c.args.name c.in-Some-2.element) h.0 ∙ ap (λ (z : Element). element_line b c.args.form c.args.name z) j)

pub returns-in-Some-clause-declared : goal.returns-in-Some-clause-declared
returns-in-Some-clause-declared c ns is = absurd (word_is_no_names _ _ _ ns c.in-Some.ensures is)
