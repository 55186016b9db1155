use Rattle.std.proofs.Common.{◌∙◌, List, ap, subst, sym, ℕ}
use Rattle.occ_lines.specs.Lines.{IsLines}
use Rattle.occ_forms.specs.Prepared.{Prepared}
use Rattle.occ_forms.proofs.source.Source.is_alike.Goals as goal

pub returns-clause-lines : goal.returns-clause-lines
returns-clause-lines c = λ is.
    let own = c.self.invariant.0 in
    let given = subst (λ (text : List ℕ). IsLines text own.0) (sym c.as_slice.ensures) own.1 in
    let other = subst (λ (text : List ℕ). IsLines text own.0) c.as_slice-2.ensures (c.are_alike.ensures.lines is own.0 given) in
    ap (λ (source : Prepared). source.lines) (sym c.self.view_is)
    ∙ c.source_law.ensures c.other.inside.text c.self.inside.lines c.other.inside.lines (own.0, other, own.2) c.other.invariant.0
    ∙ ap (λ (source : Prepared). source.lines) c.other.view_is
