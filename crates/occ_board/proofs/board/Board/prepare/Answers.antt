use Rattle.std.proofs.Common.{◌≡◌, ◌∙◌, List, ap, rules, subst, sym, ℕ}
use Rattle.occ_board.proofs.board.Board.prepare.Goals as goal
use Rattle.occ_forms.specs.Prepared.{IsPrepared, Prepared}

pub returns-in-Ok-Some-clause-only : goal.returns-in-Ok-Some-clause-only
returns-in-Ok-Some-clause-only c = λ lines h.
    let text : c.in-Ok-Some.source.text ≡ c.args.text.now = search rules in
    c.only_source.ensures.only lines (subst (λ (t : List ℕ). IsPrepared t lines) (sym text) h) ∙ ap (λ (s : Prepared). s.lines) (sym c.only_source.ensures.same)
