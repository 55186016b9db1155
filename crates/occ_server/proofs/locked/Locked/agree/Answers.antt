use Rattle.std.proofs.Common.{◌≡◌, ◌∙◌, ◌<◌, ◌^◌, List, ap, subst, sym, true, false}
use Rattle.occ_board.specs.Journal.{last_number}
use Rattle.occ_board.specs.declared.base.Base.{Base}
use Rattle.occ_board.specs.declared.entry.Entry.{Entry}
use Rattle.occ_server.proofs.locked.Locked.agree.Goals as goal
use Rattle.occ_server.specs.Receipts.{ascends}

pub returns-then-not-ascends-clause-same : goal.returns-then-not-ascends-clause-same
returns-then-not-ascends-clause-same c = λ e.
    let h : false ≡ true = sym c.if-not-ascends.true ∙ c.ascends.ensures ∙ ap ascends e ∙ c.receipts_law.ensures.rises c.args.self.now.board.base c.args.self.now.board.journal in absurd cc

pub first_off-requires-clause-few : goal.first_off-requires-clause-few
first_off-requires-clause-few c =
    subst (λ (b : Base). last_number b c.entries.result.now < 2 ^ 32) (sym c.base.ensures.base)
    (subst (λ (es : List Entry). last_number c.args.self.now.board.base es < 2 ^ 32) (sym c.entries.ensures.entries) c.entries.ensures.few)
