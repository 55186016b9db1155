use Rattle.std.proofs.Common.{◌≡◌, List, ℕ, Option, None, ap, subst, sym}
use Rattle.occ_board.specs.declared.entry.Edit.TheVariants as edit
use Rattle.occheck_script.specs.Machine.{or_else}
use Rattle.occheck_script.proofs.Editing.{IsSaid, after_is, said, text_is}
use Rattle.occheck_script.proofs.desk.Desk.remove.Goals as goal

is_right : {n : Option (List ℕ)} → None ≡ n → or_else n None ≡ None
is_right h = ap (λ (o : Option (List ℕ)). or_else o None) (sym h)

pub returns-in-Ok-clause-answered : goal.returns-in-Ok-clause-answered
returns-in-Ok-clause-answered c = λ read.
    text_is (λ bytes. bytes.items) c.edited.result c.args.self.now c.remove.new.self c.args.name.now None (edit.Removed c.args.name.now) c.remove.result (is_right c.in-Ok.ensures.refused)
    (subst (λ (name : List ℕ). IsSaid c.args.self.now.board c.remove.new.self (edit.Removed name) c.remove.result) c.in-Ok.ensures.named
    (said c.args.self.now.board c.remove.new.self (edit.Removed c.in-Ok.file) c.remove.result c.remove.ensures.answered c.remove.ensures.after c.remove.ensures.fault c.remove.ensures.err))
    c.edited.ensures.memory c.edited.ensures.text

pub returns-in-Ok-clause-after : goal.returns-in-Ok-clause-after
returns-in-Ok-clause-after c = λ read.
    after_is c.edited.result c.args.self.now c.remove.new.self c.args.name.now None (edit.Removed c.args.name.now) c.remove.result (is_right c.in-Ok.ensures.refused)
    (subst (λ (name : List ℕ). IsSaid c.args.self.now.board c.remove.new.self (edit.Removed name) c.remove.result) c.in-Ok.ensures.named
    (said c.args.self.now.board c.remove.new.self (edit.Removed c.in-Ok.file) c.remove.result c.remove.ensures.answered c.remove.ensures.after c.remove.ensures.fault c.remove.ensures.err))
    c.edited.ensures.memory
