use Rattle.std.proofs.Common.{List, subst, sym}
use Rattle.std.specs.List.{Contains}
use Rattle.occ_base.specs.declared.diag.Diag.{Diag}
use Rattle.occ_editor.proofs.Shown.{grows_back, told_none}
use Rattle.occ_editor.proofs.room.Room.add_shown.Goals as goal

pub returns-clause-added : goal.returns-clause-added
returns-clause-added c = λ apart path none. record {
  heads = told_none c.args.self.now.texts.items c.args.self.now.told path (λ d has at. c.in_ok-add_paths.ensures.added apart path none d (subst (λ (ds : List Diag). Contains ds d) (sym c.as_slice.ensures) has) at);
  why = c.in_ok-add_refused.ensures.added path (grows_back c.add_refused.new.paths c.add_paths.new.paths path c.in_ok-add_paths.ensures.grows none);
}
