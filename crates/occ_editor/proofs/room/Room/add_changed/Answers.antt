use Rattle.std.proofs.Common.{List, subst, sym}
use Rattle.std.specs.List.{Contains}
use Rattle.occ_base.specs.declared.diag.Diag.{Diag}
use Rattle.occ_editor.proofs.Shown.{grows_back}
use Rattle.occ_editor.proofs.room.Room.add_changed.Goals as goal

pub returns-clause-added : goal.returns-clause-added
returns-clause-added c = λ apart path none diag at. (
  λ has. subst (λ (ds : List Diag). Contains ds diag) c.as_slice-now.ensures (c.in_ok-add_paths.ensures.added apart path (grows_back c.add_paths.new.paths c.add_paths-2.new.paths path c.in_ok-add_paths-2.ensures.grows none) diag has at),
  λ has. c.in_ok-add_paths-2.ensures.added apart path none diag (subst (λ (ds : List Diag). Contains ds diag) (sym c.as_slice-now.ensures) has) at,
)
