use Rattle.std.proofs.Common.{◌≡◌, ◌∙◌, ◌↔◌, List, refl, subst, sym}
use Rattle.std.specs.List.{Contains}
use Rattle.occ_base.specs.declared.diag.Diag.{Diag}
use Rattle.occ_editor.proofs.Shown.{told_same}
use Rattle.occ_editor.proofs.room.Room.tell_anew.Goals as goal

pub returns-clause-told : goal.returns-clause-told
returns-clause-told c = λ documents stands path none. record {
  heads = told_same c.args.self.now.texts.items c.args.self.now.told c.replace-before.new.dest path
      (λ d at. subst (λ (ds : List Diag). Contains ds d ↔ Contains c.replace-before.new.dest d) (c.as_slice.ensures ∙ c.replace-before.ensures.value) (c.in_ok-add_changed.ensures.added stands.apart path none d at));
  why = refl;
}
