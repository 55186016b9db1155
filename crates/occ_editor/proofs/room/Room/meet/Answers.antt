use Rattle.std.proofs.Common.{◌≡◌, ◌∙◌, Option, Some, ap, option_map, refl, rules, sym}
use Rattle.occ_editor.proofs.Placed.{open_beside}
use Rattle.occ_editor.proofs.Right.{grows_same, right_beside}
use Rattle.occ_editor.proofs.Wanted.{met_beside, source_met}
use Rattle.occ_editor.proofs.room.Room.meet.Goals as goal
use Rattle.occ_forms.specs.Prepared.{Prepared}

pub returns-else-not-has-clause-stands : goal.returns-else-not-has-clause-stands
returns-else-not-has-clause-stands c = λ before now changes stands.
    let at = c.has.ensures c.if-not-has.false in
    record {
      apart = stands.apart;
      named = stands.named;
      right = λ found. right_beside before now c.args.path.now _ c.args.self.now.texts.items c.args.self.now.texts.items c.args.self.now.refusals.items changes (search rules) (grows_same c.args.self.now.texts.items) (stands.right found);
      has = stands.has;
      opened = λ found. open_beside before now c.args.path.now _ c.args.self.now.texts.items changes
          (λ source e.
          let same : Some at.0 ≡ Some source = sym at.1 ∙ e in
          at.2 ∙ ap (λ (o : Option Prepared). option_map (λ s. s.text) o) same) (stands.opened found);
      met = λ found. met_beside before now c.args.path.now _ c.args.self.now c.args.self.now changes refl (λ p met. met) (λ of. source_met c.args.self.now.texts.items c.args.self.now.refusals.items c.args.path.now at.0 at.1) (stands.met found);
      told = stands.told;
    }
