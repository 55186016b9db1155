use Rattle.occ_editor_edits.specs.Documents.{ChangesAt}
use Rattle.std.proofs.Common.{◌≡◌, ◌∙◌, ℕ, List, Some, false, refl, rules, subst, sym, true}
use Rattle.occ_editor.proofs.Placed.{not_at, open_beside, or_left, or_right}
use Rattle.occ_editor.proofs.Right.{grows_same, right_beside}
use Rattle.occ_editor.proofs.Wanted.{met_beside}
use Rattle.occ_editor.proofs.room.Room.follow.Goals as goal

pub returns-in_default-clause-stands : goal.returns-in_default-clause-stands
returns-in_default-clause-stands c = λ before now changes stands.
    let none = not_at c.args.self.now.texts.items c.args.path.now (sym c.in_default.ensures) in
    record {
      apart = stands.apart;
      named = stands.named;
      right = λ found. right_beside before now c.args.path.now _ c.args.self.now.texts.items c.args.self.now.texts.items c.args.self.now.refusals.items changes (search rules) (grows_same c.args.self.now.texts.items) (stands.right (or_left c.args.self.now.is_loose _ found));
      has = stands.has;
      opened = λ found. open_beside before now c.args.path.now _ c.args.self.now.texts.items changes (λ source e. absurd (let no = sym none ∙ e in cc)) (stands.opened (or_left c.args.self.now.is_loose _ found));
      met = λ found. met_beside before now c.args.path.now _ c.args.self.now c.args.self.now changes refl (λ p met. met) (λ of. absurd (let no = sym c.wants.ensures ∙ or_right c.args.self.now.is_loose c.wants.result found in cc)) (stands.met (or_left c.args.self.now.is_loose _ found));
      told = λ found same. stands.told (or_left c.args.self.now.is_loose _ found) same;
    }

pub returns-in_ok-change-in-Ok-clause-stands : goal.returns-in_ok-change-in-Ok-clause-stands
returns-in_ok-change-in-Ok-clause-stands c = λ before now changes stands.
    let made : c.in_ok-new-in-Ok.field-0.text ≡ c.args.bytes.now = search rules in
    c.in_ok-change-in-Ok.ensures.stands before now c.args.path.now (sym c.in-Some.ensures) (search rules) (subst (λ (bytes : List ℕ). ChangesAt before now c.args.path.now (Some bytes)) (sym made) changes) stands
