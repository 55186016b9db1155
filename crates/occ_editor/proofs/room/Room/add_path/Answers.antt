use Rattle.std.proofs.Common.{◌≡◌, ◌∙◌, IfSome, Option, Some, ap, rules, subst, sym, true}
use Rattle.std.specs.String.{string_bytes}
use Rattle.occ_editor.proofs.Shown.{grows_insert, has_insert}
use Rattle.occ_editor.proofs.room.Room.add_path.Goals as goal
use Rattle.occ_editor.specs.inside.Shown.{has_key, text_named}
use Rattle.occ_files.specs.declared.gathering.Text.{Text}

pub returns-in_ok-insert-clause-grows : goal.returns-in_ok-insert-clause-grows
returns-in_ok-insert-clause-grows c = grows_insert c.args.paths.now c.insert.new.self c.in_ok-from_str.field-0 c.in_ok-insert.ensures.keys

pub returns-in_ok-insert-clause-added : goal.returns-in_ok-insert-clause-added
returns-in_ok-insert-clause-added c =
    let text : Text = c.in-Some.text.now in
    let named : text_named c.args.self.now.texts.items c.args.name ≡ Some text = search rules in
    let same : string_bytes c.in_ok-from_str.field-0 ≡ string_bytes text.path = search rules in
    subst (λ (o : Option Text). IfSome o (λ t. has_key c.insert.new.self (string_bytes t.path) ≡ true)) (sym named)
    (ap (has_key c.insert.new.self) (sym same) ∙ has_insert c.args.paths.now c.insert.new.self c.in_ok-from_str.field-0 c.in_ok-insert.ensures.keys)
