use Rattle.std.proofs.Common.{◌≡◌, IfSome, Option, subst, sym, true, ℕ, List}
use Rattle.std.proofs.lemmas.Slice.Eq.{bytes_eq-Decides}
use Rattle.occ_editor.proofs.Shown.{covered}
use Rattle.occ_editor.proofs.room.Room.add_missing.Goals as goal
use Rattle.occ_editor.specs.inside.Shown.{HasFile}
use Rattle.occ_files.specs.declared.gathering.Text.{Text}

pub returns-clause-added : goal.returns-clause-added
returns-clause-added c = λ apart path none at.
    let texts : List Text = c.args.self.now.texts.items in
    let has : HasFile texts c.args.paths.now c.in-Some.name = subst (λ (o : Option (List ℕ)). IfSome o (HasFile texts c.args.paths.now)) c.in-Some.is c.requires in
    let same : c.in-Some.name ≡ c.args.diag.now.file = (bytes_eq-Decides c.in-Some.name c.args.diag.now.file).0 (sym c.if-eq.ensures) in
    absurd (covered texts c.args.paths.now c.args.diag.now path apart (subst (HasFile texts c.args.paths.now) same has) none at)

pub returns-2-clause-added : goal.returns-2-clause-added
returns-2-clause-added c = λ apart path none at. absurd (covered c.args.self.now.texts.items c.add_path.new.paths c.args.diag.now path apart c.in_ok-add_path.ensures.added none at)
