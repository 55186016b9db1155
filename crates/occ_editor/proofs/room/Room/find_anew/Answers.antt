use Rattle.std.proofs.Common.{◌≡◌, ◌∙◌, List, ap, refl, subst, sym}
use Rattle.occ_board.specs.Machine.{State, files_of}
use Rattle.occ_editor.proofs.Shown.{grows_back, quiet_both}
use Rattle.occ_editor.proofs.Wanted.{met_open}
use Rattle.occ_editor.proofs.room.Room.find_anew.Goals as goal
use Rattle.occ_editor.specs.Placing.{told_of}
use Rattle.occ_editor.specs.Rooms.{source_in}
use Rattle.occ_project.specs.declared.reads.Read.{Read}
use Rattle.occ_project_units.specs.Project.{file_of}

pub returns-clause-settled : goal.returns-clause-settled
returns-clause-settled g c = λ documents knows asked stands.
    let found = c.in_ok-find.ensures.found documents knows stands in
    let same : files_of c.told.new.board ≡ files_of c.find.new.self.board = c.in_ok-self.ensures.same in
    record {
      stands = record {
        apart = found.apart;
        named = found.named;
        right = λ loose. found.right;
        has = λ name. ap (λ (files : List Read). (file_of files name).source) same ∙ found.has name;
        opened = λ loose. found.opened;
        met = λ loose. met_open documents c.args.self.now c.find.new.self c.args.paths.now asked c.in_ok-find.ensures.folder found.met;
        told = λ loose changed. c.in_ok-self.ensures.told ∙ ap told_of (sym same);
      };
      found = refl;
      same = refl;
    }

pub returns-clause-told : goal.returns-clause-told
returns-clause-told g c = λ documents stands path none.
    let before = c.in_ok-add_shown.ensures.added stands.apart path (grows_back c.add_shown.new.paths c.add_shown-2.new.paths path c.in_ok-add_shown-2.ensures.grows none) in
    let now = c.in_ok-add_shown-2.ensures.added c.in_ok-find.ensures.apart path none in
    quiet_both c.args.self.now _ path before (record { heads = now.heads; why = now.why })
