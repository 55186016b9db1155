use Rattle.std.proofs.Common.{◌≡◌, ◌∙◌, Some, ap, rules, subst, sym}
use Rattle.occ_editor.proofs.Placed.{given_open}
use Rattle.occ_editor.proofs.Right.{right_open}
use Rattle.occ_editor.proofs.Wanted.{met_paths}
use Rattle.occ_editor.proofs.room.Room.find.Goals as goal
use Rattle.occ_editor.specs.Rooms.{HasTexts}
use Rattle.occ_files.specs.Gathering.{are_apart}

pub returns-clause-found : goal.returns-clause-found
returns-clause-found g c = λ documents knows stands.
    let olds : c.as_slice.result.now ≡ c.args.self.now.texts.items = search rules in
    record {
      apart = c.in_ok-self.ensures.apart;
      named = c.in_ok-self.ensures.named c.in_ok-texts.ensures.named;
      right = λ path bytes why e f. c.in_ok-self.ensures.right (Some (Some bytes)) path why (right_open (g.D.Disk.known c.args.disk.now) documents c.in_ok-texts.field-0.texts.items c.in_ok-texts.field-0.refusals.items knows c.in_ok-texts.ensures.right path bytes why e f);
      has = c.in_ok-self.ensures.has (ap are_apart olds ∙ stands.apart) (subst (HasTexts c.args.self.now.board) (sym olds) stands.has);
      opened = given_open (g.D.Disk.known c.args.disk.now) documents c.in_ok-self.field-0.items knows (c.in_ok-self.ensures.given (g.D.Disk.known c.args.disk.now) c.in_ok-texts.ensures.given);
      met = λ k d within. met_paths c.in_ok-self.field-0.items c.in_ok-texts.field-0.texts.items c.in_ok-texts.field-0.refusals.items _ c.in_ok-self.ensures.paths ∙ c.in_ok-texts.ensures.met k d within;
    }
