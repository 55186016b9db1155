use Rattle.std.proofs.Common.{◌≡◌, rules}
use Rattle.std.proofs.lemmas.Slice.Eq.{bytes_eq-Decides}
use Rattle.occ_editor.proofs.Codes.{inserted}
use Rattle.occ_editor.proofs.room.add_code.Goals as goal
use Rattle.occ_editor.specs.inside.Codes.{IsAt}

pub returns-in_ok-insert : goal.returns-in_ok-insert
returns-in_ok-insert c = λ code.
    let file : c.args.diag.now.file ≡ c.args.file = (bytes_eq-Decides c.args.diag.now.file c.args.file).0 (search rules) in
    let line : c.args.diag.now.line ≡ c.args.line = search rules in
    inserted c.args.codes.now.keys c.insert.new.self.keys c.args.diag.now.code code (IsAt c.args.file c.args.line code c.args.diag.now) c.in_ok-insert.ensures.keys (λ is. is.2) (λ same. (file, line, same))
