use Rattle.std.proofs.Common.{rules, ◌≡◌, [], sym}
use Rattle.occ_alias.proofs.Repeating.{nothing_kept}
use Rattle.occ_alias.specs.Grades.{unless_reported}
use Rattle.occ_alias.proofs.grade.keep.Goals as goal

pub returns-then-contains : goal.returns-then-contains
returns-then-contains c =
    let none : unless_reported c.args.errors.now.keys c.args.check.diag ≡ [] = search rules in
    sym (nothing_kept c.args.kept.now c.args.errors.now.keys c.args.check.diag c.args.check.more none)
