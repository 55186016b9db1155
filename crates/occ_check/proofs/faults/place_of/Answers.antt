use Rattle.std.proofs.Common.{Err, Ok, rules}
use Rattle.std.proofs.lemmas.Fn.{always_returns_same}
use Rattle.occ_check.proofs.Sorted.{found_here, searched}
use Rattle.occ_project.specs.Reads.{name_cmp}
use Rattle.occ_check.proofs.faults.place_of.Goals as goal

pub returns-then-is_at-clause-value : goal.returns-then-is_at-clause-value
returns-then-is_at-clause-value c = λ d. found_here c.args.unit c.args.used.now c.args.hint d c.requires (search rules)

pub returns-in-Ok-clause-value : goal.returns-in-Ok-clause-value
returns-in-Ok-clause-value c =
    searched c.args.unit c.args.used.now c.requires (Ok c.in-Ok.place) c.in-Ok.ensures.bound (c.in-Ok.ensures.position (λ one. name_cmp one.unit c.args.unit) (always_returns_same _ _ _ (λ a r g called. search rules)))

pub returns-in-Err-clause-value : goal.returns-in-Err-clause-value
returns-in-Err-clause-value c =
    searched c.args.unit c.args.used.now c.requires (Err c.in-Err._place) c.in-Err.ensures.bound (c.in-Err.ensures.position (λ one. name_cmp one.unit c.args.unit) (always_returns_same _ _ _ (λ a r g called. search rules)))
