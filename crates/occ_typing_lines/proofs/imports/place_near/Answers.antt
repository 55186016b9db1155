use Rattle.std.proofs.Common.{Err, Ok, rules}
use Rattle.std.proofs.lemmas.List.Sorted.{answers_always}
use Rattle.occ_typing_lines.proofs.Searching.{searched_so, standing_at}
use Rattle.occ_typing_lines.proofs.imports.place_near.Goals as goal

pub returns-then-is_at : goal.returns-then-is_at
returns-then-is_at c = standing_at c.args.unit c.args.imports.now c.args.near c.requires (c.is_at.ensures c.if-is_at.true)

pub returns-in-Ok : goal.returns-in-Ok
returns-in-Ok c =
    searched_so c.args.unit c.args.imports.now c.requires (Ok c.in-Ok.at) c.in-Ok.ensures.bound (c.in-Ok.ensures.position (λ i. i.unit) (answers_always _ _ _ (λ f a r g called. search rules)))

pub returns-in-Err : goal.returns-in-Err
returns-in-Err c =
    searched_so c.args.unit c.args.imports.now c.requires (Err c.in-Err._at) c.in-Err.ensures.bound (c.in-Err.ensures.position (λ i. i.unit) (answers_always _ _ _ (λ f a r g called. search rules)))
