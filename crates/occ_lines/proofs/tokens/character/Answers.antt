use Rattle.occ_lines.proofs.Reading.{bad_character, no_close, no_unit}
use Rattle.occ_lines.proofs.tokens.character.Goals as goal

pub returns-in_default-clause-stops : goal.returns-in_default-clause-stops
returns-in_default-clause-stops c = bad_character _ _ c.requires (no_unit c.args.body.now (rw c.in_default.is at c.unit.ensures.value))

pub returns-in_default-following-clause-stops : goal.returns-in_default-following-clause-stops
returns-in_default-following-clause-stops c = bad_character _ _ c.requires (no_close c.args.body.now _ _ (rw c.in-Some.is at c.unit.ensures.value) (rw c.in_default-following.is at c.following.ensures))
