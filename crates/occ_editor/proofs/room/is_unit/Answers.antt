use Rattle.std.proofs.Common.{codes}
use Rattle.std.proofs.lemmas.Str.Pattern.{ends_text}
use Rattle.occ_editor.proofs.room.is_unit.Goals as goal

pub returns : goal.returns
returns c = ends_text c.ends_with.result (codes ".occ") c.args.path.now c.ends_with.ensures.cases
