use Rattle.std.proofs.Common.{refl}
use Rattle.occheck_sessions.proofs.Sources.{same_text}
use Rattle.occheck_sessions.proofs.matching.is_text.Goals as goal

pub returns : goal.returns
returns c = λ read spells. same_text c.source_law.ensures c.args.source.now c.text.result.now c.args.text.now c.args.text.now read c.eq.result c.lines-lines.ensures.prepared (spells c.requires) c.text.ensures.value refl c.eq.ensures
