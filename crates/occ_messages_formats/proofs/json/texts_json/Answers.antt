use Rattle.occ_messages_formats.proofs.Depths.{view_texts_taken}
use Rattle.std.proofs.Common.{arith}
use Rattle.occ_messages_formats.proofs.json.texts_json.Goals as goal

pub returns : goal.returns
returns c = view_texts_taken c.loop-text.list c.args.texts.now c.loop-text.text-index (omega (arith, c.loop-text-test.false)) c.loop-text.invariant
