use Rattle.occ_messages_formats.proofs.Depths.{view_messages_taken}
use Rattle.std.proofs.Common.{arith}
use Rattle.occ_messages_formats.proofs.json.messages_json.Goals as goal

pub returns : goal.returns
returns c = view_messages_taken c.loop-message.list c.args.messages.now c.loop-message.message-index (omega (arith, c.loop-message-test.false)) c.loop-message.invariant
