-- What a session was told may be handed to another thread.
use denote.Param.Send.{IsSend, sendable}
use Rattle.std.proofs.Crossing.{Vec-send}
use Rattle.occ_board.proofs.entry.EditFault.TheSendSync as edit_fault_cross
use Rattle.occ_server.proofs.Crossing.{receipt_send, snapshot_field_send}
use Rattle.occheck_sessions.specs.contracts.heard.Heard as heard
use Rattle.occheck_sessions.specs.contracts.talk.Said as said
use Rattle.occheck_sessions.specs.contracts.talk.Talk as talk
use Rattle.occheck_sessions.specs.contracts.talk.Told as told

told_field_send : IsSend told.the_field.row
told_field_send = search (sendable, Vec-send) depth 30

said_field_send : IsSend said.the_field.row
said_field_send = search (sendable, edit_fault_cross.the_field_send, told_field_send) depth 30

said_send : IsSend said.the_row
said_send = search (sendable, said_field_send) depth 10

heard_field_send : IsSend heard.the_field.row
heard_field_send = search (sendable, Vec-send, said_send, snapshot_field_send) depth 30

talk_field_send : IsSend talk.the_field.row
talk_field_send = search (sendable, Vec-send, heard_field_send, receipt_send) depth 30

pub talk_send : IsSend talk.the_row
talk_send = search (sendable, talk_field_send) depth 10
