use Rattle.serde_json.specs.View.{view}
use Rattle.std.proofs.Common.{codes}
use Rattle.occ_editor_messages.proofs.Extending.{added_extends}
use Rattle.occ_editor_messages.proofs.server.LanguageServer.watch.Goals as goal
use Rattle.occ_editor_messages.specs.Sent.{request_data}

pub returns-clause-sent : goal.returns-clause-sent
returns-clause-sent g c = added_extends c.request.result (request_data (codes "client/registerCapability") (view c.in_ok-params.params)) c.args.self.now.sending.bytes.items c.request.new.self.bytes.items c.request.ensures.sent
