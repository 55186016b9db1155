use Rattle.std.proofs.Common.{subst, sym}
use Rattle.occ_editor.specs.Standing.{IsStanding}
use Rattle.occ_editor_messages.proofs.server.LanguageServer.note.Goals as goal

pub returns-in_ok-watch-in-Initialized-Begun-clause-boards : goal.returns-in_ok-watch-in-Initialized-Begun-clause-boards
returns-in_ok-watch-in-Initialized-Begun-clause-boards g c = λ stands. subst IsStanding (sym c.watch.ensures.editor) stands
