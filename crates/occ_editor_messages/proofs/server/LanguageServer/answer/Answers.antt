use Rattle.std.proofs.Common.{subst, sym}
use Rattle.occ_editor.specs.Standing.{IsStanding}
use Rattle.occ_editor_messages.proofs.server.LanguageServer.answer.Goals as goal

pub returns-in_ok-answer-in-Hover-Begun-clause-boards : goal.returns-in_ok-answer-in-Hover-Begun-clause-boards
returns-in_ok-answer-in-Hover-Begun-clause-boards g c = λ stands. c.in_ok-publish-in-Hover-Begun.ensures.stands stands

pub returns-in_ok-answer_plain-in_default-clause-boards : goal.returns-in_ok-answer_plain-in_default-clause-boards
returns-in_ok-answer_plain-in_default-clause-boards g c = λ stands. subst IsStanding (sym c.in_ok-answer_plain-in_default.ensures.editor) stands
