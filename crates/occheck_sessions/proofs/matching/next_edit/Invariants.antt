use Rattle.std.proofs.Common.{◌≡◌, take}
use Rattle.occheck_sessions.specs.Sessions.{edits_of}
use Rattle.occheck_sessions.proofs.matching.next_edit.Given as goal

abbrev pub invariant-loop-place : goal.invariant-loop-place
invariant-loop-place l = edits_of l.session (take l.place l.entries) ≡ edits_of l.session (take l.last l.entries)
