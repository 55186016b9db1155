use Rattle.std.proofs.Common.{◌≡◌, take}
use Rattle.occheck_sessions.proofs.matching.is_front.Given as goal

abbrev pub invariant-loop-place : goal.invariant-loop-place
invariant-loop-place l = take l.place l.entries ≡ take l.place l.front
