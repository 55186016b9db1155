use Rattle.std.proofs.Common.{◌≡◌, ◌∙◌, ◌-◌, ◌<◌, ◌≤◌, ◌++◌, List, ap, arith, drop, false, length, length-append, length-drop, length-take, nat_lt, refl, subst, sym, take, ℕ}
use Rattle.std.proofs.lemmas.List.{take-append-le}
use Rattle.occheck_script.specs.Devices.{Gives, counted}
use Rattle.occheck_script.proofs.Talking.{given_length, nothing_comes, talk_begins, talk_cut_off, talk_ends, talk_fails, talk_goes_on, talk_stops, too_many_come}
use Rattle.occheck_script.proofs.run.run_script.Goals as goal

pub loop-room-init : goal.loop-room-init
loop-room-init g c = record {
  begun = c.new-begun.ensures.begun;
  lacks = omega (arith, c.new-begun.ensures.lacks);
  piece = refl;
  line = omega (arith, c.new-begun.ensures.line, ap (λ (x : List ℕ). length x) c.new-begun.ensures.bytes);
  reader = c.requires.reader;
  writer = c.requires.writer;
  talk = talk_begins _ _ _ _ _ _ c.new-begun.ensures.bytes c.new-begun.ensures.line c.new-desk.ensures;
}

pub returns-in_default-clause-reported : goal.returns-in_default-clause-reported
returns-in_default-clause-reported g c = talk_fails _ _ _ _ _ _ _ _ _ _ c.loop-room.invariant.talk

pub returns-in_default-clause-answered : goal.returns-in_default-clause-answered
returns-in_default-clause-answered g c = λ f.
    talk_cut_off _ _ _ _ _ _ _ c.loop-room.begun.lacks _ _ _ _ c.loop-room.invariant.talk c.in_default.ensures.none_taken c.loop-room.invariant.begun.lacking c.loop-room.invariant.lacks

pub returns-then-count-eq0-clause-reported : goal.returns-then-count-eq0-clause-reported
returns-then-count-eq0-clause-reported g c =
    talk_ends _ _ _ _ _ _ _ _ _ _ _ false _ c.loop-room.invariant.talk
    (λ rest e. nothing_comes c.loop-room.room rest (c.in-Ok.ensures.end c.if-count-eq0.true (omega (arith, length-take c.min-asked.result c.loop-room.piece, c.loop-room.invariant.piece, c.min-asked.ensures)) rest e)) c.end.ensures.reported

pub returns-in-Err-clause-reported : goal.returns-in-Err-clause-reported
returns-in-Err-clause-reported g c =
    let few : c.in-Ok.count ≤ length c.read.new.buffer = omega (arith, c.in-Ok.ensures.count, c.read.auto.buffer) in
    let is : take c.in-Ok.count (c.read.new.buffer ++ drop c.min-asked.result c.loop-room.piece) ≡ take c.in-Ok.count c.read.new.buffer = take-append-le c.in-Ok.count c.read.new.buffer (drop c.min-asked.result c.loop-room.piece) few in
    let size : length (take c.in-Ok.count (c.read.new.buffer ++ drop c.min-asked.result c.loop-room.piece)) ≡ c.in-Ok.count = omega (arith, ap (λ (x : List ℕ). length x) is, length-take c.in-Ok.count c.read.new.buffer) in
    let fits : c.in-Ok.count ≤ c.loop-room.room = omega (arith, c.in-Ok.ensures.count, length-take c.min-asked.result c.loop-room.piece, c.min-asked.ensures) in
    let given : Gives (g.R.ByteIn.unread c.loop-room.reader) (g.R.ByteIn.unread c.read.new.self) (take c.in-Ok.count (c.read.new.buffer ++ drop c.min-asked.result c.loop-room.piece)) =
    subst (λ (x : List ℕ). Gives (g.R.ByteIn.unread c.loop-room.reader) (g.R.ByteIn.unread c.read.new.self) x) (sym is) c.in-Ok.ensures.bytes in
    talk_stops _ _ (g.R.ByteIn.unread c.read.new.self) _ _ _ _ _ (take c.in-Ok.count (c.read.new.buffer ++ drop c.min-asked.result c.loop-room.piece)) _ _ _ _ _ c.loop-room.invariant.talk given (omega arith) c.in-Err.ensures.stops

pub loop-room-preserved : goal.loop-room-preserved
loop-room-preserved g c =
    let few : c.in-Ok.count ≤ length c.read.new.buffer = omega (arith, c.in-Ok.ensures.count, c.read.auto.buffer) in
    let is : take c.in-Ok.count (c.read.new.buffer ++ drop c.min-asked.result c.loop-room.piece) ≡ take c.in-Ok.count c.read.new.buffer = take-append-le c.in-Ok.count c.read.new.buffer (drop c.min-asked.result c.loop-room.piece) few in
    let size : length (take c.in-Ok.count (c.read.new.buffer ++ drop c.min-asked.result c.loop-room.piece)) ≡ c.in-Ok.count = omega (arith, ap (λ (x : List ℕ). length x) is, length-take c.in-Ok.count c.read.new.buffer) in
    let fits : c.in-Ok.count ≤ c.loop-room.room = omega (arith, c.in-Ok.ensures.count, length-take c.min-asked.result c.loop-room.piece, c.min-asked.ensures) in
    let given : Gives (g.R.ByteIn.unread c.loop-room.reader) (g.R.ByteIn.unread c.read.new.self) (take c.in-Ok.count (c.read.new.buffer ++ drop c.min-asked.result c.loop-room.piece)) =
    subst (λ (x : List ℕ). Gives (g.R.ByteIn.unread c.loop-room.reader) (g.R.ByteIn.unread c.read.new.self) x) (sym is) c.in-Ok.ensures.bytes in
    record {
      begun = c.in_default-go_on.ensures.begun;
      lacks = c.in_default-go_on.ensures.lacks;
      piece = omega (arith, length-append c.read.new.buffer (drop c.min-asked.result c.loop-room.piece), length-drop c.min-asked.result c.loop-room.piece, length-take c.min-asked.result c.loop-room.piece, c.read.auto.buffer, c.loop-room.invariant.piece, c.min-asked.ensures);
      line = omega (arith, c.in_default-go_on.ensures.line, c.loop-room.invariant.line);
      reader = c.in-Ok.ensures.fine ∙ c.loop-room.invariant.reader;
      writer = c.in_default-go_on.ensures.fine;
      talk = talk_goes_on _ _ (g.R.ByteIn.unread c.read.new.self) _ _ (g.R.ByteIn.taken c.read.new.self) _ (c.loop-room.room - c.in-Ok.count) _ _ (take c.in-Ok.count (c.read.new.buffer ++ drop c.min-asked.result c.loop-room.piece)) _ _ _ _ _ _ _ c.loop-room.invariant.talk given (c.in-Ok.ensures.taken ∙ ap (λ (x : ℕ). counted (g.R.ByteIn.taken c.loop-room.reader) x) (sym size)) (omega arith) c.in_default-go_on.ensures.goes_on;
    }

pub returns-in-Ok-read-clause-reported : goal.returns-in-Ok-read-clause-reported
returns-in-Ok-read-clause-reported g c =
    let none : c.loop-room.room ≡ 0 = omega arith in
    let some : 0 < length (take 1 c.loop-room.piece) = omega (arith, length-take 1 c.loop-room.piece, c.loop-room.invariant.piece) in
    let few : c.in-Ok-read.count ≤ length c.read-2.new.buffer = omega (arith, c.in-Ok-read.ensures.count, c.read-2.auto.buffer) in
    talk_ends _ _ _ _ _ _ _ _ _ _ _ (nat_lt 0 c.in-Ok-read.count) _ c.loop-room.invariant.talk
    (λ rest e.
    let k = c.in-Ok-read.ensures.bytes rest e in
    too_many_come c.loop-room.room c.in-Ok-read.count rest none (λ z. c.in-Ok-read.ensures.end z some rest e) (given_length c.in-Ok-read.count c.read-2.new.buffer rest k.0 few k.1)) c.end-in-Ok-read.ensures.reported

pub returns-in-Err-read-clause-reported : goal.returns-in-Err-read-clause-reported
returns-in-Err-read-clause-reported g c = talk_fails _ _ _ _ _ _ _ _ _ _ c.loop-room.invariant.talk

pub returns-in-Err-read-clause-answered : goal.returns-in-Err-read-clause-answered
returns-in-Err-read-clause-answered g c = λ f.
    talk_cut_off _ _ _ _ _ _ _ c.loop-room.begun.lacks _ _ _ _ c.loop-room.invariant.talk c.in-Err-read.ensures.none_taken c.loop-room.invariant.begun.lacking c.loop-room.invariant.lacks
