use Rattle.std.proofs.Common.{◌≡◌, ◌+◌, ◌++◌, ℕ, List, map, None, length, sym, subst, arith}
use Rattle.occheck_commands.specs.Script.{script_of}
use Rattle.occheck_sessions.specs.Output.{first_fault}
use Rattle.occheck_sessions.specs.inside.Unread.{IsFault}
use Rattle.occheck_sessions.proofs.Readers.{Known, fault_first, fault_later, fine_more, if_err, if_ok, says_more}
use Rattle.occheck_sessions.proofs.reading.+read_after.Goals as goal

pub returns-in-Err-clause-fault : goal.returns-in-Err-clause-fault
returns-in-Err-clause-fault g depth c = λ bytes known.
    let n : c.len.result ≡ length c.args.before.items = omega (arith, c.len.ensures, c.args.before.ok.0) in
    subst (λ (i : ℕ). IsFault (first_fault (i + 1) (map script_of bytes)) c.in-Err.why) n
    (fault_first g.R.ByteIn.unread c.args.readers.now c.in-Some.reader.now c.in-Some.readers.now (c.len.result + 1) c.in-Err.why c.in-Some.ensures.cases.0 c.in-Err.ensures.fault bytes known)

pub returns-in_ok-push-in-Some-clause-says : goal.returns-in_ok-push-in-Some-clause-says
returns-in_ok-push-in-Some-clause-says g depth c =
    if_ok (λ all. (bytes : List (List ℕ)) → Known g.R.ByteIn.unread c.in-Some.readers.now bytes → all.items ≡ c.push.new.self.items ++ map script_of bytes)
    (λ all. (bytes : List (List ℕ)) → Known g.R.ByteIn.unread c.args.readers.now bytes → all.items ≡ c.args.before.items ++ map script_of bytes) c.read_after.result
    (λ all h. says_more g.R.ByteIn.unread c.args.readers.now c.in-Some.reader.now c.in-Some.readers.now c.args.before.items c.push.new.self.items all.items c.in-Ok.script c.in-Some.ensures.cases.0 c.in_ok-push-in-Some.ensures.items c.in-Ok.ensures.says h)
    c.read_after.ensures.says

pub returns-in_ok-push-in-Some-clause-fine : goal.returns-in_ok-push-in-Some-clause-fine
returns-in_ok-push-in-Some-clause-fine g depth c = λ fine.
    c.read_after.ensures.fine (subst (λ xs. first_fault 1 xs ≡ None) (sym c.in_ok-push-in-Some.ensures.items) (fine_more 1 c.args.before.items c.in-Ok.script c.in-Ok.ensures.fine fine))

pub returns-in_ok-push-in-Some-clause-fault : goal.returns-in_ok-push-in-Some-clause-fault
returns-in_ok-push-in-Some-clause-fault g depth c =
    if_err (λ why. (bytes : List (List ℕ)) → Known g.R.ByteIn.unread c.in-Some.readers.now bytes → IsFault (first_fault (length c.push.new.self.items + 1) (map script_of bytes)) why)
    (λ why. (bytes : List (List ℕ)) → Known g.R.ByteIn.unread c.args.readers.now bytes → IsFault (first_fault (length c.args.before.items + 1) (map script_of bytes)) why) c.read_after.result
    (λ why h. fault_later g.R.ByteIn.unread c.args.readers.now c.in-Some.reader.now c.in-Some.readers.now c.args.before.items c.push.new.self.items c.in-Ok.script why c.in-Some.ensures.cases.0 c.in_ok-push-in-Some.ensures.items c.in-Ok.ensures.fine c.in-Ok.ensures.says h)
    c.read_after.ensures.fault
