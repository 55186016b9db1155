use Rattle.std.proofs.Common.{arith, ap, length, length-append, [], ◌∷◌, ◌++◌, ◌+◌, ◌≡◌}
use Rattle.occ_scope.proofs.Alike.{note_more, notes_as_before}
use Rattle.occ_scope.proofs.meanings.Meanings.reach.Goals as goal

pub loop-self-preserved : goal.loop-self-preserved
loop-self-preserved c =
    let e : length c.push.new.self ≡ length (c.loop-self.self-inside.alike ++ c.len-itself.result ∷ []) = ap length c.in_ok-push.ensures.ok in
    let f : length (c.loop-self.self-inside.alike ++ c.len-itself.result ∷ []) ≡ length c.loop-self.self-inside.alike + 1 = length-append c.loop-self.self-inside.alike (c.len-itself.result ∷ []) in (
      c.loop-self.invariant.0,
      omega (arith, e, f, c.if-len.true, c.len-in-loop-self.ensures, c.len-in-loop-self-2.ensures),
      note_more c.loop-self.self-inside.meanings c.loop-self.self-inside.alike c.push.new.self c.len-itself.result c.len-itself.ensures c.in_ok-push.ensures.ok c.loop-self.invariant.2,
    )

pub invariant_of-self-in_err-push : goal.invariant_of-self-in_err-push
invariant_of-self-in_err-push c =
    notes_as_before c.loop-self.self-inside.meanings c.loop-self.self-inside.alike c.push.new.self c.in_err-push.ensures.err c.loop-self.invariant.1 c.loop-self.invariant.2
