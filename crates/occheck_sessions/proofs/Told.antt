-- What was told beside some edits stands beside more of them.
use Rattle.std.proofs.Common.{◌≡◌, ◌≤◌, ◌∙◌, ℕ, zero, suc, List, [], ◌∷◌, Some, length, take, slice_get, ap, sym, subst, arith}
use Rattle.std.proofs.lemmas.List.{take-take}
use Rattle.std.proofs.lemmas.List.Elements.{All-head, All-tail, All-weaker}
use Rattle.std.specs.List.{All}
use Rattle.occ_board.specs.Journal.{nothing}
use Rattle.occ_board.specs.declared.entry.Entry.{Entry}
use Rattle.occ_server.specs.Snapshots.{IsSnapshot}
use Rattle.occheck_sessions.specs.Sessions.{IsReportAnswer, edits_of}
use Rattle.occheck_sessions.specs.declared.talk.Said.{Said}
use Rattle.occheck_sessions.specs.declared.talk.Said.TheVariants as said
use Rattle.occheck_sessions.specs.declared.talk.Told.{Told}
use Rattle.occheck_sessions.specs.inside.Told.{IsTold}
use Rattle.occheck_sessions.proofs.Edits.{made_before}

first_of : (es fs : List Entry) (n : ℕ) → n ≤ length es → take (length es) fs ≡ es → take n es ≡ take n fs
first_of es fs n h f = ap (λ (xs : List Entry). take n xs) (sym f) ∙ take-take n (length es) fs h

told_beside : (es fs : List Entry) (s : Said) → length es ≤ length fs → take (length es) fs ≡ es → IsTold es s → IsTold fs s
told_beside es fs said.Edited l f t = tt
told_beside es fs said.Wrong l f t = tt
told_beside es fs (said.Refused fault) l f t = tt
told_beside es fs said.Settled l f t = tt
told_beside es fs (said.Reported told) l f t =
    (t.0, omega (arith, l, t.1), subst (λ (xs : List Entry). IsSnapshot nothing xs t.0) (first_of es fs told.seen t.1 f) t.2, t.3)

-- where these edits are the first of those, all that was told beside these stands beside those
pub all_beside : (es fs : List Entry) (xs : List Said) → length es ≤ length fs → take (length es) fs ≡ es → All (IsTold es) xs → All (IsTold fs) xs
all_beside es fs xs l f a = All-weaker (IsTold es) (IsTold fs) (λ s t. told_beside es fs s l f t) xs a

pub told_at : (es : List Entry) (xs : List Said) (n : ℕ) (s : Said) → All (IsTold es) xs → slice_get xs n ≡ Some s → IsTold es s
told_at es [] n s a e = absurd cc
told_at es (x ∷ xs) zero s a e = let i : x ≡ s = cc in subst (IsTold es) i (All-head (IsTold es) x xs a)
told_at es (x ∷ xs) (suc n) s a e = told_at es xs n s (All-tail (IsTold es) x xs a) e

-- a report that has seen the session's last edit is its answer
pub report_is : (es : List Entry) (k last : ℕ) (s : Said) (told : Told) → s ≡ said.Reported told → IsTold es s → last ≤ told.seen → IsReportAnswer es k (edits_of k (take last es)) told.text.items
report_is es k last s told e h l =
    let t : IsTold es (said.Reported told) = subst (IsTold es) e h in
    (told.seen, t.0, t.1, made_before k last told.seen es l, t.2, t.3)
