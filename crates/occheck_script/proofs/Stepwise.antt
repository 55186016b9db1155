-- The board job by job.
use Rattle.std.proofs.Common.{◌≡◌, ◌∙◌, ℕ, zero, suc, Bool, true, false, Option, Some, None, refl, ap, sym, subst}
use Rattle.occ_board.specs.Machine.{State, take_answer}
use Rattle.occ_board.specs.Rules.{Input}
use Rattle.occheck_script.specs.Settling.{settled_in, with_next}
use Rattle.occheck_script.specs.inside.Seen.{IsNext}

one_less : (jobs : ℕ) (s t : State) (next : Option Input) → take_answer s ≡ next → IsNext true next s t → settled_in (suc jobs) s ≡ settled_in jobs t
one_less jobs s t (Some i) e h = ap (λ (o : Option Input). with_next (settled_in jobs) s o) e ∙ ap (settled_in jobs) (sym h)
one_less jobs s t None e h = absurd h

-- there was a job: one less is left
pub one_done : (n jobs : ℕ) (s t : State) (was_one : Bool) → n ≡ suc jobs → was_one ≡ true → IsNext was_one (take_answer s) s t → settled_in n s ≡ settled_in jobs t
one_done n jobs s t was_one e b h =
    ap (λ (m : ℕ). settled_in m s) e ∙ one_less jobs s t (take_answer s) refl (subst (λ (x : Bool). IsNext x (take_answer s) s t) b h)

-- there was none: this is it
pub no_more : (jobs : ℕ) (s t : State) (next : Option Input) → take_answer s ≡ next → IsNext false next s t → settled_in jobs s ≡ t
no_more zero s t (Some i) e h = absurd h
no_more (suc jobs) s t (Some i) e h = absurd h
no_more zero s t None e h = sym h
no_more (suc jobs) s t None e h = ap (λ (o : Option Input). with_next (settled_in jobs) s o) e ∙ sym h
