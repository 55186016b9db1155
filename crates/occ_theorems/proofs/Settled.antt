-- A board settles after as many jobs as units are pending.
use Rattle.std.proofs.Common.{◌≡◌, ◌↔◌, ◌∙◌, ◌++◌, ◌<◌, ◌≤◌, ℕ, zero, suc, Bool, true, false, cond, not, List, [], ◌∷◌, Option, Some, None, refl, ap, arith}
use Rattle.std.specs.Option.{is_some}
use Rattle.occ_board.specs.Done.{NoneIsHanded, is_input_among}
use Rattle.occ_board.specs.Journal.{IsBase}
use Rattle.occ_board.specs.Machine.{State, after, files_of, handed_out, pending_answer, take_answer, unhanded}
use Rattle.occ_board.specs.Machine.Event.{Finish, Take}
use Rattle.occ_board.specs.Same.{same_input}
use Rattle.occ_board.specs.Rules.{Input, input}
use Rattle.occheck_script.specs.Settling.{Settles, settled_in, with_next}
use Rattle.occ_project_units.specs.Spelled.{AreSpelled}

module _ (fewer : (s : State) (i : Input) → IsBase s.base → take_answer s ≡ Some i → pending_answer (after (after s Take) (Finish i)) < pending_answer s)
    (none : (s : State) → pending_answer s ≡ 0 → take_answer s ≡ None) where
  pub settles_in : (n : ℕ) (s : State) → IsBase s.base → pending_answer s ≤ n → Settles s (settled_in n s)
  settles_in zero s based le = Settles.rests s (none s (let z : pending_answer s ≡ 0 = omega (arith, le) in z))
  settles_in (suc n) s based le = by (take_answer s) refl (settles_in n) where
    by : (o : Option Input) → take_answer s ≡ o → ((t : State) → IsBase t.base → pending_answer t ≤ n → Settles t (settled_in n t)) → Settles s (with_next (settled_in n) s o)
    by None e rest = Settles.rests s e
    by (Some i) e rest =
        let less : pending_answer (after (after s Take) (Finish i)) < pending_answer s = fewer s i based e in
        Settles.goes_on s (settled_in n (after (after s Take) (Finish i))) i e (rest (after (after s Take) (Finish i)) based (omega (arith, le, less)))

  module _ (same : (i j : Input) → (same_input i j ≡ true) ↔ (i ≡ j))
      (ready : (s : State) → IsBase s.base → AreSpelled (files_of s) → 0 < pending_answer s → NoneIsHanded (files_of s) s.cached s.handed → is_some (take_answer s) ≡ true) where
    -- with nothing handed out there is a job while a unit is pending
    no_job : (s : State) → IsBase s.base → AreSpelled (files_of s) → s.handed ≡ [] → take_answer s ≡ None → (n : ℕ) → pending_answer s ≡ n → n ≡ 0
    no_job s based spelled nothing none zero e = refl
    no_job s based spelled nothing none (suc n) e =
        let some : 0 < pending_answer s = omega (arith, e) in
        let given : is_some (take_answer s) ≡ true = ready s based spelled some (λ u a. ap (λ (is : List Input). is_input_among is (input (files_of s) u)) nothing) in
        let not_given : is_some (take_answer s) ≡ false = ap (λ (o : Option Input). is_some o) none in
        absurd (cc (given, not_given))

    -- and what is taken and finished is handed out no more
    still_none : (handed : List Input) (o : Option Input) (i : Input) → handed ≡ [] → o ≡ Some i → unhanded (handed_out handed o) i ≡ []
    still_none handed o i e taken =
        ap (λ (p : Option Input). unhanded (handed_out handed p) i) taken
        ∙ ap (λ (is : List Input). unhanded (is ++ i ∷ []) i) e
        ∙ ap (λ (b : Bool). cond (not b) (i ∷ []) []) ((same i i).1 refl)

    pub none_left : (n : ℕ) (s : State) → IsBase s.base → pending_answer s ≤ n → AreSpelled (files_of s) → s.handed ≡ [] → pending_answer (settled_in n s) ≡ 0
    none_left zero s based le spelled nothing = let z : pending_answer s ≡ 0 = omega (arith, le) in z
    none_left (suc n) s based le spelled nothing = by (take_answer s) refl (none_left n) where
      by : (o : Option Input) → take_answer s ≡ o → ((t : State) → IsBase t.base → pending_answer t ≤ n → AreSpelled (files_of t) → t.handed ≡ [] → pending_answer (settled_in n t) ≡ 0) → pending_answer (with_next (settled_in n) s o) ≡ 0
      by None e rest = no_job s based spelled nothing e (pending_answer s) refl
      by (Some i) e rest =
          let less : pending_answer (after (after s Take) (Finish i)) < pending_answer s = fewer s i based e in
          rest (after (after s Take) (Finish i)) based (omega (arith, le, less)) spelled (still_none s.handed (take_answer s) i nothing e)
