-- What a take and a finish leave where nothing happens between them.
use Rattle.std.proofs.Common.{◌≡◌, ◌∙◌, ◌++◌, Bool, not, cond, List, [], ◌∷◌, Option, Some, refl, ap}
use Rattle.occ_board.proofs.Trees.{inputs_are_one}
use Rattle.occ_board.specs.Machine.{Event, State, after, cached_after, finish_answer, handed_out, take_answer, unhanded, with_cached}
use Rattle.occ_board.specs.Same.{same_input}
use Rattle.occ_board.specs.declared.verdict.Verdict.{Verdict}
use Rattle.occ_board.specs.declared.verdict.Verdict.TheVariants as verdict
use Rattle.occ_check.specs.Input.{Input}

-- a job that is handed out last, and then no more
unhanded_last : (handed : List Input) (i : Input) → unhanded (handed ++ i ∷ []) i ≡ unhanded handed i
unhanded_last [] i = ap (λ (b : Bool). cond (not b) (i ∷ []) []) ((inputs_are_one i i).1 refl)
unhanded_last (j ∷ js) i = ap (λ (is : List Input). cond (not (same_input j i)) (j ∷ is) is) (unhanded_last js i)

pub worked_is : (s : State) (i : Input) → take_answer s ≡ Some i → finish_answer (after s Event.Take) i ≡ verdict.Accepted
    → after (after s Event.Take) (Event.Finish i) ≡ record { base = s.base; journal = s.journal; cached = with_cached s.cached i; handed = unhanded s.handed i }
worked_is s i taken accepted =
    ap (λ (v : Verdict). record { base = s.base; journal = s.journal; cached = cached_after v s.cached i; handed = unhanded (handed_out s.handed (take_answer s)) i }) accepted
    ∙ ap (λ (o : Option Input). record { base = s.base; journal = s.journal; cached = with_cached s.cached i; handed = unhanded (handed_out s.handed o) i }) taken
    ∙ ap (λ (is : List Input). record { base = s.base; journal = s.journal; cached = with_cached s.cached i; handed = is }) (unhanded_last s.handed i)
