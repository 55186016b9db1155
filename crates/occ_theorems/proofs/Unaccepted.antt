-- What an edit leaves.
use Rattle.std.proofs.Common.{◌≡◌, List, length, refl, ap}
use Rattle.occ_board.specs.Done.{pending_units}
use Rattle.occ_board.specs.Machine.{Event, State, after, files_of, finish_answer, cached_after, pending_answer}
use Rattle.occ_board.specs.declared.verdict.Verdict.{Verdict}
use Rattle.occ_board.specs.declared.verdict.Verdict.TheVariants as verdict
use Rattle.occ_check.specs.Input.{Input}

-- an outcome that is not accepted is not kept
cached_by : (v : Verdict) (cached : List Input) (i : Input) → (v ≡ verdict.Accepted → ⊥) → cached_after v cached i ≡ cached
cached_by verdict.Accepted cached i h = absurd (h refl)
cached_by verdict.Repeated cached i h = refl
cached_by (verdict.Stale name) cached i h = refl
cached_by (verdict.Foreign name) cached i h = refl

pub cached_unless : (s : State) (i : Input) → (finish_answer s i ≡ verdict.Accepted → ⊥) → pending_answer (after s (Event.Finish i)) ≡ pending_answer s
cached_unless s i h = ap (λ (cached : List Input). length (pending_units (files_of s) cached)) (cached_by (finish_answer s i) s.cached i h)
