-- A board that works once takes the next job and finishes it, if there is one.
use Rattle.std.specs.Prelude.{◌≡◌, Bool, true, false, IfOk, OnOk, Option, Some, None, Result, Ok, Err, refl}
use Rattle.std.specs.Option.{is_some}
use Rattle.occ_board.specs.Machine.{State, after}
use Rattle.occ_board.specs.Machine.Event.{Finish, Take}
use Rattle.occ_board.specs.Rules.{Input}
use Rattle.occheck_script.specs.inside.Seen.{IsNext}

by_answer : (was : Bool) (o : Option Input) (s t : State) → was ≡ is_some o → ((i : Input) → o ≡ Some i → t ≡ after (after s Take) (Finish i)) → (o ≡ None → t ≡ s) → IsNext was o s t
by_answer true (Some i) s t e some none = some i refl
by_answer true None s t e some none = absurd cc
by_answer false (Some i) s t e some none = absurd cc
by_answer false None s t e some none = none refl

pub worked_once : {E : Type 0} (r : Result Bool E) (o : Option Input) (s t : State) → IfOk r (λ was. was ≡ is_some o) → ((i : Input) → o ≡ Some i → OnOk r (t ≡ after (after s Take) (Finish i))) → (o ≡ None → OnOk r (t ≡ s)) → IfOk r (λ was. IsNext was o s t)
worked_once (Ok was) o s t e some none = by_answer was o s t e some none
worked_once (Err refused) o s t e some none = tt
