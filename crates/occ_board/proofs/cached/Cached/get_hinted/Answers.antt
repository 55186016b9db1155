use Rattle.std.proofs.Common.{Bor, IfSome, List, None, Option, Some, ap, sym, ◌∙◌, ◌≡◌}
use Rattle.std.specs.List.{slice_get}
use Rattle.std.specs.Option.{option_and_then, option_copied}
use Rattle.occ_board.proofs.Caches.{cached_there}
use Rattle.occ_board.proofs.cached.Cached.get_hinted.Goals as goal
use Rattle.occ_check.specs.Input.{Input}

seen : (found : Option (Bor Input)) (known : Option Input) → option_copied found ≡ known → IfSome found (λ outcome. known ≡ Some outcome.now)
seen None known h = tt
seen (Some outcome) known h = sym h

pub returns : goal.returns
returns c =
    seen c.at.result _ (
    c.at.ensures
    ∙ ap (λ (is : List Input). slice_get is c.in_ok-index.index) (c.as_slice.ensures.value ∙ c.self.view_is)
    ∙ ap (option_and_then (slice_get c.args.self.now)) (sym c.in_ok-index.ensures)
    ∙ cached_there c.args.self.now c.args.unit)
