use Rattle.std.proofs.Common.{refl, sym}
use Rattle.occ_editor_edits.proofs.calls.range_of.Goals as goal

pub returns-in_err-to : goal.returns-in_err-to
returns-in_err-to c = rw (c.from_residual-in_err-to.ensures, sym c.place.ensures, c.in_ok-from.was, sym c.place-2.ensures, c.in_err-to.was) refl
