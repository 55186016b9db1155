use Rattle.std.proofs.Common.{◌∙◌, ap, sym, true, false}
use Rattle.occ_scope.specs.inside.Kept.{names_of, standing}
use Rattle.occ_scope.proofs.Stacked.{got_none, got_same}
use Rattle.occ_scope.proofs.mapped.standing.Goals as goal

pub returns-in_err-entry : goal.returns-in_err-entry
returns-in_err-entry c =
    let es = c.args.entries.now in
    let none = got_none es c.args.name.now c.in_ok-place.place c.in_err-entry.ensures.value in
    c.from_residual-in_err-entry.ensures ∙ sym (ap (standing (names_of es) c.args.name.now) c.in_ok-place.was ∙ none)

pub returns-then-eq : goal.returns-then-eq
returns-then-eq c =
    let es = c.args.entries.now in
    let same = got_same es c.args.name.now c.in_ok-place.place c.in_ok-entry.entry.now c.in_ok-entry.ensures.value true c.if-eq.ensures in
    sym (ap (standing (names_of es) c.args.name.now) c.in_ok-place.was ∙ same)

pub returns-else-eq : goal.returns-else-eq
returns-else-eq c =
    let es = c.args.entries.now in
    let other = got_same es c.args.name.now c.in_ok-place.place c.in_ok-entry.entry.now c.in_ok-entry.ensures.value false c.if-eq.ensures in
    sym (ap (standing (names_of es) c.args.name.now) c.in_ok-place.was ∙ other)
