use Rattle.std.proofs.Common.{◌≡◌, ◌∙◌, [], ap, sym}
use Rattle.occ_tree.specs.Faults.{shape_faults}
use Rattle.occ_tree.specs.Forest.{forest_of}
use Rattle.occ_tree.proofs.Lawful.{nested_shape}
use Rattle.occ_tree.proofs.unit.shape.Goals as goal

pub returns-clause-unit : goal.returns-clause-unit
returns-clause-unit c =
    let none : c.in_ok-faults.faults ≡ [] = c.is_empty.ensures.0 c.if-not-is_empty.false in
    let clean = ap shape_faults (sym c.as_slice.ensures) ∙ sym c.in_ok-faults.ensures ∙ none in
    nested_shape c.args.lines c.in_ok-roots.roots clean (ap forest_of c.in_ok-roots.ensures ∙ c.in_ok-nest.ensures)

pub returns-clause-nested : goal.returns-clause-nested
returns-clause-nested c = ap forest_of c.in_ok-roots.ensures ∙ c.in_ok-nest.ensures

pub returns-clause-clean : goal.returns-clause-clean
returns-clause-clean c =
    let none : c.in_ok-faults.faults ≡ [] = c.is_empty.ensures.0 c.if-not-is_empty.false in
    ap shape_faults (sym c.as_slice.ensures) ∙ sym c.in_ok-faults.ensures ∙ none
