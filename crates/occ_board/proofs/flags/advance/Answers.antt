use Rattle.std.proofs.Common.{ap, sym, refl, subst, arith, false, get_or, List, Bool, ◌∙◌, ◌≡◌, ◌<◌, length}
use Rattle.occ_board.proofs.Looked.{set_verified}
use Rattle.occ_board.proofs.Settled.{set_fewer, set_sound}
use Rattle.occ_board.proofs.flags.advance.Goals as goal
use Rattle.occ_board.specs.inside.Flagged.{flag_of, unflagged}
use Rattle.occ_board.specs.inside.Verified.{AreVerified}
use Rattle.occ_project_units.specs.Along.{name_at}
use Rattle.occ_project_units.specs.Project.{IsProject}

pub returns-clause-sound : goal.returns-clause-sound
returns-clause-sound c = λ u h.
    set_sound c.args.graph.now c.args.cached.now c.args.flags.now c.args.index c.requires.sound (c.if-not-is_done_by.ensures.done refl) u (ap (λ (fs : List Bool). flag_of c.args.graph.now fs u) (sym c.set.ensures) ∙ h)

pub returns-clause-fewer : goal.returns-clause-fewer
returns-clause-fewer c = λ h.
    let lt : c.args.index < length c.args.flags.now = omega (arith, c.requires.len, c.requires.within) in
    let none : get_or c.args.flags.now c.args.index false ≡ false = ap (λ (fs : List Bool). get_or fs c.args.index false) (sym c.as_slice.ensures) ∙ sym c.if-is_flagged.ensures in
    subst (λ (fs : List Bool). unflagged fs < unflagged c.args.flags.now) (sym c.set.ensures) (set_fewer c.args.flags.now c.args.index lt none)

pub returns-clause-verified : goal.returns-clause-verified
returns-clause-verified c =
    let project : IsProject c.args.graph.now = subst IsProject c.project.ensures c.files-files.ensures.in_order in
    subst (AreVerified c.args.graph.now c.args.cached.now) (sym c.set-2.ensures)
    (set_verified c.args.graph.now c.args.cached.now c.args.verified.now c.args.index c.requires.verified (c.verified_law.ensures.done c.args.graph.now c.args.cached.now (name_at c.args.graph.now c.args.index) project (c.if-not-is_done_by.ensures.done refl)))
