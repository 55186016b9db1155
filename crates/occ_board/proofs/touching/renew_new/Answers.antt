use Rattle.std.proofs.Common.{◌∙◌, Bool, List, ap, arith, subst, sym}
use Rattle.std.specs.Prelude.{remove}
use Rattle.occ_board.specs.inside.Verified.{AreVerified}
use Rattle.occ_board.proofs.Looked.{verified_new}
use Rattle.occ_board.proofs.Counted.{insert_undone}
use Rattle.occ_board.proofs.Newly.{new_full, new_long, new_sound, new_unit}
use Rattle.occ_board.proofs.Revisions.{reported_then}
use Rattle.occ_board.proofs.Settled.{are_flags}
use Rattle.occ_board.proofs.touching.renew_new.Goals as goal
use Rattle.occ_project.specs.declared.reads.Read.{Read}
use Rattle.occ_project_units.specs.Project.{IsProject}

pub insert-requires : goal.insert-requires
insert-requires c =
    let within = c.requires.new.gap.within in
    omega (arith, within, c.requires.len)

pub returns-in-Err-clause-err : goal.returns-in-Err-clause-err
returns-in-Err-clause-err c =
    let within = c.requires.new.gap.within in
    (c.in-Err.ensures.err, c.remove.ensures ∙ ap (λ (fs : List Bool). remove fs c.args.index) c.in_ok-insert.ensures.ok ∙ insert_undone c.args.flags.now c.args.index (omega (arith, within, c.requires.len)), c.in_ok-make_room.ensures)

pub settle_from-requires-clause-len : goal.settle_from-requires-clause-len
settle_from-requires-clause-len c =
    new_long
    c.args.graph.now c.add.new.self (record { name = c.args.name; revision = c.args.revision; source = c.args.source }) c.args.index (subst IsProject c.project.ensures c.files-files.ensures.in_order) c.requires.new c.in_default.ensures.ok
    c.args.cached.now c.args.flags.now c.insert.new.self c.requires.len c.requires.flags c.in_ok-insert.ensures.ok
    c.requires.spelled c.names_law.ensures c.apart_law.ensures.done c.put_law.ensures.files c.put_law.ensures.in_order c.done_law.ensures.done

pub settle_from-requires-clause-sound : goal.settle_from-requires-clause-sound
settle_from-requires-clause-sound c =
    new_sound
    c.args.graph.now c.add.new.self (record { name = c.args.name; revision = c.args.revision; source = c.args.source }) c.args.index (subst IsProject c.project.ensures c.files-files.ensures.in_order) c.requires.new c.in_default.ensures.ok
    c.args.cached.now c.args.flags.now c.insert.new.self c.requires.len c.requires.flags c.in_ok-insert.ensures.ok
    c.requires.spelled c.names_law.ensures c.apart_law.ensures.done c.put_law.ensures.files c.put_law.ensures.in_order c.done_law.ensures.done

pub settle_from-requires-clause-full : goal.settle_from-requires-clause-full
settle_from-requires-clause-full c =
    new_full
    c.args.graph.now c.add.new.self (record { name = c.args.name; revision = c.args.revision; source = c.args.source }) c.args.index (subst IsProject c.project.ensures c.files-files.ensures.in_order) c.requires.new c.in_default.ensures.ok
    c.args.cached.now c.args.flags.now c.insert.new.self c.requires.len c.requires.flags c.in_ok-insert.ensures.ok
    c.requires.spelled c.names_law.ensures c.apart_law.ensures.done c.put_law.ensures.files c.put_law.ensures.in_order c.done_law.ensures.done

pub settle_from-requires-clause-reported : goal.settle_from-requires-clause-reported
settle_from-requires-clause-reported c =
    let file : Read = record { name = c.args.name; revision = c.args.revision; source = c.args.source } in
    reported_then c.args.graph.now c.add.new.self file c.args.cached.now (c.put_law.ensures.files c.args.graph.now file) c.in_default.ensures.ok c.requires.reported c.requires.before

pub settle_from-requires-clause-verified : goal.settle_from-requires-clause-verified
settle_from-requires-clause-verified c =
    verified_new c.args.graph.now c.add.new.self (record { name = c.args.name; revision = c.args.revision; source = c.args.source }) c.args.index c.args.cached.now c.make_room.new.self c.verify_none_at.new.verified (subst IsProject c.project.ensures c.files-files.ensures.in_order) c.requires.new c.in_default.ensures.ok
    c.requires.spelled c.names_law.ensures c.apart_law.ensures.looked (subst (AreVerified c.args.graph.now c.args.cached.now) (sym c.in_ok-make_room.ensures) c.requires.verified) c.verify_none_at.ensures.known

pub returns-else-not-is_unit-clause-len : goal.returns-else-not-is_unit-clause-len
returns-else-not-is_unit-clause-len c =
    new_long
    c.args.graph.now c.add.new.self (record { name = c.args.name; revision = c.args.revision; source = c.args.source }) c.args.index (subst IsProject c.project.ensures c.files-files.ensures.in_order) c.requires.new c.in_default.ensures.ok
    c.args.cached.now c.args.flags.now c.insert.new.self c.requires.len c.requires.flags c.in_ok-insert.ensures.ok
    c.requires.spelled c.names_law.ensures c.apart_law.ensures.done c.put_law.ensures.files c.put_law.ensures.in_order c.done_law.ensures.done

pub returns-else-not-is_unit-clause-flags : goal.returns-else-not-is_unit-clause-flags
returns-else-not-is_unit-clause-flags c =
    let file : Read = record { name = c.args.name; revision = c.args.revision; source = c.args.source } in
    let project : IsProject c.add.new.self = subst IsProject (sym c.in_default.ensures.ok) (c.put_law.ensures.in_order c.args.graph.now file (subst IsProject c.project.ensures c.files-files.ensures.in_order)) in
    let high = c.height_law.ensures c.add.new.self project in
    are_flags c.add.new.self c.args.cached.now (λ u. c.done_law.ensures.done c.add.new.self c.args.cached.now u project) c.insert.new.self high.0 high.1
    (new_sound
    c.args.graph.now c.add.new.self (record { name = c.args.name; revision = c.args.revision; source = c.args.source }) c.args.index (subst IsProject c.project.ensures c.files-files.ensures.in_order) c.requires.new c.in_default.ensures.ok
    c.args.cached.now c.args.flags.now c.insert.new.self c.requires.len c.requires.flags c.in_ok-insert.ensures.ok
    c.requires.spelled c.names_law.ensures c.apart_law.ensures.done c.put_law.ensures.files c.put_law.ensures.in_order c.done_law.ensures.done)
    (new_unit
    c.args.graph.now c.add.new.self (record { name = c.args.name; revision = c.args.revision; source = c.args.source }) c.args.index (subst IsProject c.project.ensures c.files-files.ensures.in_order) c.requires.new c.in_default.ensures.ok
    c.args.cached.now c.args.flags.now c.insert.new.self c.requires.len c.requires.flags c.in_ok-insert.ensures.ok
    c.requires.spelled c.names_law.ensures c.apart_law.ensures.done c.put_law.ensures.files c.put_law.ensures.in_order c.done_law.ensures.done
    (sym c.if-not-is_unit.ensures) c.requires.before)

pub returns-else-not-is_unit-clause-verified : goal.returns-else-not-is_unit-clause-verified
returns-else-not-is_unit-clause-verified c =
    verified_new c.args.graph.now c.add.new.self (record { name = c.args.name; revision = c.args.revision; source = c.args.source }) c.args.index c.args.cached.now c.make_room.new.self c.verify_none_at.new.verified (subst IsProject c.project.ensures c.files-files.ensures.in_order) c.requires.new c.in_default.ensures.ok
    c.requires.spelled c.names_law.ensures c.apart_law.ensures.looked (subst (AreVerified c.args.graph.now c.args.cached.now) (sym c.in_ok-make_room.ensures) c.requires.verified) c.verify_none_at.ensures.known
