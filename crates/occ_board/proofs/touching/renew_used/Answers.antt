use Rattle.std.proofs.Common.{◌∙◌, Bool, List, ap, arith, subst, sym}
use Rattle.std.specs.Prelude.{remove}
use Rattle.occ_board.proofs.Counted.{insert_undone}
use Rattle.occ_board.proofs.Revisions.{reported_then}
use Rattle.occ_board.proofs.Untouched.{then_flags, then_long, then_placed, then_verified}
use Rattle.occ_board.proofs.touching.renew_used.Goals as goal
use Rattle.occ_board.specs.inside.Verified.{AreVerified}
use Rattle.occ_project.specs.declared.reads.Read.{Read}
use Rattle.occ_project_units.specs.Project.{IsProject}
use Rattle.occ_project_units.specs.Spelled.{AreSpelled}

pub insert-requires : goal.insert-requires
insert-requires c =
    let within = c.requires.gap.within in
    omega (arith, within, c.requires.len)

pub returns-in-Err-clause-err : goal.returns-in-Err-clause-err
returns-in-Err-clause-err c =
    let within = c.requires.gap.within in
    (c.in-Err.ensures.err, c.remove.ensures ∙ ap (λ (fs : List Bool). remove fs c.args.at) c.in_ok-insert.ensures.ok ∙ insert_undone c.args.flags.now c.args.at (omega (arith, within, c.requires.len)), c.in_ok-make_room.ensures)

pub settle_others-requires-clause-index : goal.settle_others-requires-clause-index
settle_others-requires-clause-index c =
    then_placed c.args.graph.now c.put.new.self (record { name = c.args.name; revision = c.args.revision; source = c.args.source }) c.args.at (subst IsProject c.project.ensures c.files-files.ensures.in_order) c.requires.gap c.in_default.ensures.ok
    c.args.cached.now c.put_law.ensures.files c.reads_law.ensures.alone

pub settle_others-requires-clause-spelled : goal.settle_others-requires-clause-spelled
settle_others-requires-clause-spelled c =
    subst AreSpelled (sym c.in_default.ensures.ok) (c.put_law.ensures.spelled c.args.graph.now (record { name = c.args.name; revision = c.args.revision; source = c.args.source }) c.requires.spelled c.spelled_law.ensures)

pub settle_others-requires-clause-len : goal.settle_others-requires-clause-len
settle_others-requires-clause-len c =
    then_long c.args.graph.now c.put.new.self (record { name = c.args.name; revision = c.args.revision; source = c.args.source }) c.args.at (subst IsProject c.project.ensures c.files-files.ensures.in_order) c.requires.gap c.in_default.ensures.ok
    c.args.cached.now c.put_law.ensures.files c.reads_law.ensures.alone c.args.flags.now c.insert.new.self c.requires.len c.in_ok-insert.ensures.ok

pub settle_others-requires-clause-flags : goal.settle_others-requires-clause-flags
settle_others-requires-clause-flags c =
    then_flags c.args.graph.now c.put.new.self (record { name = c.args.name; revision = c.args.revision; source = c.args.source }) c.args.at (subst IsProject c.project.ensures c.files-files.ensures.in_order) c.requires.gap c.in_default.ensures.ok
    c.args.cached.now c.put_law.ensures.files c.reads_law.ensures.alone c.apart_law.ensures.done c.put_law.ensures.in_order c.done_law.ensures.done c.args.flags.now c.insert.new.self c.requires.len c.requires.flags c.in_ok-insert.ensures.ok

pub settle_others-requires-clause-reported : goal.settle_others-requires-clause-reported
settle_others-requires-clause-reported c =
    let file : Read = record { name = c.args.name; revision = c.args.revision; source = c.args.source } in
    reported_then c.args.graph.now c.put.new.self file c.args.cached.now (c.put_law.ensures.files c.args.graph.now file) c.in_default.ensures.ok c.requires.reported c.requires.before

pub settle_others-requires-clause-verified : goal.settle_others-requires-clause-verified
settle_others-requires-clause-verified c =
    then_verified c.args.graph.now c.put.new.self (record { name = c.args.name; revision = c.args.revision; source = c.args.source }) c.args.at (subst IsProject c.project.ensures c.files-files.ensures.in_order) c.requires.gap c.in_default.ensures.ok
    c.args.cached.now c.put_law.ensures.files c.reads_law.ensures.alone c.apart_law.ensures.looked c.make_room.new.self c.verify_none_at.new.verified
    (subst (AreVerified c.args.graph.now c.args.cached.now) (sym c.in_ok-make_room.ensures) c.requires.verified) c.verify_none_at.ensures.known
