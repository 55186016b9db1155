use Rattle.std.proofs.Common.{◌∙◌, ◌&&◌, Bool, List, ap, false, get_or, inl, not, refl, subst, sym, true, ℕ}
use Rattle.occ_board.proofs.Alikes.{alike_full, alike_long, alike_looked, alike_ready, alike_sound}
use Rattle.occ_board.proofs.Looked.{verified_after}
use Rattle.occ_board.proofs.Marked.{left_by}
use Rattle.occ_board.proofs.Revisions.{reported_then}
use Rattle.occ_board.proofs.touching.renew_alike.Goals as goal
use Rattle.occ_project_graph.specs.Graph.{is_among}
use Rattle.occ_project_units.proofs.Finding.{index_within}
use Rattle.occ_project_units.specs.Project.{IsProject}

pub touched_by-requires-clause-within : goal.touched_by-requires-clause-within
touched_by-requires-clause-within c = index_within c.args.file.now.name c.args.graph.now c.args.index c.requires.index

pub resettle_waiting-requires-clause-len : goal.resettle_waiting-requires-clause-len
resettle_waiting-requires-clause-len c =
    let project : IsProject c.args.graph.now = subst IsProject c.project.ensures c.files-files.ensures.in_order in
    c.unflag-2.ensures.len ∙ c.requires.len ∙ sym (alike_long c.args.graph.now c.set_alike.new.self c.args.file.now c.args.index project (c.in_ok-set_alike.ensures.ok c.if-not-branch.false) c.requires.index (c.in_ok-set_alike.ensures.alike c.if-not-branch.false)
    c.args.cached.now c.args.readers.now c.in_ok-touched.touched c.args.flags.now c.unflag-2.new.flags c.requires.flags c.requires.readers c.in_ok-touched.ensures.readers
    c.in_ok-touched.ensures.closed
    (λ p. c.unflag-2.ensures.flags p ∙ ap (λ (b : Bool). get_or c.args.flags.now p false && not b) (ap (λ (ws : List ℕ). is_among ws p) c.of_indices-2.ensures ∙ c.indices.ensures p))
    c.readers_law.ensures.readers c.put_law.ensures.files c.put_law.ensures.in_order c.reads_law.ensures.alone c.done_law.ensures.done c.verified_law.ensures.looked c.height_law.ensures)

pub resettle_waiting-requires-clause-marks : goal.resettle_waiting-requires-clause-marks
resettle_waiting-requires-clause-marks c =
    let project : IsProject c.args.graph.now = subst IsProject c.project.ensures c.files-files.ensures.in_order in
    c.in_ok-touched.ensures.len ∙ sym (alike_long c.args.graph.now c.set_alike.new.self c.args.file.now c.args.index project (c.in_ok-set_alike.ensures.ok c.if-not-branch.false) c.requires.index (c.in_ok-set_alike.ensures.alike c.if-not-branch.false)
    c.args.cached.now c.args.readers.now c.in_ok-touched.touched c.args.flags.now c.unflag-2.new.flags c.requires.flags c.requires.readers c.in_ok-touched.ensures.readers
    c.in_ok-touched.ensures.closed
    (λ p. c.unflag-2.ensures.flags p ∙ ap (λ (b : Bool). get_or c.args.flags.now p false && not b) (ap (λ (ws : List ℕ). is_among ws p) c.of_indices-2.ensures ∙ c.indices.ensures p))
    c.readers_law.ensures.readers c.put_law.ensures.files c.put_law.ensures.in_order c.reads_law.ensures.alone c.done_law.ensures.done c.verified_law.ensures.looked c.height_law.ensures)

pub resettle_waiting-requires-clause-sound : goal.resettle_waiting-requires-clause-sound
resettle_waiting-requires-clause-sound c =
    let project : IsProject c.args.graph.now = subst IsProject c.project.ensures c.files-files.ensures.in_order in
    alike_sound c.args.graph.now c.set_alike.new.self c.args.file.now c.args.index project (c.in_ok-set_alike.ensures.ok c.if-not-branch.false) c.requires.index (c.in_ok-set_alike.ensures.alike c.if-not-branch.false)
    c.args.cached.now c.args.readers.now c.in_ok-touched.touched c.args.flags.now c.unflag-2.new.flags c.requires.flags c.requires.readers c.in_ok-touched.ensures.readers
    c.in_ok-touched.ensures.closed
    (λ p. c.unflag-2.ensures.flags p ∙ ap (λ (b : Bool). get_or c.args.flags.now p false && not b) (ap (λ (ws : List ℕ). is_among ws p) c.of_indices-2.ensures ∙ c.indices.ensures p))
    c.readers_law.ensures.readers c.put_law.ensures.files c.put_law.ensures.in_order c.reads_law.ensures.alone c.done_law.ensures.done c.verified_law.ensures.looked c.height_law.ensures

pub resettle_waiting-requires-clause-full : goal.resettle_waiting-requires-clause-full
resettle_waiting-requires-clause-full c =
    let project : IsProject c.args.graph.now = subst IsProject c.project.ensures c.files-files.ensures.in_order in
    alike_full c.args.graph.now c.set_alike.new.self c.args.file.now c.args.index project (c.in_ok-set_alike.ensures.ok c.if-not-branch.false) c.requires.index (c.in_ok-set_alike.ensures.alike c.if-not-branch.false)
    c.args.cached.now c.args.readers.now c.in_ok-touched.touched c.args.flags.now c.unflag-2.new.flags c.requires.flags c.requires.readers c.in_ok-touched.ensures.readers
    c.in_ok-touched.ensures.closed
    (λ p. c.unflag-2.ensures.flags p ∙ ap (λ (b : Bool). get_or c.args.flags.now p false && not b) (ap (λ (ws : List ℕ). is_among ws p) c.of_indices-2.ensures ∙ c.indices.ensures p))
    c.readers_law.ensures.readers c.put_law.ensures.files c.put_law.ensures.in_order c.reads_law.ensures.alone c.done_law.ensures.done c.verified_law.ensures.looked c.height_law.ensures

pub resettle_waiting-requires-clause-reported : goal.resettle_waiting-requires-clause-reported
resettle_waiting-requires-clause-reported c =
    reported_then c.args.graph.now c.set_alike.new.self c.args.file.now c.args.cached.now (c.put_law.ensures.files c.args.graph.now c.args.file.now) (c.in_ok-set_alike.ensures.ok c.if-not-branch.false) c.requires.reported c.requires.before

pub resettle_waiting-requires-clause-verified : goal.resettle_waiting-requires-clause-verified
resettle_waiting-requires-clause-verified c =
    let project : IsProject c.args.graph.now = subst IsProject c.project.ensures c.files-files.ensures.in_order in
    verified_after c.args.graph.now c.args.graph.now c.set_alike.new.self c.args.file.now c.args.index c.args.cached.now c.args.verified.now c.unflag.new.flags c.args.readers.now c.args.readers.now c.in_ok-touched.touched true project refl (c.in_ok-set_alike.ensures.ok c.if-not-branch.false) c.requires.index
    c.requires.readers refl c.requires.verified (λ _. c.in_ok-set_alike.ensures.alike c.if-not-branch.false)
    (λ p h. let parts = left_by (get_or c.args.verified.now p false) (is_among c.args.readers.now p) (sym (c.unflag.ensures.flags p ∙ ap (λ (ws : List ℕ). get_or c.args.verified.now p false && not (is_among ws p)) c.of_indices.ensures) ∙ h) in (parts.0, inl (refl, parts.1)))
    (alike_looked c.args.graph.now c.set_alike.new.self c.args.file.now c.args.index project (c.in_ok-set_alike.ensures.ok c.if-not-branch.false) c.requires.index (c.in_ok-set_alike.ensures.alike c.if-not-branch.false)
    c.args.cached.now c.args.readers.now c.in_ok-touched.touched c.args.flags.now c.unflag-2.new.flags c.requires.flags c.requires.readers c.in_ok-touched.ensures.readers
    c.in_ok-touched.ensures.closed
    (λ p. c.unflag-2.ensures.flags p ∙ ap (λ (b : Bool). get_or c.args.flags.now p false && not b) (ap (λ (ws : List ℕ). is_among ws p) c.of_indices-2.ensures ∙ c.indices.ensures p))
    c.readers_law.ensures.readers c.put_law.ensures.files c.put_law.ensures.in_order c.reads_law.ensures.alone c.done_law.ensures.done c.verified_law.ensures.looked c.height_law.ensures)
    c.put_law.ensures.files c.reads_law.ensures.alone c.readers_law.ensures.readers

pub resettle_waiting-requires-clause-awaited : goal.resettle_waiting-requires-clause-awaited
resettle_waiting-requires-clause-awaited c = λ p file lt e none ready.
    let project : IsProject c.args.graph.now = subst IsProject c.project.ensures c.files-files.ensures.in_order in
    let before =
    alike_ready c.args.graph.now c.set_alike.new.self c.args.file.now c.args.index project (c.in_ok-set_alike.ensures.ok c.if-not-branch.false) c.requires.index (c.in_ok-set_alike.ensures.alike c.if-not-branch.false)
    c.args.cached.now c.args.readers.now c.in_ok-touched.touched c.args.flags.now c.unflag-2.new.flags c.requires.flags c.requires.readers c.in_ok-touched.ensures.readers
    c.in_ok-touched.ensures.closed
    (λ p. c.unflag-2.ensures.flags p ∙ ap (λ (b : Bool). get_or c.args.flags.now p false && not b) (ap (λ (ws : List ℕ). is_among ws p) c.of_indices-2.ensures ∙ c.indices.ensures p))
    c.readers_law.ensures.readers c.put_law.ensures.files c.put_law.ensures.in_order c.reads_law.ensures.alone c.done_law.ensures.done c.verified_law.ensures.looked c.height_law.ensures
    c.in_ok-touched.ensures.here p file e none ready
    in
    c.requires.awaited p file lt before.0 before.1
