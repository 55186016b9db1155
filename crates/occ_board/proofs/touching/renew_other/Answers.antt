use Rattle.std.proofs.Common.{◌∙◌, ◌&&◌, ◌≡◌, Bool, List, Some, ap, false, get_or, not, refl, subst, sym, ℕ}
use Rattle.occ_board.proofs.Looked.{one_index, verified_after}
use Rattle.occ_board.proofs.Marked.{full_at, long_at, looked_at, sound_at}
use Rattle.occ_board.proofs.Revisions.{reported_then}
use Rattle.occ_board.proofs.touching.renew_other.Goals as goal
use Rattle.occ_project_graph.specs.Graph.{is_among}
use Rattle.occ_project_units.proofs.Finding.{index_within}
use Rattle.occ_project_units.specs.Project.{IsProject}

pub touched_by-requires-clause-within : goal.touched_by-requires-clause-within
touched_by-requires-clause-within c = index_within c.args.file.name c.args.graph.now c.args.index c.requires.index

pub resettle-requires-clause-len : goal.resettle-requires-clause-len
resettle-requires-clause-len c =
    let project : IsProject c.args.graph.now = subst IsProject c.project.ensures c.files-files.ensures.in_order in
    c.unflag.ensures.len ∙ c.requires.len ∙ sym (long_at c.args.graph.now c.args.graph.now c.set.new.self c.args.file c.args.index project refl c.in_ok-alike.ensures.ok c.requires.index)

pub resettle-requires-clause-marks : goal.resettle-requires-clause-marks
resettle-requires-clause-marks c =
    let project : IsProject c.args.graph.now = subst IsProject c.project.ensures c.files-files.ensures.in_order in
    c.in_ok-touched.ensures.len ∙ sym (long_at c.args.graph.now c.args.graph.now c.set.new.self c.args.file c.args.index project refl c.in_ok-alike.ensures.ok c.requires.index)

pub resettle-requires-clause-sound : goal.resettle-requires-clause-sound
resettle-requires-clause-sound c =
    let project : IsProject c.args.graph.now = subst IsProject c.project.ensures c.files-files.ensures.in_order in
    sound_at c.args.graph.now c.args.graph.now c.set.new.self c.args.file c.args.index project refl c.in_ok-alike.ensures.ok c.requires.index
    c.args.cached.now c.args.readers.now c.args.readers.now c.in_ok-touched.touched c.args.flags.now c.unflag.new.flags
    c.requires.readers refl c.requires.flags c.in_ok-touched.ensures.here c.in_ok-touched.ensures.readers c.in_ok-touched.ensures.closed (λ p. c.unflag.ensures.flags p ∙ ap (λ (b : Bool). get_or c.args.flags.now p false && not b) (ap (λ (ws : List ℕ). is_among ws p) c.of_indices.ensures ∙ c.indices.ensures p))
    c.readers_law.ensures.readers c.requires.spelled c.names_law.ensures c.apart_law.ensures.done c.put_law.ensures.files c.put_law.ensures.in_order c.done_law.ensures.done

pub resettle-requires-clause-full : goal.resettle-requires-clause-full
resettle-requires-clause-full c =
    let project : IsProject c.args.graph.now = subst IsProject c.project.ensures c.files-files.ensures.in_order in
    full_at c.args.graph.now c.args.graph.now c.set.new.self c.args.file c.args.index project refl c.in_ok-alike.ensures.ok c.requires.index
    c.args.cached.now c.args.readers.now c.args.readers.now c.in_ok-touched.touched c.args.flags.now c.unflag.new.flags
    c.requires.readers refl c.requires.flags c.in_ok-touched.ensures.here c.in_ok-touched.ensures.readers c.in_ok-touched.ensures.closed (λ p. c.unflag.ensures.flags p ∙ ap (λ (b : Bool). get_or c.args.flags.now p false && not b) (ap (λ (ws : List ℕ). is_among ws p) c.of_indices.ensures ∙ c.indices.ensures p))
    c.readers_law.ensures.readers c.requires.spelled c.names_law.ensures c.apart_law.ensures.done c.put_law.ensures.files c.put_law.ensures.in_order c.done_law.ensures.done

pub resettle-requires-clause-reported : goal.resettle-requires-clause-reported
resettle-requires-clause-reported c =
    reported_then c.args.graph.now c.set.new.self c.args.file c.args.cached.now (c.put_law.ensures.files c.args.graph.now c.args.file) c.in_ok-alike.ensures.ok c.requires.reported c.requires.before

pub resettle-requires-clause-verified : goal.resettle-requires-clause-verified
resettle-requires-clause-verified c =
    let project : IsProject c.args.graph.now = subst IsProject c.project.ensures c.files-files.ensures.in_order in
    verified_after c.args.graph.now c.args.graph.now c.set.new.self c.args.file c.args.index c.args.cached.now c.args.verified.now c.forget_readers.new.verified c.args.readers.now c.args.readers.now c.in_ok-touched.touched c.in_ok-alike.alike project refl c.in_ok-alike.ensures.ok c.requires.index
    c.requires.readers refl c.requires.verified c.in_ok-alike.ensures.alike c.forget_readers.ensures
    (λ v p e none. looked_at c.args.graph.now c.args.graph.now c.set.new.self c.args.file c.args.index project refl c.in_ok-alike.ensures.ok c.requires.index
    c.args.cached.now c.args.readers.now c.args.readers.now c.in_ok-touched.touched c.args.flags.now c.unflag.new.flags
    c.requires.readers refl c.requires.flags c.in_ok-touched.ensures.here c.in_ok-touched.ensures.readers c.in_ok-touched.ensures.closed (λ p. c.unflag.ensures.flags p ∙ ap (λ (b : Bool). get_or c.args.flags.now p false && not b) (ap (λ (ws : List ℕ). is_among ws p) c.of_indices.ensures ∙ c.indices.ensures p))
    c.readers_law.ensures.readers c.requires.spelled c.names_law.ensures c.apart_law.ensures.done c.put_law.ensures.files c.put_law.ensures.in_order c.done_law.ensures.done c.apart_law.ensures.looked v
    (λ q f. let is : Some p ≡ Some q = sym e ∙ f in subst (λ (x : ℕ). get_or c.in_ok-touched.touched x false ≡ false) (one_index p q is) none))
    c.put_law.ensures.files c.reads_law.ensures.alone c.readers_law.ensures.readers
