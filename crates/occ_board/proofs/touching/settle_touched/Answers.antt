use Rattle.std.proofs.Common.{◌∙◌, ◌&&◌, Bool, List, ap, false, get_or, not, subst, ℕ}
use Rattle.occ_board.proofs.Untouched.{left_full, left_sound, left_verified}
use Rattle.occ_board.proofs.touching.settle_touched.Goals as goal
use Rattle.occ_project_graph.specs.Graph.{is_among}
use Rattle.occ_project_units.specs.Project.{IsProject}

pub resettle-requires-clause-sound : goal.resettle-requires-clause-sound
resettle-requires-clause-sound c =
    left_sound c.args.graph.now (subst IsProject c.project.ensures c.files-files.ensures.in_order) c.args.name c.args.index c.args.touched.now c.requires.index c.requires.readers c.args.flags.now c.requires.closed c.requires.here
    c.readers_law.ensures.readers c.requires.spelled c.names_law.ensures c.args.cached.now c.args.flags.now c.unflag-2.new.flags
    (λ p. c.unflag-2.ensures.flags p ∙ ap (λ (b : Bool). get_or c.args.flags.now p false && not b) (ap (λ (ws : List ℕ). is_among ws p) c.of_indices-indices.ensures ∙ c.indices.ensures p))
    c.requires.flags

pub resettle-requires-clause-full : goal.resettle-requires-clause-full
resettle-requires-clause-full c =
    let project : IsProject c.args.graph.now = subst IsProject c.project.ensures c.files-files.ensures.in_order in
    left_full c.args.graph.now project c.args.name c.args.index c.args.touched.now c.requires.index c.requires.readers c.args.flags.now c.requires.closed c.requires.here
    c.readers_law.ensures.readers c.requires.spelled c.names_law.ensures c.args.cached.now c.args.flags.now c.unflag-2.new.flags
    (λ p. c.unflag-2.ensures.flags p ∙ ap (λ (b : Bool). get_or c.args.flags.now p false && not b) (ap (λ (ws : List ℕ). is_among ws p) c.of_indices-indices.ensures ∙ c.indices.ensures p))
    c.requires.flags (λ u. c.done_law.ensures.done c.args.graph.now c.args.cached.now u project)

pub resettle-requires-clause-verified : goal.resettle-requires-clause-verified
resettle-requires-clause-verified c =
    left_verified c.args.graph.now (subst IsProject c.project.ensures c.files-files.ensures.in_order) c.args.name c.args.index c.args.touched.now c.requires.index c.requires.readers c.args.flags.now c.requires.closed c.requires.here
    c.readers_law.ensures.readers c.requires.spelled c.names_law.ensures c.args.cached.now c.args.verified.now c.unflag.new.flags
    (λ p. c.unflag.ensures.flags p ∙ ap (λ (b : Bool). get_or c.args.verified.now p false && not b) (ap (λ (ws : List ℕ). is_among ws p) c.of_indices-indices.ensures ∙ c.indices.ensures p))
    c.requires.verified
