use Rattle.std.proofs.Common.{◌∙◌, ◌≡◌, ◌<◌, ◌⊎◌, ℕ, List, Bool, ap, arith, length, subst, sym, true}
use Rattle.std.proofs.lemmas.Bool.{eqb-true}
use Rattle.std.proofs.lemmas.List.{length-set}
use Rattle.occ_board.proofs.Looked.{set_verified}
use Rattle.occ_board.proofs.Settled.{set_sound}
use Rattle.occ_board.proofs.Spread.{set_full}
use Rattle.occ_board.proofs.Waits.{same_flags, stays_set}
use Rattle.occ_board.proofs.flags.settle_done.Goals as goal
use Rattle.occ_board.specs.inside.Flagged.{IsFullAt, IsSound}
use Rattle.occ_board.specs.inside.Verified.{AreVerified}
use Rattle.occ_project_graph.specs.Graph.{is_among}
use Rattle.occ_project_units.specs.Along.{name_at}
use Rattle.occ_project_units.specs.Indices.{users_at}
use Rattle.occ_project_units.specs.Project.{IsProject}

pub settle_among-requires-clause-within : goal.settle_among-requires-clause-within
settle_among-requires-clause-within c = λ p h. c.users_law.ensures.within c.args.graph.now p c.args.index (subst (λ (ws : List ℕ). is_among ws p ≡ true) c.users.ensures h)

pub settle_among-requires-clause-sound : goal.settle_among-requires-clause-sound
settle_among-requires-clause-sound c = subst (IsSound c.args.graph.now c.args.cached.now) (sym c.set.ensures) (set_sound c.args.graph.now c.args.cached.now c.args.flags.now c.args.index c.requires.sound c.requires.done)

pub settle_among-requires-clause-full : goal.settle_among-requires-clause-full
settle_among-requires-clause-full c = λ p lt.
    let project : IsProject c.args.graph.now = subst IsProject c.project.ensures c.files-files.ensures.in_order in
    let within : c.args.index < length c.args.flags.now = let long = c.requires.len in let less = c.requires.within in omega (arith, long, less) in
    subst (λ (ws : List ℕ). IsFullAt c.args.graph.now c.args.cached.now c.set.new.self p ⊎ (is_among ws p ≡ true)) (sym c.users.ensures)
    (subst (λ (fs : List Bool). IsFullAt c.args.graph.now c.args.cached.now fs p ⊎ (is_among (users_at c.args.graph.now c.args.index) p ≡ true)) (sym c.set.ensures)
    (set_full c.args.graph.now c.args.cached.now project (c.users_law.ensures.rests c.args.graph.now) c.args.flags.now c.args.index p lt within (c.requires.full p lt)))

pub returns-clause-alone : goal.returns-clause-alone
returns-clause-alone c = λ h.
    let project : IsProject c.args.graph.now = subst IsProject c.project.ensures c.files-files.ensures.in_order in
    let sound : IsSound c.args.graph.now c.args.cached.now c.set.new.self = subst (IsSound c.args.graph.now c.args.cached.now) (sym c.set.ensures) (set_sound c.args.graph.now c.args.cached.now c.args.flags.now c.args.index c.requires.sound c.requires.done) in
    let long : length c.set.new.self ≡ length c.args.graph.now = ap (length {A = Bool}) c.set.ensures ∙ length-set c.args.flags.now c.args.index true ∙ c.requires.len in
    same_flags c.set.new.self c.settle_among.new.flags (long ∙ sym c.settle_among.ensures.len)
    (stays_set c.args.graph.now c.args.cached.now project c.set.new.self c.settle_among.new.flags long sound c.settle_among.ensures.flags)
    (sym c.count.ensures ∙ eqb-true c.count.result c.count-count.result h ∙ c.count-count.ensures)
    ∙ c.set.ensures

pub settle_among-requires-clause-verified : goal.settle_among-requires-clause-verified
settle_among-requires-clause-verified c =
    let project : IsProject c.args.graph.now = subst IsProject c.project.ensures c.files-files.ensures.in_order in
    subst (AreVerified c.args.graph.now c.args.cached.now) (sym c.set-2.ensures)
    (set_verified c.args.graph.now c.args.cached.now c.args.verified.now c.args.index c.requires.verified (c.verified_law.ensures.done c.args.graph.now c.args.cached.now (name_at c.args.graph.now c.args.index) project c.requires.done))
