use Rattle.std.proofs.Common.{◌≡◌, Some, length, refl, slice_get}
use Rattle.std.proofs.lemmas.Option.{slice_get_read}
use Rattle.occ_usage_conflicts.proofs.Accumulation.{on_ok}
use Rattle.occ_usage_conflicts.proofs.Spreading.{fewer_spread, on_result, put_spread, stays_spread}
use Rattle.occ_usage_conflicts.proofs.accumulated.add_at.Goals as goal

pub returns-clause-spread : goal.returns-clause-spread
returns-clause-spread c spread =
    let lists = c.args.lists.now.items in
    let old = c.index_mut.result.now in
    let there : slice_get lists c.args.at ≡ Some old = slice_get_read lists (length lists) c.args.at old refl c.requires.within c.index_mut.ensures.value in
    on_result c.add.result (λ grown. stays_spread lists c.args.at old c.add.new.self c.args.part.now spread there c.requires.list grown)
    (λ lost. fewer_spread lists c.args.at old c.add.new.self spread there lost) c.add.ensures.ok c.add.ensures.err

pub returns-clause-meets : goal.returns-clause-meets
returns-clause-meets c =
    let lists = c.args.lists.now.items in
    let old = c.index_mut.result.now in
    let there : slice_get lists c.args.at ≡ Some old = slice_get_read lists (length lists) c.args.at old refl c.requires.within c.index_mut.ensures.value in
    on_ok c.add.result (λ grown q. put_spread lists c.args.at old c.add.new.self c.args.part.now there grown q) c.add.ensures.ok
