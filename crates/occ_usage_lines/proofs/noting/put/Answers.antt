use Rattle.std.proofs.Common.{◌≡◌, ℕ, Some, length, refl, slice_get}
use Rattle.std.proofs.lemmas.Option.{slice_get_read}
use Rattle.occ_usage_lines.proofs.Listing.{pushed_kept, pushed_noted, set_kept}
use Rattle.occ_usage_lines.proofs.noting.put.Goals as goal

pub returns-clause-kept : goal.returns-clause-kept
returns-clause-kept c list n e =
    let lists = c.args.lists.now.items in
    let there : slice_get lists c.args.list ≡ Some c.index_mut.result.now
    = slice_get_read lists (length lists) c.args.list c.index_mut.result.now refl c.requires c.index_mut.ensures.value in
    set_kept (λ (k : ℕ). Unit {0}) lists c.args.list c.index_mut.result.now c.push.new.self there
    (pushed_kept c.push.result c.index_mut.result.now c.push.new.self c.args.number c.push.ensures.ok c.push.ensures.err) list n tt e

pub returns-clause-noted : goal.returns-clause-noted
returns-clause-noted c =
    let lists = c.args.lists.now.items in
    let there : slice_get lists c.args.list ≡ Some c.index_mut.result.now
    = slice_get_read lists (length lists) c.args.list c.index_mut.result.now refl c.requires c.index_mut.ensures.value in
    pushed_noted c.push.result lists c.args.list c.index_mut.result.now c.push.new.self c.args.number there c.push.ensures.ok
