use Rattle.std.proofs.Common.{rules, ◌≡◌, ◌<◌, ◌≤◌, refl, length, Some, None, slice_get}
use Rattle.std.proofs.lemmas.Option.{slice_get_past, slice_get_read}
use Rattle.occ_usage_conflicts.specs.inside.Accumulating.{Adds}
use Rattle.occ_usage_conflicts.proofs.Accumulation.{added_in, added_nowhere, set_length}
use Rattle.occ_usage_conflicts.proofs.accumulate.add_use.Goals as goal

pub returns-in_ok-add : goal.returns-in_ok-add
returns-in_ok-add c =
    let within : c.args.one.now.part.root < length c.args.table.now.items = search rules in
    let at : slice_get c.args.table.now.items c.args.one.now.part.root ≡ Some c.in-Some.root.now
    = slice_get_read c.args.table.now.items (length c.args.table.now.items) c.args.one.now.part.root c.in-Some.root.now refl within c.in-Some.ensures.value in
    let adds : Adds c.args.one.now.kind c.args.one.now.part.selectors c.in-Some.root.now c.add.new.self = search rules in (
      set_length c.args.table.now.items c.args.one.now.part.root c.add.new.self,
      λ reported accumulated h. added_in c.args.table.now.items c.in-Some.root.now c.add.new.self reported accumulated c.args.one.now at adds h,
    )

pub returns-in_default : goal.returns-in_default
returns-in_default c =
    let past : length c.args.table.now.items ≤ c.args.one.now.part.root = search rules in
    let at : slice_get c.args.table.now.items c.args.one.now.part.root ≡ None = slice_get_past c.args.table.now.items c.args.one.now.part.root past in
    (refl, λ reported accumulated h. added_nowhere c.args.table.now.items reported accumulated c.args.one.now at h)
