use Rattle.std.proofs.Common.{◌∙◌, map, rules}
use Rattle.std.proofs.lemmas.List.{length-map}
use Rattle.occ_project.specs.Entries.{is_among}
use Rattle.occ_project_units.proofs.Lacking.{marking_more, marking_over}
use Rattle.occ_project_units.proofs.joining.users_among.Goals as goal
use Rattle.occ_project_units.specs.declared.facts.Facts.{Facts}

pub loop-index-preserved : goal.loop-index-preserved
loop-index-preserved c =
    marking_more (map (λ (f : Facts). is_among f.uses c.args.name) c.args.all.now) c.args.indices.now c.loop-index.marks c.mark_user.new.marks c.loop-index.index-index c.loop-index.invariant c.loop-index-test.true c.mark_user.ensures

pub mark_user-requires : goal.mark_user-requires
mark_user-requires c = c.loop-index.invariant.len ∙ length-map c.args.all.now (λ (f : Facts). is_among f.uses c.args.name)

pub returns : goal.returns
returns c = marking_over (map (λ (f : Facts). is_among f.uses c.args.name) c.args.all.now) c.args.indices.now c.loop-index.marks c.loop-index.index-index c.loop-index.invariant (search rules) c.requires
