use Rattle.std.proofs.Common.{◌≡◌, ◌∙◌, ap, ◌<◌, ◌+◌, ◌++◌, ◌∷◌, [], ℕ, List, arith, length, map, slice_index_or, take}
use Rattle.std.proofs.lemmas.Grind.{common_steps}
use Rattle.std.specs.Option.{option_copied}
use Rattle.occ_project.specs.declared.reads.Read.{Read}
use Rattle.occ_project_units.proofs.Sharing.{still_known_facts}
use Rattle.occ_project_units.proofs.following.all_facts_after.Goals as goal
use Rattle.occ_project_units.specs.declared.facts.Facts.{Facts}
use Rattle.occ_project_units.specs.inside.Keeping.{facts_of}

pub facts_now-requires : goal.facts_now-requires
facts_now-requires c =
    still_known_facts c.args.files.now c.args.project.now (option_copied c.still_known-known.result) c.get.result.now.name c.args.edited c.requires.others c.still_known-known.ensures.known c.still_known-known.ensures.apart

-- what is known of one file more
one_more : (project files : List Read) (all later : List Facts) (i : ℕ) (file : Read) (known : Facts) → files ≡ project → i < length files → file ≡ slice_index_or files i file → all ≡ map (λ f. facts_of project f.name) (take i project) → known ≡ facts_of project file.name → later ≡ all ++ known ∷ [] → later ≡ map (λ f. facts_of project f.name) (take (i + 1) project)
one_more project files all later i file known e lt is before now then = grind (arith, common_steps, e, lt, is, before, now, then)

pub loop-index-preserved : goal.loop-index-preserved
loop-index-preserved c =
    one_more c.args.project.now c.files-file-items.result.now c.loop-index.all.items c.push.new.self.items c.loop-index.index c.file-item.result c.in_ok-facts_now.field-0 c.files-file-items.ensures.files c.loop-index-test.true c.file-item.is c.loop-index.invariant (c.in_ok-facts_now.ensures ∙ ap (λ (f : Read). facts_of c.args.project.now f.name) c.get.ensures) c.in_ok-push.ensures.items
