use Rattle.std.proofs.Common.{◌∙◌, List, ℕ, ap, length, map, subst, sym}
use Rattle.occ_project.specs.declared.reads.Read.{Read}
use Rattle.occ_project_units.specs.Project.{file_of}
use Rattle.occ_project_units.proofs.Leading.{led_graph, still_reading}
use Rattle.occ_project_units.proofs.Renewed.{after_long, after_others, after_within, back_is, back_placed, still_long}
use Rattle.occ_project_graph.specs.Graph.{Graph, IsWhole}
use Rattle.occ_project_units.proofs.Edges.{graph_long, whole}
use Rattle.occ_project_units.specs.Along.{name_at}
use Rattle.occ_project_units.specs.inside.Keeping.{IsLed, facts_of}
use Rattle.occ_project_units.proofs.renewing.renew_leading.Goals as goal

pub lead_facts-requires-clause-within : goal.lead_facts-requires-clause-within
lead_facts-requires-clause-within c = after_within c.sources_law.ensures c.args.project.now c.replace.new.self c.args.file c.args.index c.requires.project c.replace.ensures c.requires.index c.args.readers.now c.requires.readers

pub lead_facts-requires-clause-len : goal.lead_facts-requires-clause-len
lead_facts-requires-clause-len c = after_long c.sources_law.ensures c.args.project.now c.replace.new.self c.args.file c.args.index c.requires.project c.replace.ensures c.requires.index c.args.readers.now c.requires.readers c.args.facts.now.items c.requires.facts

pub lead_facts-requires-clause-others : goal.lead_facts-requires-clause-others
lead_facts-requires-clause-others c = after_others c.sources_law.ensures c.args.project.now c.replace.new.self c.args.file c.args.index c.requires.project c.replace.ensures c.requires.index c.args.readers.now c.requires.readers c.args.facts.now.items c.requires.facts

pub returns-in-Ok-true-clause-readers : goal.returns-in-Ok-true-clause-readers
returns-in-Ok-true-clause-readers c = λ _. still_reading c.sources_law.ensures c.args.project.now c.replace.new.self c.args.file c.args.index c.requires.project c.replace.ensures c.requires.index c.args.readers.now c.requires.readers

pub replace-requires-in-Ok-false : goal.replace-requires-in-Ok-false
replace-requires-in-Ok-false c = back_placed c.args.project.now c.replace.new.self c.args.file c.in_ok-before.before c.args.index c.requires.project c.requires.index c.replace.ensures (c.in_ok-before.ensures ∙ ap (λ (f : Read). file_of c.args.project.now f.name) c.get.ensures)

pub replace-requires-in-Err : goal.replace-requires-in-Err
replace-requires-in-Err c = back_placed c.args.project.now c.replace.new.self c.args.file c.in_ok-before.before c.args.index c.requires.project c.requires.index c.replace.ensures (c.in_ok-before.ensures ∙ ap (λ (f : Read). file_of c.args.project.now f.name) c.get.ensures)

pub lead_facts-requires-clause-links : goal.lead_facts-requires-clause-links
lead_facts-requires-clause-links c =
    ap (length {A = List ℕ}) c.requires.links ∙ graph_long c.args.project.now ∙ sym (still_long c.args.project.now c.replace.new.self c.args.file c.args.index c.requires.project c.replace.ensures c.requires.index)

pub returns-in-Ok-true-clause-done : goal.returns-in-Ok-true-clause-done
returns-in-Ok-true-clause-done c = λ _. (
  c.replace.ensures,
  (
    c.in-Ok-true.ensures.facts c.in-Ok-true.field-0-test,
    led_graph c.sources_law.ensures c.args.project.now c.replace.new.self c.args.file c.args.index c.requires.project c.replace.ensures c.requires.index c.args.readers.now c.requires.readers c.args.facts.now.items c.requires.facts c.lead_facts.new.links
        (subst (λ (g : Graph). IsLed c.replace.new.self c.args.facts.now.items c.args.readers.now (map (λ (p : ℕ). facts_of c.replace.new.self (name_at c.replace.new.self p)) c.args.readers.now) g c.lead_facts.new.links) c.requires.links (c.in-Ok-true.ensures.led c.in-Ok-true.field-0-test)),
  ),
)

pub returns-in-Ok-false-clause-other : goal.returns-in-Ok-false-clause-other
returns-in-Ok-false-clause-other c = λ _. (
  back_is c.args.project.now c.replace.new.self c.replace-in-Ok-false.new.self c.args.file c.in_ok-before.before c.args.index c.requires.project c.requires.index c.replace.ensures (c.in_ok-before.ensures ∙ ap (λ (f : Read). file_of c.args.project.now f.name) c.get.ensures) c.replace-in-Ok-false.ensures,
  c.in-Ok-false.ensures.other c.in-Ok-false.field-0-test,
)

pub returns-in-Err-clause-err : goal.returns-in-Err-clause-err
returns-in-Err-clause-err c = (
  back_is c.args.project.now c.replace.new.self c.replace-in-Err.new.self c.args.file c.in_ok-before.before c.args.index c.requires.project c.requires.index c.replace.ensures (c.in_ok-before.ensures ∙ ap (λ (f : Read). file_of c.args.project.now f.name) c.get.ensures) c.replace-in-Err.ensures,
  c.in-Err.ensures.err,
)

pub lead_facts-requires-clause-whole : goal.lead_facts-requires-clause-whole
lead_facts-requires-clause-whole c = subst IsWhole (sym c.requires.links) (whole c.args.project.now)
