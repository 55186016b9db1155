use Rattle.std.proofs.Common.{◌≡◌, ◌∙◌, ap, subst, sym}
use Rattle.occ_project.specs.Reads.{lines_in, listed_in}
use Rattle.occ_project.specs.declared.reads.Read.{Read}
use Rattle.occ_project_units.specs.Project.{file_of}
use Rattle.occ_project_units.proofs.Renewed.{alike_renewed, all_known, after_long, after_others, after_renewed, back_is, back_placed, after_within}
use Rattle.occ_project_units.proofs.renewing.renew.Goals as goal
use Rattle.occ_project_units.specs.inside.Keeping.{IsRenewed}

pub renew_facts-requires-clause-within : goal.renew_facts-requires-clause-within
renew_facts-requires-clause-within c = after_within c.sources_law.ensures c.args.project.now c.replace-2.new.self c.args.file c.args.index c.requires.project c.replace-2.ensures c.requires.index c.args.readers.now c.requires.readers

pub renew_facts-requires-clause-len : goal.renew_facts-requires-clause-len
renew_facts-requires-clause-len c = after_long c.sources_law.ensures c.args.project.now c.replace-2.new.self c.args.file c.args.index c.requires.project c.replace-2.ensures c.requires.index c.args.readers.now c.requires.readers c.args.facts.now.items c.requires.facts

pub renew_facts-requires-clause-others : goal.renew_facts-requires-clause-others
renew_facts-requires-clause-others c = after_others c.sources_law.ensures c.args.project.now c.replace-2.new.self c.args.file c.args.index c.requires.project c.replace-2.ensures c.requires.index c.args.readers.now c.requires.readers c.args.facts.now.items c.requires.facts

pub returns-in-Ok-true-clause-done : goal.returns-in-Ok-true-clause-done
returns-in-Ok-true-clause-done c = λ _. (
  subst (IsRenewed c.args.project.now) c.replace-2.ensures (after_renewed c.sources_law.ensures c.args.project.now c.replace-2.new.self c.args.file c.args.index c.requires.project c.replace-2.ensures c.requires.index c.args.readers.now c.requires.readers c.args.facts.now.items c.requires.facts (c.in-Ok-true.ensures.same c.in-Ok-true.field-0-test)),
  (c.replace-2.ensures, c.in-Ok-true.ensures.facts c.in-Ok-true.field-0-test),
)

pub replace-requires-in-Ok-false : goal.replace-requires-in-Ok-false
replace-requires-in-Ok-false c = back_placed c.args.project.now c.replace-2.new.self c.args.file c.in_ok-before.before c.args.index c.requires.project c.requires.index c.replace-2.ensures (c.in_ok-before.ensures ∙ ap (λ (f : Read). file_of c.args.project.now f.name) c.get.ensures)

pub replace-requires-in-Err : goal.replace-requires-in-Err
replace-requires-in-Err c = back_placed c.args.project.now c.replace-2.new.self c.args.file c.in_ok-before.before c.args.index c.requires.project c.requires.index c.replace-2.ensures (c.in_ok-before.ensures ∙ ap (λ (f : Read). file_of c.args.project.now f.name) c.get.ensures)

pub returns-in-Ok-false-clause-other : goal.returns-in-Ok-false-clause-other
returns-in-Ok-false-clause-other c = λ _. (
  back_is c.args.project.now c.replace-2.new.self c.replace-in-Ok-false.new.self c.args.file c.in_ok-before.before c.args.index c.requires.project c.requires.index c.replace-2.ensures (c.in_ok-before.ensures ∙ ap (λ (f : Read). file_of c.args.project.now f.name) c.get.ensures) c.replace-in-Ok-false.ensures,
  c.in-Ok-false.ensures.other c.in-Ok-false.field-0-test,
)

pub returns-in-Err-clause-err : goal.returns-in-Err-clause-err
returns-in-Err-clause-err c = (
  back_is c.args.project.now c.replace-2.new.self c.replace-in-Err.new.self c.args.file c.in_ok-before.before c.args.index c.requires.project c.requires.index c.replace-2.ensures (c.in_ok-before.ensures ∙ ap (λ (f : Read). file_of c.args.project.now f.name) c.get.ensures) c.replace-in-Err.ensures,
  c.in-Err.ensures.err,
)

pub returns-then-is_alike-clause-done : goal.returns-then-is_alike-clause-done
returns-then-is_alike-clause-done c = λ _.
    let was : file_of c.args.project.now c.args.file.name ≡ c.get-2.result.now = sym (c.get-2.ensures ∙ c.in_ok-before.ensures ∙ ap (λ (f : Read). file_of c.args.project.now f.name) c.get.ensures) in
    let lines : lines_in (file_of c.args.project.now c.args.file.name) ≡ lines_in c.args.file = ap lines_in was ∙ c.is_alike.ensures.lines c.if-is_alike.true ∙ ap lines_in c.get-3.ensures in
    let units : listed_in (file_of c.args.project.now c.args.file.name) ≡ listed_in c.args.file = ap listed_in was ∙ c.is_alike.ensures.listed c.if-is_alike.true ∙ ap listed_in c.get-3.ensures in (
      subst (IsRenewed c.args.project.now) c.replace.ensures (alike_renewed c.args.project.now c.replace.new.self c.args.file c.args.index c.requires.project c.replace.ensures c.requires.index lines units c.sources_law.ensures),
      (c.replace.ensures, all_known c.args.project.now c.replace.new.self c.args.file c.args.index c.requires.project c.replace.ensures c.requires.index lines units c.args.facts.now.items c.requires.facts),
    )
