use Rattle.std.proofs.Common.{◌≡◌, ◌∙◌, List, [], ap, get_or, rules, set, subst, ℕ}
use Rattle.occ_project_units.proofs.Renewed.{IsPutting, put_begun, put_more, put_over}
use Rattle.occ_project_units.proofs.renewing.put_all.Goals as goal
use Rattle.occ_project_units.specs.declared.facts.Facts.{Facts}

pub loop-known-init : goal.loop-known-init
loop-known-init c = put_begun c.args.project.now c.args.indices.now c.args.facts.now.items c.args.found c.requires.len c.requires.found c.requires.others

pub loop-known-preserved : goal.loop-known-preserved
loop-known-preserved c =
    put_more c.args.project.now c.args.indices.now c.loop-known.facts.items c.put_at.new.facts.items c.loop-known.found c.pop.new.self c.in-Some.known c.loop-known.invariant c.in-Some.ensures
    (c.put_at.ensures ∙ ap (λ (i : ℕ). set c.loop-known.facts.items (get_or c.args.indices.now i 0) c.in-Some.known) c.len.ensures)

pub returns : goal.returns
returns c =
    let empty : c.loop-known.found ≡ [] = search rules in
    put_over c.args.project.now c.args.indices.now c.loop-known.facts.items (subst (λ (xs : List Facts). IsPutting c.args.project.now c.args.indices.now c.loop-known.facts.items xs) empty c.loop-known.invariant)
