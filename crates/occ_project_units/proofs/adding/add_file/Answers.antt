use Rattle.std.proofs.Common.{◌≡◌, ◌∙◌, List, ℕ, ap, arith, length, subst, sym}
use Rattle.std.proofs.lemmas.List.{length-map}
use Rattle.std.specs.List.{insert, remove}
use Rattle.occ_project_graph.specs.Adding.{with_node}
use Rattle.occ_project_graph.specs.Graph.{Graph}
use Rattle.occ_project.specs.declared.reads.Read.{Read}
use Rattle.occ_project_units.proofs.Added.{facts_then, graph_then, name_new, put_back, put_long}
use Rattle.occ_project_units.proofs.Edges.{graph_long}
use Rattle.occ_project_units.proofs.adding.add_file.Goals as goal
use Rattle.occ_project_units.specs.Along.{name_at}
use Rattle.occ_project_units.specs.Indices.{graph_of, indices_of}
use Rattle.occ_project_units.specs.Project.{IsProject, put}
use Rattle.occ_project_units.specs.Units.{used_units}
use Rattle.occ_project_units.specs.declared.facts.Facts.{Facts}
use Rattle.occ_project_units.specs.inside.Keeping.{all_facts, facts_of}

pub add_known-requires-clause-within : goal.add_known-requires-clause-within
add_known-requires-clause-within c =
    let later = ap (length {A = Read}) c.in_ok-insert.ensures.ok in
    let long = put_long c.args.project.now c.args.file c.args.at c.requires.new in
    omega (arith, c.requires.new.gap.within, later, long)

pub add_known-requires-clause-facts : goal.add_known-requires-clause-facts
add_known-requires-clause-facts c =
    let later = ap (length {A = Read}) c.in_ok-insert.ensures.ok in
    let long = put_long c.args.project.now c.args.file c.args.at c.requires.new in
    let facts = ap (length {A = Facts}) c.requires.facts in
    let each = length-map c.args.project.now (λ (file : Read). facts_of c.args.project.now file.name) in
    omega (arith, later, long, facts, each)

pub add_known-requires-clause-links : goal.add_known-requires-clause-links
add_known-requires-clause-links c =
    let later = ap (length {A = Read}) c.in_ok-insert.ensures.ok in
    let long = put_long c.args.project.now c.args.file c.args.at c.requires.new in
    let links = ap (length {A = List ℕ}) c.requires.links in
    let each = graph_long c.args.project.now in
    omega (arith, later, long, links, each)

pub remove-requires-clause-within : goal.remove-requires-clause-within
remove-requires-clause-within c =
    let later = ap (length {A = Read}) c.in_ok-insert.ensures.ok in
    let long = put_long c.args.project.now c.args.file c.args.at c.requires.new in
    omega (arith, c.requires.new.gap.within, later, long)

pub remove-requires-clause-project : goal.remove-requires-clause-project
remove-requires-clause-project c =
    let back : remove c.insert.new.self c.args.at ≡ c.args.project.now = ap (λ (files : List Read). remove files c.args.at) c.in_ok-insert.ensures.ok ∙ put_back c.args.project.now c.args.file c.args.at c.requires.new in
    subst IsProject (sym back) c.requires.project

pub returns-in-Err-clause-err : goal.returns-in-Err-clause-err
returns-in-Err-clause-err c =
    let back : remove c.insert.new.self c.args.at ≡ c.args.project.now = ap (λ (files : List Read). remove files c.args.at) c.in_ok-insert.ensures.ok ∙ put_back c.args.project.now c.args.file c.args.at c.requires.new in
    (c.remove.ensures ∙ back, c.in-Err.ensures.err)

pub returns-in-Ok-clause-facts : goal.returns-in-Ok-clause-facts
returns-in-Ok-clause-facts c =
    let files : List Read = c.args.project.now in
    let later : List Read = c.insert.new.self in
    let at : ℕ = c.args.at in
    c.in-Ok.ensures.facts
    ∙ ap (λ (facts : List Facts). insert facts at (facts_of later (name_at later at))) c.requires.facts
    ∙ ap (λ (fs : List Read). insert (all_facts files) at (facts_of fs (name_at fs at))) c.in_ok-insert.ensures.ok
    ∙ ap (λ (name : List ℕ). insert (all_facts files) at (facts_of (put files c.args.file) name)) (name_new files c.args.file at c.requires.new)
    ∙ facts_then files c.args.file at c.requires.new
    ∙ sym (ap all_facts c.in_ok-insert.ensures.ok)

pub returns-in-Ok-clause-links : goal.returns-in-Ok-clause-links
returns-in-Ok-clause-links c =
    let files : List Read = c.args.project.now in
    let later : List Read = c.insert.new.self in
    let at : ℕ = c.args.at in
    c.in-Ok.ensures.links
    ∙ ap (λ (g : Graph). with_node g at (indices_of later (used_units later (name_at later at)))) c.requires.links
    ∙ ap (λ (fs : List Read). with_node (graph_of files) at (indices_of fs (used_units fs (name_at fs at)))) c.in_ok-insert.ensures.ok
    ∙ ap (λ (name : List ℕ). with_node (graph_of files) at (indices_of (put files c.args.file) (used_units (put files c.args.file) name))) (name_new files c.args.file at c.requires.new)
    ∙ graph_then files c.args.file at c.requires.new
    ∙ sym (ap graph_of c.in_ok-insert.ensures.ok)
