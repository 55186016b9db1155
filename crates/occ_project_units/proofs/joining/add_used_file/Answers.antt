use Rattle.std.proofs.Common.{List, ap, arith, length, map, subst, sym, ℕ, ◌∙◌, ◌≡◌}
use Rattle.std.specs.List.{remove}
use Rattle.occ_project_graph.specs.Graph.{Graph}
use Rattle.occ_project.specs.Entries.{is_among}
use Rattle.occ_project.specs.declared.reads.Read.{Read}
use Rattle.occ_project_units.proofs.Added.{gap_back, gap_long, gap_name}
use Rattle.occ_project_units.proofs.Joins.{joining}
use Rattle.occ_project_units.proofs.joining.add_used_file.Goals as goal
use Rattle.occ_project_units.specs.Along.{name_at}
use Rattle.occ_project_units.specs.Indices.{graph_of}
use Rattle.occ_project_units.specs.Project.{IsProject, put}
use Rattle.occ_project_units.specs.declared.facts.Facts.{Facts}
use Rattle.occ_project_units.specs.inside.Keeping.{IsJoining}

pub add_known-requires-clause-joining : goal.add_known-requires-clause-joining
add_known-requires-clause-joining c =
    let files : List Read = c.args.project.now in
    let later : List Read = put files c.args.file in
    subst (λ (fs : List Read). IsJoining c.args.facts.now.items c.args.links.now fs c.args.at) (sym c.in_ok-insert.ensures.ok)
    (subst (λ (g : Graph). IsJoining c.args.facts.now.items g later c.args.at) (sym c.requires.links)
    (subst (λ (facts : List Facts). IsJoining facts (graph_of files) later c.args.at) (sym c.requires.facts) (joining files c.args.file c.args.at c.requires.new)))

pub remove-requires-clause-within : goal.remove-requires-clause-within
remove-requires-clause-within c =
    let later = ap (length {A = Read}) c.in_ok-insert.ensures.ok in
    let long = gap_long c.args.project.now c.args.file c.args.at c.requires.new.gap in
    let within = c.requires.new.gap.within in
    omega (arith, within, later, long)

pub remove-requires-clause-project : goal.remove-requires-clause-project
remove-requires-clause-project c =
    let back : remove c.insert.new.self c.args.at ≡ c.args.project.now = ap (λ (files : List Read). remove files c.args.at) c.in_ok-insert.ensures.ok ∙ gap_back c.args.project.now c.args.file c.args.at c.requires.new.gap in
    subst IsProject (sym back) c.requires.project

pub returns-in-Err-clause-err : goal.returns-in-Err-clause-err
returns-in-Err-clause-err c =
    let back : remove c.insert.new.self c.args.at ≡ c.args.project.now = ap (λ (files : List Read). remove files c.args.at) c.in_ok-insert.ensures.ok ∙ gap_back c.args.project.now c.args.file c.args.at c.requires.new.gap in
    (c.remove.ensures ∙ back, c.in-Err.ensures.err)

pub add_known-requires-clause-marks : goal.add_known-requires-clause-marks
add_known-requires-clause-marks c =
    let name : name_at c.insert.new.self c.args.at ≡ c.args.file.name = ap (λ (fs : List Read). name_at fs c.args.at) c.in_ok-insert.ensures.ok ∙ gap_name c.args.project.now c.args.file c.args.at c.requires.new.gap in
    c.requires.marks ∙ ap (λ (n : List ℕ). map (λ (f : Facts). is_among f.uses n) c.args.facts.now.items) (sym name)
