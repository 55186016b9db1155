use Rattle.std.proofs.Common.{rules}
use Rattle.std.proofs.lemmas.Fn.{always_returns_same}
use Rattle.occ_project.specs.Reads.{name_cmp}
use Rattle.occ_project_units.proofs.Finding.{searched}
use Rattle.occ_project_units.proofs.project.find_in.Goals as goal

pub returns : goal.returns
returns c =
    let facts = c.binary_search_by.ensures in
    let by_name = facts.position (λ file. name_cmp file.name c.args.name) (always_returns_same _ _ _ (λ a r g called. search rules)) in
    searched c.args.name _ c.requires _ facts.bound by_name
