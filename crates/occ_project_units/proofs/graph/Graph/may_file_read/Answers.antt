use Rattle.std.proofs.Common.{◌∙◌, List, ap, ℕ, sym}
use Rattle.occ_project.specs.Entries.{is_among}
use Rattle.occ_project.specs.Reads.{index}
use Rattle.occ_project_units.proofs.Below.{named_at}
use Rattle.occ_project_units.proofs.Finding.{index_within}
use Rattle.occ_project_units.proofs.graph.Graph.may_file_read.Goals as goal
use Rattle.occ_project_units.specs.Units.{read_names}

pub may_read-requires-clause-within : goal.may_read-requires-clause-within
may_read-requires-clause-within c = index_within c.args.unit c.args.self.now c.in-Some.index (sym (c.in-Some.ensures ∙ ap (index c.args.unit) c.self.view_is))

pub returns-in-Some : goal.returns-in-Some
returns-in-Some c = λ none _.
    ap (λ (unit : List ℕ). is_among (read_names c.args.self.now unit) c.args.name) (sym (named_at c.args.self.now c.args.unit c.in-Some.index (sym (c.in-Some.ensures ∙ ap (index c.args.unit) c.self.view_is))))
    ∙ c.may_read.ensures none
