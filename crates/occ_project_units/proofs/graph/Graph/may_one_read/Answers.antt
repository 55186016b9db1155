use Rattle.std.proofs.Common.{◌≡◌, ◌∙◌, List, ap, ℕ, false, rules, subst, true}
use Rattle.std.specs.Option.{is_some}
use Rattle.occ_project.specs.Entries.{is_among}
use Rattle.occ_project.specs.Reads.{index}
use Rattle.occ_project_units.proofs.Looking.{all_hold, more_hold, none_reads}
use Rattle.occ_project_units.proofs.graph.Graph.may_one_read.Goals as goal
use Rattle.occ_project_units.specs.Project.{IsProject}
use Rattle.occ_project_units.specs.Units.{read_names}

pub loop-unit-preserved : goal.loop-unit-preserved
loop-unit-preserved c =
    more_hold (λ (unit : List ℕ). is_some (index unit c.args.self.now) ≡ true → is_among (read_names c.args.self.now unit) c.args.name ≡ false) c.row-row.result.now c.loop-unit.unit-index c.unit-item.result c.loop-unit-test.true c.loop-unit.invariant
    (subst (λ (unit : List ℕ). is_some (index unit c.args.self.now) ≡ true → is_among (read_names c.args.self.now unit) c.args.name ≡ false) c.unit-item.is (subst (λ (unit : List ℕ). is_some (index unit c.args.self.now) ≡ true → is_among (read_names c.args.self.now unit) c.args.name ≡ false) c.get.ensures (c.may_file_read.ensures c.if-may_file_read.false)))

pub returns : goal.returns
returns c = λ _ p lt.
    none_reads c.args.self.now (subst IsProject c.self.view_is c.files-files.ensures.in_order) c.args.lookers.now c.requires.lookers c.args.name c.requires.absent
    (λ unit k placed. all_hold (λ (unit : List ℕ). is_some (index unit c.args.self.now) ≡ true → is_among (read_names c.args.self.now unit) c.args.name ≡ false) c.row-row.result.now c.loop-unit.unit-index (search rules) c.loop-unit.invariant unit (ap (λ (names : List (List ℕ)). is_among names unit) c.row-row.ensures ∙ k) placed) p lt
