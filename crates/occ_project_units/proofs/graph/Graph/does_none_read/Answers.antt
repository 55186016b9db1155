use Rattle.std.proofs.Common.{◌≡◌, ◌∙◌, List, ap, ℕ, false, rules, subst, true}
use Rattle.std.specs.Option.{is_some}
use Rattle.std.specs.Str.{bytes_eq}
use Rattle.occ_project.specs.Entries.{is_among}
use Rattle.occ_project.specs.Reads.{index}
use Rattle.occ_project_units.proofs.Looking.{all_hold, more_hold, no_other_reads}
use Rattle.occ_project_units.proofs.graph.Graph.does_none_read.Goals as goal
use Rattle.occ_project_units.specs.Project.{IsProject}
use Rattle.occ_project_units.specs.Units.{read_names}

pub loop-unit-preserved : goal.loop-unit-preserved
loop-unit-preserved c =
    more_hold (λ (unit : List ℕ). bytes_eq unit c.args.name ≡ false → is_some (index unit c.args.self.now) ≡ true → is_among (read_names c.args.self.now unit) c.args.name ≡ false) c.row-row.result.now c.loop-unit.unit-index c.unit-item.result c.loop-unit-test.true c.loop-unit.invariant
    (subst (λ (unit : List ℕ). bytes_eq unit c.args.name ≡ false → is_some (index unit c.args.self.now) ≡ true → is_among (read_names c.args.self.now unit) c.args.name ≡ false) c.unit-item.is (subst (λ (unit : List ℕ). bytes_eq unit c.args.name ≡ false → is_some (index unit c.args.self.now) ≡ true → is_among (read_names c.args.self.now unit) c.args.name ≡ false) c.get.ensures (c.does_other_read.ensures c.if-does_other_read.false)))

pub returns : goal.returns
returns c = λ _ p lt other.
    no_other_reads c.args.self.now (subst IsProject c.self.view_is c.files-files.ensures.in_order) c.args.lookers.now c.requires c.args.name
    (λ unit k. all_hold (λ (unit : List ℕ). bytes_eq unit c.args.name ≡ false → is_some (index unit c.args.self.now) ≡ true → is_among (read_names c.args.self.now unit) c.args.name ≡ false) c.row-row.result.now c.loop-unit.unit-index (search rules) c.loop-unit.invariant unit (ap (λ (names : List (List ℕ)). is_among names unit) c.row-row.ensures ∙ k)) p lt other
