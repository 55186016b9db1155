use Rattle.std.proofs.Common.{◌≡◌, ◌∙◌, List, ap, ℕ, false, rules, subst, true}
use Rattle.std.specs.Option.{is_some}
use Rattle.occ_project.specs.Entries.{is_among}
use Rattle.occ_project.specs.Reads.{index}
use Rattle.occ_project_units.proofs.Looking.{all_hold, more_hold, none_reads, none_uses}
use Rattle.occ_project_units.proofs.graph.Graph.may_one_look_for.Goals as goal
use Rattle.occ_project_units.specs.Project.{IsProject}
use Rattle.occ_project_units.specs.Units.{read_names, used_units}

pub loop-unit-preserved : goal.loop-unit-preserved
loop-unit-preserved c =
    more_hold (λ (unit : List ℕ). is_some (index unit c.args.self.now) ≡ true → (is_among (read_names c.args.self.now unit) c.args.name ≡ false) × (is_among (used_units c.args.self.now unit) c.args.name ≡ false)) c.row-row.result.now c.loop-unit.unit-index c.unit-item.result c.loop-unit-test.true c.loop-unit.invariant
    (subst (λ (unit : List ℕ). is_some (index unit c.args.self.now) ≡ true → (is_among (read_names c.args.self.now unit) c.args.name ≡ false) × (is_among (used_units c.args.self.now unit) c.args.name ≡ false)) c.unit-item.is (subst (λ (unit : List ℕ). is_some (index unit c.args.self.now) ≡ true → (is_among (read_names c.args.self.now unit) c.args.name ≡ false) × (is_among (used_units c.args.self.now unit) c.args.name ≡ false)) c.get.ensures (λ placed. (c.may_file_look_for.ensures.unread c.if-may_file_look_for.false placed, c.may_file_look_for.ensures.unused c.if-may_file_look_for.false placed))))

pub returns-clause-unread : goal.returns-clause-unread
returns-clause-unread c = λ _ p lt.
    none_reads c.args.self.now (subst IsProject c.self.view_is c.files-files.ensures.in_order) c.args.lookers.now c.requires.lookers c.args.name c.requires.absent
    (λ unit k placed. (all_hold (λ (unit : List ℕ). is_some (index unit c.args.self.now) ≡ true → (is_among (read_names c.args.self.now unit) c.args.name ≡ false) × (is_among (used_units c.args.self.now unit) c.args.name ≡ false)) c.row-row.result.now c.loop-unit.unit-index (search rules) c.loop-unit.invariant unit (ap (λ (names : List (List ℕ)). is_among names unit) c.row-row.ensures ∙ k) placed).0) p lt

pub returns-clause-unused : goal.returns-clause-unused
returns-clause-unused c = λ _ p lt.
    none_uses c.args.self.now (subst IsProject c.self.view_is c.files-files.ensures.in_order) c.args.lookers.now c.requires.lookers c.args.name c.requires.absent
    (λ unit k placed. (all_hold (λ (unit : List ℕ). is_some (index unit c.args.self.now) ≡ true → (is_among (read_names c.args.self.now unit) c.args.name ≡ false) × (is_among (used_units c.args.self.now unit) c.args.name ≡ false)) c.row-row.result.now c.loop-unit.unit-index (search rules) c.loop-unit.invariant unit (ap (λ (names : List (List ℕ)). is_among names unit) c.row-row.ensures ∙ k) placed).1) p lt
