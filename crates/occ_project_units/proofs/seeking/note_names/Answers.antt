use Rattle.std.proofs.Common.{◌≡◌, List, ℕ, false, rules, subst, true}
use Rattle.std.specs.Str.{bytes_eq}
use Rattle.occ_project.specs.Entries.{is_among}
use Rattle.occ_project_units.proofs.Looking.{all_hold, more_hold}
use Rattle.occ_project_units.proofs.seeking.note_names.Goals as goal
use Rattle.occ_project_units.specs.inside.Keeping.{looking_for}

pub loop-name-preserved : goal.loop-name-preserved
loop-name-preserved c = (
  λ name unit k. c.note_name.ensures.more name unit (c.loop-name.invariant.0 name unit k),
  more_hold (λ (name : List ℕ). bytes_eq c.args.unit.now name ≡ false → is_among (looking_for c.note_name.new.lookers name) c.args.unit.now ≡ true) c.args.names.now c.loop-name.name-index c.name-item.result c.loop-name-test.true
      (λ name k other. c.note_name.ensures.more name c.args.unit.now (c.loop-name.invariant.1 name k other))
      (subst (λ (name : List ℕ). bytes_eq c.args.unit.now name ≡ false → is_among (looking_for c.note_name.new.lookers name) c.args.unit.now ≡ true) c.name-item.is (c.note_name.ensures.noted c.if-not-note_name.false)),
)

pub returns-clause-noted : goal.returns-clause-noted
returns-clause-noted c = λ _. all_hold (λ (name : List ℕ). bytes_eq c.args.unit.now name ≡ false → is_among (looking_for c.loop-name.lookers name) c.args.unit.now ≡ true) c.args.names.now c.loop-name.name-index (search rules) c.loop-name.invariant.1
