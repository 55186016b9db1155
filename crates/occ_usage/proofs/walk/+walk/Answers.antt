use Rattle.std.proofs.Common.{rules, ◌≡◌, ◌∙◌, ◌-◌, ◌++◌, ◌∷◌, [], List, ap, refl, length, replicate}
use Rattle.occ_base.specs.Order.{diag_order, placed}
use Rattle.occ_base.specs.declared.diag.Diag.{Diag}
use Rattle.occ_usage.proofs.Repeated.{alike_abbreviations, alike_gathered, alike_parallel}
use Rattle.occ_usage.proofs.Sizes.{gather_step, sizes_step, told_step, uses_step}
use Rattle.occ_usage.proofs.Trees.{from_line}
use Rattle.occ_usage.proofs.Walking.{end_after, end_stands, step_items, step_joined, step_reported}
use Rattle.occ_usage.specs.AbbreviationRule.{abbreviation_at}
use Rattle.occ_usage_conflicts.specs.Components.{joined}
use Rattle.occ_usage_conflicts.specs.Distinct.{gathered}
use Rattle.occ_usage.specs.Lines.{ends_item, items_of, with_index}
use Rattle.occ_usage.specs.Walk.{reported_of}
use Rattle.occ_usage.specs.ParallelRule.{own_faults, parallel_at}
use Rattle.occ_usage.specs.Trees.{head_of, trees_of, under}
use Rattle.occ_usage.proofs.walk.+walk.Goals as goal

pub items-loop-one-preserved : goal.items-loop-one-preserved
items-loop-one-preserved t c =
    let split = from_line _ _ _ c.loop-one-test.true c.one-item.is in
    let h = head_of c.one-item.result in
    let u = under c.one-item.result in
    let within = c.loop-one.invariant.0 in
    let round = c.loop-one.invariant.1 in
    let grown = c.in_ok-line.ensures.env in
    let cut = c.in_ok-end_item.ensures.env in
    let following = end_after _ _ _ _ _ h u within round grown cut in
    let stands = end_stands (ends_item h.adds) _ _ _ _ _ _ within round grown cut in (
      stands.0,
      stands.1,
      step_items h u _ _ _ _ _ _ _ _ _ _ _ _ _ within round split c.loop-one.invariant.2 grown c.in_ok-line.ensures.uses cut c.in_ok-end_item.ensures.own c.in_ok-end_item.ensures.found,
      step_reported parallel_at h u _ _ _ _ _ _ _ _ split c.loop-one.invariant.3 c.in_ok-line.ensures.parallel following,
      step_reported abbreviation_at h u _ _ _ _ _ _ _ _ split c.loop-one.invariant.4 c.in_ok-line.ensures.abbreviations following,
    )

pub add_items-loop-one-preserved : goal.add_items-loop-one-preserved
add_items-loop-one-preserved t c =
    let split = from_line _ _ _ c.loop-one-test.true c.one-item.is in
    let h = head_of c.one-item.result in
    let u = under c.one-item.result in
    let within = c.loop-one.invariant.0 in
    let round = c.loop-one.invariant.1 in
    let grown = c.in_ok-line.ensures.env in
    let cut = c.end_scope.ensures in
    let following = end_after _ _ _ _ _ h u within round grown cut in
    let stands = end_stands (ends_item h.adds) _ _ _ _ _ _ within round grown cut in (
      stands.0,
      stands.1,
      step_joined h u _ _ _ _ _ _ _ _ _ _ within round split c.loop-one.invariant.2 grown c.in_ok-line.ensures.uses cut,
      step_reported parallel_at h u _ _ _ _ _ _ _ _ split c.loop-one.invariant.3 c.in_ok-line.ensures.parallel following,
      step_reported abbreviation_at h u _ _ _ _ _ _ _ _ split c.loop-one.invariant.4 c.in_ok-line.ensures.abbreviations following,
    )

pub gather_rounds-loop-index-preserved : goal.gather_rounds-loop-index-preserved
gather_rounds-loop-index-preserved t c =
    let same = c.loop-index.invariant.0 in
    let i = c.loop-index.index in
    let base = c.args.known.base in
    let lines = under c.args.line.now in
    let used : c.add_round.new.uses ≡ joined (items_of (under c.args.line.now) (with_index c.loop-index.env c.args.known.base c.loop-index.index)) = search rules in
    let parallel : c.add_round.new.reported.parallel ≡ reported_of parallel_at (under c.args.line.now) (with_index c.loop-index.env c.args.known.base c.loop-index.index) = search rules in
    let abbreviations : c.add_round.new.reported.abbreviations ≡ reported_of abbreviation_at (under c.args.line.now) (with_index c.loop-index.env c.args.known.base c.loop-index.index) = search rules in (
      c.in_ok-add_round.ensures.env ∙ same,
      gather_step (head_of c.args.line.now).place i base _ _ lines _ _ _ same c.loop-index.invariant.1 used (search rules),
      told_step parallel_at i base _ _ lines _ _ _ same c.loop-index.invariant.2 parallel c.in_ok-add.ensures.parallel,
      told_step abbreviation_at i base _ _ lines _ _ _ same c.loop-index.invariant.3 abbreviations c.in_ok-add.ensures.abbreviations,
    )

pub rounds-loop-i-preserved : goal.rounds-loop-i-preserved
rounds-loop-i-preserved t c =
    let same = c.loop-i.invariant.0 in
    let i = c.loop-i.i in
    let base = c.args.known.base in
    let lines = trees_of c.args.lines.now in
    let used : c.add_round.new.uses ≡ c.loop-i.uses ++ joined (items_of (trees_of c.args.lines.now) (with_index c.loop-i.env c.args.known.base c.loop-i.i)) = search rules in
    let parallel : c.add_round.new.reported.parallel ≡ reported_of parallel_at (trees_of c.args.lines.now) (with_index c.loop-i.env c.args.known.base c.loop-i.i) = search rules in
    let abbreviations : c.add_round.new.reported.abbreviations ≡ reported_of abbreviation_at (trees_of c.args.lines.now) (with_index c.loop-i.env c.args.known.base c.loop-i.i) = search rules in
    let last : c.push.new.self.items ≡ c.loop-i.sizes.items ++ (length c.add_round.new.uses - length c.loop-i.uses) ∷ [] = search rules in (
      c.in_ok-add_round.ensures.env ∙ same,
      sizes_step i base _ _ lines _ _ _ _ _ same c.loop-i.invariant.1 used refl last,
      uses_step i base _ _ lines [] _ _ same c.loop-i.invariant.2 used,
      told_step parallel_at i base _ _ lines _ _ _ same c.loop-i.invariant.3 parallel c.in_ok-add.ensures.parallel,
      told_step abbreviation_at i base _ _ lines _ _ _ same c.loop-i.invariant.4 abbreviations c.in_ok-add.ensures.abbreviations,
    )

pub alike_uses-returns-clause-uses : goal.alike_uses-returns-clause-uses
alike_uses-returns-clause-uses t c =
    let used : c.add_round.new.uses ≡ joined (items_of (under c.args.line.now) (with_index c.args.env.now c.args.known.base 0)) = search rules in
    ap (gathered (head_of c.args.line.now).place []) used ∙ alike_gathered c.args.env.now (head_of c.args.line.now) (under c.args.line.now) c.args.known c.requires.known c.requires.alike c.requires.some

pub alike_uses-returns-clause-parallel : goal.alike_uses-returns-clause-parallel
alike_uses-returns-clause-parallel t c =
    let used : c.add_round.new.uses ≡ joined (items_of (under c.args.line.now) (with_index c.args.env.now c.args.known.base 0)) = search rules in
    let told : c.report.new.self.parallel ≡ c.args.reported.now.parallel ++ placed diag_order (reported_of parallel_at (under c.args.line.now) (with_index c.args.env.now c.args.known.base 0)) [] = search rules in
    let own : c.repeated_faults.new.faults ≡ c.report.new.self.parallel ++ own_faults (head_of c.args.line.now).form (head_of c.args.line.now).place c.args.env.now (replicate c.args.known.count c.add_round.new.uses) = search rules in
    alike_parallel c.args.env.now (head_of c.args.line.now) (under c.args.line.now) c.args.known _ _ _ _ c.requires.known c.requires.alike c.requires.some told used own

pub alike_uses-returns-clause-abbreviations : goal.alike_uses-returns-clause-abbreviations
alike_uses-returns-clause-abbreviations t c =
    let told : c.report.new.self.abbreviations ≡ c.args.reported.now.abbreviations ++ placed diag_order (reported_of abbreviation_at (under c.args.line.now) (with_index c.args.env.now c.args.known.base 0)) [] = search rules in
    told ∙ ap (λ (ds : List Diag). c.args.reported.now.abbreviations ++ ds) (alike_abbreviations c.args.env.now (head_of c.args.line.now) (under c.args.line.now) c.args.known c.requires.known c.requires.alike c.requires.some)
