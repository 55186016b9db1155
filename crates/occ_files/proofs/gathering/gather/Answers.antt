use Rattle.std.proofs.Common.{◌≡◌, ◌∙◌, List, ap, rules, subst, sym, true}
use Rattle.std.specs.List.{All}
use Rattle.std.specs.String.{string_bytes}
use Rattle.occ_files.proofs.Kept.{all_kept, asked_all, asked_more, met_reverse}
use Rattle.occ_files.proofs.Named.{apart_reverse, given_reverse}
use Rattle.occ_files.proofs.Refused.{all_right_reverse, names_reverse}
use Rattle.occ_files.proofs.gathering.gather.Goals as goal
use Rattle.occ_files.specs.Gathering.{AreGiven, AreNamed, are_apart, is_met}
use Rattle.occ_files.specs.Refusals.{AreRight}
use Rattle.occ_files.specs.declared.gathering.Gathered.{Gathered}
use Rattle.occ_files.specs.declared.gathering.Text.{Text}

pub returns-clause-given : goal.returns-clause-given
returns-clause-given g c =
    let texts : List Text = c.loop-index.gathering.found.texts.items in
    let given : AreGiven (g.D.Disk.known c.args.disk.now) texts = subst (λ d. AreGiven (g.D.Disk.known d) texts) c.loop-index.invariant.1 c.loop-index.invariant.0.given in
    subst (AreGiven (g.D.Disk.known c.args.disk.now)) (sym c.reverse.ensures.items) (given_reverse (g.D.Disk.known c.args.disk.now) texts given)

pub returns-clause-named : goal.returns-clause-named
returns-clause-named g c = subst AreNamed (sym c.reverse.ensures.items) (names_reverse c.loop-index.gathering.found.texts.items c.loop-index.invariant.0.named)

pub returns-clause-right : goal.returns-clause-right
returns-clause-right g c =
    let found : Gathered = c.loop-index.gathering.found in
    let right : AreRight (g.D.Disk.known c.args.disk.now) found.texts.items found.refusals.items = subst (λ d. AreRight (g.D.Disk.known d) found.texts.items found.refusals.items) c.loop-index.invariant.1 c.loop-index.invariant.0.right in
    subst (λ (ts : List Text). AreRight (g.D.Disk.known c.args.disk.now) ts found.refusals.items) (sym c.reverse.ensures.items) (all_right_reverse (g.D.Disk.known c.args.disk.now) found.texts.items found.refusals.items right)

pub returns-clause-apart : goal.returns-clause-apart
returns-clause-apart g c = ap are_apart c.reverse.ensures.items ∙ apart_reverse c.loop-index.gathering.found.texts.items c.loop-index.invariant.0.apart

pub loop-path-preserved : goal.loop-path-preserved
loop-path-preserved g c = (
  c.in_ok-add_asked.ensures.found,
  ap (λ disk. disk.now) c.add_asked.ensures.disk ∙ c.loop-path.invariant.1,
  asked_more c.loop-path.gathering.found c.add_asked.new.self.found c.args.paths.now c.loop-path.path-index c.path-item.result c.loop-path-test.true c.path-item.is c.in_ok-add_asked.ensures.keeps (subst (λ path. is_met c.add_asked.new.self.found.texts.items c.add_asked.new.self.found.refusals.items path ≡ true) c.as_str.ensures.value c.in_ok-add_asked.ensures.met) c.loop-path.invariant.2,
)

pub loop-index-init : goal.loop-index-init
loop-index-init g c = (c.loop-path.invariant.0, c.loop-path.invariant.1, asked_all c.loop-path.gathering.found c.args.paths.now c.loop-path.path-index c.loop-path-test.false c.loop-path.invariant.2)

pub returns-clause-met : goal.returns-clause-met
returns-clause-met g c =
    let texts : List Text = c.loop-index.gathering.found.texts.items in
    subst (λ (ts : List Text). All (λ path. is_met ts c.loop-index.gathering.found.refusals.items (string_bytes path) ≡ true) c.args.paths.now) (sym c.reverse.ensures.items) (met_reverse texts c.loop-index.gathering.found.refusals.items c.args.paths.now c.loop-index.invariant.2)
