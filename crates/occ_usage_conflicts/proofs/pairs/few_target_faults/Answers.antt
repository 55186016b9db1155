use Rattle.std.proofs.Common.{◌≡◌, ◌∙◌, ◌+◌, ◌++◌, ℕ, suc, Bool, List, ap, sym, arith, append_assoc, rules}
use Rattle.occ_base.specs.declared.diag.Diag.{Diag}
use Rattle.occ_usage_conflicts.specs.ParallelRule.{below, fault_if, root_fault}
use Rattle.occ_usage_conflicts.specs.declared.rule.Least.TheVariants as least
use Rattle.occ_usage_conflicts.specs.declared.rule.Rule.TheVariants as rule
use Rattle.occ_usage_conflicts.proofs.Targets.{skipped_targets}
use Rattle.std.proofs.lemmas.List.{append-nil}
use Rattle.occ_usage_conflicts.proofs.pairs.few_target_faults.Goals as goal

pub loop-root-init : goal.loop-root-init
loop-root-init c =
    let skipped = skipped_targets c.args.line.now c.args.env.now c.args.components.now 0 c.next_root-root.result c.next_root-root.ensures.from c.next_root-root.ensures.none in
    (search rules, sym (append-nil c.args.faults.now) ∙ ap (λ (ds : List Diag). c.args.faults.now ++ ds) (sym skipped))

pub loop-root-preserved : goal.loop-root-preserved
loop-root-preserved c =
    let faults_at = root_fault rule.Written least.Must c.args.line.now c.args.env.now c.args.components.now in
    let root = c.loop-root.root in
    let next = c.next_root-root-in-loop-root.result in
    let skipped : below next faults_at ≡ below (root + 1) faults_at
    = skipped_targets c.args.line.now c.args.env.now c.args.components.now (root + 1) next c.next_root-root-in-loop-root.ensures.from c.next_root-root-in-loop-root.ensures.none in
    let following : below (root + 1) faults_at ≡ below root faults_at ++ faults_at root = let e : root + 1 ≡ suc root = omega arith in ap (λ (n : ℕ). below n faults_at) e in
    let added : c.root_fault.new.faults ≡ c.loop-root.faults ++ faults_at root
    = c.in_ok-root_fault.ensures ∙ ap (λ (b : Bool). c.loop-root.faults ++ fault_if b rule.Written c.args.line.now c.args.env.now root) c.some_clash-is_broken.ensures in (
      c.next_root-root-in-loop-root.ensures.within,
      added ∙ ap (λ (ds : List Diag). ds ++ faults_at root) c.loop-root.invariant.1 ∙ append_assoc c.args.faults.now (below root faults_at) (faults_at root)
          ∙ ap (λ (ds : List Diag). c.args.faults.now ++ ds) (sym following ∙ sym skipped),
    )
