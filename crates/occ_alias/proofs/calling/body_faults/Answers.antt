use Rattle.std.proofs.Common.{◌≡◌, ◌++◌, ◌∙◌, List, [], ap, sym}
use Rattle.std.proofs.lemmas.List.{append-nil}
use Rattle.occ_base.specs.declared.code.Code.TheVariants as code
use Rattle.occ_base.specs.declared.diag.Diag.{Diag}
use Rattle.occ_usage_values.specs.declared.uses.Use.{Use}
use Rattle.occ_alias.specs.AbbreviationRule.{written_faults}
use Rattle.occ_alias.proofs.Writing.{nothing_read, nothing_written}
use Rattle.occ_alias.proofs.calling.body_faults.Goals as goal

pub returns-then-not-writes : goal.returns-then-not-writes
returns-then-not-writes c =
    sym (ap (λ (new : List Diag). c.args.faults.now ++ new) (nothing_written code.A4 c.args.env.now c.args.call.now.uses c.args.call.now.reads (c.writes.ensures c.if-not-writes.true)) ∙ append-nil c.args.faults.now)

pub returns-then-is_empty : goal.returns-then-is_empty
returns-then-is_empty c =
    let none : c.args.call.now.reads ≡ [] = sym c.in_ok-reads.ensures ∙ c.is_empty.ensures.0 c.if-is_empty.true in
    sym (ap (λ (reads : List Use). c.args.faults.now ++ written_faults code.A4 c.args.env.now c.args.call.now.uses reads) none
    ∙ ap (λ (new : List Diag). c.args.faults.now ++ new) (nothing_read code.A4 c.args.env.now c.args.call.now.uses) ∙ append-nil c.args.faults.now)
