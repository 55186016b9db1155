use Rattle.std.proofs.Common.{◌∙◌, arith, ap}
use Rattle.occ_base.specs.FileName.{name_fault}
use Rattle.occ_lines.proofs.Suffixes.{whole_name}
use Rattle.occ_lines.proofs.directive.with_suffix.Goals as goal

pub returns-clause-ok : goal.returns-clause-ok
returns-clause-ok c =
    let is = c.split_at.ensures.front ∙ whole_name c.args.front.now c.args.suffix.now _ _ _ _ c.copy_from_slice.ensures.after c.copy_from_slice-2.ensures.after (omega arith) in
    rw is at c.read.ensures.ok

pub returns-clause-fault : goal.returns-clause-fault
returns-clause-fault c =
    let is = c.split_at.ensures.front ∙ whole_name c.args.front.now c.args.suffix.now _ _ _ _ c.copy_from_slice.ensures.after c.copy_from_slice-2.ensures.after (omega arith) in
    c.read.ensures.fault ∙ ap name_fault is
