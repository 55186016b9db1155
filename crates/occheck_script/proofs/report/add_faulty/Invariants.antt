use Rattle.std.proofs.Common.{◌≡◌, ◌++◌, codes, length, drop}
use Rattle.std.specs.Fmt.{decimal}
use Rattle.std.specs.List.{flat_map}
use Rattle.occheck_script.specs.Machine.{diag_text, with_line_end}
use Rattle.occheck_script.proofs.report.add_faulty.Given as goal

abbrev pub invariant-loop-diag : goal.invariant-loop-diag
invariant-loop-diag l =
    l.bytes.items ++ flat_map diag_text (drop l.diag-index l.diags) ≡ l.fn.bytes.items ++ (with_line_end (codes "unit " ++ l.file ++ codes " " ++ decimal (length l.diags)) ++ flat_map diag_text l.diags)
