use Rattle.std.proofs.Common.{[], List, subst, ℕ}
use Rattle.std.specs.String.{string_bytes}
use Rattle.occ_files.proofs.finding.find.Goals as goal
use Rattle.occ_files.specs.Refusals.{MayFail}

pub returns-in-Err : goal.returns-in-Err
returns-in-Err g c =
    let fails : MayFail (g.D.Disk.known c.args.disk.now (string_bytes c.in_ok-path.path)) c.in-Err.fault = subst (λ (p : List ℕ). MayFail (g.D.Disk.known c.args.disk.now p) c.in-Err.fault) c.as_str-in-loop-folder.ensures.value c.in-Err.ensures.fails in
    c.in_ok-why-in-Err.ensures (g.D.Disk.known c.args.disk.now (string_bytes c.in_ok-path.path)) [] (string_bytes c.in_ok-path.path) fails
