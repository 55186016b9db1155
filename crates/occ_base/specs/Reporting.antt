-- Faults of a line, before it is known where the line stands.
use Rattle.std.specs.Prelude.{None}
use Rattle.occ_base.specs.declared.code.Code.{Code}
use Rattle.occ_base.specs.declared.fault.Fault.{Fault}

abbrev pub nameless : Code → Fault
nameless c = record { code = c; name = None }
