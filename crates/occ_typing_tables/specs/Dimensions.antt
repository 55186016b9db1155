-- The size that a type has in a dimension.
use Rattle.std.specs.Prelude.{ℕ, nat_le, ℤ, pos, negsuc, List, [], ◌∷◌, ◌++◌, Option, Some, None, if◌then◌else◌}
use Rattle.occ_base.specs.declared.code.Code.TheVariants as code
use Rattle.occ_base.specs.Reporting.{nameless}
use Rattle.occ_base.specs.declared.fault.Fault.{Fault}
use Rattle.occ_typing_operands.specs.declared.kind.Kind.{Kind}
use Rattle.occ_typing_operands.specs.declared.kind.Kind.TheVariants as k
use Rattle.occ_typing_tables.specs.Segments.{bound, number_in}
use Rattle.occ_typing_tables.specs.Terms.{Judged}

-- the faults of a size, and how many components it says there are, if nothing is wrong with it
pub record Size : Type 0 where
  pub faults : List Fault
  pub count : Option ℕ

abbrev pub no_size : Size
no_size = record { faults = []; count = None }

-- it is constant, not negative, and not too large
abbrev pub size_of_number : Option ℤ → Size
size_of_number None = record { faults = nameless code.T5 ∷ []; count = None }
size_of_number (Some (negsuc n)) = record { faults = nameless code.T6 ∷ []; count = None }
size_of_number (Some (pos n)) =
    if nat_le n 4294967295 then record { faults = []; count = Some n } else record { faults = nameless code.T9 ∷ []; count = None }

abbrev pub size_of_kind : Kind → Size
size_of_kind k.Faulty = no_size
size_of_kind (k.Untyped f) = no_size
size_of_kind (k.Known x) = size_of_number (number_in x.value)

-- it is an INT; a faulty one was reported
abbrev pub size : Judged → Size
size t = let x = bound t in let y = size_of_kind x.kind in record { faults = x.faults ++ y.faults; count = y.count }
