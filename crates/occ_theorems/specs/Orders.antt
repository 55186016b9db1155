-- The order of diagnostics, part by part.
use Rattle.std.specs.Cmp.Lexicographic.{slice_cmp}
use Rattle.std.specs.Option.{option_cmp}
use Rattle.std.specs.Ordering.{nat_cmp, ordering_then}
use Rattle.std.specs.declared.cmp.Ordering.{Ordering}
use Rattle.occ_base.specs.contracts.code.CodeOrd.TheImpl as code_ord
use Rattle.occ_base.specs.contracts.code.GradeOrd.TheImpl as grade_ord
use Rattle.occ_base.specs.declared.diag.Diag.{Diag}

-- file, line, code, grade and name: each decides where those before it are the same; no name stands before a name
abbrev pub by_parts : Diag → Diag → Ordering
by_parts d e =
    ordering_then (slice_cmp nat_cmp d.file e.file)
    (ordering_then (nat_cmp d.line e.line)
    (ordering_then ((code_ord.ghosts).cmp d.code e.code)
    (ordering_then ((grade_ord.ghosts).cmp d.grade e.grade) (option_cmp (slice_cmp nat_cmp) d.name e.name))))
