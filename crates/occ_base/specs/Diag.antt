-- How a diagnostic prints: FILE:LINE CODE GRADE NAME.
use Rattle.std.specs.Prelude.{ℕ, List, codes, ◌++◌, Option, Some, None}
use Rattle.std.specs.Fmt.{decimal}
use Rattle.occ_base.specs.declared.code.Code.{Code}
use Rattle.occ_base.specs.declared.code.Code.TheVariants.{G1, G2, G3, G4, G5, G6, G7, L1, L2, L3, L4, S1, S2, S3, S4, N1, N2, T1, T2, T3, T4, T5, T6, T7, T8, T9, P1, P2, P3, P4, R1, R2, U1, U2, U3, A1, A2, A3, A4, F1}
use Rattle.occ_base.specs.declared.code.Grade.{Grade}
use Rattle.occ_base.specs.declared.code.Grade.TheVariants.{Error, Check}
use Rattle.occ_base.specs.declared.diag.Diag.{Diag}

abbrev pub code_text : Code → List ℕ
code_text G1 = codes "G1"
code_text G2 = codes "G2"
code_text G3 = codes "G3"
code_text G4 = codes "G4"
code_text G5 = codes "G5"
code_text G6 = codes "G6"
code_text G7 = codes "G7"
code_text L1 = codes "L1"
code_text L2 = codes "L2"
code_text L3 = codes "L3"
code_text L4 = codes "L4"
code_text S1 = codes "S1"
code_text S2 = codes "S2"
code_text S3 = codes "S3"
code_text S4 = codes "S4"
code_text N1 = codes "N1"
code_text N2 = codes "N2"
code_text T1 = codes "T1"
code_text T2 = codes "T2"
code_text T3 = codes "T3"
code_text T4 = codes "T4"
code_text T5 = codes "T5"
code_text T6 = codes "T6"
code_text T7 = codes "T7"
code_text T8 = codes "T8"
code_text T9 = codes "T9"
code_text P1 = codes "P1"
code_text P2 = codes "P2"
code_text P3 = codes "P3"
code_text P4 = codes "P4"
code_text R1 = codes "R1"
code_text R2 = codes "R2"
code_text U1 = codes "U1"
code_text U2 = codes "U2"
code_text U3 = codes "U3"
code_text A1 = codes "A1"
code_text A2 = codes "A2"
code_text A3 = codes "A3"
code_text A4 = codes "A4"
code_text F1 = codes "F1"

abbrev pub grade_text : Grade → List ℕ
grade_text Error = codes "error"
grade_text Check = codes "check"

-- the name, or '-' where there is none
abbrev pub name_text : Option (List ℕ) → List ℕ
name_text None = codes "-"
name_text (Some name) = name

-- the line of a diagnostic, without what stands before and after it in a report
abbrev pub diag_line : Diag → List ℕ
diag_line d = d.file ++ codes ":" ++ decimal d.line ++ codes " " ++ code_text d.code ++ codes " " ++ grade_text d.grade ++ codes " " ++ name_text d.name
