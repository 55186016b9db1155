-- Lines that get their forms one after the other.
use Rattle.std.proofs.Common.{List, [], ◌∷◌, ◌++◌}
use Rattle.occ_lines.specs.declared.text.Logical.{Logical}
use Rattle.occ_forms.specs.declared.source.SourceLine.{SourceLine}
use Rattle.occ_forms.specs.Prepared.{AreFormed, IsFormedLine}

-- one more line has its form
pub one_more : (logicals : List Logical) (found : List SourceLine) (logical : Logical) (line : SourceLine) → IsFormedLine logical line → AreFormed logicals found → AreFormed (logicals ++ logical ∷ []) (found ++ line ∷ [])
one_more [] [] logical line h all = (h, tt)
one_more [] (x ∷ xs) logical line h all = absurd all
one_more (l ∷ ls) [] logical line h all = absurd all
one_more (l ∷ ls) (x ∷ xs) logical line h all = (all.0, one_more ls xs logical line h all.1)
