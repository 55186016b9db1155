-- Reads of files with the same lines.
use Rattle.std.specs.Prelude.{◌≡◌, List, [], ◌∷◌}
use Rattle.occ_project.specs.Reads.{lines_in, listed_in}
use Rattle.occ_project.specs.declared.reads.Read.{Read}

-- the files are of one name, have the same lines and list the same units
pub record IsAlikeRead (a b : Read) : Type 0 where
  pub name : a.name ≡ b.name
  pub lines : lines_in a ≡ lines_in b
  pub units : listed_in a ≡ listed_in b

-- read by read
abbrev pub AreAlikeReads : List Read → List Read → Type 0
AreAlikeReads [] [] = Unit {0}
AreAlikeReads [] (b ∷ bs) = ⊥
AreAlikeReads (a ∷ more) [] = ⊥
AreAlikeReads (a ∷ more) (b ∷ bs) = IsAlikeRead a b × AreAlikeReads more bs
