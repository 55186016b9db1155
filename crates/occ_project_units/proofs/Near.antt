-- A file that is found where it was looked for first.
use Rattle.std.proofs.Common.{◌≡◌, ◌<◌, ℕ, zero, suc, true, List, [], ◌∷◌, length, Some, sym, subst, arith}
use Rattle.std.proofs.lemmas.Option.{get_or_from_slice_get}
use Rattle.std.specs.List.{slice_get}
use Rattle.std.specs.Str.{bytes_eq}
use Rattle.std.specs.declared.cmp.Ordering.TheVariants.{Equal}
use Rattle.occ_project.specs.Reads.{name_cmp, index}
use Rattle.occ_project.specs.declared.reads.Read.{Read}
use Rattle.occ_project_units.proofs.Finding.{found_at}
use Rattle.occ_project_units.proofs.Rising.{test_equal}
use Rattle.occ_project_units.specs.Project.{IsProject}

within : (files : List Read) (p : ℕ) (file : Read) → slice_get files p ≡ Some file → p < length files
within [] p file e = absurd cc
within (x ∷ files) zero file e = omega arith
within (x ∷ files) (suc p) file e = let k = within files p file e in omega (arith, k)

pub placed_at : (files : List Read) (p : ℕ) (file : Read) (name : List ℕ) → IsProject files → Some file ≡ slice_get files p → true ≡ bytes_eq file.name name → index name files ≡ Some p
placed_at files p file name s e h =
    found_at name files p s (within files p file (sym e)) (λ d. subst (λ (f : Read). name_cmp f.name name ≡ Equal) (sym (get_or_from_slice_get files p file d (sym e))) (test_equal file.name name (sym h)))
