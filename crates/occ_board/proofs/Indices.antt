-- Files at their indices in a project.
use Rattle.std.proofs.Common.{◌≡◌, ◌<◌, ℕ, zero, suc, Bool, true, false, cond, List, [], ◌∷◌, length, Option, Some, None, refl, ap, subst, sym, ◌∙◌, arith}
use Rattle.std.proofs.lemmas.Option.{get_or_from_slice_get}
use Rattle.std.proofs.lemmas.Slice.Eq.{bytes_eq-Decides}
use Rattle.std.specs.Str.{bytes_eq}
use Rattle.std.specs.List.{slice_get}
use Rattle.std.specs.Option.{is_some, option_and_then, option_map, unwrap_or}
use Rattle.std.specs.declared.cmp.Ordering.TheVariants.{Equal}
use Rattle.occ_board.specs.Journal.{is_open}
use Rattle.occ_project.specs.Reads.{member, name_cmp, index}
use Rattle.occ_project.specs.declared.reads.Read.{Read}
use Rattle.occ_project_units.proofs.Edges.{file_at}
use Rattle.occ_project_units.proofs.Finding.{found_at, member_at}
use Rattle.occ_project_units.proofs.Looks.{same_bytes}
use Rattle.occ_project_units.proofs.Rising.{test_equal}
use Rattle.occ_project_units.specs.Along.{name_at}
use Rattle.occ_project_units.specs.Project.{IsProject, file_of}

pub within : {X : Type 0} (xs : List X) (p : ℕ) (x : X) → slice_get xs p ≡ Some x → p < length xs
within [] p x e = absurd cc
within (y ∷ ys) zero x e = omega arith
within (y ∷ ys) (suc p) x e = let k = within ys p x e in omega (arith, k)

pub there_is : {X : Type 0} (xs : List X) (p : ℕ) → p < length xs → (x : X) × (slice_get xs p ≡ Some x)
there_is [] p lt = absurd (omega (arith, lt))
there_is (x ∷ xs) zero lt = (x, refl)
there_is (x ∷ xs) (suc p) lt = there_is xs p (omega (arith, lt))

-- the name at the place of a file is its own
pub named : (files : List Read) (p : ℕ) (file : Read) → slice_get files p ≡ Some file → name_at files p ≡ file.name
named files p file e = ap (λ (o : Option Read). unwrap_or (option_map (λ (f : Read). f.name) o) []) e

-- and the place of its name that index
pub placed : (files : List Read) (p : ℕ) (file : Read) → IsProject files → slice_get files p ≡ Some file → index file.name files ≡ Some p
placed files p file s e =
    found_at file.name files p s (within files p file e) (λ d. subst (λ (f : Read). name_cmp f.name file.name ≡ Equal) (sym (get_or_from_slice_get files p file d e)) (test_equal file.name file.name (same_bytes file.name)))

by_member : (files : List Read) (u : List ℕ) (file : Read) → member files u ≡ Some file → file_of files u ≡ file
by_member files u file e = ap (λ (m : Option Read). unwrap_or m (record { name = u; revision = 0; source = None })) e

-- the file of its name is the file itself
pub filed : (files : List Read) (p : ℕ) (file : Read) → IsProject files → slice_get files p ≡ Some file → file_of files file.name ≡ file
filed files p file s e = by_member files file.name file (sym (member_at file.name files) ∙ ap (option_and_then (slice_get files)) (placed files p file s e) ∙ e)

-- a file at an index
pub at_index : (files : List Read) (u : List ℕ) (p : ℕ) → index u files ≡ Some p → (file : Read) × ((slice_get files p ≡ Some file) × ((file.name ≡ u) × (file_of files u ≡ file)))
at_index files u p e =
    let there = file_at files u p e in
    (there.0, (there.1, (there.2, by_member files u there.0 (sym (member_at u files) ∙ ap (option_and_then (slice_get files)) e ∙ there.1))))

pub name_there : (files : List Read) (u : List ℕ) (p : ℕ) → index u files ≡ Some p → name_at files p ≡ u
name_there files u p e = let there = at_index files u p e in named files p there.0 there.1.0 ∙ there.1.1.0

-- of no index there is no file
pub nowhere : (files : List Read) (u : List ℕ) → index u files ≡ None → is_open files u ≡ false
nowhere files u e =
    let none : member files u ≡ None = sym (member_at u files) ∙ ap (option_and_then (slice_get files)) e in
    ap (λ (m : Option Read). is_some (unwrap_or m (record { name = u; revision = 0; source = None })).source) none

pub open_index : (files : List Read) (u : List ℕ) → is_open files u ≡ true → (p : ℕ) × (index u files ≡ Some p)
open_index files u h = by (index u files) refl where
  by : (o : Option ℕ) → index u files ≡ o → (p : ℕ) × (index u files ≡ Some p)
  by (Some p) e = (p, e)
  by None e = let shut = nowhere files u e in absurd (cc (shut, h))

-- the file of a name has it
found_named : (b : Bool) (file : Read) (name : List ℕ) (rest : Option Read) → bytes_eq file.name name ≡ b
    → (unwrap_or rest (record { name = name; revision = 0; source = None })).name ≡ name
    → (unwrap_or (cond b (Some file) rest) (record { name = name; revision = 0; source = None })).name ≡ name
found_named true file name rest e h = (bytes_eq-Decides file.name name).0 e
found_named false file name rest e h = h

pub file_named : (files : List Read) (name : List ℕ) → (file_of files name).name ≡ name
file_named [] name = refl
file_named (file ∷ files) name = found_named (bytes_eq file.name name) file name (member files name) refl (file_named files name)
