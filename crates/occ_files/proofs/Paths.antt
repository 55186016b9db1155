-- The name of a path that was made of it.
use Rattle.std.proofs.Common.{◌≡◌, ◌∙◌, ◌⊎◌, inl, inr, ◌++◌, ◌+◌, ◌-◌, ◌==◌, Bool, true, false, ◌&&◌, ◌||◌, ℕ, List, [], ◌∷◌, Option, Some, None, arith, codes, cond, drop, length, refl, subst, sym, take, ap, if◌then◌else◌}
use Rattle.std.proofs.lemmas.List.{append_assoc}
use Rattle.std.proofs.lemmas.Bool.Decides.{Decides-eqb}
use Rattle.std.proofs.lemmas.Slice.Eq.{ends_is}
use Rattle.std.specs.List.{ends_with, list_all}
use Rattle.occ_base.specs.FileName.{IsFileName, has_length, has_suffix, is_file_byte}
use Rattle.occ_base.specs.declared.file_name.NameFault.TheVariants as fault
use Rattle.occ_files.specs.Paths.{Gives, IsFirst, Known, behind_slash, is_open, name_by, name_of, path_in, put_behind}

-- the bytes of a name are no `/`
no_slash : (bs : List ℕ) → list_all is_file_byte bs ≡ true → behind_slash bs ≡ None
no_slash [] all = refl
no_slash (b ∷ bs) all = by (b == 47) refl (is_file_byte b) refl all (no_slash bs) where
  by : (c : Bool) → (b == 47) ≡ c → (d : Bool) → is_file_byte b ≡ d → d && list_all is_file_byte bs ≡ true → (list_all is_file_byte bs ≡ true → behind_slash bs ≡ None) → put_behind b bs (behind_slash bs) ≡ None
  by c is false not_one h rest = absurd cc
  by true is true file h rest =
      let slash : b ≡ 47 = grind (arith, is) in
      let none : is_file_byte 47 ≡ true = ap is_file_byte (sym slash) ∙ file in
      absurd cc
  by false is true file h rest = ap (put_behind b bs) (rest h) ∙ ap (λ (c : Bool). if c then Some bs else None) is

pub name_alone : (name : List ℕ) → IsFileName name → behind_slash name ≡ None
name_alone name is = no_slash name (by (has_length name) (list_all is_file_byte name) (has_suffix name) is) where
  by : (a b c : Bool) → cond a (cond b (cond c None (Some fault.Suffix)) (Some fault.Byte)) (Some fault.Length) ≡ None → b ≡ true
  by true true c h = refl
  by true false c h = absurd cc
  by false b c h = absurd cc

behind_front : (front name : List ℕ) → behind_slash name ≡ None → behind_slash (front ++ 47 ∷ name) ≡ Some name
behind_front [] name none = ap (put_behind 47 name) none
behind_front (b ∷ bs) name none = ap (put_behind b (bs ++ 47 ∷ name)) (behind_front bs name none)

pub path_named : (folder name : List ℕ) → behind_slash name ≡ None → name_of (path_in folder name) ≡ name
path_named folder name none = by (is_open folder) refl where
  opens : (a b : Bool) → (length folder == 0) ≡ a → ends_with ◌==◌ folder (codes "/") ≡ b → a || b ≡ true → name_of (folder ++ name) ≡ name
  opens true b empty ends h =
      let nothing : folder ≡ [] = is_nothing folder empty in
      ap (λ (f : List ℕ). name_of (f ++ name)) nothing ∙ ap (name_by name) none where
        is_nothing : (bs : List ℕ) → (length bs == 0) ≡ true → bs ≡ []
        is_nothing [] e = refl
        is_nothing (b ∷ bs) e = absurd (let some : (length (b ∷ bs) == 0) ≡ false = grind arith in cc)
  opens false true empty ends h =
      let front : List ℕ = take (length folder - 1) folder in
      let split : folder ≡ front ++ 47 ∷ [] = (ends_is Decides-eqb folder (codes "/") _ refl).0 ends in
      ap (λ (f : List ℕ). name_of (f ++ name)) split
      ∙ ap name_of (append_assoc front (47 ∷ []) name)
      ∙ ap (name_by (front ++ 47 ∷ name)) (behind_front front name none)
  opens false false empty ends h = absurd cc

  by : (c : Bool) → is_open folder ≡ c → name_of (path_in folder name) ≡ name
  by true e = ap (λ (c : Bool). name_of (if c then folder ++ name else folder ++ (codes "/" ++ name))) e ∙ opens (length folder == 0) (ends_with ◌==◌ folder (codes "/")) refl refl e
  by false e = ap (λ (c : Bool). name_of (if c then folder ++ name else folder ++ (codes "/" ++ name))) e ∙ ap (name_by (folder ++ 47 ∷ name)) (behind_front folder name none)

abbrev pub IsNamed : List ℕ → Option (List ℕ × List ℕ) → Type 0
IsNamed name None = Unit {0}
IsNamed name (Some found) = name_of found.0 ≡ name

pub first_named : (known : Known) (folders : List (List ℕ)) (name : List ℕ) (found : Option (List ℕ × List ℕ)) → behind_slash name ≡ None → IsFirst known folders name found → IsNamed name found
first_named known [] name found none is = subst (IsNamed name) (sym is) tt
first_named known (f ∷ fs) name found none is = elim is [
  | inl here ↦ subst (IsNamed name) (sym here.2) (path_named f name none)
  | inr later ↦ first_named known fs name found none later.1
]
