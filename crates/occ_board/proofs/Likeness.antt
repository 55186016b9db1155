-- Reads of files with the same lines have the same expansion.
use Rattle.std.proofs.Common.{◌≡◌, ◌∙◌, ◌<◌, ℕ, suc, Bool, true, false, cond, List, [], ◌∷◌, Option, Some, None, length, get_or, refl, sym, ap, arith}
use Rattle.std.specs.Option.{option_and_then, option_map}
use Rattle.std.specs.Str.{bytes_eq}
use Rattle.occ_board.specs.inside.Likeness.{AreAlikeReads, IsAlikeRead}
use Rattle.occ_forms.specs.Prepared.{Prepared}
use Rattle.occ_forms.specs.declared.source.SourceLine.{SourceLine}
use Rattle.occ_lines.specs.Listing.{listed}
use Rattle.occ_project.specs.Expansion.{expansion}
use Rattle.occ_project.specs.Reads.{member}
use Rattle.occ_project.specs.declared.reads.Read.{Read}
use Rattle.occ_project_units.proofs.Looks.{IsAlike, looks_alike}

abbrev listed_of : Option Prepared → Option (Option (List (List ℕ)))
listed_of o = option_map listed (option_map (λ (s : Prepared). s.text) o)

listed_is : (o : Option Prepared) → listed_of o ≡ option_map (λ (s : Prepared). listed s.text) o
listed_is None = refl
listed_is (Some s) = refl

abbrev lines_of : Option Read → Option (List SourceLine)
lines_of o = option_map (λ (s : Prepared). s.lines) (option_and_then (λ (r : Read). r.source) o)

abbrev units_of : Option Read → Option (Option (List (List ℕ)))
units_of o = listed_of (option_and_then (λ (r : Read). r.source) o)

-- the first files are alike, and so are those of a name among the others
first_alike : (x y : Read) (a b : List Read) (name : List ℕ) → IsAlikeRead x y → IsAlike a b name → IsAlike (x ∷ a) (y ∷ b) name
first_alike x y a b name h more = record {
  lines = lines_by (bytes_eq x.name name) (bytes_eq y.name name) same;
  units = units_by (bytes_eq x.name name) (bytes_eq y.name name) same;
} where
  same : bytes_eq x.name name ≡ bytes_eq y.name name
  same = ap (λ (n : List ℕ). bytes_eq n name) h.name

  lines_by : (p q : Bool) → p ≡ q → lines_of (cond q (Some y) (member b name)) ≡ lines_of (cond p (Some x) (member a name))
  lines_by true true e = sym h.lines
  lines_by true false e = absurd cc
  lines_by false true e = absurd cc
  lines_by false false e = more.lines

  units_by : (p q : Bool) → p ≡ q → units_of (cond q (Some y) (member b name)) ≡ units_of (cond p (Some x) (member a name))
  units_by true true e = listed_is y.source ∙ sym h.units ∙ sym (listed_is x.source)
  units_by true false e = absurd cc
  units_by false true e = absurd cc
  units_by false false e = more.units

-- the file of a name is in both, alike, or in neither
found_alike : (a b : List Read) → AreAlikeReads a b → (name : List ℕ) → IsAlike a b name
found_alike [] [] h name = record { lines = refl; units = refl }
found_alike [] (y ∷ b) h name = absurd h
found_alike (x ∷ a) [] h name = absurd h
found_alike (x ∷ a) (y ∷ b) h name = first_alike x y a b name h.0 (found_alike a b h.1 name)

pub same_expansion : (a b : List Read) (u v : List ℕ) → u ≡ v → AreAlikeReads a b → expansion b v ≡ expansion a u
same_expansion a b u v e h = ap (expansion b) (sym e) ∙ looks_alike a b u (λ name _. found_alike a b h name)

-- from place to place
pub alike_places : (a b : List Read) → length a ≡ length b → ((i : ℕ) (d : Read) → i < length a → IsAlikeRead (get_or a i d) (get_or b i d)) → AreAlikeReads a b
alike_places [] [] l h = tt
alike_places [] (y ∷ b) l h = cc
alike_places (x ∷ a) [] l h = cc
alike_places (x ∷ a) (y ∷ b) l h = (h 0 x (omega arith), alike_places a b (omega (arith, l)) (λ i d lt. h (suc i) d (omega (arith, lt))))
