-- Further names, step by step as they are read.
use Rattle.std.proofs.Common.{◌≡◌, ◌≤◌, true, false, ℕ, List, [], ◌∷◌, length, refl, sym, ◌∙◌, ap, arith}
use Rattle.occ_lines.specs.declared.token.Symbol.TheVariants as s
use Rattle.occ_lines.specs.declared.token.Token.{Token}
use Rattle.occ_lines.specs.declared.token.Token.TheVariants as t
use Rattle.occ_forms_expressions.proofs.Many.{Within}
use Rattle.occ_forms.specs.SpecificationReading.{IsEndOfNames, begins_name, ends_names}
use Rattle.occ_forms.specs.SpecificationSpelling.{name_then, next}

-- no name follows, so the name before it is no type
abbrev pub IsAtNoName : List Token → Type 0
IsAtNoName k = begins_name k ≡ false

end_is_no_name : (k : List Token) → IsEndOfNames k → IsAtNoName k
end_is_no_name [] ends = refl
end_is_no_name (t.Name n ∷ k) ends = absurd cc
end_is_no_name (t.Decimal n ∷ k) ends = refl
end_is_no_name (t.Hexadecimal n ∷ k) ends = refl
end_is_no_name (t.Character n ∷ k) ends = refl
end_is_no_name (t.String n ∷ k) ends = refl
end_is_no_name (t.Word n ∷ k) ends = refl
end_is_no_name (t.Symbol n ∷ k) ends = refl

pub names_within : Within (next s.Comma name_then) IsAtNoName IsEndOfNames
names_within [] k ends = end_is_no_name k ends
names_within (n ∷ ns) k ends = refl

pub name_is_no_end : (n : List ℕ) (rest k : List Token) → rest ≡ next s.Comma name_then n k → IsAtNoName k → IsEndOfNames rest → ⊥
name_is_no_end n rest k is none ends = let h : true ≡ false = sym ends ∙ ap ends_names is ∙ none in absurd cc

pub next_same : (n m : List ℕ) (rest j k : List Token) → rest ≡ next s.Comma name_then n j → rest ≡ next s.Comma name_then m k → (n ≡ m) × (j ≡ k)
next_same n m rest j k a b = let h : t.Symbol s.Comma ∷ t.Name n ∷ j ≡ t.Symbol s.Comma ∷ t.Name m ∷ k = sym a ∙ b in (cc, cc)

pub next_shorter : (n : List ℕ) (rest k : List Token) → rest ≡ next s.Comma name_then n k → length k ≤ length rest
next_shorter n rest k is = rw is (omega arith)

-- a name that is read, and then further ones
pub first_same : (tokens rest : List Token) (n m : List ℕ) (k : List Token) → tokens ≡ t.Name n ∷ rest → tokens ≡ t.Name m ∷ k → (n ≡ m) × (rest ≡ k)
first_same tokens rest n m k a b = let h : t.Name n ∷ rest ≡ t.Name m ∷ k = sym a ∙ b in (cc, cc)
