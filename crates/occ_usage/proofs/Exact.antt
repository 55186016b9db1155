-- Two diagnostics at one place of the order are one.
use Rattle.std.proofs.Common.{◌≡◌, ◌∙◌, ℕ, List, Option, Some, None, refl, ap, sym}
use denote.Enum.Bare.{same_true}
use Rattle.std.proofs.lemmas.Map.Text.{is_eq-slice_cmp}
use Rattle.std.specs.Cmp.{ranked}
use Rattle.std.specs.Cmp.Lexicographic.{same_text, slice_cmp}
use Rattle.std.specs.Option.{option_cmp}
use Rattle.std.specs.Ordering.{is_eq, nat_cmp, ordering_then}
use Rattle.std.specs.declared.cmp.Ordering.{Ordering}
use Rattle.std.specs.declared.cmp.Ordering.TheVariants.{Less, Equal, Greater}
use Rattle.occ_base.specs.Order.{diag_order}
use Rattle.occ_base.specs.contracts.code.Code.{the_type}
use Rattle.occ_base.specs.contracts.code.CodeOrd.TheImpl as code_ord
use Rattle.occ_base.specs.contracts.code.CodeOrd.TheImpl.Laws as laws
use Rattle.occ_base.specs.contracts.code.GradeOrd.TheImpl as grade_ord
use Rattle.occ_base.specs.declared.code.Code.{Code}
use Rattle.occ_base.specs.declared.code.Grade.{Grade}
use Rattle.occ_base.specs.declared.code.Grade.TheVariants as grade
use Rattle.occ_base.specs.declared.diag.Diag.{Diag}

then_equal : (a b : Ordering) → ordering_then a b ≡ Equal → (a ≡ Equal) × (b ≡ Equal)
then_equal Less b h = absurd cc
then_equal Equal b h = (refl, h)
then_equal Greater b h = absurd cc

same_bytes : (a b : List ℕ) → slice_cmp nat_cmp a b ≡ Equal → a ≡ b
same_bytes a b h = same_text a b (sym (sym (is_eq-slice_cmp a b) ∙ ap is_eq h))

same_name : (a b : Option (List ℕ)) → option_cmp (slice_cmp nat_cmp) a b ≡ Equal → a ≡ b
same_name None None h = refl
same_name None (Some b) h = absurd cc
same_name (Some a) None h = absurd cc
same_name (Some a) (Some b) h = ap Some (same_bytes a b h)

same_line : (m n : ℕ) → nat_cmp m n ≡ Equal → m ≡ n
same_line m n h = ranked m n Equal (sym h)

unfoldable diag_of : List ℕ → ℕ → Code → Grade → Option (List ℕ) → Diag
diag_of file line c g name = record { file = file; line = line; code = c; grade = g; name = name }

same_code : (a b : Code) → (code_ord.ghosts).cmp a b ≡ Equal → a ≡ b
same_code a b h = same_true the_type tt a b (laws.matches_eq-law a b ∙ ap is_eq h)

same_grade : (a b : Grade) → (grade_ord.ghosts).cmp a b ≡ Equal → a ≡ b
same_grade grade.Error grade.Error h = refl
same_grade grade.Error grade.Check h = absurd cc
same_grade grade.Check grade.Error h = absurd cc
same_grade grade.Check grade.Check h = refl

pub same_diags : (d e : Diag) → diag_order d e ≡ Equal → d ≡ e
unfolding diag_of
same_diags d e h =
    let by_file = then_equal (slice_cmp nat_cmp d.file e.file) _ h in
    let by_line = then_equal (nat_cmp d.line e.line) _ by_file.1 in
    let codes = then_equal ((code_ord.ghosts).cmp d.code e.code) _ by_line.1 in
    let names = then_equal ((grade_ord.ghosts).cmp d.grade e.grade) _ codes.1 in
    ap (λ x. diag_of x d.line d.code d.grade d.name) (same_bytes d.file e.file by_file.0)
    ∙ ap (λ x. diag_of e.file x d.code d.grade d.name) (same_line d.line e.line by_line.0)
    ∙ ap (λ x. diag_of e.file e.line x d.grade d.name) (same_code d.code e.code codes.0)
    ∙ ap (λ x. diag_of e.file e.line e.code x d.name) (same_grade d.grade e.grade names.0)
    ∙ ap (λ x. diag_of e.file e.line e.code e.grade x) (same_name d.name e.name names.1)
