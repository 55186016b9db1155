use denote.Enum.Bare.{same_true}
use Rattle.std.proofs.Common.{◌≡◌, ◌∙◌, ℕ, List, ap, arith, rules, sym, true}
use Rattle.std.proofs.lemmas.Slice.Eq.{bytes_eq-Decides}
use Rattle.std.specs.Prelude.{nat_eq}
use Rattle.std.specs.String.{string_bytes}
use Rattle.occ_base.specs.contracts.code.Code as codes
use Rattle.occ_base.specs.contracts.code.Grade as grades
use Rattle.occ_base.specs.declared.code.Code.{Code}
use Rattle.occ_base.specs.declared.code.Grade.{Grade}
use Rattle.occ_editor.proofs.Heads.{clash}
use Rattle.occ_editor.proofs.editor.is_same.Goals as goal
use Rattle.occ_editor.proofs.editor.is_same.Goals.{else-eq, else-eq-2, else-one-other, then-eq, then-eq-2, then-one-other}
use Rattle.occ_messages.specs.Located.{Head}

same_head : (p q : List ℕ) (m n : ℕ) (c d : Code) (g h : Grade) → p ≡ q → m ≡ n → c ≡ d → g ≡ h → ◌≡◌ {A = Head} (record { path = p; line = m; code = c; grade = g }) (record { path = q; line = n; code = d; grade = h })
same_head p q m n c d g h path line code grade =
    ap (λ (x : List ℕ). record { path = x; line = m; code = c; grade = g }) path
    ∙ ap (λ (x : ℕ). record { path = q; line = x; code = c; grade = g }) line
    ∙ ap (λ (x : Code). record { path = q; line = n; code = x; grade = g }) code
    ∙ ap (λ (x : Grade). record { path = q; line = n; code = d; grade = x }) grade

pub returns-then-eq-3 : goal.returns-then-eq-3
returns-then-eq-3 c = λ is.
    elim c.if-eq-2.branch [
      | then-eq-2 w ↦
          elim c.if-one-other.branch [
            | then-one-other v ↦
                elim c.if-eq.branch [
                  | then-eq u ↦
                      let path : string_bytes c.args.one.now.path ≡ string_bytes c.args.other.now.path = sym c.as_str.ensures.value ∙ (bytes_eq-Decides c.as_str.result.now c.as_str-2.result.now).0 (sym c.eq.ensures ∙ u.if-eq.true) ∙ c.as_str-2.ensures.value in
                      let lines : nat_eq c.args.one.now.line c.args.other.now.line ≡ true = sym u.value-is ∙ v.if-one-other.true in
                      let line : c.args.one.now.line ≡ c.args.other.now.line = grind (arith, lines) in
                      let code : c.args.one.now.code ≡ c.args.other.now.code = same_true codes.the_type (search rules) _ _ (sym v.eq-then-one-other.ensures ∙ sym v.value-is ∙ w.if-eq-2.true) in
                      let grade : c.args.one.now.grade ≡ c.args.other.now.grade = same_true grades.the_type (search rules) _ _ (sym w.eq-then-eq-2.ensures ∙ sym w.value-is ∙ c.if-eq-3.true) in
                      same_head _ _ _ _ _ _ _ _ path line code grade
                  | else-eq u ↦ absurd (clash c.if-eq.value v.if-one-other.true (u.value-is ∙ u.if-eq.false))
                ]
            | else-one-other v ↦ absurd (clash c.if-one-other.value w.if-eq-2.true (v.value-is ∙ v.if-one-other.false))
          ]
      | else-eq-2 w ↦ absurd (clash c.if-eq-2.value c.if-eq-3.true (w.value-is ∙ w.if-eq-2.false))
    ]
