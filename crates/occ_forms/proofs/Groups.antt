-- Groups of formals, step by step as they are read.
use Rattle.std.proofs.Common.{◌≡◌, ◌≢◌, ◌∙◌, ℕ, true, List, ◌∷◌, refl, sym, ap}
use Rattle.occ_lines.specs.declared.token.Symbol.TheVariants as s
use Rattle.occ_lines.specs.declared.token.Token.{Token}
use Rattle.occ_lines.specs.declared.token.Token.TheVariants as t
use Rattle.occ_lines.specs.declared.token.Word.TheVariants as w
use Rattle.occ_forms_expressions.specs.declared.tree.DataForm.{DataForm}
use Rattle.occ_forms_expressions.specs.declared.tree.TypeForm.{TypeForm}
use Rattle.occ_forms_expressions.specs.Reading.{IsNotCounted}
use Rattle.occ_forms_expressions.specs.Spelling.{data_form_then, type_form_then}
use Rattle.occ_forms.specs.declared.specification_tree.FormalGroup.{FormalGroup}
use Rattle.occ_forms.specs.declared.specification_tree.FormalGroup.TheVariants as fo
use Rattle.occ_forms.specs.declared.specification_tree.ValueGroup.{ValueGroup}
use Rattle.occ_forms.specs.SpecificationReading.{IsEndOfNames, ends_names}
use Rattle.occ_forms.specs.SpecificationSpelling.{formal_group_then, names_then, value_group_then}
use Rattle.occ_forms.proofs.Types.{names_end, no_type}

-- this is read, and this is left
abbrev pub IsDataRead : List Token → DataForm → List Token → Type 0
IsDataRead tokens form rest = (f : DataForm) (k : List Token) → tokens ≡ data_form_then f k → (form ≡ f) × (rest ≡ k)

abbrev pub IsTypeRead : List Token → TypeForm → List Token → Type 0
IsTypeRead tokens form rest = (f : TypeForm) (k : List Token) → IsNotCounted k → tokens ≡ type_form_then f k → (form ≡ f) × (rest ≡ k)

abbrev pub NoNames : List Token → Type 0
NoNames tokens = (n : List ℕ) (ns : List (List ℕ)) (k : List Token) → IsEndOfNames k → tokens ≡ names_then n ns k → ⊥

abbrev pub AreNamesRead : List Token → List ℕ → List (List ℕ) → List Token → Type 0
AreNamesRead tokens first more rest = (n : List ℕ) (ns : List (List ℕ)) (k : List Token) → IsEndOfNames k → tokens ≡ names_then n ns k → (first ≡ n) × (more ≡ ns) × (rest ≡ k)

after_val : (tokens read : List Token) → t.Word w.Val ∷ tokens ≡ t.Word w.Val ∷ read → tokens ≡ read
after_val tokens read e = cc

pub value_no_names : (tokens rest : List Token) (form : DataForm) → IsDataRead tokens form rest → NoNames rest
    → (g : ValueGroup) (k : List Token) → IsEndOfNames k → t.Word w.Val ∷ tokens ≡ value_group_then g k → ⊥
value_no_names tokens rest form one none g k ends e = none g.first g.more k ends (one g.form _ (after_val _ _ e)).1

pub value_same : (form : DataForm) (n : List ℕ) (ns : List (List ℕ)) (g : ValueGroup) → form ≡ g.form → n ≡ g.first → ns ≡ g.more → record { form = form; first = n; more = ns } ≡ g
value_same form n ns g a b c = ap (λ (x : DataForm). record { form = x; first = n; more = ns }) a
    ∙ ap (λ (x : List ℕ). record { form = g.form; first = x; more = ns }) b
    ∙ ap (λ (x : List (List ℕ)). record { form = g.form; first = g.first; more = x }) c

pub value_only : (tokens rest left : List Token) (form : DataForm) (n : List ℕ) (ns : List (List ℕ)) → IsDataRead tokens form rest → AreNamesRead rest n ns left
    → (g : ValueGroup) (k : List Token) → IsEndOfNames k → t.Word w.Val ∷ tokens ≡ value_group_then g k → (◌≡◌ {A = ValueGroup} (record { form = form; first = n; more = ns }) g) × (left ≡ k)
value_only tokens rest left form n ns one names g k ends e =
    let d = one g.form _ (after_val _ _ e) in
    let m = names g.first g.more k ends d.1 in
    (value_same form n ns g d.0 m.0 m.1, m.2)

-- after VAL
pub no_value : (tokens rest : List Token) → tokens ≡ t.Word w.Val ∷ rest
    → ((g : ValueGroup) (k : List Token) → IsEndOfNames k → t.Word w.Val ∷ rest ≡ value_group_then g k → ⊥)
    → (g : FormalGroup) (k : List Token) → IsEndOfNames k → tokens ≡ formal_group_then g k → ⊥
no_value tokens rest val none (fo.Value g) k ends e = none g k ends (sym val ∙ e)
no_value tokens rest val none (fo.Plain form n ns) k ends e = no_type form _ _ refl (sym val ∙ e)

pub value_group_only : (tokens rest left : List Token) (group : ValueGroup) → tokens ≡ t.Word w.Val ∷ rest
    → ((g : ValueGroup) (k : List Token) → IsEndOfNames k → t.Word w.Val ∷ rest ≡ value_group_then g k → (group ≡ g) × (left ≡ k))
    → (g : FormalGroup) (k : List Token) → IsEndOfNames k → tokens ≡ formal_group_then g k → (fo.Value group ≡ g) × (left ≡ k)
value_group_only tokens rest left group val one (fo.Value g) k ends e = let h = one g k ends (sym val ∙ e) in (ap fo.Value h.0, h.1)
value_group_only tokens rest left group val one (fo.Plain form n ns) k ends e = absurd (no_type form _ _ refl (sym val ∙ e))

-- without VAL
pub no_plain_type : (tokens : List Token) → ((k : List Token) → tokens ≢ t.Word w.Val ∷ k)
    → ((f : TypeForm) (k : List Token) → IsNotCounted k → tokens ≡ type_form_then f k → ⊥)
    → (g : FormalGroup) (k : List Token) → IsEndOfNames k → tokens ≡ formal_group_then g k → ⊥
no_plain_type tokens val none (fo.Value g) k ends e = val _ e
no_plain_type tokens val none (fo.Plain form n ns) k ends e = none form _ refl e

pub no_plain_names : (tokens rest : List Token) (form : TypeForm) → ((k : List Token) → tokens ≢ t.Word w.Val ∷ k) → IsTypeRead tokens form rest → NoNames rest
    → (g : FormalGroup) (k : List Token) → IsEndOfNames k → tokens ≡ formal_group_then g k → ⊥
no_plain_names tokens rest form val type none (fo.Value g) k ends e = val _ e
no_plain_names tokens rest form val type none (fo.Plain f n ns) k ends e = none n ns k ends (type f _ refl e).1

pub plain_same : (form f : TypeForm) (n m : List ℕ) (ns ms : List (List ℕ)) → form ≡ f → n ≡ m → ns ≡ ms → fo.Plain form n ns ≡ fo.Plain f m ms
plain_same form f n m ns ms a b c = ap (λ (x : TypeForm). fo.Plain x n ns) a ∙ ap (λ (x : List ℕ). fo.Plain f x ns) b ∙ ap (λ (x : List (List ℕ)). fo.Plain f m x) c

pub plain_only : (tokens rest left : List Token) (form : TypeForm) (n : List ℕ) (ns : List (List ℕ)) → ((k : List Token) → tokens ≢ t.Word w.Val ∷ k) → IsTypeRead tokens form rest → AreNamesRead rest n ns left
    → (g : FormalGroup) (k : List Token) → IsEndOfNames k → tokens ≡ formal_group_then g k → (fo.Plain form n ns ≡ g) × (left ≡ k)
plain_only tokens rest left form n ns val type names (fo.Value g) k ends e = absurd (val _ e)
plain_only tokens rest left form n ns val type names (fo.Plain f m ms) k ends e =
    let d = type f _ refl e in
    let h = names m ms k ends d.1 in
    (plain_same form f n m ns ms d.0 h.0 h.1, h.2)

-- groups with commas between them
pub group_apart : (g : FormalGroup) (k : List Token) → ends_names (t.Symbol s.Comma ∷ formal_group_then g k) ≡ true
group_apart (fo.Value g) k = refl
group_apart (fo.Plain form n ns) k = names_end form n ns k

pub group_begins : (g : FormalGroup) (k j : List Token) → formal_group_then g k ≡ t.Symbol s.Close ∷ j → ⊥
group_begins (fo.Value g) k j e = absurd cc
group_begins (fo.Plain form n ns) k j e = no_type form _ (t.Symbol s.Close ∷ j) refl (sym e)
