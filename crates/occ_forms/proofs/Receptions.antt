-- What stands after `el ?`, as it is read.
use Rattle.std.proofs.Common.{◌≡◌, ◌≢◌, ℕ, List, [], ◌∷◌, Option, Some, None, Result, Ok, Err, IfOk, refl, sym, ◌∙◌, ap}
use Rattle.std.specs.declared.alloc.AllocError.{AllocError}
use Rattle.occ_lines.specs.declared.token.Symbol.TheVariants as s
use Rattle.occ_lines.specs.declared.token.Token.{Token}
use Rattle.occ_lines.specs.declared.token.Token.TheVariants as t
use Rattle.occ_lines.specs.declared.token.Word.TheVariants as w
use Rattle.occ_forms_expressions.specs.declared.tree.Element.{Element}
use Rattle.occ_forms_expressions.specs.declared.tree.Expr.{Expr}
use Rattle.occ_forms_expressions.specs.Reading.{IsEnd}
use Rattle.occ_forms_expressions.specs.Spelling.{element_then, expr_then}
use Rattle.occ_forms.specs.declared.input.Received.{Received}
use Rattle.occ_forms.specs.declared.input.Received.TheVariants as re
use Rattle.occ_forms.specs.declared.tree.Guarded.{Guarded}
use Rattle.occ_forms.specs.declared.tree.Guarded.TheVariants as gu
use Rattle.occ_forms.specs.declared.tree.Input.{Input}
use Rattle.occ_forms.specs.declared.tree.Input.TheVariants as ip
use Rattle.occ_forms.specs.declared.tree.InputItem.{InputItem}
use Rattle.occ_forms.specs.inside.Received.{received_tokens}
use Rattle.occ_forms.specs.Spelling.{guarded_then, input_item_then, tagged}
use Rattle.occ_forms.specs.SpecificationSpelling.{listed}

inside : (token : Token) (rest following read : List Token) → rest ≡ token ∷ following → rest ≡ token ∷ read → following ≡ read
inside token rest following read a b = let h : token ∷ following ≡ token ∷ read = sym a ∙ b in (cc)

pub reception_only : (tokens rest following : List Token) (from : Element) (result : Result (Option Received) AllocError)
    → ((el : Element) (k : List Token) → IsEnd k → tokens ≡ element_then el k → (from ≡ el) × (rest ≡ k))
    → rest ≡ t.Symbol s.Input ∷ following
    → IfOk result (λ r. (x : InputItem) (xs : List InputItem) → following ≡ listed s.Semicolon input_item_then x xs [] → r ≡ Some (re.Input (ip.Plain from x xs)))
    → IfOk result (λ r. (e : Expr) → following ≡ t.Word w.After ∷ expr_then e [] → r ≡ Some (re.Input (ip.After from e)))
    → IfOk result (λ r. following ≡ t.Word w.Case ∷ [] → r ≡ Some (re.Case from))
    → IfOk result (λ r. (n : List ℕ) (xs : List InputItem) → following ≡ t.Word w.Case ∷ tagged input_item_then n xs [] → r ≡ Some (re.Input (ip.Tagged from n xs)))
    → IfOk result (λ r. (x : Received) → tokens ≡ received_tokens x → r ≡ Some x)
reception_only tokens rest following from (Err e) one is plain after case tagged = tt
reception_only tokens rest following from (Ok r) one is plain after case tagged = by where
  by : (x : Received) → tokens ≡ received_tokens x → r ≡ Some x
  by (re.Input (ip.Plain el x xs)) e = let h = one el _ refl e in
      plain x xs (inside _ _ _ _ is h.1) ∙ ap (λ (y : Element). Some (re.Input (ip.Plain y x xs))) h.0
  by (re.Input (ip.After el x)) e = let h = one el _ refl e in
      after x (inside _ _ _ _ is h.1) ∙ ap (λ (y : Element). Some (re.Input (ip.After y x))) h.0
  by (re.Input (ip.Tagged el n xs)) e = let h = one el _ refl e in
      tagged n xs (inside _ _ _ _ is h.1) ∙ ap (λ (y : Element). Some (re.Input (ip.Tagged y n xs))) h.0
  by (re.Case el) e = let h = one el _ refl e in
      case (inside _ _ _ _ is h.1) ∙ ap (λ (y : Element). Some (re.Case y)) h.0

pub found_is : (r : Option Received) (y x : Received) → r ≡ Some y → y ≡ x → r ≡ Some x
found_is r y x a b = a ∙ ap (λ (z : Received). Some z) b

-- what was received is an input, or the head of a selecting one
pub input_same : {X : Type 0} (f : Input → X) (r : Option Received) (input x : Input) → r ≡ Some (re.Input input) → r ≡ Some (re.Input x) → Some (f input) ≡ Some (f x)
input_same f r input x a b = let h : Some (re.Input input) ≡ Some (re.Input x) = sym a ∙ b in let i : input ≡ x = (cc) in ap (λ (y : Input). Some (f y)) i

pub case_same : {X : Type 0} (f : Element → X) (r : Option Received) (el x : Element) → r ≡ Some (re.Case el) → r ≡ Some (re.Case x) → Some (f el) ≡ Some (f x)
case_same f r el x a b = let h : Some (re.Case el) ≡ Some (re.Case x) = sym a ∙ b in let i : el ≡ x = (cc) in ap (λ (y : Element). Some (f y)) i

pub not_both : {Z : Type 0} (r : Option Received) (input : Input) (el : Element) → r ≡ Some (re.Input input) → r ≡ Some (re.Case el) → Z
not_both r input el a b = let h : Some (re.Input input) ≡ Some (re.Case el) = sym a ∙ b in absurd cc

pub not_none : {Z : Type 0} (r : Option Received) (x : Received) → r ≡ None → r ≡ Some x → Z
not_none r x a b = let h : None ≡ Some x = sym a ∙ b in absurd cc

-- after a guard
abbrev pub AnswersReceived : List Token → Option Received → Type 0
AnswersReceived tokens r = (x : Received) → tokens ≡ received_tokens x → r ≡ Some x

pub guarded_input : (tokens : List Token) (r : Option Received) (input : Input) → tokens ≢ t.Word w.Skip ∷ [] → AnswersReceived tokens r → r ≡ Some (re.Input input)
    → (x : Guarded) → tokens ≡ guarded_then x [] → Some (gu.Input input) ≡ Some x
guarded_input tokens r input none only is gu.Skip e = absurd (none e)
guarded_input tokens r input none only is (gu.Input x) e = input_same (λ y. gu.Input y) r input x is (only (re.Input x) e)
guarded_input tokens r input none only is (gu.CaseInput el) e = not_both r input el is (only (re.Case el) e)

pub guarded_case : (tokens : List Token) (r : Option Received) (from : Element) → tokens ≢ t.Word w.Skip ∷ [] → AnswersReceived tokens r → r ≡ Some (re.Case from)
    → (x : Guarded) → tokens ≡ guarded_then x [] → Some (gu.CaseInput from) ≡ Some x
guarded_case tokens r from none only is gu.Skip e = absurd (none e)
guarded_case tokens r from none only is (gu.Input x) e = not_both r x from (only (re.Input x) e) is
guarded_case tokens r from none only is (gu.CaseInput el) e = case_same (λ y. gu.CaseInput y) r from el is (only (re.Case el) e)

pub guarded_none : (tokens : List Token) (r : Option Received) → tokens ≢ t.Word w.Skip ∷ [] → AnswersReceived tokens r → r ≡ None
    → (x : Guarded) → tokens ≡ guarded_then x [] → ⊥
guarded_none tokens r none only is gu.Skip e = absurd (none e)
guarded_none tokens r none only is (gu.Input x) e = not_none r (re.Input x) is (only (re.Input x) e)
guarded_none tokens r none only is (gu.CaseInput el) e = not_none r (re.Case el) is (only (re.Case el) e)
