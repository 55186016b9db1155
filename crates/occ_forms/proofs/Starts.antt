-- What starts each kind of line.
use Rattle.std.proofs.Common.{◌≡◌, ◌∙◌, ℕ, List, [], ◌∷◌, Option, Some, None, Result, Ok, Err, IfOk, refl, sym, ap, subst}
use Rattle.std.specs.declared.alloc.AllocError.{AllocError}
use Rattle.occ_lines.specs.declared.token.Symbol.TheVariants as s
use Rattle.occ_lines.specs.declared.token.Token.{Token}
use Rattle.occ_lines.specs.declared.token.Token.TheVariants as t
use Rattle.occ_lines.specs.declared.token.Word.TheVariants as w
use Rattle.occ_forms_expressions.specs.declared.tree.Element.{Element}
use Rattle.occ_forms_expressions.specs.declared.tree.Expr.{Expr}
use Rattle.occ_forms_expressions.specs.declared.tree.TypeForm.{TypeForm}
use Rattle.occ_forms_expressions.specs.Spelling.{element_then, expr_then, type_form_then}
use Rattle.occ_forms.specs.declared.binding.Binding.{Binding}
use Rattle.occ_forms.specs.declared.binding.Binding.TheVariants as bi
use Rattle.occ_forms.specs.declared.start.Start.{Start}
use Rattle.occ_forms.specs.declared.start.Start.TheVariants as st
use Rattle.occ_forms.specs.declared.specification_tree.FormalGroup.{FormalGroup}
use Rattle.occ_forms.specs.declared.specification_tree.FunctionHead.{FunctionHead}
use Rattle.occ_forms.specs.declared.specification_tree.Head.TheVariants as he
use Rattle.occ_forms.specs.declared.specification_tree.Inlined.{Inlined}
use Rattle.occ_forms.specs.declared.specification_tree.Inlined.TheVariants as nl
use Rattle.occ_forms.specs.declared.specification_tree.ItemForm.{ItemForm}
use Rattle.occ_forms.specs.declared.specification_tree.Specification.TheVariants as sp
use Rattle.occ_forms.specs.declared.specification_tree.Specified.{Specified}
use Rattle.occ_forms.specs.declared.specification_tree.Specified.TheVariants as sd
use Rattle.occ_forms.specs.inside.Lines.{element_line, value_line}
use Rattle.occ_forms.specs.SpecificationReading.{binding_word, start_of}
use Rattle.occ_forms.specs.SpecificationSpelling.{colon, function_head_then, head_tokens, item_then, listed, names_then, specified_tokens}
use Rattle.occ_forms.proofs.Types.{type_starts}

-- the trees whose lines start so
pub data Started (x : Specified) : Start → Type 0 where
  is_procedure : (i : Inlined) (n : List ℕ) (gs : List FormalGroup) → x ≡ sd.Head (he.Procedure i n gs) → Started x st.Procedure
  is_protocol_head : (n : List ℕ) → x ≡ sd.Head (he.Protocol n) → Started x st.Protocol
  is_protocol : (n : List ℕ) (item : ItemForm) (more : List ItemForm) → x ≡ sd.Line (sp.Protocol n item more) → Started x st.Protocol
  is_data_head : (n : List ℕ) → x ≡ sd.Head (he.DataType n) → Started x st.DataType
  is_data : (n : List ℕ) (form : TypeForm) → x ≡ sd.Line (sp.DataType n form) → Started x st.DataType
  is_untyped_value : (n : List ℕ) (e : Expr) → x ≡ sd.Line (sp.Value None n e) → Started x st.Value
  is_value : (b : Binding) (form : TypeForm) (n : List ℕ) (e : Expr) → x ≡ sd.Line (value_line b form n e) → Started x st.Value
  is_untyped : (n : List ℕ) (el : Element) → x ≡ sd.Line (sp.Abbreviation None n el) → Started x st.Other
  is_element : (b : Binding) (form : TypeForm) (n : List ℕ) (el : Element) → x ≡ sd.Line (element_line b form n el) → Started x st.Other
  is_declaration : (form : TypeForm) (n : List ℕ) (ns : List (List ℕ)) → x ≡ sd.Line (sp.Declaration form n ns) → Started x st.Other
  is_function_head : (head : FunctionHead) → x ≡ sd.Head (he.Function head) → Started x st.Other
  is_function : (head : FunctionHead) (e : Expr) (more : List Expr) → x ≡ sd.Line (sp.Function head e more) → Started x st.Other

pub started : (x : Specified) (start : Start) → start_of (specified_tokens x) ≡ start → Started x start
started (sd.Line (sp.Declaration form n ns)) start e = subst (Started _) (sym (type_starts form _) ∙ e) (is_declaration form n ns refl)
started (sd.Line (sp.Abbreviation None n el)) start e = subst (Started _) e (is_untyped n el refl)
started (sd.Line (sp.Abbreviation (Some form) n el)) start e = subst (Started _) (sym (type_starts form _) ∙ e) (is_element bi.Is form n el refl)
started (sd.Line (sp.Value None n x)) start e = subst (Started _) e (is_untyped_value n x refl)
started (sd.Line (sp.Value (Some form) n x)) start e = subst (Started _) e (is_value bi.Is form n x refl)
started (sd.Line (sp.Retyped recast form n el)) start e = subst (Started _) (sym (type_starts form _) ∙ e) (is_element (bi.Recast recast) form n el refl)
started (sd.Line (sp.RetypedValue recast form n x)) start e = subst (Started _) e (is_value (bi.Recast recast) form n x refl)
started (sd.Line (sp.Protocol n item more)) start e = subst (Started _) e (is_protocol n item more refl)
started (sd.Line (sp.DataType n form)) start e = subst (Started _) e (is_data n form refl)
started (sd.Line (sp.Function head x more)) start e = subst (Started _) (sym (type_starts head.first _) ∙ e) (is_function head x more refl)
started (sd.Head (he.Procedure nl.No n gs)) start e = subst (Started _) e (is_procedure nl.No n gs refl)
started (sd.Head (he.Procedure nl.Yes n gs)) start e = subst (Started _) e (is_procedure nl.Yes n gs refl)
started (sd.Head (he.Function head)) start e = subst (Started _) (sym (type_starts head.first _) ∙ e) (is_function_head head refl)
started (sd.Head (he.Protocol n)) start e = subst (Started _) e (is_protocol_head n refl)
started (sd.Head (he.DataType n)) start e = subst (Started _) e (is_data_head n refl)

-- what each reader has to answer for the trees of its start
abbrev pub IsOnly : List Token → Option Specified → Type 0
IsOnly tokens r = (x : Specified) → tokens ≡ specified_tokens x → r ≡ Some x

-- the trees that start so are those that are meant
pub by_start : (tokens : List Token) (r : Option Specified) (start : Start) → start_of tokens ≡ start
    → ((x : Specified) → Started x start → tokens ≡ specified_tokens x → r ≡ Some x) → IsOnly tokens r
by_start tokens r start starts one x e = one x (started x start (ap start_of (sym e) ∙ starts)) e

same : (tokens : List Token) (r : Option Specified) (x y : Specified) → x ≡ y → tokens ≡ specified_tokens x → (tokens ≡ specified_tokens y → r ≡ Some y) → r ≡ Some x
same tokens r x y q e one = one (e ∙ ap specified_tokens q) ∙ ap (λ (z : Specified). Some z) (sym q)

pub procedure_only : (tokens : List Token) (result : Result (Option Specified) AllocError) → start_of tokens ≡ st.Procedure
    → IfOk result (λ r. (i : Inlined) (n : List ℕ) (gs : List FormalGroup) → tokens ≡ head_tokens (he.Procedure i n gs) → r ≡ Some (sd.Head (he.Procedure i n gs)))
    → IfOk result (IsOnly tokens)
procedure_only tokens (Err e) starts one = tt
procedure_only tokens (Ok r) starts one = by_start tokens r st.Procedure starts by where
  by : (x : Specified) → Started x st.Procedure → tokens ≡ specified_tokens x → r ≡ Some x
  by x (is_procedure i n gs q) e = same tokens r x _ q e (one i n gs)

pub protocol_only : (tokens : List Token) (result : Result (Option Specified) AllocError) → start_of tokens ≡ st.Protocol
    → IfOk result (λ r. (n : List ℕ) → tokens ≡ t.Word w.Protocol ∷ t.Name n ∷ [] → r ≡ Some (sd.Head (he.Protocol n)))
    → IfOk result (λ r. (n : List ℕ) (item : ItemForm) (more : List ItemForm) → tokens ≡ t.Word w.Protocol ∷ t.Name n ∷ t.Word w.Is ∷ listed s.Semicolon item_then item more colon → r ≡ Some (sd.Line (sp.Protocol n item more)))
    → IfOk result (IsOnly tokens)
protocol_only tokens (Err e) starts head line = tt
protocol_only tokens (Ok r) starts head line = by_start tokens r st.Protocol starts by where
  by : (x : Specified) → Started x st.Protocol → tokens ≡ specified_tokens x → r ≡ Some x
  by x (is_protocol_head n q) e = same tokens r x _ q e (head n)
  by x (is_protocol n item more q) e = same tokens r x _ q e (line n item more)

pub data_type_only : (tokens : List Token) (result : Result (Option Specified) AllocError) → start_of tokens ≡ st.DataType
    → IfOk result (λ r. (n : List ℕ) → tokens ≡ t.Word w.Data ∷ t.Word w.Type ∷ t.Name n ∷ [] → r ≡ Some (sd.Head (he.DataType n)))
    → IfOk result (λ r. (n : List ℕ) (form : TypeForm) → tokens ≡ t.Word w.Data ∷ t.Word w.Type ∷ t.Name n ∷ t.Word w.Is ∷ type_form_then form colon → r ≡ Some (sd.Line (sp.DataType n form)))
    → IfOk result (IsOnly tokens)
data_type_only tokens (Err e) starts head line = tt
data_type_only tokens (Ok r) starts head line = by_start tokens r st.DataType starts by where
  by : (x : Specified) → Started x st.DataType → tokens ≡ specified_tokens x → r ≡ Some x
  by x (is_data_head n q) e = same tokens r x _ q e (head n)
  by x (is_data n form q) e = same tokens r x _ q e (line n form)

pub value_spells : (b : Binding) (form : TypeForm) (n : List ℕ) (e : Expr) → specified_tokens (sd.Line (value_line b form n e)) ≡ t.Word w.Val ∷ type_form_then form (t.Name n ∷ t.Word (binding_word b) ∷ expr_then e colon)
value_spells bi.Is form n e = refl
value_spells (bi.Recast recast) form n e = refl

pub value_only : (tokens : List Token) (result : Result (Option Specified) AllocError) → start_of tokens ≡ st.Value
    → IfOk result (λ r. (n : List ℕ) (e : Expr) → tokens ≡ t.Word w.Val ∷ t.Name n ∷ t.Word w.Is ∷ expr_then e colon → r ≡ Some (sd.Line (sp.Value None n e)))
    → IfOk result (λ r. (b : Binding) (form : TypeForm) (n : List ℕ) (e : Expr) → tokens ≡ t.Word w.Val ∷ type_form_then form (t.Name n ∷ t.Word (binding_word b) ∷ expr_then e colon) → r ≡ Some (sd.Line (value_line b form n e)))
    → IfOk result (IsOnly tokens)
value_only tokens (Err e) starts untyped typed = tt
value_only tokens (Ok r) starts untyped typed = by_start tokens r st.Value starts by where
  by : (x : Specified) → Started x st.Value → tokens ≡ specified_tokens x → r ≡ Some x
  by x (is_untyped_value n a q) e = same tokens r x _ q e (untyped n a)
  by x (is_value b form n a q) e = same tokens r x _ q e (λ is. typed b form n a (is ∙ value_spells b form n a))

pub element_spells : (b : Binding) (form : TypeForm) (n : List ℕ) (el : Element) → specified_tokens (sd.Line (element_line b form n el)) ≡ type_form_then form (t.Name n ∷ t.Word (binding_word b) ∷ element_then el colon)
element_spells bi.Is form n el = refl
element_spells (bi.Recast recast) form n el = refl

pub other_only : (tokens : List Token) (result : Result (Option Specified) AllocError) → start_of tokens ≡ st.Other
    → IfOk result (λ r. (n : List ℕ) (el : Element) → tokens ≡ t.Name n ∷ t.Word w.Is ∷ element_then el colon → r ≡ Some (sd.Line (sp.Abbreviation None n el)))
    → IfOk result (λ r. (b : Binding) (form : TypeForm) (n : List ℕ) (el : Element) → tokens ≡ type_form_then form (t.Name n ∷ t.Word (binding_word b) ∷ element_then el colon) → r ≡ Some (sd.Line (element_line b form n el)))
    → IfOk result (λ r. (form : TypeForm) (n : List ℕ) (ns : List (List ℕ)) → tokens ≡ type_form_then form (names_then n ns colon) → r ≡ Some (sd.Line (sp.Declaration form n ns)))
    → IfOk result (λ r. (head : FunctionHead) → tokens ≡ function_head_then head [] → r ≡ Some (sd.Head (he.Function head)))
    → IfOk result (λ r. (head : FunctionHead) (e : Expr) (more : List Expr) → tokens ≡ function_head_then head (t.Word w.Is ∷ listed s.Comma expr_then e more colon) → r ≡ Some (sd.Line (sp.Function head e more)))
    → IfOk result (IsOnly tokens)
other_only tokens (Err e) starts untyped bound declared head line = tt
other_only tokens (Ok r) starts untyped bound declared head line = by_start tokens r st.Other starts by where
  by : (x : Specified) → Started x st.Other → tokens ≡ specified_tokens x → r ≡ Some x
  by x (is_untyped n el q) e = same tokens r x _ q e (untyped n el)
  by x (is_element b form n el q) e = same tokens r x _ q e (λ is. bound b form n el (is ∙ element_spells b form n el))
  by x (is_declaration form n ns q) e = same tokens r x _ q e (declared form n ns)
  by x (is_function_head f q) e = same tokens r x _ q e (head f)
  by x (is_function f a more q) e = same tokens r x _ q e (line f a more)
