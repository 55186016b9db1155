-- That the tokens of a line are spelled by one tree: kind by kind, as the line starts.
use Rattle.std.proofs.Common.{◌≡◌, ◌∙◌, ℕ, List, [], ◌∷◌, None, refl, sym, ap}
use Rattle.occ_lines.specs.declared.token.Symbol.TheVariants as s
use Rattle.occ_lines.specs.declared.token.Token.{Token}
use Rattle.occ_lines.specs.declared.token.Token.TheVariants as t
use Rattle.occ_lines.specs.declared.token.Word.TheVariants as w
use Rattle.occ_forms_expressions.specs.declared.tree.Element.{Element}
use Rattle.occ_forms_expressions.specs.declared.tree.Expr.{Expr}
use Rattle.occ_forms_expressions.specs.declared.tree.TypeForm.{TypeForm}
use Rattle.occ_forms_expressions.specs.Reading.{IsEnd, IsNotCounted}
use Rattle.occ_forms_expressions.specs.Spelling.{expr_then, type_form_then}
use Rattle.occ_forms_expressions.proofs.UniqueExprs.{one_expr, one_type}
use Rattle.occ_forms.specs.declared.binding.Binding.{Binding}
use Rattle.occ_forms.specs.declared.binding.Binding.TheVariants as bi
use Rattle.occ_forms.specs.declared.start.Start.{Start}
use Rattle.occ_forms.specs.declared.start.Start.TheVariants as st
use Rattle.occ_forms.specs.declared.specification_tree.FormalGroup.{FormalGroup}
use Rattle.occ_forms.specs.declared.specification_tree.FunctionHead.{FunctionHead}
use Rattle.occ_forms.specs.declared.specification_tree.Head.TheVariants as he
use Rattle.occ_forms.specs.declared.specification_tree.Inlined.{Inlined}
use Rattle.occ_forms.specs.declared.specification_tree.ItemForm.{ItemForm}
use Rattle.occ_forms.specs.declared.specification_tree.Recast.TheVariants as rc
use Rattle.occ_forms.specs.declared.specification_tree.Specification.TheVariants as sp
use Rattle.occ_forms.specs.declared.specification_tree.Specified.{Specified}
use Rattle.occ_forms.specs.declared.specification_tree.Specified.TheVariants as sd
use Rattle.occ_forms.specs.inside.Lines.{element_line, value_line}
use Rattle.occ_forms.specs.SpecificationReading.{binding_word, start_of}
use Rattle.occ_forms.specs.SpecificationSpelling.{colon, function_head_then, head_tokens, item_then, names_then, specified_tokens}
use Rattle.occ_forms.proofs.SpecificationLists.{ListEnds}
use Rattle.occ_forms.proofs.Once.{element_once, formals_once, function_head_once, inlined_once, item_once, listed_once, named_once, names_once, same_after}
use Rattle.occ_forms.proofs.Results.{after_first, named_is_no_function, no_results, results_end, word_is_no_names}
use Rattle.occ_forms.proofs.Starts.{Started, element_spells, is_data, is_data_head, is_declaration, is_element, is_function, is_function_head, is_procedure, is_protocol, is_protocol_head, is_untyped, is_untyped_value, is_value, started, value_spells}
use Rattle.occ_forms.proofs.Types.{named_is_untyped}

-- a list may end at the colon
comma_ends : ListEnds s.Comma IsEnd colon
comma_ends = record { ends = refl; no_more = λ r q. absurd cc }

semicolon_ends : ListEnds s.Semicolon IsNotCounted colon
semicolon_ends = record { ends = refl; no_more = λ r q. absurd cc }

pub binding_once : (b c : Binding) (j k : List Token) → t.Word (binding_word b) ∷ j ≡ t.Word (binding_word c) ∷ k → (b ≡ c) × (j ≡ k)
binding_once bi.Is bi.Is j k e = (refl, same_after _ _ _ e)
binding_once bi.Is (bi.Recast rc.Retypes) j k e = absurd cc
binding_once bi.Is (bi.Recast rc.Reshapes) j k e = absurd cc
binding_once (bi.Recast rc.Retypes) bi.Is j k e = absurd cc
binding_once (bi.Recast rc.Retypes) (bi.Recast rc.Retypes) j k e = (refl, same_after _ _ _ e)
binding_once (bi.Recast rc.Retypes) (bi.Recast rc.Reshapes) j k e = absurd cc
binding_once (bi.Recast rc.Reshapes) bi.Is j k e = absurd cc
binding_once (bi.Recast rc.Reshapes) (bi.Recast rc.Retypes) j k e = absurd cc
binding_once (bi.Recast rc.Reshapes) (bi.Recast rc.Reshapes) j k e = (refl, same_after _ _ _ e)

-- each kind against itself
procedures : (i j : Inlined) (n m : List ℕ) (gs hs : List FormalGroup) → head_tokens (he.Procedure i n gs) ≡ head_tokens (he.Procedure j m hs) → sd.Head (he.Procedure i n gs) ≡ sd.Head (he.Procedure j m hs)
procedures i j n m gs hs e =
    let a = inlined_once i j (t.Word w.Proc) _ _ (λ q. absurd cc) e in
    let b = named_once n m _ _ a.1 in
    let c = formals_once gs hs [] [] tt tt b.1 in
    ap (λ (x : Inlined). sd.Head (he.Procedure x n gs)) a.0 ∙ ap (λ (x : List ℕ). sd.Head (he.Procedure j x gs)) b.0 ∙ ap (λ (x : List FormalGroup). sd.Head (he.Procedure j m x)) c.0

-- the name that stands after one word or two
name_after : (word : Token) (n m : List ℕ) (j k : List Token) → word ∷ t.Name n ∷ j ≡ word ∷ t.Name m ∷ k → (n ≡ m) × (j ≡ k)
name_after word n m j k e = named_once n m j k (same_after _ _ _ e)

protocols : (n m : List ℕ) (a b : ItemForm) (xs ys : List ItemForm) → specified_tokens (sd.Line (sp.Protocol n a xs)) ≡ specified_tokens (sd.Line (sp.Protocol m b ys)) → sd.Line (sp.Protocol n a xs) ≡ sd.Line (sp.Protocol m b ys)
protocols n m a b xs ys e =
    let h = name_after _ n m _ _ e in
    let i = listed_once s.Semicolon item_then IsNotCounted (λ x k. refl) item_once a b xs ys colon colon semicolon_ends semicolon_ends (same_after _ _ _ h.1) in
    ap (λ (x : List ℕ). sd.Line (sp.Protocol x a xs)) h.0 ∙ ap (λ (x : ItemForm). sd.Line (sp.Protocol m x xs)) i.0 ∙ ap (λ (x : List ItemForm). sd.Line (sp.Protocol m b x)) i.1

data_types : (n m : List ℕ) (f g : TypeForm) → specified_tokens (sd.Line (sp.DataType n f)) ≡ specified_tokens (sd.Line (sp.DataType m g)) → sd.Line (sp.DataType n f) ≡ sd.Line (sp.DataType m g)
data_types n m f g e =
    let h = name_after _ n m _ _ (same_after _ _ _ e) in
    let i = one_type f g colon colon refl refl (same_after _ _ _ h.1) in
    ap (λ (x : List ℕ). sd.Line (sp.DataType x f)) h.0 ∙ ap (λ (x : TypeForm). sd.Line (sp.DataType m x)) i.0

untyped_values : (n m : List ℕ) (a b : Expr) → specified_tokens (sd.Line (sp.Value None n a)) ≡ specified_tokens (sd.Line (sp.Value None m b)) → sd.Line (sp.Value None n a) ≡ sd.Line (sp.Value None m b)
untyped_values n m a b e =
    let h = name_after _ n m _ _ e in
    let i = one_expr a b colon colon refl refl (same_after _ _ _ h.1) in
    ap (λ (x : List ℕ). sd.Line (sp.Value None x a)) h.0 ∙ ap (λ (x : Expr). sd.Line (sp.Value None m x)) i.0

typed_values : (b c : Binding) (f g : TypeForm) (n m : List ℕ) (x y : Expr) → specified_tokens (sd.Line (value_line b f n x)) ≡ specified_tokens (sd.Line (value_line c g m y)) → sd.Line (value_line b f n x) ≡ sd.Line (value_line c g m y)
typed_values b c f g n m x y e =
    let h = one_type f g _ _ refl refl (same_after _ _ _ (sym (value_spells b f n x) ∙ e ∙ value_spells c g m y)) in
    let i = named_once n m _ _ h.1 in
    let o = binding_once b c _ _ i.1 in
    let v = one_expr x y colon colon refl refl o.1 in
    ap (λ (z : Binding). sd.Line (value_line z f n x)) o.0 ∙ ap (λ (z : TypeForm). sd.Line (value_line c z n x)) h.0
    ∙ ap (λ (z : List ℕ). sd.Line (value_line c g z x)) i.0 ∙ ap (λ (z : Expr). sd.Line (value_line c g m z)) v.0

untyped_elements : (n m : List ℕ) (a b : Element) → specified_tokens (sd.Line (sp.Abbreviation None n a)) ≡ specified_tokens (sd.Line (sp.Abbreviation None m b)) → sd.Line (sp.Abbreviation None n a) ≡ sd.Line (sp.Abbreviation None m b)
untyped_elements n m a b e =
    let h = named_once n m _ _ e in
    let i = element_once a b colon colon refl refl (same_after _ _ _ h.1) in
    ap (λ (x : List ℕ). sd.Line (sp.Abbreviation None x a)) h.0 ∙ ap (λ (x : Element). sd.Line (sp.Abbreviation None m x)) i.0

typed_elements : (b c : Binding) (f g : TypeForm) (n m : List ℕ) (x y : Element) → specified_tokens (sd.Line (element_line b f n x)) ≡ specified_tokens (sd.Line (element_line c g m y)) → sd.Line (element_line b f n x) ≡ sd.Line (element_line c g m y)
typed_elements b c f g n m x y e =
    let h = one_type f g _ _ refl refl (sym (element_spells b f n x) ∙ e ∙ element_spells c g m y) in
    let i = named_once n m _ _ h.1 in
    let o = binding_once b c _ _ i.1 in
    let v = element_once x y colon colon refl refl o.1 in
    ap (λ (z : Binding). sd.Line (element_line z f n x)) o.0 ∙ ap (λ (z : TypeForm). sd.Line (element_line c z n x)) h.0
    ∙ ap (λ (z : List ℕ). sd.Line (element_line c g z x)) i.0 ∙ ap (λ (z : Element). sd.Line (element_line c g m z)) v.0

declarations : (f g : TypeForm) (n m : List ℕ) (ns ms : List (List ℕ)) → specified_tokens (sd.Line (sp.Declaration f n ns)) ≡ specified_tokens (sd.Line (sp.Declaration g m ms)) → sd.Line (sp.Declaration f n ns) ≡ sd.Line (sp.Declaration g m ms)
declarations f g n m ns ms e =
    let h = one_type f g _ _ refl refl e in
    let i = names_once n m ns ms colon colon refl refl h.1 in
    ap (λ (x : TypeForm). sd.Line (sp.Declaration x n ns)) h.0 ∙ ap (λ (x : List ℕ). sd.Line (sp.Declaration g x ns)) i.0 ∙ ap (λ (x : List (List ℕ)). sd.Line (sp.Declaration g m x)) i.1

functions : (f g : FunctionHead) (x y : Expr) (xs ys : List Expr) → specified_tokens (sd.Line (sp.Function f x xs)) ≡ specified_tokens (sd.Line (sp.Function g y ys)) → sd.Line (sp.Function f x xs) ≡ sd.Line (sp.Function g y ys)
functions f g x y xs ys e =
    let h = function_head_once f g _ _ tt tt e in
    let i = listed_once s.Comma expr_then IsEnd (λ z k. refl) one_expr x y xs ys colon colon comma_ends comma_ends (same_after _ _ _ h.1) in
    ap (λ (z : FunctionHead). sd.Line (sp.Function z x xs)) h.0 ∙ ap (λ (z : Expr). sd.Line (sp.Function g z xs)) i.0 ∙ ap (λ (z : List Expr). sd.Line (sp.Function g y z)) i.1

-- each kind against another
element_no_declaration : (b : Binding) (f g : TypeForm) (n m : List ℕ) (x : Element) (ms : List (List ℕ)) → specified_tokens (sd.Line (element_line b f n x)) ≡ type_form_then g (names_then m ms colon) → ⊥
element_no_declaration b f g n m x ms e =
    let h = one_type f g _ _ refl refl (sym (element_spells b f n x) ∙ e) in
    word_is_no_names (binding_word b) _ _ ms refl (named_once n m _ _ h.1).1

typed_no_function : (f : TypeForm) (n : List ℕ) (j : List Token) (head : FunctionHead) (k : List Token) → type_form_then f (t.Name n ∷ j) ≡ function_head_then head k → ⊥
typed_no_function f n j head k e =
    no_results head k (t.Name n ∷ j) refl (one_type f head.first (t.Name n ∷ j) (after_first head k) refl (results_end head.more head.inlined _) e).1

element_no_function : (b : Binding) (f : TypeForm) (n : List ℕ) (x : Element) (head : FunctionHead) (k : List Token) → specified_tokens (sd.Line (element_line b f n x)) ≡ function_head_then head k → ⊥
element_no_function b f n x head k e = typed_no_function f n _ head k (sym (element_spells b f n x) ∙ e)

head_no_line : (f g : FunctionHead) (k : List Token) → function_head_then f [] ≡ function_head_then g (t.Word w.Is ∷ k) → ⊥
head_no_line f g k e = let h = (function_head_once f g [] (t.Word w.Is ∷ k) tt tt e).1 in absurd cc

untyped_no_element : (n : List ℕ) (a : Element) (b : Binding) (f : TypeForm) (m : List ℕ) (x : Element) → specified_tokens (sd.Line (sp.Abbreviation None n a)) ≡ specified_tokens (sd.Line (element_line b f m x)) → ⊥
untyped_no_element n a b f m x e = named_is_untyped _ n _ refl f m _ (e ∙ element_spells b f m x)

untyped_no_value : (n : List ℕ) (a : Expr) (b : Binding) (f : TypeForm) (m : List ℕ) (x : Expr) → specified_tokens (sd.Line (sp.Value None n a)) ≡ specified_tokens (sd.Line (value_line b f m x)) → ⊥
untyped_no_value n a b f m x e = named_is_untyped _ n _ refl f m _ (same_after _ _ _ (e ∙ value_spells b f m x))

as_seen : (a b x y : Specified) → a ≡ x → b ≡ y → (specified_tokens x ≡ specified_tokens y → x ≡ y) → specified_tokens a ≡ specified_tokens b → a ≡ b
as_seen a b x y p q one e = p ∙ one (sym (ap specified_tokens p) ∙ e ∙ ap specified_tokens q) ∙ sym q

by : (a b : Specified) (start : Start) → Started a start → Started b start → specified_tokens a ≡ specified_tokens b → a ≡ b
by a b st.Procedure (is_procedure i n gs p) (is_procedure j m hs q) e = as_seen a b _ _ p q (procedures i j n m gs hs) e
by a b st.Protocol (is_protocol_head n p) (is_protocol_head m q) e = as_seen a b _ _ p q (λ h. ap (λ (x : List ℕ). sd.Head (he.Protocol x)) (name_after _ n m _ _ h).0) e
by a b st.Protocol (is_protocol_head n p) (is_protocol m y ys q) e = as_seen a b _ _ p q (λ h. absurd cc) e
by a b st.Protocol (is_protocol n x xs p) (is_protocol_head m q) e = as_seen a b _ _ p q (λ h. absurd cc) e
by a b st.Protocol (is_protocol n x xs p) (is_protocol m y ys q) e = as_seen a b _ _ p q (protocols n m x y xs ys) e
by a b st.DataType (is_data_head n p) (is_data_head m q) e = as_seen a b _ _ p q (λ h. ap (λ (x : List ℕ). sd.Head (he.DataType x)) (name_after _ n m _ _ (same_after _ _ _ h)).0) e
by a b st.DataType (is_data_head n p) (is_data m g q) e = as_seen a b _ _ p q (λ h. absurd cc) e
by a b st.DataType (is_data n f p) (is_data_head m q) e = as_seen a b _ _ p q (λ h. absurd cc) e
by a b st.DataType (is_data n f p) (is_data m g q) e = as_seen a b _ _ p q (data_types n m f g) e
by a b st.Value (is_untyped_value n x p) (is_untyped_value m y q) e = as_seen a b _ _ p q (untyped_values n m x y) e
by a b st.Value (is_untyped_value n x p) (is_value c g m y q) e = as_seen a b _ _ p q (λ h. absurd (untyped_no_value n x c g m y h)) e
by a b st.Value (is_value c f n x p) (is_untyped_value m y q) e = as_seen a b _ _ p q (λ h. absurd (untyped_no_value m y c f n x (sym h))) e
by a b st.Value (is_value c f n x p) (is_value d g m y q) e = as_seen a b _ _ p q (typed_values c d f g n m x y) e
by a b st.Other (is_untyped n x p) (is_untyped m y q) e = as_seen a b _ _ p q (untyped_elements n m x y) e
by a b st.Other (is_untyped n x p) (is_element c g m y q) e = as_seen a b _ _ p q (λ h. absurd (untyped_no_element n x c g m y h)) e
by a b st.Other (is_untyped n x p) (is_declaration g m ms q) e = as_seen a b _ _ p q (λ h. absurd (named_is_untyped _ n _ refl g m _ h)) e
by a b st.Other (is_untyped n x p) (is_function_head g q) e = as_seen a b _ _ p q (λ h. absurd (named_is_no_function _ n _ refl g _ h)) e
by a b st.Other (is_untyped n x p) (is_function g y ys q) e = as_seen a b _ _ p q (λ h. absurd (named_is_no_function _ n _ refl g _ h)) e
by a b st.Other (is_element c f n x p) (is_untyped m y q) e = as_seen a b _ _ p q (λ h. absurd (untyped_no_element m y c f n x (sym h))) e
by a b st.Other (is_element c f n x p) (is_element d g m y q) e = as_seen a b _ _ p q (typed_elements c d f g n m x y) e
by a b st.Other (is_element c f n x p) (is_declaration g m ms q) e = as_seen a b _ _ p q (λ h. absurd (element_no_declaration c f g n m x ms h)) e
by a b st.Other (is_element c f n x p) (is_function_head g q) e = as_seen a b _ _ p q (λ h. absurd (element_no_function c f n x g _ h)) e
by a b st.Other (is_element c f n x p) (is_function g y ys q) e = as_seen a b _ _ p q (λ h. absurd (element_no_function c f n x g _ h)) e
by a b st.Other (is_declaration f n ns p) (is_untyped m y q) e = as_seen a b _ _ p q (λ h. absurd (named_is_untyped _ m _ refl f n _ (sym h))) e
by a b st.Other (is_declaration f n ns p) (is_element c g m y q) e = as_seen a b _ _ p q (λ h. absurd (element_no_declaration c g f m n y ns (sym h))) e
by a b st.Other (is_declaration f n ns p) (is_declaration g m ms q) e = as_seen a b _ _ p q (declarations f g n m ns ms) e
by a b st.Other (is_declaration f n ns p) (is_function_head g q) e = as_seen a b _ _ p q (λ h. absurd (typed_no_function f n _ g _ h)) e
by a b st.Other (is_declaration f n ns p) (is_function g y ys q) e = as_seen a b _ _ p q (λ h. absurd (typed_no_function f n _ g _ h)) e
by a b st.Other (is_function_head f p) (is_untyped m y q) e = as_seen a b _ _ p q (λ h. absurd (named_is_no_function _ m _ refl f _ (sym h))) e
by a b st.Other (is_function_head f p) (is_element c g m y q) e = as_seen a b _ _ p q (λ h. absurd (element_no_function c g m y f _ (sym h))) e
by a b st.Other (is_function_head f p) (is_declaration g m ms q) e = as_seen a b _ _ p q (λ h. absurd (typed_no_function g m _ f _ (sym h))) e
by a b st.Other (is_function_head f p) (is_function_head g q) e = as_seen a b _ _ p q (λ h. ap (λ (z : FunctionHead). sd.Head (he.Function z)) (function_head_once f g [] [] tt tt h).0) e
by a b st.Other (is_function_head f p) (is_function g y ys q) e = as_seen a b _ _ p q (λ h. absurd (head_no_line f g _ h)) e
by a b st.Other (is_function f x xs p) (is_untyped m y q) e = as_seen a b _ _ p q (λ h. absurd (named_is_no_function _ m _ refl f _ (sym h))) e
by a b st.Other (is_function f x xs p) (is_element c g m y q) e = as_seen a b _ _ p q (λ h. absurd (element_no_function c g m y f _ (sym h))) e
by a b st.Other (is_function f x xs p) (is_declaration g m ms q) e = as_seen a b _ _ p q (λ h. absurd (typed_no_function g m _ f _ (sym h))) e
by a b st.Other (is_function f x xs p) (is_function_head g q) e = as_seen a b _ _ p q (λ h. absurd (head_no_line g f _ (sym h))) e
by a b st.Other (is_function f x xs p) (is_function g y ys q) e = as_seen a b _ _ p q (functions f g x y xs ys) e

-- the law
pub one_tree : (a b : Specified) → specified_tokens a ≡ specified_tokens b → a ≡ b
one_tree a b e = by a b (start_of (specified_tokens a)) (started a _ refl) (started b _ (sym (ap start_of e))) e
