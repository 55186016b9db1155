-- Lines that have no form.
use Rattle.std.proofs.Common.{◌≡◌, ◌≢◌, ◌∙◌, ℕ, List, [], ◌∷◌, refl, sym, ap}
use Rattle.occ_lines.specs.declared.token.Symbol.TheVariants as s
use Rattle.occ_lines.specs.declared.token.Token.{Token}
use Rattle.occ_lines.specs.declared.token.Token.TheVariants as t
use Rattle.occ_lines.specs.declared.token.Word.TheVariants as w
use Rattle.occ_forms_expressions.specs.declared.tree.Builtin.TheVariants as uv
use Rattle.occ_forms_expressions.specs.declared.tree.Element.{Element}
use Rattle.occ_forms_expressions.specs.declared.tree.PrimitiveWord.TheVariants as pr
use Rattle.occ_forms_expressions.specs.declared.tree.TypeForm.{TypeForm}
use Rattle.occ_forms_expressions.specs.declared.tree.TypeForm.TheVariants as tv
use Rattle.occ_forms_expressions.specs.Spelling.{element_then, many, type_form_then}
use Rattle.occ_forms_expressions.proofs.Dimensions.{data_word}
use Rattle.occ_forms_expressions.proofs.Cases.{builtin_primitive_spells, type_form_builtin_spells, ElementIs, element_is, element_is_named, element_is_segment, element_named_spells, element_segment_spells}
use Rattle.occ_forms_expressions.proofs.UniqueExprs.{one_type}
use Rattle.occ_forms.specs.declared.start.Start.TheVariants as st
use Rattle.occ_forms.specs.declared.specification_tree.FormalGroup.{FormalGroup}
use Rattle.occ_forms.specs.declared.specification_tree.FormalGroup.TheVariants as fo
use Rattle.occ_forms.specs.declared.specification_tree.FunctionHead.{FunctionHead}
use Rattle.occ_forms.specs.declared.specification_tree.Head.TheVariants as he
use Rattle.occ_forms.specs.declared.specification_tree.Inlined.{Inlined}
use Rattle.occ_forms.specs.declared.specification_tree.Inlined.TheVariants as nl
use Rattle.occ_forms.specs.declared.specification_tree.Specified.{Specified}
use Rattle.occ_forms.specs.declared.specification_tree.ValueGroup.{ValueGroup}
use Rattle.occ_forms.specs.SpecificationReading.{start_of}
use Rattle.occ_forms.specs.SpecificationSpelling.{colon, formal_group_then, function_head_then, head_tokens, in_parens, inlined_then, next, specified_tokens, value_group_then}
use Rattle.occ_forms.proofs.Once.{inlined_once, named_once, same_after}
use Rattle.occ_forms.proofs.Results.{after_first, named_is_no_function, results_end}
use Rattle.occ_forms.proofs.Starts.{Started, element_spells, is_declaration, is_element, is_function, is_function_head, is_procedure, is_untyped, started}
use Rattle.occ_forms.proofs.Types.{named_is_untyped, no_type}

-- a line that starts so is one of these trees
starts_so : (tokens : List Token) (x : Specified) → specified_tokens x ≡ tokens → Started x (start_of tokens)
starts_so tokens x e = started x (start_of tokens) (ap start_of e)

-- INLINE before the type of a result
pub inline_first : (word : t.the_data) (k : List Token) (x : Specified) → t.Word w.Proc ≢ word → specified_tokens x ≡ t.Word w.Inline ∷ word ∷ k → ⊥
inline_first word k x other e = by (starts_so _ x e) where
  inlined : (i : Inlined) (n : List ℕ) (gs : List FormalGroup) → head_tokens (he.Procedure i n gs) ≡ t.Word w.Inline ∷ word ∷ k → ⊥
  inlined nl.No n gs h = absurd cc
  inlined nl.Yes n gs h = other (let i : t.Word w.Inline ∷ t.Word w.Proc ∷ t.Name n ∷ in_parens formal_group_then gs [] ≡ t.Word w.Inline ∷ word ∷ k = h in cc)

  by : Started x st.Procedure → ⊥
  by (is_procedure i n gs p) = inlined i n gs (sym (ap specified_tokens p) ∙ e)

-- an abbreviation of what stands in parentheses
element_in_parens : (el : Element) (j k : List Token) → element_then el j ≡ t.Symbol s.Open ∷ k → ⊥
element_in_parens el j k e = by (element_is el) where
  by : ElementIs el → ⊥
  by (element_is_named n es p) = let h : t.Name n ∷ _ ≡ t.Symbol s.Open ∷ k = sym (element_named_spells n es j) ∙ sym (ap (λ (y : Element). element_then y j) p) ∙ e in absurd cc
  by (element_is_segment of b es p) = let h : t.Symbol s.OpenIndex ∷ _ ≡ t.Symbol s.Open ∷ k = sym (element_segment_spells of b es j) ∙ sym (ap (λ (y : Element). element_then y j) p) ∙ e in absurd cc

pub is_in_parens : (n : List ℕ) (k : List Token) (x : Specified) → specified_tokens x ≡ t.Name n ∷ t.Word w.Is ∷ t.Symbol s.Open ∷ k → ⊥
is_in_parens n k x e = by (starts_so _ x e) where
  by : Started x st.Other → ⊥
  by (is_untyped m el p) = element_in_parens el colon k (same_after _ _ _ (named_once m n _ _ (sym (ap specified_tokens p) ∙ e)).1)
  by (is_element b form m el p) = named_is_untyped _ n _ refl form m _ (sym e ∙ ap specified_tokens p ∙ element_spells b form m el)
  by (is_declaration form m ns p) = named_is_untyped _ n _ refl form m _ (sym e ∙ ap specified_tokens p)
  by (is_function_head head p) = named_is_no_function _ n _ refl head _ (sym e ∙ ap specified_tokens p)
  by (is_function head a more p) = named_is_no_function _ n _ refl head _ (sym e ∙ ap specified_tokens p)

-- VAL before a channel
channel_group : (gs : List FormalGroup) (j k : List Token) → in_parens formal_group_then gs j ≡ t.Symbol s.Open ∷ t.Word w.Val ∷ t.Word w.Chan ∷ k → ⊥
channel_group [] j k e = absurd cc
channel_group (fo.Value g ∷ gs) j k e = data_word g.form.dimensions g.form.base _ w.Chan k refl (same_after _ _ _ (same_after _ _ _ e))
channel_group (fo.Plain form n ns ∷ gs) j k e = no_type form _ (t.Word w.Val ∷ t.Word w.Chan ∷ k) refl (sym (same_after _ _ _ e))

pub value_channel : (n : List ℕ) (k : List Token) (x : Specified) → specified_tokens x ≡ t.Word w.Proc ∷ t.Name n ∷ t.Symbol s.Open ∷ t.Word w.Val ∷ t.Word w.Chan ∷ k → ⊥
value_channel n k x e = by (starts_so _ x e) where
  by : Started x st.Procedure → ⊥
  by (is_procedure i m gs p) =
      let h = inlined_once i nl.No (t.Word w.Proc) _ _ (λ q. absurd cc) (sym (ap specified_tokens p) ∙ e) in
      channel_group gs [] k (named_once m n _ _ h.1).1

-- a formal of a function without VAL
plain_formal : (gs : List ValueGroup) (j k : List Token) → in_parens value_group_then gs j ≡ t.Symbol s.Open ∷ t.Word w.Int ∷ k → ⊥
plain_formal [] j k e = absurd cc
plain_formal (g ∷ gs) j k e = absurd cc

function_formal : (n : List ℕ) (head : FunctionHead) (j k : List Token) → function_head_then head j ≡ t.Word w.Int ∷ t.Word w.Function ∷ t.Name n ∷ t.Symbol s.Open ∷ t.Word w.Int ∷ k → ⊥
function_formal n head j k e =
    let int = type_form_builtin_spells [] (uv.Primitive pr.Int) (t.Word w.Function ∷ t.Name n ∷ t.Symbol s.Open ∷ t.Word w.Int ∷ k) ∙ builtin_primitive_spells pr.Int _ in
    let h = (one_type head.first (tv.Builtin [] (uv.Primitive pr.Int)) (after_first head j) _ (results_end head.more head.inlined _) refl (e ∙ sym int)).1 in
    by head.more head.inlined h where
      by : (more : List TypeForm) (i : Inlined) → many (next s.Comma type_form_then) more (inlined_then i (t.Word w.Function ∷ t.Name head.name ∷ in_parens value_group_then head.formals j)) ≡ t.Word w.Function ∷ t.Name n ∷ t.Symbol s.Open ∷ t.Word w.Int ∷ k → ⊥
      by [] nl.No h = plain_formal head.formals j k (named_once head.name n _ _ (same_after _ _ _ h)).1
      by [] nl.Yes h = absurd cc
      by (x ∷ xs) i h = absurd cc

-- a type and FUNCTION begin nothing but a function
typed_function : (form : TypeForm) (m : List ℕ) (j k : List Token) → type_form_then form (t.Name m ∷ j) ≡ t.Word w.Int ∷ t.Word w.Function ∷ k → ⊥
typed_function form m j k e =
    let int = type_form_builtin_spells [] (uv.Primitive pr.Int) (t.Word w.Function ∷ k) ∙ builtin_primitive_spells pr.Int _ in
    let h = (one_type form (tv.Builtin [] (uv.Primitive pr.Int)) (t.Name m ∷ j) _ refl refl (e ∙ sym int)).1 in absurd cc

pub formal_without_val : (n : List ℕ) (k : List Token) (x : Specified) → specified_tokens x ≡ t.Word w.Int ∷ t.Word w.Function ∷ t.Name n ∷ t.Symbol s.Open ∷ t.Word w.Int ∷ k → ⊥
formal_without_val n k x e = by (starts_so _ x e) where
  by : Started x st.Other → ⊥
  by (is_untyped m el p) = let h : t.Name m ∷ _ ≡ t.Word w.Int ∷ _ = sym (ap specified_tokens p) ∙ e in absurd cc
  by (is_element b form m el p) = typed_function form m _ _ (sym (element_spells b form m el) ∙ sym (ap specified_tokens p) ∙ e)
  by (is_declaration form m ns p) = typed_function form m _ _ (sym (ap specified_tokens p) ∙ e)
  by (is_function_head head p) = function_formal n head _ k (sym (ap specified_tokens p) ∙ e)
  by (is_function head a more p) = function_formal n head _ k (sym (ap specified_tokens p) ∙ e)
