-- That the items of lines are spelled in one way.
use Rattle.std.proofs.Common.{◌≡◌, ◌∙◌, ℕ, refl, sym, ap, List, ◌∷◌}
use Rattle.occ_lines.specs.declared.token.Symbol.TheVariants as s
use Rattle.occ_lines.specs.declared.token.Token.{Token}
use Rattle.occ_lines.specs.declared.token.Token.TheVariants as t
use Rattle.occ_lines.specs.declared.token.Word.{Word}
use Rattle.occ_forms_expressions.specs.declared.tree.Builtin.{Builtin}
use Rattle.occ_forms_expressions.specs.declared.tree.DataBase.TheVariants as da
use Rattle.occ_forms_expressions.specs.declared.tree.DataForm.{DataForm}
use Rattle.occ_forms_expressions.specs.declared.tree.Dimension.{Dimension}
use Rattle.occ_forms_expressions.specs.declared.tree.Element.{Element}
use Rattle.occ_forms_expressions.specs.declared.tree.Expr.{Expr}
use Rattle.occ_forms_expressions.specs.declared.tree.TypeForm.TheVariants as tv
use Rattle.occ_forms_expressions.specs.Spelling.{counted_array, data_form_then, element_then, expr_then, many, subscript_of}
use Rattle.occ_forms_expressions.proofs.Cases.{ElementIs, element_is, element_is_named, element_is_segment, element_named_spells, element_segment_spells, type_form_builtin_spells}
use Rattle.occ_forms_expressions.proofs.Classes.{plain_ends}
use Rattle.occ_forms_expressions.proofs.TypeEnds.{array_ends, one_counting}
use Rattle.occ_forms_expressions.proofs.UniqueExprs.{end_no_count, end_of_run, one_data_form, one_expr, one_type}
use Rattle.occ_forms.proofs.Once.{Once, element_once, same_after}
use Rattle.occ_forms.specs.declared.tree.Detail.{Detail}
use Rattle.occ_forms.specs.declared.tree.Detail.TheVariants as de
use Rattle.occ_forms.specs.declared.tree.InputItem.{InputItem}
use Rattle.occ_forms.specs.declared.tree.InputItem.TheVariants as ii
use Rattle.occ_forms.specs.declared.tree.OutputItem.TheVariants as oi
use Rattle.occ_forms.specs.Reading.{IsItemEnd}
use Rattle.occ_forms.specs.Spelling.{counted, detail_then, input_item_then, output_item_then}
use Rattle.occ_forms.proofs.Details.{IsFormRead, counted_part, element_no_builtin, item_not_counted, same_builtin, typed_right}
use Rattle.occ_forms.proofs.Ends.{count_ends, item_end}
use Rattle.occ_forms.proofs.Outputs.{no_count}

-- outputs
counting : (e f g h : Expr) (j k : List Token) → expr_then e (t.Symbol s.Counted ∷ expr_then g j) ≡ expr_then f (t.Symbol s.Counted ∷ expr_then h k) → (e ≡ f) × (expr_then g j ≡ expr_then h k)
counting e f g h j k q =
    let m = one_counting e f _ _ refl refl (λ x type p. array_ends g j type) (λ x type p. array_ends h k type) q in (m.0, same_after _ _ _ m.1)

plain_no_count : (e f g : Expr) (j k : List Token) → IsItemEnd j → expr_then e j ≡ expr_then f (t.Symbol s.Counted ∷ expr_then g k) → ⊥
plain_no_count e f g j k ends q =
    no_count (expr_then g k) j ends (one_counting e f j _ (end_of_run j (item_end j ends)) refl (λ x type p. plain_ends type j (end_no_count j (item_end j ends))) (λ x type p. array_ends g k type) q).1

pub output_item_once : Once output_item_then IsItemEnd
output_item_once (oi.Plain e) (oi.Plain f) j k ej ek q = let h = one_expr e f j k (item_end j ej) (item_end k ek) q in (ap oi.Plain h.0, h.1)
output_item_once (oi.Plain e) (oi.Counted f g) j k ej ek q = absurd (plain_no_count e f g j k ej q)
output_item_once (oi.Counted f g) (oi.Plain e) j k ej ek q = absurd (plain_no_count e f g k j ek (sym q))
output_item_once (oi.Counted e g) (oi.Counted f h) j k ej ek q =
    let m = counting e f g h j k q in
    let n = one_expr g h j k (item_end j ej) (item_end k ek) m.1 in
    (ap (λ (x : Expr). oi.Counted x g) m.0 ∙ ap (λ (x : Expr). oi.Counted f x) n.0, n.1)

-- elements, perhaps with what they count
item_element : Once element_then IsItemEnd
item_element a b j k ej ek e = element_once a b j k (item_end j ej) (item_end k ek) e

element_no_count : (a b c : Element) (j k : List Token) → IsItemEnd j → element_then a j ≡ counted (element_then b) (element_then c) k → ⊥
element_no_count a b c j k ends e = no_count (element_then c k) j ends (element_once a b j _ (item_end j ends) (count_ends c k) e).1

counted_elements : (a b c d : Element) (j k : List Token) → IsItemEnd j → IsItemEnd k → counted (element_then a) (element_then c) j ≡ counted (element_then b) (element_then d) k → (a ≡ b) × (c ≡ d) × (j ≡ k)
counted_elements a b c d j k ej ek e =
    let h = element_once a b _ _ (count_ends c j) (count_ends d k) e in
    let m = item_element c d j k ej ek (same_after _ _ _ h.1) in (h.0, m.0, m.1)

-- inputs
pub input_item_once : Once input_item_then IsItemEnd
input_item_once (ii.Plain a) (ii.Plain b) j k ej ek e = let h = item_element a b j k ej ek e in (ap ii.Plain h.0, h.1)
input_item_once (ii.Plain a) (ii.Counted b c) j k ej ek e = absurd (element_no_count a b c j k ej e)
input_item_once (ii.Counted b c) (ii.Plain a) j k ej ek e = absurd (element_no_count a b c k j ek (sym e))
input_item_once (ii.Counted a c) (ii.Counted b d) j k ej ek e = let h = counted_elements a b c d j k ej ek e in
    (ap (λ (x : Element). ii.Counted x c) h.0 ∙ ap (λ (x : Element). ii.Counted b x) h.1, h.2)

-- no element begins with a word
pub element_no_word : (el : Element) (k : List Token) (word : Word) (rest : List Token) → element_then el k ≡ t.Word word ∷ rest → ⊥
element_no_word el k word rest e = by (element_is el) where
  by : ElementIs el → ⊥
  by (element_is_named n es p) = let h : t.Name n ∷ many subscript_of es k ≡ t.Word word ∷ rest = sym (element_named_spells n es k) ∙ sym (ap (λ (x : Element). element_then x k) p) ∙ e in absurd cc
  by (element_is_segment of b es p) = let h : t.Symbol s.OpenIndex ∷ _ ≡ t.Word word ∷ rest = sym (element_segment_spells of b es k) ∙ sym (ap (λ (x : Element). element_then x k) p) ∙ e in absurd cc

pub input_item_no_word : (x : InputItem) (k : List Token) (word : Word) (rest : List Token) → input_item_then x k ≡ t.Word word ∷ rest → ⊥
input_item_no_word (ii.Plain el) k word rest e = element_no_word el k word rest e
input_item_no_word (ii.Counted el array) k word rest e = element_no_word el _ word rest e

-- parts of tags and variants
form_read : (form : DataForm) (rest : List Token) → IsFormRead (data_form_then form rest) form rest
form_read form rest x k e = one_data_form form x rest k e

array_once : (d : Dimension) (ds : List Dimension) (n : List ℕ) (x : Detail) (j k : List Token) → IsItemEnd j → IsItemEnd k → detail_then (de.Array d ds n) j ≡ detail_then x k → (de.Array d ds n ≡ x) × (j ≡ k)
array_once d ds n x j k ej ek e = let form : DataForm = record { dimensions = d ∷ ds; base = da.Named n } in
    typed_right (data_form_then form j) form j (de.Array d ds n) refl (form_read form j) (item_not_counted j ej) refl x k ek e

counted_type_once : (f g : DataForm) (x : Detail) (j k : List Token) → IsItemEnd k → detail_then (de.CountedType f g) j ≡ detail_then x k → (de.CountedType f g ≡ x) × (j ≡ k)
counted_type_once f g x j k ek e =
    let h = counted_part (data_form_then f (counted_array (data_form_then g j))) f _ (data_form_then g j) refl (form_read f _) refl x k ek e in
    let m = one_data_form g h.0 j k h.2 in
    (ap (λ (y : DataForm). de.CountedType f y) m.0 ∙ h.1, m.1)

builtin_once : (ds es : List Dimension) (b c : Builtin) (j k : List Token) → IsItemEnd j → IsItemEnd k → detail_then (de.Builtin ds b) j ≡ detail_then (de.Builtin es c) k → (de.Builtin ds b ≡ de.Builtin es c) × (j ≡ k)
builtin_once ds es b c j k ej ek e =
    let h = one_type (tv.Builtin ds b) (tv.Builtin es c) j k (item_not_counted j ej) (item_not_counted k ek) (type_form_builtin_spells ds b j ∙ e ∙ sym (type_form_builtin_spells es c k)) in
    (same_builtin (tv.Builtin ds b) ds es b c b refl refl h.0, h.1)

turned : (x y : Detail) (j k : List Token) → (y ≡ x) × (k ≡ j) → (x ≡ y) × (j ≡ k)
turned x y j k h = (sym h.0, sym h.1)

pub detail_once : Once detail_then IsItemEnd
detail_once (de.Array d ds n) x j k ej ek e = array_once d ds n x j k ej ek e
detail_once (de.CountedType f g) x j k ej ek e = counted_type_once f g x j k ek e
detail_once (de.Element a) (de.Array d ds n) j k ej ek e = turned _ _ _ _ (array_once d ds n (de.Element a) k j ek ej (sym e))
detail_once (de.Counted a c) (de.Array d ds n) j k ej ek e = turned _ _ _ _ (array_once d ds n (de.Counted a c) k j ek ej (sym e))
detail_once (de.Builtin es b) (de.Array d ds n) j k ej ek e = turned _ _ _ _ (array_once d ds n (de.Builtin es b) k j ek ej (sym e))
detail_once (de.Element a) (de.CountedType f g) j k ej ek e = turned _ _ _ _ (counted_type_once f g (de.Element a) k j ej (sym e))
detail_once (de.Counted a c) (de.CountedType f g) j k ej ek e = turned _ _ _ _ (counted_type_once f g (de.Counted a c) k j ej (sym e))
detail_once (de.Builtin es b) (de.CountedType f g) j k ej ek e = turned _ _ _ _ (counted_type_once f g (de.Builtin es b) k j ej (sym e))
detail_once (de.Element a) (de.Element b) j k ej ek e = let h = item_element a b j k ej ek e in (ap de.Element h.0, h.1)
detail_once (de.Element a) (de.Counted b c) j k ej ek e = absurd (element_no_count a b c j k ej e)
detail_once (de.Element a) (de.Builtin ds b) j k ej ek e = absurd (element_no_builtin a j ds b k e)
detail_once (de.Counted b c) (de.Element a) j k ej ek e = absurd (element_no_count a b c k j ek (sym e))
detail_once (de.Counted a c) (de.Counted b d) j k ej ek e = let h = counted_elements a b c d j k ej ek e in
    (ap (λ (x : Element). de.Counted x c) h.0 ∙ ap (λ (x : Element). de.Counted b x) h.1, h.2)
detail_once (de.Counted a c) (de.Builtin ds b) j k ej ek e = absurd (element_no_builtin a _ ds b k e)
detail_once (de.Builtin ds b) (de.Element a) j k ej ek e = absurd (element_no_builtin a k ds b j (sym e))
detail_once (de.Builtin ds b) (de.Counted a c) j k ej ek e = absurd (element_no_builtin a _ ds b j (sym e))
detail_once (de.Builtin ds b) (de.Builtin es c) j k ej ek e = builtin_once ds es b c j k ej ek e
