-- That tokens are spelled by one tree, for the parts of a line.
use Rattle.std.proofs.Common.{◌≡◌, ◌≢◌, ◌∙◌, true, false, ℕ, List, [], ◌∷◌, refl, sym, ap, subst}
use Rattle.occ_lines.specs.declared.token.Symbol.{Symbol}
use Rattle.occ_lines.specs.declared.token.Symbol.TheVariants as s
use Rattle.occ_lines.specs.declared.token.Token.{Token}
use Rattle.occ_lines.specs.declared.token.Token.TheVariants as t
use Rattle.occ_lines.specs.declared.token.Word.TheVariants as w
use Rattle.occ_forms_expressions.specs.declared.tree.DataForm.{DataForm}
use Rattle.occ_forms_expressions.specs.declared.tree.TypeForm.{TypeForm}
use Rattle.occ_forms_expressions.specs.Reading.{IsEnd, IsNot, IsNotCounted, is_counted}
use Rattle.occ_forms_expressions.specs.Spelling.{Spelling, counted_array, data_form_then, element_then, many, type_form_then}
use Rattle.occ_forms_expressions.proofs.Lists.{Anything}
use Rattle.occ_forms_expressions.proofs.Many.{Within}
use Rattle.occ_forms_expressions.proofs.UniqueExprs.{end_of_operand, one_data_form, one_element, one_type}
use Rattle.occ_forms.specs.declared.specification_tree.FormalGroup.TheVariants as fo
use Rattle.occ_forms.specs.declared.specification_tree.FunctionHead.{FunctionHead}
use Rattle.occ_forms.specs.declared.specification_tree.Inlined.{Inlined}
use Rattle.occ_forms.specs.declared.specification_tree.Inlined.TheVariants as nl
use Rattle.occ_forms.specs.declared.specification_tree.ItemForm.TheVariants as it
use Rattle.occ_forms.specs.declared.specification_tree.ValueGroup.{ValueGroup}
use Rattle.occ_forms.specs.SpecificationReading.{IsEndOfNames}
use Rattle.occ_forms.specs.SpecificationSpelling.{formal_group_then, function_head_then, function_then, in_parens, inlined_then, item_then, listed, name_then, names_then, next, value_group_then}
use Rattle.occ_forms.proofs.Groups.{group_apart, group_begins, plain_same, value_same}
use Rattle.occ_forms.proofs.SpecificationLists.{ListEnds, list_within}
use Rattle.occ_forms.proofs.Named.{IsAtNoName, name_is_no_end, names_within}
use Rattle.occ_forms.proofs.Results.{results_end}
use Rattle.occ_forms.proofs.Types.{no_type}

-- what follows one is reported from it
abbrev pub Once : {X : Type 0} → (X → Spelling) → (List Token → Type 0) → Type 0
Once {X} spells Ends = (a b : X) (j k : List Token) → Ends j → Ends k → spells a j ≡ spells b k → (a ≡ b) × (j ≡ k)

pub element_once : Once element_then IsEnd
element_once a b j k ej ek e = one_element a b j k (end_of_operand j ej) (end_of_operand k ek) e

data_form_once : Once data_form_then Anything
data_form_once a b j k ej ek e = one_data_form a b j k e

pub same_after : (token : Token) (j k : List Token) → token ∷ j ≡ token ∷ k → j ≡ k
same_after token j k e = cc

-- lists
many_once : {X : Type 0} (spells : X → Spelling) (Inside Ends : List Token → Type 0) → Within spells Inside Ends → Once spells Inside
    → ((x : X) (k : List Token) → Inside k → Ends (spells x k) → ⊥) → Once (many spells) Ends
many_once spells Inside Ends within one no_end [] [] j k ej ek e = (refl, e)
many_once spells Inside Ends within one no_end [] (y ∷ ys) j k ej ek e = absurd (no_end y _ (within ys k ek) (subst Ends e ej))
many_once spells Inside Ends within one no_end (x ∷ xs) [] j k ej ek e = absurd (no_end x _ (within xs j ej) (subst Ends (sym e) ek))
many_once {X} spells Inside Ends within one no_end (x ∷ xs) (y ∷ ys) j k ej ek e =
    let h = one x y (many spells xs j) (many spells ys k) (within xs j ej) (within ys k ek) e in
    let m = many_once spells Inside Ends within one no_end xs ys j k ej ek h.1 in
    (ap (λ (z : X). z ∷ xs) h.0 ∙ ap (λ (zs : List X). y ∷ zs) m.0, m.1)

next_once : {X : Type 0} (separator : Symbol) (spells : X → Spelling) (Ends : List Token → Type 0) → Once spells Ends → Once (next separator spells) Ends
next_once separator spells Ends one a b j k ej ek e = one a b j k ej ek (same_after _ _ _ e)

pub more_once : {X : Type 0} (separator : Symbol) (spells : X → Spelling) (Ends : List Token → Type 0) → ((x : X) (k : List Token) → Ends (t.Symbol separator ∷ spells x k)) → Once spells Ends
    → Once (many (next separator spells)) (ListEnds separator Ends)
more_once separator spells Ends apart one = many_once (next separator spells) Ends (ListEnds separator Ends) (list_within separator spells Ends apart) (next_once separator spells Ends one)
    (λ x k inside ends. ends.no_more _ refl)

pub listed_once : {X : Type 0} (separator : Symbol) (spells : X → Spelling) (Ends : List Token → Type 0) → ((x : X) (k : List Token) → Ends (t.Symbol separator ∷ spells x k)) → Once spells Ends
    → (a b : X) (xs ys : List X) (j k : List Token) → ListEnds separator Ends j → ListEnds separator Ends k → listed separator spells a xs j ≡ listed separator spells b ys k → (a ≡ b) × (xs ≡ ys) × (j ≡ k)
listed_once separator spells Ends apart one a b xs ys j k ej ek e =
    let h = one a b _ _ (list_within separator spells Ends apart xs j ej) (list_within separator spells Ends apart ys k ek) e in
    let m = more_once separator spells Ends apart one xs ys j k ej ek h.1 in
    (h.0, m.0, m.1)

pub parens_once : {X : Type 0} (spells : X → Spelling) (Ends : List Token → Type 0) → ((x : X) (k : List Token) → Ends (t.Symbol s.Comma ∷ spells x k)) → Once spells Ends
    → ((k : List Token) → Ends (t.Symbol s.Close ∷ k)) → ((x : X) (k j : List Token) → spells x k ≢ t.Symbol s.Close ∷ j) → Once (in_parens spells) Anything
parens_once spells Ends apart one closes begins [] [] j k ej ek e = (refl, let h : t.Symbol s.Open ∷ t.Symbol s.Close ∷ j ≡ t.Symbol s.Open ∷ t.Symbol s.Close ∷ k = e in cc)
parens_once spells Ends apart one closes begins [] (y ∷ ys) j k ej ek e = absurd (begins y _ j (sym (same_after _ _ _ e)))
parens_once spells Ends apart one closes begins (x ∷ xs) [] j k ej ek e = absurd (begins x _ k (same_after _ _ _ e))
parens_once {X} spells Ends apart one closes begins (x ∷ xs) (y ∷ ys) j k ej ek e =
    let h = listed_once s.Comma spells Ends apart one x y xs ys (t.Symbol s.Close ∷ j) (t.Symbol s.Close ∷ k) (record { ends = closes j; no_more = λ r q. absurd cc }) (record { ends = closes k; no_more = λ r q. absurd cc }) (same_after _ _ _ e) in
    (ap (λ (z : X). z ∷ xs) h.0 ∙ ap (λ (zs : List X). y ∷ zs) h.1, same_after _ _ _ h.2)

-- names
name_once : Once (next s.Comma name_then) IsAtNoName
name_once a b j k ej ek e = let h : t.Symbol s.Comma ∷ t.Name a ∷ j ≡ t.Symbol s.Comma ∷ t.Name b ∷ k = e in (cc, cc)

pub names_once : (a b : List ℕ) (xs ys : List (List ℕ)) (j k : List Token) → IsEndOfNames j → IsEndOfNames k → names_then a xs j ≡ names_then b ys k → (a ≡ b) × (xs ≡ ys) × (j ≡ k)
names_once a b xs ys j k ej ek e =
    let h : t.Name a ∷ many (next s.Comma name_then) xs j ≡ t.Name b ∷ many (next s.Comma name_then) ys k = e in
    let m = many_once (next s.Comma name_then) IsAtNoName IsEndOfNames names_within name_once (λ n k inside ends. name_is_no_end n _ k refl inside ends) xs ys j k ej ek (let i : many (next s.Comma name_then) xs j ≡ many (next s.Comma name_then) ys k = cc in i) in
    (cc, m.0, m.1)

-- items
counted_once : (j k : List Token) → counted_array j ≡ counted_array k → j ≡ k
counted_once j k e = cc

plain_is_counted : (j k : List Token) → IsNotCounted j → j ≡ counted_array k → ⊥
plain_is_counted j k none e = let h : true ≡ false = sym (ap is_counted e) ∙ none in absurd cc

pub item_once : Once item_then IsNotCounted
item_once (it.Plain f) (it.Plain g) j k ej ek e = let h = data_form_once f g j k tt tt e in (ap it.Plain h.0, h.1)
item_once (it.Plain f) (it.Counted g h) j k ej ek e = absurd (plain_is_counted j _ ej (data_form_once f g j _ tt tt e).1)
item_once (it.Counted f h) (it.Plain g) j k ej ek e = absurd (plain_is_counted k _ ek (sym (data_form_once f g _ k tt tt e).1))
item_once (it.Counted f f') (it.Counted g g') j k ej ek e =
    let h = data_form_once f g _ _ tt tt e in
    let i = data_form_once f' g' j k tt tt (counted_once _ _ h.1) in
    (ap (λ (x : DataForm). it.Counted x f') h.0 ∙ ap (λ (x : DataForm). it.Counted g x) i.0, i.1)

-- groups of formals
pub value_group_once : Once value_group_then IsEndOfNames
value_group_once f g j k ej ek e =
    let h = data_form_once f.form g.form _ _ tt tt (same_after _ _ _ e) in
    let m = names_once f.first g.first f.more g.more j k ej ek h.1 in
    (value_same f.form f.first f.more g h.0 m.0 m.1, m.2)

pub group_once : Once formal_group_then IsEndOfNames
group_once (fo.Value f) (fo.Value g) j k ej ek e = let h = value_group_once f g j k ej ek e in (ap fo.Value h.0, h.1)
group_once (fo.Value f) (fo.Plain form n ns) j k ej ek e = absurd (no_type form _ (value_group_then f j) refl e)
group_once (fo.Plain form n ns) (fo.Value g) j k ej ek e = absurd (no_type form _ (value_group_then g k) refl (sym e))
group_once (fo.Plain form n ns) (fo.Plain f m ms) j k ej ek e =
    let h = one_type form f _ _ refl refl e in
    let i = names_once n m ns ms j k ej ek h.1 in
    (plain_same form f n m ns ms h.0 i.0 i.1, i.2)

pub formals_once : Once (in_parens formal_group_then) Anything
formals_once = parens_once formal_group_then IsEndOfNames group_apart group_once (λ k. refl) group_begins

pub value_formals_once : Once (in_parens value_group_then) Anything
value_formals_once = parens_once value_group_then IsEndOfNames (λ x k. refl) value_group_once (λ k. refl) (λ x k j e. absurd cc)

-- heads of functions
pub inlined_once : (a b : Inlined) (token : Token) (j k : List Token) → token ≢ t.Word w.Inline → inlined_then a (token ∷ j) ≡ inlined_then b (token ∷ k) → (a ≡ b) × (j ≡ k)
inlined_once nl.No nl.No token j k none e = (refl, same_after _ _ _ e)
inlined_once nl.No nl.Yes token j k none e = absurd (none (let h : token ∷ j ≡ t.Word w.Inline ∷ token ∷ k = e in cc))
inlined_once nl.Yes nl.No token j k none e = absurd (none (let h : token ∷ k ≡ t.Word w.Inline ∷ token ∷ j = sym e in cc))
inlined_once nl.Yes nl.Yes token j k none e = (refl, let h : t.Word w.Inline ∷ token ∷ j ≡ t.Word w.Inline ∷ token ∷ k = e in cc)

function_end : (head : FunctionHead) (k : List Token) → ListEnds s.Comma IsNotCounted (function_then head k)
function_end head k = record { ends = results_end [] head.inlined _; no_more = by head.inlined _ } where
  by : (i : Inlined) (j : List Token) → IsNot s.Comma (inlined_then i (t.Word w.Function ∷ j))
  by nl.No j r e = absurd cc
  by nl.Yes j r e = absurd cc

head_same : (f g : FunctionHead) → f.first ≡ g.first → f.more ≡ g.more → f.inlined ≡ g.inlined → f.name ≡ g.name → f.formals ≡ g.formals → f ≡ g
head_same f g a b c d e = ap (λ (x : TypeForm). record { first = x; more = f.more; inlined = f.inlined; name = f.name; formals = f.formals }) a
    ∙ ap (λ (x : List TypeForm). record { first = g.first; more = x; inlined = f.inlined; name = f.name; formals = f.formals }) b
    ∙ ap (λ (x : Inlined). record { first = g.first; more = g.more; inlined = x; name = f.name; formals = f.formals }) c
    ∙ ap (λ (x : List ℕ). record { first = g.first; more = g.more; inlined = g.inlined; name = x; formals = f.formals }) d
    ∙ ap (λ (x : List ValueGroup). record { first = g.first; more = g.more; inlined = g.inlined; name = g.name; formals = x }) e

pub named_once : (n m : List ℕ) (j k : List Token) → t.Name n ∷ j ≡ t.Name m ∷ k → (n ≡ m) × (j ≡ k)
named_once n m j k e = (cc, cc)

pub function_head_once : Once function_head_then Anything
function_head_once f g j k ej ek e =
    let h = listed_once s.Comma type_form_then IsNotCounted (λ x k. refl) one_type f.first g.first f.more g.more _ _ (function_end f j) (function_end g k) e in
    let i = inlined_once f.inlined g.inlined (t.Word w.Function) _ _ (λ q. absurd cc) h.2 in
    let n = named_once f.name g.name _ _ i.1 in
    let v = value_formals_once f.formals g.formals j k tt tt n.1 in
    (head_same f g h.0 h.1 i.0 n.0 v.0, v.1)
