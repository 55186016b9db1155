-- What each tree spells: its tokens, and then those that follow.
use Rattle.std.specs.Prelude.{ℕ, List, [], ◌∷◌, Option, Some, None}
use Rattle.occ_lines.specs.declared.token.Token.{Token}
use Rattle.occ_lines.specs.declared.token.Token.TheVariants as t
use Rattle.occ_lines.specs.declared.token.Symbol.{Symbol}
use Rattle.occ_lines.specs.declared.token.Symbol.TheVariants as s
use Rattle.occ_lines.specs.declared.token.Word.{Word}
use Rattle.occ_lines.specs.declared.token.Word.TheVariants as w
use Rattle.occ_forms_expressions.specs.declared.tree.TypeForm.{TypeForm}
use Rattle.occ_forms_expressions.specs.Spelling.{Spelling, counted_array, data_form_then, element_then, expr_then, many, type_form_then}
use Rattle.occ_forms.specs.declared.specification_tree.FormalGroup.{FormalGroup}
use Rattle.occ_forms.specs.declared.specification_tree.FormalGroup.TheVariants as fo
use Rattle.occ_forms.specs.declared.specification_tree.FunctionHead.{FunctionHead}
use Rattle.occ_forms.specs.declared.specification_tree.Head.{Head}
use Rattle.occ_forms.specs.declared.specification_tree.Head.TheVariants as he
use Rattle.occ_forms.specs.declared.specification_tree.Inlined.{Inlined}
use Rattle.occ_forms.specs.declared.specification_tree.Inlined.TheVariants as nl
use Rattle.occ_forms.specs.declared.specification_tree.ItemForm.{ItemForm}
use Rattle.occ_forms.specs.declared.specification_tree.ItemForm.TheVariants as it
use Rattle.occ_forms.specs.declared.specification_tree.Recast.{Recast}
use Rattle.occ_forms.specs.declared.specification_tree.Recast.TheVariants as rc
use Rattle.occ_forms.specs.declared.specification_tree.Specification.{Specification}
use Rattle.occ_forms.specs.declared.specification_tree.Specification.TheVariants as sp
use Rattle.occ_forms.specs.declared.specification_tree.Specified.{Specified}
use Rattle.occ_forms.specs.declared.specification_tree.Specified.TheVariants as sd
use Rattle.occ_forms.specs.declared.specification_tree.ValueGroup.{ValueGroup}

-- one more of a list, after its separator
abbrev pub next : {X : Type 0} → Symbol → (X → Spelling) → X → Spelling
next separator spells x k = t.Symbol separator ∷ spells x k

-- `x, ..` with this separator
abbrev pub listed : {X : Type 0} → Symbol → (X → Spelling) → X → List X → Spelling
listed separator spells x more k = spells x (many (next separator spells) more k)

-- `()` or `(x, ..)`
abbrev pub in_parens : {X : Type 0} → (X → Spelling) → List X → Spelling
in_parens spells [] k = t.Symbol s.Open ∷ t.Symbol s.Close ∷ k
in_parens spells (x ∷ more) k = t.Symbol s.Open ∷ listed s.Comma spells x more (t.Symbol s.Close ∷ k)

abbrev pub name_then : List ℕ → Spelling
name_then n k = t.Name n ∷ k

-- `n, ..`
abbrev pub names_then : List ℕ → List (List ℕ) → Spelling
names_then n more k = listed s.Comma name_then n more k

-- a type, where there is one
abbrev pub perhaps_type_then : Option TypeForm → Spelling
perhaps_type_then None k = k
perhaps_type_then (Some form) k = type_form_then form k

abbrev pub item_then : ItemForm → Spelling
item_then (it.Plain form) k = data_form_then form k
item_then (it.Counted count form) k = data_form_then count (counted_array (data_form_then form k))

abbrev pub value_group_then : ValueGroup → Spelling
value_group_then group k = t.Word w.Val ∷ data_form_then group.form (names_then group.first group.more k)

abbrev pub formal_group_then : FormalGroup → Spelling
formal_group_then (fo.Value group) k = value_group_then group k
formal_group_then (fo.Plain form n more) k = type_form_then form (names_then n more k)

abbrev pub inlined_then : Inlined → Spelling
inlined_then nl.No k = k
inlined_then nl.Yes k = t.Word w.Inline ∷ k

-- `FUNCTION n (formals)`, perhaps with INLINE before it
abbrev pub function_then : FunctionHead → Spelling
function_then head k = inlined_then head.inlined (t.Word w.Function ∷ t.Name head.name ∷ in_parens value_group_then head.formals k)

abbrev pub function_head_then : FunctionHead → Spelling
function_head_then head k = listed s.Comma type_form_then head.first head.more (function_then head k)

abbrev pub recast_word : Recast → Word
recast_word rc.Retypes = w.Retypes
recast_word rc.Reshapes = w.Reshapes

-- what ends a specification
abbrev pub colon : List Token
colon = t.Symbol s.Colon ∷ []

-- all the tokens of a line
abbrev pub specification_tokens : Specification → List Token
specification_tokens (sp.Declaration form n more) = type_form_then form (names_then n more colon)
specification_tokens (sp.Abbreviation form n el) = perhaps_type_then form (t.Name n ∷ t.Word w.Is ∷ element_then el colon)
specification_tokens (sp.Value form n e) = t.Word w.Val ∷ perhaps_type_then form (t.Name n ∷ t.Word w.Is ∷ expr_then e colon)
specification_tokens (sp.Retyped recast form n el) = type_form_then form (t.Name n ∷ t.Word (recast_word recast) ∷ element_then el colon)
specification_tokens (sp.RetypedValue recast form n e) = t.Word w.Val ∷ type_form_then form (t.Name n ∷ t.Word (recast_word recast) ∷ expr_then e colon)
specification_tokens (sp.Protocol n item more) = t.Word w.Protocol ∷ t.Name n ∷ t.Word w.Is ∷ listed s.Semicolon item_then item more colon
specification_tokens (sp.DataType n form) = t.Word w.Data ∷ t.Word w.Type ∷ t.Name n ∷ t.Word w.Is ∷ type_form_then form colon
specification_tokens (sp.Function head e more) = function_head_then head (t.Word w.Is ∷ listed s.Comma expr_then e more colon)

abbrev pub head_tokens : Head → List Token
head_tokens (he.Procedure inlined n groups) = inlined_then inlined (t.Word w.Proc ∷ t.Name n ∷ in_parens formal_group_then groups [])
head_tokens (he.Function head) = function_head_then head []
head_tokens (he.Protocol n) = t.Word w.Protocol ∷ t.Name n ∷ []
head_tokens (he.DataType n) = t.Word w.Data ∷ t.Word w.Type ∷ t.Name n ∷ []

abbrev pub specified_tokens : Specified → List Token
specified_tokens (sd.Line line) = specification_tokens line
specified_tokens (sd.Head head) = head_tokens head
