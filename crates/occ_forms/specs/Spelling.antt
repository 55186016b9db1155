-- What each form spells. The parts of lines are given the tokens that follow them.
use Rattle.std.specs.Prelude.{ℕ, List, [], ◌∷◌, Option, Some, None}
use Rattle.occ_lines.specs.declared.token.Token.{Token}
use Rattle.occ_lines.specs.declared.token.Token.TheVariants as t
use Rattle.occ_lines.specs.declared.token.Symbol.TheVariants as s
use Rattle.occ_lines.specs.declared.token.Word.TheVariants as w
use Rattle.occ_forms_expressions.specs.Spelling.{Spelling, builtin_then, counted_array, data_form_then, dimension_then, element_then, expr_then, many}
use Rattle.occ_forms.specs.SpecificationSpelling.{listed, next, specified_tokens}
use Rattle.occ_forms.specs.declared.tree.Action.{Action}
use Rattle.occ_forms.specs.declared.tree.Action.TheVariants as ac
use Rattle.occ_forms.specs.declared.tree.Construct.{Construct}
use Rattle.occ_forms.specs.declared.tree.Construct.TheVariants as co
use Rattle.occ_forms.specs.declared.tree.Detail.{Detail}
use Rattle.occ_forms.specs.declared.tree.Detail.TheVariants as de
use Rattle.occ_forms.specs.declared.tree.Form.{Form}
use Rattle.occ_forms.specs.declared.tree.Form.TheVariants as fo
use Rattle.occ_forms.specs.declared.tree.Guarded.{Guarded}
use Rattle.occ_forms.specs.declared.tree.Guarded.TheVariants as gu
use Rattle.occ_forms.specs.declared.tree.Input.{Input}
use Rattle.occ_forms.specs.declared.tree.Input.TheVariants as ip
use Rattle.occ_forms.specs.declared.tree.InputItem.{InputItem}
use Rattle.occ_forms.specs.declared.tree.InputItem.TheVariants as ii
use Rattle.occ_forms.specs.declared.tree.ConstructKind.{ConstructKind}
use Rattle.occ_forms.specs.declared.tree.ConstructKind.TheVariants as ki
use Rattle.occ_forms.specs.declared.tree.OutputItem.{OutputItem}
use Rattle.occ_forms.specs.declared.tree.OutputItem.TheVariants as oi
use Rattle.occ_forms.specs.declared.tree.PartForm.{PartForm}
use Rattle.occ_forms.specs.declared.tree.PartForm.TheVariants as pa
use Rattle.occ_forms.specs.declared.tree.Replicator.{Replicator}

-- `a::b`
abbrev pub counted : Spelling → Spelling → Spelling
counted count array k = count (t.Symbol s.Counted ∷ array k)

abbrev pub output_item_then : OutputItem → Spelling
output_item_then (oi.Plain e) k = expr_then e k
output_item_then (oi.Counted count array) k = counted (expr_then count) (expr_then array) k

abbrev pub input_item_then : InputItem → Spelling
input_item_then (ii.Plain el) k = element_then el k
input_item_then (ii.Counted count array) k = counted (element_then count) (element_then array) k

abbrev pub detail_then : Detail → Spelling
detail_then (de.Element el) k = element_then el k
detail_then (de.Counted count array) k = counted (element_then count) (element_then array) k
detail_then (de.Array d ds name) k = many dimension_then (d ∷ ds) (t.Name name ∷ k)
detail_then (de.Builtin ds builtin) k = many dimension_then ds (builtin_then builtin k)
detail_then (de.CountedType count component) k = data_form_then count (counted_array (data_form_then component k))

-- `el ?` and what stands after it
abbrev pub input_from : Spelling → Spelling → Spelling
input_from el received k = el (t.Symbol s.Input ∷ received k)

-- a name, and further items after semicolons
abbrev pub tagged : {X : Type 0} → (X → Spelling) → List ℕ → List X → Spelling
tagged spells name items k = t.Name name ∷ many (next s.Semicolon spells) items k

abbrev pub input_then : Input → Spelling
input_then (ip.Plain el first more) k = input_from (element_then el) (listed s.Semicolon input_item_then first more) k
input_then (ip.After el e) k = input_from (element_then el) (λ j. t.Word w.After ∷ expr_then e j) k
input_then (ip.Tagged el name items) k = input_from (element_then el) (λ j. t.Word w.Case ∷ tagged input_item_then name items j) k

-- `el ? CASE`
abbrev pub case_input_then : Spelling → Spelling
case_input_then el k = input_from el (λ j. t.Word w.Case ∷ j) k

abbrev pub action_then : Action → Spelling
action_then ac.Skip k = t.Word w.Skip ∷ k
action_then ac.Stop k = t.Word w.Stop ∷ k
action_then (ac.Assignment el els e es) k = listed s.Comma element_then el els (t.Symbol s.Assign ∷ listed s.Comma expr_then e es k)
action_then (ac.Output el first more) k = element_then el (t.Symbol s.Output ∷ listed s.Semicolon output_item_then first more k)
action_then (ac.Input input) k = input_then input k

abbrev pub kind_then : ConstructKind → Spelling
kind_then ki.Sequence k = t.Word w.Seq ∷ k
kind_then ki.Parallel k = t.Word w.Par ∷ k
kind_then ki.PriParallel k = t.Word w.Pri ∷ t.Word w.Par ∷ k
kind_then ki.Conditional k = t.Word w.If ∷ k
kind_then ki.Alternation k = t.Word w.Alt ∷ k
kind_then ki.PriAlternation k = t.Word w.Pri ∷ t.Word w.Alt ∷ k

-- `n = base FOR count`
abbrev pub replicator_then : Replicator → Spelling
replicator_then r k = t.Name r.name ∷ t.Symbol s.Equal ∷ expr_then r.base (t.Word w.For ∷ expr_then r.count k)

abbrev pub perhaps_replicator_then : Option Replicator → Spelling
perhaps_replicator_then None k = k
perhaps_replicator_then (Some replicator) k = replicator_then replicator k

abbrev pub construct_then : Construct → Spelling
construct_then (co.Replicable kind replicator) k = kind_then kind (perhaps_replicator_then replicator k)
construct_then (co.While e) k = t.Word w.While ∷ expr_then e k
construct_then (co.Case e) k = t.Word w.Case ∷ expr_then e k
construct_then (co.CaseInput el) k = case_input_then (element_then el) k

abbrev pub guarded_then : Guarded → Spelling
guarded_then gu.Skip k = t.Word w.Skip ∷ k
guarded_then (gu.Input input) k = input_then input k
guarded_then (gu.CaseInput el) k = case_input_then (element_then el) k

abbrev pub part_then : PartForm → Spelling
part_then pa.Case k = t.Word w.Case ∷ k
part_then pa.Else k = t.Word w.Else ∷ k
part_then pa.ValueOf k = t.Word w.ValOf ∷ k
part_then (pa.Result e es) k = t.Word w.Result ∷ listed s.Comma expr_then e es k
part_then pa.Record k = t.Word w.Record ∷ k
part_then pa.PackedRecord k = t.Word w.Packed ∷ t.Word w.Record ∷ k
part_then (pa.Guard e guarded) k = expr_then e (t.Symbol s.Ampersand ∷ guarded_then guarded k)

-- all the tokens of a line of this form
abbrev pub form_tokens : Form → List Token
form_tokens (fo.Specified specified) = specified_tokens specified
form_tokens fo.Close = t.Symbol s.Colon ∷ []
form_tokens (fo.Action action) = action_then action []
form_tokens (fo.Construct construct) = construct_then construct []
form_tokens (fo.Part part) = part_then part []
form_tokens (fo.Expressions e es) = listed s.Comma expr_then e es []
form_tokens (fo.Tagged name first more) = tagged detail_then name (first ∷ more) []
