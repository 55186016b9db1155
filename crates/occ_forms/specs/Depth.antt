-- The greatest number of dimensions that a type in a line has, and which lines are too deep.
use Rattle.std.specs.Prelude.{◌≡◌, ◌<◌, ◌≤◌, ◌⊎◌, max, ℕ, List, ◌∷◌, map, Option, Some, None}
use Rattle.occ_lines.specs.declared.token.Token.{Token}
use Rattle.occ_forms_expressions.specs.Depth.{all_dimensions, builtin_dimensions, counted_dimensions, data_form_dimensions, element_dimensions, expr_dimensions, greatest, most_open}
use Rattle.occ_forms.specs.SpecificationDepth.{specified_dimensions}
use Rattle.occ_forms.specs.declared.tree.Action.{Action}
use Rattle.occ_forms.specs.declared.tree.Action.TheVariants as ac
use Rattle.occ_forms.specs.declared.tree.Construct.{Construct}
use Rattle.occ_forms.specs.declared.tree.Construct.TheVariants as co
use Rattle.occ_forms.specs.declared.tree.Detail.{Detail}
use Rattle.occ_forms.specs.declared.tree.Detail.TheVariants as de
use Rattle.occ_forms.specs.declared.tree.Form.{Form}
use Rattle.occ_forms.specs.declared.tree.Form.TheVariants as fo
use Rattle.occ_forms.specs.declared.tree.Guarded.{Guarded}
use Rattle.occ_forms.specs.declared.tree.Guarded.TheVariants as gu
use Rattle.occ_forms.specs.declared.tree.Input.{Input}
use Rattle.occ_forms.specs.declared.tree.Input.TheVariants as ip
use Rattle.occ_forms.specs.declared.tree.InputItem.{InputItem}
use Rattle.occ_forms.specs.declared.tree.InputItem.TheVariants as ii
use Rattle.occ_forms.specs.declared.tree.OutputItem.{OutputItem}
use Rattle.occ_forms.specs.declared.tree.OutputItem.TheVariants as oi
use Rattle.occ_forms.specs.declared.tree.PartForm.{PartForm}
use Rattle.occ_forms.specs.declared.tree.PartForm.TheVariants as pa
use Rattle.occ_forms.specs.declared.tree.Replicator.{Replicator}
use Rattle.occ_forms.specs.Spelling.{form_tokens}

abbrev pub output_item_dimensions : OutputItem → ℕ
output_item_dimensions (oi.Plain e) = expr_dimensions e
output_item_dimensions (oi.Counted count array) = max (expr_dimensions count) (expr_dimensions array)

abbrev pub input_item_dimensions : InputItem → ℕ
input_item_dimensions (ii.Plain el) = element_dimensions el
input_item_dimensions (ii.Counted count array) = max (element_dimensions count) (element_dimensions array)

abbrev pub detail_dimensions : Detail → ℕ
detail_dimensions (de.Element el) = element_dimensions el
detail_dimensions (de.Counted count array) = max (element_dimensions count) (element_dimensions array)
detail_dimensions (de.Array d ds name) = all_dimensions (d ∷ ds)
detail_dimensions (de.Builtin ds builtin) = max (all_dimensions ds) (builtin_dimensions builtin)
detail_dimensions (de.CountedType count component) = max (data_form_dimensions count) (counted_dimensions component)

abbrev pub input_dimensions : Input → ℕ
input_dimensions (ip.Plain el first more) = max (element_dimensions el) (max (input_item_dimensions first) (greatest (map input_item_dimensions more)))
input_dimensions (ip.After el e) = max (element_dimensions el) (expr_dimensions e)
input_dimensions (ip.Tagged el name items) = max (element_dimensions el) (greatest (map input_item_dimensions items))

abbrev pub action_dimensions : Action → ℕ
action_dimensions ac.Skip = 0
action_dimensions ac.Stop = 0
action_dimensions (ac.Assignment el els e es) = max (max (element_dimensions el) (greatest (map element_dimensions els))) (max (expr_dimensions e) (greatest (map expr_dimensions es)))
action_dimensions (ac.Output el first more) = max (element_dimensions el) (max (output_item_dimensions first) (greatest (map output_item_dimensions more)))
action_dimensions (ac.Input input) = input_dimensions input

abbrev pub replicator_dimensions : Option Replicator → ℕ
replicator_dimensions None = 0
replicator_dimensions (Some r) = max (expr_dimensions r.base) (expr_dimensions r.count)

abbrev pub construct_dimensions : Construct → ℕ
construct_dimensions (co.Replicable kind replicator) = replicator_dimensions replicator
construct_dimensions (co.While e) = expr_dimensions e
construct_dimensions (co.Case e) = expr_dimensions e
construct_dimensions (co.CaseInput el) = element_dimensions el

abbrev pub guarded_dimensions : Guarded → ℕ
guarded_dimensions gu.Skip = 0
guarded_dimensions (gu.Input input) = input_dimensions input
guarded_dimensions (gu.CaseInput el) = element_dimensions el

abbrev pub part_dimensions : PartForm → ℕ
part_dimensions pa.Case = 0
part_dimensions pa.Else = 0
part_dimensions pa.ValueOf = 0
part_dimensions (pa.Result e es) = max (expr_dimensions e) (greatest (map expr_dimensions es))
part_dimensions pa.Record = 0
part_dimensions pa.PackedRecord = 0
part_dimensions (pa.Guard e guarded) = max (expr_dimensions e) (guarded_dimensions guarded)

abbrev pub form_dimensions : Form → ℕ
form_dimensions (fo.Specified specified) = specified_dimensions specified
form_dimensions fo.Close = 0
form_dimensions (fo.Action action) = action_dimensions action
form_dimensions (fo.Construct construct) = construct_dimensions construct
form_dimensions (fo.Part part) = part_dimensions part
form_dimensions (fo.Expressions e es) = max (expr_dimensions e) (greatest (map expr_dimensions es))
form_dimensions (fo.Tagged name first more) = max (detail_dimensions first) (greatest (map detail_dimensions more))

-- over 64 brackets are open at once, or the line has a form in which a type has over 64 dimensions
abbrev pub IsTooDeep : List Token → Type 0
IsTooDeep tokens = (64 < most_open 0 tokens) ⊎ ((form : Form) × (tokens ≡ form_tokens form) × (64 < form_dimensions form))

-- the line has this form, and is not too deep
pub record HasForm (tokens : List Token) (form : Form) : Type 0 where
  pub spelled : tokens ≡ form_tokens form
  pub few_open : most_open 0 tokens ≤ 64
  pub few_dimensions : form_dimensions form ≤ 64

-- the line has neither a form nor too many brackets open
pub record HasNoForm (tokens : List Token) : Type 0 where
  pub none : (form : Form) → tokens ≡ form_tokens form → ⊥
  pub few_open : most_open 0 tokens ≤ 64
