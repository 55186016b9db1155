-- What may stand under which line.
use Rattle.std.specs.Prelude.{Bool, true, false, ◌&&◌, ◌||◌, Option, Some, None, if◌then◌else◌}
use Rattle.occ_tree.specs.declared.row.Row.{Row}
use Rattle.occ_tree.specs.declared.row.Row.TheVariants as row
use Rattle.occ_tree.specs.declared.sort.Sort.{Sort}
use Rattle.occ_tree.specs.declared.sort.Sort.TheVariants as sort

-- an action, a construct, or an instance of a procedure
abbrev pub is_process : Sort → Bool
is_process sort.Action = true
is_process sort.Input = true
is_process sort.Call = true
is_process sort.Block = true
is_process sort.ReplicatedBlock = true
is_process sort.While = true
is_process sort.Conditional = true
is_process sort.ReplicatedConditional = true
is_process sort.Alternation = true
is_process sort.ReplicatedAlternation = true
is_process sort.Selection = true
is_process sort.CaseInput = true
is_process _ = false

-- one expression, or a conditional within the conditional
abbrev pub is_condition : Sort → Bool
is_condition sort.Name = true
is_condition sort.Call = true
is_condition sort.Expression = true
is_condition sort.Conditional = true
is_condition sort.ReplicatedConditional = true
is_condition _ = false

-- an input, `e & ..`, or an alternation within the alternation
abbrev pub is_guard : Sort → Bool
is_guard sort.Input = true
is_guard sort.CaseInput = true
is_guard sort.Guard = true
is_guard sort.GuardedCaseInput = true
is_guard sort.Alternation = true
is_guard sort.ReplicatedAlternation = true
is_guard _ = false

abbrev pub is_option : Sort → Bool
is_option sort.Name = true
is_option sort.Call = true
is_option sort.Expression = true
is_option sort.Expressions = true
is_option sort.Else = true
is_option _ = false

-- a name, and parts of which none can only be a type
abbrev pub is_variant : Sort → Bool
is_variant sort.Name = true
is_variant sort.Tagged = true
is_variant sort.Variant = true
is_variant _ = false

-- a name, and parts of which none can only be an element
abbrev pub is_tag : Sort → Bool
is_tag sort.Name = true
is_tag sort.Tagged = true
is_tag sort.Tag = true
is_tag _ = false

abbrev pub is_valof : Sort → Bool
is_valof sort.ValueOf = true
is_valof _ = false

abbrev pub is_result : Sort → Bool
is_result sort.Result = true
is_result _ = false

abbrev pub is_case : Sort → Bool
is_case sort.Case = true
is_case _ = false

abbrev pub is_record : Sort → Bool
is_record sort.Record = true
is_record _ = false

abbrev pub is_declaration : Sort → Bool
is_declaration sort.Declaration = true
is_declaration _ = false

abbrev pub is_head : Sort → Bool
is_head sort.ProcedureHead = true
is_head sort.FunctionHead = true
is_head sort.ProtocolHead = true
is_head sort.DataTypeHead = true
is_head _ = false

abbrev pub is_close : Sort → Bool
is_close sort.Close = true
is_close _ = false

-- the main lines of each row
abbrev pub is_main : Row → Sort → Bool
is_main row.File s = false
is_main row.Processes s = is_process s
is_main row.Process s = is_process s
is_main row.Conditions s = is_condition s
is_main row.Condition s = is_condition s
is_main row.Guards s = is_guard s
is_main row.Guard s = is_guard s
is_main row.Options s = is_option s
is_main row.Variants s = is_variant s
is_main row.ValueOf s = is_valof s
is_main row.Value s = is_process s || is_result s
is_main row.Case s = is_case s
is_main row.Tags s = is_tag s
is_main row.Record s = is_record s
is_main row.Fields s = is_declaration s
is_main row.Nothing s = false

-- specifications may stand before the main lines, or alone in a file
abbrev pub takes_specifications : Row → Bool
takes_specifications row.Case = false
takes_specifications row.Tags = false
takes_specifications row.Record = false
takes_specifications row.Fields = false
takes_specifications row.Nothing = false
takes_specifications _ = true

-- those inside a process may be of any kind
abbrev pub takes_local : Row → Bool
takes_local row.File = false
takes_local other = takes_specifications other

-- a specification of one line that the row lets stand
abbrev pub lets_line : Row → Sort → Bool
lets_line r sort.GlobalSpecification = takes_specifications r
lets_line r sort.Declaration = takes_local r
lets_line r sort.LocalSpecification = takes_local r
lets_line r _ = false

-- a main line, a specification, or one of the two lines that hold a body between them
abbrev pub may_stand : Row → Sort → Bool
may_stand r s = is_main r s || (lets_line r s || (takes_specifications r && (is_head s || is_close s)))

-- one main line and no more
abbrev pub is_single : Row → Bool
is_single row.Process = true
is_single row.Condition = true
is_single row.Guard = true
is_single row.ValueOf = true
is_single row.Case = true
is_single row.Record = true
is_single _ = false

abbrev pub is_list : Row → Bool
is_list row.Tags = true
is_list row.Fields = true
is_list _ = false

-- one main line at least
abbrev pub needs_main : Row → Bool
needs_main r = is_single r || is_list r

-- a process, and a RESULT directly after it
abbrev pub is_value : Row → Bool
is_value row.Value = true
is_value _ = false

-- the row that the words of a line say, wherever it stands
abbrev pub own_row : Sort → Option Row
own_row sort.Block = Some row.Processes
own_row sort.ReplicatedBlock = Some row.Process
own_row sort.While = Some row.Process
own_row sort.Else = Some row.Process
own_row sort.Guard = Some row.Process
own_row sort.ProcedureHead = Some row.Process
own_row sort.Conditional = Some row.Conditions
own_row sort.ReplicatedConditional = Some row.Condition
own_row sort.Alternation = Some row.Guards
own_row sort.ReplicatedAlternation = Some row.Guard
own_row sort.Selection = Some row.Options
own_row sort.CaseInput = Some row.Variants
own_row sort.GuardedCaseInput = Some row.Variants
own_row sort.FunctionHead = Some row.ValueOf
own_row sort.ValueOf = Some row.Value
own_row sort.ProtocolHead = Some row.Case
own_row sort.DataTypeHead = Some row.Record
own_row sort.Record = Some row.Fields
own_row _ = None

-- the row under a main line of this one, whose words say none: a condition, an option, an input, a variant, CASE
abbrev pub under_main : Row → Row
under_main row.Conditions = row.Process
under_main row.Condition = row.Process
under_main row.Guards = row.Process
under_main row.Guard = row.Process
under_main row.Options = row.Process
under_main row.Variants = row.Process
under_main row.Case = row.Tags
under_main _ = row.Nothing

abbrev pub row_or : Option Row → Row → Row
row_or (Some own) given = own
row_or None given = given

-- what may stand under a line that itself stands under the row
abbrev pub row_under : Row → Sort → Row
row_under r s = row_or (own_row s) (if is_main r s then under_main r else row.Nothing)
