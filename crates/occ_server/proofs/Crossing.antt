-- A server may be shared by threads.
use denote.Param.Send.{IsSend, IsSync, sendable}
use denote.Struct.Field.{bool-field}
use Rattle.sqlite_items.proofs.items.Items.TheSendSync as items
use Rattle.sqlite_items.proofs.boxed.Boxed.TheSendSync as boxed
use Rattle.occ_base.proofs.shared.Shared.TheSendSync as shared
use Rattle.occ_base.proofs.name.Name.TheSendSync as name_cross
use Rattle.occ_base.specs.contracts.name.Name as name
use Rattle.std.proofs.Crossing.{Vec-send, Vec-sync}
use Rattle.std.proofs.MapsCrossing.{BTreeMap-send}
use Rattle.occ_forms_expressions.proofs.tree.Literal.TheSendSync as literal_cross
use Rattle.occ_forms_expressions.proofs.tree.DataBase.TheSendSync as data_base_cross
use Rattle.occ_forms_expressions.proofs.tree.MonadicOperator.TheSendSync as monadic_operator_cross
use Rattle.occ_forms_expressions.proofs.tree.RunOperator.TheSendSync as run_operator_cross
use Rattle.occ_forms_expressions.proofs.tree.PairOperator.TheSendSync as pair_operator_cross
use Rattle.occ_forms_expressions.proofs.tree.Extreme.TheSendSync as extreme_cross
use Rattle.occ_forms_expressions.proofs.tree.PrimitiveWord.TheSendSync as primitive_word_cross
use Rattle.occ_forms_expressions.proofs.tree.ChannelWords.TheSendSync as channel_words_cross
use Rattle.occ_types.proofs.interface.ExportKind.TheSendSync as export_kind_cross
use Rattle.occ_types.proofs.interface.Effect.TheSendSync as effect_cross
use Rattle.occ_types.proofs.interface.Passing.TheSendSync as passing_cross
use Rattle.occ_types.proofs.interface.FormalUse.TheSendSync as formal_use_cross
use Rattle.occ_base.proofs.code.Code.TheSendSync as code_cross
use Rattle.occ_base.proofs.diag.Diag.TheSendSync as diag_cross
use Rattle.occ_base.proofs.file_name.FileName.TheSendSync as file_name_cross
use Rattle.occ_forms.proofs.tree.ConstructKind.TheSendSync as construct_kind_cross
use Rattle.occ_board.proofs.report.Row.TheSendSync as row_cross
use Rattle.occ_forms_expressions.proofs.tree.Bounds.TheLaws.TheKnot as tree
use Rattle.occ_types.proofs.types.Item.TheLaws.TheKnot as types
use Rattle.occ_forms_expressions.specs.contracts.tree.Builtin as builtin
use Rattle.occ_forms_expressions.specs.contracts.tree.Dimension as dimension
use Rattle.occ_forms_expressions.specs.contracts.tree.Element as element
use Rattle.occ_forms_expressions.specs.contracts.tree.Expr as expr
use Rattle.occ_forms_expressions.specs.contracts.tree.TypeForm as type_form
use Rattle.occ_forms_expressions.specs.contracts.tree.DataForm as data_form
use Rattle.occ_forms.specs.contracts.specification_tree.ItemForm as item_form
use Rattle.occ_forms.specs.contracts.specification_tree.ValueGroup as value_group
use Rattle.occ_forms.specs.contracts.specification_tree.FormalGroup as formal_group
use Rattle.occ_forms.specs.contracts.specification_tree.FunctionHead as function_head
use Rattle.occ_forms.specs.contracts.specification_tree.Specification as specification
use Rattle.occ_forms.specs.contracts.specification_tree.Head as head
use Rattle.occ_forms.specs.contracts.specification_tree.Specified as specified
use Rattle.occ_forms.specs.contracts.tree.OutputItem as output_item
use Rattle.occ_forms.specs.contracts.tree.InputItem as input_item
use Rattle.occ_forms.specs.contracts.tree.Input as input
use Rattle.occ_forms.specs.contracts.tree.Action as action
use Rattle.occ_forms.specs.contracts.tree.Replicator as replicator
use Rattle.occ_forms.specs.contracts.tree.Construct as construct
use Rattle.occ_forms.specs.contracts.tree.Guarded as guarded
use Rattle.occ_forms.specs.contracts.tree.PartForm as part
use Rattle.occ_forms.specs.contracts.tree.Detail as detail
use Rattle.occ_forms.specs.contracts.tree.Form as form
use Rattle.occ_forms.specs.contracts.source.LineBody as line_body
use Rattle.occ_forms.specs.contracts.source.SourceLine as source_line
use Rattle.occ_forms.specs.contracts.source.Source as source
use Rattle.occ_project.specs.contracts.reads.Read as read
use Rattle.occ_types.specs.contracts.types.OccType as occ_type
use Rattle.occ_types.specs.contracts.interface.Formal as formal
use Rattle.occ_types.specs.contracts.interface.Export as export
use Rattle.occ_types.specs.contracts.interface.Interface as interface
use Rattle.occ_board.specs.UsedContract as used
use Rattle.occ_board.specs.UsedUnitContract as used_unit
use Rattle.occ_board.specs.JobContract as job
use Rattle.occ_board.specs.OutcomeContract as outcome
use Rattle.occ_board.specs.contracts.base.Base as base
use Rattle.occ_board.specs.contracts.entry.Edit as edit
use Rattle.occ_board.specs.contracts.entry.Entry as entry
use Rattle.occ_board.specs.contracts.flags.Flags as flags
use Rattle.occ_board.specs.contracts.cached.Cached as cached
use Rattle.occ_board.specs.contracts.waiting.Waiting as waiting
use Rattle.occ_project_units.specs.contracts.project.Project as project
use Rattle.occ_project_units.specs.contracts.facts.Facts as facts
use Rattle.occ_project_units.specs.contracts.lookers.Lookers as lookers
use Rattle.occ_project_graph.specs.contracts.linked.Linked as links
use Rattle.sqlite_items.specs.contracts.items.Items as items_of
use Rattle.occ_base.specs.contracts.diag.Diag as diag_of
use Rattle.occ_base.specs.contracts.file_name.FileName as file_name_of
use Rattle.occ_base.specs.contracts.shared.Shared as shared_of
use denote.Builtin.{u8, usize}
use Rattle.occ_project_units.specs.contracts.graph.Graph as graph
use Rattle.occ_board.specs.contracts.board.Board as board
use Rattle.std.proofs.sync.Mutex.TheSendSync as mutex
use Rattle.std.proofs.sync.Condvar.TheSendSync as condvar
use Rattle.occ_server.specs.contracts.locked.Locked as locked
use Rattle.occ_server.specs.contracts.server.Server as server
use Rattle.std.specs.contracts.sync.Mutex as mutex_of
use Rattle.std.specs.contracts.sync.Condvar as condvar_of
use Rattle.occ_server.specs.contracts.receipt.Receipt as receipt
use Rattle.occ_server.specs.contracts.snapshot.Snapshot as snapshot

name_send : IsSend name.the_field.row
name_send = search (sendable, name_cross.the_send) depth 20

name_sync : IsSync name.the_field.row
name_sync = search (sendable, name_cross.the_sync) depth 20

bool_send : IsSend bool-field.row
bool_send = search sendable depth 20

bool_sync : IsSync bool-field.row
bool_sync = search sendable depth 20

builtin_field_send : IsSend builtin.the_field.row
builtin_field_send = tree.send-Builtin boxed.the_send primitive_word_cross.the_field_send channel_words_cross.the_field_send items.the_send data_base_cross.the_field_send name_send run_operator_cross.the_field_send pair_operator_cross.the_field_send monadic_operator_cross.the_field_send extreme_cross.the_field_send literal_cross.the_field_send bool_send

builtin_send : IsSend builtin.the_row
builtin_send = search (sendable, builtin_field_send) depth 10

dimension_field_send : IsSend dimension.the_field.row
dimension_field_send = tree.send-Dimension boxed.the_send primitive_word_cross.the_field_send channel_words_cross.the_field_send items.the_send data_base_cross.the_field_send name_send run_operator_cross.the_field_send pair_operator_cross.the_field_send monadic_operator_cross.the_field_send extreme_cross.the_field_send literal_cross.the_field_send bool_send

dimension_send : IsSend dimension.the_row
dimension_send = search (sendable, dimension_field_send) depth 10

element_field_send : IsSend element.the_field.row
element_field_send = tree.send-Element boxed.the_send primitive_word_cross.the_field_send channel_words_cross.the_field_send items.the_send data_base_cross.the_field_send name_send run_operator_cross.the_field_send pair_operator_cross.the_field_send monadic_operator_cross.the_field_send extreme_cross.the_field_send literal_cross.the_field_send bool_send

element_send : IsSend element.the_row
element_send = search (sendable, element_field_send) depth 10

expr_field_send : IsSend expr.the_field.row
expr_field_send = tree.send-Expr boxed.the_send primitive_word_cross.the_field_send channel_words_cross.the_field_send items.the_send data_base_cross.the_field_send name_send run_operator_cross.the_field_send pair_operator_cross.the_field_send monadic_operator_cross.the_field_send extreme_cross.the_field_send literal_cross.the_field_send bool_send

expr_send : IsSend expr.the_row
expr_send = search (sendable, expr_field_send) depth 10

type_form_field_send : IsSend type_form.the_field.row
type_form_field_send = tree.send-TypeForm boxed.the_send primitive_word_cross.the_field_send channel_words_cross.the_field_send items.the_send data_base_cross.the_field_send name_send run_operator_cross.the_field_send pair_operator_cross.the_field_send monadic_operator_cross.the_field_send extreme_cross.the_field_send literal_cross.the_field_send bool_send

type_form_send : IsSend type_form.the_row
type_form_send = search (sendable, type_form_field_send) depth 10

builtin_field_sync : IsSync builtin.the_field.row
builtin_field_sync = tree.sync-Builtin boxed.the_sync primitive_word_cross.the_field_sync channel_words_cross.the_field_sync items.the_sync data_base_cross.the_field_sync name_sync run_operator_cross.the_field_sync pair_operator_cross.the_field_sync monadic_operator_cross.the_field_sync extreme_cross.the_field_sync literal_cross.the_field_sync bool_sync

builtin_sync : IsSync builtin.the_row
builtin_sync = search (sendable, builtin_field_sync) depth 10

dimension_field_sync : IsSync dimension.the_field.row
dimension_field_sync = tree.sync-Dimension boxed.the_sync primitive_word_cross.the_field_sync channel_words_cross.the_field_sync items.the_sync data_base_cross.the_field_sync name_sync run_operator_cross.the_field_sync pair_operator_cross.the_field_sync monadic_operator_cross.the_field_sync extreme_cross.the_field_sync literal_cross.the_field_sync bool_sync

dimension_sync : IsSync dimension.the_row
dimension_sync = search (sendable, dimension_field_sync) depth 10

element_field_sync : IsSync element.the_field.row
element_field_sync = tree.sync-Element boxed.the_sync primitive_word_cross.the_field_sync channel_words_cross.the_field_sync items.the_sync data_base_cross.the_field_sync name_sync run_operator_cross.the_field_sync pair_operator_cross.the_field_sync monadic_operator_cross.the_field_sync extreme_cross.the_field_sync literal_cross.the_field_sync bool_sync

element_sync : IsSync element.the_row
element_sync = search (sendable, element_field_sync) depth 10

expr_field_sync : IsSync expr.the_field.row
expr_field_sync = tree.sync-Expr boxed.the_sync primitive_word_cross.the_field_sync channel_words_cross.the_field_sync items.the_sync data_base_cross.the_field_sync name_sync run_operator_cross.the_field_sync pair_operator_cross.the_field_sync monadic_operator_cross.the_field_sync extreme_cross.the_field_sync literal_cross.the_field_sync bool_sync

expr_sync : IsSync expr.the_row
expr_sync = search (sendable, expr_field_sync) depth 10

type_form_field_sync : IsSync type_form.the_field.row
type_form_field_sync = tree.sync-TypeForm boxed.the_sync primitive_word_cross.the_field_sync channel_words_cross.the_field_sync items.the_sync data_base_cross.the_field_sync name_sync run_operator_cross.the_field_sync pair_operator_cross.the_field_sync monadic_operator_cross.the_field_sync extreme_cross.the_field_sync literal_cross.the_field_sync bool_sync

type_form_sync : IsSync type_form.the_row
type_form_sync = search (sendable, type_form_field_sync) depth 10

data_form_field_send : IsSend data_form.the_field.row
data_form_field_send = search (sendable, items.the_send, dimension_send, data_base_cross.the_field_send) depth 30

data_form_field_sync : IsSync data_form.the_field.row
data_form_field_sync = search (sendable, items.the_sync, dimension_sync, data_base_cross.the_field_sync) depth 30

item_form_field_send : IsSend item_form.the_field.row
item_form_field_send = search (sendable, data_form_field_send) depth 30

item_form_send : IsSend item_form.the_row
item_form_send = search (sendable, item_form_field_send) depth 10

item_form_field_sync : IsSync item_form.the_field.row
item_form_field_sync = search (sendable, data_form_field_sync) depth 30

item_form_sync : IsSync item_form.the_row
item_form_sync = search (sendable, item_form_field_sync) depth 10

value_group_field_send : IsSend value_group.the_field.row
value_group_field_send = search (sendable, items.the_send, data_form_field_send, name_send) depth 30

value_group_send : IsSend value_group.the_row
value_group_send = search (sendable, value_group_field_send) depth 10

value_group_field_sync : IsSync value_group.the_field.row
value_group_field_sync = search (sendable, items.the_sync, data_form_field_sync, name_sync) depth 30

value_group_sync : IsSync value_group.the_row
value_group_sync = search (sendable, value_group_field_sync) depth 10

formal_group_field_send : IsSend formal_group.the_field.row
formal_group_field_send = search (sendable, items.the_send, type_form_field_send, name_send, value_group_field_send) depth 30

formal_group_send : IsSend formal_group.the_row
formal_group_send = search (sendable, formal_group_field_send) depth 10

formal_group_field_sync : IsSync formal_group.the_field.row
formal_group_field_sync = search (sendable, items.the_sync, type_form_field_sync, name_sync, value_group_field_sync) depth 30

formal_group_sync : IsSync formal_group.the_row
formal_group_sync = search (sendable, formal_group_field_sync) depth 10

function_head_field_send : IsSend function_head.the_field.row
function_head_field_send = search (sendable, items.the_send, Vec-send, type_form_field_send, type_form_send, name_send, value_group_send) depth 30

function_head_send : IsSend function_head.the_row
function_head_send = search (sendable, function_head_field_send) depth 10

function_head_field_sync : IsSync function_head.the_field.row
function_head_field_sync = search (sendable, items.the_sync, Vec-sync, type_form_field_sync, type_form_sync, name_sync, value_group_sync) depth 30

function_head_sync : IsSync function_head.the_row
function_head_sync = search (sendable, function_head_field_sync) depth 10

specification_field_send : IsSend specification.the_field.row
specification_field_send = search (sendable, items.the_send, Vec-send, type_form_field_send, type_form_send, name_send, expr_field_send, expr_send, element_field_send, item_form_field_send, item_form_send, boxed.the_send, function_head_send) depth 30

specification_field_sync : IsSync specification.the_field.row
specification_field_sync = search (sendable, items.the_sync, Vec-sync, type_form_field_sync, type_form_sync, name_sync, expr_field_sync, expr_sync, element_field_sync, item_form_field_sync, item_form_sync, boxed.the_sync, function_head_sync) depth 30

head_field_send : IsSend head.the_field.row
head_field_send = search (sendable, items.the_send, name_send, formal_group_send, function_head_field_send) depth 30

head_field_sync : IsSync head.the_field.row
head_field_sync = search (sendable, items.the_sync, name_sync, formal_group_sync, function_head_field_sync) depth 30

specified_field_send : IsSend specified.the_field.row
specified_field_send = search (sendable, specification_field_send, head_field_send) depth 30

specified_field_sync : IsSync specified.the_field.row
specified_field_sync = search (sendable, specification_field_sync, head_field_sync) depth 30

output_item_field_send : IsSend output_item.the_field.row
output_item_field_send = search (sendable, expr_field_send, boxed.the_send, expr_send) depth 30

output_item_send : IsSend output_item.the_row
output_item_send = search (sendable, output_item_field_send) depth 10

output_item_field_sync : IsSync output_item.the_field.row
output_item_field_sync = search (sendable, expr_field_sync, boxed.the_sync, expr_sync) depth 30

output_item_sync : IsSync output_item.the_row
output_item_sync = search (sendable, output_item_field_sync) depth 10

input_item_field_send : IsSend input_item.the_field.row
input_item_field_send = search (sendable, element_field_send, boxed.the_send, element_send) depth 30

input_item_send : IsSend input_item.the_row
input_item_send = search (sendable, input_item_field_send) depth 10

input_item_field_sync : IsSync input_item.the_field.row
input_item_field_sync = search (sendable, element_field_sync, boxed.the_sync, element_sync) depth 30

input_item_sync : IsSync input_item.the_row
input_item_sync = search (sendable, input_item_field_sync) depth 10

input_field_send : IsSend input.the_field.row
input_field_send = search (sendable, items.the_send, Vec-send, element_field_send, input_item_field_send, input_item_send, expr_field_send, name_send) depth 30

input_field_sync : IsSync input.the_field.row
input_field_sync = search (sendable, items.the_sync, Vec-sync, element_field_sync, input_item_field_sync, input_item_sync, expr_field_sync, name_sync) depth 30

action_field_send : IsSend action.the_field.row
action_field_send = search (sendable, items.the_send, Vec-send, element_field_send, element_send, expr_field_send, expr_send, output_item_field_send, output_item_send, input_field_send) depth 30

action_field_sync : IsSync action.the_field.row
action_field_sync = search (sendable, items.the_sync, Vec-sync, element_field_sync, element_sync, expr_field_sync, expr_sync, output_item_field_sync, output_item_sync, input_field_sync) depth 30

replicator_field_send : IsSend replicator.the_field.row
replicator_field_send = search (sendable, name_send, expr_field_send) depth 30

replicator_send : IsSend replicator.the_row
replicator_send = search (sendable, replicator_field_send) depth 10

replicator_field_sync : IsSync replicator.the_field.row
replicator_field_sync = search (sendable, name_sync, expr_field_sync) depth 30

replicator_sync : IsSync replicator.the_row
replicator_sync = search (sendable, replicator_field_sync) depth 10

construct_field_send : IsSend construct.the_field.row
construct_field_send = search (sendable, construct_kind_cross.the_field_send, replicator_send, expr_field_send, element_field_send) depth 30

construct_field_sync : IsSync construct.the_field.row
construct_field_sync = search (sendable, construct_kind_cross.the_field_sync, replicator_sync, expr_field_sync, element_field_sync) depth 30

guarded_field_send : IsSend guarded.the_field.row
guarded_field_send = search (sendable, input_field_send, element_field_send) depth 30

guarded_send : IsSend guarded.the_row
guarded_send = search (sendable, guarded_field_send) depth 10

guarded_field_sync : IsSync guarded.the_field.row
guarded_field_sync = search (sendable, input_field_sync, element_field_sync) depth 30

guarded_sync : IsSync guarded.the_row
guarded_sync = search (sendable, guarded_field_sync) depth 10

part_field_send : IsSend part.the_field.row
part_field_send = search (sendable, items.the_send, Vec-send, expr_field_send, expr_send, boxed.the_send, guarded_send) depth 30

part_field_sync : IsSync part.the_field.row
part_field_sync = search (sendable, items.the_sync, Vec-sync, expr_field_sync, expr_sync, boxed.the_sync, guarded_sync) depth 30

detail_field_send : IsSend detail.the_field.row
detail_field_send = search (sendable, items.the_send, element_field_send, dimension_field_send, dimension_send, name_send, boxed.the_send, builtin_send, data_form_field_send) depth 30

detail_send : IsSend detail.the_row
detail_send = search (sendable, detail_field_send) depth 10

detail_field_sync : IsSync detail.the_field.row
detail_field_sync = search (sendable, items.the_sync, element_field_sync, dimension_field_sync, dimension_sync, name_sync, boxed.the_sync, builtin_sync, data_form_field_sync) depth 30

detail_sync : IsSync detail.the_row
detail_sync = search (sendable, detail_field_sync) depth 10

form_field_send : IsSend form.the_field.row
form_field_send = search (sendable, items.the_send, Vec-send, specified_field_send, action_field_send, construct_field_send, part_field_send, expr_field_send, expr_send, name_send, detail_field_send, detail_send) depth 30

form_send : IsSend form.the_row
form_send = search (sendable, form_field_send) depth 10

form_field_sync : IsSync form.the_field.row
form_field_sync = search (sendable, items.the_sync, Vec-sync, specified_field_sync, action_field_sync, construct_field_sync, part_field_sync, expr_field_sync, expr_sync, name_sync, detail_field_sync, detail_sync) depth 30

form_sync : IsSync form.the_row
form_sync = search (sendable, form_field_sync) depth 10

shared_name_send : IsSend (shared_of.the_row file_name_of.the_row)
shared_name_send = shared.the_send file_name_of.the_row file_name_cross.the_send file_name_cross.the_sync

shared_name_sync : IsSync (shared_of.the_row file_name_of.the_row)
shared_name_sync = shared.the_sync file_name_of.the_row file_name_cross.the_send file_name_cross.the_sync

line_body_field_send : IsSend line_body.the_field.row
line_body_field_send = search (sendable, shared.the_send, shared_name_send, form_send, form_sync, boxed.the_send, file_name_cross.the_send, code_cross.the_field_send) depth 30

line_body_field_sync : IsSync line_body.the_field.row
line_body_field_sync = search (sendable, shared.the_sync, shared_name_sync, form_sync, form_send, boxed.the_sync, file_name_cross.the_sync, code_cross.the_field_sync) depth 30

source_line_field_send : IsSend source_line.the_field.row
source_line_field_send = search (sendable, line_body_field_send) depth 30

source_line_send : IsSend source_line.the_row
source_line_send = search (sendable, source_line_field_send) depth 10

source_line_field_sync : IsSync source_line.the_field.row
source_line_field_sync = search (sendable, line_body_field_sync) depth 30

source_line_sync : IsSync source_line.the_row
source_line_sync = search (sendable, source_line_field_sync) depth 10

-- lists of names, as a text has one and lines of expansions share it
names_send : IsSend (items_of.the_row file_name_of.the_row)
names_send = items.the_send file_name_of.the_row file_name_cross.the_send

names_sync : IsSync (items_of.the_row file_name_of.the_row)
names_sync = items.the_sync file_name_of.the_row file_name_cross.the_sync

shared_names_send : IsSend (shared_of.the_row (items_of.the_row file_name_of.the_row))
shared_names_send = shared.the_send (items_of.the_row file_name_of.the_row) names_send names_sync

shared_names_sync : IsSync (shared_of.the_row (items_of.the_row file_name_of.the_row))
shared_names_sync = shared.the_sync (items_of.the_row file_name_of.the_row) names_send names_sync

byte_send : IsSend u8
byte_send = search sendable depth 10

byte_sync : IsSync u8
byte_sync = search sendable depth 10

bytes_send : IsSend (items_of.the_row u8)
bytes_send = items.the_send u8 byte_send

bytes_sync : IsSync (items_of.the_row u8)
bytes_sync = items.the_sync u8 byte_sync

-- the lines of a text, which texts share that differ in skipped lines alone
source_lines_send : IsSend (items_of.the_row source_line.the_row)
source_lines_send = items.the_send source_line.the_row source_line_send

source_lines_sync : IsSync (items_of.the_row source_line.the_row)
source_lines_sync = items.the_sync source_line.the_row source_line_sync

shared_lines_send : IsSend (shared_of.the_row (items_of.the_row source_line.the_row))
shared_lines_send = shared.the_send (items_of.the_row source_line.the_row) source_lines_send source_lines_sync

shared_lines_sync : IsSync (shared_of.the_row (items_of.the_row source_line.the_row))
shared_lines_sync = shared.the_sync (items_of.the_row source_line.the_row) source_lines_send source_lines_sync

source_field_send : IsSend source.the_field.row
source_field_send = search (sendable, bytes_send, shared_lines_send, shared_names_send) depth 30

source_field_sync : IsSync source.the_field.row
source_field_sync = search (sendable, bytes_sync, shared_lines_sync, shared_names_sync) depth 30

read_field_send : IsSend read.the_field.row
read_field_send = search (sendable, shared.the_send, file_name_cross.the_send, source_field_send, source_field_sync) depth 30

read_send : IsSend read.the_row
read_send = search (sendable, read_field_send) depth 10

read_field_sync : IsSync read.the_field.row
read_field_sync = search (sendable, shared.the_sync, file_name_cross.the_sync, source_field_sync, source_field_send) depth 30

read_sync : IsSync read.the_row
read_sync = search (sendable, read_field_sync) depth 10

shared_read_send : IsSend (shared_of.the_row read.the_row)
shared_read_send = shared.the_send read.the_row read_send read_sync

occ_type_send : IsSend occ_type.the_row
occ_type_send = search (sendable, types.crosses_both, shared.the_send, shared.the_sync, items.the_send, items.the_sync, name_cross.the_send, name_cross.the_sync) depth 30

occ_type_sync : IsSync occ_type.the_row
occ_type_sync = search (sendable, types.crosses_both, shared.the_send, shared.the_sync, items.the_send, items.the_sync, name_cross.the_send, name_cross.the_sync) depth 30

formal_field_send : IsSend formal.the_field.row
formal_field_send = search (sendable, shared.the_send, occ_type_send, occ_type_sync, passing_cross.the_field_send) depth 30

formal_send : IsSend formal.the_row
formal_send = search (sendable, formal_field_send) depth 10

formal_field_sync : IsSync formal.the_field.row
formal_field_sync = search (sendable, shared.the_sync, occ_type_sync, occ_type_send, passing_cross.the_field_sync) depth 30

formal_sync : IsSync formal.the_row
formal_sync = search (sendable, formal_field_sync) depth 10

formals_send : IsSend (shared_of.the_row (items_of.the_row formal.the_row))
formals_send = shared.the_send (items_of.the_row formal.the_row) (items.the_send formal.the_row formal_send) (items.the_sync formal.the_row formal_sync)

formals_sync : IsSync (shared_of.the_row (items_of.the_row formal.the_row))
formals_sync = shared.the_sync (items_of.the_row formal.the_row) (items.the_send formal.the_row formal_send) (items.the_sync formal.the_row formal_sync)

export_field_send : IsSend export.the_field.row
export_field_send = search (sendable, items.the_send, shared.the_send, name_send, export_kind_cross.the_field_send, formals_send, occ_type_send, occ_type_sync, formal_use_cross.the_send, effect_cross.the_field_send) depth 30

export_send : IsSend export.the_row
export_send = search (sendable, export_field_send) depth 10

export_field_sync : IsSync export.the_field.row
export_field_sync = search (sendable, items.the_sync, shared.the_sync, name_sync, export_kind_cross.the_field_sync, formals_sync, occ_type_sync, occ_type_send, formal_use_cross.the_sync, effect_cross.the_field_sync) depth 30

export_sync : IsSync export.the_row
export_sync = search (sendable, export_field_sync) depth 10

interface_field_send : IsSend interface.the_field.row
interface_field_send = search (sendable, items.the_send, export_send) depth 30

interface_send : IsSend interface.the_row
interface_send = search (sendable, interface_field_send) depth 10

interface_field_sync : IsSync interface.the_field.row
interface_field_sync = search (sendable, items.the_sync, export_sync) depth 30

interface_sync : IsSync interface.the_row
interface_sync = search (sendable, interface_field_sync) depth 10

used_field_send : IsSend used.the_field.row
used_field_send = search (sendable, shared.the_send, interface_send, interface_sync) depth 30

used_unit_field_send : IsSend used_unit.the_field.row
used_unit_field_send = search (sendable, file_name_cross.the_send, used_field_send) depth 30

used_unit_send : IsSend used_unit.the_row
used_unit_send = search (sendable, used_unit_field_send) depth 10

job_field_send : IsSend job.the_field.row
job_field_send = search (sendable, items.the_send, file_name_cross.the_send, read_send, used_unit_send) depth 30

diags_send : IsSend (items_of.the_row diag_of.the_row)
diags_send = items.the_send diag_of.the_row diag_cross.the_send

diags_sync : IsSync (items_of.the_row diag_of.the_row)
diags_sync = items.the_sync diag_of.the_row diag_cross.the_sync

shared_diags_send : IsSend (shared_of.the_row (items_of.the_row diag_of.the_row))
shared_diags_send = shared.the_send (items_of.the_row diag_of.the_row) diags_send diags_sync

outcome_field_send : IsSend outcome.the_field.row
outcome_field_send = search (sendable, shared.the_send, job_field_send, shared_diags_send, interface_send, interface_sync) depth 30

edit_field_send : IsSend edit.the_field.row
edit_field_send = search (sendable, shared.the_send, file_name_cross.the_send, source_field_send, source_field_sync) depth 30

entry_field_send : IsSend entry.the_field.row
entry_field_send = search (sendable, edit_field_send) depth 30

entry_send : IsSend entry.the_row
entry_send = search (sendable, entry_field_send) depth 10

project_field_send : IsSend project.the_field.row
project_field_send = search (sendable, Vec-send, shared_read_send) depth 30

facts_field_send : IsSend facts.the_field.row
facts_field_send = search (sendable, names_send, shared_names_send) depth 30

facts_send : IsSend facts.the_row
facts_send = search (sendable, facts_field_send) depth 10

facts_field_sync : IsSync facts.the_field.row
facts_field_sync = search (sendable, names_sync, shared_names_sync) depth 30

facts_sync : IsSync facts.the_row
facts_sync = search (sendable, facts_field_sync) depth 10

shared_facts_send : IsSend (shared_of.the_row facts.the_row)
shared_facts_send = shared.the_send facts.the_row facts_send facts_sync

number_send : IsSend usize
number_send = search sendable depth 10

row_send : IsSend (items_of.the_row usize)
row_send = items.the_send usize number_send

numbers_send : IsSend (items_of.the_row (items_of.the_row usize))
numbers_send = items.the_send (items_of.the_row usize) row_send

links_field_send : IsSend links.the_field.row
links_field_send = search (sendable, Vec-send, row_send, number_send) depth 30

shared_name_row_send : IsSend (items_of.the_row (shared_of.the_row file_name_of.the_row))
shared_name_row_send = items.the_send (shared_of.the_row file_name_of.the_row) shared_name_send

lookers_field_send : IsSend lookers.the_field.row
lookers_field_send = search (sendable, Vec-send, shared_name_row_send, number_send) depth 30

lookers_send : IsSend lookers.the_row
lookers_send = search (sendable, lookers_field_send) depth 10

graph_field_send : IsSend graph.the_field.row
graph_field_send = search (sendable, Vec-send, project_field_send, shared_facts_send, links_field_send, lookers_send, numbers_send, row_send) depth 30

cached_field_send : IsSend cached.the_field.row
cached_field_send = search (sendable, Vec-send, BTreeMap-send, outcome_field_send, file_name_cross.the_send) depth 30

flags_field_send : IsSend flags.the_field.row
flags_field_send = search (sendable, Vec-send) depth 30

base_field_send : IsSend base.the_field.row
base_field_send = search (sendable, project_field_send) depth 30

waiting_field_send : IsSend waiting.the_field.row
waiting_field_send = search (sendable, BTreeMap-send, number_send) depth 30

-- the last fields of a board: its flags and counts, and what may be ready
counts_send : IsSend flags.the_field.row × (IsSend flags.the_field.row × (IsSend usize × (IsSend usize × (IsSend waiting.the_field.row × (IsSend usize × (IsSend usize × Unit {0}))))))
counts_send = (flags_field_send, (flags_field_send, (number_send, (number_send, (waiting_field_send, (number_send, (number_send, tt)))))))

board_field_send : IsSend board.the_field.row
board_field_send = search (sendable, base_field_send, Vec-send, entry_send, cached_field_send, job_field_send, graph_field_send, counts_send) depth 30

locked_field_send : IsSend locked.the_field.row
locked_field_send = search (sendable, board_field_send) depth 20

locked_send : IsSend locked.the_row
locked_send = search (sendable, locked_field_send) depth 10

lock_sync : IsSync (mutex_of.the_field locked.the_row).row
lock_sync = mutex.the_sync locked.the_row locked_send

condvar_sync : IsSync condvar_of.the_field.row
condvar_sync = search (sendable, condvar.the_field_sync) depth 10

server_field_sync : IsSync server.the_field.row
server_field_sync = search (sendable, lock_sync, condvar_sync) depth 20

pub server_sync : IsSync server.the_row
server_sync = search (sendable, server_field_sync) depth 10

receipt_field_send : IsSend receipt.the_field.row
receipt_field_send = search (sendable, entry_field_send) depth 30

pub receipt_send : IsSend receipt.the_row
receipt_send = search (sendable, receipt_field_send) depth 10

pub snapshot_field_send : IsSend snapshot.the_field.row
snapshot_field_send = search (sendable, base_field_send, items.the_send, entry_send, row_cross.the_send) depth 30
