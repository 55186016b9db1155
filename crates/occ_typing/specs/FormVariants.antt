-- The forms of typed lines one by one, passed on.
pub use Rattle.occ_typing_lines.specs.declared.tree.TypedForm.TheVariants.{Declaration, Abbreviation, Retyped, Value, RetypedValue, OneLineFunction, DataType, Protocol, Uses, ProcedureHead, FunctionHead, RecordHead, ProtocolHead, Member, Close, Skip, Stop, Assignment, Output, Input, Instance, Block, While, Selection, CaseInput, Condition, Options, Otherwise, Guard, Variant, ValueOf, Results, Unknown}
