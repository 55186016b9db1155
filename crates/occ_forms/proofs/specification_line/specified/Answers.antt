use Rattle.std.proofs.Common.{sym, ◌∙◌}
use Rattle.occ_forms.proofs.Starts.{data_type_only, other_only, procedure_only, protocol_only, value_only}
use Rattle.occ_forms.proofs.specification_line.specified.Goals as goal

pub returns-in-Procedure-clause-only : goal.returns-in-Procedure-clause-only
returns-in-Procedure-clause-only c = procedure_only _ _ (sym c.starts.ensures ∙ c.in-Procedure.is) c.procedure.ensures.only

pub returns-in-Protocol-clause-only : goal.returns-in-Protocol-clause-only
returns-in-Protocol-clause-only c = protocol_only _ _ (sym c.starts.ensures ∙ c.in-Protocol.is) c.protocol.ensures.head c.protocol.ensures.line

pub returns-in-DataType-clause-only : goal.returns-in-DataType-clause-only
returns-in-DataType-clause-only c = data_type_only _ _ (sym c.starts.ensures ∙ c.in-DataType.is) c.data_type.ensures.head c.data_type.ensures.line

pub returns-in-Value-clause-only : goal.returns-in-Value-clause-only
returns-in-Value-clause-only c = value_only _ _ (sym c.starts.ensures ∙ c.in-Value.is) c.value.ensures.untyped c.value.ensures.typed

pub returns-in-Other-clause-only : goal.returns-in-Other-clause-only
returns-in-Other-clause-only c = other_only _ _ (sym c.starts.ensures ∙ c.in-Other.is) c.named_or_typed.ensures.untyped c.named_or_typed.ensures.bound c.named_or_typed.ensures.declared c.named_or_typed.ensures.head c.named_or_typed.ensures.line
