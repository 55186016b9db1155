use Rattle.std.proofs.Common.{sym, ◌∙◌}
use Rattle.occ_forms.specs.declared.tree.Action.TheVariants as ac
use Rattle.occ_forms.specs.declared.tree.Form.TheVariants as fo
use Rattle.occ_forms.specs.declared.tree.PartForm.TheVariants as pa
use Rattle.occ_forms.proofs.Classes.{alone_line, assignment_line, case_line, close_line, else_alone, expressions_line, guard_line, input_line, output_line, packed_record_alone, record_alone, replicable_line, result_line, skip_alone, specified_line, stop_alone, tagged_line, value_of_alone, while_line}
use Rattle.occ_forms.proofs.line.line.Goals as goal

pub returns-in-Close : goal.returns-in-Close
returns-in-Close c = close_line _ _ (sym c.classify.ensures ∙ c.in-Close.is) c.close_or_declaration.ensures.found c.close_or_declaration.ensures.close c.close_or_declaration.ensures.only

pub returns-in-Skip : goal.returns-in-Skip
returns-in-Skip c = alone_line _ _ (fo.Action ac.Skip) _ (sym c.classify.ensures ∙ c.in-Skip.is) skip_alone c.word_alone.ensures

pub returns-in-Stop : goal.returns-in-Stop
returns-in-Stop c = alone_line _ _ (fo.Action ac.Stop) _ (sym c.classify.ensures ∙ c.in-Stop.is) stop_alone c.word_alone-in-Stop.ensures

pub returns-in-Else : goal.returns-in-Else
returns-in-Else c = alone_line _ _ (fo.Part pa.Else) _ (sym c.classify.ensures ∙ c.in-Else.is) else_alone c.word_alone-in-Else.ensures

pub returns-in-ValueOf : goal.returns-in-ValueOf
returns-in-ValueOf c = alone_line _ _ (fo.Part pa.ValueOf) _ (sym c.classify.ensures ∙ c.in-ValueOf.is) value_of_alone c.word_alone-in-ValueOf.ensures

pub returns-in-Record : goal.returns-in-Record
returns-in-Record c = alone_line _ _ (fo.Part pa.Record) _ (sym c.classify.ensures ∙ c.in-Record.is) record_alone c.word_alone-in-Record.ensures

pub returns-in-Assignment : goal.returns-in-Assignment
returns-in-Assignment c = assignment_line _ _ (sym c.classify.ensures ∙ c.in-Assignment.is) c.assignment.ensures.found c.assignment.ensures.only

pub returns-in-Output : goal.returns-in-Output
returns-in-Output c = output_line _ _ (sym c.classify.ensures ∙ c.in-Output.is) c.output.ensures.found c.output.ensures.only

pub returns-in-Input : goal.returns-in-Input
returns-in-Input c = input_line _ _ (sym c.classify.ensures ∙ c.in-Input.is) c.input_line.ensures.found c.input_line.ensures.input c.input_line.ensures.case

pub returns-in-Replicable : goal.returns-in-Replicable
returns-in-Replicable c = replicable_line _ _ (sym c.classify.ensures ∙ c.in-Replicable.is) c.replicable.ensures.found c.replicable.ensures.only

pub returns-in-While : goal.returns-in-While
returns-in-While c = while_line _ _ (sym c.classify.ensures ∙ c.in-While.is) c.while_loop.ensures.found c.while_loop.ensures.only

pub returns-in-Case : goal.returns-in-Case
returns-in-Case c = case_line _ _ (sym c.classify.ensures ∙ c.in-Case.is) c.selection.ensures.found c.selection.ensures.alone c.selection.ensures.selected

pub returns-in-Result : goal.returns-in-Result
returns-in-Result c = result_line _ _ (sym c.classify.ensures ∙ c.in-Result.is) c.results.ensures.found c.results.ensures.only

pub returns-in-Guard : goal.returns-in-Guard
returns-in-Guard c = guard_line _ _ (sym c.classify.ensures ∙ c.in-Guard.is) c.guard.ensures.found c.guard.ensures.only

pub returns-in-Expressions : goal.returns-in-Expressions
returns-in-Expressions c = expressions_line _ _ (sym c.classify.ensures ∙ c.in-Expressions.is) c.expressions.ensures.found c.expressions.ensures.only

pub returns-in-Tagged : goal.returns-in-Tagged
returns-in-Tagged c = tagged_line _ _ (sym c.classify.ensures ∙ c.in-Tagged.is) c.tagged_line.ensures.found c.tagged_line.ensures.only

pub returns-in-Other : goal.returns-in-Other
returns-in-Other c = specified_line _ _ (sym c.classify.ensures ∙ c.in-Other.is) c.specification.ensures.found c.specification.ensures.only

pub returns-in-PackedRecord : goal.returns-in-PackedRecord
returns-in-PackedRecord c = alone_line _ _ (fo.Part pa.PackedRecord) _ (sym c.classify.ensures ∙ c.in-PackedRecord.is) packed_record_alone c.packed.ensures
