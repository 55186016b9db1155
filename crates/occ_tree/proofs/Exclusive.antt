-- A line is a main line, a specification, one of the two lines round a body, or nothing of these.
use Rattle.std.proofs.Common.{◌≡◌, ◌∙◌, ◌⊎◌, ◌||◌, Bool, true, false, inl, inr, refl, sym}
use Rattle.std.proofs.lemmas.Bool.{false≢true}
use Rattle.occ_tree.specs.declared.row.Row.{Row}
use Rattle.occ_tree.specs.declared.row.Row.TheVariants as row
use Rattle.occ_tree.specs.declared.sort.Sort.{Sort}
use Rattle.occ_tree.specs.declared.sort.Sort.TheVariants as sort
use Rattle.occ_tree.specs.Obeys.{is_file}
use Rattle.occ_tree.specs.Table.{is_close, is_head, is_list, is_main, is_process, is_result, is_single, is_value, lets_line}

main_procedurehead : (r : Row) → is_main r sort.ProcedureHead ≡ false
main_procedurehead row.File = refl
main_procedurehead row.Processes = refl
main_procedurehead row.Process = refl
main_procedurehead row.Conditions = refl
main_procedurehead row.Condition = refl
main_procedurehead row.Guards = refl
main_procedurehead row.Guard = refl
main_procedurehead row.Options = refl
main_procedurehead row.Variants = refl
main_procedurehead row.ValueOf = refl
main_procedurehead row.Value = refl
main_procedurehead row.Case = refl
main_procedurehead row.Tags = refl
main_procedurehead row.Record = refl
main_procedurehead row.Fields = refl
main_procedurehead row.Nothing = refl

main_functionhead : (r : Row) → is_main r sort.FunctionHead ≡ false
main_functionhead row.File = refl
main_functionhead row.Processes = refl
main_functionhead row.Process = refl
main_functionhead row.Conditions = refl
main_functionhead row.Condition = refl
main_functionhead row.Guards = refl
main_functionhead row.Guard = refl
main_functionhead row.Options = refl
main_functionhead row.Variants = refl
main_functionhead row.ValueOf = refl
main_functionhead row.Value = refl
main_functionhead row.Case = refl
main_functionhead row.Tags = refl
main_functionhead row.Record = refl
main_functionhead row.Fields = refl
main_functionhead row.Nothing = refl

main_protocolhead : (r : Row) → is_main r sort.ProtocolHead ≡ false
main_protocolhead row.File = refl
main_protocolhead row.Processes = refl
main_protocolhead row.Process = refl
main_protocolhead row.Conditions = refl
main_protocolhead row.Condition = refl
main_protocolhead row.Guards = refl
main_protocolhead row.Guard = refl
main_protocolhead row.Options = refl
main_protocolhead row.Variants = refl
main_protocolhead row.ValueOf = refl
main_protocolhead row.Value = refl
main_protocolhead row.Case = refl
main_protocolhead row.Tags = refl
main_protocolhead row.Record = refl
main_protocolhead row.Fields = refl
main_protocolhead row.Nothing = refl

main_datatypehead : (r : Row) → is_main r sort.DataTypeHead ≡ false
main_datatypehead row.File = refl
main_datatypehead row.Processes = refl
main_datatypehead row.Process = refl
main_datatypehead row.Conditions = refl
main_datatypehead row.Condition = refl
main_datatypehead row.Guards = refl
main_datatypehead row.Guard = refl
main_datatypehead row.Options = refl
main_datatypehead row.Variants = refl
main_datatypehead row.ValueOf = refl
main_datatypehead row.Value = refl
main_datatypehead row.Case = refl
main_datatypehead row.Tags = refl
main_datatypehead row.Record = refl
main_datatypehead row.Fields = refl
main_datatypehead row.Nothing = refl

pub main_close : (r : Row) → is_main r sort.Close ≡ false
main_close row.File = refl
main_close row.Processes = refl
main_close row.Process = refl
main_close row.Conditions = refl
main_close row.Condition = refl
main_close row.Guards = refl
main_close row.Guard = refl
main_close row.Options = refl
main_close row.Variants = refl
main_close row.ValueOf = refl
main_close row.Value = refl
main_close row.Case = refl
main_close row.Tags = refl
main_close row.Record = refl
main_close row.Fields = refl
main_close row.Nothing = refl

main_globalspecification : (r : Row) → is_main r sort.GlobalSpecification ≡ false
main_globalspecification row.File = refl
main_globalspecification row.Processes = refl
main_globalspecification row.Process = refl
main_globalspecification row.Conditions = refl
main_globalspecification row.Condition = refl
main_globalspecification row.Guards = refl
main_globalspecification row.Guard = refl
main_globalspecification row.Options = refl
main_globalspecification row.Variants = refl
main_globalspecification row.ValueOf = refl
main_globalspecification row.Value = refl
main_globalspecification row.Case = refl
main_globalspecification row.Tags = refl
main_globalspecification row.Record = refl
main_globalspecification row.Fields = refl
main_globalspecification row.Nothing = refl

main_localspecification : (r : Row) → is_main r sort.LocalSpecification ≡ false
main_localspecification row.File = refl
main_localspecification row.Processes = refl
main_localspecification row.Process = refl
main_localspecification row.Conditions = refl
main_localspecification row.Condition = refl
main_localspecification row.Guards = refl
main_localspecification row.Guard = refl
main_localspecification row.Options = refl
main_localspecification row.Variants = refl
main_localspecification row.ValueOf = refl
main_localspecification row.Value = refl
main_localspecification row.Case = refl
main_localspecification row.Tags = refl
main_localspecification row.Record = refl
main_localspecification row.Fields = refl
main_localspecification row.Nothing = refl

main_declaration : (r : Row) → lets_line r sort.Declaration ≡ true → is_main r sort.Declaration ≡ false
main_declaration row.File h = refl
main_declaration row.Processes h = refl
main_declaration row.Process h = refl
main_declaration row.Conditions h = refl
main_declaration row.Condition h = refl
main_declaration row.Guards h = refl
main_declaration row.Guard h = refl
main_declaration row.Options h = refl
main_declaration row.Variants h = refl
main_declaration row.ValueOf h = refl
main_declaration row.Value h = refl
main_declaration row.Case h = refl
main_declaration row.Tags h = refl
main_declaration row.Record h = refl
main_declaration row.Fields h = absurd (false≢true h)
main_declaration row.Nothing h = refl

pub head_main : (r : Row) (s : Sort) → is_head s ≡ true → is_main r s ≡ false
head_main r sort.ProcedureHead h = main_procedurehead r
head_main r sort.FunctionHead h = main_functionhead r
head_main r sort.ProtocolHead h = main_protocolhead r
head_main r sort.DataTypeHead h = main_datatypehead r
head_main r _ h = absurd (false≢true h)

pub head_line : (r : Row) (s : Sort) → is_head s ≡ true → lets_line r s ≡ false
head_line r sort.ProcedureHead h = refl
head_line r sort.FunctionHead h = refl
head_line r sort.ProtocolHead h = refl
head_line r sort.DataTypeHead h = refl
head_line r _ h = absurd (false≢true h)

pub head_process : (s : Sort) → is_head s ≡ true → is_process s ≡ false
head_process sort.ProcedureHead h = refl
head_process sort.FunctionHead h = refl
head_process sort.ProtocolHead h = refl
head_process sort.DataTypeHead h = refl
head_process _ h = absurd (false≢true h)

pub head_result : (s : Sort) → is_head s ≡ true → is_result s ≡ false
head_result sort.ProcedureHead h = refl
head_result sort.FunctionHead h = refl
head_result sort.ProtocolHead h = refl
head_result sort.DataTypeHead h = refl
head_result _ h = absurd (false≢true h)

pub close_is : (s : Sort) → is_close s ≡ true → s ≡ sort.Close
close_is sort.Close h = refl
close_is _ h = absurd (false≢true h)

pub close_main : (r : Row) → is_main r sort.Close ≡ false
close_main = main_close

pub line_main : (r : Row) (s : Sort) → lets_line r s ≡ true → is_main r s ≡ false
line_main r sort.GlobalSpecification h = main_globalspecification r
line_main r sort.Declaration h = main_declaration r h
line_main r sort.LocalSpecification h = main_localspecification r
line_main r _ h = absurd (false≢true h)

pub line_head : (r : Row) (s : Sort) → lets_line r s ≡ true → is_head s ≡ false
line_head r sort.GlobalSpecification h = refl
line_head r sort.Declaration h = refl
line_head r sort.LocalSpecification h = refl
line_head r _ h = absurd (false≢true h)

pub line_process : (r : Row) (s : Sort) → lets_line r s ≡ true → is_process s ≡ false
line_process r sort.GlobalSpecification h = refl
line_process r sort.Declaration h = refl
line_process r sort.LocalSpecification h = refl
line_process r _ h = absurd (false≢true h)

pub line_result : (r : Row) (s : Sort) → lets_line r s ≡ true → is_result s ≡ false
line_result r sort.GlobalSpecification h = refl
line_result r sort.Declaration h = refl
line_result r sort.LocalSpecification h = refl
line_result r _ h = absurd (false≢true h)

pub contrary : (a b : Bool) → (b ≡ true → a ≡ false) → a ≡ true → b ≡ false
contrary a true f h = absurd (false≢true (sym (f refl) ∙ h))
contrary a false f h = refl

pub main_head : (r : Row) (s : Sort) → is_main r s ≡ true → is_head s ≡ false
main_head r s = contrary (is_main r s) (is_head s) (head_main r s)

pub main_line : (r : Row) (s : Sort) → is_main r s ≡ true → lets_line r s ≡ false
main_line r s = contrary (is_main r s) (lets_line r s) (line_main r s)

pub process_result : (s : Sort) → is_process s ≡ true → is_result s ≡ false
process_result sort.Result h = absurd (false≢true h)
process_result _ h = refl

pub result_is : (s : Sort) → is_result s ≡ true → s ≡ sort.Result
result_is sort.Result h = refl
result_is _ h = absurd (false≢true h)

pub single_file : (r : Row) → is_single r ≡ true → is_file r ≡ false
single_file row.File h = absurd (false≢true h)
single_file _ h = refl

pub list_file : (r : Row) → is_list r ≡ true → is_file r ≡ false
list_file row.File h = absurd (false≢true h)
list_file _ h = refl

pub value_file : (r : Row) → is_value r ≡ true → is_file r ≡ false
value_file row.File h = absurd (false≢true h)
value_file _ h = refl

either : (a b : Bool) → (a || b) ≡ true → (a ≡ true) ⊎ (b ≡ true)
either true b h = inl refl
either false b h = inr h

pub value_main : (r : Row) (s : Sort) → is_value r ≡ true → is_main r s ≡ true → (is_process s ≡ true) ⊎ (is_result s ≡ true)
value_main row.Value s h m = either (is_process s) (is_result s) m
value_main _ s h m = absurd (false≢true h)

pub result_process : (s : Sort) → is_result s ≡ true → is_process s ≡ false
result_process sort.Result h = refl
result_process _ h = absurd (false≢true h)
