-- A line is a main line, a specification, one of the two lines round a body, or nothing of these.
use Rattle.std.proofs.Common.{◌≡◌, true, false, refl}
use Rattle.std.proofs.lemmas.Bool.{false≢true}
use Rattle.occ_tree.specs.declared.row.Row.{Row}
use Rattle.occ_tree.specs.declared.row.Row.TheVariants as row
use Rattle.occ_tree.specs.declared.sort.Sort.{Sort}
use Rattle.occ_tree.specs.declared.sort.Sort.TheVariants as sort
use Rattle.occ_tree.specs.Table.{is_close, is_head, is_main, is_single, is_value, lets_line}
use Rattle.occ_tree.proofs.Exclusive.{main_close, contrary}

pub head_close : (s : Sort) → is_head s ≡ true → is_close s ≡ false
head_close sort.ProcedureHead h = refl
head_close sort.FunctionHead h = refl
head_close sort.ProtocolHead h = refl
head_close sort.DataTypeHead h = refl
head_close _ h = absurd (false≢true h)

pub line_close : (r : Row) (s : Sort) → lets_line r s ≡ true → is_close s ≡ false
line_close r sort.GlobalSpecification h = refl
line_close r sort.Declaration h = refl
line_close r sort.LocalSpecification h = refl
line_close r _ h = absurd (false≢true h)

close_no_main : (r : Row) (s : Sort) → is_close s ≡ true → is_main r s ≡ false
close_no_main r sort.Close h = main_close r
close_no_main r _ h = absurd (false≢true h)

pub main_no_close : (r : Row) (s : Sort) → is_main r s ≡ true → is_close s ≡ false
main_no_close r s = contrary (is_main r s) (is_close s) (close_no_main r s)

pub value_single : (r : Row) → is_value r ≡ true → is_single r ≡ false
value_single row.Value h = refl
value_single _ h = absurd (false≢true h)

pub single_value : (r : Row) → is_single r ≡ true → is_value r ≡ false
single_value row.Value h = absurd (false≢true h)
single_value _ h = refl
