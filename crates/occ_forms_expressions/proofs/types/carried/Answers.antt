use Rattle.std.proofs.Common.{sym, ◌∙◌, refl}
use Rattle.occ_lines.specs.declared.token.Word.TheVariants as w
use Rattle.occ_forms_expressions.proofs.Dimensions.{channel_found, counted_found, counted_no_plain, counted_only, data_word, no_counted, no_data, plain_only}
use Rattle.occ_forms_expressions.proofs.types.carried.Goals as goal

pub returns-in-Some-clause-data : goal.returns-in-Some-clause-data
returns-in-Some-clause-data g c ds b k ends e = absurd (data_word ds b k w.Any _ refl (sym e ∙ c.in-Some.ensures))

pub returns-in-Some-clause-counted : goal.returns-in-Some-clause-counted
returns-in-Some-clause-counted g c ds b es d k ends e = absurd (data_word ds b _ w.Any _ refl (sym e ∙ c.in-Some.ensures))

pub returns-in_default-2-clause-data : goal.returns-in_default-2-clause-data
returns-in_default-2-clause-data g c ds b k ends e = no_data _ (rw c.in_default-2.is at c.in_ok-form.ensures.only) ds b k e

pub returns-in_default-2-clause-counted : goal.returns-in_default-2-clause-counted
returns-in_default-2-clause-counted g c ds b es d k ends e = no_data _ (rw c.in_default-2.is at c.in_ok-form.ensures.only) ds b _ e

pub returns-in_default-3-clause-found : goal.returns-in_default-3-clause-found
returns-in_default-3-clause-found g c = channel_found _ _ _ _ (rw c.in-Some-2.is at c.in_ok-form.ensures.found)

pub returns-in_default-3-clause-data : goal.returns-in_default-3-clause-data
returns-in_default-3-clause-data g c ds b k ends e = plain_only _ _ _ _ (rw c.in-Some-2.is at c.in_ok-form.ensures.only) ds b k e

pub returns-in_default-3-clause-counted : goal.returns-in_default-3-clause-counted
returns-in_default-3-clause-counted g c ds b es d k ends e = absurd (no_counted _ _ _ _ (rw c.in-Some-2.is at c.in_ok-form.ensures.only) (rw c.in_default-3.is at c.in_ok-array.ensures.only) ds b es d k ends e)

pub returns-clause-found : goal.returns-clause-found
returns-clause-found g c = counted_found _ _ _ _ _ _ (rw c.in-Some-2.is at c.in_ok-form.ensures.found) (rw c.in-Some-3.is at c.in_ok-array.ensures.found)

pub returns-clause-data : goal.returns-clause-data
returns-clause-data g c ds b k ends e = counted_no_plain _ _ _ _ (rw c.in-Some-2.is at c.in_ok-form.ensures.only) (rw c.in-Some-3.is at c.in_ok-array.ensures.carried) ds b k ends e

pub returns-clause-counted : goal.returns-clause-counted
returns-clause-counted g c = counted_only _ _ _ _ _ _ _ (rw c.in-Some-2.is at c.in_ok-form.ensures.only) (rw c.in-Some-3.is at c.in_ok-array.ensures.only)
