use Rattle.std.proofs.Common.{sym, ◌∷◌}
use Rattle.occ_forms_expressions.specs.declared.tree.DataBase.TheVariants as da
use Rattle.occ_forms.specs.declared.tree.Detail.TheVariants as de
use Rattle.occ_forms.proofs.Details.{array_right, counted_right, typed_right}
use Rattle.occ_forms.proofs.detail.type_detail.Goals as goal

pub returns-in_default-clause-array : goal.returns-in_default-clause-array
returns-in_default-clause-array c d ds n k ends e = rw c.in_default.is at c.in_ok-form.ensures.only (record { dimensions = d ∷ ds; base = da.Named n }) k e

pub returns-in-Some-after_counted-clause-right : goal.returns-in-Some-after_counted-clause-right
returns-in-Some-after_counted-clause-right c = counted_right _ _ _ _ _ (rw c.in-Some.is at c.in_ok-form.ensures.found) (rw c.in-Some.is at c.in_ok-form.ensures.only) c.in-Some-after_counted.ensures c.counted_detail.ensures.only

pub returns-in-Some-after_counted-clause-array : goal.returns-in-Some-after_counted-clause-array
returns-in-Some-after_counted-clause-array c = array_right _ _ _ _ _ (rw c.in-Some.is at c.in_ok-form.ensures.only) c.in-Some-after_counted.ensures

pub returns-in-Some-2-clause-right : goal.returns-in-Some-2-clause-right
returns-in-Some-2-clause-right c = typed_right _ _ _ _ (rw c.in-Some.is at c.in_ok-form.ensures.found) (rw c.in-Some.is at c.in_ok-form.ensures.only) c.in_default-after_counted.ensures (sym (rw c.in-Some-2.is at c.in_ok-detail.ensures))

pub returns-in-Some-2-clause-array : goal.returns-in-Some-2-clause-array
returns-in-Some-2-clause-array c d ds n k ends e = typed_right _ _ _ _ (rw c.in-Some.is at c.in_ok-form.ensures.found) (rw c.in-Some.is at c.in_ok-form.ensures.only) c.in_default-after_counted.ensures (sym (rw c.in-Some-2.is at c.in_ok-detail.ensures)) (de.Array d ds n) k ends e
