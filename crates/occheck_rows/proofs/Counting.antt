-- One more row in a tally.
use Rattle.std.proofs.Common.{◌≡◌, ◌<◌, ◌+◌, ◌^◌, ℕ, List, Bool, true, false, cond, length, take, get_or, refl, sym, ◌∙◌, subst, arith}
use Rattle.std.specs.List.{All}
use Rattle.std.proofs.lemmas.List.Elements.{All-more}
use Rattle.occheck_script.specs.Devices.{counted}
use Rattle.occheck_rows.specs.Met.{IsRight}
use Rattle.occheck_rows.specs.declared.row.Row.{Row}

pub one_more : (held : Bool) (passed failed passed' failed' i : ℕ) → passed + failed ≡ i → i < 2 ^ 63 → passed' ≡ cond held (counted passed 1) passed → failed' ≡ cond held failed (counted failed 1)
    → passed' + failed' ≡ i + 1
one_more true passed failed passed' failed' i e s p f = omega (arith, e, s, p, f)
one_more false passed failed passed' failed' i e s p f = omega (arith, e, s, p, f)

some_failed : (failed failed' : ℕ) → failed' ≡ counted failed 1 → failed' ≡ 0 → ⊥
some_failed failed failed' e z = omega (arith, e, z)

-- where none failed, the one more is right too
pub more_right : (rows : List Row) (i : ℕ) (d row : Row) (held : Bool) (failed failed' : ℕ) → i < length rows → row ≡ get_or rows i d → (failed ≡ 0 → All IsRight (take i rows))
    → failed' ≡ cond held failed (counted failed 1) → (held ≡ true → IsRight row) → failed' ≡ 0 → All IsRight (take (i + 1) rows)
more_right rows i d row true failed failed' h e before f right z = All-more IsRight rows i d h (before (sym f ∙ z)) (subst IsRight e (right refl))
more_right rows i d row false failed failed' h e before f right z = absurd (some_failed failed failed' f z)
