-- Diagnostics that rise are in order, each once.
use Rattle.std.proofs.Common.{◌≡◌, ◌∙◌, ◌&&◌, ◌∷◌, [], Bool, true, false, List, refl, sym, ap}
use Rattle.std.specs.BTreeSet.{insert_key}
use Rattle.std.specs.Ordering.{is_lt, match_ordering}
use Rattle.std.specs.declared.cmp.Ordering.{Ordering}
use Rattle.std.specs.declared.cmp.Ordering.TheVariants.{Less, Equal, Greater}
use Rattle.occ_base.specs.Order.{diag_order, is_rising, placed}
use Rattle.occ_base.specs.declared.diag.Diag.{Diag}
use Rattle.occ_check.specs.Order.{in_order}

first_less : (d e : Diag) (ds : List Diag) → is_rising (d ∷ e ∷ ds) ≡ true → insert_key diag_order (e ∷ ds) d ≡ d ∷ e ∷ ds
first_less d e ds h = by (diag_order d e) refl where
  by : (o : Ordering) → diag_order d e ≡ o → insert_key diag_order (e ∷ ds) d ≡ d ∷ e ∷ ds
  by Less o = ap (λ (r : Ordering). match_ordering r (d ∷ e ∷ ds) (e ∷ ds) (e ∷ insert_key diag_order ds d)) o
  by Equal o = let not_less : (is_lt (diag_order d e) && is_rising (e ∷ ds)) ≡ false = ap (λ (r : Ordering). is_lt r && is_rising (e ∷ ds)) o in absurd (cc (not_less, h))
  by Greater o = let not_less : (is_lt (diag_order d e) && is_rising (e ∷ ds)) ≡ false = ap (λ (r : Ordering). is_lt r && is_rising (e ∷ ds)) o in absurd (cc (not_less, h))

rest_rises : (d e : Diag) (ds : List Diag) → is_rising (d ∷ e ∷ ds) ≡ true → is_rising (e ∷ ds) ≡ true
rest_rises d e ds h = by (is_lt (diag_order d e)) h where
  by : (b : Bool) → (b && is_rising (e ∷ ds)) ≡ true → is_rising (e ∷ ds) ≡ true
  by true k = k
  by false k = absurd cc

pub rising_in_order : (ds : List Diag) → is_rising ds ≡ true → in_order ds ≡ ds
rising_in_order [] h = refl
rising_in_order (d ∷ []) h = refl
rising_in_order (d ∷ e ∷ ds) h = ap (λ (xs : List Diag). insert_key diag_order xs d) (rising_in_order (e ∷ ds) (rest_rises d e ds h)) ∙ first_less d e ds h
