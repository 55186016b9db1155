-- The order of diagnostics, and items in their order.
use Rattle.std.specs.Prelude.{Bool, true, ◌&&◌, List, [], ◌∷◌}
use Rattle.std.specs.BTreeSet.{insert_key}
use Rattle.std.specs.Ordering.{is_lt}
use Rattle.std.specs.declared.cmp.Ordering.{Ordering}
use Rattle.occ_base.specs.contracts.diag.DiagOrd.TheImpl as diag_ord
use Rattle.occ_base.specs.declared.code.Code.{Code}
use Rattle.occ_base.specs.declared.code.Code.TheVariants.{G1, G2, G3, G4, G5, G6, G7, L1, L2, L3, L4, S1, S2, S3, S4, N1, N2, T1, T2, T3, T4, T5, T6, T7, T8, T9, P1, P2, P3, P4, R1, R2, U1, U2, U3, A1, A2, A3, A4, F1}
use Rattle.occ_base.specs.declared.diag.Diag.{Diag}

-- that of the type `Diag`
abbrev pub diag_order : Diag → Diag → Ordering
diag_order = (diag_ord.ghosts).cmp

-- each stands before the next one
abbrev pub is_rising : List Diag → Bool
is_rising [] = true
is_rising (d ∷ []) = true
is_rising (d ∷ e ∷ ds) = is_lt (diag_order d e) && is_rising (e ∷ ds)

-- the items, put one by one at their places among those that are there already
abbrev pub placed : {X : Type 0} → (X → X → Ordering) → List X → List X → List X
placed cmp [] there = there
placed cmp (x ∷ xs) there = insert_key cmp (placed cmp xs there) x

-- all codes, as they stand in order
abbrev pub all_codes : List Code
all_codes = G1 ∷ G2 ∷ G3 ∷ G4 ∷ G5 ∷ G6 ∷ G7 ∷ L1 ∷ L2 ∷ L3 ∷ L4 ∷ S1 ∷ S2 ∷ S3 ∷ S4 ∷ N1 ∷ N2 ∷ T1 ∷ T2 ∷ T3 ∷ T4 ∷ T5 ∷ T6 ∷ T7 ∷ T8 ∷ T9 ∷ P1 ∷ P2 ∷ P3 ∷ P4 ∷ R1 ∷ R2 ∷ U1 ∷ U2 ∷ U3 ∷ A1 ∷ A2 ∷ A3 ∷ A4 ∷ F1 ∷ []
