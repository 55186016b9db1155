-- Of an error and a check that differ in nothing else the error alone is told: no code is lost by that.
use Rattle.std.proofs.Common.{◌≡◌, Bool, true, false, ap, sym, subst, ◌∙◌, refl, List, [], ◌∷◌, ◌++◌, inl, inr}
use Rattle.std.specs.BTreeMap.{is_at}
use Rattle.std.specs.BTreeSet.{insert_key}
use Rattle.std.specs.Cmp.Lexicographic.{slice_cmp}
use Rattle.std.specs.Ordering.{is_eq, match_ordering, nat_cmp, ordering_then}
use Rattle.std.specs.Prelude.{◌⊎◌, ◌||◌, if◌then◌else◌}
use Rattle.std.specs.declared.cmp.Ordering.{Ordering}
use Rattle.std.specs.declared.cmp.Ordering.TheVariants.{Less, Equal, Greater}
use Rattle.occ_alias.specs.Grades.{all_unless_reported, checks_of, graded_as, graver, is_among, is_check, unless_reported, with_errors}
use Rattle.occ_base.specs.Order.{diag_order}
use Rattle.occ_base.specs.contracts.code.CodeOrd.TheImpl as code_ord
use Rattle.occ_base.specs.declared.code.Code.{Code}
use Rattle.occ_base.specs.declared.code.Code.TheVariants as code
use Rattle.occ_base.specs.declared.code.Grade.TheVariants as grade
use Rattle.occ_base.specs.declared.diag.Diag.{Diag}
use Rattle.occ_sound.specs.Safe.{IsOther, IsSilent}

abbrev HasCode : Code → List Diag → Type 0
HasCode c [] = ⊥
HasCode c (d ∷ ds) = (d.code ≡ c) ⊎ HasCode c ds

has_front : (c : Code) (ds es : List Diag) → HasCode c ds → HasCode c (ds ++ es)
has_front c [] es h = absurd h
has_front c (d ∷ ds) es (inl h) = inl h
has_front c (d ∷ ds) es (inr h) = inr (has_front c ds es h)

has_back : (c : Code) (ds es : List Diag) → HasCode c es → HasCode c (ds ++ es)
has_back c [] es h = h
has_back c (d ∷ ds) es h = inr (has_back c ds es h)

then_equal : (a b : Ordering) → ordering_then a b ≡ Equal → (a ≡ Equal) × (b ≡ Equal)
then_equal Less b h = absurd cc
then_equal Equal b h = (refl, h)
then_equal Greater b h = absurd cc

is_equal : (o : Ordering) → is_eq o ≡ true → o ≡ Equal
is_equal Less h = absurd cc
is_equal Equal h = refl
is_equal Greater h = absurd cc

-- the code that equals no other
abbrev IsOnly : Code → Type 0
IsOnly c = (x : Code) → (code_ord.ghosts).cmp c x ≡ Equal → x ≡ c

exact : (c : Code) → IsOnly c → (d e : Diag) → diag_order d e ≡ Equal → d.code ≡ c → e.code ≡ c
exact c only d e h is =
    let by_line = (then_equal (slice_cmp nat_cmp d.file e.file) _ h).1 in
    let by_code = (then_equal (nat_cmp d.line e.line) _ by_line).1 in
    let codes = then_equal ((code_ord.ghosts).cmp d.code e.code) _ by_code in
    only e.code (ap (λ (x : Code). (code_ord.ghosts).cmp x e.code) (sym is) ∙ codes.0)

put_by : (c : Code) (only : IsOnly c) (k x : Diag) (xs : List Diag) (o : Ordering) → diag_order k x ≡ o → k.code ≡ c → (k.code ≡ c → HasCode c (insert_key diag_order xs k)) → HasCode c (match_ordering o (k ∷ x ∷ xs) (x ∷ xs) (x ∷ insert_key diag_order xs k))
put_by c only k x xs Less e h f = inl h
put_by c only k x xs Equal e h f = inl (exact c only k x e h)
put_by c only k x xs Greater e h f = inr (f h)

put_has : (c : Code) → IsOnly c → (xs : List Diag) (k : Diag) → k.code ≡ c → HasCode c (insert_key diag_order xs k)
put_has c only [] k h = inl h
put_has c only (x ∷ xs) k h = put_by c only k x xs (diag_order k x) refl h (put_has c only xs k)

stay_by : (c : Code) (k x : Diag) (xs : List Diag) (o : Ordering) → HasCode c (x ∷ xs) → (HasCode c xs → HasCode c (insert_key diag_order xs k)) → HasCode c (match_ordering o (k ∷ x ∷ xs) (x ∷ xs) (x ∷ insert_key diag_order xs k))
stay_by c k x xs Less h f = inr h
stay_by c k x xs Equal h f = h
stay_by c k x xs Greater (inl h) f = inl h
stay_by c k x xs Greater (inr h) f = inr (f h)

stay_has : (c : Code) (xs : List Diag) (k : Diag) → HasCode c xs → HasCode c (insert_key diag_order xs k)
stay_has c [] k h = absurd h
stay_has c (x ∷ xs) k h = stay_by c k x xs (diag_order k x) h (stay_has c xs k)

-- ---- errors and checks

abbrev Parted : Code → List Diag → List Diag → Type 0
Parted c checks errors = HasCode c checks ⊎ HasCode c errors

own_parted : (c : Code) → IsOnly c → (d : Diag) (checks errors : List Diag) (t : Bool) → d.code ≡ c → Parted c (checks ++ (if t then d ∷ [] else [])) (if t then errors else insert_key diag_order errors d)
own_parted c only d checks errors true h = inl (has_back c checks (d ∷ []) (inl h))
own_parted c only d checks errors false h = inr (put_has c only errors d h)

kept_parted : (c : Code) (d : Diag) (checks errors : List Diag) (t : Bool) → Parted c checks errors → Parted c (checks ++ (if t then d ∷ [] else [])) (if t then errors else insert_key diag_order errors d)
kept_parted c d checks errors t (inl h) = inl (has_front c checks (if t then d ∷ [] else []) h)
kept_parted c d checks errors true (inr h) = inr h
kept_parted c d checks errors false (inr h) = inr (stay_has c errors d h)

parted : (c : Code) → IsOnly c → (ds : List Diag) → HasCode c ds → Parted c (checks_of ds) (with_errors [] ds)
parted c only [] h = absurd h
parted c only (d ∷ ds) (inl h) = own_parted c only d (checks_of ds) (with_errors [] ds) (is_check d.grade) h
parted c only (d ∷ ds) (inr h) = kept_parted c d (checks_of ds) (with_errors [] ds) (is_check d.grade) (parted c only ds h)

-- ---- checks that are errors too

or_cases : (a b : Bool) → (a || b) ≡ true → (a ≡ true) ⊎ (b ≡ true)
or_cases true b h = inl refl
or_cases false b h = inr h

among_has : (c : Code) → IsOnly c → (d : Diag) (es : List Diag) → d.code ≡ c → is_among es d ≡ true → HasCode c es
among_has c only d [] h e = absurd cc
among_has c only d (x ∷ es) h e = elim (or_cases (is_at (diag_order d) x) (is_among es d) e) [
  | inl k ↦ inl (exact c only d x (is_equal (diag_order d x) k) h)
  | inr k ↦ inr (among_has c only d es h k)
]

own_told : (c : Code) → IsOnly c → (d : Diag) (front errors : List Diag) (t : Bool) → is_among errors (graded_as grade.Error d) ≡ t → d.code ≡ c → Parted c (front ++ (if t then [] else graded_as grade.Check d ∷ [])) errors
own_told c only d front errors true e h = inr (among_has c only (graded_as grade.Error d) errors h e)
own_told c only d front errors false e h = inl (has_back c front (graded_as grade.Check d ∷ []) (inl h))

told_or : (c : Code) → IsOnly c → (errors xs : List Diag) → HasCode c xs → Parted c (all_unless_reported errors xs) errors
told_or c only errors [] h = absurd h
told_or c only errors (d ∷ xs) (inl h) = own_told c only d (all_unless_reported errors xs) errors (is_among errors (graded_as grade.Error d)) refl h
told_or c only errors (d ∷ xs) (inr h) = elim (told_or c only errors xs h) [ inl k ↦ inl (has_front c (all_unless_reported errors xs) (unless_reported errors d) k) | inr k ↦ inr k ]

-- ---- no code is lost

kept : (c : Code) → IsOnly c → (ds : List Diag) → HasCode c ds → HasCode c (graver ds)
kept c only ds h = elim (parted c only ds h) [
  | inl checks ↦ elim (told_or c only (with_errors [] ds) (checks_of ds) checks) [
    | inl k ↦ has_front c (all_unless_reported (with_errors [] ds) (checks_of ds)) (with_errors [] ds) k
    | inr k ↦ has_back c (all_unless_reported (with_errors [] ds) (checks_of ds)) (with_errors [] ds) k
  ]
  | inr errors ↦ has_back c (all_unless_reported (with_errors [] ds) (checks_of ds)) (with_errors [] ds) errors
]

silent_has : (c : Code) (ds : List Diag) → IsSilent ds → HasCode c ds → IsOther c
silent_has c [] s h = absurd h
silent_has c (d ∷ ds) s (inl h) = subst IsOther h s.0
silent_has c (d ∷ ds) s (inr h) = silent_has c ds s.1 h

silent_all : (ds : List Diag) → ((c : Code) → HasCode c ds → IsOther c) → IsSilent ds
silent_all [] f = tt
silent_all (d ∷ ds) f = (f d.code (inl refl), silent_all ds (λ c h. f c (inr h)))

less_not : {X : Type 0} → Less ≡ Equal → X
less_not h = absurd cc

greater_not : {X : Type 0} → Greater ≡ Equal → X
greater_not h = absurd cc

only_u1 : IsOnly code.U1
only_u1 code.G1 h = greater_not h
only_u1 code.G2 h = greater_not h
only_u1 code.G3 h = greater_not h
only_u1 code.G4 h = greater_not h
only_u1 code.G5 h = greater_not h
only_u1 code.G6 h = greater_not h
only_u1 code.G7 h = greater_not h
only_u1 code.L1 h = greater_not h
only_u1 code.L2 h = greater_not h
only_u1 code.L3 h = greater_not h
only_u1 code.L4 h = greater_not h
only_u1 code.S1 h = greater_not h
only_u1 code.S2 h = greater_not h
only_u1 code.S3 h = greater_not h
only_u1 code.S4 h = greater_not h
only_u1 code.N1 h = greater_not h
only_u1 code.N2 h = greater_not h
only_u1 code.T1 h = greater_not h
only_u1 code.T2 h = greater_not h
only_u1 code.T3 h = greater_not h
only_u1 code.T4 h = greater_not h
only_u1 code.T5 h = greater_not h
only_u1 code.T6 h = greater_not h
only_u1 code.T7 h = greater_not h
only_u1 code.T8 h = greater_not h
only_u1 code.T9 h = greater_not h
only_u1 code.P1 h = greater_not h
only_u1 code.P2 h = greater_not h
only_u1 code.P3 h = greater_not h
only_u1 code.P4 h = greater_not h
only_u1 code.R1 h = greater_not h
only_u1 code.R2 h = greater_not h
only_u1 code.U1 h = refl
only_u1 code.U2 h = less_not h
only_u1 code.U3 h = less_not h
only_u1 code.A1 h = less_not h
only_u1 code.A2 h = less_not h
only_u1 code.A3 h = less_not h
only_u1 code.A4 h = less_not h
only_u1 code.F1 h = less_not h

only_u2 : IsOnly code.U2
only_u2 code.G1 h = greater_not h
only_u2 code.G2 h = greater_not h
only_u2 code.G3 h = greater_not h
only_u2 code.G4 h = greater_not h
only_u2 code.G5 h = greater_not h
only_u2 code.G6 h = greater_not h
only_u2 code.G7 h = greater_not h
only_u2 code.L1 h = greater_not h
only_u2 code.L2 h = greater_not h
only_u2 code.L3 h = greater_not h
only_u2 code.L4 h = greater_not h
only_u2 code.S1 h = greater_not h
only_u2 code.S2 h = greater_not h
only_u2 code.S3 h = greater_not h
only_u2 code.S4 h = greater_not h
only_u2 code.N1 h = greater_not h
only_u2 code.N2 h = greater_not h
only_u2 code.T1 h = greater_not h
only_u2 code.T2 h = greater_not h
only_u2 code.T3 h = greater_not h
only_u2 code.T4 h = greater_not h
only_u2 code.T5 h = greater_not h
only_u2 code.T6 h = greater_not h
only_u2 code.T7 h = greater_not h
only_u2 code.T8 h = greater_not h
only_u2 code.T9 h = greater_not h
only_u2 code.P1 h = greater_not h
only_u2 code.P2 h = greater_not h
only_u2 code.P3 h = greater_not h
only_u2 code.P4 h = greater_not h
only_u2 code.R1 h = greater_not h
only_u2 code.R2 h = greater_not h
only_u2 code.U1 h = greater_not h
only_u2 code.U2 h = refl
only_u2 code.U3 h = less_not h
only_u2 code.A1 h = less_not h
only_u2 code.A2 h = less_not h
only_u2 code.A3 h = less_not h
only_u2 code.A4 h = less_not h
only_u2 code.F1 h = less_not h

only_u3 : IsOnly code.U3
only_u3 code.G1 h = greater_not h
only_u3 code.G2 h = greater_not h
only_u3 code.G3 h = greater_not h
only_u3 code.G4 h = greater_not h
only_u3 code.G5 h = greater_not h
only_u3 code.G6 h = greater_not h
only_u3 code.G7 h = greater_not h
only_u3 code.L1 h = greater_not h
only_u3 code.L2 h = greater_not h
only_u3 code.L3 h = greater_not h
only_u3 code.L4 h = greater_not h
only_u3 code.S1 h = greater_not h
only_u3 code.S2 h = greater_not h
only_u3 code.S3 h = greater_not h
only_u3 code.S4 h = greater_not h
only_u3 code.N1 h = greater_not h
only_u3 code.N2 h = greater_not h
only_u3 code.T1 h = greater_not h
only_u3 code.T2 h = greater_not h
only_u3 code.T3 h = greater_not h
only_u3 code.T4 h = greater_not h
only_u3 code.T5 h = greater_not h
only_u3 code.T6 h = greater_not h
only_u3 code.T7 h = greater_not h
only_u3 code.T8 h = greater_not h
only_u3 code.T9 h = greater_not h
only_u3 code.P1 h = greater_not h
only_u3 code.P2 h = greater_not h
only_u3 code.P3 h = greater_not h
only_u3 code.P4 h = greater_not h
only_u3 code.R1 h = greater_not h
only_u3 code.R2 h = greater_not h
only_u3 code.U1 h = greater_not h
only_u3 code.U2 h = greater_not h
only_u3 code.U3 h = refl
only_u3 code.A1 h = less_not h
only_u3 code.A2 h = less_not h
only_u3 code.A3 h = less_not h
only_u3 code.A4 h = less_not h
only_u3 code.F1 h = less_not h

only_a4 : IsOnly code.A4
only_a4 code.G1 h = greater_not h
only_a4 code.G2 h = greater_not h
only_a4 code.G3 h = greater_not h
only_a4 code.G4 h = greater_not h
only_a4 code.G5 h = greater_not h
only_a4 code.G6 h = greater_not h
only_a4 code.G7 h = greater_not h
only_a4 code.L1 h = greater_not h
only_a4 code.L2 h = greater_not h
only_a4 code.L3 h = greater_not h
only_a4 code.L4 h = greater_not h
only_a4 code.S1 h = greater_not h
only_a4 code.S2 h = greater_not h
only_a4 code.S3 h = greater_not h
only_a4 code.S4 h = greater_not h
only_a4 code.N1 h = greater_not h
only_a4 code.N2 h = greater_not h
only_a4 code.T1 h = greater_not h
only_a4 code.T2 h = greater_not h
only_a4 code.T3 h = greater_not h
only_a4 code.T4 h = greater_not h
only_a4 code.T5 h = greater_not h
only_a4 code.T6 h = greater_not h
only_a4 code.T7 h = greater_not h
only_a4 code.T8 h = greater_not h
only_a4 code.T9 h = greater_not h
only_a4 code.P1 h = greater_not h
only_a4 code.P2 h = greater_not h
only_a4 code.P3 h = greater_not h
only_a4 code.P4 h = greater_not h
only_a4 code.R1 h = greater_not h
only_a4 code.R2 h = greater_not h
only_a4 code.U1 h = greater_not h
only_a4 code.U2 h = greater_not h
only_a4 code.U3 h = greater_not h
only_a4 code.A1 h = greater_not h
only_a4 code.A2 h = greater_not h
only_a4 code.A3 h = greater_not h
only_a4 code.A4 h = refl
only_a4 code.F1 h = less_not h

other_code : (ds : List Diag) → IsSilent (graver ds) → (c : Code) → HasCode c ds → IsOther c
other_code ds s code.G1 h = tt
other_code ds s code.G2 h = tt
other_code ds s code.G3 h = tt
other_code ds s code.G4 h = tt
other_code ds s code.G5 h = tt
other_code ds s code.G6 h = tt
other_code ds s code.G7 h = tt
other_code ds s code.L1 h = tt
other_code ds s code.L2 h = tt
other_code ds s code.L3 h = tt
other_code ds s code.L4 h = tt
other_code ds s code.S1 h = tt
other_code ds s code.S2 h = tt
other_code ds s code.S3 h = tt
other_code ds s code.S4 h = tt
other_code ds s code.N1 h = tt
other_code ds s code.N2 h = tt
other_code ds s code.T1 h = tt
other_code ds s code.T2 h = tt
other_code ds s code.T3 h = tt
other_code ds s code.T4 h = tt
other_code ds s code.T5 h = tt
other_code ds s code.T6 h = tt
other_code ds s code.T7 h = tt
other_code ds s code.T8 h = tt
other_code ds s code.T9 h = tt
other_code ds s code.P1 h = tt
other_code ds s code.P2 h = tt
other_code ds s code.P3 h = tt
other_code ds s code.P4 h = tt
other_code ds s code.R1 h = tt
other_code ds s code.R2 h = tt
other_code ds s code.U1 h = silent_has code.U1 (graver ds) s (kept code.U1 only_u1 ds h)
other_code ds s code.U2 h = silent_has code.U2 (graver ds) s (kept code.U2 only_u2 ds h)
other_code ds s code.U3 h = silent_has code.U3 (graver ds) s (kept code.U3 only_u3 ds h)
other_code ds s code.A1 h = tt
other_code ds s code.A2 h = tt
other_code ds s code.A3 h = tt
other_code ds s code.A4 h = silent_has code.A4 (graver ds) s (kept code.A4 only_a4 ds h)
other_code ds s code.F1 h = tt

pub silent_before : (ds : List Diag) → IsSilent (graver ds) → IsSilent ds
silent_before ds s = silent_all ds (other_code ds s)
