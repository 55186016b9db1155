-- Of uses that a specification does not concern nothing is reported.
use Rattle.std.specs.Prelude.{◌+◌, ◌==◌, nat_lt, slice_get}
use Rattle.std.proofs.Common.{arith, ◌≡◌, ◌∙◌, ℕ, zero, suc, Bool, true, false, ◌||◌, ◌&&◌, Option, Some, None, List, [], ◌∷◌, ◌++◌, length, refl, ap, sym, append_assoc, if◌then◌else◌}
use Rattle.std.specs.List.{list_any}
use Rattle.occ_alias.specs.AbbreviationRule.{bound_faults, element_faults, graded, pair_faults, place_faults, scope_faults, written_by, written_fault, written_faults}
use Rattle.occ_alias.specs.inside.Choosing.{chosen_faults, numbered_faults}
use Rattle.occ_base.specs.declared.code.Code.{Code}
use Rattle.occ_base.specs.declared.code.Code.TheVariants as code
use Rattle.occ_base.specs.declared.diag.Diag.{Diag}
use Rattle.occ_usage_values.specs.Bounds.{Env}
use Rattle.occ_usage_values.specs.declared.bound.Bound.{Bound}
use Rattle.occ_usage_values.specs.declared.bound.Bound.TheVariants as b
use Rattle.occ_usage_values.specs.declared.uses.Use.{Use}
use Rattle.occ_usage_conflicts.specs.Kinds.{is_read, is_write}
use Rattle.occ_usage_conflicts.specs.ParallelRule.{root_name}
use Rattle.occ_usage_lines.specs.Concern.{are_near, concerned, concerns_some, is_near, is_some, some_near}
use Rattle.occ_usage_parts.specs.Parts.{overlap_of}
use Rattle.occ_usage_parts.specs.Selecting.{part_of}
use Rattle.occ_usage_parts.specs.declared.part.Overlap.{Overlap}
use Rattle.occ_usage_parts.specs.declared.part.Overlap.TheVariants as o
use Rattle.occ_usage_parts.specs.declared.part.Part.{Part}
use Rattle.occ_usage_parts.specs.declared.place.SelectedPart.{SelectedPart}
use Rattle.occ_project.specs.declared.expanded.Location.{Location}

left_false : (a c : Bool) → (a || c) ≡ false → a ≡ false
left_false true c e = e
left_false false c e = refl

right_false : (a c : Bool) → (a || c) ≡ false → c ≡ false
right_false true c e = absurd (grind (arith, e))
right_false false c e = e

-- ---- parts that are apart

none_graded : (line : Location) (c : Code) (name : Option (List ℕ)) (found : Overlap) → is_some found ≡ false → graded line c name found ≡ []
none_graded line c name o.Apart e = refl
none_graded line c name o.May e = absurd (grind (arith, e))
none_graded line c name o.Must e = absurd (grind (arith, e))

apart : (line : Location) (c : Code) (env : Env) (p q : Part) → are_near p q ≡ false → pair_faults line c env p q ≡ []
apart line c env p q e = none_graded line c (root_name env p.root) (overlap_of p q) e

both : (ds es : List Diag) → ds ≡ [] → es ≡ [] → ds ++ es ≡ []
both ds es e f = ap (λ (xs : List Diag). xs ++ es) e ∙ f

-- ---- names

-- whether it is made by the name or not
either : (by : Bool) (ds : List Diag) → ds ≡ [] → (if by then [] else ds) ≡ []
either true ds e = refl
either false ds e = e

no_element : (n : ℕ) (env : Env) (p : Part) (us : List Use) → list_any (λ (u : Use). are_near p u.part) us ≡ false → element_faults n env p us ≡ []
no_element n env p [] e = refl
no_element n env p (u ∷ us) e =
    let first = left_false (are_near p u.part) (list_any (λ (v : Use). are_near p v.part) us) e in
    let rest = right_false (are_near p u.part) (list_any (λ (v : Use). are_near p v.part) us) e in
    both (if list_any (λ (k : ℕ). k == n) u.chain then [] else pair_faults u.line code.A1 env p u.part) (element_faults n env p us)
    (either (list_any (λ (k : ℕ). k == n) u.chain) (pair_faults u.line code.A1 env p u.part) (apart u.line code.A1 env p u.part first))
    (no_element n env p us rest)

-- ---- writes of what was read

when : (w : Bool) (ds : List Diag) → ds ≡ [] → (if w then ds else []) ≡ []
when true ds e = e
when false ds e = refl

none_of : (c : Code) (env : Env) (u : Use) (rs : List Use) → some_near u.part rs ≡ false → written_by c env u rs ≡ []
none_of c env u [] e = refl
none_of c env u (r ∷ rs) e =
    both (written_fault c env u r) (written_by c env u rs)
    (when (is_write u.kind && is_read r.kind) (pair_faults u.line c env u.part r.part)
    (apart u.line c env u.part r.part (left_false (are_near u.part r.part) (some_near u.part rs) e)))
    (none_of c env u rs (right_false (are_near u.part r.part) (some_near u.part rs) e))

not_read : (writes : Bool) (c : Code) (env : Env) (u : Use) (rs : List Use) → is_write u.kind ≡ writes → (writes && some_near u.part rs) ≡ false → written_by c env u rs ≡ []
not_read true c env u rs w e = none_of c env u rs e
not_read false c env u [] w e = refl
not_read false c env u (r ∷ rs) w e =
    both (written_fault c env u r) (written_by c env u rs)
    (ap (λ (b : Bool). if b && is_read r.kind then pair_faults u.line c env u.part r.part else []) w)
    (not_read false c env u rs w refl)

-- ---- one specification

abbrev of_place : Option SelectedPart → Use → Bool
of_place place u = is_near u.part place

abbrev writes_read : List Use → Use → Bool
writes_read rs u = is_write u.kind && some_near u.part rs

no_place : (n : ℕ) (env : Env) (place : Option SelectedPart) (us : List Use) → list_any (of_place place) us ≡ false → place_faults n env place us ≡ []
no_place n env None us e = refl
no_place n env (Some p) us e = no_element n env (part_of p) us e

no_write : (c : Code) (env : Env) (us rs : List Use) → list_any (writes_read rs) us ≡ false → written_faults c env us rs ≡ []
no_write c env [] rs e = refl
no_write c env (u ∷ us) rs e =
    both (written_by c env u rs) (written_faults c env us rs)
    (not_read (is_write u.kind) c env u rs refl (left_false (writes_read rs u) (list_any (writes_read rs) us) e))
    (no_write c env us rs (right_false (writes_read rs u) (list_any (writes_read rs) us) e))

first_none : (f g : Use → Bool) (us : List Use) → list_any (λ (u : Use). f u || g u) us ≡ false → list_any f us ≡ false
first_none f g [] e = refl
first_none f g (u ∷ us) e =
    ap (λ (b : Bool). b || list_any f us) (left_false (f u) (g u) (left_false (f u || g u) (list_any (λ (v : Use). f v || g v) us) e))
    ∙ first_none f g us (right_false (f u || g u) (list_any (λ (v : Use). f v || g v) us) e)

second_none : (f g : Use → Bool) (us : List Use) → list_any (λ (u : Use). f u || g u) us ≡ false → list_any g us ≡ false
second_none f g [] e = refl
second_none f g (u ∷ us) e =
    ap (λ (b : Bool). b || list_any g us) (right_false (f u) (g u) (left_false (f u || g u) (list_any (λ (v : Use). f v || g v) us) e))
    ∙ second_none f g us (right_false (f u || g u) (list_any (λ (v : Use). f v || g v) us) e)

unconcerned : (n : ℕ) (env : Env) (x : Bound) (us : List Use) → concerns_some x us ≡ false → bound_faults n env x us ≡ []
unconcerned n env (b.Abbreviation place size reads) us e =
    both (place_faults n env place us) (written_faults code.A2 env us reads)
    (no_place n env place us (first_none (of_place place) (writes_read reads) us e))
    (no_write code.A2 env us reads (second_none (of_place place) (writes_read reads) us e))
unconcerned n env (b.Value v size reads) us e = no_write code.A3 env us reads e
unconcerned n env (b.Root name) us e = refl
unconcerned n env (b.Body uses does) us e = refl
unconcerned n env b.Other us e = refl

-- ---- those in scope

-- there is none after the last
pub none_at : (env : Env) (n : ℕ) → nat_lt n (length env) ≡ false → slice_get env n ≡ None
none_at [] n e = refl
none_at (x ∷ env) zero e = absurd (grind (arith, e))
none_at (x ∷ env) (suc n) e = let f : nat_lt n (length env) ≡ false = grind (arith, e) in none_at env n f

at_end : (front following : Env) (x : Bound) → slice_get (front ++ x ∷ following) (length front) ≡ Some x
at_end [] following x = refl
at_end (y ∷ front) following x = at_end front following x

one_longer : (front : Env) (x : Bound) → length (front ++ x ∷ []) ≡ length front + 1
one_longer [] x = refl
one_longer (y ∷ front) x = let e : length (front ++ x ∷ []) ≡ length front + 1 = one_longer front x in omega (arith, e)

-- whether one concerns the uses or not
by_concern : (some : Bool) (n : ℕ) (env : Env) (x : Bound) (us : List Use) (ns : List ℕ) (rest : List Diag) → concerns_some x us ≡ some → slice_get env n ≡ Some x
    → chosen_faults env us ns ≡ rest → chosen_faults env us (if some then n ∷ ns else ns) ≡ bound_faults n env x us ++ rest
by_concern true n env x us ns rest e at h =
    ap (λ (o : Option Bound). numbered_faults n env o us ++ chosen_faults env us ns) at ∙ ap (λ (ds : List Diag). bound_faults n env x us ++ ds) h
by_concern false n env x us ns rest e at h = h ∙ sym (ap (λ (ds : List Diag). ds ++ rest) (unconcerned n env x us e))

-- of those that concern the uses as much is reported as of all
concerned_report : (env front following : Env) (n : ℕ) (us : List Use) → env ≡ front ++ following → n ≡ length front
    → chosen_faults env us (concerned n following us) ≡ scope_faults n env following us
concerned_report env front [] n us e f = refl
concerned_report env front (x ∷ following) n us e f =
    by_concern (concerns_some x us) n env x us (concerned (n + 1) following us) (scope_faults (n + 1) env following us) refl
    (ap (λ (xs : Env). slice_get xs n) e ∙ ap (λ (k : ℕ). slice_get (front ++ x ∷ following) k) f ∙ at_end front following x)
    (concerned_report env (front ++ x ∷ []) following (n + 1) us
    (e ∙ sym (append_assoc front (x ∷ []) following))
    (ap (λ (k : ℕ). k + 1) f ∙ sym (one_longer front x)))

pub all_report : (env : Env) (us : List Use) → chosen_faults env us (concerned 0 env us) ≡ scope_faults 0 env env us
all_report env us = concerned_report env [] env 0 us refl refl
