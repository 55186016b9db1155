-- The two ways to say what the abbreviation rule reports are one.
use Rattle.std.specs.Prelude.{◌==◌, ◌↔◌, if◌then◌else◌, nat_lt, slice_get}
use Rattle.std.proofs.Common.{◌≡◌, ◌∙◌, ◌+◌, ℕ, ℤ, zero, suc, Bool, true, false, ◌&&◌, Option, Some, None, List, [], ◌∷◌, ◌++◌, inl, inr, refl, ap, subst, sym, arith, append_assoc}
use Rattle.std.specs.List.{Contains, list_any}
use Rattle.std.proofs.lemmas.List.Elements.{Contains-append_cases, Contains-append_left, Contains-append_right, Contains-push}
use Rattle.occ_alias.specs.AbbreviationRule.{actual_faults, actuals_faults, bound_faults, call_faults, calls_faults, element_fault, element_faults, evaluated_faults, free_fault, free_faults, pair_faults, place_faults, place_pair, place_pairs, scope_faults, written_by, written_fault, written_faults}
use Rattle.occ_alias.specs.Reporting.{IsChange, IsReportedInScope, IsReportedOf, IsReportedOfCall, actuals, beside, change, free, of_call, of_use, read, subscript, value}
use Rattle.occ_base.specs.declared.code.Code.{Code}
use Rattle.occ_base.specs.declared.code.Code.TheVariants as code
use Rattle.occ_base.specs.declared.diag.Diag.{Diag}
use Rattle.occ_usage_values.specs.Bounds.{Env, body_of}
use Rattle.occ_usage_values.specs.declared.bound.Bound.{Bound}
use Rattle.occ_usage_values.specs.declared.bound.Bound.TheVariants as b
use Rattle.occ_usage_values.specs.Calls.{Call}
use Rattle.occ_usage_values.specs.declared.uses.Use.{Use}
use Rattle.occ_usage_conflicts.specs.Kinds.{is_read, is_write}
use Rattle.occ_usage_parts.specs.Selecting.{part_of}
use Rattle.occ_usage_parts.specs.declared.part.Part.{Part}
use Rattle.occ_usage_parts.specs.declared.place.SelectedPart.{SelectedPart}
use Rattle.occ_project.specs.declared.expanded.Location.{Location}

-- ---- items of lists

none : {X : Type 0} (x : X) → Contains [] x → ⊥
none x (k, h, e) = omega arith

one_item : {X : Type 0} (y x : X) → Contains (y ∷ []) x → y ≡ x
one_item y x (zero, h, e) = e
one_item y x (suc k, h, e) = absurd (omega arith)

first_of : {X : Type 0} (x : X) (xs : List X) → Contains (x ∷ xs) x
first_of x xs = Contains-append_left (x ∷ []) xs x (Contains-push [] x)

-- of a list that is made item by item
each_from : {X Y P : Type 0} (g : X → List Y) (f : List X → List Y) → f [] ≡ [] → ((x : X) (xs : List X) → f (x ∷ xs) ≡ g x ++ f xs)
    → (xs : List X) (y : Y) → Contains (f xs) y → ((x : X) → Contains xs x → Contains (g x) y → P) → P
each_from {X} {Y} g f nil more [] y h found = absurd (none y (subst (λ (ys : List Y). Contains ys y) nil h))
each_from {X} {Y} g f nil more (x ∷ xs) y h found = elim (Contains-append_cases (g x) (f xs) y (subst (λ (ys : List Y). Contains ys y) (more x xs) h)) [
  | inl here ↦ found x (first_of x xs) here
  | inr following ↦ each_from g f nil more xs y following (λ (z : X) among made. found z (Contains-append_right (x ∷ []) xs z among) made)
]

each_to : {X Y : Type 0} (g : X → List Y) (f : List X → List Y) → ((x : X) (xs : List X) → f (x ∷ xs) ≡ g x ++ f xs)
    → (xs : List X) (y : Y) (z : X) → Contains xs z → Contains (g z) y → Contains (f xs) y
each_to g f more [] y z among made = absurd (none z among)
each_to {X} {Y} g f more (x ∷ xs) y z among made = elim (Contains-append_cases (x ∷ []) xs z among) [
  | inl here ↦
      subst (λ (ys : List Y). Contains ys y) (sym (more x xs))
      (Contains-append_left (g x) (f xs) y (subst (λ (w : X). Contains (g w) y) (sym (one_item x z here)) made))
  | inr following ↦ subst (λ (ys : List Y). Contains ys y) (sym (more x xs)) (Contains-append_right (g x) (f xs) y (each_to g f more xs y z following made))
]

-- ---- what is reported if a test holds

when_true : (s : Bool) (ds : List Diag) (d : Diag) → Contains (if s then ds else []) d → s ≡ true
when_true true ds d h = refl
when_true false ds d h = absurd (none d h)

when_in : (s : Bool) (ds : List Diag) (d : Diag) → Contains (if s then ds else []) d → Contains ds d
when_in true ds d h = h
when_in false ds d h = absurd (none d h)

when_to : (s : Bool) (ds : List Diag) (d : Diag) → s ≡ true → Contains ds d → Contains (if s then ds else []) d
when_to s ds d e h = subst (λ (v : Bool). Contains (if v then ds else []) d) (sym e) h

unless_false : (s : Bool) (ds : List Diag) (d : Diag) → Contains (if s then [] else ds) d → s ≡ false
unless_false true ds d h = absurd (none d h)
unless_false false ds d h = refl

unless_in : (s : Bool) (ds : List Diag) (d : Diag) → Contains (if s then [] else ds) d → Contains ds d
unless_in true ds d h = absurd (none d h)
unless_in false ds d h = h

unless_to : (s : Bool) (ds : List Diag) (d : Diag) → s ≡ false → Contains ds d → Contains (if s then [] else ds) d
unless_to s ds d e h = subst (λ (v : Bool). Contains (if v then [] else ds) d) (sym e) h

left_true : (a c : Bool) → (a && c) ≡ true → a ≡ true
left_true true c e = refl
left_true false c e = e

right_true : (a c : Bool) → (a && c) ≡ true → c ≡ true
right_true true c e = e
right_true false c e = absurd cc

both_true : (a c : Bool) → a ≡ true → c ≡ true → (a && c) ≡ true
both_true a c e f = ap (λ (v : Bool). v && c) e ∙ f

-- ---- changes of what was read

change_from : (c : Code) (env : Env) (us rs : List Use) (d : Diag) → Contains (written_faults c env us rs) d → IsChange c env us rs d
change_from c env us rs d h =
    each_from (λ (u : Use). written_by c env u rs) (λ (vs : List Use). written_faults c env vs rs) refl (λ (u : Use) (vs : List Use). refl) us d h
    (λ (u : Use) one made. each_from (λ (r : Use). written_fault c env u r) (λ (ss : List Use). written_by c env u ss) refl (λ (r : Use) (ss : List Use). refl) rs d made
    (λ (r : Use) other reported.
    let s = is_write u.kind && is_read r.kind in
    let ds = pair_faults u.line c env u.part r.part in
    change c env us rs d u r one other (left_true (is_write u.kind) (is_read r.kind) (when_true s ds d reported)) (right_true (is_write u.kind) (is_read r.kind) (when_true s ds d reported)) (when_in s ds d reported)))

change_to : (c : Code) (env : Env) (us rs : List Use) (d : Diag) → IsChange c env us rs d → Contains (written_faults c env us rs) d
change_to _ _ _ _ _ (change c env us rs d u r one other w q h) =
    each_to (λ (v : Use). written_by c env v rs) (λ (vs : List Use). written_faults c env vs rs) (λ (v : Use) (vs : List Use). refl) us d u one
    (each_to (λ (s : Use). written_fault c env u s) (λ (ss : List Use). written_by c env u ss) (λ (s : Use) (ss : List Use). refl) rs d r other
    (when_to (is_write u.kind && is_read r.kind) (pair_faults u.line c env u.part r.part) d (both_true (is_write u.kind) (is_read r.kind) w q) h))

-- ---- in the scope of abbreviations

beside_from : (n : ℕ) (env : Env) (p : SelectedPart) (size : Option ℤ) (reads us : List Use) (d : Diag) → slice_get env n ≡ Some (b.Abbreviation (Some p) size reads)
    → Contains (element_faults n env (part_of p) us) d → IsReportedInScope env us d
beside_from n env p size reads us d e h =
    each_from (λ (u : Use). element_fault n env (part_of p) u) (λ (vs : List Use). element_faults n env (part_of p) vs) refl (λ (u : Use) (vs : List Use). refl) us d h
    (λ (u : Use) one reported.
    let s = list_any (λ (k : ℕ). k == n) u.chain in
    let ds = pair_faults u.line code.A1 env (part_of p) u.part in
    beside env us d n p size reads u e one (unless_false s ds d reported) (unless_in s ds d reported))

place_from : (n : ℕ) (env : Env) (place : Option SelectedPart) (size : Option ℤ) (reads us : List Use) (d : Diag) → slice_get env n ≡ Some (b.Abbreviation place size reads)
    → Contains (place_faults n env place us) d → IsReportedInScope env us d
place_from n env None size reads us d e h = absurd (none d h)
place_from n env (Some p) size reads us d e h = beside_from n env p size reads us d e h

bound_from : (n : ℕ) (env : Env) (x : Bound) (us : List Use) (d : Diag) → slice_get env n ≡ Some x → Contains (bound_faults n env x us) d → IsReportedInScope env us d
bound_from n env (b.Abbreviation place size reads) us d e h = elim (Contains-append_cases (place_faults n env place us) (written_faults code.A2 env us reads) d h) [
  | inl here ↦ place_from n env place size reads us d e here
  | inr following ↦ subscript env us d n place size reads e (change_from code.A2 env us reads d following)
]
bound_from n env (b.Value v size reads) us d e h = value env us d n v size reads e (change_from code.A3 env us reads d h)
bound_from n env (b.Root name) us d e h = absurd (none d h)
bound_from n env (b.Body uses does) us d e h = absurd (none d h)
bound_from n env b.Other us d e h = absurd (none d h)

add_zero : (n : ℕ) → n ≡ n + 0
add_zero n = grind arith

zero_add : (n : ℕ) → 0 + n ≡ n
zero_add n = grind arith

add_suc : (n i : ℕ) → (n + 1) + i ≡ n + suc i
add_suc n i = grind arith

scope_from : {P : Type 0} (xs : List Bound) (n : ℕ) (env : Env) (us : List Use) (d : Diag)
    → ((i : ℕ) (x : Bound) → slice_get xs i ≡ Some x → Contains (bound_faults (n + i) env x us) d → P) → Contains (scope_faults n env xs us) d → P
scope_from [] n env us d found h = absurd (none d h)
scope_from (x ∷ xs) n env us d found h = elim (Contains-append_cases (bound_faults n env x us) (scope_faults (n + 1) env xs us) d h) [
  | inl here ↦ found 0 x refl (subst (λ (k : ℕ). Contains (bound_faults k env x us) d) (add_zero n) here)
  | inr following ↦
      scope_from xs (n + 1) env us d
      (λ (i : ℕ) (y : Bound) e reported. found (suc i) y e (subst (λ (k : ℕ). Contains (bound_faults k env y us) d) (add_suc n i) reported)) following
]

abbrev held : Option Bound → Bound → Bound
held None x = x
held (Some y) x = y

scope_to : (xs : List Bound) (n : ℕ) (env : Env) (us : List Use) (d : Diag) (i : ℕ) (x : Bound) → slice_get xs i ≡ Some x
    → Contains (bound_faults (n + i) env x us) d → Contains (scope_faults n env xs us) d
scope_to [] n env us d i x e h = absurd cc
scope_to (y ∷ ys) n env us d zero x e h =
    let same : y ≡ x = ap (λ (o : Option Bound). held o x) e in
    Contains-append_left (bound_faults n env y us) (scope_faults (n + 1) env ys us) d
    (subst (λ (z : Bound). Contains (bound_faults n env z us) d) (sym same) (subst (λ (k : ℕ). Contains (bound_faults k env x us) d) (sym (add_zero n)) h))
scope_to (y ∷ ys) n env us d (suc i) x e h =
    Contains-append_right (bound_faults n env y us) (scope_faults (n + 1) env ys us) d
    (scope_to ys (n + 1) env us d i x e (subst (λ (k : ℕ). Contains (bound_faults k env x us) d) (sym (add_suc n i)) h))

in_scope_from : (env : Env) (us : List Use) (d : Diag) → Contains (scope_faults 0 env env us) d → IsReportedInScope env us d
in_scope_from env us d h =
    scope_from env 0 env us d (λ (i : ℕ) (x : Bound) e reported. bound_from i env x us d e (subst (λ (k : ℕ). Contains (bound_faults k env x us) d) (zero_add i) reported)) h

bound_to : (n : ℕ) (env : Env) (x : Bound) (us : List Use) (d : Diag) → slice_get env n ≡ Some x → Contains (bound_faults n env x us) d
    → Contains (scope_faults 0 env env us) d
bound_to n env x us d e h = scope_to env 0 env us d n x e (subst (λ (k : ℕ). Contains (bound_faults k env x us) d) (sym (zero_add n)) h)

in_scope_to : (env : Env) (us : List Use) (d : Diag) → IsReportedInScope env us d → Contains (scope_faults 0 env env us) d
in_scope_to _ _ _ (beside env us d n p size reads u e one not_by h) =
    bound_to n env (b.Abbreviation (Some p) size reads) us d e
    (Contains-append_left (element_faults n env (part_of p) us) (written_faults code.A2 env us reads) d
    (each_to (λ (v : Use). element_fault n env (part_of p) v) (λ (vs : List Use). element_faults n env (part_of p) vs) (λ (v : Use) (vs : List Use). refl) us d u one
    (unless_to (list_any (λ (k : ℕ). k == n) u.chain) (pair_faults u.line code.A1 env (part_of p) u.part) d not_by h)))
in_scope_to _ _ _ (subscript env us d n place size reads e h) =
    bound_to n env (b.Abbreviation place size reads) us d e
    (Contains-append_right (place_faults n env place us) (written_faults code.A2 env us reads) d (change_to code.A2 env us reads d h))
in_scope_to _ _ _ (value env us d n v size reads e h) = bound_to n env (b.Value v size reads) us d e (change_to code.A3 env us reads d h)

-- ---- calls

pair_from : {P : Type 0} (line : Location) (env : Env) (p : Part) (o : Option SelectedPart) (d : Diag) → Contains (place_pair line env p o) d
    → ((q : SelectedPart) → o ≡ Some q → Contains (pair_faults line code.A4 env p (part_of q)) d → P) → P
pair_from line env p None d h found = absurd (none d h)
pair_from line env p (Some q) d h found = found q refl h

actual_from : (line : Location) (env : Env) (c : Call) (d : Diag) (front : List (Option SelectedPart)) (o : Option SelectedPart) (following : List (Option SelectedPart))
    → c.places ≡ front ++ o ∷ following → Contains (actual_faults line c.callee env (body_of (slice_get env c.callee)) o following) d → IsReportedOfCall line env c d
actual_from line env c d front None following e h = absurd (none d h)
actual_from line env c d front (Some p) following e h =
    let us = body_of (slice_get env c.callee) in
    elim (Contains-append_cases (place_pairs line env (part_of p) following) (free_faults line c.callee env (part_of p) us) d h) [
      | inl pairs ↦
          each_from (λ (o : Option SelectedPart). place_pair line env (part_of p) o) (λ (os : List (Option SelectedPart)). place_pairs line env (part_of p) os) refl
          (λ (o : Option SelectedPart) (os : List (Option SelectedPart)). refl) following d pairs
          (λ (o : Option SelectedPart) among made. pair_from line env (part_of p) o d made
          (λ (q : SelectedPart) is reported. actuals line env c d front following p q e (subst (λ (z : Option SelectedPart). Contains following z) is among) reported))
      | inr untyped_all ↦
          each_from (λ (u : Use). free_fault line c.callee env (part_of p) u) (λ (vs : List Use). free_faults line c.callee env (part_of p) vs) refl
          (λ (u : Use) (vs : List Use). refl) us d untyped_all
          (λ (u : Use) among reported.
          let s = nat_lt u.part.root c.callee in
          let ds = pair_faults line code.A4 env (part_of p) u.part in
          free line env c d p u
          (subst (λ (os : List (Option SelectedPart)). Contains os (Some p)) (sym e) (Contains-append_right front (Some p ∷ following) (Some p) (first_of (Some p) following)))
          among (when_true s ds d reported) (when_in s ds d reported))
    ]

actuals_from : (line : Location) (env : Env) (c : Call) (d : Diag) (front rest : List (Option SelectedPart)) → c.places ≡ front ++ rest
    → Contains (actuals_faults line c.callee env (body_of (slice_get env c.callee)) rest) d → IsReportedOfCall line env c d
actuals_from line env c d front [] e h = absurd (none d h)
actuals_from line env c d front (o ∷ following) e h =
    let us = body_of (slice_get env c.callee) in
    elim (Contains-append_cases (actual_faults line c.callee env us o following) (actuals_faults line c.callee env us following) d h) [
      | inl here ↦ actual_from line env c d front o following e here
      | inr rest ↦ actuals_from line env c d (front ++ o ∷ []) following (e ∙ sym (append_assoc front (o ∷ []) following)) rest
    ]

-- those of the actuals from one on
after_to : (line : Location) (n : ℕ) (env : Env) (us : List Use) (d : Diag) (front rest : List (Option SelectedPart)) → Contains (actuals_faults line n env us rest) d
    → Contains (actuals_faults line n env us (front ++ rest)) d
after_to line n env us d [] rest h = h
after_to line n env us d (o ∷ front) rest h =
    Contains-append_right (actual_faults line n env us o (front ++ rest)) (actuals_faults line n env us (front ++ rest)) d (after_to line n env us d front rest h)

untyped_to : (line : Location) (n : ℕ) (env : Env) (us : List Use) (d : Diag) (places : List (Option SelectedPart)) (p : SelectedPart) → Contains places (Some p)
    → Contains (free_faults line n env (part_of p) us) d → Contains (actuals_faults line n env us places) d
untyped_to line n env us d [] p among h = absurd (none (Some p) among)
untyped_to line n env us d (o ∷ following) p among h = elim (Contains-append_cases (o ∷ []) following (Some p) among) [
  | inl here ↦
      Contains-append_left (actual_faults line n env us o following) (actuals_faults line n env us following) d
      (subst (λ (z : Option SelectedPart). Contains (actual_faults line n env us z following) d) (sym (one_item o (Some p) here))
      (Contains-append_right (place_pairs line env (part_of p) following) (free_faults line n env (part_of p) us) d h))
  | inr rest ↦ Contains-append_right (actual_faults line n env us o following) (actuals_faults line n env us following) d (untyped_to line n env us d following p rest h)
]

call_from : (line : Location) (env : Env) (c : Call) (d : Diag) → Contains (call_faults line env c) d → IsReportedOfCall line env c d
call_from line env c d h =
    elim (Contains-append_cases (actuals_faults line c.callee env (body_of (slice_get env c.callee)) c.places) (written_faults code.A4 env c.uses c.reads) d h) [
      | inl here ↦ actuals_from line env c d [] c.places refl here
      | inr following ↦ read line env c d (change_from code.A4 env c.uses c.reads d following)
    ]

call_left : (line : Location) (env : Env) (c : Call) (d : Diag) → Contains (actuals_faults line c.callee env (body_of (slice_get env c.callee)) c.places) d
    → Contains (call_faults line env c) d
call_left line env c d h =
    Contains-append_left (actuals_faults line c.callee env (body_of (slice_get env c.callee)) c.places) (written_faults code.A4 env c.uses c.reads) d h

call_to : (line : Location) (env : Env) (c : Call) (d : Diag) → IsReportedOfCall line env c d → Contains (call_faults line env c) d
call_to _ _ _ _ (actuals line env c d front following p q e among h) =
    let us = body_of (slice_get env c.callee) in
    call_left line env c d
    (subst (λ (os : List (Option SelectedPart)). Contains (actuals_faults line c.callee env us os) d) (sym e)
    (after_to line c.callee env us d front (Some p ∷ following)
    (Contains-append_left (actual_faults line c.callee env us (Some p) following) (actuals_faults line c.callee env us following) d
    (Contains-append_left (place_pairs line env (part_of p) following) (free_faults line c.callee env (part_of p) us) d
    (each_to (λ (o : Option SelectedPart). place_pair line env (part_of p) o) (λ (os : List (Option SelectedPart)). place_pairs line env (part_of p) os)
    (λ (o : Option SelectedPart) (os : List (Option SelectedPart)). refl) following d (Some q) among h)))))
call_to _ _ _ _ (free line env c d p u actual among outside h) =
    let us = body_of (slice_get env c.callee) in
    call_left line env c d
    (untyped_to line c.callee env us d c.places p actual
    (each_to (λ (v : Use). free_fault line c.callee env (part_of p) v) (λ (vs : List Use). free_faults line c.callee env (part_of p) vs)
    (λ (v : Use) (vs : List Use). refl) us d u among
    (when_to (nat_lt u.part.root c.callee) (pair_faults line code.A4 env (part_of p) u.part) d outside h)))
call_to _ _ _ _ (read line env c d h) =
    Contains-append_right (actuals_faults line c.callee env (body_of (slice_get env c.callee)) c.places) (written_faults code.A4 env c.uses c.reads) d
    (change_to code.A4 env c.uses c.reads d h)

-- ---- uses and calls at a line

line_from : (line : Location) (env : Env) (us : List Use) (cs : List Call) (d : Diag) → Contains (evaluated_faults line env us cs) d → IsReportedOf line env us cs d
line_from line env us cs d h = elim (Contains-append_cases (scope_faults 0 env env us) (calls_faults line env cs) d h) [
  | inl here ↦ of_use line env us cs d (in_scope_from env us d here)
  | inr following ↦
      each_from (λ (c : Call). call_faults line env c) (λ (xs : List Call). calls_faults line env xs) refl (λ (c : Call) (xs : List Call). refl) cs d following
      (λ (c : Call) among reported. of_call line env us cs d c among (call_from line env c d reported))
]

line_to : (line : Location) (env : Env) (us : List Use) (cs : List Call) (d : Diag) → IsReportedOf line env us cs d → Contains (evaluated_faults line env us cs) d
line_to _ _ _ _ _ (of_use line env us cs d h) = Contains-append_left (scope_faults 0 env env us) (calls_faults line env cs) d (in_scope_to env us d h)
line_to _ _ _ _ _ (of_call line env us cs d c among h) =
    Contains-append_right (scope_faults 0 env env us) (calls_faults line env cs) d
    (each_to (λ (x : Call). call_faults line env x) (λ (xs : List Call). calls_faults line env xs) (λ (x : Call) (xs : List Call). refl) cs d c among (call_to line env c d h))

pub line_law : (line : Location) (env : Env) (us : List Use) (cs : List Call) (d : Diag) → Contains (evaluated_faults line env us cs) d ↔ IsReportedOf line env us cs d
line_law line env us cs d = (line_from line env us cs d, line_to line env us cs d)
