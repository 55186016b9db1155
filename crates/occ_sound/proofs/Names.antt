-- Names: what stands for a name, by what the rules know of it.
use Rattle.std.proofs.Common.{◌≡◌, ◌<◌, ℕ, suc, Bool, true, false, ap, sym, subst, ◌∙◌, refl, arith, List, [], ◌∷◌, ◌++◌, Option, Some, None, inl, inr, length, append_assoc}
use Rattle.std.specs.Prelude.{ℤ, slice_get, take}
use Rattle.occ_scope.specs.declared.meaning.Access.{Access}
use Rattle.occ_scope.specs.declared.meaning.Access.TheVariants as access
use Rattle.occ_scope.specs.declared.meaning.Meaning.{Meaning}
use Rattle.occ_scope.specs.declared.meaning.Meaning.TheVariants as meaning
use Rattle.occ_scope.specs.declared.meaning.ScopeEntry.{ScopeEntry}
use Rattle.occ_types.specs.declared.types.OccType.{OccType}
use Rattle.occ_types.specs.declared.value.Value.{Value}
use Rattle.occ_usage_lines.specs.Entering.{access_bound, entry_bounds, meaning_bound}
use Rattle.occ_usage_parts.specs.Selecting.{whole}
use Rattle.occ_usage_parts.specs.declared.place.SelectedPart.{SelectedPart}
use Rattle.occ_usage_values.specs.Bounds.{Env, place_of, size_of, value_of}
use Rattle.occ_usage_values.specs.Timers.{is_timer}
use Rattle.occ_usage_values.specs.declared.bound.Bound.{Bound}
use Rattle.occ_usage_values.specs.declared.bound.Bound.TheVariants as b
use Rattle.occ_running.specs.Memory.{Spot, Thread, Variable}
use Rattle.occ_running.specs.Running.{found_of}
use Rattle.occ_running.specs.Scopes.{AreDeclared, Body, Clock, Element, Formal, Formula, Held, IsDeclared, IsDeclaredBy, Other, Shown, Scope, Stored, Suits, SuitsBy, SuitsOne, Thing, formal_of, formals_of}
use Rattle.occ_running.specs.Works.{Tells}
use Rattle.occ_sound.specs.Agreeing.{Agrees, IsAt, LiesAt, Matches, empty_scope, one_more, origin}
use Rattle.occ_sound.proofs.Clocks.{clock_known}
use Rattle.occ_sound.proofs.Lists.{get_below, get_end, get_last, get_more, length_last, none_some, no_more, some_same, take_all, take_more}

pub agrees_length : (env : Env) (d : Scope) → Agrees env d → length env ≡ length d
agrees_length _ _ empty_scope = refl
agrees_length _ _ (one_more env d bound x a m) = length_last env bound ∙ ap suc (agrees_length env d a) ∙ sym (length_last d x)

-- ---- what stands at a number, and what stood in scope before it

pub record Standing (env : Env) (d : Scope) (n : ℕ) (x : Thing) : Type 0 where
  pub bound : Bound
  pub got : slice_get env n ≡ Some bound
  pub agrees : Agrees (take n env) (take n d)
  pub matches : Matches (take n env) (take n d) bound x
  pub kept : (m : ℕ) (z : Thing) → slice_get (take n d) m ≡ Some z → slice_get d m ≡ Some z

standing_last : (env : Env) (d : Scope) (bound : Bound) (x : Thing) (n : ℕ) (z : Thing) → Agrees env d → Matches env d bound x → n ≡ length d → x ≡ z → Standing (env ++ bound ∷ []) (d ++ x ∷ []) n z
standing_last env d bound x n z a m same is =
    let at_env : n ≡ length env = same ∙ sym (agrees_length env d a) in
    let env_before : take n (env ++ bound ∷ []) ≡ env = subst (λ (k : ℕ). take k (env ++ bound ∷ []) ≡ env) (sym at_env) (take_all env (bound ∷ [])) in
    let d_before : take n (d ++ x ∷ []) ≡ d = subst (λ (k : ℕ). take k (d ++ x ∷ []) ≡ d) (sym same) (take_all d (x ∷ [])) in
    record {
      bound = bound;
      got = subst (λ (k : ℕ). slice_get (env ++ bound ∷ []) k ≡ Some bound) (sym at_env) (get_end env bound);
      agrees = subst (λ (e : Env). Agrees e (take n (d ++ x ∷ []))) (sym env_before) (subst (λ (f : Scope). Agrees env f) (sym d_before) a);
      matches = subst (λ (e : Env). Matches e (take n (d ++ x ∷ [])) bound z) (sym env_before)
          (subst (λ (f : Scope). Matches env f bound z) (sym d_before) (subst (λ (y : Thing). Matches env d bound y) is m));
      kept = λ k y h. get_more d (x ∷ []) k y (subst (λ (f : Scope). slice_get f k ≡ Some y) d_before h);
    }

standing_before : (env : Env) (d : Scope) (bound : Bound) (x : Thing) (n : ℕ) (z : Thing) → Agrees env d → n < length d → Standing env d n z → Standing (env ++ bound ∷ []) (d ++ x ∷ []) n z
standing_before env d bound x n z a low s =
    let sizes : length env ≡ length d = agrees_length env d a in
    let env_same : take n (env ++ bound ∷ []) ≡ take n env = take_more env (bound ∷ []) n (omega (arith, low, sizes)) in
    let d_same : take n (d ++ x ∷ []) ≡ take n d = take_more d (x ∷ []) n (omega (arith, low)) in
    record {
      bound = s.bound;
      got = get_more env (bound ∷ []) n s.bound s.got;
      agrees = subst (λ (e : Env). Agrees e (take n (d ++ x ∷ []))) (sym env_same) (subst (λ (f : Scope). Agrees (take n env) f) (sym d_same) s.agrees);
      matches = subst (λ (e : Env). Matches e (take n (d ++ x ∷ [])) s.bound z) (sym env_same) (subst (λ (f : Scope). Matches (take n env) f s.bound z) (sym d_same) s.matches);
      kept = λ k y h. get_more d (x ∷ []) k y (s.kept k y (subst (λ (f : Scope). slice_get f k ≡ Some y) d_same h));
    }

pub stands : (env : Env) (d : Scope) → Agrees env d → (n : ℕ) (z : Thing) → slice_get d n ≡ Some z → Standing env d n z
stands _ _ empty_scope n z h = cc
stands _ _ (one_more env d bound x a m) n z h = elim (get_last d x n z h) [
  | inl before ↦ standing_before env d bound x n z a (get_below d n z before) (stands env d a n z before)
  | inr last ↦ standing_last env d bound x n z a m last.0 last.1
]

-- ---- elements

-- where something lies, how many components it has and what its value is, as far as the rules know it
abbrev pub FoundAs : Scope → Option SelectedPart → Option ℤ → Option Value → Thing → Type 0
FoundAs d place size value (Element at n) = IsAt d place at × Tells size n × (value ≡ None)
FoundAs d place size value (Held x n) = Tells value x × Tells size n
FoundAs d place size value (Clock n) = Tells size n
FoundAs d place size value (Stored thread) = ⊥
FoundAs d place size value (Formal at) = ⊥
FoundAs d place size value (Body l) = ⊥
FoundAs d place size value (Formula formals results) = ⊥
FoundAs d place size value (Shown us2) = ⊥
FoundAs d place size value Other = ⊥

abbrev pub Kept : Scope → Scope → Type 0
Kept d e = (m : ℕ) (z : Thing) → slice_get d m ≡ Some z → slice_get e m ≡ Some z

pub some_origin : (d e : Scope) (n : ℕ) (c : Spot) (x : Option Thing) → slice_get d n ≡ x → ((z : Thing) → slice_get d n ≡ Some z → slice_get e n ≡ Some z) → origin n x ≡ Some c → origin n (slice_get e n) ≡ Some c
some_origin d e n c None h kept i = cc
some_origin d e n c (Some x) h kept i = ap (origin n) (kept x h) ∙ i

pub lies_kept : (d e : Scope) (p : SelectedPart) (at : Spot) → Kept d e → LiesAt d p at → LiesAt e p at
lies_kept d e p at kept h = record { start = h.start; is = some_origin d e p.root h.start (slice_get d p.root) refl (kept p.root) h.is; follows = h.follows }

at_kept : (d e : Scope) (p : Option SelectedPart) (at : Spot) → Kept d e → IsAt d p at → IsAt e p at
at_kept d e None at kept h = absurd h
at_kept d e (Some p) at kept h = lies_kept d e p at kept h

whole_lies : (d : Scope) (n : ℕ) (at : Spot) → origin n (slice_get d n) ≡ Some at → LiesAt d (whole n) at
whole_lies d n at e = record { start = at; is = e; follows = λ own c r. (own, r, record { front = []; tail = own; is = refl; selected = tt; counted = refl }) }

abbrev Found : Scope → ℕ → Bound → Thing → Type 0
Found d n bound y = FoundAs d (place_of n (Some bound)) (size_of (Some bound)) (value_of (Some bound)) y

stored_found : (env : Env) (d e : Scope) (n : ℕ) (bound : Bound) (t : Thread) → slice_get e n ≡ Some (Stored t) → Matches env d bound (Stored t) → Found e n bound (Element (Variable n t) None)
stored_found env d e n (b.Root name) t h m = (whole_lies e n (Variable n t) (ap (origin n) h), tt, refl)
stored_found env d e n (b.Value v size reads) t h m = absurd m
stored_found env d e n (b.Abbreviation p size reads) t h m = absurd m
stored_found env d e n (b.Body us does) t h m = absurd m
stored_found env d e n b.Other t h m = absurd m

formal_found : (env : Env) (d e : Scope) (n : ℕ) (bound : Bound) (at : Spot) → slice_get e n ≡ Some (Formal at) → Matches env d bound (Formal at) → Found e n bound (Element at None)
formal_found env d e n (b.Root name) at h m = (whole_lies e n at (ap (origin n) h), tt, refl)
formal_found env d e n (b.Value v size reads) at h m = absurd m
formal_found env d e n (b.Abbreviation p size reads) at h m = absurd m
formal_found env d e n (b.Body us does) at h m = absurd m
formal_found env d e n b.Other at h m = absurd m

element_found : (env : Env) (d e : Scope) (n : ℕ) (bound : Bound) (at : Spot) (k : Option ℤ) → Kept d e → Matches env d bound (Element at k) → Found e n bound (Element at k)
element_found env d e n (b.Root name) at k kept m = absurd m
element_found env d e n (b.Value v size reads) at k kept m = absurd m
element_found env d e n (b.Abbreviation p size reads) at k kept m = (at_kept d e p at kept m.0, m.1, refl)
element_found env d e n (b.Body us does) at k kept m = absurd m
element_found env d e n b.Other at k kept m = absurd m

held_found : (env : Env) (d e : Scope) (n : ℕ) (bound : Bound) (x : Option Value) (k : Option ℤ) → Matches env d bound (Held x k) → Found e n bound (Held x k)
held_found env d e n (b.Root name) x k m = absurd m
held_found env d e n (b.Value v size reads) x k m = m
held_found env d e n (b.Abbreviation p size reads) x k m = (tt, m)
held_found env d e n (b.Body us does) x k m = absurd m
held_found env d e n b.Other x k m = absurd m

clock_found : (env : Env) (d e : Scope) (n : ℕ) (bound : Bound) (k : Option ℤ) → Matches env d bound (Clock k) → Found e n bound (Clock k)
clock_found env d e n (b.Root name) k m = tt
clock_found env d e n (b.Value v size reads) k m = absurd m
clock_found env d e n (b.Abbreviation p size reads) k m = m
clock_found env d e n (b.Body us does) k m = absurd m
clock_found env d e n b.Other k m = tt

name_by : (env : Env) (d : Scope) (n : ℕ) (x y : Thing) → slice_get d n ≡ Some x → found_of n x ≡ Some y → (s : Standing env d n x) → Found d n s.bound y
name_by env d n (Stored t) y h f s = subst (λ (z : Thing). Found d n s.bound z) (some_same (Element (Variable n t) None) y f) (stored_found (take n env) (take n d) d n s.bound t h s.matches)
name_by env d n (Formal at) y h f s = subst (λ (z : Thing). Found d n s.bound z) (some_same (Element at None) y f) (formal_found (take n env) (take n d) d n s.bound at h s.matches)
name_by env d n (Element at k) y h f s = subst (λ (z : Thing). Found d n s.bound z) (some_same (Element at k) y f) (element_found (take n env) (take n d) d n s.bound at k s.kept s.matches)
name_by env d n (Clock k) y h f s = subst (λ (z : Thing). Found d n s.bound z) (some_same (Clock k) y f) (clock_found (take n env) (take n d) d n s.bound k s.matches)
name_by env d n (Held x k) y h f s = subst (λ (z : Thing). Found d n s.bound z) (some_same (Held x k) y f) (held_found (take n env) (take n d) d n s.bound x k s.matches)
name_by env d n (Body l) y h f s = none_some y f
name_by env d n (Formula formals results) y h f s = none_some y f
name_by env d n (Shown us2) y h f s = none_some y f
name_by env d n Other y h f s = none_some y f

-- what a name stands for lies where the rules place it
pub name_found : (env : Env) (d : Scope) (n : ℕ) (x y : Thing) → Agrees env d → slice_get d n ≡ Some x → found_of n x ≡ Some y
    → FoundAs d (place_of n (slice_get env n)) (size_of (slice_get env n)) (value_of (slice_get env n)) y
name_found env d n x y a h f =
    let s = stands env d a n x h in
    subst (λ (z : Option Bound). FoundAs d (place_of n z) (size_of z) (value_of z) y) (sym s.got) (name_by env d n x y h f s)

-- ---- declarations

pub other_matches : (env : Env) (d : Scope) (bound : Bound) → Matches env d bound Other
other_matches env d (b.Root name) = tt
other_matches env d (b.Value v size reads) = tt
other_matches env d (b.Abbreviation p size reads) = tt
other_matches env d (b.Body us does) = tt
other_matches env d b.Other = tt

stored_matches : (env : Env) (d : Scope) (name : List ℕ) (t : Thread) (timer : Bool) → (timer ≡ true → ⊥) → Matches env d (access_bound name access.Variable timer) (Stored t)
stored_matches env d name t false h = tt
stored_matches env d name t true h = absurd (h refl)

clock_matches : (env : Env) (d : Scope) (name : List ℕ) (k : Option ℤ) (timer : Bool) → Matches env d (access_bound name access.Variable timer) (Clock k)
clock_matches env d name k false = tt
clock_matches env d name k true = tt

declared_by : (env : Env) (d : Scope) (t : Thread) (name : List ℕ) (a : Access) (of : OccType) (x : Thing) → IsDeclaredBy t a of x → Matches env d (access_bound name a (is_timer of)) x
declared_by env d t name access.Variable of x (inl h) = subst (λ (z : Thing). Matches env d (access_bound name access.Variable (is_timer of)) z) (sym h.1) (clock_matches env d name None (is_timer of))
declared_by env d t name access.Variable of x (inr h) =
    subst (λ (z : Thing). Matches env d (access_bound name access.Variable (is_timer of)) z) (sym h.1) (stored_matches env d name t (is_timer of) (λ k. h.0 (clock_known of k)))
declared_by env d t name access.Formal of x h = subst (λ (z : Thing). Matches env d (access_bound name access.Formal (is_timer of)) z) (sym h) (other_matches env d (access_bound name access.Formal (is_timer of)))
declared_by env d t name access.Value of x h = subst (λ (z : Thing). Matches env d (access_bound name access.Value (is_timer of)) z) (sym h) (other_matches env d (access_bound name access.Value (is_timer of)))

is_other : (env : Env) (d : Scope) (bound : Bound) (x : Thing) → x ≡ Other → Matches env d bound x
is_other env d bound x h = subst (λ (z : Thing). Matches env d bound z) (sym h) (other_matches env d bound)

declared_matches : (env : Env) (d : Scope) (t : Thread) (name : List ℕ) (m : Meaning) (x : Thing) → IsDeclared t m x → Matches env d (meaning_bound name m) x
declared_matches env d t name (meaning.Element w) x h = declared_by env d t name w.access w.of x h
declared_matches env d t name (meaning.Procedure formals) x h = is_other env d (meaning_bound name (meaning.Procedure formals)) x h
declared_matches env d t name (meaning.Function formals results) x h = is_other env d (meaning_bound name (meaning.Function formals results)) x h
declared_matches env d t name meaning.Faulty x h = is_other env d (meaning_bound name meaning.Faulty) x h
declared_matches env d t name (meaning.Type of) x h = is_other env d (meaning_bound name (meaning.Type of)) x h
declared_matches env d t name (meaning.Protocol protocol) x h = is_other env d (meaning_bound name (meaning.Protocol protocol)) x h

-- one more in scope, before others
pub agrees_then : (env : Env) (d : Scope) (bound : Bound) (bs : List Bound) (x : Thing) (xs : List Thing) → Agrees ((env ++ bound ∷ []) ++ bs) ((d ++ x ∷ []) ++ xs) → Agrees (env ++ bound ∷ bs) (d ++ x ∷ xs)
agrees_then env d bound bs x xs a =
    subst (λ (e : Env). Agrees e (d ++ x ∷ xs)) (append_assoc env (bound ∷ []) bs) (subst (λ (f : Scope). Agrees ((env ++ bound ∷ []) ++ bs) f) (append_assoc d (x ∷ []) xs) a)

pub agrees_same : (env : Env) (d : Scope) → Agrees env d → Agrees (env ++ []) (d ++ [])
agrees_same env d a = subst (λ (e : Env). Agrees e (d ++ [])) (sym (no_more env)) (subst (λ (f : Scope). Agrees env f) (sym (no_more d)) a)

pub declared_agree : (env : Env) (d : Scope) (t : Thread) (es : List ScopeEntry) (xs : List Thing) → Agrees env d → AreDeclared t es xs → Agrees (env ++ entry_bounds es) (d ++ xs)
declared_agree env d t [] [] a h = agrees_same env d a
declared_agree env d t [] (x ∷ xs) a h = absurd h
declared_agree env d t (e ∷ es) [] a h = absurd h
declared_agree env d t (e ∷ es) (x ∷ xs) a h =
    let bound = meaning_bound e.name e.meaning in
    agrees_then env d bound (entry_bounds es) x xs
    (declared_agree (env ++ bound ∷ []) (d ++ x ∷ []) t es xs (one_more env d bound x a (declared_matches env d t e.name e.meaning x h.0)) h.1)

-- ---- formals

formal_variable : (env : Env) (d : Scope) (name : List ℕ) (of : OccType) (x : Thing) → SuitsBy access.Variable of x → Matches env d (access_bound name access.Variable (is_timer of)) (formal_of x)
formal_variable env d name of (Element at n) h = formal_case (is_timer of) (λ k. h (clock_known of k)) where
  formal_case : (timer : Bool) → (timer ≡ true → ⊥) → Matches env d (access_bound name access.Variable timer) (Formal at)
  formal_case false k = tt
  formal_case true k = absurd (k refl)
formal_variable env d name of (Clock n) h = clock_matches env d name None (is_timer of)
formal_variable env d name of (Held v n) h = absurd h
formal_variable env d name of (Stored t) h = absurd h
formal_variable env d name of (Formal at) h = absurd h
formal_variable env d name of (Body l) h = absurd h
formal_variable env d name of (Formula fs rs) h = absurd h
formal_variable env d name of (Shown us2) h = absurd h
formal_variable env d name of Other h = absurd h

formal_value : (env : Env) (d : Scope) (x : Thing) (of : OccType) → SuitsBy access.Formal of x → Matches env d (b.Value None None []) (formal_of x)
formal_value env d (Held v n) of h = (tt, tt)
formal_value env d (Element at n) of h = absurd h
formal_value env d (Clock n) of h = absurd h
formal_value env d (Stored t) of h = absurd h
formal_value env d (Formal at) of h = absurd h
formal_value env d (Body l) of h = absurd h
formal_value env d (Formula fs rs) of h = absurd h
formal_value env d (Shown us2) of h = absurd h
formal_value env d Other of h = absurd h

formal_name : (env : Env) (d : Scope) (x : Thing) (of : OccType) → SuitsBy access.Value of x → Matches env d (b.Value None None []) (formal_of x)
formal_name env d (Held v n) of h = (tt, tt)
formal_name env d (Element at n) of h = absurd h
formal_name env d (Clock n) of h = absurd h
formal_name env d (Stored t) of h = absurd h
formal_name env d (Formal at) of h = absurd h
formal_name env d (Body l) of h = absurd h
formal_name env d (Formula fs rs) of h = absurd h
formal_name env d (Shown us2) of h = absurd h
formal_name env d Other of h = absurd h

formal_by : (env : Env) (d : Scope) (name : List ℕ) (a : Access) (of : OccType) (x : Thing) → SuitsBy a of x → Matches env d (access_bound name a (is_timer of)) (formal_of x)
formal_by env d name access.Variable of x h = formal_variable env d name of x h
formal_by env d name access.Formal of x h = formal_value env d x of h
formal_by env d name access.Value of x h = formal_name env d x of h

formal_matches : (env : Env) (d : Scope) (name : List ℕ) (m : Meaning) (x : Thing) → SuitsOne m x → Matches env d (meaning_bound name m) (formal_of x)
formal_matches env d name (meaning.Element w) x h = formal_by env d name w.access w.of x h
formal_matches env d name (meaning.Procedure formals) x h = absurd h
formal_matches env d name (meaning.Function formals results) x h = absurd h
formal_matches env d name meaning.Faulty x h = absurd h
formal_matches env d name (meaning.Type of) x h = absurd h
formal_matches env d name (meaning.Protocol protocol) x h = absurd h

pub formals_agree : (env : Env) (d : Scope) (es : List ScopeEntry) (xs : List Thing) → Agrees env d → Suits es xs → Agrees (env ++ entry_bounds es) (d ++ formals_of xs)
formals_agree env d [] [] a h = agrees_same env d a
formals_agree env d [] (x ∷ xs) a h = absurd h
formals_agree env d (e ∷ es) [] a h = absurd h
formals_agree env d (e ∷ es) (x ∷ xs) a h =
    let bound = meaning_bound e.name e.meaning in
    agrees_then env d bound (entry_bounds es) (formal_of x) (formals_of xs)
    (formals_agree (env ++ bound ∷ []) (d ++ formal_of x ∷ []) es xs (one_more env d bound (formal_of x) a (formal_matches env d e.name e.meaning x h.0)) h.1)
