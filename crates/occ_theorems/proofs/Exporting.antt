-- An export is the last of its name; two interfaces that are one are equal.
use Rattle.std.proofs.Common.{◌≡◌, ◌≢◌, ◌+◌, ℕ, Bool, true, false, cond, List, [], ◌∷◌, ◌++◌, length, inl, inr, refl, ap, sym, subst, ◌∙◌}
use Rattle.std.specs.Prelude.{◌↔◌, ◌⊎◌, ◌||◌, not, if◌then◌else◌}
use Rattle.std.specs.List.{AllByRecursion, AllZip, Contains, filter, slice_get}
use Rattle.std.specs.Str.{bytes_eq}
use Rattle.std.proofs.lemmas.Slice.Eq.{bytes_eq-Decides}
use Rattle.occ_usage_values.specs.Bounds.{Env, body_of}
use Rattle.occ_check.specs.Exports.{entries_exports, interface_in, is_use, line_entries, line_exports, lines_exports, meaning_exports, with_export, with_exports}
use Rattle.occ_check.specs.FormalUses.{formal_uses, in_order}
use Rattle.occ_scope.specs.declared.meaning.ScopeEntry.{ScopeEntry}
use Rattle.occ_scope.specs.declared.meaning.Meaning.{Meaning}
use Rattle.occ_scope.specs.declared.meaning.Meaning.TheVariants as m
use Rattle.occ_typing.specs.declared.tree.TypedLine.{TypedLine, out-TypedLine}
use Rattle.occ_types.specs.Interface.{IsSameExport, IsSameInterface}
use Rattle.occ_types.specs.declared.interface.Effect.{Effect}
use Rattle.occ_types.specs.declared.interface.Export.{Export}
use Rattle.occ_types.specs.declared.interface.ExportKind.{ExportKind}
use Rattle.occ_types.specs.declared.interface.Formal.{Formal}
use Rattle.occ_types.specs.declared.interface.FormalUse.{FormalUse}
use Rattle.occ_types.specs.declared.types.OccType.{OccType}
use Rattle.occ_theorems.specs.Exports.{IsLastOfName}
use Rattle.occ_theorems.proofs.Members.{Among, from_contains, into_contains, of_all}
use Rattle.occ_theorems.proofs.Ordered.{one_order, order_stays}

-- ---- the last of a name

-- one of them has this name
abbrev named : List Export → List ℕ → Bool
named [] name = false
named (e ∷ es) name = bytes_eq e.name name || named es name

not_named : (es : List Export) (name : List ℕ) (x : Export) → named es name ≡ false → Among x es → x.name ≡ name → ⊥
not_named [] name x h i e = i
not_named (y ∷ ys) name x h i e = by (bytes_eq y.name name) refl h i (λ g f. not_named ys name x g f e) where
  by : (b : Bool) → bytes_eq y.name name ≡ b → (b || named ys name) ≡ false → Among x (y ∷ ys) → (named ys name ≡ false → Among x ys → ⊥) → ⊥
  by true t h i rest = cc
  by false t h (inl f) rest = let u : bytes_eq y.name name ≡ true = (bytes_eq-Decides y.name name).1 (ap (λ (z : Export). z.name) f ∙ e) in cc
  by false t h (inr f) rest = rest h f

none_named : (es : List Export) (name : List ℕ) → ((x : Export) → Among x es → x.name ≢ name) → named es name ≡ false
none_named [] name h = refl
none_named (y ∷ ys) name h = by (bytes_eq y.name name) refl (none_named ys name (λ x i. h x (inr i))) where
  by : (b : Bool) → bytes_eq y.name name ≡ b → named ys name ≡ false → (b || named ys name) ≡ false
  by true t rest = absurd (h y (inl refl) ((bytes_eq-Decides y.name name).0 t))
  by false t rest = rest

further : (x : Export) (xs : List Export) (e : Export) → IsLastOfName xs e → IsLastOfName (x ∷ xs) e
further x xs e l = record { before = x ∷ l.before; after = l.after; whole = ap (λ (es : List Export). x ∷ es) l.whole; last = l.last }

from_filter : (f : Export → Bool) (xs : List Export) (e : Export) → Among e (filter f xs) → Among e xs × (f e ≡ true)
from_filter f [] e h = absurd h
from_filter f (x ∷ xs) e h = by (f x) refl h (from_filter f xs e) where
  by : (b : Bool) → f x ≡ b → Among e (cond b (x ∷ filter f xs) (filter f xs)) → (Among e (filter f xs) → Among e xs × (f e ≡ true)) → Among e (x ∷ xs) × (f e ≡ true)
  by true t (inl i) rest = (inl i, subst (λ y. f y ≡ true) i t)
  by true t (inr i) rest = let r = rest i in (inr r.0, r.1)
  by false t i rest = let r = rest i in (inr r.0, r.1)

into_filter : (f : Export → Bool) (xs : List Export) (e : Export) → Among e xs → f e ≡ true → Among e (filter f xs)
into_filter f [] e h t = h
into_filter f (x ∷ xs) e h t = by (f x) refl h (λ i. into_filter f xs e i t) where
  by : (b : Bool) → f x ≡ b → Among e (x ∷ xs) → (Among e xs → Among e (filter f xs)) → Among e (cond b (x ∷ filter f xs) (filter f xs))
  by true u (inl i) rest = inl i
  by true u (inr i) rest = inr (rest i)
  by false u (inl i) rest = let v : f e ≡ false = subst (λ y. f y ≡ false) i u in absurd cc
  by false u (inr i) rest = rest i

from_both : (e : Export) (xs ys : List Export) → Among e (xs ++ ys) → Among e xs ⊎ Among e ys
from_both e [] ys h = inr h
from_both e (x ∷ xs) ys (inl i) = inl (inl i)
from_both e (x ∷ xs) ys (inr i) = elim (from_both e xs ys i) [
  | inl k ↦ inl (inr k)
  | inr k ↦ inr k
]

front : (e : Export) (xs ys : List Export) → Among e xs → Among e (xs ++ ys)
front e [] ys h = absurd h
front e (x ∷ xs) ys (inl i) = inl i
front e (x ∷ xs) ys (inr i) = inr (front e xs ys i)

back : (e : Export) (xs ys : List Export) → Among e ys → Among e (xs ++ ys)
back e [] ys h = h
back e (x ∷ xs) ys h = inr (back e xs ys h)

-- the name is another one, and stands nowhere behind
not_turned : (m n : List ℕ) → not (bytes_eq m n) ≡ true → bytes_eq n m ≡ false
not_turned m n h = by (bytes_eq m n) (bytes_eq n m) refl refl h where
  by : (a b : Bool) → bytes_eq m n ≡ a → bytes_eq n m ≡ b → not a ≡ true → b ≡ false
  by a false s t g = refl
  by true true s t g = absurd cc
  by false true s t g = let u : bytes_eq m n ≡ true = (bytes_eq-Decides m n).1 (sym ((bytes_eq-Decides n m).0 t)) in absurd cc

turned_not : (m n : List ℕ) → bytes_eq n m ≡ false → not (bytes_eq m n) ≡ true
turned_not m n h = by (bytes_eq m n) refl where
  by : (a : Bool) → bytes_eq m n ≡ a → not a ≡ true
  by false s = refl
  by true s = let u : bytes_eq n m ≡ true = (bytes_eq-Decides n m).1 (sym ((bytes_eq-Decides m n).0 s)) in absurd cc

abbrev Left : List Export → List Export → Export → Type 0
Left found es e = (Among e found × (named es e.name ≡ false)) ⊎ IsLastOfName es e

first_off : (b c : Bool) → (b || c) ≡ false → (b ≡ false) × (c ≡ false)
first_off true c h = absurd cc
first_off false c h = (refl, h)

is_left : (es found : List Export) (e : Export) → Among e (with_exports found es) → Left found es e
is_left [] found e h = inl (h, refl)
is_left (x ∷ es) found e h = elim (is_left es (with_export found x) e h) [
  | inl (there, none) ↦ elim (from_both e (filter (λ (earlier : Export). not (bytes_eq earlier.name x.name)) found) (x ∷ []) there) [
    | inl k ↦
        let f = from_filter (λ (earlier : Export). not (bytes_eq earlier.name x.name)) found e k in
        inl (f.0, ap (λ (b : Bool). b || named es e.name) (not_turned e.name x.name f.1) ∙ none)
    | inr k ↦ inr (is_it k none)
  ]
  | inr l ↦ inr (further x es e l)
] where
  is_it : Among e (x ∷ []) → named es e.name ≡ false → IsLastOfName (x ∷ es) e
  is_it (inl i) none = record { before = []; after = es; whole = ap (λ (y : Export). y ∷ es) i; last = λ later c. not_named es e.name later none (from_contains es later c) }
  is_it (inr i) none = absurd i

left_is : (es found : List Export) (e : Export) → Left found es e → Among e (with_exports found es)
left_is [] found e (inl (h, none)) = h
left_is [] found e (inr l) = absurd (nothing l.before l.whole) where
  nothing : (before : List Export) → [] ≡ before ++ e ∷ l.after → ⊥
  nothing [] h = cc
  nothing (b ∷ bs) h = cc
left_is (x ∷ es) found e (inl (h, none)) =
    let f = first_off (bytes_eq x.name e.name) (named es e.name) none in
    left_is es (with_export found x) e
    (inl (front e (filter (λ (earlier : Export). not (bytes_eq earlier.name x.name)) found) (x ∷ []) (into_filter (λ (earlier : Export). not (bytes_eq earlier.name x.name)) found e h (turned_not e.name x.name f.0)), f.1))
left_is (x ∷ es) found e (inr l) = by l.before l.whole (left_is es (with_export found x) e) where
  by : (before : List Export) → x ∷ es ≡ before ++ e ∷ l.after → (Left (with_export found x) es e → Among e (with_exports (with_export found x) es)) → Among e (with_exports found (x ∷ es))
  by [] w there =
      let same : x ≡ e = cc in
      let rest : es ≡ l.after = cc in
      let none : named l.after e.name ≡ false = none_named l.after e.name (λ y i. l.last y (into_contains l.after y i)) in
      there (inl (back e (filter (λ (earlier : Export). not (bytes_eq earlier.name x.name)) found) (x ∷ []) (inl same), ap (λ (ys : List Export). named ys e.name) rest ∙ none))
  by (b ∷ bs) w there =
      let rest : es ≡ bs ++ e ∷ l.after = cc in
      there (inr (record { before = bs; after = l.after; whole = rest; last = l.last }))

pub last_of_name : (env : Env) (lines : List TypedLine) (e : Export) → Contains (interface_in env lines).exports e ↔ IsLastOfName (lines_exports env 0 lines) e
last_of_name env lines e = (λ h. only_last (is_left all [] e (from_contains (with_exports [] all) e h)), λ l. into_contains (with_exports [] all) e (left_is all [] e (inr l))) where
  all : List Export
  all = lines_exports env 0 lines

  only_last : Left [] all e → IsLastOfName all e
  only_last (inl h) = absurd h.0
  only_last (inr l) = l

-- ---- one interface

abbrev AreOrdered : List Export → Type 0
AreOrdered = AllByRecursion (λ e. in_order e.uses ≡ e.uses)

both_ordered : (xs ys : List Export) → AreOrdered xs → AreOrdered ys → AreOrdered (xs ++ ys)
both_ordered [] ys h g = g
both_ordered (x ∷ xs) ys h g = (h.0, both_ordered xs ys h.1 g)

meaning_ordered : (env : Env) (n : ℕ) (name : List ℕ) (x : Meaning) → AreOrdered (meaning_exports env n name x)
meaning_ordered env n name (m.Procedure formals) = (order_stays (formal_uses n (body_of (slice_get env n))), tt)
meaning_ordered env n name (m.Function formals results) = (order_stays (formal_uses n (body_of (slice_get env n))), tt)
meaning_ordered env n name m.Faulty = tt
meaning_ordered env n name (m.Type of) = tt
meaning_ordered env n name (m.Protocol c) = tt
meaning_ordered env n name (m.Element whole) = tt

entries_ordered : (env : Env) (n : ℕ) (xs : List ScopeEntry) → AreOrdered (entries_exports env n xs)
entries_ordered env n [] = tt
entries_ordered env n (x ∷ xs) = both_ordered (meaning_exports env n x.name x.meaning) (entries_exports env (n + 1) xs) (meaning_ordered env n x.name x.meaning) (entries_ordered env (n + 1) xs)

unless_use : (b : Bool) (xs : List Export) → AreOrdered xs → AreOrdered (if b then [] else xs)
unless_use true xs h = tt
unless_use false xs h = h

lines_ordered : (env : Env) (n : ℕ) (ls : List TypedLine) → AreOrdered (lines_exports env n ls)
lines_ordered env n [] = tt
lines_ordered env n (l ∷ ls) = both_ordered (line_exports env n l) (lines_exports env (n + length (line_entries l)) ls)
    (unless_use (is_use (out-TypedLine l).form) (entries_exports env n (line_entries l)) (entries_ordered env n (line_entries l)))
    (lines_ordered env (n + length (line_entries l)) ls)

kept_ordered : (f : Export → Bool) (es : List Export) → AreOrdered es → AreOrdered (filter f es)
kept_ordered f [] h = tt
kept_ordered f (e ∷ es) h = by (f e) (kept_ordered f es h.1) where
  by : (b : Bool) → AreOrdered (filter f es) → AreOrdered (cond b (e ∷ filter f es) (filter f es))
  by true rest = (h.0, rest)
  by false rest = rest

left_ordered : (es found : List Export) → AreOrdered found → AreOrdered es → AreOrdered (with_exports found es)
left_ordered [] found h g = h
left_ordered (e ∷ es) found h g =
    left_ordered es (with_export found e)
    (both_ordered (filter (λ (earlier : Export). not (bytes_eq earlier.name e.name)) found) (e ∷ []) (kept_ordered (λ (earlier : Export). not (bytes_eq earlier.name e.name)) found h) (g.0, tt))
    g.1

exports_ordered : (env : Env) (lines : List TypedLine) → AreOrdered (interface_in env lines).exports
exports_ordered env lines = left_ordered (lines_exports env 0 lines) [] tt (lines_ordered env 0 lines)

of_parts : List ℕ → ExportKind → List Formal → List OccType → List FormalUse → Effect → Export
of_parts name k formals results uses effect = record { name = name; kind = k; formals = formals; results = results; uses = uses; effect = effect }

same_export : (a b : Export) → IsSameExport a b → in_order a.uses ≡ a.uses → in_order b.uses ≡ b.uses → a ≡ b
unfolding of_parts
same_export a b s o p =
    ap (λ x. of_parts x a.kind a.formals a.results a.uses a.effect) s.name
    ∙ ap (λ x. of_parts b.name x a.formals a.results a.uses a.effect) s.kind
    ∙ ap (λ x. of_parts b.name b.kind x a.results a.uses a.effect) s.formals
    ∙ ap (λ x. of_parts b.name b.kind b.formals x a.uses a.effect) s.results
    ∙ ap (λ x. of_parts b.name b.kind b.formals b.results x a.effect) (sym o ∙ one_order a.uses b.uses s.uses ∙ p)
    ∙ ap (λ x. of_parts b.name b.kind b.formals b.results b.uses x) s.effect

same_exports : (xs ys : List Export) → AllZip IsSameExport xs ys → AreOrdered xs → AreOrdered ys → xs ≡ ys
same_exports [] [] s o p = refl
same_exports [] (b ∷ ys) s o p = absurd s
same_exports (a ∷ xs) [] s o p = absurd s
same_exports (a ∷ xs) (b ∷ ys) s o p =
    let e : a ≡ b = same_export a b s.0 o.0 p.0 in
    let f : xs ≡ ys = same_exports xs ys s.1 o.1 p.1 in
    cc

pub one_interface : (env other : Env) (lines others : List TypedLine) → IsSameInterface (interface_in env lines) (interface_in other others) → interface_in env lines ≡ interface_in other others
one_interface env other lines others s =
    ap (λ (es : List Export). record { exports = es }) (same_exports _ _ s (exports_ordered env lines) (exports_ordered other others))

pub uses_ordered : (env : Env) (lines : List TypedLine) (e : Export) → Contains (interface_in env lines).exports e → in_order e.uses ≡ e.uses
uses_ordered env lines e h = of_all (λ (x : Export). in_order x.uses ≡ x.uses) (interface_in env lines).exports e (exports_ordered env lines) (from_contains (interface_in env lines).exports e h)
