-- Each specification in scope is one that a line brings into scope there.
use Rattle.std.proofs.Common.{◌≡◌, ℕ, zero, suc, Option, Some, None, List, [], ◌∷◌, ◌++◌, slice_get, take, refl, subst, sym, arith, append_assoc, append-nil}
use Rattle.occ_usage_values.specs.Bounds.{Env}
use Rattle.occ_usage_values.specs.declared.bound.Bound.{Bound}
use Rattle.occ_usage_lines.specs.Entering.{entry_bounds}
use Rattle.occ_scope.specs.declared.meaning.ScopeEntry.{ScopeEntry}
use Rattle.occ_typing.specs.declared.tree.TypedLine.{TypedLine}
use Rattle.occ_usage.specs.Anew.{AllBroughtIn, IsBroughtIn, added_by, entered_by, index_of}
use Rattle.occ_usage.specs.Effect.{inner}
use Rattle.occ_usage.specs.Lines.{added, after_by, after_line, items_of, with_index}
use Rattle.occ_usage.specs.Standing.{Stands, below, first, in_round, later}
use Rattle.occ_usage.specs.Trees.{Head, Trees, trees_of}
use Rattle.occ_usage.specs.Walk.{At}

-- ---- one after the other

abbrev From : Trees → Env → List Bound → Type 0
From unit e [] = Unit {0}
From unit e (x ∷ xs) = IsBroughtIn unit e x × From unit (e ++ x ∷ []) xs

more : (unit : Trees) (e : Env) (xs ys : List Bound) → From unit e xs → From unit (e ++ xs) ys → From unit e (xs ++ ys)
more unit e [] ys m h = subst (λ (z : Env). From unit z ys) (append-nil e) h
more unit e (x ∷ xs) ys m h = (m.0, more unit (e ++ x ∷ []) xs ys m.1 (subst (λ (z : Env). From unit z ys) (sym (append_assoc e (x ∷ []) xs)) h))

each : (unit : Trees) (e : Env) (xs : List Bound) → ((k : ℕ) (x : Bound) → slice_get xs k ≡ Some x → IsBroughtIn unit (e ++ take k xs) x) → From unit e xs
each unit e [] f = tt
each unit e (x ∷ xs) f = (
  subst (λ (z : Env). IsBroughtIn unit z x) (append-nil e) (f 0 x refl),
  each unit (e ++ x ∷ []) xs (λ k y is. subst (λ (z : Env). IsBroughtIn unit z y) (sym (append_assoc e (x ∷ []) (take k xs))) (f (suc k) y is)),
)

some_is : (x y : Bound) → Some x ≡ Some y → x ≡ y
some_is x y e = grind (arith, e)

read : (unit : Trees) (e : Env) (xs : List Bound) (n : ℕ) (y : Bound) → From unit e xs → slice_get xs n ≡ Some y → IsBroughtIn unit (e ++ take n xs) y
read unit e [] n y m is = absurd (grind (arith, is))
read unit e (x ∷ xs) zero y m is =
    subst (λ (z : Env). IsBroughtIn unit z y) (sym (append-nil e)) (subst (λ (z : Bound). IsBroughtIn unit e z) (some_is x y is) m.0)
read unit e (x ∷ xs) (suc n) y m is =
    subst (λ (z : Env). IsBroughtIn unit z y) (append_assoc e (x ∷ []) (take n xs)) (read unit (e ++ x ∷ []) xs n y m.1 is)

-- ---- at any place

following : (unit : Trees) (adds : Option (List ScopeEntry)) (outer env : Env) (h : Head) (t : Trees) → Stands unit [] [] (record { line = h; under = t; env = env })
    → From unit [] outer → From unit [] env → From unit [] (after_by outer env h t adds)
following unit None outer env h t here round m = round
following unit (Some entries) outer env h t here round m =
    more unit [] env (added env h t (items_of t)) m (each unit env (added env h t (items_of t)) (λ k x is. added_by unit env h t k x here is))

all_brought : (unit t : Trees) (outer env : Env) (a : At) → ((c : At) → Stands t outer env c → Stands unit [] [] c) → From unit [] outer → From unit [] env
    → Stands t outer env a → From unit [] a.env
all_brought unit _ _ _ _ up round m (first h t rest outer env) = m
all_brought unit _ _ _ _ up round m (below h t rest outer env a known s) =
    let here = up (record { line = h; under = t; env = env }) (first h t rest outer env) in
    let scope = more unit [] env (entry_bounds h.enters) m (each unit env (entry_bounds h.enters) (λ k x is. entered_by unit env h t k x here known is)) in
    all_brought unit t (inner env h) (inner env h) a (λ c w. up c (below h t rest outer env c known w)) scope scope s
all_brought unit _ _ _ _ up round m (in_round h t rest outer env a r i known w s) =
    let here = up (record { line = h; under = t; env = env }) (first h t rest outer env) in
    let scope = more unit [] env _ m (index_of unit env h t r i here known w, tt) in
    all_brought unit t (with_index env r.base i) (with_index env r.base i) a (λ c v. up c (in_round h t rest outer env c r i known w v)) scope scope s
all_brought unit _ _ _ _ up round m (later h t rest outer env a s) =
    let here = up (record { line = h; under = t; env = env }) (first h t rest outer env) in
    all_brought unit rest outer (after_line outer env h t) a (λ c v. up c (later h t rest outer env c v)) round (following unit h.adds outer env h t here round m) s

pub scope_law : (ls : List TypedLine) (a : At) → Stands (trees_of ls) [] [] a → AllBroughtIn (trees_of ls) a.env
scope_law ls a s = λ n x is. read (trees_of ls) [] a.env n x (all_brought (trees_of ls) (trees_of ls) [] [] a (λ c w. w) tt tt s) is
