-- Of exports of one name the last is left: found from the end on, where a later name is known.
use Rattle.std.proofs.Common.{◌≡◌, ℕ, Bool, true, false, cond, not, ap, sym, ◌∙◌, refl, append_assoc, reverse, List, [], ◌∷◌, ◌++◌}
use Rattle.std.specs.Prelude.{◌||◌, ◌&&◌}
use Rattle.std.specs.List.{filter, list_any}
use Rattle.std.specs.Ordering.{is_eq, nat_cmp}
use Rattle.std.specs.Cmp.Lexicographic.{slice_cmp}
use Rattle.std.specs.Str.{bytes_eq}
use Rattle.std.proofs.lemmas.List.{reverse-append, reverse-reverse}
use Rattle.std.proofs.lemmas.Map.Text.{is_eq-slice_cmp}
use Rattle.std.proofs.lemmas.Slice.Eq.{bytes_eq-Decides}
use Rattle.occ_check.specs.Exports.{with_export, with_exports}
use Rattle.occ_types.specs.declared.interface.Export.{Export}

-- one of them has this name
abbrev pub named : List Export → List ℕ → Bool
named es name = list_any (λ (e : Export). bytes_eq e.name name) es

-- the last of each name
abbrev pub lasts : List Export → List Export
lasts [] = []
lasts (e ∷ es) = cond (named es e.name) (lasts es) (e ∷ lasts es)

-- ---- exports that are added one after the other

filter_all : {X : Type 0} (f : X → Bool) (xs : List X) → ((x : X) → f x ≡ true) → filter f xs ≡ xs
filter_all f [] h = refl
filter_all {X = X} f (x ∷ xs) h = ap (λ (b : Bool). cond b (x ∷ filter f xs) (filter f xs)) (h x) ∙ ap (λ (ys : List X). x ∷ ys) (filter_all f xs h)

filter_append : {X : Type 0} (f : X → Bool) (xs ys : List X) → filter f (xs ++ ys) ≡ filter f xs ++ filter f ys
filter_append f [] ys = refl
filter_append {X} f (x ∷ xs) ys = ap (λ (zs : List X). cond (f x) (x ∷ zs) zs) (filter_append f xs ys) ∙ by (f x) where
  by : (b : Bool) → cond b (x ∷ (filter f xs ++ filter f ys)) (filter f xs ++ filter f ys) ≡ cond b (x ∷ filter f xs) (filter f xs) ++ filter f ys
  by true = refl
  by false = refl

kept : {X : Type 0} (f h : X → Bool) (x : X) (b : Bool) (ys zs : List X) → h x ≡ (b && f x) → filter f ys ≡ zs → filter f (cond b (x ∷ ys) ys) ≡ cond (h x) (x ∷ zs) zs
kept {X} f h x true ys zs p e = ap (λ (xs : List X). cond (f x) (x ∷ xs) xs) e ∙ ap (λ (b : Bool). cond b (x ∷ zs) zs) (sym p)
kept f h x false ys zs p e = e ∙ ap (λ b. cond b (x ∷ zs) zs) (sym p)

filter_both : {X : Type 0} (f g h : X → Bool) → ((x : X) → h x ≡ (g x && f x)) → (xs : List X) → filter f (filter g xs) ≡ filter h xs
filter_both f g h e [] = refl
filter_both f g h e (x ∷ xs) = kept f h x (g x) (filter g xs) (filter h xs) (e x) (filter_both f g h e xs)

turned : (m n : List ℕ) → bytes_eq m n ≡ bytes_eq n m
turned m n = by (bytes_eq m n) (bytes_eq n m) (λ h. (bytes_eq-Decides n m).1 (sym ((bytes_eq-Decides m n).0 h))) (λ h. (bytes_eq-Decides m n).1 (sym ((bytes_eq-Decides n m).0 h))) where
  by : (a b : Bool) → (a ≡ true → b ≡ true) → (b ≡ true → a ≡ true) → a ≡ b
  by true true f g = refl
  by true false f g = sym (f refl)
  by false true f g = g refl
  by false false f g = refl

one_left : (e : Export) (es : List Export) → filter (λ (a : Export). not (named es a.name)) (e ∷ []) ++ lasts es ≡ lasts (e ∷ es)
one_left e es = by (named es e.name) where
  by : (b : Bool) → cond (not b) (e ∷ []) [] ++ lasts es ≡ cond b (lasts es) (e ∷ lasts es)
  by true = refl
  by false = refl

left : (found es : List Export) → with_exports found es ≡ filter (λ (a : Export). not (named es a.name)) found ++ lasts es
left found [] = sym (append-nil (filter (λ (a : Export). not (named [] a.name)) found) ∙ filter_all (λ (a : Export). not (named [] a.name)) found (λ a. refl)) where
  append-nil : {X : Type 0} (xs : List X) → xs ++ [] ≡ xs
  append-nil [] = refl
  append-nil {X} (x ∷ xs) = ap (λ (ys : List X). x ∷ ys) (append-nil xs)
left found (e ∷ es) =
    left (with_export found e) es
    ∙ ap (λ (xs : List Export). xs ++ lasts es) (filter_append later (filter other found) (e ∷ []))
    ∙ append_assoc (filter later (filter other found)) (filter later (e ∷ [])) (lasts es)
    ∙ ap (λ (xs : List Export). xs ++ (filter later (e ∷ []) ++ lasts es)) (filter_both later other neither same found)
    ∙ ap (λ (xs : List Export). filter neither found ++ xs) (one_left e es) where
      later : Export → Bool
      later = λ a. not (named es a.name)

      other : Export → Bool
      other = λ a. not (bytes_eq a.name e.name)

      neither : Export → Bool
      neither = λ a. not (named (e ∷ es) a.name)

      same : (a : Export) → neither a ≡ (other a && later a)
      same a = ap (λ (b : Bool). not (b || named es a.name)) (turned e.name a.name) ∙ by (bytes_eq a.name e.name) (named es a.name) where
        by : (b c : Bool) → not (b || c) ≡ (not b && not c)
        by true c = refl
        by false c = refl

pub lasts_are : (es : List Export) → with_exports [] es ≡ lasts es
lasts_are es = left [] es

-- ---- from the end on

-- these are gone through, and those names are known
pub record IsPassed (all rest last : List Export) (known : List ℕ → Bool) : Type 0 where
  pub passed : List Export
  pub whole : rest ++ passed ≡ all
  pub found : last ≡ reverse (lasts passed)
  pub names : (name : List ℕ) → known name ≡ named passed name

pub none_passed : (all : List Export) (known : List ℕ → Bool) → ((name : List ℕ) → known name ≡ false) → IsPassed all all [] known
none_passed all known e = record { passed = []; whole = append-nil all; found = refl; names = e } where
  append-nil : {X : Type 0} (xs : List X) → xs ++ [] ≡ xs
  append-nil [] = refl
  append-nil {X} (x ∷ xs) = ap (λ (ys : List X). x ∷ ys) (append-nil xs)

known_then : (known then' : List ℕ → Bool) (passed : List Export) (e : Export) → ((name : List ℕ) → known name ≡ named passed name)
    → ((q : List ℕ) → then' q ≡ cond (is_eq (slice_cmp nat_cmp e.name q)) true (known q)) → (name : List ℕ) → then' name ≡ named (e ∷ passed) name
known_then known then' passed e k t name =
    t name ∙ ap (λ (b : Bool). cond b true (known name)) (is_eq-slice_cmp e.name name) ∙ ap (λ (b : Bool). cond (bytes_eq e.name name) true b) (k name) ∙ by (bytes_eq e.name name) (named passed name) where
      by : (a b : Bool) → cond a true b ≡ (a || b)
      by true b = refl
      by false b = refl

-- put before what was found where its name is new
found_new : (es found : List Export) (e : Export) (b : Bool) → b ≡ false → found ≡ reverse es → found ++ e ∷ [] ≡ reverse (cond b es (e ∷ es))
found_new es found e true k f = cc
found_new es found e false k f = ap (λ (xs : List Export). xs ++ e ∷ []) f ∙ sym (reverse-append (e ∷ []) es)

found_known : (es found : List Export) (e : Export) (b : Bool) → b ≡ true → found ≡ reverse es → found ≡ reverse (cond b es (e ∷ es))
found_known es found e true k f = f
found_known es found e false k f = cc

pub passes_new : (all rest front last : List Export) (e : Export) (known then' : List ℕ → Bool) → rest ≡ front ++ e ∷ []
    → ((q : List ℕ) → then' q ≡ cond (is_eq (slice_cmp nat_cmp e.name q)) true (known q)) → known e.name ≡ false → IsPassed all rest last known → IsPassed all front (last ++ e ∷ []) then'
passes_new all rest front last e known then' r t k p = record {
  passed = e ∷ p.passed;
  whole = sym (append_assoc front (e ∷ []) p.passed) ∙ ap (λ (es : List Export). es ++ p.passed) (sym r) ∙ p.whole;
  found = found_new (lasts p.passed) last e (named p.passed e.name) (sym (p.names e.name) ∙ k) p.found;
  names = known_then known then' p.passed e p.names t;
}

pub passes_known : (all rest front last : List Export) (e : Export) (known then' : List ℕ → Bool) → rest ≡ front ++ e ∷ []
    → ((q : List ℕ) → then' q ≡ cond (is_eq (slice_cmp nat_cmp e.name q)) true (known q)) → known e.name ≡ true → IsPassed all rest last known → IsPassed all front last then'
passes_known all rest front last e known then' r t k p = record {
  passed = e ∷ p.passed;
  whole = sym (append_assoc front (e ∷ []) p.passed) ∙ ap (λ (es : List Export). es ++ p.passed) (sym r) ∙ p.whole;
  found = found_known (lasts p.passed) last e (named p.passed e.name) (sym (p.names e.name) ∙ k) p.found;
  names = known_then known then' p.passed e p.names t;
}

pub all_passed : (all last : List Export) (known : List ℕ → Bool) → IsPassed all [] last known → reverse last ≡ with_exports [] all
all_passed all last known p = ap (λ (es : List Export). reverse es) p.found ∙ reverse-reverse (lasts p.passed) ∙ ap lasts p.whole ∙ sym (lasts_are all)

-- what the set answers: whether the name is new
pub is_new : (added known : Bool) → added ≡ true → added ≡ not known → known ≡ false
is_new added true e h = cc
is_new added false e h = refl

pub is_known : (added known : Bool) → added ≡ false → added ≡ not known → known ≡ true
is_known added true e h = refl
is_known added false e h = cc
