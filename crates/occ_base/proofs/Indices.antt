-- Each name at its first index, made in one walk.
use Rattle.std.proofs.Common.{◌≡◌, ◌<◌, ℕ, length, arith, true, false, Bool, cond, not, ◌&&◌, List, [], ◌∷◌, ◌++◌, refl, sym, ap, ◌∙◌, append_assoc}
use Rattle.std.specs.List.{filter}
use Rattle.std.specs.Str.{bytes_eq}
use Rattle.occ_base.specs.Firsts.{first_indices}

-- those of the names at their first indices that a test does not know
abbrev pub unknown : (List ℕ → Bool) → List (List ℕ) → List (List ℕ)
unknown known names = filter (λ name. not (known name)) (first_indices names)

kept : {X : Type 0} (f h : X → Bool) (x : X) (b : Bool) (ys zs : List X) → h x ≡ (b && f x) → filter f ys ≡ zs → filter f (cond b (x ∷ ys) ys) ≡ cond (h x) (x ∷ zs) zs
kept f h x true ys zs p e = ap (λ xs. cond (f x) (x ∷ xs) xs) e ∙ ap (λ (b : Bool). cond b (x ∷ zs) zs) (sym p)
kept f h x false ys zs p e = e ∙ ap (λ (b : Bool). cond b (x ∷ zs) zs) (sym p)

filter_both : {X : Type 0} (f g h : X → Bool) → ((x : X) → h x ≡ (g x && f x)) → (xs : List X) → filter f (filter g xs) ≡ filter h xs
filter_both f g h e [] = refl
filter_both f g h e (x ∷ xs) = kept f h x (g x) (filter g xs) (filter h xs) (e x) (filter_both f g h e xs)

-- a name comes, and the test knows it from then on
pub name_comes : (known then' : List ℕ → Bool) (name : List ℕ) (names : List (List ℕ)) → ((q : List ℕ) → then' q ≡ cond (bytes_eq name q) true (known q))
    → unknown known (name ∷ names) ≡ cond (known name) (unknown then' names) (name ∷ unknown then' names)
name_comes known then' name names e = by (known name) where
  same : (q : List ℕ) → not (then' q) ≡ (not (bytes_eq name q) && not (known q))
  same q = ap not (e q) ∙ split (bytes_eq name q) where
    split : (b : Bool) → not (cond b true (known q)) ≡ (not b && not (known q))
    split true = refl
    split false = refl

  rest : filter (λ q. not (known q)) (filter (λ q. not (bytes_eq name q)) (first_indices names)) ≡ unknown then' names
  rest = filter_both (λ q. not (known q)) (λ q. not (bytes_eq name q)) (λ q. not (then' q)) same (first_indices names)

  by : (b : Bool) → cond (not b) (name ∷ filter (λ q. not (known q)) (filter (λ q. not (bytes_eq name q)) (first_indices names))) (filter (λ q. not (known q)) (filter (λ q. not (bytes_eq name q)) (first_indices names)))
      ≡ cond b (unknown then' names) (name ∷ unknown then' names)
  by true = rest
  by false = ap (λ (ns : List (List ℕ)). name ∷ ns) rest

-- at the start none is known
pub none_known : (known : List ℕ → Bool) → ((q : List ℕ) → known q ≡ false) → (names : List (List ℕ)) → unknown known names ≡ first_indices names
none_known known e names = all (first_indices names) where
  all : (ns : List (List ℕ)) → filter (λ name. not (known name)) ns ≡ ns
  all [] = refl
  all (n ∷ ns) = ap (λ (b : Bool). cond (not b) (n ∷ filter (λ name. not (known name)) ns) (filter (λ name. not (known name)) ns)) (e n) ∙ ap (λ (xs : List (List ℕ)). n ∷ xs) (all ns)

-- the step of the walk
pub comes_new : (known then' : List ℕ → Bool) (name : List ℕ) (rest names all found found' : List (List ℕ)) → ((q : List ℕ) → then' q ≡ cond (bytes_eq name q) true (known q))
    → names ≡ name ∷ rest → known name ≡ false → found' ≡ found ++ name ∷ [] → found ++ unknown known names ≡ all → found' ++ unknown then' rest ≡ all
comes_new known then' name rest names all found found' e n k f h =
    ap (λ (ns : List (List ℕ)). ns ++ unknown then' rest) f ∙ append_assoc found (name ∷ []) (unknown then' rest)
    ∙ ap (λ (ns : List (List ℕ)). found ++ ns) (sym (ap (unknown known) n ∙ name_comes known then' name rest e ∙ ap (λ (b : Bool). cond b (unknown then' rest) (name ∷ unknown then' rest)) k))
    ∙ h

pub comes_known : (known then' : List ℕ → Bool) (name : List ℕ) (rest names all found : List (List ℕ)) → ((q : List ℕ) → then' q ≡ cond (bytes_eq name q) true (known q))
    → names ≡ name ∷ rest → known name ≡ true → found ++ unknown known names ≡ all → found ++ unknown then' rest ≡ all
comes_known known then' name rest names all found e n k h =
    ap (λ (ns : List (List ℕ)). found ++ ns) (sym (ap (unknown known) n ∙ name_comes known then' name rest e ∙ ap (λ (b : Bool). cond b (unknown then' rest) (name ∷ unknown then' rest)) k))
    ∙ h

-- what the set answers: whether the name is new
pub is_new : (added known : Bool) → added ≡ true → added ≡ not known → known ≡ false
is_new added true e h = cc
is_new added false e h = refl

pub is_known : (added known : Bool) → added ≡ false → added ≡ not known → known ≡ true
is_known added true e h = refl
is_known added false e h = cc

-- of fewer than two names each stands once
pub few_once : (names : List (List ℕ)) → length names < 2 → names ≡ first_indices names
few_once [] lt = refl
few_once (name ∷ []) lt = refl
few_once (name ∷ other ∷ names) lt = absurd (omega (arith, lt))
