-- What is read of a reader whose bytes are known.
use Rattle.std.proofs.Common.{◌≡◌, ◌∙◌, ◌++◌, ℕ, List, [], Option, Some, None, IfSome, take, ap, subst}
use Rattle.std.specs.Io.Take.{take_inner, take_limit, take_remaining}
use Rattle.std.specs.Option.{option_map}
use Rattle.std.specs.declared.io.traits.Take.{Take}

front : (known : Option (List ℕ)) (n : ℕ) (bytes before : List ℕ) → before ≡ [] → IfSome (option_map (take n) known) (λ xs. bytes ≡ before ++ xs) → IfSome known (λ all. bytes ≡ take n all)
front None n bytes before none h = h
front (Some all) n bytes before none h = h ∙ ap (λ (xs : List ℕ). xs ++ take n all) none

pub front_read : {R : Type 0} (remaining : R → Option (List ℕ)) (t : Take R) (reader : R) (n : ℕ) (bytes before : List ℕ) → before ≡ [] → take_limit t ≡ n → take_inner t ≡ reader
    → IfSome (take_remaining remaining t) (λ xs. bytes ≡ before ++ xs) → IfSome (remaining reader) (λ all. bytes ≡ take n all)
front_read {R} remaining t reader n bytes before none limit inner h =
    subst (λ (r : R). IfSome (remaining r) (λ all. bytes ≡ take n all)) inner
    (subst (λ (m : ℕ). IfSome (remaining t.inner) (λ all. bytes ≡ take m all)) limit (front (remaining t.inner) t.limit bytes before none h))
