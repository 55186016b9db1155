-- To be the same is an equivalence, of types, protocols and interfaces.
use Rattle.std.proofs.Common.{◌≡◌, List, [], ◌∷◌, refl, sym, ◌∙◌}
use Rattle.std.specs.List.{AllZip}
use Rattle.occ_types.specs.Interface.{IsEquivalence, IsSameSet, IsSameExport, IsSameInterface}

pub equality : {X : Type 0} → IsEquivalence {X = X} (λ a b. a ≡ b)
equality = record { reflexive = λ a. refl; symmetric = λ a b e. sym e; transitive = λ a b c e f. e ∙ f }

same_set : {X : Type 0} → IsEquivalence {X = List X} IsSameSet
same_set =
    record {
      reflexive = λ xs. record { there = λ x h. h; back = λ x h. h };
      symmetric = λ xs ys s. record { there = s.back; back = s.there };
      transitive = λ xs ys zs s t. record { there = λ x h. t.there x (s.there x h); back = λ x h. s.back x (t.back x h) };
    }

zip_reflexive : {X : Type 0} (R : X → X → Type 0) → IsEquivalence R → (xs : List X) → AllZip R xs xs
zip_reflexive R is [] = tt
zip_reflexive R is (x ∷ xs) = (is.reflexive x, zip_reflexive R is xs)

zip_symmetric : {X : Type 0} (R : X → X → Type 0) → IsEquivalence R → (xs ys : List X) → AllZip R xs ys → AllZip R ys xs
zip_symmetric R is [] [] h = tt
zip_symmetric R is [] (y ∷ ys) h = absurd h
zip_symmetric R is (x ∷ xs) [] h = absurd h
zip_symmetric R is (x ∷ xs) (y ∷ ys) h = (is.symmetric x y h.0, zip_symmetric R is xs ys h.1)

zip_transitive : {X : Type 0} (R : X → X → Type 0) → IsEquivalence R → (xs ys zs : List X) → AllZip R xs ys → AllZip R ys zs → AllZip R xs zs
zip_transitive R is [] [] zs h k = k
zip_transitive R is [] (y ∷ ys) zs h k = absurd h
zip_transitive R is (x ∷ xs) [] zs h k = absurd h
zip_transitive R is (x ∷ xs) (y ∷ ys) [] h k = absurd k
zip_transitive R is (x ∷ xs) (y ∷ ys) (z ∷ zs) h k = (is.transitive x y z h.0 k.0, zip_transitive R is xs ys zs h.1 k.1)

zip : {X : Type 0} (R : X → X → Type 0) → IsEquivalence R → IsEquivalence (AllZip R)
zip R is = record { reflexive = zip_reflexive R is; symmetric = zip_symmetric R is; transitive = zip_transitive R is }

same_export : IsEquivalence IsSameExport
same_export =
    record {
      reflexive = λ a. record { name = refl; kind = refl; formals = refl; results = refl; uses = same_set.reflexive a.uses; effect = refl };
      symmetric = λ a b s. record { name = sym s.name; kind = sym s.kind; formals = sym s.formals; results = sym s.results; uses = same_set.symmetric a.uses b.uses s.uses; effect = sym s.effect };
      transitive = λ a b c s t.
          record {
            name = s.name ∙ t.name;
            kind = s.kind ∙ t.kind;
            formals = s.formals ∙ t.formals;
            results = s.results ∙ t.results;
            uses = same_set.transitive a.uses b.uses c.uses s.uses t.uses;
            effect = s.effect ∙ t.effect;
          };
    }

same_exports : IsEquivalence (AllZip IsSameExport)
same_exports = zip IsSameExport same_export

pub same_interface : IsEquivalence IsSameInterface
same_interface =
    record {
      reflexive = λ a. same_exports.reflexive a.exports;
      symmetric = λ a b. same_exports.symmetric a.exports b.exports;
      transitive = λ a b c. same_exports.transitive a.exports b.exports c.exports;
    }
