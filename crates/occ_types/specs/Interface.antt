-- When two interfaces are the same: they have the same exports, one by one. Of the uses of formals it counts which
-- there are, and neither their order nor how often each stands in the list.
use Rattle.std.specs.Prelude.{◌≡◌, List}
use Rattle.std.specs.List.{AllZip, Contains}
use Rattle.occ_types.specs.declared.interface.Export.{Export}
use Rattle.occ_types.specs.declared.interface.Interface.{Interface}

abbrev pub IsWithin : {X : Type 0} → List X → List X → Type 0
IsWithin {X} xs ys = (x : X) → Contains xs x → Contains ys x

-- each item of the one list is one of the other's
pub record IsSameSet {X : Type 0} (xs ys : List X) : Type 0 where
  pub there : IsWithin xs ys
  pub back : IsWithin ys xs

pub record IsSameExport (a b : Export) : Type 0 where
  pub name : a.name ≡ b.name
  pub kind : a.kind ≡ b.kind
  pub formals : a.formals ≡ b.formals
  pub results : a.results ≡ b.results
  pub uses : IsSameSet a.uses b.uses
  pub effect : a.effect ≡ b.effect

abbrev pub IsSameInterface : Interface → Interface → Type 0
IsSameInterface a b = AllZip IsSameExport a.exports b.exports

-- a relation that says which things count as one
pub record IsEquivalence {X : Type 0} (R : X → X → Type 0) : Type 0 where
  pub reflexive : (a : X) → R a a
  pub symmetric : (a b : X) → R a b → R b a
  pub transitive : (a b c : X) → R a b → R b c → R a c
