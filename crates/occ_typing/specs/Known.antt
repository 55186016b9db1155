-- What stands in scope where no line has a fault: names of which it is known what they stand for.
use Rattle.std.specs.Prelude.{◌≡◌, false, Some, None, List, [], ◌∷◌}
use Rattle.occ_scope.specs.declared.meaning.ScopeEntry.{ScopeEntry}
use Rattle.occ_scope.specs.declared.meaning.Meaning.{Meaning}
use Rattle.occ_scope.specs.declared.meaning.Meaning.TheVariants as m
use Rattle.occ_scope.specs.declared.scope.Scope.{Scope}
use Rattle.occ_types.specs.Unknown.{holds_unknown, protocol_unknown}
use Rattle.occ_types.specs.declared.interface.Formal.{Formal}
use Rattle.occ_types.specs.declared.types.OccType.{OccType}

-- nothing in a type is unknown
abbrev pub IsKnownType : OccType → Type 0
IsKnownType of = holds_unknown of ≡ false

abbrev pub AreKnownTypes : List OccType → Type 0
AreKnownTypes [] = Unit {0}
AreKnownTypes (of ∷ types) = IsKnownType of × AreKnownTypes types

abbrev pub AreKnownFormals : List Formal → Type 0
AreKnownFormals [] = Unit {0}
AreKnownFormals (f ∷ fs) = IsKnownType f.of × AreKnownFormals fs

-- its line has no fault, and nothing in its types is unknown
abbrev pub IsKnownMeaning : Meaning → Type 0
IsKnownMeaning m.Faulty = ⊥
IsKnownMeaning (m.Type None) = ⊥
IsKnownMeaning (m.Type (Some of)) = IsKnownType of
IsKnownMeaning (m.Protocol c) = protocol_unknown c ≡ false
IsKnownMeaning (m.Procedure formals) = AreKnownFormals formals
IsKnownMeaning (m.Function formals results) = AreKnownFormals formals × AreKnownTypes results
IsKnownMeaning (m.Element whole) = IsKnownType whole.of

-- a procedure, of whose formals the types are known
abbrev pub IsKnownProcedure : Meaning → Type 0
IsKnownProcedure (m.Procedure formals) = AreKnownFormals formals
IsKnownProcedure _ = ⊥

-- a function, of whose formals and results the types are known
abbrev pub IsKnownFunction : Meaning → Type 0
IsKnownFunction (m.Function formals results) = AreKnownFormals formals × AreKnownTypes results
IsKnownFunction _ = ⊥

-- a variable, a channel, a timer or a value, of which the type is known
abbrev pub IsKnownElement : Meaning → Type 0
IsKnownElement (m.Element whole) = IsKnownType whole.of
IsKnownElement _ = ⊥

abbrev pub AreKnownMeanings : List Meaning → Type 0
AreKnownMeanings [] = Unit {0}
AreKnownMeanings (meaning ∷ meanings) = IsKnownMeaning meaning × AreKnownMeanings meanings

abbrev pub AreKnownEntries : List ScopeEntry → Type 0
AreKnownEntries [] = Unit {0}
AreKnownEntries (x ∷ xs) = IsKnownMeaning x.meaning × AreKnownEntries xs

abbrev pub IsKnownScope : Scope → Type 0
IsKnownScope s = AreKnownMeanings s.meanings
