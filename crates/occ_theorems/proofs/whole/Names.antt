-- Names that are looked up where it is known of each name in scope what it stands for.
use Rattle.std.proofs.Common.{◌≡◌, ◌++◌, ℕ, zero, suc, false, List, [], ◌∷◌, Option, Some, None, refl, ap, sym, subst}
use Rattle.std.specs.Prelude.{slice_get}
use Rattle.occ_scope.specs.Lookup.{Found, carries, data_type, element}
use Rattle.occ_scope.specs.Visible.{entered, meaning_at, numbered, referent, referent_at, visible, with_all}
use Rattle.occ_scope.specs.declared.lookup.Carried.{Carried}
use Rattle.occ_scope.specs.declared.lookup.Carried.TheVariants as carried
use Rattle.occ_scope.specs.declared.meaning.ScopeEntry.{ScopeEntry}
use Rattle.occ_scope.specs.declared.meaning.Meaning.{Meaning}
use Rattle.occ_scope.specs.declared.meaning.Meaning.TheVariants as m
use Rattle.occ_scope.specs.declared.meaning.Referent.{Referent}
use Rattle.occ_scope.specs.declared.meaning.Whole.{Whole}
use Rattle.occ_scope.specs.declared.scope.Scope.{Scope}
use Rattle.occ_scope.specs.Nearest.{nearest}
use Rattle.occ_types.specs.Unknown.{protocol_unknown}
use Rattle.occ_types.specs.declared.types.OccType.{OccType}
use Rattle.occ_types.specs.declared.interface.Formal.{Formal}
use Rattle.occ_typing.specs.Known.{AreKnownEntries, AreKnownFormals, AreKnownMeanings, AreKnownTypes, IsKnownElement, IsKnownFunction, IsKnownMeaning, IsKnownScope, IsKnownType}
use Rattle.occ_theorems.proofs.whole.Clean.{Has}

abbrev pub PerhapsKnown : Option Meaning → Type 0
PerhapsKnown None = Unit {0}
PerhapsKnown (Some meaning) = IsKnownMeaning meaning

one_known : (ms : List Meaning) (n : ℕ) → AreKnownMeanings ms → PerhapsKnown (slice_get ms n)
one_known [] n h = tt
one_known (x ∷ ms) zero h = h.0
one_known (x ∷ ms) (suc n) h = one_known ms n h.1

at_known : (ms : List Meaning) (place : Option ℕ) → AreKnownMeanings ms → PerhapsKnown (meaning_at ms place)
at_known ms None h = tt
at_known ms (Some n) h = one_known ms n h

pub visible_known : (s : Scope) (name : List ℕ) → IsKnownScope s → PerhapsKnown (visible s name)
visible_known s name h = at_known s.meanings (nearest s.names name) h

-- the specification of a name, which gives it this meaning
pub record Refers (found : Option Referent) (meaning : Meaning) : Type 0 where
  pub referent : Referent
  pub is : found ≡ Some referent
  pub means : referent.meaning ≡ meaning

abbrev meaning_or : Option Meaning → Meaning → Meaning
meaning_or None x = x
meaning_or (Some y) x = y

numbered_refers : (n : ℕ) (found : Option Meaning) (meaning : Meaning) → found ≡ Some meaning → Refers (numbered n found) meaning
numbered_refers n None meaning e = absurd cc
numbered_refers n (Some x) meaning e = record { referent = record { spec = n; meaning = x }; is = refl; means = ap (λ (o : Option Meaning). meaning_or o x) e }

at_refers : (ms : List Meaning) (place : Option ℕ) (meaning : Meaning) → meaning_at ms place ≡ Some meaning → Refers (referent_at ms place) meaning
at_refers ms None meaning e = absurd cc
at_refers ms (Some n) meaning e = numbered_refers n (slice_get ms n) meaning e

pub refers : (s : Scope) (name : List ℕ) (meaning : Meaning) → visible s name ≡ Some meaning → Refers (referent s name) meaning
refers s name meaning e = at_refers s.meanings (nearest s.names name) meaning e

-- the specification of an element, and of a function
abbrev pub NamesElement : Referent → Type 0
NamesElement r = IsKnownElement r.meaning

abbrev pub NamesFunction : Referent → Type 0
NamesFunction r = IsKnownFunction r.meaning

-- what a name stands for has its specification
pub element_named : (s : Scope) (name : List ℕ) (whole : Whole) → visible s name ≡ Some (m.Element whole) → IsKnownType whole.of → Has NamesElement (referent s name)
element_named s name whole e h =
    let x = refers s name (m.Element whole) e in subst (Has NamesElement) (sym x.is) (subst IsKnownElement (sym x.means) h)

pub function_named : (s : Scope) (name : List ℕ) (fs : List Formal) (results : List OccType) → visible s name ≡ Some (m.Function fs results) → AreKnownFormals fs → AreKnownTypes results → Has NamesFunction (referent s name)
function_named s name fs results e h g =
    let x = refers s name (m.Function fs results) e in subst (Has NamesFunction) (sym x.is) (subst IsKnownFunction (sym x.means) (h, g))

-- ---- what more comes into scope

more_known : (ms : List Meaning) (x : Meaning) → AreKnownMeanings ms → IsKnownMeaning x → AreKnownMeanings (ms ++ x ∷ [])
more_known [] x h g = (g, tt)
more_known (y ∷ ms) x h g = (h.0, more_known ms x h.1 g)

pub with_all_known : (s : Scope) (xs : List ScopeEntry) → IsKnownScope s → AreKnownEntries xs → IsKnownScope (with_all s xs)
with_all_known s [] h g = h
with_all_known s (x ∷ xs) h g = with_all_known (entered s x.name x.meaning) xs (more_known s.meanings x.meaning h g.0) g.1

-- ---- what stands for what a place needs

pub record IsElement (meaning : Option Meaning) (x : Found Whole) : Type 0 where
  pub whole : Whole
  pub is : meaning ≡ Some (m.Element whole)
  pub found : x.found ≡ Some whole
  pub known : IsKnownType whole.of

pub element_found : (name : List ℕ) (meaning : Option Meaning) → PerhapsKnown meaning → (element name meaning).faults ≡ [] → IsElement meaning (element name meaning)
element_found name None h e = absurd cc
element_found name (Some m.Faulty) h e = absurd h
element_found name (Some (m.Type None)) h e = absurd h
element_found name (Some (m.Type (Some of))) h e = absurd cc
element_found name (Some (m.Protocol c)) h e = absurd cc
element_found name (Some (m.Procedure formals)) h e = absurd cc
element_found name (Some (m.Function formals results)) h e = absurd cc
element_found name (Some (m.Element whole)) h e = record { whole = whole; is = refl; found = refl; known = h }

-- a type is there, and nothing in it is unknown
abbrev pub IsTyped : Option OccType → Type 0
IsTyped None = ⊥
IsTyped (Some of) = IsKnownType of

pub type_found : (name : List ℕ) (meaning : Option Meaning) → PerhapsKnown meaning → (data_type name meaning).faults ≡ [] → IsTyped (data_type name meaning).found
type_found name None h e = absurd cc
type_found name (Some m.Faulty) h e = absurd h
type_found name (Some (m.Type None)) h e = absurd h
type_found name (Some (m.Type (Some of))) h e = h
type_found name (Some (m.Protocol c)) h e = absurd cc
type_found name (Some (m.Procedure formals)) h e = absurd cc
type_found name (Some (m.Function formals results)) h e = absurd cc
type_found name (Some (m.Element whole)) h e = absurd cc

abbrev pub IsCarried : Option Carried → Type 0
IsCarried None = ⊥
IsCarried (Some (carried.Values of)) = IsKnownType of
IsCarried (Some (carried.Protocol c)) = protocol_unknown c ≡ false

pub carried_found : (name : List ℕ) (meaning : Option Meaning) → PerhapsKnown meaning → (carries name meaning).faults ≡ [] → IsCarried (carries name meaning).found
carried_found name None h e = absurd cc
carried_found name (Some m.Faulty) h e = absurd h
carried_found name (Some (m.Type None)) h e = absurd h
carried_found name (Some (m.Type (Some of))) h e = h
carried_found name (Some (m.Protocol c)) h e = h
carried_found name (Some (m.Procedure formals)) h e = absurd cc
carried_found name (Some (m.Function formals results)) h e = absurd cc
carried_found name (Some (m.Element whole)) h e = absurd cc
