-- What names stand for when a process runs.
use Rattle.std.specs.Prelude.{◌≡◌, ◌⊎◌, ℕ, ℤ, true, Option, Some, None, List, [], ◌∷◌}
use Rattle.occ_scope.specs.declared.meaning.Access.{Access}
use Rattle.occ_scope.specs.declared.meaning.Access.TheVariants as access
use Rattle.occ_scope.specs.declared.meaning.Meaning.{Meaning}
use Rattle.occ_scope.specs.declared.meaning.Meaning.TheVariants as meaning
use Rattle.occ_scope.specs.declared.meaning.ScopeEntry.{ScopeEntry}
use Rattle.occ_types.specs.declared.interface.FormalUse.{FormalUse}
use Rattle.occ_types.specs.View.{as_array, is_timer}
use Rattle.occ_types.specs.declared.types.OccType.{OccType}
use Rattle.occ_types.specs.declared.value.Value.{Value}
use Rattle.occ_typing.specs.declared.tree.TypedLine.{TypedLine}
use Rattle.occ_typing_rules.specs.declared.expr.TypedExpr.{TypedExpr}
use Rattle.occ_running.specs.Memory.{Spot, Thread}

-- What a name stands for, or what comes of an expression or an element.
pub data Thing : Type 0 where
  -- a variable or a channel that is declared in these components and calls
  Stored : Thread → Thing
  -- a formal that is not VAL, of this element
  Formal : Spot → Thing
  -- an element that was found, and the number of its components where a segment tells it
  Element : Spot → Option ℤ → Thing
  -- a timer, or an array of timers of which a segment tells the number
  Clock : Option ℤ → Thing
  -- a value, if it is one of a primitive type, and the number of its components where a segment tells it
  Held : Option Value → Option ℤ → Thing
  -- the line of a PROC or a FUNCTION, with its body under it
  Body : TypedLine → Thing
  -- a FUNCTION of one line: its formals and its results
  Formula : List ScopeEntry → List TypedExpr → Thing
  -- what another unit exports, with the uses of its formals that its interface tells
  Shown : List FormalUse → Thing
  -- a type or a protocol
  Other : Thing

-- all that stands in scope, the outermost first
abbrev pub Scope : Type 0
Scope = List Thing

-- a timer, or an array of timers
pub data IsClock : OccType → Type 0 where
  timer : (of : OccType) → is_timer of ≡ true → IsClock of
  timers : (of : OccType) (parts : Option ℕ × OccType) → as_array of ≡ Some parts → IsClock parts.1 → IsClock of

-- ---- declarations

abbrev pub IsDeclaredBy : Thread → Access → OccType → Thing → Type 0
IsDeclaredBy thread access.Variable of x = (IsClock of × (x ≡ Clock None)) ⊎ ((IsClock of → ⊥) × (x ≡ Stored thread))
IsDeclaredBy thread access.Formal of x = x ≡ Other
IsDeclaredBy thread access.Value of x = x ≡ Other

abbrev pub IsDeclared : Thread → Meaning → Thing → Type 0
IsDeclared thread (meaning.Element w) x = IsDeclaredBy thread w.access w.of x
IsDeclared thread (meaning.Procedure formals) x = x ≡ Other
IsDeclared thread (meaning.Function formals results) x = x ≡ Other
IsDeclared thread meaning.Faulty x = x ≡ Other
IsDeclared thread (meaning.Type of) x = x ≡ Other
IsDeclared thread (meaning.Protocol protocol) x = x ≡ Other

-- what these names stand for once they are declared in these components and calls
abbrev pub AreDeclared : Thread → List ScopeEntry → List Thing → Type 0
AreDeclared thread [] [] = Unit {0}
AreDeclared thread [] (x ∷ xs) = ⊥
AreDeclared thread (e ∷ es) [] = ⊥
AreDeclared thread (e ∷ es) (x ∷ xs) = IsDeclared thread e.meaning x × AreDeclared thread es xs

-- ---- formals

-- what a formal stands for, by what came of its actual
abbrev pub formal_of : Thing → Thing
formal_of (Element el n) = Formal el
formal_of (Stored thread) = Stored thread
formal_of (Formal el) = Formal el
formal_of (Clock n) = Clock None
formal_of (Held v n) = Held v n
formal_of (Body l) = Body l
formal_of (Formula formals results) = Formula formals results
formal_of (Shown us) = Shown us
formal_of Other = Other

abbrev pub formals_of : List Thing → List Thing
formals_of [] = []
formals_of (x ∷ xs) = formal_of x ∷ formals_of xs

-- a VAL formal takes a value, another one an element or a timer
abbrev pub SuitsBy : Access → OccType → Thing → Type 0
SuitsBy access.Variable of (Element el n) = IsClock of → ⊥
SuitsBy access.Variable of (Clock n) = Unit {0}
SuitsBy access.Formal of (Held v n) = Unit {0}
SuitsBy access.Value of (Held v n) = Unit {0}
SuitsBy _ of _ = ⊥

abbrev pub SuitsOne : Meaning → Thing → Type 0
SuitsOne (meaning.Element w) x = SuitsBy w.access w.of x
SuitsOne (meaning.Procedure formals) x = ⊥
SuitsOne (meaning.Function formals results) x = ⊥
SuitsOne meaning.Faulty x = ⊥
SuitsOne (meaning.Type of) x = ⊥
SuitsOne (meaning.Protocol protocol) x = ⊥

-- what is passed is what the formals take
abbrev pub Suits : List ScopeEntry → List Thing → Type 0
Suits [] [] = Unit {0}
Suits [] (x ∷ xs) = ⊥
Suits (f ∷ fs) [] = ⊥
Suits (f ∷ fs) (x ∷ xs) = SuitsOne f.meaning x × Suits fs xs
