-- The PROCs and FUNCTIONs of a unit, as those run them who call them from outside.
use Rattle.std.specs.Prelude.{◌≡◌, ◌≢◌, ◌⊎◌, ℕ, ℤ, Option, Some, List, [], ◌∷◌, ◌++◌, slice_get}
use Rattle.occ_scope.specs.declared.meaning.ScopeEntry.{ScopeEntry}
use Rattle.occ_typing.specs.declared.tree.TypedLine.{TypedLine, out-TypedLine}
use Rattle.occ_typing_lines.specs.declared.tree.TypedForm.TheVariants as form
use Rattle.occ_running.specs.Executions.{Execution, Store}
use Rattle.occ_running.specs.Memory.{Cell, InCall, Reaches, Spot, Step, Thread}
use Rattle.occ_running.specs.Running.{Does, Gave, Outcome}
use Rattle.occ_running.specs.Runs.{Event, RaceFree, Run}
use Rattle.occ_running.specs.Scopes.{Element, Scope, Stored, Thing, formals_of}
use Rattle.occ_running.specs.Works.{InTurn, Pieces, Specify, Work, items_of}

-- The line stands at the outermost level of a unit, where the lines before it have brought this scope.
pub data Opens : List TypedLine → Scope → Scope → TypedLine → Type 0 where
  first : (l : TypedLine) (ls : List TypedLine) (d : Scope) → Opens (l ∷ ls) d d l
  later : (l : TypedLine) (ls : List TypedLine) (names : List ScopeEntry) (d e : Scope) (m : TypedLine) (r : Run) (xs : List Thing)
      → (out-TypedLine l).adds ≡ Some names → Does d [] (Specify l) r (Gave xs) → Opens ls (d ++ xs) e m → Opens (l ∷ ls) d e m

-- The head of a PROC or a FUNCTION, with the body under it. A FUNCTION of one line is none, nor is a VAL line.
abbrev pub IsHead : TypedLine → Type 0
IsHead l = ((out-TypedLine l).form ≡ form.ProcedureHead) ⊎ ((out-TypedLine l).form ≡ form.FunctionHead)

-- no variable and no channel stands there, as at the outermost level of a unit
abbrev pub HasNoVariable : Scope → Type 0
HasNoVariable d = (n : ℕ) (t : Thread) → slice_get d n ≡ Some (Stored t) → ⊥

-- what is passed are cells from round the unit, and no two of the elements share one
pub record ArePassedApart (xs : List Thing) : Type 0 where
  pub outside : (i : ℕ) (at : Spot) (n : Option ℤ) (steps : List Step) (c : Cell) → slice_get xs i ≡ Some (Element at n) → Reaches at steps c → c.thread ≡ []
  pub apart : (i j : ℕ) (p q : Spot) (m n : Option ℤ) (ts us : List Step) (c : Cell) → i ≢ j → slice_get xs i ≡ Some (Element p m) → slice_get xs j ≡ Some (Element q n) → Reaches p ts c → Reaches q us c → ⊥

-- the body of a head, as what there is to run
abbrev pub body_work : TypedLine → Work
body_work l = Pieces InTurn 0 (items_of (out-TypedLine l).under)

-- It is called from outside with these, and has no race, however it runs and however far. So no execution has one, which follows.
pub record NeverRaces (d : Scope) (l : TypedLine) (xs : List Thing) : Type 0 where
  pub runs : (r : Run) (o : Outcome) → Does (d ++ formals_of xs) (InCall ∷ []) (body_work l) r o → RaceFree r
  pub executions : (before : Store) (events : List Event) (x : Execution (d ++ formals_of xs) (InCall ∷ []) (body_work l) before events) → RaceFree x.run
