-- What a process may do when it runs: which cells it touches, what comes before what, and what runs beside what. What is read,
-- written, sent or received has any value. Each beginning of what runs is a run, too.
use Rattle.std.specs.Prelude.{◌≡◌, ◌⊎◌, ℕ, suc, ℤ, pos, Bool, true, false, Option, Some, None, List, [], ◌∷◌, ◌++◌, slice_get, take}
use Rattle.occ_scope.specs.declared.meaning.Referent.{Referent}
use Rattle.occ_scope.specs.declared.meaning.ScopeEntry.{ScopeEntry}
use Rattle.occ_types.specs.declared.constant.Operator.{Operator}
use Rattle.occ_types.specs.declared.interface.Export.{Export}
use Rattle.occ_types.specs.declared.interface.FormalUse.{FormalUse}
use Rattle.occ_types.specs.declared.interface.Interface.{Interface}
use Rattle.occ_types.specs.declared.interface.UseKind.{UseKind}
use Rattle.occ_types.specs.declared.interface.UseKind.TheVariants as kind
use Rattle.occ_types.specs.declared.value.Value.{Value}
use Rattle.occ_types.specs.declared.value.Value.TheVariants as v
use Rattle.occ_typing.specs.declared.tree.TypedLine.{TypedLine, out-TypedLine}
use Rattle.occ_typing_lines.specs.declared.tree.BlockKind.TheVariants as block
use Rattle.occ_typing_lines.specs.declared.tree.TypedGuard.{TypedGuard}
use Rattle.occ_typing_lines.specs.declared.tree.TypedForm.{TypedForm}
use Rattle.occ_typing_lines.specs.declared.tree.TypedForm.TheVariants as form
use Rattle.occ_typing_operands.specs.declared.kind.Known.{Known}
use Rattle.occ_typing_rules.specs.declared.expr.Selector.{Selector, out-Selector}
use Rattle.occ_typing_rules.specs.declared.expr.Selector.TheOpen.{TypedExpr-F}
use Rattle.occ_typing_rules.specs.declared.expr.TypedActual.{TypedActual}
use Rattle.occ_typing_rules.specs.declared.expr.TypedElement.{TypedElement, out-TypedElement}
use Rattle.occ_typing_rules.specs.declared.expr.TypedExpr.{TypedExpr, out-TypedExpr}
use Rattle.occ_typing_statements.specs.declared.replicator_tree.TypedReplicator.{TypedReplicator}
use Rattle.occ_running.specs.Exports.{IsShown}
use Rattle.occ_running.specs.Memory.{Cell, Has, InCall, InComponent, IsOneOf, Recast, Spot, Step, Thread, Variable}
use Rattle.occ_running.specs.Runs.{Beside, Event, Occurs, Quiet, RaceFree, Run, Then, Touch}
use Rattle.occ_running.specs.Scopes.{AreDeclared, Body, Clock, Element, Formal, Formula, Held, Other, Scope, Shown, Stored, Suits, Thing, formals_of}
use Rattle.occ_running.specs.Works.{Both, Call, Choice, Decides, EntersIndex, Evaluate, ExprForm, Find, Idle, InTurn, IsDeciding, IsNoted, IsValue, Item, Main, Nothing, Piece, Pieces, Reach, Select, Selects, Specify, Taken, Tells, Together, Under, Waiting, Way, Work, bounds, count_in, count_value, evaluate, find, items_of, operands, or_else, pass, plan, replicator_of, rounds, rounds_in}

-- ---- touches

-- cells of these elements are touched, whichever, in whatever order
pub data Touches (k : UseKind) (xs : List Thing) : Run → Type 0 where
  none : Touches k xs Quiet
  one_more : (el : Spot) (n : Option ℤ) (c : Cell) (x : Option Value) (r : Run) → IsOneOf xs (Element el n) → Has el c → Touches k xs r
      → Touches k xs (Then (Touch (record { kind = k; cell = c; value = x })) r)

-- ---- names

-- what is found of what stands in scope with this number
abbrev pub found_of : ℕ → Thing → Option Thing
found_of n (Stored thread) = Some (Element (Variable n thread) None)
found_of n (Formal el) = Some (Element el None)
found_of n (Element el m) = Some (Element el m)
found_of n (Clock m) = Some (Clock m)
found_of n (Held x m) = Some (Held x m)
found_of n (Body l) = None
found_of n (Formula formals results) = None
found_of n (Shown us) = None
found_of n Other = None

-- ---- lines of specification

-- what is evaluated or found at the line
abbrev pub specifying : TypedForm → Work
specifying (form.Abbreviation el) = Find el
specifying (form.Retyped el) = Find el
specifying (form.Value e) = Evaluate (out-TypedExpr e)
specifying (form.RetypedValue e) = Evaluate (out-TypedExpr e)
specifying _ = Nothing

-- what the names of other units stand for
abbrev pub exported : List Export → List Thing
exported [] = []
exported (x ∷ xs) = Shown x.uses ∷ exported xs

abbrev pub exports_of : List Interface → List Thing
exports_of [] = []
exports_of (i ∷ is) = exported i.exports ++ exports_of is

-- The names that come into scope after the line stand for these, where those came of what it evaluates. RETYPES and RESHAPES of an
-- element lay any parts over its cells; with VAL their value is any.
abbrev pub Brings : Thread → TypedLine → List ScopeEntry → TypedForm → List Thing → List Thing → Type 0
Brings thread l names (form.Abbreviation el) xs ys = ys ≡ xs
Brings thread l names (form.Retyped el) xs ys =
    (at : Spot) × (n : Option ℤ) × (layout : List Step → List Step) × (apart : (one other : List Step) → layout one ≡ layout other → one ≡ other)
    × (xs ≡ Element at n ∷ []) × (ys ≡ Element (Recast at layout apart) None ∷ [])
Brings thread l names (form.Value e) xs ys = ys ≡ xs
Brings thread l names (form.RetypedValue e) xs ys = (x : Option Value) × (ys ≡ Held x None ∷ [])
Brings thread l names (form.OneLineFunction formals results) xs ys = ys ≡ Formula formals results ∷ []
Brings thread l names (form.Uses interfaces) xs ys = ys ≡ exports_of interfaces
Brings thread l names form.ProcedureHead xs ys = ys ≡ Body l ∷ []
Brings thread l names form.FunctionHead xs ys = ys ≡ Body l ∷ []
Brings thread l names _ xs ys = AreDeclared thread names ys

-- ---- outcomes

-- what comes of it: it stopped, it was done and gave these, or none of its choices held
pub data Outcome : Type 0 where
  Stopped : Outcome
  Gave : List Thing → Outcome
  Passed : Outcome

-- a process of which no choice holds stops
abbrev pub of_process : Outcome → Outcome
of_process Stopped = Stopped
of_process (Gave xs) = Gave []
of_process Passed = Stopped

abbrev pub ended : Way → Outcome → Outcome
ended InTurn o = of_process o
ended Together o = of_process o
ended Choice o = o
ended Waiting o = o
ended Taken o = o
ended Idle o = o

abbrev pub both_ended : Outcome → Outcome → Outcome
both_ended (Gave xs) (Gave ys) = Gave []
both_ended _ _ = Stopped

-- where no lines are left
abbrev pub at_end : Way → Outcome
at_end InTurn = Gave []
at_end Together = Gave []
at_end Choice = Passed
at_end Waiting = Gave []
at_end Taken = Passed
at_end Idle = Gave []

abbrev pub runs_processes : Way → Bool
runs_processes InTurn = true
runs_processes Together = true
runs_processes Choice = false
runs_processes Waiting = false
runs_processes Taken = false
runs_processes Idle = false

-- after one of the lines those behind it are run
abbrev pub GoesOn : Way → Outcome → Type 0
GoesOn InTurn (Gave xs) = Unit {0}
GoesOn Waiting (Gave xs) = Unit {0}
GoesOn Choice Passed = Unit {0}
GoesOn Taken Passed = Unit {0}
GoesOn _ _ = ⊥

-- after it none is
abbrev pub EndsThere : Way → Outcome → Type 0
EndsThere Together o = ⊥
EndsThere Choice (Gave xs) = Unit {0}
EndsThere Taken (Gave xs) = Unit {0}
EndsThere _ Stopped = Unit {0}
EndsThere _ _ = ⊥

-- ---- what is run

-- In this scope, in these components and calls, the work does this run, with this outcome. It may stop anywhere, and where no rule
-- leads on it must.
pub data Does : Scope → Thread → Work → Run → Outcome → Type 0 where
  stops_before : (d : Scope) (t : Thread) (w : Work) → Does d t w Quiet Stopped
  stops_after : (d : Scope) (t : Thread) (w : Work) (r : Run) (o : Outcome) → Does d t w r o → Does d t w r Stopped
  -- one after the other
  nothing : (d : Scope) (t : Thread) → Does d t Nothing Quiet (Gave [])
  both : (d : Scope) (t : Thread) (w u : Work) (r s : Run) (xs ys : List Thing) → Does d t w r (Gave xs) → Does d t u s (Gave ys) → Does d t (Both w u) (Then r s) (Gave (xs ++ ys))
  first_stops : (d : Scope) (t : Thread) (w u : Work) (r : Run) → Does d t w r Stopped → Does d t (Both w u) r Stopped
  second_stops : (d : Scope) (t : Thread) (w u : Work) (r s : Run) (xs : List Thing) → Does d t w r (Gave xs) → Does d t u s Stopped → Does d t (Both w u) (Then r s) Stopped
  -- expressions
  operation : (d : Scope) (t : Thread) (f : ExprForm) (es : List TypedExpr) (r : Run) (xs : List Thing) (x : Option Value)
      → operands f ≡ Some es → Does d t (evaluate es) r (Gave xs) → IsValue f xs x → Does d t (Evaluate f) r (Gave (Held x None ∷ []))
  operand_stops : (d : Scope) (t : Thread) (f : ExprForm) (es : List TypedExpr) (r : Run)
      → operands f ≡ Some es → Does d t (evaluate es) r Stopped → Does d t (Evaluate f) r Stopped
  -- AND and OR may leave out the operands behind one that decides
  decided : (d : Scope) (t : Thread) (x : Known) (op : Operator) (b : Bool) (es fs : List TypedExpr) (r : Run) (xs : List Thing)
      → IsDeciding op b → Does d t (evaluate es) r (Gave xs) → Decides b xs → Tells x.value (Some (v.Bool b))
      → Does d t (Evaluate (TypedExpr-F.Operation x op (es ++ fs))) r (Gave (Held (Some (v.Bool b)) None ∷ []))
  -- an element is read: cells of it, and last the one whose value it has
  read : (d : Scope) (t : Thread) (el : TypedElement) (r s : Run) (at : Spot) (n : Option ℤ) (c : Cell) (x : Option Value)
      → Does d t (Find el) r (Gave (Element at n ∷ [])) → Touches kind.Read (Element at n ∷ []) s → Has at c → Tells (out-TypedElement el).known.value x
      → Does d t (Evaluate (TypedExpr-F.Element el)) (Then r (Then s (Touch (record { kind = kind.Read; cell = c; value = x })))) (Gave (Held x n ∷ []))
  -- one without cells, as an empty segment, is read without touching any
  read_nothing : (d : Scope) (t : Thread) (el : TypedElement) (r : Run) (at : Spot) (n : Option ℤ) (x : Option Value)
      → Does d t (Find el) r (Gave (Element at n ∷ [])) → ((c : Cell) → Has at c → ⊥) → Tells (out-TypedElement el).known.value x
      → Does d t (Evaluate (TypedExpr-F.Element el)) r (Gave (Held x n ∷ []))
  held : (d : Scope) (t : Thread) (el : TypedElement) (r : Run) (x : Option Value) (n : Option ℤ)
      → Does d t (Find el) r (Gave (Held x n ∷ [])) → Tells (out-TypedElement el).known.value x → Does d t (Evaluate (TypedExpr-F.Element el)) r (Gave (Held x n ∷ []))
  element_stops : (d : Scope) (t : Thread) (el : TypedElement) (r : Run) → Does d t (Find el) r Stopped → Does d t (Evaluate (TypedExpr-F.Element el)) r Stopped
  -- SIZE touches nothing: where typing has not noted it, it asks of its operand how many components it has
  size_of_element : (d : Scope) (t : Thread) (x : Known) (e : TypedExpr) (el : TypedElement) (r : Run) (y : Thing) (n : Option Value)
      → out-TypedExpr e ≡ TypedExpr-F.Element el → Does d t (Find el) r (Gave (y ∷ [])) → Tells (or_else x.value (count_value (count_in y))) n
      → Does d t (Evaluate (TypedExpr-F.Size x e)) Quiet (Gave (Held n None ∷ []))
  size_noted : (d : Scope) (t : Thread) (x : Known) (e : TypedExpr) (n : Value) → x.value ≡ Some n → Does d t (Evaluate (TypedExpr-F.Size x e)) Quiet (Gave (Held (Some n) None ∷ []))
  size : (d : Scope) (t : Thread) (x : Known) (e : TypedExpr) (n : Option Value)
      → ((el : TypedElement) → out-TypedExpr e ≡ TypedExpr-F.Element el → ⊥) → Tells x.value n → Does d t (Evaluate (TypedExpr-F.Size x e)) Quiet (Gave (Held n None ∷ []))
  result : (d : Scope) (t : Thread) (x : Known) (callee : Referent) (xs : List TypedActual) (r : Run) (n : Option Value)
      → Does d t (Call callee.spec xs) r (Gave []) → Does d t (Evaluate (TypedExpr-F.Call x callee xs)) r (Gave (Held n None ∷ []))
  call_stops : (d : Scope) (t : Thread) (x : Known) (callee : Referent) (xs : List TypedActual) (r : Run)
      → Does d t (Call callee.spec xs) r Stopped → Does d t (Evaluate (TypedExpr-F.Call x callee xs)) r Stopped
  -- elements
  named : (d : Scope) (t : Thread) (el : TypedElement) (x y : Thing) (r : Run) (o : Outcome)
      → slice_get d (out-TypedElement el).referent.spec ≡ Some x → found_of (out-TypedElement el).referent.spec x ≡ Some y
      → Does d t (Select (out-TypedElement el).selectors y) r o → Does d t (Find el) r o
  all_selected : (d : Scope) (t : Thread) (x : Thing) → Does d t (Select [] x) Quiet (Gave (x ∷ []))
  selects : (d : Scope) (t : Thread) (s : Selector) (ss : List Selector) (x y : Thing) (r q : Run) (xs : List Thing) (o : Outcome)
      → Does d t (evaluate (bounds (out-Selector s))) r (Gave xs) → Selects (out-Selector s) xs x y
      → Does d t (Select ss y) q o → Does d t (Select (s ∷ ss) x) (Then r q) o
  bound_stops : (d : Scope) (t : Thread) (s : Selector) (ss : List Selector) (x : Thing) (r : Run)
      → Does d t (evaluate (bounds (out-Selector s))) r Stopped → Does d t (Select (s ∷ ss) x) r Stopped
  reaches : (d : Scope) (t : Thread) (k : UseKind) (els : List TypedElement) (r s : Run) (xs : List Thing)
      → Does d t (find els) r (Gave xs) → Touches k xs s → Does d t (Reach k els) (Then r s) (Gave [])
  finding_stops : (d : Scope) (t : Thread) (k : UseKind) (els : List TypedElement) (r : Run) → Does d t (find els) r Stopped → Does d t (Reach k els) r Stopped
  -- a body runs in the scope of its specification, with its formals
  calls : (d : Scope) (t : Thread) (n : ℕ) (actuals : List TypedActual) (l : TypedLine) (r s : Run) (xs : List Thing) (o : Outcome)
      → slice_get d n ≡ Some (Body l) → Does d t (pass actuals) r (Gave xs) → Suits (out-TypedLine l).enters xs
      → Does (take n d ++ formals_of xs) (t ++ InCall ∷ []) (Pieces InTurn 0 (items_of (out-TypedLine l).under)) s o
      → Does d t (Call n actuals) (Then r s) (of_process o)
  calls_formula : (d : Scope) (t : Thread) (n : ℕ) (actuals : List TypedActual) (formals : List ScopeEntry) (results : List TypedExpr) (r s : Run) (xs : List Thing) (o : Outcome)
      → slice_get d n ≡ Some (Formula formals results) → Does d t (pass actuals) r (Gave xs) → Suits formals xs
      → Does (take n d ++ formals_of xs) (t ++ InCall ∷ []) (evaluate results) s o → Does d t (Call n actuals) (Then r s) (of_process o)
  -- what another unit exports does any run without a race, of which each event is one that its interface tells
  calls_export : (d : Scope) (t : Thread) (n : ℕ) (actuals : List TypedActual) (us : List FormalUse) (r s : Run) (xs : List Thing)
      → slice_get d n ≡ Some (Shown us) → Does d t (pass actuals) r (Gave xs) → RaceFree s → ((e : Event) → Occurs e s → IsShown us xs t e)
      → Does d t (Call n actuals) (Then r s) (Gave [])
  actual_stops : (d : Scope) (t : Thread) (n : ℕ) (actuals : List TypedActual) (r : Run) → Does d t (pass actuals) r Stopped → Does d t (Call n actuals) r Stopped
  -- specifications
  specifies : (d : Scope) (t : Thread) (l : TypedLine) (names : List ScopeEntry) (r : Run) (xs ys : List Thing)
      → (out-TypedLine l).adds ≡ Some names → Does d t (specifying (out-TypedLine l).form) r (Gave xs) → Brings t l names (out-TypedLine l).form xs ys
      → Does d t (Specify l) r (Gave ys)
  specifying_stops : (d : Scope) (t : Thread) (l : TypedLine) (r : Run) → Does d t (specifying (out-TypedLine l).form) r Stopped → Does d t (Specify l) r Stopped
  -- main lines
  main : (d : Scope) (t : Thread) (way next : Way) (l : TypedLine) (w : Work) (r s : Run) (xs : List Thing) (o : Outcome)
      → plan way (out-TypedLine l).form ≡ Some (w, next) → Does d t w r (Gave xs) → Does d t (Under next l) s o → Does d t (Main way l) (Then r s) (ended way o)
  main_stops : (d : Scope) (t : Thread) (way next : Way) (l : TypedLine) (w : Work) (r : Run)
      → plan way (out-TypedLine l).form ≡ Some (w, next) → Does d t w r Stopped → Does d t (Main way l) r Stopped
  leaves : (d : Scope) (t : Thread) (way : Way) (l : TypedLine) (e : TypedExpr) (r : Run) (n : Option ℤ)
      → (out-TypedLine l).form ≡ form.While e → runs_processes way ≡ true → Does d t (Evaluate (out-TypedExpr e)) r (Gave (Held (Some (v.Bool false)) n ∷ []))
      → Does d t (Main way l) r (Gave [])
  loops : (d : Scope) (t : Thread) (way : Way) (l : TypedLine) (e : TypedExpr) (r s q : Run) (n : Option ℤ) (xs : List Thing) (o : Outcome)
      → (out-TypedLine l).form ≡ form.While e → runs_processes way ≡ true → Does d t (Evaluate (out-TypedExpr e)) r (Gave (Held (Some (v.Bool true)) n ∷ []))
      → Does d t (Under InTurn l) s (Gave xs) → Does d t (Main way l) q o → Does d t (Main way l) (Then r (Then s q)) o
  loop_stops : (d : Scope) (t : Thread) (way : Way) (l : TypedLine) (e : TypedExpr) (r s : Run) (n : Option ℤ)
      → (out-TypedLine l).form ≡ form.While e → runs_processes way ≡ true → Does d t (Evaluate (out-TypedExpr e)) r (Gave (Held (Some (v.Bool true)) n ∷ []))
      → Does d t (Under InTurn l) s Stopped → Does d t (Main way l) (Then r s) Stopped
  condition_stops : (d : Scope) (t : Thread) (way : Way) (l : TypedLine) (e : TypedExpr) (r : Run)
      → ((out-TypedLine l).form ≡ form.While e) ⊎ ((out-TypedLine l).form ≡ form.Condition e) → Does d t (Evaluate (out-TypedExpr e)) r Stopped → Does d t (Main way l) r Stopped
  chosen : (d : Scope) (t : Thread) (l : TypedLine) (e : TypedExpr) (r s : Run) (n : Option ℤ) (o : Outcome)
      → (out-TypedLine l).form ≡ form.Condition e → Does d t (Evaluate (out-TypedExpr e)) r (Gave (Held (Some (v.Bool true)) n ∷ []))
      → Does d t (Under InTurn l) s o → Does d t (Main Choice l) (Then r s) (of_process o)
  passed_over : (d : Scope) (t : Thread) (l : TypedLine) (e : TypedExpr) (r : Run) (n : Option ℤ)
      → (out-TypedLine l).form ≡ form.Condition e → Does d t (Evaluate (out-TypedExpr e)) r (Gave (Held (Some (v.Bool false)) n ∷ [])) → Does d t (Main Choice l) r Passed
  -- an option or an alternative that is not taken, though what is specified before it was found
  left_out : (d : Scope) (t : Thread) (l : TypedLine) → Does d t (Main Taken l) Quiet Passed
  -- an alternative whose condition is FALSE is not waited for
  shut : (d : Scope) (t : Thread) (l : TypedLine) (e : TypedExpr) (g : TypedGuard) (r : Run) (n : Option ℤ)
      → (out-TypedLine l).form ≡ form.Guard e g → Does d t (Evaluate (out-TypedExpr e)) r (Gave (Held (Some (v.Bool false)) n ∷ [])) → Does d t (Main Waiting l) r (Gave [])
  -- an ALT waits for all of its alternatives, and then takes one
  alternation : (d : Scope) (t : Thread) (way : Way) (l : TypedLine) (by : Option TypedReplicator) (r s : Run) (xs : List Thing) (o : Outcome)
      → (out-TypedLine l).form ≡ form.Block block.Alternation by → runs_processes way ≡ true → Does d t (Under Waiting l) r (Gave xs) → Does d t (Under Taken l) s o
      → Does d t (Main way l) (Then r s) (of_process o)
  waiting_stops : (d : Scope) (t : Thread) (way : Way) (l : TypedLine) (by : Option TypedReplicator) (r : Run)
      → (out-TypedLine l).form ≡ form.Block block.Alternation by → runs_processes way ≡ true → Does d t (Under Waiting l) r Stopped → Does d t (Main way l) r Stopped
  -- the lines under a line, or the rounds of its replicator
  idle : (d : Scope) (t : Thread) (l : TypedLine) → Does d t (Under Idle l) Quiet (Gave [])
  lines_under : (d : Scope) (t : Thread) (way : Way) (l : TypedLine) (r : Run) (o : Outcome)
      → replicator_of (out-TypedLine l).form ≡ None → (out-TypedLine l).enters ≡ [] → Does d t (Pieces way 0 (items_of (out-TypedLine l).under)) r o → Does d t (Under way l) r o
  replicates : (d : Scope) (t : Thread) (way : Way) (l : TypedLine) (by : TypedReplicator) (r s : Run) (base count : ℤ) (i j : Option ℤ) (o : Outcome)
      → replicator_of (out-TypedLine l).form ≡ Some by → EntersIndex (out-TypedLine l).enters
      → Does d t (evaluate (by.base ∷ by.count ∷ [])) r (Gave (Held (Some (v.Int base)) i ∷ Held (Some (v.Int count)) j ∷ [])) → IsNoted way by.known base (rounds_in count)
      → Does d t (Pieces way 0 (rounds (rounds_in count) 0 base (out-TypedLine l).under)) s o → Does d t (Under way l) (Then r s) o
  replicator_stops : (d : Scope) (t : Thread) (way : Way) (l : TypedLine) (by : TypedReplicator) (r : Run)
      → replicator_of (out-TypedLine l).form ≡ Some by → Does d t (evaluate (by.base ∷ by.count ∷ [])) r Stopped → Does d t (Under way l) r Stopped
  -- an item: specifications, and a main line in their scope
  no_line : (d : Scope) (t : Thread) (way : Way) → Does d t (Item way []) Quiet (at_end way)
  with_specification : (d : Scope) (t : Thread) (way : Way) (l : TypedLine) (ls : List TypedLine) (names : List ScopeEntry) (r s : Run) (xs : List Thing) (o : Outcome)
      → (out-TypedLine l).adds ≡ Some names → Does d t (Specify l) r (Gave xs) → Does (d ++ xs) t (Item way ls) s o → Does d t (Item way (l ∷ ls)) (Then r s) o
  specification_stops : (d : Scope) (t : Thread) (way : Way) (l : TypedLine) (ls : List TypedLine) (names : List ScopeEntry) (r : Run)
      → (out-TypedLine l).adds ≡ Some names → Does d t (Specify l) r Stopped → Does d t (Item way (l ∷ ls)) r Stopped
  main_line : (d : Scope) (t : Thread) (way : Way) (l : TypedLine) (ls : List TypedLine) (r : Run) (o : Outcome)
      → (out-TypedLine l).adds ≡ None → Does d t (Main way l) r o → Does d t (Item way (l ∷ ls)) r o
  -- items and rounds
  none_left : (d : Scope) (t : Thread) (way : Way) (k : ℕ) → Does d t (Pieces way k []) Quiet (at_end way)
  goes_on : (d : Scope) (t : Thread) (way : Way) (k : ℕ) (p : Piece) (ps : List Piece) (r s : Run) (o q : Outcome)
      → Does (d ++ p.index) t (Item way p.lines) r o → GoesOn way o → Does d t (Pieces way (suc k) ps) s q → Does d t (Pieces way k (p ∷ ps)) (Then r s) q
  ends_there : (d : Scope) (t : Thread) (way : Way) (k : ℕ) (p : Piece) (ps : List Piece) (r : Run) (o : Outcome)
      → Does (d ++ p.index) t (Item way p.lines) r o → EndsThere way o → Does d t (Pieces way k (p ∷ ps)) r o
  not_taken : (d : Scope) (t : Thread) (k : ℕ) (p : Piece) (ps : List Piece) (r : Run) (o : Outcome)
      → Does d t (Pieces Taken (suc k) ps) r o → Does d t (Pieces Taken k (p ∷ ps)) r o
  -- components of a PAR: each runs in a component of its own
  beside : (d : Scope) (t : Thread) (k : ℕ) (p : Piece) (ps : List Piece) (r s : Run) (o q : Outcome)
      → Does (d ++ p.index) (t ++ InComponent k ∷ []) (Item Together p.lines) r o → Does d t (Pieces Together (suc k) ps) s q
      → Does d t (Pieces Together k (p ∷ ps)) (Beside r s) (both_ended o q)
