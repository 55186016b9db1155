-- What there is to run: expressions, elements, calls, lines and the lines under them; and what a line does before those.
use Rattle.std.specs.Prelude.{◌≡◌, ◌⊎◌, ℕ, zero, suc, ℤ, pos, negsuc, ◌+ℤ◌, Bool, true, false, Option, Some, None, List, [], ◌∷◌, Result, Ok, Err}
use Rattle.occ_scope.specs.declared.meaning.Access.{Access}
use Rattle.occ_scope.specs.declared.meaning.Access.TheVariants as access
use Rattle.occ_scope.specs.declared.meaning.Meaning.{Meaning}
use Rattle.occ_scope.specs.declared.meaning.Meaning.TheVariants as meaning
use Rattle.occ_scope.specs.declared.meaning.ScopeEntry.{ScopeEntry}
use Rattle.occ_types.specs.Constant as constant
use Rattle.occ_types.specs.Fits.{unnamed}
use Rattle.occ_types.specs.View.{as_primitive}
use Rattle.occ_types.specs.declared.constant.ConstFault.{ConstFault}
use Rattle.occ_types.specs.declared.constant.Operator.{Operator}
use Rattle.occ_types.specs.declared.constant.Operator.TheVariants as operator
use Rattle.occ_types.specs.declared.interface.UseKind.{UseKind}
use Rattle.occ_types.specs.declared.interface.UseKind.TheVariants as kind
use Rattle.occ_types.specs.declared.value.Primitive.{Primitive}
use Rattle.occ_types.specs.declared.value.Value.{Value}
use Rattle.occ_types.specs.declared.value.Value.TheVariants as v
use Rattle.occ_typing.specs.declared.tree.TypedLine.{TypedLine, out-TypedLine}
use Rattle.occ_typing_lines.specs.declared.tree.BlockKind.{BlockKind}
use Rattle.occ_typing_lines.specs.declared.tree.BlockKind.TheVariants as block
use Rattle.occ_typing_lines.specs.declared.tree.TypedForm.{TypedForm}
use Rattle.occ_typing_lines.specs.declared.tree.TypedForm.TheVariants as form
use Rattle.occ_typing_lines.specs.declared.tree.TypedGuard.{TypedGuard}
use Rattle.occ_typing_lines.specs.declared.tree.TypedGuard.TheVariants as guard
use Rattle.occ_typing_rules.specs.declared.expr.Selector.{Selector}
use Rattle.occ_typing_rules.specs.declared.expr.Selector.TheOpen.{Selector-F, TypedActual-F, TypedExpr-F}
use Rattle.occ_typing_rules.specs.declared.expr.TypedActual.{TypedActual, out-TypedActual}
use Rattle.occ_typing_rules.specs.declared.expr.TypedElement.{TypedElement}
use Rattle.occ_typing_rules.specs.declared.expr.TypedExpr.{TypedExpr, out-TypedExpr}
use Rattle.occ_typing_statements.specs.declared.exchange_tree.TypedInput.{TypedInput}
use Rattle.occ_typing_statements.specs.declared.exchange_tree.TypedInput.TheVariants as input
use Rattle.occ_typing_statements.specs.declared.exchange_tree.TypedOutput.{TypedOutput}
use Rattle.occ_typing_statements.specs.declared.exchange_tree.TypedOutput.TheVariants as output
use Rattle.occ_typing_statements.specs.declared.exchange_tree.TypedTarget.{TypedTarget}
use Rattle.occ_typing_statements.specs.declared.exchange_tree.TypedTarget.TheVariants as target
use Rattle.occ_typing_statements.specs.declared.replicator_tree.KnownReplicator.{KnownReplicator}
use Rattle.occ_typing_statements.specs.declared.replicator_tree.TypedReplicator.{TypedReplicator}
use Rattle.occ_running.specs.Memory.{ComponentOf, FieldOf, SegmentOf}
use Rattle.occ_running.specs.Scopes.{Clock, Element, Held, Thing}

-- ---- values

-- what is told of a value, of a number of components, or of a replicator, is so
abbrev pub Tells : {X : Type 0} → Option X → Option X → Type 0
Tells None y = Unit {0}
Tells (Some x) y = y ≡ Some x

abbrev pub or_else : {X : Type 0} → Option X → Option X → Option X
or_else (Some x) y = Some x
or_else None y = y

abbrev pub without_fault : Result Value ConstFault → Option Value
without_fault (Ok x) = Some x
without_fault (Err fault) = None

abbrev pub given_by : (Value → Result Value ConstFault) → Option Value → Option Value
given_by f None = None
given_by f (Some x) = without_fault (f x)

abbrev pub given_by_two : (Value → Value → Result Value ConstFault) → Option Value → Option Value → Option Value
given_by_two f None y = None
given_by_two f (Some x) y = given_by (f x) y

abbrev pub value_in : Thing → Option Value
value_in (Held v n) = v
value_in _ = None

abbrev pub count_in : Thing → Option ℤ
count_in (Held v n) = n
count_in (Element el n) = n
count_in (Clock n) = n
count_in _ = None

abbrev pub count_value : Option ℤ → Option Value
count_value None = None
count_value (Some n) = Some (v.Int n)

-- ---- expressions

abbrev pub ExprForm : Type 0
ExprForm = TypedExpr-F Selector TypedActual TypedExpr TypedElement

abbrev pub SelectorForm : Type 0
SelectorForm = Selector-F Selector TypedActual TypedExpr TypedElement

-- what is evaluated for an expression that is neither an element, a SIZE nor a call
abbrev pub operands : ExprForm → Option (List TypedExpr)
operands (TypedExpr-F.Literal x) = Some []
operands (TypedExpr-F.Element el) = None
operands (TypedExpr-F.Operation x op es) = Some es
operands (TypedExpr-F.Applied x op e) = Some (e ∷ [])
operands (TypedExpr-F.Size x e) = None
operands (TypedExpr-F.Converted x e) = Some (e ∷ [])
operands (TypedExpr-F.Table x es) = Some es
operands (TypedExpr-F.Call x callee actuals) = None

-- the value that typing has noted
abbrev pub noted : ExprForm → Option Value
noted (TypedExpr-F.Literal x) = x.value
noted (TypedExpr-F.Element el) = None
noted (TypedExpr-F.Operation x op es) = x.value
noted (TypedExpr-F.Applied x op e) = x.value
noted (TypedExpr-F.Size x e) = x.value
noted (TypedExpr-F.Converted x e) = x.value
noted (TypedExpr-F.Table x es) = None
noted (TypedExpr-F.Call x callee actuals) = None

-- from left to right, after a first value
abbrev pub folded_after : Operator → Option Value → List Thing → Option Value
folded_after op found [] = found
folded_after op found (x ∷ xs) = folded_after op (given_by_two (constant.folded op) found (value_in x)) xs

abbrev pub folded : Operator → List Thing → Option Value
folded op [] = None
folded op (x ∷ xs) = folded_after op (value_in x) xs

abbrev pub converted_by : Option Primitive → Option Value → Option Value
converted_by None x = None
converted_by (Some base) x = given_by (constant.converted base) x

-- what the operator gives on these operands, if it has no fault
abbrev pub computed : ExprForm → List Thing → Option Value
computed (TypedExpr-F.Operation x op es) xs = folded op xs
computed (TypedExpr-F.Applied x op e) (y ∷ []) = given_by (constant.folded_one op) (value_in y)
computed (TypedExpr-F.Converted x e) (y ∷ []) = converted_by (as_primitive (unnamed x.of)) (value_in y)
computed _ xs = None

-- The value is the one that typing has noted, or else what the operator gives. Where neither tells it, it is any.
abbrev pub IsValue : ExprForm → List Thing → Option Value → Type 0
IsValue f xs x = Tells (or_else (noted f) (computed f xs)) x

-- the truth value of an operand by which the others do not matter
pub data IsDeciding : Operator → Bool → Type 0 where
  false_of_and : IsDeciding operator.And false
  true_of_or : IsDeciding operator.Or true

-- one of these has this truth value
abbrev pub Decides : Bool → List Thing → Type 0
Decides b [] = ⊥
Decides b (x ∷ xs) = (value_in x ≡ Some (v.Bool b)) ⊎ Decides b xs

-- ---- selectors

-- what is evaluated for a selector
abbrev pub bounds : SelectorForm → List TypedExpr
bounds (Selector-F.Field place name) = []
bounds (Selector-F.Component e) = e ∷ []
bounds (Selector-F.From n e) = e ∷ []
bounds (Selector-F.For n e) = e ∷ []
bounds (Selector-F.FromFor n e f) = e ∷ f ∷ []

abbrev pub IsNumber : ℤ → Thing → Type 0
IsNumber k x = value_in x ≡ Some (v.Int k)

abbrev pub whole_count : Option ℕ → Option ℤ → Option ℤ
whole_count (Some n) here = Some (pos n)
whole_count None here = here

-- so many components from number k on are all that are left, where it is told how many there are
abbrev pub IsRest : Option ℤ → ℤ → ℤ → Type 0
IsRest None k n = Unit {0}
IsRest (Some whole) k n = n +ℤ k ≡ whole

-- A field, a component or a segment of a thing. Of a value that is no number its part is any; of a timer a part is a timer.
abbrev pub IsField : List ℕ → Thing → Thing → Type 0
IsField name (Element el n) y = y ≡ Element (FieldOf el name) None
IsField name (Held x n) y = (part : Option Value) × (y ≡ Held part None)
IsField name _ y = ⊥

abbrev pub IsComponent : ℤ → Thing → Thing → Type 0
IsComponent k (Element el n) y = y ≡ Element (ComponentOf el k) None
IsComponent k (Held x n) y = (part : Option Value) × (y ≡ Held part None)
IsComponent k (Clock n) y = y ≡ Clock None
IsComponent k _ y = ⊥

abbrev pub IsSegment : ℤ → ℤ → Thing → Thing → Type 0
IsSegment b n (Element el m) y = y ≡ Element (SegmentOf el b n) (Some n)
IsSegment b n (Held x m) y = (part : Option Value) × (y ≡ Held part (Some n))
IsSegment b n (Clock m) y = y ≡ Clock (Some n)
IsSegment b n _ y = ⊥

-- what the selector selects of a thing, where these came of its bounds
abbrev pub Selects : SelectorForm → List Thing → Thing → Thing → Type 0
Selects (Selector-F.Field place name) [] x y = IsField name x y
Selects (Selector-F.Component e) (i ∷ []) x y = (k : ℤ) × IsNumber k i × IsComponent k x y
Selects (Selector-F.From whole e) (i ∷ []) x y = (k n : ℤ) × IsNumber k i × IsRest (whole_count whole (count_in x)) k n × IsSegment k n x y
Selects (Selector-F.For whole e) (i ∷ []) x y = (n : ℤ) × IsNumber n i × IsSegment (pos 0) n x y
Selects (Selector-F.FromFor whole e f) (i ∷ j ∷ []) x y = (k n : ℤ) × IsNumber k i × IsNumber n j × IsSegment k n x y
Selects _ _ x y = ⊥

-- ---- lines

-- How lines beside one another are run: in turn, each; beside one another, each; the first choice that holds; each alternative of an
-- ALT as far as it waits; one of them, whichever. Or not at all.
pub data Way : Type 0 where
  InTurn : Way
  Together : Way
  Choice : Way
  Waiting : Way
  Taken : Way
  Idle : Way

-- one of the items under a line, or one of its rounds: what the index stands for, and lines of which the first item is meant
pub record Piece : Type 0 where
  pub index : List Thing
  pub lines : List TypedLine

pub data Work : Type 0 where
  Nothing : Work
  Both : Work → Work → Work
  Evaluate : ExprForm → Work
  Find : TypedElement → Work
  -- the rest of an element, from what was found
  Select : List Selector → Thing → Work
  -- elements are found, and then touched
  Reach : UseKind → List TypedElement → Work
  Call : ℕ → List TypedActual → Work
  -- a line of specification
  Specify : TypedLine → Work
  -- a main line, among lines that are run so
  Main : Way → TypedLine → Work
  -- the lines under it, which are run so
  Under : Way → TypedLine → Work
  -- the first item of lines
  Item : Way → List TypedLine → Work
  -- these, of which the first has this number
  Pieces : Way → ℕ → List Piece → Work

abbrev pub evaluate : List TypedExpr → Work
evaluate [] = Nothing
evaluate (e ∷ es) = Both (Evaluate (out-TypedExpr e)) (evaluate es)

abbrev pub find : List TypedElement → Work
find [] = Nothing
find (el ∷ els) = Both (Find el) (find els)

abbrev pub actual_work : TypedActual-F Selector TypedActual TypedExpr TypedElement → Work
actual_work (TypedActual-F.Value e) = Evaluate (out-TypedExpr e)
actual_work (TypedActual-F.Variable el) = Find el

abbrev pub pass : List TypedActual → Work
pass [] = Nothing
pass (x ∷ xs) = Both (actual_work (out-TypedActual x)) (pass xs)

-- ---- communication

abbrev pub receive : TypedTarget → Work
receive (target.Single el) = Reach kind.Write (el ∷ [])
receive (target.Counted count el) = Both (Reach kind.Write (count ∷ [])) (Reach kind.Write (el ∷ []))

abbrev pub receive_all : List TypedTarget → Work
receive_all [] = Nothing
receive_all (t ∷ ts) = Both (receive t) (receive_all ts)

abbrev pub send : TypedOutput → Work
send (output.Value e) = Evaluate (out-TypedExpr e)
send (output.Counted count e) = Both (Evaluate (out-TypedExpr count)) (Evaluate (out-TypedExpr e))
send (output.Tag place name) = Nothing

abbrev pub send_all : List TypedOutput → Work
send_all [] = Nothing
send_all (o ∷ os) = Both (send o) (send_all os)

-- an input waits for its channel, or for the time that its timer shows
abbrev pub wait_for : TypedInput → Work
wait_for (input.Plain el ts) = Reach kind.Input (el ∷ [])
wait_for (input.Time el t) = Reach kind.Input (el ∷ [])
wait_for (input.After el e) = Both (Reach kind.Input (el ∷ [])) (Evaluate (out-TypedExpr e))
wait_for (input.Tagged el place name ts) = Reach kind.Input (el ∷ [])

-- and receives
abbrev pub received : TypedInput → Work
received (input.Plain el ts) = receive_all ts
received (input.Time el t) = Reach kind.Write (t ∷ [])
received (input.After el e) = Nothing
received (input.Tagged el place name ts) = receive_all ts

abbrev pub input_work : TypedInput → Work
input_work i = Both (wait_for i) (received i)

abbrev pub guard_waits : TypedGuard → Work
guard_waits guard.Skip = Nothing
guard_waits (guard.Input i) = wait_for i
guard_waits (guard.CaseInput el) = Reach kind.Input (el ∷ [])

abbrev pub guard_work : TypedGuard → Work
guard_work guard.Skip = Nothing
guard_work (guard.Input i) = input_work i
guard_work (guard.CaseInput el) = Reach kind.Input (el ∷ [])

-- ---- what a main line does at once, and how the lines under it are run then

abbrev pub Plan : Type 0
Plan = Work × Way

abbrev pub block_plan : BlockKind → Option Plan
block_plan block.Sequence = Some (Nothing, InTurn)
block_plan block.Parallel = Some (Nothing, Together)
block_plan block.Conditional = Some (Nothing, Choice)
block_plan block.Alternation = None

-- a process; STOP does nothing more, and WHILE and ALT are told apart
abbrev pub process_plan : TypedForm → Option Plan
process_plan form.Skip = Some (Nothing, InTurn)
process_plan (form.Assignment els es) = Some (Both (evaluate es) (Reach kind.Write els), InTurn)
process_plan (form.Output el os) = Some (Both (send_all os) (Reach kind.Output (el ∷ [])), InTurn)
process_plan (form.Input i) = Some (input_work i, InTurn)
process_plan (form.Instance callee xs) = Some (Call callee.spec xs, InTurn)
process_plan (form.Block k r) = block_plan k
process_plan (form.Selection e) = Some (Evaluate (out-TypedExpr e), Taken)
process_plan (form.CaseInput el) = Some (Reach kind.Input (el ∷ []), Taken)
process_plan form.ValueOf = Some (Nothing, InTurn)
process_plan (form.Results es) = Some (evaluate es, InTurn)
process_plan _ = None

-- a choice of an IF; a condition is told apart
abbrev pub choice_plan : TypedForm → Option Plan
choice_plan (form.Block block.Conditional r) = Some (Nothing, Choice)
choice_plan _ = None

-- an alternative of an ALT, as far as it waits
abbrev pub waiting_plan : TypedForm → Option Plan
waiting_plan (form.Block block.Alternation r) = Some (Nothing, Waiting)
waiting_plan (form.Guard e g) = Some (Both (Evaluate (out-TypedExpr e)) (guard_waits g), Idle)
waiting_plan (form.Input i) = Some (wait_for i, Idle)
waiting_plan (form.CaseInput el) = Some (Reach kind.Input (el ∷ []), Idle)
waiting_plan _ = None

abbrev pub guarded_way : TypedGuard → Way
guarded_way guard.Skip = InTurn
guarded_way (guard.Input i) = InTurn
guarded_way (guard.CaseInput el) = Taken

-- an alternative of an ALT, an option of a CASE or a variant of a case input, once it is taken
abbrev pub taken_plan : TypedForm → Option Plan
taken_plan (form.Block block.Alternation r) = Some (Nothing, Taken)
taken_plan (form.Guard e g) = Some (guard_work g, guarded_way g)
taken_plan (form.Input i) = Some (input_work i, InTurn)
taken_plan (form.CaseInput el) = Some (Reach kind.Input (el ∷ []), Taken)
taken_plan (form.Options es) = Some (Nothing, InTurn)
taken_plan form.Otherwise = Some (Nothing, InTurn)
taken_plan (form.Variant place name ts) = Some (receive_all ts, InTurn)
taken_plan _ = None

abbrev pub plan : Way → TypedForm → Option Plan
plan InTurn f = process_plan f
plan Together f = process_plan f
plan Choice f = choice_plan f
plan Waiting f = waiting_plan f
plan Taken f = taken_plan f
plan Idle f = None

-- ---- the lines under a line

abbrev pub behind_line : Option (List ScopeEntry) → List TypedLine → List Piece → List Piece
behind_line (Some names) ls ps = ps
behind_line None ls ps = (record { index = []; lines = ls }) ∷ ps

-- the lines behind each main line
abbrev pub items_behind : List TypedLine → List Piece
items_behind [] = []
items_behind (l ∷ ls) = behind_line (out-TypedLine l).adds ls (items_behind ls)

-- each item; behind the last main line stands one without any
abbrev pub items_of : List TypedLine → List Piece
items_of ls = (record { index = []; lines = ls }) ∷ items_behind ls

abbrev pub index_at : ℤ → ℕ → Thing
index_at base i = Held (Some (v.Int (base +ℤ pos i))) None

-- so many rounds does a count make: one below 0 makes none
abbrev pub rounds_in : ℤ → ℕ
rounds_in (pos n) = n
rounds_in (negsuc n) = zero

-- so many rounds, the first of which has number i
abbrev pub rounds : ℕ → ℕ → ℤ → List TypedLine → List Piece
rounds zero i base ls = []
rounds (suc n) i base ls = (record { index = index_at base i ∷ []; lines = ls }) ∷ rounds n (suc i) base ls

abbrev pub replicator_of : TypedForm → Option TypedReplicator
replicator_of (form.Block k r) = r
replicator_of _ = None

-- these are the base and the count that typing has noted, if it has; for a PAR it has
abbrev pub IsNoted : Way → Option KnownReplicator → ℤ → ℕ → Type 0
IsNoted way (Some k) base n = (base ≡ k.base) × (n ≡ k.count)
IsNoted Together None base n = ⊥
IsNoted _ None base n = Unit {0}

-- the one name that comes into scope under the line is an index
abbrev pub IsIndexBy : Access → Type 0
IsIndexBy access.Variable = ⊥
IsIndexBy access.Formal = Unit {0}
IsIndexBy access.Value = Unit {0}

abbrev pub IsIndex : Meaning → Type 0
IsIndex (meaning.Element w) = IsIndexBy w.access
IsIndex _ = ⊥

abbrev pub EntersIndex : List ScopeEntry → Type 0
EntersIndex (e ∷ []) = IsIndex e.meaning
EntersIndex _ = ⊥
