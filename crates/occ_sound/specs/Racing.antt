-- Runs that have a race: so the laws are not about nothing.
use Rattle.std.specs.Prelude.{◌≡◌, ℕ, ℤ, pos, Option, None, Some, List, [], ◌∷◌}
use Rattle.occ_typing.specs.declared.tree.TypedLine.{TypedLine, out-TypedLine}
use Rattle.occ_typing_lines.specs.declared.tree.BlockKind.TheVariants as block
use Rattle.occ_typing_lines.specs.declared.tree.TypedForm.TheVariants as form
use Rattle.occ_typing_operands.specs.declared.kind.Known.{Known}
use Rattle.occ_scope.specs.declared.meaning.Referent.{Referent}
use Rattle.occ_types.specs.declared.value.Value.TheVariants as v
use Rattle.occ_typing_rules.specs.declared.expr.Selector.{Selector, out-Selector}
use Rattle.occ_typing_rules.specs.declared.expr.Selector.TheOpen.{Selector-F, TypedActual-F, TypedExpr-F}
use Rattle.occ_typing_rules.specs.declared.expr.TypedActual.{TypedActual, out-TypedActual}
use Rattle.occ_typing_rules.specs.declared.expr.TypedElement.{TypedElement, out-TypedElement}
use Rattle.occ_typing_rules.specs.declared.expr.TypedExpr.{TypedExpr, out-TypedExpr}
use Rattle.occ_typing_statements.specs.declared.exchange_tree.TypedInput.TheVariants as input
use Rattle.occ_typing_statements.specs.declared.exchange_tree.TypedOutput.TheVariants as output
use Rattle.occ_typing_statements.specs.declared.exchange_tree.TypedTarget.{TypedTarget}
use Rattle.occ_typing_statements.specs.declared.replicator_tree.KnownReplicator.{KnownReplicator}
use Rattle.occ_typing_statements.specs.declared.replicator_tree.TypedReplicator.{TypedReplicator}
use Rattle.occ_running.specs.Memory.{Thread}
use Rattle.occ_running.specs.Running.{Does, Outcome}
use Rattle.occ_running.specs.Runs.{RaceFree, Run}
use Rattle.occ_running.specs.Scopes.{Scope}
use Rattle.occ_running.specs.Works.{EntersIndex, Work}

-- it can run so that it has a race
pub record CanRace (d : Scope) (t : Thread) (w : Work) : Type 0 where
  pub run : Run
  pub outcome : Outcome
  pub runs : Does d t w run outcome
  pub race : RaceFree run → ⊥

-- `x := k`, for the specification x with this number and a literal k
pub record Assigns (n : ℕ) (l : TypedLine) : Type 0 where
  pub main : (out-TypedLine l).adds ≡ None
  pub el : TypedElement
  pub e : TypedExpr
  pub known : Known
  pub is : (out-TypedLine l).form ≡ form.Assignment (el ∷ []) (e ∷ [])
  pub literal : out-TypedExpr e ≡ TypedExpr-F.Literal known
  pub name : (out-TypedElement el).referent.spec ≡ n
  pub whole : (out-TypedElement el).selectors ≡ []

-- `c ! k`, for the specification c with this number and a literal k
pub record Outputs (n : ℕ) (l : TypedLine) : Type 0 where
  pub main : (out-TypedLine l).adds ≡ None
  pub el : TypedElement
  pub e : TypedExpr
  pub known : Known
  pub is : (out-TypedLine l).form ≡ form.Output el (output.Value e ∷ [])
  pub literal : out-TypedExpr e ≡ TypedExpr-F.Literal known
  pub name : (out-TypedElement el).referent.spec ≡ n
  pub whole : (out-TypedElement el).selectors ≡ []

-- `c ? ..`, for the specification c with this number
pub record Inputs (n : ℕ) (l : TypedLine) : Type 0 where
  pub main : (out-TypedLine l).adds ≡ None
  pub el : TypedElement
  pub targets : List TypedTarget
  pub is : (out-TypedLine l).form ≡ form.Input (input.Plain el targets)
  pub name : (out-TypedElement el).referent.spec ≡ n
  pub whole : (out-TypedElement el).selectors ≡ []

-- a PAR without a replicator, over these lines
pub record IsParallel (l : TypedLine) (lines : List TypedLine) : Type 0 where
  pub is : (out-TypedLine l).form ≡ form.Block block.Parallel None
  pub enters : (out-TypedLine l).enters ≡ []
  pub under : (out-TypedLine l).under ≡ lines

-- `x`, as an expression, for the specification x with this number
pub record IsName (n : ℕ) (e : TypedExpr) : Type 0 where
  pub el : TypedElement
  pub is : out-TypedExpr e ≡ TypedExpr-F.Element el
  pub name : (out-TypedElement el).referent.spec ≡ n
  pub whole : (out-TypedElement el).selectors ≡ []
  pub unnoted : (out-TypedElement el).known.value ≡ None

-- `WHILE x`
pub record Loops (n : ℕ) (l : TypedLine) : Type 0 where
  pub main : (out-TypedLine l).adds ≡ None
  pub e : TypedExpr
  pub is : (out-TypedLine l).form ≡ form.While e
  pub name : IsName n e

-- `p (x)`, for a PROC with one formal, which is VAL
pub record Passes (n : ℕ) (l : TypedLine) : Type 0 where
  pub main : (out-TypedLine l).adds ≡ None
  pub callee : Referent
  pub actual : TypedActual
  pub e : TypedExpr
  pub is : (out-TypedLine l).form ≡ form.Instance callee (actual ∷ [])
  pub value : out-TypedActual actual ≡ TypedActual-F.Value e
  pub name : IsName n e

-- `a[j] := k`
pub record AssignsComponent (n : ℕ) (j : TypedExpr) (l : TypedLine) : Type 0 where
  pub main : (out-TypedLine l).adds ≡ None
  pub el : TypedElement
  pub e : TypedExpr
  pub known : Known
  pub s : Selector
  pub is : (out-TypedLine l).form ≡ form.Assignment (el ∷ []) (e ∷ [])
  pub literal : out-TypedExpr e ≡ TypedExpr-F.Literal known
  pub name : (out-TypedElement el).referent.spec ≡ n
  pub one : (out-TypedElement el).selectors ≡ s ∷ []
  pub subscript : out-Selector s ≡ Selector-F.Component j

-- a literal of INT
pub record IsNumeral (k : ℤ) (e : TypedExpr) : Type 0 where
  pub known : Known
  pub is : out-TypedExpr e ≡ TypedExpr-F.Literal known
  pub value : known.value ≡ Some (v.Int k)

-- a PAR with a replicator of this base and this count, both literals, over these lines
pub record IsReplicated (l : TypedLine) (base : ℤ) (count : ℕ) (lines : List TypedLine) : Type 0 where
  pub by : TypedReplicator
  pub noted : KnownReplicator
  pub is : (out-TypedLine l).form ≡ form.Block block.Parallel (Some by)
  pub enters : EntersIndex (out-TypedLine l).enters
  pub under : (out-TypedLine l).under ≡ lines
  pub first : IsNumeral base by.base
  pub many : IsNumeral (pos count) by.count
  pub known : by.known ≡ Some noted
  pub known_base : noted.base ≡ base
  pub known_count : noted.count ≡ count

-- a SEQ without a replicator, over these lines
pub record IsSequence (l : TypedLine) (lines : List TypedLine) : Type 0 where
  pub is : (out-TypedLine l).form ≡ form.Block block.Sequence None
  pub enters : (out-TypedLine l).enters ≡ []
  pub under : (out-TypedLine l).under ≡ lines

-- `[a FROM k FOR 0]`, for the specification a with this number and a numeral k
pub record IsEmptySegment (n : ℕ) (el : TypedElement) : Type 0 where
  pub s : Selector
  pub whole : Option ℕ
  pub base : TypedExpr
  pub count : TypedExpr
  pub k : ℤ
  pub name : (out-TypedElement el).referent.spec ≡ n
  pub one : (out-TypedElement el).selectors ≡ s ∷ []
  pub is : out-Selector s ≡ Selector-F.FromFor whole base count
  pub from : IsNumeral k base
  pub none : IsNumeral (pos 0) count

-- `[a FROM i FOR 0] := [b FROM j FOR 0]`, for the specifications a and b with these numbers
pub record CopiesNothing (n m : ℕ) (l : TypedLine) : Type 0 where
  pub main : (out-TypedLine l).adds ≡ None
  pub enters : (out-TypedLine l).enters ≡ []
  pub under : (out-TypedLine l).under ≡ []
  pub to : TypedElement
  pub from : TypedElement
  pub e : TypedExpr
  pub is : (out-TypedLine l).form ≡ form.Assignment (to ∷ []) (e ∷ [])
  pub value : out-TypedExpr e ≡ TypedExpr-F.Element from
  pub written : IsEmptySegment n to
  pub read : IsEmptySegment m from
