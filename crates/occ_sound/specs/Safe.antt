-- When nothing stands in the way of running: what is told of lines, and what a scope keeps.
use Rattle.std.specs.Prelude.{◌≡◌, ◌<◌, ℕ, false, Some, List, [], ◌∷◌, ◌++◌, length, slice_get, take}
use Rattle.occ_alias.specs.AbbreviationRule.{calls_faults}
use Rattle.occ_alias.specs.LineCalls.{each_calls}
use Rattle.occ_base.specs.declared.code.Code.{Code}
use Rattle.occ_base.specs.declared.code.Code.TheVariants as code
use Rattle.occ_base.specs.declared.diag.Diag.{Diag}
use Rattle.occ_project.specs.declared.expanded.Location.{Location}
use Rattle.occ_scope.specs.declared.meaning.ScopeEntry.{ScopeEntry}
use Rattle.occ_typing.specs.declared.tree.TypedLine.{TypedLine}
use Rattle.occ_typing_rules.specs.declared.expr.TypedExpr.{TypedExpr}
use Rattle.occ_usage_lines.specs.Entering.{entry_bounds}
use Rattle.occ_usage_lines.specs.Forms.{each_uses}
use Rattle.occ_usage_conflicts.specs.Bodies.{body_uses}
use Rattle.occ_usage_conflicts.specs.ParallelRule.{some_clash}
use Rattle.occ_usage_conflicts.specs.declared.rule.Least.TheVariants as least
use Rattle.occ_usage_conflicts.specs.declared.rule.Rule.{Rule}
use Rattle.occ_usage_values.specs.Bounds.{Env, body_of}
use Rattle.occ_usage_values.specs.declared.uses.Use.{Use}
use Rattle.occ_usage.specs.AbbreviationRule.{abbreviation_at}
use Rattle.occ_usage.specs.Effect.{inner}
use Rattle.occ_usage.specs.ParallelRule.{parallel_at}
use Rattle.occ_usage.specs.Trees.{Trees, head_of, under}
use Rattle.occ_usage.specs.Walk.{reported}
use Rattle.occ_running.specs.Memory.{Cell, IsOneOf, Reaches, Step, Thread}
use Rattle.occ_running.specs.Scopes.{Body, Formal, Formula, Scope, Stored, Thing}
use Rattle.occ_sound.specs.Agreeing.{Agrees, Extends, InPart}

-- ---- what is told

-- neither U1, U2, U3 nor A4
abbrev pub IsOther : Code → Type 0
IsOther code.U1 = ⊥
IsOther code.U2 = ⊥
IsOther code.U3 = ⊥
IsOther code.A4 = ⊥
IsOther _ = Unit {0}

-- none of these is told, of whatever grade
abbrev pub IsSilent : List Diag → Type 0
IsSilent [] = Unit {0}
IsSilent (d ∷ ds) = IsOther d.code × IsSilent ds

-- of these lines, where env stands in scope at the first and outer at the next item
pub record IsClean (t : Trees) (outer env : Env) : Type 0 where
  pub parallel : IsSilent (reported parallel_at t outer env)
  pub abbreviations : IsSilent (reported abbreviation_at t outer env)

-- of a FUNCTION of one line these are the uses, and nothing is told of the calls in its results
abbrev pub IsCleanFormula : Env → List Use → List ScopeEntry → List TypedExpr → Type 0
IsCleanFormula env us formals results =
    (line : Location) × (us ≡ body_uses (length env) (length (env ++ entry_bounds formals)) line (each_uses results (env ++ entry_bounds formals) line))
    × IsSilent (calls_faults line (env ++ entry_bounds formals) (each_calls results (env ++ entry_bounds formals) line))

-- ---- what a scope keeps

-- parts of different names that are used share no cell
abbrev pub Separate : Scope → List Use → Type 0
Separate d us = (u v : Use) → IsOneOf us u → IsOneOf us v → (u.part.root ≡ v.part.root → ⊥) → (c : Cell) → InPart d u.part c → InPart d v.part c → ⊥

-- a variable is declared in these components and calls or round them, and a formal stands for an element round its call
abbrev pub IsVisible : Thread → Thing → Type 0
IsVisible t (Stored s) = Extends s t
IsVisible t (Formal at) = (steps : List Step) (c : Cell) → Reaches at steps c → Extends c.thread t × (length c.thread < length t)
IsVisible t _ = Unit {0}

-- the rules know no more of it than is so, what it names can be seen there, and nothing is told of its bodies
pub record Safe (env : Env) (d : Scope) (t : Thread) : Type 0 where
  pub agrees : Agrees env d
  pub visible : (n : ℕ) (z : Thing) → slice_get d n ≡ Some z → IsVisible t z
  pub bodies : (n : ℕ) (l : TypedLine) → slice_get d n ≡ Some (Body l) → IsClean (under l) (inner (take n env) (head_of l)) (inner (take n env) (head_of l))
  pub formulas : (n : ℕ) (formals : List ScopeEntry) (results : List TypedExpr) → slice_get d n ≡ Some (Formula formals results) → IsCleanFormula (take n env) (body_of (slice_get env n)) formals results

-- no two components share a part of a root that stands round them, by the rule of parallel components
abbrev pub NoClash : ℕ → List (List Use) → Type 0
NoClash n comps = (rule : Rule) (root : ℕ) → root < n → some_clash rule least.May root comps ≡ false
