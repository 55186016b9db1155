-- The uses that the rules find in what is run.
use Rattle.std.specs.Prelude.{◌≡◌, ◌⊎◌, ℕ, ◌+◌, Some, List, [], ◌∷◌, ◌++◌, slice_get, if◌then◌else◌}
use Rattle.occ_project.specs.declared.expanded.Location.{Location}
use Rattle.occ_types.specs.declared.interface.UseKind.{UseKind}
use Rattle.occ_typing_rules.specs.declared.expr.Selector.TheOpen.{TypedExpr-F}
use Rattle.occ_typing_rules.specs.declared.expr.TypedElement.{TypedElement}
use Rattle.occ_usage_lines.specs.Forms.{form_uses, used}
use Rattle.occ_usage_conflicts.specs.Components.{joined}
use Rattle.occ_usage_values.specs.Bounds.{Env}
use Rattle.occ_usage_values.specs.Views.{ExprView, actual_views, call_uses, element_view, expr_step, expr_view, expr_views, selector_views, selectors_uses}
use Rattle.occ_usage_values.specs.declared.bound.Bound.{Bound}
use Rattle.occ_usage_values.specs.declared.bound.Bound.TheVariants as b
use Rattle.occ_usage_values.specs.declared.uses.Use.{Use}
use Rattle.occ_usage.specs.Lines.{added, components, ends_item, items_of, line_uses}
use Rattle.occ_usage.specs.Trees.{Empty, Tree, Trees, head_of, trees_of, under}
use Rattle.occ_running.specs.Memory.{InComponent, IsOneOf, Thread}
use Rattle.occ_running.specs.Runs.{Event}
use Rattle.occ_running.specs.Scopes.{Held, Scope, Thing}
use Rattle.occ_running.specs.Works.{Both, Call, Evaluate, ExprForm, Find, Item, Main, Nothing, Piece, Pieces, Reach, Select, Specify, Tells, Together, Under, Way, Work}
use Rattle.occ_sound.specs.Agreeing.{Covered}

-- what the rules know of an expression of this form
abbrev pub form_view : ExprForm → ExprView
form_view (TypedExpr-F.Literal x) = expr_step (TypedExpr-F.Literal x)
form_view (TypedExpr-F.Element el) = expr_step (TypedExpr-F.Element (element_view el))
form_view (TypedExpr-F.Operation x op es) = expr_step (TypedExpr-F.Operation x op (expr_views es))
form_view (TypedExpr-F.Applied x op e) = expr_step (TypedExpr-F.Applied x op (expr_view e))
form_view (TypedExpr-F.Size x e) = expr_step (TypedExpr-F.Size x (expr_view e))
form_view (TypedExpr-F.Converted x e) = expr_step (TypedExpr-F.Converted x (expr_view e))
form_view (TypedExpr-F.Table x es) = expr_step (TypedExpr-F.Table x (expr_views es))
form_view (TypedExpr-F.Call x callee xs) = expr_step (TypedExpr-F.Call x callee (actual_views xs))

abbrev pub all_used : UseKind → List TypedElement → Env → Location → List Use
all_used k [] env line = []
all_used k (el ∷ els) env line = used k el env line ++ all_used k els env line

-- of the first item of these lines
abbrev pub item_uses : Trees → Env → List Use
item_uses Empty env = []
item_uses (Tree h t following) env =
    line_uses env h (items_of t) ++ (if ends_item h.adds then [] else item_uses following (env ++ added env h t (items_of t)))

abbrev pub work_uses : Work → Env → Location → List Use
work_uses Nothing env line = []
work_uses (Both w u) env line = work_uses w env line ++ work_uses u env line
work_uses (Evaluate f) env line = (form_view f).uses env line
work_uses (Find el) env line = (element_view el).uses env line
work_uses (Select ss x) env line = selectors_uses (selector_views ss) env line
work_uses (Reach k els) env line = all_used k els env line
work_uses (Call n xs) env line = call_uses n (actual_views xs) env line
work_uses (Specify l) env line = form_uses (head_of l).form env (head_of l).place
work_uses (Main way l) env line = line_uses env (head_of l) (items_of (under l))
work_uses (Under way l) env line = form_uses (head_of l).form env (head_of l).place ++ joined (components env (head_of l) (items_of (under l)))
work_uses (Item way ls) env line = item_uses (trees_of ls) env
work_uses (Pieces way k ps) env line = []

-- ---- items and rounds

-- what the rules know of an index
abbrev pub AreIndices : List Bound → List Thing → Type 0
AreIndices [] [] = Unit {0}
AreIndices (b.Value v size reads ∷ bs) (Held x n ∷ xs) = Tells v x × Tells size n × AreIndices bs xs
AreIndices _ _ = ⊥

-- these are all uses of the item or round, whose index the rules know so
abbrev pub AllowsOne : Env → Piece → List Use → Type 0
AllowsOne env p us = (bs : List Bound) × AreIndices bs p.index × ((u : Use) → IsOneOf (item_uses (trees_of p.lines) (env ++ bs)) u → IsOneOf us u)

-- of each
abbrev pub Allows : Env → List Piece → List (List Use) → Type 0
Allows env [] comps = Unit {0}
Allows env (p ∷ ps) [] = ⊥
Allows env (p ∷ ps) (us ∷ comps) = AllowsOne env p us × Allows env ps comps

abbrev pub component_thread : Way → Thread → ℕ → Thread
component_thread Together t k = t ++ InComponent k ∷ []
component_thread _ t k = t

-- by one of them, of which the first has number k
pub record ByOne (way : Way) (d : Scope) (t : Thread) (k : ℕ) (comps : List (List Use)) (e : Event) : Type 0 where
  pub place : ℕ
  pub us : List Use
  pub is : slice_get comps place ≡ Some us
  pub covered : Covered d (component_thread way t (k + place)) us e

-- the event lies in one of the uses of what is run
abbrev pub CoveredWork : Work → Env → Scope → Thread → Event → Type 0
CoveredWork Nothing env d t e = ⊥
CoveredWork (Both w u) env d t e = CoveredWork w env d t e ⊎ CoveredWork u env d t e
CoveredWork (Pieces way k ps) env d t e = (comps : List (List Use)) → Allows env ps comps → ByOne way d t k comps e
CoveredWork w env d t e = (line : Location) → Covered d t (work_uses w env line) e
