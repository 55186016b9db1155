-- What lines use, by what stands in scope there: of the lines under a line the uses of each item apart, since those of a PAR are
-- its components.
use Rattle.std.specs.Prelude.{ℕ, zero, suc, ◌+◌, ℤ, Bool, true, false, Option, Some, None, List, [], ◌∷◌, ◌++◌, length, if◌then◌else◌}
use Rattle.occ_usage_values.specs.Bounds.{Env}
use Rattle.occ_usage_values.specs.declared.bound.Bound.{Bound}
use Rattle.occ_usage_values.specs.declared.bound.Bound.TheVariants as b
use Rattle.occ_usage_values.specs.declared.uses.Use.{Use}
use Rattle.occ_usage_conflicts.specs.Bodies.{body_uses}
use Rattle.occ_usage_conflicts.specs.Components.{joined}
use Rattle.occ_usage_conflicts.specs.Distinct.{gathered}
use Rattle.occ_alias.specs.Entering.{body_bound, index_value, specified}
use Rattle.occ_alias.specs.Forms.{form_uses}
use Rattle.occ_project.specs.declared.expanded.Location.{Location}
use Rattle.occ_scope.specs.declared.meaning.ScopeEntry.{ScopeEntry}
use Rattle.occ_typing_statements.specs.declared.replicator_tree.KnownReplicator.{KnownReplicator}
use Rattle.occ_typing_statements.specs.declared.replicator_tree.TypedReplicator.{TypedReplicator}
use Rattle.occ_typing.specs.Forms.{TypedForm}
use Rattle.occ_typing.specs.FormVariants as form
use Rattle.occ_usage.specs.Effect.{effect_under, inner, is_body}
use Rattle.occ_typing.specs.declared.tree.TypedLine.{TypedLine}
use Rattle.occ_usage.specs.Trees.{Empty, Head, Tree, Trees, trees_of}

-- what stands under a line: the uses of each item
abbrev pub Under : Type 0
Under = Env → List (List Use)

-- ---- replicators

abbrev pub known_of : Option TypedReplicator → Option KnownReplicator
known_of None = None
known_of (Some r) = r.known

-- the replicator of a line, if it is known
abbrev pub known_replicator : TypedForm → Option KnownReplicator
known_replicator (form.Block kind r) = known_of r
known_replicator other = None

abbrev pub is_some_replicator : Option TypedReplicator → Bool
is_some_replicator None = false
is_some_replicator (Some r) = true

abbrev pub is_replicated : TypedForm → Bool
is_replicated (form.Block kind r) = is_some_replicator r
is_replicated other = false

abbrev pub with_index : Env → ℤ → ℕ → Env
with_index env base i = env ++ b.Value (index_value base i) None [] ∷ []

-- the first n rounds of a replicator with this base
abbrev pub rounds_to : ℕ → ℤ → Env → Under → List (List Use)
rounds_to zero base env under = []
rounds_to (suc i) base env under = rounds_to i base env under ++ joined (under (with_index env base i)) ∷ []

abbrev pub components_by : Option KnownReplicator → Env → Head → Under → List (List Use)
components_by None env h under = under (inner env h)
components_by (Some k) env h under = rounds_to k.count k.base env under

-- of a line: the items under it, or the rounds of its replicator, if that is known
abbrev pub components : Env → Head → Under → List (List Use)
components env h under = components_by (known_replicator h.form) env h under

-- ---- one line

-- what the lines under a line at this place use, as uses of the line: those of a replicated one are told there, each once
abbrev pub under_uses : TypedForm → Location → List Use → List Use
under_uses f place us = if is_body f then [] else if is_replicated f then gathered place [] us else us

-- a line with those under it
abbrev pub line_uses : Env → Head → Under → List Use
line_uses env h under = form_uses h.form env h.place ++ under_uses h.form h.place (joined (components env h under))

-- a PROC or a FUNCTION over lines that use these, and have an effect or not
abbrev pub body_over : Env → Head → List Use → Bool → Bound
body_over env h us does = body_bound (body_uses (length env) (length env + length h.enters) h.place us) does

-- by which these names come into scope
abbrev pub entered : Env → Head → List Use → Bool → List ScopeEntry → List Bound
entered env h us does entries = if is_body h.form then body_over env h us does ∷ [] else specified env h.place entries h.form

abbrev pub added_by : Env → Head → List Use → Bool → Option (List ScopeEntry) → List Bound
added_by env h us does None = []
added_by env h us does (Some entries) = entered env h us does entries

-- what comes into scope after a line over these lines
abbrev pub added : Env → Head → Trees → Under → List Bound
added env h t under = added_by env h (joined (components env h under)) (effect_under t env h) h.adds

-- ---- lines

abbrev pub ends_item : Option (List ScopeEntry) → Bool
ends_item None = true
ends_item (Some entries) = false

-- env stands in scope at the first of the lines, outer at the next item, and these uses of the item were found before
abbrev pub items : Trees → Env → Env → List Use → List (List Use)
items Empty outer env own = own ∷ []
items (Tree h t following) outer env own =
    if ends_item h.adds
    then (own ++ line_uses env h (λ (e : Env). items t e e [])) ∷ items following outer outer []
    else items following outer (env ++ added env h t (λ (e : Env). items t e e [])) (own ++ line_uses env h (λ (e : Env). items t e e []))

-- of lines under a line; after the last item stand no uses
abbrev pub items_of : Trees → Under
items_of t env = items t env env []

-- in scope after a line: a specification adds to the item, a main line ends it
abbrev pub after_by : Env → Env → Head → Trees → Option (List ScopeEntry) → Env
after_by outer env h t None = outer
after_by outer env h t (Some entries) = env ++ added env h t (items_of t)

abbrev pub after_line : Env → Env → Head → Trees → Env
after_line outer env h t = after_by outer env h t h.adds

-- in scope after the last of the lines of a unit
abbrev pub after_lines : Trees → Env → Env → Env
after_lines Empty outer env = env
after_lines (Tree h t following) outer env = after_lines following outer (after_line outer env h t)

-- of a unit: nothing stands in scope at the first
abbrev pub after_unit : List TypedLine → Env
after_unit ls = after_lines (trees_of ls) [] []
