-- The items and rounds of lines, as the rules and as runs have them.
use Rattle.std.proofs.Common.{◌≡◌, ◌+◌, ℕ, zero, suc, Bool, true, false, ap, sym, subst, ◌∙◌, refl, arith, List, [], ◌∷◌, ◌++◌, Option, Some, None, inl, inr, append_assoc}
use Rattle.std.specs.Prelude.{ℤ, pos, ◌+ℤ◌, slice_get, if◌then◌else◌}
use Rattle.occ_project.specs.declared.expanded.Location.{Location}
use Rattle.occ_scope.specs.declared.meaning.Access.{Access}
use Rattle.occ_scope.specs.declared.meaning.Access.TheVariants as access
use Rattle.occ_scope.specs.declared.meaning.Meaning.{Meaning}
use Rattle.occ_scope.specs.declared.meaning.Meaning.TheVariants as meaning
use Rattle.occ_scope.specs.declared.meaning.ScopeEntry.{ScopeEntry}
use Rattle.occ_types.specs.declared.value.Value.TheVariants as v
use Rattle.occ_typing.specs.declared.tree.TypedLine.{TypedLine, out-TypedLine}
use Rattle.occ_typing.specs.declared.tree.TypedLine.TheFolds.{fold_out-TypedLine}
use Rattle.occ_typing_lines.specs.declared.tree.TypedForm.{TypedForm}
use Rattle.occ_typing_lines.specs.declared.tree.TypedForm.TheVariants as form
use Rattle.occ_typing_statements.specs.declared.replicator_tree.TypedReplicator.{TypedReplicator}
use Rattle.occ_usage_conflicts.specs.Components.{joined}
use Rattle.occ_usage_conflicts.specs.Distinct.{gathered}
use Rattle.occ_usage_values.specs.Uses.{at_line}
use Rattle.occ_usage_lines.specs.Entering.{access_bound, entry_bounds, index_value, meaning_bound}
use Rattle.occ_usage_lines.specs.Forms.{form_uses, replicator_uses}
use Rattle.occ_usage_values.specs.Bounds.{Env}
use Rattle.occ_usage_values.specs.declared.bound.Bound.{Bound}
use Rattle.occ_usage_values.specs.declared.bound.Bound.TheVariants as b
use Rattle.occ_usage_values.specs.declared.uses.Use.{Use}
use Rattle.occ_usage.specs.Effect.{is_body}
use Rattle.occ_usage.specs.Lines.{Under as UnderUses, added, components, ends_item, is_replicated, items, items_of, known_of, known_replicator, line_uses, rounds_to, under_uses, with_index}
use Rattle.occ_usage.specs.Trees.{Tree, Trees, head_of, tree_step, trees_of, under}
use Rattle.occ_running.specs.Memory.{IsOneOf, Thread}
use Rattle.occ_running.specs.Runs.{Event}
use Rattle.occ_running.specs.Scopes.{Scope}
use Rattle.occ_running.specs.Works as works
use Rattle.occ_running.specs.Works.{Choice, EntersIndex, Idle, InTurn, IsIndex, IsIndexBy, Piece, Plan, Taken, Tells, Together, Waiting, Way, behind_line, index_at, items_behind, plan, replicator_of, rounds}
use Rattle.occ_sound.specs.Agreeing.{Covered}
use Rattle.occ_sound.specs.Covering.{Allows, AllowsOne, item_uses}
use Rattle.occ_sound.proofs.Calls.{gathered_keeps}
use Rattle.occ_sound.proofs.Lists.{in_cases, in_left, in_right, no_more}
use Rattle.occ_sound.proofs.Touching.{HasAlike, alike_here, alike_in, covered_alike}

pub first_tree : (l : TypedLine) (ls : List TypedLine) → trees_of (l ∷ ls) ≡ Tree (head_of l) (under l) (trees_of ls)
first_tree l ls = ap (λ (t : Trees → Trees). t (trees_of ls)) (fold_out-TypedLine (Trees → Trees) tree_step l)

abbrev pub own_uses : Env → TypedLine → List Use
own_uses env l = line_uses env (head_of l) (items_of (under l))

-- ---- the first item

pub main_item : (env : Env) (l : TypedLine) (ls : List TypedLine) → (out-TypedLine l).adds ≡ None → item_uses (trees_of (l ∷ ls)) env ≡ own_uses env l
main_item env l ls h =
    ap (λ (t : Trees). item_uses t env) (first_tree l ls)
    ∙ ap (λ (o : Option (List ScopeEntry)). own_uses env l ++ (if ends_item o then [] else item_uses (trees_of ls) (env ++ added env (head_of l) (under l) (items_of (under l))))) h ∙ no_more (own_uses env l)

pub specified_item : (env : Env) (l : TypedLine) (ls : List TypedLine) (names : List ScopeEntry) → (out-TypedLine l).adds ≡ Some names
    → item_uses (trees_of (l ∷ ls)) env ≡ own_uses env l ++ item_uses (trees_of ls) (env ++ added env (head_of l) (under l) (items_of (under l)))
specified_item env l ls names h =
    ap (λ (t : Trees). item_uses t env) (first_tree l ls)
    ∙ ap (λ (o : Option (List ScopeEntry)). own_uses env l ++ (if ends_item o then [] else item_uses (trees_of ls) (env ++ added env (head_of l) (under l) (items_of (under l))))) h

-- ---- all items

pub record Split (ls : List TypedLine) (outer env : Env) (own : List Use) : Type 0 where
  pub rest : List (List Use)
  pub is : items (trees_of ls) outer env own ≡ (own ++ item_uses (trees_of ls) env) ∷ rest
  pub allows : Allows outer (items_behind ls) rest

pub allows_item : (env : Env) (ls : List TypedLine) → AllowsOne env (record { index = []; lines = ls }) ([] ++ item_uses (trees_of ls) env)
allows_item env ls = ([], tt, λ u h. subst (λ (e : Env). IsOneOf (item_uses (trees_of ls) e) u) (no_more env) h)

split_main : (l : TypedLine) (ls : List TypedLine) (outer env : Env) (own : List Use) → (out-TypedLine l).adds ≡ None → Split ls outer outer [] → Split (l ∷ ls) outer env own
split_main l ls outer env own h s =
    record {
      rest = items (trees_of ls) outer outer [];
      is = ap (λ (t : Trees). items t outer env own) (first_tree l ls)
          ∙ ap (λ (o : Option (List ScopeEntry)). if ends_item o
          then (own ++ own_uses env l) ∷ items (trees_of ls) outer outer []
          else items (trees_of ls) outer (env ++ added env (head_of l) (under l) (items_of (under l))) (own ++ own_uses env l)) h
          ∙ ap (λ (us : List Use). (own ++ us) ∷ items (trees_of ls) outer outer []) (sym (main_item env l ls h));
      allows = subst (λ (o : Option (List ScopeEntry)). Allows outer (behind_line o ls (items_behind ls)) (items (trees_of ls) outer outer [])) (sym h)
          (subst (λ (comps : List (List Use)). Allows outer ((record { index = []; lines = ls }) ∷ items_behind ls) comps) (sym s.is) (allows_item outer ls, s.allows));
    }

split_specified : (l : TypedLine) (ls : List TypedLine) (outer env : Env) (own : List Use) (names : List ScopeEntry) → (out-TypedLine l).adds ≡ Some names
    → Split ls outer (env ++ added env (head_of l) (under l) (items_of (under l))) (own ++ own_uses env l) → Split (l ∷ ls) outer env own
split_specified l ls outer env own names h s =
    record {
      rest = s.rest;
      is = ap (λ (t : Trees). items t outer env own) (first_tree l ls)
          ∙ ap (λ (o : Option (List ScopeEntry)). if ends_item o
          then (own ++ own_uses env l) ∷ items (trees_of ls) outer outer []
          else items (trees_of ls) outer (env ++ added env (head_of l) (under l) (items_of (under l))) (own ++ own_uses env l)) h
          ∙ s.is
          ∙ ap (λ (us : List Use). us ∷ s.rest) (append_assoc own (own_uses env l) (item_uses (trees_of ls) (env ++ added env (head_of l) (under l) (items_of (under l)))) ∙ ap (λ (us : List Use). own ++ us) (sym (specified_item env l ls names h)));
      allows = subst (λ (o : Option (List ScopeEntry)). Allows outer (behind_line o ls (items_behind ls)) s.rest) (sym h) s.allows;
    }

split_by : (l : TypedLine) (ls : List TypedLine) (outer env : Env) (own : List Use) (o : Option (List ScopeEntry)) → (out-TypedLine l).adds ≡ o → ((e : Env) (us : List Use) → Split ls outer e us) → Split (l ∷ ls) outer env own
split_by l ls outer env own None h s = split_main l ls outer env own h (s outer [])
split_by l ls outer env own (Some names) h s = split_specified l ls outer env own names h (s (env ++ added env (head_of l) (under l) (items_of (under l))) (own ++ own_uses env l))

pub split : (ls : List TypedLine) (outer env : Env) (own : List Use) → Split ls outer env own
split [] outer env own = record { rest = []; is = ap (λ (us : List Use). us ∷ []) (sym (no_more own)); allows = tt }
split (l ∷ ls) outer env own = split_by l ls outer env own (out-TypedLine l).adds refl (λ e us. split ls outer e us)

-- the items under a line
pub items_allowed : (env : Env) (ls : List TypedLine) → Allows env (works.items_of ls) (items_of (trees_of ls) env)
items_allowed env ls = let s = split ls env env [] in subst (λ (comps : List (List Use)). Allows env (works.items_of ls) comps) (sym s.is) (allows_item env ls, s.allows)

pub in_first_item : (env : Env) (ls : List TypedLine) (u : Use) → IsOneOf (item_uses (trees_of ls) env) u → IsOneOf (joined (items_of (trees_of ls) env)) u
in_first_item env ls u h =
    let s = split ls env env [] in subst (λ (comps : List (List Use)). IsOneOf (joined comps) u) (sym s.is) (in_left u (item_uses (trees_of ls) env) (joined s.rest) h)

-- ---- rounds

abbrev pub rounds_front : ℕ → ℕ → ℤ → Env → UnderUses → List (List Use)
rounds_front zero i base env below = []
rounds_front (suc n) i base env below = joined (below (with_index env base i)) ∷ rounds_front n (suc i) base env below

front_last : (n i : ℕ) (base : ℤ) (env : Env) (below : UnderUses) → rounds_front (suc n) i base env below ≡ rounds_front n i base env below ++ joined (below (with_index env base (i + n))) ∷ []
front_last zero i base env below = ap (λ (j : ℕ). joined (below (with_index env base j)) ∷ []) (omega arith)
front_last (suc n) i base env below =
    ap (λ (us : List (List Use)). joined (below (with_index env base i)) ∷ us) (front_last n (suc i) base env below
    ∙ ap (λ (j : ℕ). rounds_front n (suc i) base env below ++ joined (below (with_index env base j)) ∷ []) (omega arith))

pub to_front : (n : ℕ) (base : ℤ) (env : Env) (below : UnderUses) → rounds_to n base env below ≡ rounds_front n 0 base env below
to_front zero base env below = refl
to_front (suc n) base env below =
    ap (λ (us : List (List Use)). us ++ joined (below (with_index env base n)) ∷ []) (to_front n base env below)
    ∙ ap (λ (j : ℕ). rounds_front n 0 base env below ++ joined (below (with_index env base j)) ∷ []) (omega arith) ∙ sym (front_last n 0 base env below)

pub index_if : (t : Bool) (k : ℤ) → Tells (if t then Some (v.Int k) else None) (Some (v.Int k))
index_if true k = refl
index_if false k = tt

pub round_allowed : (env : Env) (base : ℤ) (i : ℕ) (ls : List TypedLine) → AllowsOne env (record { index = index_at base i ∷ []; lines = ls }) (joined (items_of (trees_of ls) (with_index env base i)))
round_allowed env base i ls = (b.Value (index_value base i) None [] ∷ [], (index_if _ (base +ℤ pos i), tt, tt), λ u h. in_first_item (with_index env base i) ls u h)

rounds_allowed : (n i : ℕ) (env : Env) (base : ℤ) (ls : List TypedLine) → Allows env (rounds n i base ls) (rounds_front n i base env (items_of (trees_of ls)))
rounds_allowed zero i env base ls = tt
rounds_allowed (suc n) i env base ls = (round_allowed env base i ls, rounds_allowed n (suc i) env base ls)

pub known_allowed : (n : ℕ) (env : Env) (base : ℤ) (ls : List TypedLine) → Allows env (rounds n 0 base ls) (rounds_to n base env (items_of (trees_of ls)))
known_allowed n env base ls = subst (λ (comps : List (List Use)). Allows env (rounds n 0 base ls) comps) (sym (to_front n base env (items_of (trees_of ls)))) (rounds_allowed n 0 env base ls)

-- by an index that is not known
abbrev pub copies : ℕ → List Use → List (List Use)
copies zero us = []
copies (suc n) us = us ∷ copies n us

pub copies_same : (n k : ℕ) (us vs : List Use) → slice_get (copies n us) k ≡ Some vs → us ≡ vs
copies_same zero k us vs h = cc
copies_same (suc n) zero us vs h = cc
copies_same (suc n) (suc k) us vs h = copies_same n k us vs h

index_by : (name : List ℕ) (a : Access) (timer : Bool) → IsIndexBy a → access_bound name a timer ≡ b.Value None None []
index_by name access.Variable timer h = absurd h
index_by name access.Formal timer h = refl
index_by name access.Value timer h = refl

index_meaning : (name : List ℕ) (m : Meaning) → IsIndex m → meaning_bound name m ≡ b.Value None None []
index_meaning name (meaning.Element w) h = index_by name w.access _ h
index_meaning name (meaning.Procedure formals) h = absurd h
index_meaning name (meaning.Function formals results) h = absurd h
index_meaning name meaning.Faulty h = absurd h
index_meaning name (meaning.Type of) h = absurd h
index_meaning name (meaning.Protocol protocol) h = absurd h

pub index_bounds : (es : List ScopeEntry) → EntersIndex es → entry_bounds es ≡ b.Value None None [] ∷ []
index_bounds [] h = absurd h
index_bounds (e ∷ []) h = ap (λ (bound : Bound). bound ∷ []) (index_meaning e.name e.meaning h)
index_bounds (e ∷ f ∷ es) h = absurd h

pub unknown_allowed : (n i : ℕ) (env : Env) (base : ℤ) (ls : List TypedLine) → Allows env (rounds n i base ls) (copies n (joined (items_of (trees_of ls) (env ++ b.Value None None [] ∷ []))))
unknown_allowed zero i env base ls = tt
unknown_allowed (suc n) i env base ls = ((b.Value None None [] ∷ [], (tt, tt, tt), λ u h. in_first_item (env ++ b.Value None None [] ∷ []) ls u h), unknown_allowed n (suc i) env base ls)

-- ---- forms

pub known_none : (f : TypedForm) → replicator_of f ≡ None → known_replicator f ≡ None
known_none form.Declaration h = refl
known_none form.DataType h = refl
known_none form.Protocol h = refl
known_none form.ProcedureHead h = refl
known_none form.FunctionHead h = refl
known_none form.RecordHead h = refl
known_none form.ProtocolHead h = refl
known_none form.Member h = refl
known_none form.Close h = refl
known_none form.Skip h = refl
known_none form.Stop h = refl
known_none form.Otherwise h = refl
known_none form.ValueOf h = refl
known_none form.Unknown h = refl
known_none (form.Abbreviation el) h = refl
known_none (form.Retyped el) h = refl
known_none (form.Value e) h = refl
known_none (form.RetypedValue e) h = refl
known_none (form.OneLineFunction formals results) h = refl
known_none (form.Uses interfaces) h = refl
known_none (form.Assignment els es) h = refl
known_none (form.Output el os) h = refl
known_none (form.Input i) h = refl
known_none (form.Instance callee actuals) h = refl
known_none (form.Block k r) h = ap known_of h
known_none (form.While e) h = refl
known_none (form.Selection e) h = refl
known_none (form.CaseInput el) h = refl
known_none (form.Condition e) h = refl
known_none (form.Options es) h = refl
known_none (form.Guard e g) h = refl
known_none (form.Variant place tag ts) h = refl
known_none (form.Results es) h = refl

pub known_some : (f : TypedForm) (by : TypedReplicator) → replicator_of f ≡ Some by → known_replicator f ≡ by.known
known_some form.Declaration by h = absurd cc
known_some form.DataType by h = absurd cc
known_some form.Protocol by h = absurd cc
known_some form.ProcedureHead by h = absurd cc
known_some form.FunctionHead by h = absurd cc
known_some form.RecordHead by h = absurd cc
known_some form.ProtocolHead by h = absurd cc
known_some form.Member by h = absurd cc
known_some form.Close by h = absurd cc
known_some form.Skip by h = absurd cc
known_some form.Stop by h = absurd cc
known_some form.Otherwise by h = absurd cc
known_some form.ValueOf by h = absurd cc
known_some form.Unknown by h = absurd cc
known_some (form.Abbreviation el) by h = absurd cc
known_some (form.Retyped el) by h = absurd cc
known_some (form.Value e) by h = absurd cc
known_some (form.RetypedValue e) by h = absurd cc
known_some (form.OneLineFunction formals results) by h = absurd cc
known_some (form.Uses interfaces) by h = absurd cc
known_some (form.Assignment els es) by h = absurd cc
known_some (form.Output el os) by h = absurd cc
known_some (form.Input i) by h = absurd cc
known_some (form.Instance callee actuals) by h = absurd cc
known_some (form.Block k r) by h = ap known_of h
known_some (form.While e) by h = absurd cc
known_some (form.Selection e) by h = absurd cc
known_some (form.CaseInput el) by h = absurd cc
known_some (form.Condition e) by h = absurd cc
known_some (form.Options es) by h = absurd cc
known_some (form.Guard e g) by h = absurd cc
known_some (form.Variant place tag ts) by h = absurd cc
known_some (form.Results es) by h = absurd cc

pub replicated_uses : (f : TypedForm) (by : TypedReplicator) (env : Env) (line : Location) → replicator_of f ≡ Some by → form_uses f env line ≡ replicator_uses (Some by) env line
replicated_uses form.Declaration by env line h = absurd cc
replicated_uses form.DataType by env line h = absurd cc
replicated_uses form.Protocol by env line h = absurd cc
replicated_uses form.ProcedureHead by env line h = absurd cc
replicated_uses form.FunctionHead by env line h = absurd cc
replicated_uses form.RecordHead by env line h = absurd cc
replicated_uses form.ProtocolHead by env line h = absurd cc
replicated_uses form.Member by env line h = absurd cc
replicated_uses form.Close by env line h = absurd cc
replicated_uses form.Skip by env line h = absurd cc
replicated_uses form.Stop by env line h = absurd cc
replicated_uses form.Otherwise by env line h = absurd cc
replicated_uses form.ValueOf by env line h = absurd cc
replicated_uses form.Unknown by env line h = absurd cc
replicated_uses (form.Abbreviation el) by env line h = absurd cc
replicated_uses (form.Retyped el) by env line h = absurd cc
replicated_uses (form.Value e) by env line h = absurd cc
replicated_uses (form.RetypedValue e) by env line h = absurd cc
replicated_uses (form.OneLineFunction formals results) by env line h = absurd cc
replicated_uses (form.Uses interfaces) by env line h = absurd cc
replicated_uses (form.Assignment els es) by env line h = absurd cc
replicated_uses (form.Output el os) by env line h = absurd cc
replicated_uses (form.Input i) by env line h = absurd cc
replicated_uses (form.Instance callee actuals) by env line h = absurd cc
replicated_uses (form.Block k r) by env line h = ap (λ (o : Option TypedReplicator). replicator_uses o env line) h
replicated_uses (form.While e) by env line h = absurd cc
replicated_uses (form.Selection e) by env line h = absurd cc
replicated_uses (form.CaseInput el) by env line h = absurd cc
replicated_uses (form.Condition e) by env line h = absurd cc
replicated_uses (form.Options es) by env line h = absurd cc
replicated_uses (form.Guard e g) by env line h = absurd cc
replicated_uses (form.Variant place tag ts) by env line h = absurd cc
replicated_uses (form.Results es) by env line h = absurd cc

procedure_plan : (way : Way) → plan way form.ProcedureHead ≡ None
procedure_plan InTurn = refl
procedure_plan Together = refl
procedure_plan Choice = refl
procedure_plan Waiting = refl
procedure_plan Taken = refl
procedure_plan Idle = refl

function_plan : (way : Way) → plan way form.FunctionHead ≡ None
function_plan InTurn = refl
function_plan Together = refl
function_plan Choice = refl
function_plan Waiting = refl
function_plan Taken = refl
function_plan Idle = refl

some_none : {X A : Type 0} (x : X) → Some x ≡ None → A
some_none x h = cc

-- what has a plan is no body
pub planned_no_body : (way : Way) (f : TypedForm) (p : Plan) → plan way f ≡ Some p → is_body f ≡ false
planned_no_body way form.Declaration p h = refl
planned_no_body way form.DataType p h = refl
planned_no_body way form.Protocol p h = refl
planned_no_body way form.ProcedureHead p h = some_none p (sym h ∙ procedure_plan way)
planned_no_body way form.FunctionHead p h = some_none p (sym h ∙ function_plan way)
planned_no_body way form.RecordHead p h = refl
planned_no_body way form.ProtocolHead p h = refl
planned_no_body way form.Member p h = refl
planned_no_body way form.Close p h = refl
planned_no_body way form.Skip p h = refl
planned_no_body way form.Stop p h = refl
planned_no_body way form.Otherwise p h = refl
planned_no_body way form.ValueOf p h = refl
planned_no_body way form.Unknown p h = refl
planned_no_body way (form.Abbreviation el) p h = refl
planned_no_body way (form.Retyped el) p h = refl
planned_no_body way (form.Value e) p h = refl
planned_no_body way (form.RetypedValue e) p h = refl
planned_no_body way (form.OneLineFunction formals results) p h = refl
planned_no_body way (form.Uses interfaces) p h = refl
planned_no_body way (form.Assignment els es) p h = refl
planned_no_body way (form.Output el os) p h = refl
planned_no_body way (form.Input i) p h = refl
planned_no_body way (form.Instance callee actuals) p h = refl
planned_no_body way (form.Block k r) p h = refl
planned_no_body way (form.While e) p h = refl
planned_no_body way (form.Selection e) p h = refl
planned_no_body way (form.CaseInput el) p h = refl
planned_no_body way (form.Condition e) p h = refl
planned_no_body way (form.Options es) p h = refl
planned_no_body way (form.Guard e g) p h = refl
planned_no_body way (form.Variant place tag ts) p h = refl
planned_no_body way (form.Results es) p h = refl

-- ---- a line with those under it

in_replicated : (place : Location) (u : Use) (us : List Use) (t : Bool) → IsOneOf us u → HasAlike (if t then gathered place [] us else us) u
in_replicated place u us true h = record { u = at_line u place; among = gathered_keeps place us [] u h; part = refl; kind = refl }
in_replicated place u us false h = alike_here us u h

in_under : (place : Location) (u : Use) (us : List Use) (t replicated : Bool) → t ≡ false → IsOneOf us u → HasAlike (if t then [] else if replicated then gathered place [] us else us) u
in_under place u us false replicated e h = in_replicated place u us replicated h
in_under place u us true replicated e h = absurd (let no : true ≡ false = e in cc)

pub under_in_line : (env : Env) (l : TypedLine) (u : Use) → is_body (out-TypedLine l).form ≡ false
    → IsOneOf (form_uses (head_of l).form env (head_of l).place ++ joined (components env (head_of l) (items_of (under l)))) u → HasAlike (own_uses env l) u
under_in_line env l u e i =
    let own = form_uses (head_of l).form env (head_of l).place in
    let below = joined (components env (head_of l) (items_of (under l))) in
    let told = under_uses (head_of l).form (head_of l).place below in
    elim (in_cases u own below i) [
      | inl a ↦ alike_here (own ++ told) u (in_left u own told a)
      | inr c ↦ alike_in told (own ++ told) u (λ v k. in_right v own told k) (in_under (head_of l).place u below (is_body (head_of l).form) (is_replicated (head_of l).form) e c)
    ]

pub line_covered : (env : Env) (d : Scope) (t : Thread) (l : TypedLine) (x : Event) → is_body (out-TypedLine l).form ≡ false
    → Covered d t (form_uses (head_of l).form env (head_of l).place ++ joined (components env (head_of l) (items_of (under l)))) x → Covered d t (own_uses env l) x
line_covered env d t l x e h =
    covered_alike d t (form_uses (head_of l).form env (head_of l).place ++ joined (components env (head_of l) (items_of (under l)))) (own_uses env l) x (λ u i. under_in_line env l u e i) h

pub in_joined : (comps : List (List Use)) (k : ℕ) (us : List Use) (u : Use) → slice_get comps k ≡ Some us → IsOneOf us u → IsOneOf (joined comps) u
in_joined [] k us u h i = cc
in_joined (vs ∷ comps) zero us u h i = in_left u vs (joined comps) (subst (λ (ws : List Use). IsOneOf ws u) (sym (same_first vs us h)) i) where
  same_first : (xs ys : List Use) → Some xs ≡ Some ys → xs ≡ ys
  same_first xs ys e = cc
in_joined (vs ∷ comps) (suc k) us u h i = in_right u vs (joined comps) (in_joined comps k us u h i)
