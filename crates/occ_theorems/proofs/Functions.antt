-- The two ways to say what the function rule reports are one.
use Rattle.std.proofs.Common.{◌≡◌, ◌<◌, ◌++◌, ◌⊎◌, ℕ, Bool, true, false, List, [], ◌∷◌, length, inl, inr, refl, sym, subst}
use Rattle.std.specs.Prelude.{◌↔◌, ◌&&◌, nat_lt, if◌then◌else◌}
use Rattle.std.specs.List.{Contains}
use Rattle.std.proofs.lemmas.Bool.{ltb-true, lt-ltb}
use Rattle.std.proofs.lemmas.List.Elements.{Contains-append_cases, Contains-append_left, Contains-append_right}
use Rattle.occ_base.specs.Errors.{error_at, error_if}
use Rattle.occ_base.specs.declared.code.Code.TheVariants.{F1}
use Rattle.occ_base.specs.declared.diag.Diag.{Diag}
use Rattle.occ_project.specs.declared.expanded.Location.{Location}
use Rattle.occ_scope.specs.declared.meaning.ScopeEntry.{ScopeEntry}
use Rattle.occ_typing.specs.Forms.{TypedForm}
use Rattle.occ_typing.specs.FormVariants as form
use Rattle.occ_typing.specs.declared.tree.TypedLine.{TypedLine}
use Rattle.occ_typing_rules.specs.declared.expr.TypedExpr.{TypedExpr}
use Rattle.occ_usage.specs.Effect.{inner}
use Rattle.occ_usage.specs.FunctionRule.{faults, function_faults, line_faults, one_line_faults, side_effect_faults, whole_faults, within_under, write_fault, write_faults}
use Rattle.occ_usage.specs.Lines.{after_line}
use Rattle.occ_usage.specs.Trees.{Empty, Head, Tree, Trees, trees_of}
use Rattle.occ_usage.specs.declared.function.Within.{Within}
use Rattle.occ_usage.specs.declared.function.Within.TheVariants as within
use Rattle.occ_usage_conflicts.specs.Kinds.{is_write}
use Rattle.occ_usage_conflicts.specs.ParallelRule.{root_name}
use Rattle.occ_usage_lines.specs.Effects.{each_effect, form_effect}
use Rattle.occ_usage_lines.specs.Entering.{entry_bounds}
use Rattle.occ_usage_lines.specs.Forms.{each_uses, form_uses}
use Rattle.occ_usage_values.specs.Bounds.{Env}
use Rattle.occ_usage_values.specs.declared.uses.Use.{Use}
use Rattle.occ_theorems.specs.Functions.{IsEffectAt, IsFaultIn, IsFaultOf, IsFunctionFault, IsOneLineFault, IsWriteOutside, Placed, StandsWithin, behind, here, under}
use Rattle.occ_theorems.proofs.Members.{Among, from_contains, into_contains}

none : (d : Diag) → Contains [] d → ⊥
none d h = from_contains [] d h

one : (x d : Diag) → Contains (x ∷ []) d → d ≡ x
one x d h = only (from_contains (x ∷ []) d h) where
  only : Among d (x ∷ []) → d ≡ x
  only (inl e) = sym e
  only (inr e) = absurd e

is_one : (x d : Diag) → d ≡ x → Contains (x ∷ []) d
is_one x d e = into_contains (x ∷ []) d (inl (sym e))

both : (a b : Bool) → (a && b) ≡ true → (a ≡ true) × (b ≡ true)
both true b e = (refl, e)
both false b e = absurd cc

together : (a b : Bool) → a ≡ true → b ≡ true → (a && b) ≡ true
together true b e f = f
together false b e f = e

-- what is there if a test holds
if_from : (b : Bool) (ds : List Diag) (d : Diag) → Contains (if b then ds else []) d → (b ≡ true) × Contains ds d
if_from true ds d h = (refl, h)
if_from false ds d h = absurd (none d h)

if_to : (b : Bool) (ds : List Diag) (d : Diag) → b ≡ true → Contains ds d → Contains (if b then ds else []) d
if_to true ds d e h = h
if_to false ds d e h = absurd cc

-- ---- effects and writes

effect_from : (has : Bool) (place : Location) (d : Diag) → Contains (error_if has place.file place.line F1) d → IsEffectAt has place d
effect_from has place d h = let r = if_from has _ d h in (r.0, one _ d r.1)

effect_to : (has : Bool) (place : Location) (d : Diag) → IsEffectAt has place d → Contains (error_if has place.file place.line F1) d
effect_to has place d (e, is) = if_to has _ d e (is_one _ d is)

write_from : (n : ℕ) (env : Env) (u : Use) (d : Diag) → Contains (write_fault n env u) d → (is_write u.kind ≡ true) × (u.part.root < n) × (d ≡ error_at u.line.file u.line.line F1 (root_name env u.part.root))
write_from n env u d h =
    let r = if_from (is_write u.kind && nat_lt u.part.root n) _ d h in
    let t = both (is_write u.kind) (nat_lt u.part.root n) r.0 in
    (t.0, ltb-true _ _ t.1, one _ d r.1)

write_to : (n : ℕ) (env : Env) (u : Use) (d : Diag) → (is_write u.kind ≡ true) × (u.part.root < n) × (d ≡ error_at u.line.file u.line.line F1 (root_name env u.part.root)) → Contains (write_fault n env u) d
write_to n env u d (w, l, e) = if_to (is_write u.kind && nat_lt u.part.root n) _ d (together (is_write u.kind) (nat_lt u.part.root n) w (lt-ltb _ _ l)) (is_one _ d e)

writes_from : (n : ℕ) (env : Env) (us : List Use) (d : Diag) → Contains (write_faults n env us) d → IsWriteOutside n env us d
writes_from n env [] d h = absurd (none d h)
writes_from n env (u ∷ us) d h = elim (Contains-append_cases (write_fault n env u) (write_faults n env us) d h) [
  | inl k ↦ let w = write_from n env u d k in (u, into_contains (u ∷ us) u (inl refl), w.0, w.1, w.2)
  | inr k ↦ let r = writes_from n env us d k in (r.0, into_contains (u ∷ us) r.0 (inr (from_contains us r.0 r.1)), r.2, r.3, r.4)
]

writes_to : (n : ℕ) (env : Env) (us : List Use) (d : Diag) (u : Use) → Among u us → Contains (write_fault n env u) d → Contains (write_faults n env us) d
writes_to n env [] d u h c = absurd h
writes_to n env (v ∷ us) d u (inl e) c = Contains-append_left (write_fault n env v) (write_faults n env us) d (subst (λ (x : Use). Contains (write_fault n env x) d) (sym e) c)
writes_to n env (v ∷ us) d u (inr h) c = Contains-append_right (write_fault n env v) (write_faults n env us) d (writes_to n env us d u h c)

outside_to : (n : ℕ) (env : Env) (us : List Use) (d : Diag) → IsWriteOutside n env us d → Contains (write_faults n env us) d
outside_to n env us d (u, among, w, l, e) = writes_to n env us d u (from_contains us u among) (write_to n env u d (w, l, e))

-- ---- of a line

line_from : (w : Within) (h : Head) (env : Env) (d : Diag) → Contains (line_faults w h env) d → IsFaultIn w h env d
line_from within.Nothing h env d c = absurd (none d c)
line_from (within.Function n live) h env d c = elim (Contains-append_cases (error_if (form_effect h.form env) h.place.file h.place.line F1) (if live then write_faults n env (form_uses h.form env h.place) else []) d c) [
  | inl k ↦ inl (effect_from (form_effect h.form env) h.place d k)
  | inr k ↦ let r = if_from live (write_faults n env (form_uses h.form env h.place)) d k in inr (r.0, writes_from n env (form_uses h.form env h.place) d r.1)
]

line_to : (w : Within) (h : Head) (env : Env) (d : Diag) → IsFaultIn w h env d → Contains (line_faults w h env) d
line_to within.Nothing h env d k = absurd k
line_to (within.Function n live) h env d (inl k) =
    Contains-append_left (error_if (form_effect h.form env) h.place.file h.place.line F1) (if live then write_faults n env (form_uses h.form env h.place) else []) d (effect_to (form_effect h.form env) h.place d k)
line_to (within.Function n live) h env d (inr k) =
    Contains-append_right (error_if (form_effect h.form env) h.place.file h.place.line F1) (if live then write_faults n env (form_uses h.form env h.place) else []) d
    (if_to live (write_faults n env (form_uses h.form env h.place)) d k.0 (outside_to n env (form_uses h.form env h.place) d k.1))

result_from : (formals : List ScopeEntry) (results : List TypedExpr) (env : Env) (line : Location) (d : Diag) → Contains (side_effect_faults formals results env line) d
    → IsEffectAt (each_effect results (env ++ entry_bounds formals)) line d ⊎ IsWriteOutside (length env) (env ++ entry_bounds formals) (each_uses results (env ++ entry_bounds formals) line) d
result_from formals results env line d c =
    let inside = env ++ entry_bounds formals in
    elim (Contains-append_cases (error_if (each_effect results inside) line.file line.line F1) (write_faults (length env) inside (each_uses results inside line)) d c) [
      | inl k ↦ inl (effect_from (each_effect results (env ++ entry_bounds formals)) line d k)
      | inr k ↦ inr (writes_from (length env) (env ++ entry_bounds formals) (each_uses results (env ++ entry_bounds formals) line) d k)
    ]

one_line_from : (f : TypedForm) (env : Env) (line : Location) (d : Diag) → Contains (one_line_faults f env line) d → IsOneLineFault f env line d
one_line_from (form.OneLineFunction formals results) env line d c = result_from formals results env line d c
one_line_from other env line d c = absurd (none d c)

one_line_to : (f : TypedForm) (env : Env) (line : Location) (d : Diag) → IsOneLineFault f env line d → Contains (one_line_faults f env line) d
one_line_to (form.OneLineFunction formals results) env line d (inl k) =
    Contains-append_left (error_if (each_effect results (env ++ entry_bounds formals)) line.file line.line F1) (write_faults (length env) (env ++ entry_bounds formals) (each_uses results (env ++ entry_bounds formals) line)) d
    (effect_to (each_effect results (env ++ entry_bounds formals)) line d k)
one_line_to (form.OneLineFunction formals results) env line d (inr k) =
    Contains-append_right (error_if (each_effect results (env ++ entry_bounds formals)) line.file line.line F1) (write_faults (length env) (env ++ entry_bounds formals) (each_uses results (env ++ entry_bounds formals) line)) d
    (outside_to (length env) (env ++ entry_bounds formals) (each_uses results (env ++ entry_bounds formals) line) d k)
one_line_to other env line d k = absurd k

-- ---- of all lines

found : (w : Within) (t : Trees) (outer env : Env) (d : Diag) → Contains (faults w t outer env) d → (p : Placed) × StandsWithin w t outer env p × IsFaultOf p d
found w Empty outer env d c = absurd (none d c)
found w (Tree h t following) outer env d c =
    elim (Contains-append_cases (whole_faults w h t env) (faults w following outer (after_line outer env h t)) d c) [
      | inl line ↦ elim (Contains-append_cases (line_faults w h env) (one_line_faults h.form env h.place ++ faults (within_under h.form (length env) w) t (inner env h) (inner env h)) d line) [
        | inl own ↦ (record { within = w; line = h; env = env }, here w h t following outer env, inl (line_from w h env d own))
        | inr more ↦ elim (Contains-append_cases (one_line_faults h.form env h.place) (faults (within_under h.form (length env) w) t (inner env h) (inner env h)) d more) [
          | inl result ↦ (record { within = w; line = h; env = env }, here w h t following outer env, inr (one_line_from h.form env h.place d result))
          | inr below ↦ let r = found (within_under h.form (length env) w) t (inner env h) (inner env h) d below in (r.0, under w h t following outer env r.0 r.1, r.2)
        ]
      ]
      | inr rest ↦ let r = found w following outer (after_line outer env h t) d rest in (r.0, behind w h t following outer env r.0 r.1, r.2)
    ]

fault_of : (w : Within) (h : Head) (t : Trees) (env : Env) (d : Diag) → IsFaultOf (record { within = w; line = h; env = env }) d → Contains (whole_faults w h t env) d
fault_of w h t env d (inl k) =
    Contains-append_left (line_faults w h env) (one_line_faults h.form env h.place ++ faults (within_under h.form (length env) w) t (inner env h) (inner env h)) d (line_to w h env d k)
fault_of w h t env d (inr k) =
    Contains-append_right (line_faults w h env) (one_line_faults h.form env h.place ++ faults (within_under h.form (length env) w) t (inner env h) (inner env h)) d
    (Contains-append_left (one_line_faults h.form env h.place) (faults (within_under h.form (length env) w) t (inner env h) (inner env h)) d (one_line_to h.form env h.place d k))

given : (w : Within) (t : Trees) (outer env : Env) (p : Placed) (d : Diag) → StandsWithin w t outer env p → IsFaultOf p d → Contains (faults w t outer env) d
given _ _ _ _ _ d (here w h t following outer env) k =
    Contains-append_left (whole_faults w h t env) (faults w following outer (after_line outer env h t)) d (fault_of w h t env d k)
given _ _ _ _ _ d (under w h t following outer env p s) k =
    Contains-append_left (whole_faults w h t env) (faults w following outer (after_line outer env h t)) d
    (Contains-append_right (line_faults w h env) (one_line_faults h.form env h.place ++ faults (within_under h.form (length env) w) t (inner env h) (inner env h)) d
    (Contains-append_right (one_line_faults h.form env h.place) (faults (within_under h.form (length env) w) t (inner env h) (inner env h)) d
    (given (within_under h.form (length env) w) t (inner env h) (inner env h) p d s k)))
given _ _ _ _ _ d (behind w h t following outer env p s) k =
    Contains-append_right (whole_faults w h t env) (faults w following outer (after_line outer env h t)) d (given w following outer (after_line outer env h t) p d s k)

pub function_law : (ls : List TypedLine) (d : Diag) → Contains (function_faults ls) d ↔ IsFunctionFault ls d
function_law ls d = (λ c. found within.Nothing (trees_of ls) [] [] d c, λ h. given within.Nothing (trees_of ls) [] [] h.0 d h.1 h.2)
