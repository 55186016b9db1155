-- Where no FUNCTION is specified, the function rule reports nothing.
use Rattle.std.proofs.Common.{arith, ◌≡◌, ◌∙◌, ℕ, Bool, true, false, ◌||◌, Option, Some, None, List, [], ◌++◌, length, refl, ap, sym}
use Rattle.occ_base.specs.declared.diag.Diag.{Diag}
use Rattle.occ_usage_values.specs.Bounds.{Env}
use Rattle.occ_project.specs.declared.expanded.Location.{Location}
use Rattle.occ_typing.specs.Forms.{TypedForm}
use Rattle.occ_typing.specs.FormVariants as form
use Rattle.occ_typing_statements.specs.declared.replicator_tree.KnownReplicator.{KnownReplicator}
use Rattle.occ_usage.specs.Effect.{inner}
use Rattle.occ_usage.specs.FunctionRule.{counted_by, faults, has_function, is_function, one_line_faults, within_under}
use Rattle.occ_usage.specs.Lines.{after_line, known_of}
use Rattle.occ_usage.specs.Trees.{Empty, Head, Tree, Trees}
use Rattle.occ_usage.specs.declared.function.Within.{Within}
use Rattle.occ_usage.specs.declared.function.Within.TheVariants as within

left_false : (a c : Bool) → (a || c) ≡ false → a ≡ false
left_false true c e = e
left_false false c e = refl

right_false : (a c : Bool) → (a || c) ≡ false → c ≡ false
right_false true c e = absurd (grind (arith, e))
right_false false c e = e

of_one_line : (f : TypedForm) (env : Env) (line : Location) → is_function f ≡ false → one_line_faults f env line ≡ []
of_one_line (form.OneLineFunction formals results) env line e = absurd (grind (arith, e))
of_one_line other env line e = refl

counted_nothing : (k : Option KnownReplicator) → counted_by k within.Nothing ≡ within.Nothing
counted_nothing None = refl
counted_nothing (Some k) = refl

stays_nothing : (f : TypedForm) (n : ℕ) → is_function f ≡ false → within_under f n within.Nothing ≡ within.Nothing
stays_nothing form.FunctionHead n e = absurd (grind (arith, e))
stays_nothing form.ProcedureHead n e = refl
stays_nothing (form.Block kind r) n e = counted_nothing (known_of r)
stays_nothing other n e = refl

pub none_reported : (t : Trees) (outer env : Env) → has_function t ≡ false → faults within.Nothing t outer env ≡ []
none_reported Empty outer env e = refl
none_reported (Tree h t following) outer env e =
    let here = left_false (is_function h.form || has_function t) (has_function following) e in
    let own = left_false (is_function h.form) (has_function t) here in
    let below = right_false (is_function h.form) (has_function t) here in
    ap (λ (ds : List Diag). (ds ++ faults (within_under h.form (length env) within.Nothing) t (inner env h) (inner env h)) ++ faults within.Nothing following outer (after_line outer env h t)) (of_one_line h.form env h.place own)
    ∙ ap (λ (w : Within). faults w t (inner env h) (inner env h) ++ faults within.Nothing following outer (after_line outer env h t)) (stays_nothing h.form (length env) own)
    ∙ ap (λ (ds : List Diag). ds ++ faults within.Nothing following outer (after_line outer env h t)) (none_reported t (inner env h) (inner env h) below)
    ∙ none_reported following outer (after_line outer env h t) (right_false (is_function h.form || has_function t) (has_function following) e)

-- ---- looked for line by line

pub next_line : (h : Head) (t rest all : Trees) (whole : Bool) → all ≡ Tree h t rest → has_function all ≡ whole
    → (is_function h.form || has_function t) ≡ false → has_function rest ≡ whole
next_line h t rest all whole is before none = ap (λ (s : Bool). s || has_function rest) (sym none) ∙ ap has_function (sym is) ∙ before

pub found_line : (h : Head) (t rest all : Trees) (whole : Bool) → all ≡ Tree h t rest → has_function all ≡ whole
    → (is_function h.form || has_function t) ≡ true → true ≡ whole
found_line h t rest all whole is before some = ap (λ (s : Bool). s || has_function rest) (sym some) ∙ ap has_function (sym is) ∙ before
