-- One line of a walk over lines.
use Rattle.std.proofs.Common.{◌≡◌, ◌∙◌, ◌≤◌, ◌+◌, ℕ, Bool, true, false, ◌||◌, Option, Some, None, List, [], ◌∷◌, ◌++◌, length, length-append, take, if◌then◌else◌, refl, ap, sym, subst, arith, append_assoc}
use Rattle.std.proofs.lemmas.List.{length-take-le, take-append-le, take_all}
use Rattle.std.specs.Prelude.{drop}
use Rattle.occ_base.specs.declared.diag.Diag.{Diag}
use Rattle.occ_usage_values.specs.Bounds.{Env}
use Rattle.occ_usage_values.specs.declared.uses.Use.{Use}
use Rattle.occ_usage_conflicts.specs.Components.{joined}
use Rattle.occ_alias.specs.Entering.{body_bound, specified}
use Rattle.occ_scope.specs.declared.meaning.ScopeEntry.{ScopeEntry}
use Rattle.occ_usage.specs.EachLine.{line_use, lines_use}
use Rattle.occ_usage.specs.Effect.{effect_after, effect_under, is_body, line_effect, lines_effect}
use Rattle.occ_usage.specs.FunctionRule.{faults, whole_faults}
use Rattle.occ_usage.specs.Lines.{added, added_by, body_over, after_by, after_line, after_lines, ends_item, items, items_of, line_uses}
use Rattle.occ_usage.specs.Processes.{all_passed, passed, process_uses, whole_uses}
use Rattle.occ_usage.specs.Trees.{Empty, Head, Tree, Trees}
use Rattle.occ_usage.specs.Walk.{Rule, line_reported, reported, reported_of}
use Rattle.occ_usage.specs.declared.function.Within.{Within}

-- ---- what stands in scope round lines stands there still

-- cut back to it
cut_back : (depth : ℕ) (outer env : Env) → depth ≤ length env → take depth env ≡ outer → (depth ≤ length outer) × (take depth outer ≡ outer)
cut_back depth outer env h round =
    let n : length outer ≡ depth = ap length (sym round) ∙ length-take-le depth env h in
    (omega (arith, n), take_all depth outer (omega (arith, n)))

more_stands : (depth : ℕ) (outer env more : Env) → depth ≤ length env → take depth env ≡ outer → (depth ≤ length (env ++ more)) × (take depth (env ++ more) ≡ outer)
more_stands depth outer env more h round =
    let n : length (env ++ more) ≡ length env + length more = length-append env more in
    (omega (arith, n, h), take-append-le depth env more h ∙ round)

-- after a line
stands_by : (s : Bool) (depth : ℕ) (outer env more : Env) → depth ≤ length env → take depth env ≡ outer
    → (depth ≤ length (if s then outer else env ++ more)) × (take depth (if s then outer else env ++ more) ≡ outer)
stands_by true depth outer env more h round = cut_back depth outer env h round
stands_by false depth outer env more h round = more_stands depth outer env more h round

ended : (s : Bool) (depth : ℕ) (outer env more grown : Env) → depth ≤ length env → take depth env ≡ outer → grown ≡ env ++ more
    → (if s then take depth grown else grown) ≡ (if s then outer else env ++ more)
ended true depth outer env more grown h round is = ap (take depth) is ∙ (more_stands depth outer env more h round).1
ended false depth outer env more grown h round is = is

pub end_stands : (s : Bool) (depth : ℕ) (outer env more grown following : Env) → depth ≤ length env → take depth env ≡ outer → grown ≡ env ++ more
    → following ≡ (if s then take depth grown else grown) → (depth ≤ length following) × (take depth following ≡ outer)
end_stands s depth outer env more grown following h round is e =
    subst (λ (z : Env). (depth ≤ length z) × (take depth z ≡ outer)) (sym (e ∙ ended s depth outer env more grown h round is)) (stands_by s depth outer env more h round)

after_is : (adds : Option (List ScopeEntry)) (outer env : Env) (h : Head) (t : Trees) → (if ends_item adds then outer else env ++ added env h t (items_of t)) ≡ after_by outer env h t adds
after_is None outer env h t = refl
after_is (Some entries) outer env h t = refl

pub end_after : (depth : ℕ) (outer env grown following : Env) (h : Head) (t : Trees) → depth ≤ length env → take depth env ≡ outer → grown ≡ env ++ added env h t (items_of t)
    → following ≡ (if ends_item h.adds then take depth grown else grown) → following ≡ after_line outer env h t
end_after depth outer env grown following h t within round is e =
    e ∙ ended (ends_item h.adds) depth outer env (added env h t (items_of t)) grown within round is ∙ after_is h.adds outer env h t

-- ---- the uses of items

items_by : (s : Bool) (t : Trees) (outer env : Env) (own own1 : List Use) (found found1 : List (List Use))
    → own1 ≡ (if s then [] else own) → found1 ≡ (if s then found ++ own ∷ [] else found)
    → found1 ++ items t outer (if s then outer else env) own1 ≡ found ++ (if s then own ∷ items t outer outer [] else items t outer env own)
items_by true t outer env own own1 found found1 o f =
    ap (λ (z : List Use). found1 ++ items t outer outer z) o
    ∙ ap (λ (z : List (List Use)). z ++ items t outer outer []) f
    ∙ append_assoc found (own ∷ []) (items t outer outer [])
items_by false t outer env own own1 found found1 o f =
    ap (λ (z : List Use). found1 ++ items t outer env z) o
    ∙ ap (λ (z : List (List Use)). z ++ items t outer env own) f

pub step_items : (h : Head) (t rest all : Trees) (depth : ℕ) (outer env grown following : Env) (own more own1 : List Use) (found found1 whole : List (List Use))
    → depth ≤ length env → take depth env ≡ outer
    → all ≡ Tree h t rest
    → found ++ items all outer env own ≡ whole
    → grown ≡ env ++ added env h t (items_of t)
    → more ≡ own ++ line_uses env h (items_of t)
    → following ≡ (if ends_item h.adds then take depth grown else grown)
    → own1 ≡ (if ends_item h.adds then [] else more)
    → found1 ≡ (if ends_item h.adds then found ++ more ∷ [] else found)
    → found1 ++ items rest outer following own1 ≡ whole
step_items h t rest all depth outer env grown following own more own1 found found1 whole within round is before made used e o f =
    let next : following ≡ (if ends_item h.adds then outer else env ++ added env h t (items_of t)) = e ∙ ended (ends_item h.adds) depth outer env (added env h t (items_of t)) grown within round made in
    ap (λ (z : Env). found1 ++ items rest outer z own1) next
    ∙ items_by (ends_item h.adds) rest outer (env ++ added env h t (items_of t)) more own1 found found1 o f
    ∙ ap (λ (z : List Use). found ++ (if ends_item h.adds then z ∷ items rest outer outer [] else items rest outer (env ++ added env h t (items_of t)) z)) used
    ∙ ap (λ (z : Trees). found ++ items z outer env own) (sym is)
    ∙ before

-- ---- the uses of all items as of one

pub joined_after : (xs : List (List Use)) (ys : List Use) → joined (xs ++ ys ∷ []) ≡ joined xs ++ ys
joined_after [] ys = append_nil ys where
  append_nil : (zs : List Use) → zs ++ [] ≡ zs
  append_nil [] = refl
  append_nil (z ∷ zs) = ap (λ (more : List Use). z ∷ more) (append_nil zs)
joined_after (x ∷ xs) ys = ap (λ (z : List Use). x ++ z) (joined_after xs ys) ∙ sym (append_assoc x (joined xs) ys)

pub joined_more : (old uses more used : List Use) (xs : List (List Use)) → uses ≡ old ++ joined xs → more ≡ uses ++ used → more ≡ old ++ joined (xs ++ used ∷ [])
joined_more old uses more used xs before e =
    e ∙ ap (λ (z : List Use). z ++ used) before ∙ append_assoc old (joined xs) used ∙ ap (λ (z : List Use). old ++ z) (sym (joined_after xs used))

joined_own : (t : Trees) (outer env : Env) (own : List Use) → joined (items t outer env own) ≡ own ++ joined (items t outer env [])
joined_own Empty outer env own = refl
joined_own (Tree h t following) outer env own = by_end (ends_item h.adds) (λ (us : List Use). joined_own following outer (env ++ added env h t (items_of t)) us) where
  by_end : (s : Bool) → ((us : List Use) → joined (items following outer (env ++ added env h t (items_of t)) us) ≡ us ++ joined (items following outer (env ++ added env h t (items_of t)) []))
      → joined (if s then (own ++ line_uses env h (items_of t)) ∷ items following outer outer [] else items following outer (env ++ added env h t (items_of t)) (own ++ line_uses env h (items_of t)))
      ≡ own ++ joined (if s then line_uses env h (items_of t) ∷ items following outer outer [] else items following outer (env ++ added env h t (items_of t)) (line_uses env h (items_of t)))
  by_end true more = append_assoc own (line_uses env h (items_of t)) (joined (items following outer outer []))
  by_end false more =
      more (own ++ line_uses env h (items_of t))
      ∙ append_assoc own (line_uses env h (items_of t)) (joined (items following outer (env ++ added env h t (items_of t)) []))
      ∙ ap (λ (z : List Use). own ++ z) (sym (more (line_uses env h (items_of t))))

first_joined : (s : Bool) (t : Trees) (outer env : Env) (used : List Use)
    → joined (if s then used ∷ items t outer outer [] else items t outer env used) ≡ used ++ joined (items t outer (if s then outer else env) [])
first_joined true t outer env used = refl
first_joined false t outer env used = joined_own t outer env used

pub step_joined : (h : Head) (t rest all : Trees) (depth : ℕ) (outer env grown following : Env) (uses more whole : List Use)
    → depth ≤ length env → take depth env ≡ outer
    → all ≡ Tree h t rest
    → uses ++ joined (items all outer env []) ≡ whole
    → grown ≡ env ++ added env h t (items_of t)
    → more ≡ uses ++ line_uses env h (items_of t)
    → following ≡ (if ends_item h.adds then take depth grown else grown)
    → more ++ joined (items rest outer following []) ≡ whole
step_joined h t rest all depth outer env grown following uses more whole within round is before made used e =
    let next : following ≡ (if ends_item h.adds then outer else env ++ added env h t (items_of t)) = e ∙ ended (ends_item h.adds) depth outer env (added env h t (items_of t)) grown within round made in
    ap (λ (z : Env). more ++ joined (items rest outer z [])) next
    ∙ ap (λ (z : List Use). z ++ joined (items rest outer (if ends_item h.adds then outer else env ++ added env h t (items_of t)) [])) used
    ∙ append_assoc uses (line_uses env h (items_of t)) (joined (items rest outer (if ends_item h.adds then outer else env ++ added env h t (items_of t)) []))
    ∙ ap (λ (z : List Use). uses ++ z) (sym (first_joined (ends_item h.adds) rest outer (env ++ added env h t (items_of t)) (line_uses env h (items_of t))))
    ∙ ap (λ (z : Trees). uses ++ joined (items z outer env [])) (sym is)
    ∙ before

-- ---- what comes into scope after a line: of the uses under it only by a body

pub added_alike : (env : Env) (h : Head) (us vs : List Use) (does : Bool) (adds : Option (List ScopeEntry)) → (is_body h.form ≡ true → us ≡ vs) → added_by env h us does adds ≡ added_by env h vs does adds
added_alike env h us vs does None e = refl
added_alike env h us vs does (Some entries) e = by_body (is_body h.form) refl where
  by_body : (s : Bool) → is_body h.form ≡ s
      → (if s then body_over env h us does ∷ [] else specified env h.place entries h.form) ≡ (if s then body_over env h vs does ∷ [] else specified env h.place entries h.form)
  by_body true is = ap (λ (z : List Use). body_over env h z does ∷ []) (e is)
  by_body false is = refl

pub drop_own : {X : Type 0} (old own : List X) → drop (length old) (old ++ own) ≡ own
drop_own [] own = refl
drop_own (x ∷ old) own = drop_own old own

-- ---- what a rule reports

pub step_reported : (rule : Rule) (h : Head) (t rest all : Trees) (outer env following : Env) (found found1 whole : List Diag)
    → all ≡ Tree h t rest
    → found ++ reported rule all outer env ≡ whole
    → found1 ≡ found ++ line_reported rule env h t (reported_of rule t)
    → following ≡ after_line outer env h t
    → found1 ++ reported rule rest outer following ≡ whole
step_reported rule h t rest all outer env following found found1 whole is before more e =
    ap (λ (z : Env). found1 ++ reported rule rest outer z) e
    ∙ ap (λ (z : List Diag). z ++ reported rule rest outer (after_line outer env h t)) more
    ∙ append_assoc found (line_reported rule env h t (reported_of rule t)) (reported rule rest outer (after_line outer env h t))
    ∙ ap (λ (z : Trees). found ++ reported rule z outer env) (sym is)
    ∙ before

-- ---- what stands in scope after lines

pub step_after : (h : Head) (t rest all : Trees) (outer env following whole : Env)
    → all ≡ Tree h t rest
    → after_lines all outer env ≡ whole
    → following ≡ after_line outer env h t
    → after_lines rest outer following ≡ whole
step_after h t rest all outer env following whole is before e =
    ap (after_lines rest outer) e ∙ ap (λ (z : Trees). after_lines z outer env) (sym is) ∙ before

-- ---- what the function rule reports

pub step_faults : (w : Within) (h : Head) (t rest all : Trees) (outer env following : Env) (found found1 whole : List Diag)
    → all ≡ Tree h t rest
    → found ++ faults w all outer env ≡ whole
    → found1 ≡ found ++ whole_faults w h t env
    → following ≡ after_line outer env h t
    → found1 ++ faults w rest outer following ≡ whole
step_faults w h t rest all outer env following found found1 whole is before more e =
    ap (λ (z : Env). found1 ++ faults w rest outer z) e
    ∙ ap (λ (z : List Diag). z ++ faults w rest outer (after_line outer env h t)) more
    ∙ append_assoc found (whole_faults w h t env) (faults w rest outer (after_line outer env h t))
    ∙ ap (λ (z : Trees). found ++ faults w z outer env) (sym is)
    ∙ before

-- ---- uses, each at its line

pub step_lines_use : (h : Head) (t rest all : Trees) (outer env following : Env) (found found1 whole : List Use)
    → all ≡ Tree h t rest
    → found ++ lines_use all outer env ≡ whole
    → found1 ≡ found ++ line_use env h t
    → following ≡ after_line outer env h t
    → found1 ++ lines_use rest outer following ≡ whole
step_lines_use h t rest all outer env following found found1 whole is before more e =
    ap (λ (z : Env). found1 ++ lines_use rest outer z) e
    ∙ ap (λ (z : List Use). z ++ lines_use rest outer (after_line outer env h t)) more
    ∙ append_assoc found (line_use env h t) (lines_use rest outer (after_line outer env h t))
    ∙ ap (λ (z : Trees). found ++ lines_use z outer env) (sym is)
    ∙ before

-- ---- uses of a process

pub step_process : (left next : Option ℕ) (h : Head) (t rest all : Trees) (outer env following : Env) (found found1 whole : List Use)
    → all ≡ Tree h t rest
    → found ++ process_uses left all outer env ≡ whole
    → found1 ≡ found ++ whole_uses left h t env
    → next ≡ all_passed t (passed h.is_process left)
    → following ≡ after_line outer env h t
    → found1 ++ process_uses next rest outer following ≡ whole
step_process left next h t rest all outer env following found found1 whole is before more on e =
    let after = all_passed t (passed h.is_process left) in
    ap (λ (z : Env). found1 ++ process_uses next rest outer z) e
    ∙ ap (λ (z : Option ℕ). found1 ++ process_uses z rest outer (after_line outer env h t)) on
    ∙ ap (λ (z : List Use). z ++ process_uses after rest outer (after_line outer env h t)) more
    ∙ append_assoc found (whole_uses left h t env) (process_uses after rest outer (after_line outer env h t))
    ∙ ap (λ (z : Trees). found ++ process_uses left z outer env) (sym is)
    ∙ before

pub step_passed : (left next last : Option ℕ) (h : Head) (t rest all : Trees)
    → all ≡ Tree h t rest
    → all_passed all left ≡ last
    → next ≡ all_passed t (passed h.is_process left)
    → all_passed rest next ≡ last
step_passed left next last h t rest all is before on = ap (all_passed rest) on ∙ ap (λ (z : Trees). all_passed z left) (sym is) ∙ before

-- after a line where the walk itself goes
after_stands_by : (adds : Option (List ScopeEntry)) (depth : ℕ) (outer env : Env) (h : Head) (t : Trees) → depth ≤ length env → take depth env ≡ outer
    → (depth ≤ length (after_by (take depth env) env h t adds)) × (take depth (after_by (take depth env) env h t adds) ≡ outer)
after_stands_by None depth outer env h t within round =
    let r = cut_back depth outer env within round in
    (subst (λ (z : Env). depth ≤ length z) (sym round) r.0, ap (take depth) round ∙ r.1)
after_stands_by (Some entries) depth outer env h t within round = more_stands depth outer env (added env h t (items_of t)) within round

pub after_stands : (depth : ℕ) (outer env following : Env) (h : Head) (t : Trees) → depth ≤ length env → take depth env ≡ outer
    → following ≡ after_line (take depth env) env h t
    → (depth ≤ length following) × (take depth following ≡ outer) × (following ≡ after_line outer env h t)
after_stands depth outer env following h t within round e =
    let r = subst (λ (z : Env). (depth ≤ length z) × (take depth z ≡ outer)) (sym e) (after_stands_by h.adds depth outer env h t within round) in
    (r.0, r.1, e ∙ ap (λ (z : Env). after_line z env h t) round)

-- ---- effects

effect_stands_by : (adds : Option (List ScopeEntry)) (depth : ℕ) (outer env : Env) (h : Head) (does : Bool) → depth ≤ length env → take depth env ≡ outer
    → (depth ≤ length (effect_after (take depth env) env h does adds)) × (take depth (effect_after (take depth env) env h does adds) ≡ outer)
effect_stands_by None depth outer env h does within round =
    let r = cut_back depth outer env within round in
    (subst (λ (z : Env). depth ≤ length z) (sym round) r.0, ap (take depth) round ∙ r.1)
effect_stands_by (Some entries) depth outer env h does within round =
    more_stands depth outer env (if is_body h.form then body_bound [] does ∷ [] else specified env h.place entries h.form) within round

pub effect_stands : (depth : ℕ) (outer env following : Env) (h : Head) (does : Bool) → depth ≤ length env → take depth env ≡ outer
    → following ≡ effect_after (take depth env) env h does h.adds
    → (depth ≤ length following) × (take depth following ≡ outer) × (following ≡ effect_after outer env h does h.adds)
effect_stands depth outer env following h does within round e =
    let r = subst (λ (z : Env). (depth ≤ length z) × (take depth z ≡ outer)) (sym e) (effect_stands_by h.adds depth outer env h does within round) in
    (r.0, r.1, e ∙ ap (λ (z : Env). effect_after z env h does h.adds) round)

or_assoc : (a b c : Bool) → ((a || b) || c) ≡ (a || (b || c))
or_assoc true b c = refl
or_assoc false b c = refl

pub step_effect : (h : Head) (t rest all : Trees) (outer env following : Env) (found found1 whole : Bool)
    → all ≡ Tree h t rest
    → (found || lines_effect all outer env) ≡ whole
    → found1 ≡ (found || line_effect env h (effect_under t env h))
    → following ≡ effect_after outer env h (effect_under t env h) h.adds
    → (found1 || lines_effect rest outer following) ≡ whole
step_effect h t rest all outer env following found found1 whole is before more e =
    ap (λ (z : Env). found1 || lines_effect rest outer z) e
    ∙ ap (λ (z : Bool). z || lines_effect rest outer (effect_after outer env h (effect_under t env h) h.adds)) more
    ∙ or_assoc found (line_effect env h (effect_under t env h)) (lines_effect rest outer (effect_after outer env h (effect_under t env h) h.adds))
    ∙ ap (λ (z : Trees). found || lines_effect z outer env) (sym is)
    ∙ before

-- ---- uses, each at its line, after one line more

-- a line leaves what stands in scope at it, and then what comes after it stands there
pub step_each : (h : Head) (t rest all : Trees) (depth : ℕ) (outer env kept following : Env) (found found1 whole : List Use)
    → depth ≤ length env → take depth env ≡ outer
    → kept ≡ env
    → (depth ≤ length kept → following ≡ after_line (take depth kept) kept h t)
    → all ≡ Tree h t rest
    → found ++ lines_use all outer env ≡ whole
    → found1 ≡ found ++ line_use env h t
    → (depth ≤ length following) × (take depth following ≡ outer) × (found1 ++ lines_use rest outer following ≡ whole)
step_each h t rest all depth outer env kept following found found1 whole within round same after is before more =
    let e : depth ≤ length env → following ≡ after_line (take depth env) env h t = subst (λ (z : Env). depth ≤ length z → following ≡ after_line (take depth z) z h t) same after in
    let stands = after_stands depth outer env following h t within round (e within) in
    (stands.0, stands.1, step_lines_use h t rest all outer env following found found1 whole is before more stands.2)
