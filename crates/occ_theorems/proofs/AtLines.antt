-- What the rules give, over the whole project; and where a circle is reported.
use Rattle.std.proofs.Common.{◌≡◌, ◌↔◌, ◌∙◌, ◌⊎◌, ◌++◌, ℕ, Bool, true, cond, List, [], ◌∷◌, map, Option, Some, None, refl, sym, ap, ap₂, subst, inl, inr}
use Rattle.std.specs.List.{Contains, flat_map}
use Rattle.std.specs.declared.cmp.Ordering.TheVariants.{Equal}
use Rattle.occ_base.specs.Errors.{has_error}
use Rattle.occ_base.specs.FileName.{is_unit}
use Rattle.occ_base.specs.Order.{diag_order}
use Rattle.occ_base.specs.declared.code.Code.TheVariants as code
use Rattle.occ_base.specs.declared.diag.Diag.{Diag}
use Rattle.occ_check.specs.Checks.{checked, diags, input, used_unit}
use Rattle.occ_check.specs.Diagnostics.{diags_of, interface_of, judged, unit_faults}
use Rattle.occ_check.specs.Faults.{body_faults, line_faults, own_faults, reported_use, standing as stands, use_code, use_faults}
use Rattle.occ_check.specs.Input.{Input, expansion_in}
use Rattle.occ_check.specs.Language.{following, lines_judged}
use Rattle.occ_check.specs.Order.{in_order}
use Rattle.occ_check.specs.Report.{AreReporting}
use Rattle.occ_check.specs.declared.language.Judgement.{Judgement}
use Rattle.occ_check.specs.declared.used.Used.{Used}
use Rattle.occ_check.specs.declared.used.Used.TheVariants as how
use Rattle.occ_check.specs.declared.used.UsedUnit.{UsedUnit}
use Rattle.occ_project.specs.Expansion.{Expansion, expansion}
use Rattle.occ_project.specs.Uses.{used_in}
use Rattle.occ_project.specs.declared.expanded.ExpandedBody.{ExpandedBody}
use Rattle.occ_project.specs.declared.expanded.ExpandedBody.TheVariants as body
use Rattle.occ_project.specs.declared.expanded.ExpandedLine.{ExpandedLine}
use Rattle.occ_project.specs.declared.reads.Read.{Read}
use Rattle.occ_project_units.specs.Indices.{is_circular}
use Rattle.occ_project_units.specs.Units.{IsCircular, unit_reads}
use Rattle.occ_types.specs.declared.interface.Interface.{Interface}
use Rattle.occ_theorems.specs.Anew.{IsOfCircle, IsUseOf, circle_at, diags_anew, interface_anew, judged_anew, judged_by, used_there}
use Rattle.occ_theorems.proofs.Circles.{expansion_silent, now_circular, own_circle}
use Rattle.occ_usage.proofs.Exact.{same_diags}
use Rattle.occ_theorems.proofs.Members.{Among, from_contains, into_contains, placed_from, placed_into}

-- ---- over the whole project

used_of : (files : List Read) (u : List ℕ) → is_unit u ≡ true → (input files u).used ≡ used_there files u
used_of files u h = ap (λ (b : Bool). map (used_unit files u (checked files)) (cond b (used_in (expansion files u).lines) [])) h

same_judged : (files : List Read) (u : List ℕ) → is_unit u ≡ true → expansion (unit_reads files u) u ≡ expansion files u → judged (input files u) ≡ judged_anew files u
same_judged files u h own = ap₂ judged_by own (used_of files u h)

pub diags_there : (files : List Read) (u : List ℕ) → is_unit u ≡ true → expansion (unit_reads files u) u ≡ expansion files u → diags_of (input files u) ≡ diags_anew files u
unfolding diags_of
diags_there files u h own = ap (λ (j : Judgement). in_order j.faults) (same_judged files u h own)

shown_by : Judgement → Option Interface
shown_by j = cond (has_error (in_order j.faults)) None j.interface

pub interface_there : (files : List Read) (u : List ℕ) → is_unit u ≡ true → expansion (unit_reads files u) u ≡ expansion files u → interface_of (input files u) ≡ interface_anew files u
unfolding interface_of diags_of shown_by
interface_there files u h own = ap shown_by (same_judged files u h own)

-- ---- lists

front : {X : Type 0} (x : X) (xs ys : List X) → Among x xs → Among x (xs ++ ys)
front x [] ys h = absurd h
front x (y ∷ xs) ys (inl e) = inl e
front x (y ∷ xs) ys (inr h) = inr (front x xs ys h)

back : {X : Type 0} (x : X) (xs ys : List X) → Among x ys → Among x (xs ++ ys)
back x [] ys h = h
back x (y ∷ xs) ys h = inr (back x xs ys h)

split : {X : Type 0} (x : X) (xs ys : List X) → Among x (xs ++ ys) → Among x xs ⊎ Among x ys
split x [] ys h = inr h
split x (y ∷ xs) ys (inl e) = inl (inl e)
split x (y ∷ xs) ys (inr h) = elim (split x xs ys h) [
  | inl k ↦ inl (inr k)
  | inr k ↦ inr k
]

into_all : {X Y : Type 0} (f : X → List Y) (xs : List X) (x : X) (y : Y) → Among x xs → Among y (f x) → Among y (flat_map f xs)
into_all f [] x y h g = absurd h
into_all {X} {Y} f (z ∷ xs) x y (inl e) g = front y (f z) (flat_map f xs) (subst (λ (w : X). Among y (f w)) (sym e) g)
into_all f (z ∷ xs) x y (inr h) g = back y (f z) (flat_map f xs) (into_all f xs x y h g)

-- ---- at the line of a use

at_use : (l : ExpandedLine) (v : List ℕ) (s : Used) → s ≡ how.Circular → Among (circle_at l v) (reported_use l v (use_code s))
at_use l v how.Circular e = inl refl
at_use l v how.Absent e = absurd cc
at_use l v how.Faulty e = absurd cc
at_use l v (how.Clean i) e = absurd cc

at_line : (used : List UsedUnit) (l : ExpandedLine) (v : List ℕ) → stands used v ≡ how.Circular → IsUseOf l v → Among (circle_at l v) (own_faults used l)
at_line used l v now (units, is, among) =
    subst (λ (b : ExpandedBody). Among (circle_at l v) (body_faults used l b)) (sym is)
    (into_all (use_faults used l) units v (circle_at l v) (from_contains units v among) (at_use l v (stands used v) now))

-- no other diagnostic has its place
same_circle : (l : ExpandedLine) (v : List ℕ) (e : Diag) → diag_order (circle_at l v) e ≡ Equal → circle_at l v ≡ e
same_circle l v e h = same_diags (circle_at l v) e h

stays_first : (d : Diag) (fs : List Diag) (later : Judgement) → Among d fs → Among d (following fs later).faults
stays_first d [] later h = absurd h
stays_first d (x ∷ fs) later h = h

into_order : (l : ExpandedLine) (v : List ℕ) (ds : List Diag) → Among (circle_at l v) ds → Among (circle_at l v) (in_order ds)
into_order l v ds = placed_into diag_order in_order (λ x xs. refl) ds (circle_at l v) (same_circle l v)

from_order : (ds : List Diag) (d : Diag) → Among d (in_order ds) → Among d ds
from_order = placed_from diag_order in_order refl (λ x xs. refl)

placed_of : (i : Input) (l : ExpandedLine) (v : List ℕ) → Among (circle_at l v) (unit_faults i) → Among (circle_at l v) (diags_of i)
unfolding diags_of
placed_of i l v h = into_order l v (judged i).faults (stays_first (circle_at l v) (unit_faults i) (lines_judged (expansion_in i).lines i.used) h)

only_first : (d : Diag) (fs : List Diag) (later : Judgement) → (fs ≡ [] → ⊥) → Among d (following fs later).faults → Among d fs
only_first d [] later some h = absurd (some refl)
only_first d (x ∷ fs) later some h = h

of_placed : (i : Input) (d : Diag) → (unit_faults i ≡ [] → ⊥) → Among d (diags_of i) → Among d (unit_faults i)
unfolding diags_of
of_placed i d some h = only_first d (unit_faults i) (lines_judged (expansion_in i).lines i.used) some (from_order (judged i).faults d h)

pub circle_placed : (files : List Read) (circles : (u v : List ℕ) → (is_circular files u v ≡ true) ↔ IsCircular files u v) (u v : List ℕ) (l : ExpandedLine)
    → diags files u ≡ diags_of (input files u) → (is_unit u ≡ true → expansion (unit_reads files u) u ≡ expansion files u)
    → IsCircular files u v → Contains (expansion files u).lines l → IsUseOf l v → Contains (diags files u) (circle_at l v)
circle_placed files circles u v l is own h among uses =
    let i = input files u in
    let same : expansion_in i ≡ expansion files u = own (own_circle files circles u v h) in
    let there : Among l (expansion_in i).lines = subst (λ (e : Expansion). Among l e.lines) (sym same) (from_contains (expansion files u).lines l among) in
    let reported : Among (circle_at l v) (line_faults i.used (expansion_in i).lines) = into_all (own_faults i.used) (expansion_in i).lines l (circle_at l v) there (at_line i.used l v (now_circular files circles u v h) uses) in
    into_contains (diags files u) (circle_at l v) (subst (Among (circle_at l v)) (sym is) (placed_of i l v (back (circle_at l v) (expansion_in i).faults (line_faults i.used (expansion_in i).lines) reported)))

-- ---- and nowhere else

from_all : {X Y P : Type 0} (f : X → List Y) (xs : List X) (y : Y) → Among y (flat_map f xs) → ((x : X) → Among x xs → Among y (f x) → P) → P
from_all f [] y h found = absurd h
from_all {X} f (z ∷ xs) y h found = elim (split y (f z) (flat_map f xs) h) [
  | inl k ↦ found z (inl refl) k
  | inr k ↦ from_all f xs y k (λ (x : X) a b. found x (inr a) b)
]

reporting : (ds : List Diag) (d : Diag) (v : List ℕ) → d.code ≡ code.G2 → d.name ≡ Some v → Among d ds → AreReporting ds code.G2 v
reporting [] d v c n h = absurd h
reporting (x ∷ ds) d v c n (inl e) = inl (ap (λ (y : Diag). y.code) e ∙ c, ap (λ (y : Diag). y.name) e ∙ n)
reporting (x ∷ ds) d v c n (inr h) = inr (reporting ds d v c n h)

of_use : (l : ExpandedLine) (w v : List ℕ) (s : Used) (d : Diag) → d.code ≡ code.G2 → d.name ≡ Some v → Among d (reported_use l w (use_code s)) → (w ≡ v) × (d ≡ circle_at l w)
of_use l w v how.Circular d c n (inl e) = let m : Some w ≡ Some v = ap (λ (y : Diag). y.name) e ∙ n in (cc, sym e)
of_use l w v how.Circular d c n (inr h) = absurd h
of_use l w v how.Absent d c n (inl e) = let m : code.G1 ≡ code.G2 = ap (λ (y : Diag). y.code) e ∙ c in absurd cc
of_use l w v how.Absent d c n (inr h) = absurd h
of_use l w v how.Faulty d c n (inl e) = let m : code.G3 ≡ code.G2 = ap (λ (y : Diag). y.code) e ∙ c in absurd cc
of_use l w v how.Faulty d c n (inr h) = absurd h
of_use l w v (how.Clean i) d c n h = absurd h

of_body : (used : List UsedUnit) (l : ExpandedLine) (b : ExpandedBody) (v : List ℕ) (d : Diag) → l.body ≡ b → d.code ≡ code.G2 → d.name ≡ Some v → Among d (body_faults used l b)
    → IsUseOf l v × (d ≡ circle_at l v)
of_body used l (body.Form form) v d is c n h = absurd h
of_body used l (body.Fault x) v d is c n (inl e) = let m : None ≡ Some v = ap (λ (y : Diag). y.name) e ∙ n in absurd cc
of_body used l (body.Fault x) v d is c n (inr h) = absurd h
of_body used l (body.Uses units) v d is c n h =
    from_all (use_faults used l) units d h
    (λ (w : List ℕ) among made.
    let f = of_use l w v (stands used w) d c n made in
    ((units, is, subst (Contains units) f.0 (into_contains units w among)), f.1 ∙ ap (circle_at l) f.0))

pub circle_only : (files : List Read) (circles : (u v : List ℕ) → (is_circular files u v ≡ true) ↔ IsCircular files u v) (u v : List ℕ) (d : Diag) → diags files u ≡ diags_of (input files u) → (is_unit u ≡ true → expansion (unit_reads files u) u ≡ expansion files u)
    → (unit_faults (input files u) ≡ [] → ⊥) → IsCircular files u v → Contains (diags files u) d → d.code ≡ code.G2 → d.name ≡ Some v → IsOfCircle files u v d
circle_only files circles u v d is own some circle h c n =
    let i = input files u in
    let same : expansion_in i ≡ expansion files u = own (own_circle files circles u v circle) in
    let first : Among d (unit_faults i) = of_placed i d some (subst (Among d) is (from_contains (diags files u) d h)) in
    elim (split d (expansion_in i).faults (line_faults i.used (expansion_in i).lines) first) [
      | inl k ↦ absurd (expansion_silent (unit_reads files u) u v (reporting (expansion_in i).faults d v c n k))
      | inr k ↦
          from_all (own_faults i.used) (expansion_in i).lines d k
          (λ (l : ExpandedLine) among made.
          let f = of_body i.used l l.body v d refl c n made in
          record {
            line = l;
            stands = subst (λ (e : Expansion). Contains e.lines l) same (into_contains (expansion_in i).lines l among);
            uses = f.0;
            circle = circle;
            itself = f.1;
          })
    ]

pub reporting_of : (files : List Read) (u v : List ℕ) (d : Diag) → Contains (diags files u) d → d.code ≡ code.G2 → d.name ≡ Some v → AreReporting (diags files u) code.G2 v
reporting_of files u v d h c n = reporting (diags files u) d v c n (from_contains (diags files u) d h)
