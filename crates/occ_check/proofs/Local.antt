-- The check of a unit asks what the rules give only for units that it rests on.
use Rattle.std.proofs.Common.{◌≡◌, ◌∙◌, ◌||◌, ℕ, Bool, true, false, List, [], ◌∷◌, map, refl, ap, if◌then◌else◌}
use Rattle.std.proofs.lemmas.Slice.Eq.{bytes_eq-Decides}
use Rattle.std.specs.List.{filter}
use Rattle.std.specs.Str.{bytes_eq}
use Rattle.occ_check.specs.declared.used.UsedUnit.{UsedUnit}
use Rattle.occ_project.specs.Entries.{is_among}
use Rattle.occ_project.specs.declared.reads.Read.{Read}
use Rattle.occ_check.specs.Checks.{check_of, check_step, used_as, used_unit}
use Rattle.occ_check.specs.declared.checked.Checked.{Checked}
use Rattle.occ_project_units.specs.Along.{IsLocal}
use Rattle.occ_project_units.specs.Indices.{is_below, standing_of}
use Rattle.occ_project_units.specs.Units.{unit_reads, used_units}
use Rattle.occ_project_units.specs.declared.standing.Standing.{Standing}
use Rattle.occ_project_units.specs.declared.standing.Standing.TheVariants as standing

or_left : (a b : Bool) → a ≡ true → (a || b) ≡ true
or_left a b h = ap (λ (x : Bool). x || b) h

or_right : (a b : Bool) → b ≡ true → (a || b) ≡ true
or_right true b h = refl
or_right false b h = h

among_first : (v : List ℕ) (vs : List (List ℕ)) → is_among (v ∷ vs) v ≡ true
among_first v vs = or_left (bytes_eq v v) (is_among vs v) ((bytes_eq-Decides v v).1 refl)

-- what is among names is among those of them that pass a test, if it passes
kept : (b : Bool) (w v : List ℕ) (ws : List (List ℕ)) → is_among ws v ≡ true → is_among (if b then w ∷ ws else ws) v ≡ true
kept true w v ws h = or_right (bytes_eq w v) (is_among ws v) h
kept false w v ws h = h

first_kept : (b : Bool) (w v : List ℕ) (ws : List (List ℕ)) → b ≡ true → w ≡ v → is_among (if b then w ∷ ws else ws) v ≡ true
first_kept true w v ws h e = or_left (bytes_eq w v) (is_among ws v) ((bytes_eq-Decides w v).1 e)
first_kept false w v ws h e = absurd cc

among_by : (p : List ℕ → Bool) (w v : List ℕ) (ws : List (List ℕ)) (b : Bool) → bytes_eq w v ≡ b → p v ≡ true → (b || is_among ws v) ≡ true → (is_among ws v ≡ true → is_among (filter p ws) v ≡ true) → is_among (filter p (w ∷ ws)) v ≡ true
among_by p w v ws true e h a rest = let same : w ≡ v = (bytes_eq-Decides w v).0 e in first_kept (p w) w v (filter p ws) (ap p same ∙ h) same
among_by p w v ws false e h a rest = kept (p w) w v (filter p ws) (rest a)

filter_among : (p : List ℕ → Bool) (vs : List (List ℕ)) (v : List ℕ) → p v ≡ true → is_among vs v ≡ true → is_among (filter p vs) v ≡ true
filter_among p [] v h a = a
filter_among p (w ∷ ws) v h a = among_by p w v ws (bytes_eq w v) refl h a (filter_among p ws v h)

-- two functions that agree on these names
pub map_among : {X : Type 0} (f g : List ℕ → X) (vs : List (List ℕ)) → ((v : List ℕ) → is_among vs v ≡ true → f v ≡ g v) → map f vs ≡ map g vs
map_among f g [] e = refl
map_among {X} f g (v ∷ vs) e =
    ap (λ (x : X). x ∷ map f vs) (e v (among_first v vs))
    ∙ ap (λ (xs : List X). g v ∷ xs) (map_among f g vs (λ w a. e w (or_right (bytes_eq v w) (is_among vs w) a)))

-- of a unit that stands otherwise than below nothing is asked
asked_below : (s : Standing) (x y : Checked) → (is_below s ≡ true → x ≡ y) → used_as s x.interface ≡ used_as s y.interface
asked_below standing.Absent x y e = refl
asked_below standing.Circular x y e = refl
asked_below standing.Below x y e = ap (λ (c : Checked). used_as standing.Below c.interface) (e refl)

pub is_local : (files : List Read) → IsLocal files (check_step files)
is_local files u f h same = ap (λ (us : List UsedUnit). check_of (record { unit = u; reads = unit_reads files u; used = us })) (map_among (used_unit files u f) (used_unit files u h) (used_units files u) each) where
  each : (v : List ℕ) → is_among (used_units files u) v ≡ true → used_unit files u f v ≡ used_unit files u h v
  each v a = ap (λ used. record { unit = v; used = used }) (asked_below (standing_of files u v) (f v) (h v) (λ below. same v (filter_among (λ w. is_below (standing_of files u w)) (used_units files u) v below a)))
