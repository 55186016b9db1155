-- What the file at an index reads.
use Rattle.std.proofs.Common.{◌≡◌, ◌∙◌, ◌<◌, ℕ, zero, suc, List, [], ◌∷◌, length, map, Option, Some, None, refl, sym, ap, arith}
use Rattle.std.specs.List.{slice_get}
use Rattle.std.specs.Option.{option_map, unwrap_or}
use Rattle.occ_project.specs.declared.reads.Read.{Read}
use Rattle.occ_project_units.specs.Along.{name_at}
use Rattle.occ_project_units.specs.Units.{read_names}
use Rattle.occ_project_units.specs.declared.facts.Facts.{Facts}
use Rattle.occ_project_units.specs.inside.Keeping.{all_facts, facts_of}

mapped : {X Y : Type 0} (f : X → Y) (xs : List X) (p : ℕ) (y : Y) → slice_get (map f xs) p ≡ Some y → (x : X) × ((slice_get xs p ≡ Some x) × (y ≡ f x))
mapped f [] p y e = absurd cc
mapped f (x ∷ xs) zero y e = let is : f x ≡ y = cc in (x, (refl, sym is))
mapped f (x ∷ xs) (suc p) y e = mapped f xs p y e

mapped_none : {X Y : Type 0} (f : X → Y) (xs : List X) (p : ℕ) → slice_get (map f xs) p ≡ None → p < length xs → ⊥
mapped_none f [] p e lt = omega (arith, lt)
mapped_none f (x ∷ xs) zero e lt = cc
mapped_none f (x ∷ xs) (suc p) e lt = mapped_none f xs p e (omega (arith, lt))

pub read_at : (files : List Read) (facts : List Facts) (p : ℕ) (known : Facts) → facts ≡ all_facts files → Some known ≡ slice_get facts p → known.reads ≡ read_names files (name_at files p)
read_at files facts p known f e =
    let there = mapped (λ (file : Read). facts_of files file.name) files p known (sym (ap (λ (fs : List Facts). slice_get fs p) f) ∙ sym e) in
    let file = there.0 in
    let named : name_at files p ≡ file.name = ap (λ (o : Option Read). unwrap_or (option_map (λ (x : Read). x.name) o) []) there.1.0 in
    ap (λ (x : Facts). x.reads) there.1.1 ∙ ap (read_names files) (sym named)

pub none_at : (files : List Read) (facts : List Facts) (p : ℕ) → facts ≡ all_facts files → None ≡ slice_get facts p → p < length files → ⊥
none_at files facts p f e lt = mapped_none (λ (file : Read). facts_of files file.name) files p (sym (ap (λ (fs : List Facts). slice_get fs p) f) ∙ sym e) lt
