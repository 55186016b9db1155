-- What the check of a unit looks at in a project is what a check may look at.
use Rattle.std.proofs.Common.{◌≡◌, ◌∙◌, ◌&&◌, ℕ, Bool, true, false, cond, List, [], ◌∷◌, map, Option, Some, None, refl, sym, ap, if◌then◌else◌}
use Rattle.std.proofs.lemmas.Slice.Eq.{bytes_eq-Decides}
use Rattle.std.specs.List.{find}
use Rattle.std.specs.Option.{is_some, option_and_then, option_map, unwrap_or}
use Rattle.std.specs.Str.{bytes_eq}
use Rattle.occ_base.specs.FileName.{is_unit}
use Rattle.occ_check.specs.Input.{IsInput}
use Rattle.occ_check.specs.declared.used.UsedUnit.{UsedUnit}
use Rattle.occ_forms.specs.Prepared.{Prepared}
use Rattle.occ_project.specs.Expansion.{Expansion, expansion}
use Rattle.occ_project.specs.Reads.{is_named, member, open_lines}
use Rattle.occ_project.specs.Uses.{used_in}
use Rattle.occ_project.specs.declared.reads.Read.{Read}
use Rattle.occ_check.specs.Checks.{checked, input, used_unit}
use Rattle.occ_project_units.specs.Project.{file_of}
use Rattle.occ_project_units.specs.Units.{read_names, unit_reads, used_units}

-- the file of a name has it
found_named : (b : Bool) (file : Read) (name : List ℕ) (rest : Option Read) → bytes_eq file.name name ≡ b
    → (unwrap_or rest (record { name = name; revision = 0; source = None })).name ≡ name
    → (unwrap_or (if b then Some file else rest) (record { name = name; revision = 0; source = None })).name ≡ name
found_named true file name rest e h = (bytes_eq-Decides file.name name).0 e
found_named false file name rest e h = h

named : (files : List Read) (name : List ℕ) → (file_of files name).name ≡ name
named [] name = refl
named (file ∷ files) name = found_named (bytes_eq file.name name) file name (member files name) refl (named files name)

all_named : (files : List Read) (names : List (List ℕ)) → map (λ file. file.name) (map (file_of files) names) ≡ names
all_named files [] = refl
all_named files (name ∷ names) = ap (λ (n : List ℕ). n ∷ map (λ file. file.name) (map (file_of files) names)) (named files name) ∙ ap (λ (ns : List (List ℕ)). name ∷ ns) (all_named files names)

-- the unit is the first of its reads
first_open : (files : List Read) (u : List ℕ) (more : List Read) → is_some (file_of files u).source ≡ true → is_some (open_lines (file_of files u ∷ more) u) ≡ true
first_open files u more h = by_name (bytes_eq (file_of files u).name u) (file_of files u) (find (is_named u) more) ((bytes_eq-Decides (file_of files u).name u).1 (named files u)) h where
  has_lines : (source : Option Prepared) → is_some source ≡ true → is_some (option_map (λ (s : Prepared). s.lines) source) ≡ true
  has_lines (Some s) h = refl
  has_lines None h = h

  by_name : (b : Bool) (file : Read) (rest : Option Read) → b ≡ true → is_some file.source ≡ true → is_some (option_map (λ (s : Prepared). s.lines) (option_and_then (λ (r : Read). r.source) (if b then Some file else rest))) ≡ true
  by_name true file rest e h = has_lines file.source h
  by_name false file rest e h = absurd cc

reads_first : (files : List Read) (u : List ℕ) → is_unit u ≡ true → (more : List (List ℕ)) × (read_names files u ≡ u ∷ more)
unfolding expansion
reads_first files u h = (_, ap (λ (b : Bool). cond b (expansion files u).reads []) h)

both : (a b : Bool) → a ≡ true → b ≡ true → (a && b) ≡ true
both a b h k = ap (λ (x : Bool). x && b) h ∙ k

pub reads_and_uses : (files : List Read) (u : List ℕ) (used : List UsedUnit) → is_unit u ≡ true → is_some (file_of files u).source ≡ true → map (λ one. one.unit) used ≡ used_units files u
    → expansion (unit_reads files u) u ≡ expansion files u → IsInput (record { unit = u; reads = unit_reads files u; used = used })
reads_and_uses files u used h text these own =
    let first = reads_first files u h in
    let reads : unit_reads files u ≡ file_of files u ∷ map (file_of files) first.0 = ap (map (file_of files)) first.1 in
    let names : read_names files u ≡ (expansion files u).reads = ap (λ (b : Bool). cond b (expansion files u).reads []) h in
    let uses : used_units files u ≡ used_in (expansion files u).lines = ap (λ (b : Bool). cond b (used_in (expansion files u).lines) []) h in (
      record {
        present = both (is_unit u) (is_some (open_lines (unit_reads files u) u)) h (ap (λ (rs : List Read). is_some (open_lines rs u)) reads ∙ first_open files u (map (file_of files) first.0) text);
        names = all_named files (read_names files u) ∙ names ∙ sym (ap (λ (e : Expansion). e.reads) own);
      },
      these
          ∙ uses
          ∙ sym (ap (λ (e : Expansion). used_in e.lines) own),
    )

all_units : (files : List Read) (u : List ℕ) (vs : List (List ℕ)) → map (λ one. one.unit) (map (used_unit files u (checked files)) vs) ≡ vs
all_units files u [] = refl
all_units files u (v ∷ vs) = ap (λ (ns : List (List ℕ)). v ∷ ns) (all_units files u vs)

pub is_input : (files : List Read) (u : List ℕ) → is_unit u ≡ true → is_some (file_of files u).source ≡ true → expansion (unit_reads files u) u ≡ expansion files u → IsInput (input files u)
is_input files u h text own = reads_and_uses files u (map (used_unit files u (checked files)) (used_units files u)) h text (all_units files u (used_units files u)) own
