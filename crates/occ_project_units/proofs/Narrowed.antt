-- An expansion over a part of a project that holds all that it looks up.
use Rattle.std.proofs.Common.{◌≡◌, ℕ, true, false, Bool, cond, not, ◌||◌, List, [], ◌∷◌, map, Option, Some, None, refl, sym, ap, subst, ◌∙◌}
use Rattle.std.specs.List.{find}
use Rattle.std.specs.Option.{is_some, option_and_then, unwrap_or}
use Rattle.std.specs.Str.{bytes_eq}
use Rattle.std.specs.Cmp.Lexicographic.{same_text}
use Rattle.occ_base.specs.FileName.{is_unit}
use Rattle.occ_project.specs.declared.reads.Read.{Read}
use Rattle.occ_project.specs.Entries.{is_among}
use Rattle.occ_project.specs.Expansion.{expansion, not_given}
use Rattle.occ_project.specs.Reads.{is_named, member, open_source}
use Rattle.occ_project_units.specs.Project.{file_of}
use Rattle.occ_project_units.specs.Units.{unit_reads}
use Rattle.occ_project_units.proofs.Looks.{looks_at_reads, same_bytes}

pub member_named : (files : List Read) (name : List ℕ) (file : Read) → member files name ≡ Some file → file.name ≡ name
member_named [] name file e = cc
member_named (x ∷ files) name file e = by (is_named name x) refl (member_named files name file) e where
  by : (b : Bool) → is_named name x ≡ b → (member files name ≡ Some file → file.name ≡ name) → cond b (Some x) (member files name) ≡ Some file → file.name ≡ name
  by true p f h = let is : x ≡ file = cc in subst (λ (r : Read). r.name ≡ name) is (same_text x.name name (sym p))
  by false p f h = f h

pub file_named : (files : List Read) (name : List ℕ) → (file_of files name).name ≡ name
file_named files name = by (member files name) refl where
  by : (o : Option Read) → member files name ≡ o → (unwrap_or o (record { name = name; revision = 0; source = None })).name ≡ name
  by None e = refl
  by (Some file) e = member_named files name file e

pub file_source : (files : List Read) (name : List ℕ) → (file_of files name).source ≡ open_source files name
file_source files name = by (member files name) where
  by : (o : Option Read) → (unwrap_or o (record { name = name; revision = 0; source = None })).source ≡ option_and_then (λ (r : Read). r.source) o
  by None = refl
  by (Some file) = refl

-- a file that is given is the one of the project
given_is : (files : List Read) (names : List (List ℕ)) (name : List ℕ) → is_some (member (map (file_of files) names) name) ≡ true → member (map (file_of files) names) name ≡ Some (file_of files name)
given_is files [] name h = cc
given_is files (n ∷ names) name h = by (is_named name (file_of files n)) refl (given_is files names name) h where
  by : (b : Bool) → is_named name (file_of files n) ≡ b → (is_some (member (map (file_of files) names) name) ≡ true → member (map (file_of files) names) name ≡ Some (file_of files name))
      → is_some (cond b (Some (file_of files n)) (member (map (file_of files) names) name)) ≡ true → cond b (Some (file_of files n)) (member (map (file_of files) names) name) ≡ Some (file_of files name)
  by true p f k = ap (λ (m : List ℕ). Some (file_of files m)) (sym (file_named files n) ∙ same_text (file_of files n).name name (sym p))
  by false p f k = f k

given_source : (files : List Read) (names : List (List ℕ)) (name : List ℕ) → is_some (member (map (file_of files) names) name) ≡ true → open_source (map (file_of files) names) name ≡ open_source files name
given_source files names name h = ap (option_and_then (λ (r : Read). r.source)) (given_is files names name h) ∙ file_source files name

-- the files of these names are given
is_given : (files : List Read) (names : List (List ℕ)) (name : List ℕ) → is_among names name ≡ true → is_some (member (map (file_of files) names) name) ≡ true
is_given files [] name h = cc
is_given files (n ∷ names) name h = by (is_named name (file_of files n)) (bytes_eq n name) (ap (λ (m : List ℕ). bytes_eq m name) (file_named files n)) (is_given files names name) h where
  by : (b c : Bool) → b ≡ c → (is_among names name ≡ true → is_some (member (map (file_of files) names) name) ≡ true) → (c || is_among names name) ≡ true → is_some (cond b (Some (file_of files n)) (member (map (file_of files) names) name)) ≡ true
  by true c e f k = refl
  by false true e f k = cc
  by false false e f k = f k

-- the reads of a unit are enough
pub own_reads : (files : List Read) (unit : List ℕ) → is_unit unit ≡ true → expansion (unit_reads files unit) unit ≡ expansion files unit
own_reads files unit u =
    let names = (expansion files unit).reads in
    let are : unit_reads files unit ≡ map (file_of files) names = ap (λ (b : Bool). map (file_of files) (cond b names [])) u in
    ap (λ (fs : List Read). expansion fs unit) are ∙ looks_at_reads files (map (file_of files) names) unit (λ name a. given_source files names name (is_given files names name a))

all_pass : (names : List (List ℕ)) (test : List ℕ → Bool) → ((name : List ℕ) → is_among names name ≡ true → test name ≡ false) → find test names ≡ None
all_pass [] test h = refl
all_pass (n ∷ names) test h =
    ap (λ (b : Bool). cond b (Some n) (find test names)) (h n (ap (λ (b : Bool). b || is_among names n) (same_bytes n)))
    ∙ all_pass names test (λ name a. h name (following (bytes_eq n name) a))
  where
    following : (b : Bool) {c : Bool} → c ≡ true → (b || c) ≡ true
    following true e = refl
    following false e = e

pub own_given : (files : List Read) (unit : List ℕ) → is_unit unit ≡ true → not_given (unit_reads files unit) unit ≡ None
own_given files unit u =
    let names = (expansion files unit).reads in
    let some = map (file_of files) names in
    let are : unit_reads files unit ≡ some = ap (λ (b : Bool). map (file_of files) (cond b names [])) u in
    let same : expansion some unit ≡ expansion files unit = sym (ap (λ (fs : List Read). expansion fs unit) are) ∙ own_reads files unit u in
    ap (λ (fs : List Read). not_given fs unit) are
    ∙ ap (λ (ns : List (List ℕ)). find (λ name. not (is_some (member some name))) ns) (ap (λ e. e.reads) same)
    ∙ all_pass names (λ name. not (is_some (member some name))) (λ name a. ap not (is_given files names name a))
