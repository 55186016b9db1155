-- A file that has the revision of what a cached input looked at has its text, after edits and accepted outcomes.
use Rattle.std.proofs.Common.{◌≡◌, ◌∙◌, ◌<◌, ◌≤◌, ◌+◌, ◌⊎◌, inl, inr, ℕ, zero, suc, Bool, true, false, cond, List, [], ◌∷◌, length, map, Option, Some, None, refl, sym, ap, subst, arith, if◌then◌else◌}
use Rattle.std.proofs.lemmas.Option.{slice_get-map}
use Rattle.std.specs.List.{slice_get}
use Rattle.std.specs.Option.{option_and_then, option_map}
use Rattle.std.specs.Str.{bytes_eq}
use Rattle.occ_board.proofs.Bases.{by_all}
use Rattle.occ_board.proofs.Edits.{edited_is}
use Rattle.occ_board.proofs.Caches.{cached_there}
use Rattle.occ_board.proofs.Indices.{file_named}
use Rattle.occ_board.specs.Done.{cached_of}
use Rattle.occ_board.specs.Journal.{IsBase, edited, last_number, nothing, replay, replay_from}
use Rattle.occ_board.specs.Machine.{with_cached}
use Rattle.occ_board.specs.declared.base.Base.{Base}
use Rattle.occ_board.specs.declared.entry.Entry.{Entry}
use Rattle.occ_board.specs.inside.Holding.{index_in}
use Rattle.occ_board.specs.inside.Revisions.{AllGivenByRevision, AreBefore, AreGivenByRevision}
use Rattle.occ_check.specs.Input.{Input}
use Rattle.occ_project.specs.declared.reads.Read.{Read}
use Rattle.occ_check.specs.Checks.{input}
use Rattle.occ_project_units.specs.Project.{file_of, put}
use Rattle.occ_project_units.specs.Units.{read_names}

-- after one more edit
pub reported_then : (files later : List Read) (file : Read) (cached : List Input) → ((name : List ℕ) → file_of (put files file) name ≡ cond (bytes_eq file.name name) file (file_of files name)) → later ≡ put files file
    → AllGivenByRevision files cached → AreBefore file.revision cached → AllGivenByRevision later cached
reported_then files later file cached law is reported before k i got m read there same = by (bytes_eq file.name read.name) refl where
  now : file_of later read.name ≡ cond (bytes_eq file.name read.name) file (file_of files read.name)
  now = ap (λ (fs : List Read). file_of fs read.name) is ∙ law read.name

  by : (b : Bool) → bytes_eq file.name read.name ≡ b → read ≡ file_of later read.name
  by true e =
      let that : file_of later read.name ≡ file = now ∙ ap (λ (b : Bool). cond b file (file_of files read.name)) e in
      let less = before k i got m read there in
      let equal : read.revision ≡ file.revision = same ∙ ap (λ (r : Read). r.revision) that in
      absurd (omega (arith, less, equal))
  by false e =
      let that : file_of later read.name ≡ file_of files read.name = now ∙ ap (λ (b : Bool). cond b file (file_of files read.name)) e in
      reported k i got m read there (same ∙ ap (λ (r : Read). r.revision) that) ∙ sym that

pub before_more : (n more : ℕ) (cached : List Input) → n ≤ more → AreBefore n cached → AreBefore more cached
before_more n more cached le before k i got m read there = let less = before k i got m read there in omega (arith, le, less)

-- no file has a later revision than the last edit
module _ (law : (files : List Read) (file : Read) (name : List ℕ) → file_of (put files file) name ≡ cond (bytes_eq file.name name) file (file_of files name)) where
  edited_few : (n : ℕ) (files : List Read) (e : Entry) → ((name : List ℕ) → (file_of files name).revision < n) → (name : List ℕ) → (file_of (put files (edited n e.edit)) name).revision < n + 1
  edited_few n files e less name = by (bytes_eq (edited n e.edit).name name) refl where
    now : (b : Bool) → bytes_eq (edited n e.edit).name name ≡ b → file_of (put files (edited n e.edit)) name ≡ cond b (edited n e.edit) (file_of files name)
    now b h = law files (edited n e.edit) name ∙ ap (λ (b : Bool). cond b (edited n e.edit) (file_of files name)) h

    by : (b : Bool) → bytes_eq (edited n e.edit).name name ≡ b → (file_of (put files (edited n e.edit)) name).revision < n + 1
    by true h =
        let is : (file_of (put files (edited n e.edit)) name).revision ≡ n = ap (λ (r : Read). r.revision) (now true h ∙ edited_is n e.edit) in
        omega (arith, is)
    by false h =
        let is : (file_of (put files (edited n e.edit)) name).revision ≡ (file_of files name).revision = ap (λ (r : Read). r.revision) (now false h) in
        let few = less name in
        omega (arith, is, few)

  bounded : (n : ℕ) (files : List Read) (es : List Entry) → ((name : List ℕ) → (file_of files name).revision < n) → (name : List ℕ) → (file_of (replay_from n files es) name).revision < n + length es
  bounded n files [] less name = let few = less name in omega (arith, few)
  bounded n files (e ∷ es) less name = let few = bounded (n + 1) (put files (edited n e.edit)) es (edited_few n files e less) name in omega (arith, few)

  pub revisions_few : (base : Base) (es : List Entry) → IsBase base → (name : List ℕ) → (file_of (replay base es) name).revision < last_number base es + 1
  revisions_few =
      by_all (λ base. (name : List ℕ) → (file_of base.files name).revision < base.number + 1)
      (λ es name. let few : (file_of (replay nothing es) name).revision < 1 + length es = bounded 1 [] es (λ other. omega arith) name in omega (arith, few))

-- what is cached is that outcome, or was cached
with_or : (js : List Input) (i : Input) (q : ℕ) (k : Input) → slice_get (with_cached js i) q ≡ Some k → (i ≡ k) ⊎ ((p : ℕ) × (slice_get js p ≡ Some k))
with_or [] i zero k h = let is : i ≡ k = cc in inl is
with_or [] i (suc q) k h = absurd cc
with_or (j ∷ js) i q k h = by (bytes_eq j.unit i.unit) (λ r. with_or js i r k) q h where
  by : (b : Bool) → ((r : ℕ) → slice_get (with_cached js i) r ≡ Some k → (i ≡ k) ⊎ ((p : ℕ) × (slice_get js p ≡ Some k))) → (q : ℕ) → slice_get (if b then i ∷ js else j ∷ with_cached js i) q ≡ Some k → (i ≡ k) ⊎ ((p : ℕ) × (slice_get (j ∷ js) p ≡ Some k))
  by true more zero h = let is : i ≡ k = cc in inl is
  by true more (suc q) h = inr (suc q, h)
  by false more zero h = inr (zero, h)
  by false more (suc q) h = elim (more q h) [
    | inl e ↦ inl e
    | inr e ↦ inr (suc e.0, e.1)
  ]

-- what is looked at at present
read_now : (files : List Read) (names : List (List ℕ)) (m : ℕ) (read : Read) → slice_get (map (file_of files) names) m ≡ Some read → read ≡ file_of files read.name
read_now files names m read h = by (slice_get names m) (sym (slice_get-map (file_of files) names m) ∙ h) where
  by : (o : Option (List ℕ)) → option_map (file_of files) o ≡ Some read → read ≡ file_of files read.name
  by None e = absurd cc
  by (Some name) e =
      let is : file_of files name ≡ read = cc in
      sym is ∙ ap (file_of files) (sym (file_named files name) ∙ ap (λ (r : Read). r.name) is)

present_read : (files : List Read) (i : Input) → i ≡ input files i.unit → (m : ℕ) (read : Read) → slice_get i.reads m ≡ Some read → read ≡ file_of files read.name
present_read files i now m read h = read_now files (read_names files i.unit) m read (ap (λ (x : Input). slice_get x.reads m) (sym now) ∙ h)

-- after an outcome that looked at what is so at present
pub reported_with : (files : List Read) (cached : List Input) (i : Input) → i ≡ input files i.unit → AllGivenByRevision files cached → AllGivenByRevision files (with_cached cached i)
reported_with files cached i now reported k j got m read there same = elim (with_or cached i k j got) [
  | inl e ↦ present_read files i now m read (ap (λ (x : Input). slice_get x.reads m) e ∙ there)
  | inr e ↦ reported e.0 j e.1 m read there same
]

pub before_with : (files : List Read) (cached : List Input) (i : Input) (n : ℕ) → i ≡ input files i.unit → ((name : List ℕ) → (file_of files name).revision < n) → AreBefore n cached → AreBefore n (with_cached cached i)
before_with files cached i n now few before k j got m read there = elim (with_or cached i k j got) [
  | inl e ↦
      let is : read ≡ file_of files read.name = present_read files i now m read (ap (λ (x : Input). slice_get x.reads m) e ∙ there) in
      subst (λ (r : Read). r.revision < n) (sym is) (few read.name)
  | inr e ↦ before e.0 j e.1 m read there
]

-- of what is cached of a unit
pub reported_cached : (files : List Read) (cached : List Input) (u : List ℕ) (i : Input) → AllGivenByRevision files cached → cached_of cached u ≡ Some i → AreGivenByRevision files i.reads
reported_cached files cached u i reported is = by (index_in cached u) (cached_there cached u ∙ is) where
  by : (o : Option ℕ) → option_and_then (slice_get cached) o ≡ Some i → AreGivenByRevision files i.reads
  by None h = absurd cc
  by (Some p) h = reported p i h
