-- The least unit that is ready and not handed out, by the files of a project.
use Rattle.std.proofs.Common.{◌≡◌, ◌∙◌, ◌&&◌, ◌||◌, ◌<◌, ◌≤◌, ◌+◌, ◌++◌, ◌⊎◌, inl, inr, Bool, true, false, not, cond, ℕ, List, [], ◌∷◌, length, map, drop, get_or, zero, suc, arith, Option, Some, None, refl, sym, ap, subst}
use Rattle.std.proofs.lemmas.Bool.{cases_lt}
use Rattle.std.proofs.lemmas.List.{drop_all, drop_more}
use Rattle.std.specs.List.{filter, find, list_all, slice_get}
use Rattle.std.specs.Option.{is_some, option_map}
use Rattle.occ_base.specs.FileName.{is_unit}
use Rattle.occ_board.proofs.Indices.{filed, named, placed}
use Rattle.occ_board.proofs.Resting.{same_all}
use Rattle.occ_board.proofs.Settled.{flag_at}
use Rattle.occ_board.proofs.Shows.{there}
use Rattle.occ_board.proofs.Truths.{left_true, right_true}
use Rattle.occ_board.specs.Done.{done, is_input_among}
use Rattle.occ_board.specs.Machine.{next_input}
use Rattle.occ_board.specs.Same.{same_input}
use Rattle.occ_board.specs.inside.Flagged.{AreFlags, flag_of}
use Rattle.occ_board.specs.inside.Ready.{HasJob, NoneIsNext, NoneIsReady, is_next, is_ready, is_rested}
use Rattle.occ_check.specs.Input.{Input}
use Rattle.occ_project.specs.declared.reads.Read.{Read}
use Rattle.occ_check.specs.Checks.{input}
use Rattle.occ_check.specs.Report.{is_open_unit}
use Rattle.occ_project_units.specs.Along.{name_at}
use Rattle.occ_project_units.specs.Indices.{rest_units}
use Rattle.occ_project_units.specs.Project.{IsProject, file_of}

abbrev names_in : List Read → List (List ℕ)
names_in files = map (λ file. file.name) files

module _ (f : List ℕ → Input) (q r : List ℕ → Bool) (t : Input → Bool) where
  abbrev first : List (List ℕ) → Option Input
  first us = find t (map f (filter r (filter q us)))

  by_handed : (b : Bool) (file : Read) (others : Option Read) (rest : Option Input) → rest ≡ option_map (λ file. f file.name) others → cond b (Some (f file.name)) rest ≡ option_map (λ file. f file.name) (cond b (Some file) others)
  by_handed true file others rest e = refl
  by_handed false file others rest e = e

  by_rested : (b : Bool) (file : Read) (us : List (List ℕ)) (others : Option Read) → find t (map f us) ≡ option_map (λ file. f file.name) others → find t (map f (cond b (file.name ∷ us) us)) ≡ option_map (λ file. f file.name) (cond (b && t (f file.name)) (Some file) others)
  by_rested true file us others e = by_handed (t (f file.name)) file others (find t (map f us)) e
  by_rested false file us others e = e

  by_done : (b : Bool) (file : Read) (us : List (List ℕ)) (others : Option Read) → find t (map f (filter r us)) ≡ option_map (λ file. f file.name) others → find t (map f (filter r (cond b (file.name ∷ us) us))) ≡ option_map (λ file. f file.name) (cond (b && (r file.name && t (f file.name))) (Some file) others)
  by_done true file us others e = by_rested (r file.name) file (filter r us) others e
  by_done false file us others e = e

  by_open : (b : Bool) (file : Read) (files : List Read) (others : Option Read) → first (names_in files) ≡ option_map (λ file. f file.name) others
      → first (names_in (cond b (file ∷ files) files)) ≡ option_map (λ file. f file.name) (cond (b && (q file.name && (r file.name && t (f file.name)))) (Some file) others)
  by_open true file files others e = by_done (q file.name) file (filter q (names_in files)) others e
  by_open false file files others e = e

  first_is : (files : List Read) → first (names_in (filter is_open_unit files)) ≡ option_map (λ file. f file.name) (find (λ file. is_open_unit file && (q file.name && (r file.name && t (f file.name)))) files)
  first_is [] = refl
  first_is (file ∷ files) = by_open (is_open_unit file) file (filter is_open_unit files) (find (λ file. is_open_unit file && (q file.name && (r file.name && t (f file.name)))) files) (first_is files)

pub next_is : (files : List Read) (cached handed : List Input) → next_input files cached handed ≡ option_map (λ file. input files file.name) (find (is_next files cached handed) files)
next_is files cached handed = first_is (input files) (λ u. not (done files cached u)) (is_rested files cached) (λ i. not (is_input_among handed i)) files

-- there is a job of it
pub next_has_job : (files : List Read) (cached handed : List Input) (file : Read) → file_of files file.name ≡ file → is_next files cached handed file ≡ true → HasJob files cached file.name
next_has_job files cached handed file here h =
    let opened = left_true (is_open_unit file) (not (done files cached file.name) && (is_rested files cached file.name && not (is_input_among handed (input files file.name)))) h in
    let rest = right_true (is_open_unit file) (not (done files cached file.name) && (is_rested files cached file.name && not (is_input_among handed (input files file.name)))) h in
    let ready = right_true (not (done files cached file.name)) (is_rested files cached file.name && not (is_input_among handed (input files file.name))) rest in
    record {
      unit = left_true (is_unit file.name) (is_some file.source) opened;
      opened = ap (λ (f : Read). is_some f.source) here ∙ right_true (is_unit file.name) (is_some file.source) opened;
      rested = left_true (is_rested files cached file.name) (not (is_input_among handed (input files file.name))) ready;
    }

-- nothing before an index passes the test
pub none_before : {X : Type 0} (t : X → Bool) (xs : List X) (n : ℕ) → ((p : ℕ) (x : X) → p < n → slice_get xs p ≡ Some x → t x ≡ false) → find t (drop n xs) ≡ find t xs
none_before t xs zero h = refl
none_before t [] (suc n) h = refl
none_before t (x ∷ xs) (suc n) h = none_before t xs n (λ p y lt e. h (suc p) y (omega (arith, lt)) e) ∙ sym (ap (λ (b : Bool). cond b (Some x) (find t xs)) (h 0 x (omega arith) refl))

-- whether a file is next, by its parts
not_ready : (o d r h : Bool) → (not d && (r && o)) ≡ false → (o && (not d && (r && h))) ≡ false
not_ready true true r h e = refl
not_ready true false true h e = absurd cc
not_ready true false false h e = refl
not_ready false d r h e = refl

if_ready : (o d r h : Bool) → (not d && (r && o)) ≡ true → h ≡ (o && (not d && (r && h)))
if_ready true true r h e = absurd cc
if_ready true false true h e = refl
if_ready true false false h e = absurd cc
if_ready false true r h e = absurd cc
if_ready false false true h e = absurd cc
if_ready false false false h e = absurd cc

ready_rests : (o d r : Bool) → (not d && (r && o)) ≡ true → r ≡ true
ready_rests o true r e = absurd cc
ready_rests o false true e = refl
ready_rests o false false e = absurd cc

module _ (files : List Read) (cached handed : List Input) (flags : List Bool) (p : ℕ) (file : Read) (project : IsProject files) (are : AreFlags files cached flags) (here : slice_get files p ≡ Some file) where
  -- the flag at the index
  flag_here : get_or flags p false ≡ done files cached file.name
  flag_here = sym (flag_at files flags file.name p (placed files p file project here)) ∙ are file.name

  pub rested_here : list_all (flag_of files flags) (rest_units files (name_at files p)) ≡ is_rested files cached file.name
  rested_here =
      ap (λ (n : List ℕ). list_all (flag_of files flags) (rest_units files n)) (named files p file here)
      ∙ same_all (flag_of files flags) (done files cached) (rest_units files file.name) (λ v a. are v)

  ready_is : is_ready files flags p file ≡ (not (done files cached file.name) && (is_rested files cached file.name && is_open_unit file))
  ready_is =
      ap (λ (b : Bool). not b && (list_all (flag_of files flags) (rest_units files (name_at files p)) && is_open_unit file)) flag_here
      ∙ ap (λ (b : Bool). not (done files cached file.name) && (b && is_open_unit file)) rested_here

  pub rested_by : is_ready files flags p file ≡ true → is_rested files cached file.name ≡ true
  rested_by e = ready_rests (is_open_unit file) (done files cached file.name) (is_rested files cached file.name) (sym ready_is ∙ e)

  pub next_waits : is_ready files flags p file ≡ false → is_next files cached handed file ≡ false
  next_waits e = not_ready (is_open_unit file) (done files cached file.name) (is_rested files cached file.name) (not (is_input_among handed (input files file.name))) (sym ready_is ∙ e)

  pub next_by : (h : Bool) → is_ready files flags p file ≡ true → h ≡ is_input_among handed (input files file.name) → not h ≡ is_next files cached handed file
  next_by h e g =
      ap not g
      ∙ if_ready (is_open_unit file) (done files cached file.name) (is_rested files cached file.name) (not (is_input_among handed (input files file.name))) (sym ready_is ∙ e)

-- the first file that is next
module _ {X : Type 0} (t : X → Bool) (xs ys : List X) (same : ys ≡ xs) (p : ℕ) (sofar : find t (drop p xs) ≡ find t xs) where
  at_next : (x : X) → p < length ys → x ≡ get_or ys p x → drop p xs ≡ x ∷ drop (p + 1) xs
  at_next x lt e =
      let within : p < length xs = subst (λ (zs : List X). p < length zs) same lt in
      drop_more xs p x within ∙ ap (λ (z : X). z ∷ drop (p + 1) xs) (sym (e ∙ ap (λ (zs : List X). get_or zs p x) same))

  pub first_found : (x : X) → p < length ys → x ≡ get_or ys p x → t x ≡ true → find t xs ≡ Some x
  first_found x lt e k = sym sofar ∙ ap (find t) (at_next x lt e) ∙ ap (λ (b : Bool). cond b (Some x) (find t (drop (p + 1) xs))) k

  pub first_passed : (x : X) → p < length ys → x ≡ get_or ys p x → t x ≡ false → find t (drop (p + 1) xs) ≡ find t xs
  first_passed x lt e k = sym (ap (λ (b : Bool). cond b (Some x) (find t (drop (p + 1) xs))) k) ∙ sym (ap (find t) (at_next x lt e)) ∙ sofar

  pub first_none : length ys ≤ p → find t xs ≡ None
  first_none le = sym sofar ∙ ap (find t) (drop_all p xs (subst (λ (zs : List X). length zs ≤ p) same le))

-- so there is a job of it
pub job_there : (files ys : List Read) (cached handed : List Input) (p : ℕ) (file : Read) → IsProject files → ys ≡ files → p < length ys → file ≡ get_or ys p file → is_next files cached handed file ≡ true → HasJob files cached file.name
job_there files ys cached handed p file project same lt e h =
    let here : file ≡ get_or files p file = e ∙ ap (λ (zs : List Read). get_or zs p file) same in
    next_has_job files cached handed file (filed files p file project (there files p file (subst (λ (zs : List Read). p < length zs) same lt) here)) h

-- the file at a place of the same files is named so
pub name_of : (files ys : List Read) (p : ℕ) (file : Read) → ys ≡ files → p < length ys → file ≡ get_or ys p file → name_at files p ≡ file.name
name_of files ys p file same lt e = named files p file (there files p file (subst (λ (zs : List Read). p < length zs) same lt) (e ∙ ap (λ (zs : List Read). get_or zs p file) same))

-- none is next up to the next index, or where one more is handed out
pub one_passed : (files : List Read) (cached handed : List Input) (p : ℕ) (file : Read) → slice_get files p ≡ Some file → is_next files cached handed file ≡ false → NoneIsNext files cached handed p → NoneIsNext files cached handed (p + 1)
one_passed files cached handed p file here e before q other lt got = elim (cases_lt q p) [
  | inl less ↦ before q other less got
  | inr not_less ↦
      let same : q ≡ p = omega (arith, lt, not_less) in
      let is : Some file ≡ Some other = sym here ∙ ap (slice_get files) (sym same) ∙ got in
      let one : file ≡ other = cc in
      ap (is_next files cached handed) (sym one) ∙ e
]

more_among : (handed : List Input) (i j : Input) → is_input_among handed i ≡ true → is_input_among (handed ++ j ∷ []) i ≡ true
more_among [] i j h = absurd cc
more_among (k ∷ handed) i j h = by (same_input k i) h (more_among handed i j) where
  by : (b : Bool) → (b || is_input_among handed i) ≡ true → (is_input_among handed i ≡ true → is_input_among (handed ++ j ∷ []) i ≡ true) → (b || is_input_among (handed ++ j ∷ []) i) ≡ true
  by true k rest = refl
  by false k rest = rest k

fewer_next : (o d r h k : Bool) → (h ≡ true → k ≡ true) → (o && (not d && (r && not h))) ≡ false → (o && (not d && (r && not k))) ≡ false
fewer_next false d r h k f e = refl
fewer_next true true r h k f e = refl
fewer_next true false false h k f e = refl
fewer_next true false true true k f e = ap not (f refl)
fewer_next true false true false k f e = absurd cc

pub still_passed : (files : List Read) (cached handed : List Input) (j : Input) (n : ℕ) → NoneIsNext files cached handed n → NoneIsNext files cached (handed ++ j ∷ []) n
still_passed files cached handed j n none p file lt got =
    fewer_next (is_open_unit file) (done files cached file.name) (is_rested files cached file.name) (is_input_among handed (input files file.name)) (is_input_among (handed ++ j ∷ []) (input files file.name))
    (more_among handed (input files file.name) j) (none p file lt got)

-- before the greater of two indices
pub passed_by : (files : List Read) (cached handed : List Input) (flags : List Bool) (a b n : ℕ) → IsProject files → AreFlags files cached flags → NoneIsReady files flags a → NoneIsNext files cached handed b → ((p : ℕ) → p < n → (p < a) ⊎ (p < b)) → NoneIsNext files cached handed n
passed_by files cached handed flags a b n project are ready next either p file lt got = elim (either p lt) [
  | inl less ↦ next_waits files cached handed flags p file project are got (ready p file less got)
  | inr less ↦ next p file less got
]

-- before none, none is
pub none_passed : (files : List Read) (cached handed : List Input) (n : ℕ) → n ≡ 0 → NoneIsNext files cached handed n
none_passed files cached handed n e p file lt got = absurd (omega (arith, lt, e))

-- where no unit before an index is next
pub next_behind : (files : List Read) (cached handed : List Input) (n : ℕ) → NoneIsNext files cached handed n → find (is_next files cached handed) (drop n files) ≡ find (is_next files cached handed) files
next_behind files cached handed n none = none_before (is_next files cached handed) files n (λ p file lt e. none p file lt e)

-- where no unit before an index is ready, none there is next
pub next_from : (files : List Read) (cached handed : List Input) (flags : List Bool) (n : ℕ) → IsProject files → AreFlags files cached flags → NoneIsReady files flags n → find (is_next files cached handed) (drop n files) ≡ find (is_next files cached handed) files
next_from files cached handed flags n project are none = none_before (is_next files cached handed) files n (λ p file lt e. next_waits files cached handed flags p file project are e (none p file lt e))

-- the file at a place of the same files
pub file_there : (files ys : List Read) (p : ℕ) (file : Read) → ys ≡ files → p < length ys → file ≡ get_or ys p file → slice_get files p ≡ Some file
file_there files ys p file same lt e = there files p file (subst (λ (zs : List Read). p < length zs) same lt) (e ∙ ap (λ (zs : List Read). get_or zs p file) same)
