-- A unit is done by what the units are that it rests on.
use Rattle.std.proofs.Common.{◌≡◌, ◌∙◌, ◌&&◌, ◌||◌, ◌+◌, Bool, true, false, ℕ, List, [], ◌∷◌, refl, ap}
use Rattle.std.proofs.lemmas.Slice.Eq.{bytes_eq-Decides}
use Rattle.std.specs.List.{list_all}
use Rattle.std.specs.List.Sorted.{IsStrictlySortedBy}
use Rattle.std.specs.Str.{bytes_eq}
use Rattle.occ_board.specs.Done.{done_step, is_cached}
use Rattle.occ_board.specs.Journal.{edited, is_open, replay_from}
use Rattle.occ_board.specs.declared.entry.Entry.{Entry}
use Rattle.occ_check.specs.Input.{Input}
use Rattle.occ_project.specs.Entries.{is_among}
use Rattle.occ_project.specs.declared.reads.Read.{Read}
use Rattle.occ_check.specs.Checks.{input}
use Rattle.occ_project_units.specs.Along.{IsLocal}
use Rattle.occ_project_units.specs.Indices.{rest_units}
use Rattle.occ_project_units.specs.Project.{IsProject, put}

or_right : (a b : Bool) → b ≡ true → (a || b) ≡ true
or_right true b h = refl
or_right false b h = h

-- tests that agree on these names
pub same_all : (f h : List ℕ → Bool) (vs : List (List ℕ)) → ((v : List ℕ) → is_among vs v ≡ true → f v ≡ h v) → list_all f vs ≡ list_all h vs
same_all f h [] e = refl
same_all f h (v ∷ vs) e =
    ap (λ (b : Bool). b && list_all f vs) (e v (ap (λ (b : Bool). b || is_among vs v) ((bytes_eq-Decides v v).1 refl)))
    ∙ ap (λ (b : Bool). h v && b) (same_all f h vs (λ w a. e w (or_right (bytes_eq v w) (is_among vs w) a)))

pub is_local : (files : List Read) (cached : List Input) → IsLocal files (done_step files cached)
is_local files cached u f h same = ap (λ (b : Bool). is_open files u && (is_cached cached (input files u) && b)) (same_all f h (rest_units files u) same)

pub none_is_project : IsProject []
unfolding IsStrictlySortedBy
none_is_project = tt

pub replayed : ((files : List Read) (file : Read) → IsProject files → IsProject (put files file)) → (n : ℕ) (files : List Read) (es : List Entry) → IsProject files → IsProject (replay_from n files es)
replayed law n files [] h = h
replayed law n files (e ∷ es) h = replayed law (n + 1) (put files (edited n e.edit)) es (law files (edited n e.edit) h)
