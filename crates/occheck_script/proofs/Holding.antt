-- The job that a worker holds, where it is looked for.
use Rattle.std.proofs.Common.{◌≡◌, ◌∙◌, ◌+◌, ◌≤◌, ◌<◌, ◌==◌, ℕ, zero, suc, Bool, true, false, not, cond, nat_lt, List, [], ◌∷◌, ◌++◌, length, Option, Some, None, refl, ap, sym, arith, slice_get, if◌then◌else◌, codes, OnOk, Result, Ok, Err}
use Rattle.std.proofs.lemmas.Bool.{ltb-false, ltb-true}
use Rattle.std.specs.List.{position, position_or_len, remove}
use Rattle.std.specs.Option.{is_some, option_map}
use Rattle.occ_board.specs.Rules.{Input}
use Rattle.occ_board.specs.Machine.{State, after as after_event, take_answer}
use Rattle.occ_board.specs.Machine.Event.{Take}
use Rattle.occheck_script.specs.Machine.{after_take, job_of, take_text, taken_text, with_line_end, with_job, without}
use Rattle.occheck_script.specs.declared.desk.Desk.{Desk}
use Rattle.occheck_script.specs.declared.desk.Held.{Held}

abbrev is_by : ℕ → Held → Bool
is_by w h = h.worker == w

-- where the first of the worker stands, or after all
abbrev place : ℕ → List Held → ℕ
place w hs = position_or_len (is_by w) hs

job_here : (w : ℕ) (h : Held) (hs : List Held) (b : Bool) → is_by w h ≡ b → job_of w hs ≡ option_map (λ x. x.job) (slice_get hs (place w hs))
    → (if b then Some h.job else job_of w hs) ≡ option_map (λ x. x.job) (slice_get (h ∷ hs) (cond (not b) (1 + place w hs) 0))
job_here w h hs true e rest = refl
job_here w h hs false e rest = let n : 1 + place w hs ≡ suc (place w hs) = omega arith in rw n rest

job_at : (w : ℕ) (hs : List Held) → job_of w hs ≡ option_map (λ x. x.job) (slice_get hs (place w hs))
job_at w [] = refl
job_at w (h ∷ hs) = job_here w h hs (is_by w h) refl (job_at w hs)

without_here : (w : ℕ) (h : Held) (hs : List Held) (b : Bool) → without w hs ≡ remove hs (place w hs)
    → (if b then hs else h ∷ without w hs) ≡ remove (h ∷ hs) (cond (not b) (1 + place w hs) 0)
without_here w h hs true rest = refl
without_here w h hs false rest = let n : 1 + place w hs ≡ suc (place w hs) = omega arith in rw n (ap (λ (xs : List Held). h ∷ xs) rest)

without_at : (w : ℕ) (hs : List Held) → without w hs ≡ remove hs (place w hs)
without_at w [] = refl
without_at w (h ∷ hs) = without_here w h hs (is_by w h) (without_at w hs)

-- what is known of a place that was looked for
found_at : (n len : ℕ) (b : Bool) (p : ℕ) → nat_lt n len ≡ b → Some p ≡ cond b (Some n) None → p ≡ n
found_at n len true p e h = cc
found_at n len false p e h = absurd cc

not_found : (n len : ℕ) (b : Bool) → nat_lt n len ≡ b → None ≡ cond b (Some n) None → len ≤ n
not_found n len true e h = absurd cc
not_found n len false e h = ltb-false n len e

nothing_at : (hs : List Held) (n : ℕ) → length hs ≤ n → option_map (λ x. x.job) (slice_get hs n) ≡ None
nothing_at [] n l = refl
nothing_at (h ∷ hs) zero l = absurd (omega (arith, l))
nothing_at (h ∷ hs) (suc n) l = nothing_at hs n (omega (arith, l))

all_stay : (hs : List Held) (n : ℕ) → length hs ≤ n → remove hs n ≡ hs
all_stay [] zero l = refl
all_stay [] (suc n) l = refl
all_stay (h ∷ hs) zero l = absurd (omega (arith, l))
all_stay (h ∷ hs) (suc n) l = ap (λ (xs : List Held). h ∷ xs) (all_stay hs n (omega (arith, l)))

-- the worker holds no job
pub no_job : (w : ℕ) (hs : List Held) → None ≡ position (is_by w) hs → None ≡ job_of w hs
no_job w hs h = sym (job_at w hs ∙ nothing_at hs (place w hs) (not_found (place w hs) (length hs) _ refl h))

pub same_without : (w : ℕ) (hs : List Held) → None ≡ position (is_by w) hs → hs ≡ without w hs
same_without w hs h = sym (without_at w hs ∙ all_stay hs (place w hs) (not_found (place w hs) (length hs) _ refl h))

-- it holds the job that stands at the place
pub the_job : (w : ℕ) (hs : List Held) (p : ℕ) (x : Held) → Some p ≡ position (is_by w) hs → slice_get hs p ≡ Some x → Some x.job ≡ job_of w hs
the_job w hs p x h e =
    sym (job_at w hs ∙ ap (λ (n : ℕ). option_map (λ y. y.job) (slice_get hs n)) (sym (found_at (place w hs) (length hs) _ p refl h))
    ∙ ap (λ (o : Option Held). option_map (λ y. y.job) o) e)

pub removed : (w : ℕ) (hs : List Held) (p : ℕ) (rest : List Held) → Some p ≡ position (is_by w) hs → rest ≡ remove hs p → rest ≡ without w hs
removed w hs p rest h e = e ∙ ap (remove hs) (found_at (place w hs) (length hs) _ p refl h) ∙ sym (without_at w hs)

found_one : (n len : ℕ) (b : Bool) → nat_lt n len ≡ b → true ≡ is_some (cond b (Some n) None) → nat_lt n len ≡ true
found_one n len true e h = e
found_one n len false e h = absurd cc

found_none : (n len : ℕ) (b : Bool) → nat_lt n len ≡ b → false ≡ is_some (cond b (Some n) None) → len ≤ n
found_none n len true e h = absurd cc
found_none n len false e h = ltb-false n len e

some_below : (hs : List Held) (n : ℕ) → n < length hs → (i : Input) × (option_map (λ x. x.job) (slice_get hs n) ≡ Some i)
some_below [] n l = absurd (omega (arith, l))
some_below (h ∷ hs) zero l = (h.job, refl)
some_below (h ∷ hs) (suc n) l = some_below hs n (omega (arith, l))

some_at : (hs : List Held) (n : ℕ) → nat_lt n (length hs) ≡ true → (i : Input) × (option_map (λ x. x.job) (slice_get hs n) ≡ Some i)
some_at hs n e = some_below hs n (ltb-true n (length hs) e)

has_job : (w : ℕ) (hs : List Held) → true ≡ is_some (position (is_by w) hs) → (i : Input) × (job_of w hs ≡ Some i)
has_job w hs h = let s = some_at hs (place w hs) (found_one (place w hs) (length hs) _ refl h) in (s.0, job_at w hs ∙ s.1)

has_none : (w : ℕ) (hs : List Held) → false ≡ is_some (position (is_by w) hs) → job_of w hs ≡ None
has_none w hs h = job_at w hs ∙ nothing_at hs (place w hs) (found_none (place w hs) (length hs) _ refl h)

-- ---- a worker asks for a job

pub always : {T E : Type 0} (r : Result T E) (P : Type 0) → P → OnOk r P
always (Ok x) P p = p
always (Err e) P p = tt

pub busy_text : (w : ℕ) (hs : List Held) (next : Option Input) → true ≡ is_some (position (is_by w) hs) → take_text (job_of w hs) next ≡ with_line_end (codes "busy")
busy_text w hs next h = ap (λ (o : Option Input). take_text o next) (has_job w hs h).1

pub busy_after : (w : ℕ) (s : Desk) → true ≡ is_some (position (is_by w) s.held) → s ≡ after_take w (job_of w s.held) s
busy_after w s h = sym (ap (λ (o : Option Input). after_take w o s) (has_job w s.held h).1)

pub free_text : (w : ℕ) (hs : List Held) (next given : Option Input) → false ≡ is_some (position (is_by w) hs) → next ≡ given → take_text (job_of w hs) next ≡ taken_text given
free_text w hs next given h e = ap (λ (o : Option Input). take_text o next) (has_none w hs h) ∙ ap taken_text e

abbrev pub desk_of : State → List Held → Bool → Desk
desk_of board held errors = record { board = board; held = held; errors = errors }

pub free_after : (w : ℕ) (s : Desk) (board : State) (held : List Held) (job : Input) → false ≡ is_some (position (is_by w) s.held) → board ≡ after_event s.board Take → take_answer s.board ≡ Some job
    → held ≡ s.held ++ (record { worker = w; job = job }) ∷ [] → desk_of board held s.errors ≡ after_take w (job_of w s.held) s
free_after w s board held job h b e k =
    ap (λ (x : State). desk_of x held s.errors) b
    ∙ ap (λ (xs : List Held). desk_of (after_event s.board Take) xs s.errors) (k ∙ sym (ap (λ (o : Option Input). with_job w o s.held) e))
    ∙ sym (ap (λ (o : Option Input). after_take w o s) (has_none w s.held h))

-- ---- a worker that holds none

none_here : (w : ℕ) (h : Held) (hs : List Held) (b : Bool) → (if b then Some h.job else job_of w hs) ≡ None → (job_of w hs ≡ None → without w hs ≡ hs) → (if b then hs else h ∷ without w hs) ≡ h ∷ hs
none_here w h hs true e rest = absurd cc
none_here w h hs false e rest = ap (λ (xs : List Held). h ∷ xs) (rest e)

none_without : (w : ℕ) (hs : List Held) → job_of w hs ≡ None → without w hs ≡ hs
none_without w [] e = refl
none_without w (h ∷ hs) e = none_here w h hs (is_by w h) e (none_without w hs)

pub none_held : (w : ℕ) (s : Desk) (job : Option Input) → job ≡ job_of w s.held → job ≡ None → job_of w s.held ≡ None
none_held w s job h e = sym h ∙ e

pub same_desk : (w : ℕ) (s t : Desk) → job_of w s.held ≡ None → t.held ≡ without w s.held → t.board ≡ s.board → t.errors ≡ s.errors → t ≡ s
same_desk w s t e h b r =
    ap (λ (x : State). desk_of x t.held t.errors) b ∙ ap (λ (xs : List Held). desk_of s.board xs t.errors) (h ∙ none_without w s.held e) ∙ ap (λ (x : Bool). desk_of s.board s.held x) r
