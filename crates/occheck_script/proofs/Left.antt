-- What is left to write of bytes that are known.
use Rattle.std.proofs.Common.{◌≡◌, ℕ, List, [], ◌++◌, Option, Some, refl, ap, sym, ◌∙◌, append_assoc, append-nil, take, subst, length, ◌∷◌, Result, Ok, Err, IfErr, OnErr, OnOk, arith}
use Rattle.occheck_script.specs.Devices.{Appends, AppendsFront}
use Rattle.occheck_script.specs.declared.status.Status.{Status}
use Rattle.occheck_script.specs.declared.status.Status.TheVariants as status
use Rattle.occheck_script.specs.inside.Going.{Left}

pub nothing_yet : (before : Option (List ℕ)) (all : List ℕ) → Left before before all all
unfolding Left
nothing_yet before all w e = ([], refl, e ∙ ap Some (sym (append-nil w)))

pub nothing_left : (before now : Option (List ℕ)) (all : List ℕ) → Left before now [] all → Appends before now all
unfolding Left
nothing_left before now all h w e =
    let f = h w e in
    f.2 ∙ ap (λ (x : List ℕ). Some (w ++ x)) (sym (f.1 ∙ append-nil f.0))

pub wrote : (before now next : Option (List ℕ)) (a b rest all : List ℕ) → Appends now next a → rest ≡ a ++ b → Left before now rest all → Left before next b all
unfolding Left
wrote before now next a b rest all p r h w e =
    let f = h w e in
    (f.0 ++ a, f.1 ∙ ap (λ (x : List ℕ). f.0 ++ x) r ∙ sym (append_assoc f.0 a b), p (w ++ f.0) f.2 ∙ ap Some (append_assoc w f.0 a))

pub left_front : (before now : Option (List ℕ)) (rest all : List ℕ) → Left before now rest all → AppendsFront before now all
unfolding Left
left_front before now rest all h w e = let f = h w e in (f.0, rest, f.1, f.2)

-- a refused write leaves what was written
pub same_front : (before now next : Option (List ℕ)) (rest all : List ℕ) → Appends now next [] → Left before now rest all → AppendsFront before next all
unfolding Left
same_front before now next rest all s h w e = let f = h w e in (f.0, rest, f.1, s (w ++ f.0) f.2 ∙ ap Some (append-nil (w ++ f.0)))

-- a write that takes none leaves all to write
pub stuck : (before now next : Option (List ℕ)) (rest all : List ℕ) (n : ℕ) → n ≡ 0 → Appends now next (take n rest) → Left before now rest all → AppendsFront before next all
stuck before now next rest all n z p h =
    left_front before next rest all (wrote before now next (take 0 rest) rest rest all (subst (λ (k : ℕ). Appends now next (take k rest)) z p) refl h)

pub all_written : (before now : Option (List ℕ)) (rest all : List ℕ) → length rest ≡ 0 → Left before now rest all → Appends before now all
all_written before now [] all e h = nothing_left before now all h
all_written before now (b ∷ rest) all e h = absurd (omega arith)

-- one answer more is to be written, and left
pub left_more : (before now : Option (List ℕ)) (rest all more : List ℕ) → Left before now rest all → Left before now (rest ++ more) (all ++ more)
unfolding Left
left_more before now rest all more h w e = let f = h w e in (f.0, ap (λ (x : List ℕ). x ++ more) f.1 ∙ append_assoc f.0 rest more, f.2)

-- what is left is written
pub left_written : (before now next : Option (List ℕ)) (rest all : List ℕ) → Appends now next rest → Left before now rest all → Left before next [] all
left_written before now next rest all p h = wrote before now next rest [] rest all p (sym (append-nil rest)) h

pub rest_written : (before now next : Option (List ℕ)) (rest all : List ℕ) → Appends now next rest → Left before now rest all → Appends before next all
rest_written before now next rest all p h = nothing_left before next all (left_written before now next rest all p h)

-- a front of what is left was written
pub rest_front : (before now next : Option (List ℕ)) (rest all : List ℕ) → AppendsFront now next rest → Left before now rest all → AppendsFront before next all
unfolding Left
rest_front before now next rest all p h w e =
    let f = h w e in
    let k = p (w ++ f.0) f.2 in
    (f.0 ++ k.0, k.1, f.1 ∙ ap (λ (x : List ℕ). f.0 ++ x) k.2 ∙ sym (append_assoc f.0 k.0 k.1), k.3 ∙ ap Some (append_assoc w f.0 k.0))

pub front_of_more : (before next : Option (List ℕ)) (a b : List ℕ) → AppendsFront before next a → AppendsFront before next (a ++ b)
front_of_more before next a b h w e = let f = h w e in (f.0, f.1 ++ b, ap (λ (x : List ℕ). x ++ b) f.2 ∙ append_assoc f.0 f.1 b, f.3)

pub all_is_front : (before next : Option (List ℕ)) (a b : List ℕ) → Appends before next a → AppendsFront before next (a ++ b)
all_is_front before next a b h w e = (a, b, refl, h w e)

-- ---- of a call that returned or failed

pub map_ok : {T E : Type 0} (r : Result T E) {A B : Type 0} → OnOk r A → (A → B) → OnOk r B
map_ok (Ok x) a f = f a
map_ok (Err e) a f = tt

pub map_device : {T : Type 0} (r : Result T Status) {A : Type 0} (P : Status → Type 0) → IfErr r (λ ended. ended ≡ status.DeviceFault) → OnErr r A → (A → P status.DeviceFault) → IfErr r P
map_device (Ok x) P e a f = tt
map_device (Err ended) P e a f = subst P (sym e) (f a)

pub map_err : {T : Type 0} (r : Result T Status) (P Q : Status → Type 0) → IfErr r P → ((ended : Status) → P ended → Q ended) → IfErr r Q
map_err (Ok x) P Q p f = tt
map_err (Err ended) P Q p f = f ended p

err_by : {T : Type 0} (r : Result T Status) (P : Status → Type 0) (x : Status) → r ≡ Err x → P x → IfErr r P
err_by (Ok y) P x e p = absurd cc
err_by (Err y) P x e p = let k : y ≡ x = cc in subst P (sym k) p

-- an error that was passed on
pub passed_on : {T : Type 0} (r : Result T Status) (P : Status → Type 0) (ended : Status) → ((x : Status) × (r ≡ Err x) × (x ≡ ended)) → P ended → IfErr r P
passed_on r P ended h p = err_by r P h.0 h.1 (subst P (sym h.2) p)

-- nothing is left: all was written
pub all_held : (before now : Option (List ℕ)) (held all : List ℕ) → held ≡ [] → Left before now held all → Appends before now all
all_held before now held all e h = nothing_left before now all (subst (λ (x : List ℕ). Left before now x all) e h)
