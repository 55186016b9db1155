-- What was read of bytes that are known.
use Rattle.std.proofs.Common.{◌≡◌, ◌≤◌, ℕ, zero, suc, List, [], ◌∷◌, ◌++◌, Option, Some, None, refl, ap, sym, ◌∙◌, append_assoc, append-nil, length, take, arith}
use Rattle.std.specs.Option.{option_map}
use Rattle.std.proofs.Math.Seq.{take-append_seam}
use Rattle.occheck_script.specs.Devices.{Gives}

-- what was read and what is left make all that there was
abbrev pub Known : Option (List ℕ) → Option (List ℕ) → List ℕ → Type 0
Known before now got = (all : List ℕ) → before ≡ Some all → option_map (λ rest. got ++ rest) now ≡ Some all

pub nothing_read : (before : Option (List ℕ)) → Known before before []
nothing_read before all e = ap (λ (o : Option (List ℕ)). option_map (λ rest. [] ++ rest) o) e

pub some_left : (now : Option (List ℕ)) (got all : List ℕ) → option_map (λ rest. got ++ rest) now ≡ Some all → (rest : List ℕ) × (now ≡ Some rest) × (got ++ rest ≡ all)
some_left None got all e = absurd cc
some_left (Some rest) got all e = (rest, refl, cc)

pub read_on : (before now next : Option (List ℕ)) (got piece : List ℕ) → Known before now got → Gives now next piece → Known before next (got ++ piece)
read_on before now next got piece k g all e =
    let s = some_left now got all (k all e) in
    let h = g s.0 s.1 in
    ap (λ (o : Option (List ℕ)). option_map (λ rest. (got ++ piece) ++ rest) o) h.2
    ∙ ap Some (append_assoc got piece h.0 ∙ ap (λ (x : List ℕ). got ++ x) (sym h.1) ∙ s.2)

-- where nothing is left, all was read
pub read_all : (before now : Option (List ℕ)) (got all : List ℕ) → Known before now got → ((rest : List ℕ) → now ≡ Some rest → rest ≡ []) → before ≡ Some all → got ≡ all
read_all before now got all k end e =
    let s = some_left now got all (k all e) in
    sym (append-nil got) ∙ ap (λ (x : List ℕ). got ++ x) (sym (end s.0 s.1)) ∙ s.2

pub take_whole : (n : ℕ) (xs : List ℕ) → length xs ≤ n → take n xs ≡ xs
take_whole zero [] h = refl
take_whole (suc n) [] h = refl
take_whole zero (x ∷ xs) h = absurd (omega arith)
take_whole (suc n) (x ∷ xs) h = ap (λ (ys : List ℕ). x ∷ ys) (take_whole n xs (omega arith))

-- at the end all was read, so a front of it that is long enough
pub read_to_end : (before now : Option (List ℕ)) (got : List ℕ) (n : ℕ) → Known before now got → ((rest : List ℕ) → now ≡ Some rest → rest ≡ []) → length got ≤ n
    → (all : List ℕ) → before ≡ Some all → got ≡ take n all
read_to_end before now got n k end h all e =
    let a : got ≡ all = read_all before now got all k end e in
    sym (take_whole n got h) ∙ ap (λ (x : List ℕ). take n x) a

-- so many bytes were read: they are the first of all
pub read_so_many : (before now : Option (List ℕ)) (got : List ℕ) (n : ℕ) → Known before now got → length got ≡ n → (all : List ℕ) → before ≡ Some all → got ≡ take n all
read_so_many before now got n k h all e =
    let s = some_left now got all (k all e) in
    sym (take-append_seam got s.0) ∙ ap (λ (x : List ℕ). take (length got) x) s.2 ∙ ap (λ (m : ℕ). take m all) h
