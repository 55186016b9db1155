-- Scripts that are read one after the other.
use Rattle.std.proofs.Common.{◌≡◌, ◌∙◌, ◌+◌, ℕ, List, [], ◌∷◌, ◌++◌, Option, Some, None, Result, Ok, Err, IfOk, IfErr, map, length, refl, ap, sym, subst, append_assoc, length-append}
use Rattle.occheck_commands.specs.Script.{Script, script_of}
use Rattle.occheck_sessions.specs.Output.{fault_in, first_fault}
use Rattle.occheck_sessions.specs.Sessions.{session_fault}
use Rattle.occheck_sessions.specs.declared.reading.Unread.{Unread}
use Rattle.occheck_sessions.specs.declared.reading.Unread.TheVariants as unread
use Rattle.occheck_sessions.specs.inside.Unread.{IsFault}

pub if_ok : {A E : Type 0} (P Q : A → Type 0) (r : Result A E) → ((a : A) → P a → Q a) → IfOk r P → IfOk r Q
if_ok P Q (Ok a) f h = f a h
if_ok P Q (Err e) f h = h

pub if_err : {A E : Type 0} (P Q : E → Type 0) (r : Result A E) → ((e : E) → P e → Q e) → IfErr r P → IfErr r Q
if_err P Q (Ok a) f h = h
if_err P Q (Err e) f h = f e h

-- the bytes of these readers are known to be these
abbrev pub Known : {A : Type 0} → (A → Option (List ℕ)) → List A → List (List ℕ) → Type 0
Known known readers bytes = map known readers ≡ map (λ (x : List ℕ). Some x) bytes

first_known : {A : Type 0} (known : A → Option (List ℕ)) (reader : A) (rest : List A) (b : List ℕ) (bs : List (List ℕ)) → Known known (reader ∷ rest) (b ∷ bs) → (known reader ≡ Some b) × Known known rest bs
first_known known reader rest b bs h = (cc, cc)

says_split : {A : Type 0} (known : A → Option (List ℕ)) (reader : A) (rest : List A) (before more all : List Script) (script : Script) → more ≡ before ++ script ∷ []
    → ((b : List ℕ) → known reader ≡ Some b → script ≡ script_of b) → ((bs : List (List ℕ)) → Known known rest bs → all ≡ more ++ map script_of bs)
    → (bytes : List (List ℕ)) → Known known (reader ∷ rest) bytes → all ≡ before ++ map script_of bytes
says_split known reader rest before more all script m one others [] h = absurd cc
says_split known reader rest before more all script m one others (b ∷ bs) h =
    let k = first_known known reader rest b bs h in
    others bs k.1 ∙ ap (λ (xs : List Script). xs ++ map script_of bs) m ∙ append_assoc before (script ∷ []) (map script_of bs) ∙ ap (λ (s : Script). before ++ s ∷ map script_of bs) (one b k.0)

pub says_more : {A : Type 0} (known : A → Option (List ℕ)) (readers : List A) (reader : A) (rest : List A) (before more all : List Script) (script : Script) → readers ≡ reader ∷ rest → more ≡ before ++ script ∷ []
    → ((b : List ℕ) → known reader ≡ Some b → script ≡ script_of b) → ((bs : List (List ℕ)) → Known known rest bs → all ≡ more ++ map script_of bs)
    → (bytes : List (List ℕ)) → Known known readers bytes → all ≡ before ++ map script_of bytes
says_more {A} known readers reader rest before more all script r m one others bytes h =
    says_split known reader rest before more all script m one others bytes (subst (λ (xs : List A). Known known xs bytes) r h)

-- ---- faults

later_none : (k : ℕ) (f : Option ℕ) (later : Option (ℕ × ℕ)) → fault_in k f later ≡ None → (f ≡ None) × (later ≡ None)
later_none k None later h = (refl, h)
later_none k (Some line) later h = absurd cc

pub fine_more : (k : ℕ) (before : List Script) (script : Script) → session_fault script ≡ None → first_fault k before ≡ None → first_fault k (before ++ script ∷ []) ≡ None
fine_more k [] script f h = ap (λ (x : Option ℕ). fault_in k x None) f
fine_more k (s ∷ ss) script f h =
    let l = later_none k (session_fault s) (first_fault (k + 1) ss) h in
    ap (λ (x : Option ℕ). fault_in k x (first_fault (k + 1) (ss ++ script ∷ []))) l.0 ∙ fine_more (k + 1) ss script f l.1

widened : (n : ℕ) (f : Option ℕ) (later : Option (ℕ × ℕ)) (why : Unread) → IsFault (fault_in n f None) why → IsFault (fault_in n f later) why
widened n (Some line) later why h = h
widened n None later unread.Device h = h
widened n None later unread.Memory h = h
widened n None later (unread.Script session line) h = absurd cc

fault_split : {A : Type 0} (known : A → Option (List ℕ)) (reader : A) (rest : List A) (n : ℕ) (why : Unread)
    → ((b : List ℕ) → known reader ≡ Some b → IsFault (fault_in n (session_fault (script_of b)) None) why)
    → (bytes : List (List ℕ)) → Known known (reader ∷ rest) bytes → IsFault (first_fault n (map script_of bytes)) why
fault_split known reader rest n why one [] h = absurd cc
fault_split known reader rest n why one (b ∷ bs) h =
    let k = first_known known reader rest b bs h in widened n (session_fault (script_of b)) (first_fault (n + 1) (map script_of bs)) why (one b k.0)

-- the first script is wrong, or is not read
pub fault_first : {A : Type 0} (known : A → Option (List ℕ)) (readers : List A) (reader : A) (rest : List A) (n : ℕ) (why : Unread) → readers ≡ reader ∷ rest
    → ((b : List ℕ) → known reader ≡ Some b → IsFault (fault_in n (session_fault (script_of b)) None) why)
    → (bytes : List (List ℕ)) → Known known readers bytes → IsFault (first_fault n (map script_of bytes)) why
fault_first {A} known readers reader rest n why r one bytes h = fault_split known reader rest n why one bytes (subst (λ (xs : List A). Known known xs bytes) r h)

fault_after : {A : Type 0} (known : A → Option (List ℕ)) (reader : A) (rest : List A) (script : Script) (n : ℕ) (why : Unread) → session_fault script ≡ None
    → ((b : List ℕ) → known reader ≡ Some b → script ≡ script_of b) → ((bs : List (List ℕ)) → Known known rest bs → IsFault (first_fault (n + 1) (map script_of bs)) why)
    → (bytes : List (List ℕ)) → Known known (reader ∷ rest) bytes → IsFault (first_fault n (map script_of bytes)) why
fault_after known reader rest script n why fine one others [] h = absurd cc
fault_after known reader rest script n why fine one others (b ∷ bs) h =
    let k = first_known known reader rest b bs h in
    let f : session_fault (script_of b) ≡ None = ap session_fault (sym (one b k.0)) ∙ fine in
    subst (λ (x : Option ℕ). IsFault (fault_in n x (first_fault (n + 1) (map script_of bs))) why) (sym f) (others bs k.1)

-- the first script is not wrong, and a later one is, or is not read
pub fault_later : {A : Type 0} (known : A → Option (List ℕ)) (readers : List A) (reader : A) (rest : List A) (before more : List Script) (script : Script) (why : Unread) → readers ≡ reader ∷ rest → more ≡ before ++ script ∷ []
    → session_fault script ≡ None → ((b : List ℕ) → known reader ≡ Some b → script ≡ script_of b)
    → ((bs : List (List ℕ)) → Known known rest bs → IsFault (first_fault (length more + 1) (map script_of bs)) why)
    → (bytes : List (List ℕ)) → Known known readers bytes → IsFault (first_fault (length before + 1) (map script_of bytes)) why
fault_later {A} known readers reader rest before more script why r m fine one others bytes h =
    let n : length more ≡ length before + 1 = ap length m ∙ length-append before (script ∷ []) in
    fault_after known reader rest script (length before + 1) why fine one (λ bs k. subst (λ (i : ℕ). IsFault (first_fault (i + 1) (map script_of bs)) why) n (others bs k)) bytes (subst (λ (xs : List A). Known known xs bytes) r h)
