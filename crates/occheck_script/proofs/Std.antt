-- What std's readers and writers do to known bytes, in the words of this crate.
use Rattle.std.proofs.Common.{◌≡◌, ℕ, List, [], ◌++◌, Option, Some, None, Result, Ok, Err, refl, ap, sym, ◌∙◌, append-nil, take, subst}
use Rattle.std.specs.Io.KnownBytes.{Appends as StdAppends, Consumes, IsAtEnd, Keeps, ReadConsumes, WriteAppends}
use Rattle.occheck_script.specs.Devices.{Appends, Gives}

pub appends : (old new : Option (List ℕ)) (more : List ℕ) → StdAppends old new more → Appends old new more
appends None new more h w e = absurd cc
appends (Some x) None more h w e = absurd h
appends (Some x) (Some y) more h w e = let i : x ≡ w = cc in ap Some (h ∙ ap (λ (v : List ℕ). v ++ more) i)

pub stays : (old new : Option (List ℕ)) → Keeps old new → Appends old new []
stays None new h w e = absurd cc
stays (Some x) None h w e = absurd h
stays (Some x) (Some y) h w e = ap Some h ∙ e ∙ ap Some (sym (append-nil w))

pub gives : (old new : Option (List ℕ)) (got : List ℕ) → Consumes old new got → Gives old new got
gives None new got h bytes e = absurd cc
gives (Some x) None got h bytes e = absurd h
gives (Some x) (Some y) got h bytes e = let i : x ≡ bytes = cc in (y, sym i ∙ h, refl)

pub ends : (old new : Option (List ℕ)) (buffer bytes : List ℕ) (n : ℕ) → n ≡ 0 → Consumes old new (take n buffer) → IsAtEnd new → old ≡ Some bytes → bytes ≡ []
ends None new buffer bytes n z h a e = absurd cc
ends (Some x) None buffer bytes n z h a e = absurd h
ends (Some x) (Some y) buffer bytes n z h a e =
    let i : x ≡ bytes = cc in
    let k : x ≡ take 0 buffer ++ y = subst (λ (m : ℕ). x ≡ take m buffer ++ y) z h in
    sym i ∙ k ∙ a

-- what an interrupted call kept, the next one finds
pub keeps_on : (a b c : Option (List ℕ)) → Keeps a b → Keeps b c → Keeps a c
keeps_on None b c h k = tt
keeps_on (Some x) None c h k = absurd h
keeps_on (Some x) (Some y) None h k = absurd k
keeps_on (Some x) (Some y) (Some z) h k = k ∙ h

pub consumes_on : (a b c : Option (List ℕ)) (got : List ℕ) → Keeps a b → Consumes b c got → Consumes a c got
consumes_on None b c got h k = tt
consumes_on (Some x) None c got h k = absurd h
consumes_on (Some x) (Some y) None got h k = absurd k
consumes_on (Some x) (Some y) (Some z) got h k = sym h ∙ k

pub appends_on : (a b c : Option (List ℕ)) (more : List ℕ) → Keeps a b → StdAppends b c more → StdAppends a c more
appends_on None b c more h k = tt
appends_on (Some x) None c more h k = absurd h
appends_on (Some x) (Some y) None more h k = absurd k
appends_on (Some x) (Some y) (Some z) more h k = k ∙ ap (λ (v : List ℕ). v ++ more) h

pub keeps_self : (a : Option (List ℕ)) → Keeps a a
keeps_self None = tt
keeps_self (Some x) = refl

pub read_on : {E : Type 0} (a b c : Option (List ℕ)) (r : Result ℕ E) (buffer : List ℕ) → Keeps a b → ReadConsumes b c r buffer → ReadConsumes a c r buffer
read_on a b c (Ok n) buffer h k = (consumes_on a b c (take n buffer) h k.0, k.1)
read_on a b c (Err e) buffer h k = keeps_on a b c h k

pub write_on : {E : Type 0} (a b c : Option (List ℕ)) (r : Result ℕ E) (buffer : List ℕ) → Keeps a b → WriteAppends b c r buffer → WriteAppends a c r buffer
write_on a b c (Ok n) buffer h k = appends_on a b c (take n buffer) h k
write_on a b c (Err e) buffer h k = keeps_on a b c h k
