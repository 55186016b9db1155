-- Laws of the entries of a file, line by line.
use Rattle.std.proofs.Common.{◌≡◌, ℕ, zero, suc, ◌+◌, ◌-◌, ◌<◌, true, false, Bool, cond, List, [], ◌∷◌, ◌++◌, Option, Some, None, Err, refl, sym, ap, ◌∙◌, arith}
use Rattle.std.specs.Option.{MatchOption, option_map}
use Rattle.std.specs.Result.{result_ok}
use Rattle.occ_base.specs.declared.code.Code.TheVariants.{G5, G6}
use Rattle.occ_forms.specs.declared.source.LineBody.{LineBody}
use Rattle.occ_forms.specs.declared.source.LineBody.TheVariants as body
use Rattle.occ_forms.specs.declared.source.SourceLine.{SourceLine}
use Rattle.occ_project.specs.declared.entry.ExpansionEntry.{ExpansionEntry}
use Rattle.occ_project.specs.declared.entry.Held.{Held}
use Rattle.occ_project.specs.declared.making.Made.{Made}
use Rattle.occ_project.specs.declared.reads.Read.{Read}
use Rattle.occ_project.specs.Entries.{FileEntries, entries, file_entries, held, included, inner_entries, is_among, put_in}
use Rattle.occ_project.specs.inside.Making.{after, step}
use Rattle.occ_project.proofs.Made.{after_both, after_over}

-- what gives the entries of the files that a file puts in
abbrev pub inner_of : List Read → ℕ → FileEntries
inner_of reads zero = λ way file raise lines. []
inner_of reads (suc left) = entries reads left

pub entries_are : (reads : List Read) (left : ℕ) → entries reads left ≡ file_entries reads left (inner_of reads left)
unfolding entries
entries_are reads zero = refl
entries_are reads (suc left) = refl

pub inner_is : (reads : List Read) (left : ℕ) → 0 < left → inner_of reads left ≡ entries reads (left - 1)
inner_is reads zero h = absurd (omega arith)
inner_is reads (suc left) h = let e : suc left - 1 ≡ left = omega arith in ap (entries reads) (sym e)

-- where no more inclusions may be nested, no file is put in
none_left : (way : List (List ℕ)) (reads : List Read) (body : LineBody) → put_in (included reads way 0) body ≡ None
none_left way reads (body.Form form) = refl
none_left way reads (body.Uses unit list) = refl
none_left way reads (body.Fault fault) = refl
none_left way reads (body.Include name) = by (is_among way name) where
  by : (b : Bool) → option_map {T = List SourceLine} {U = List ℕ × List SourceLine} (λ lines. (name, lines)) (result_ok (cond b (Err G5) (Err G6))) ≡ None
  by true = refl
  by false = refl

pub some_left : (way : List (List ℕ)) (reads : List Read) (left : ℕ) (body : LineBody) (file : List ℕ × List SourceLine) → Some file ≡ put_in (included reads way left) body → 0 < left
some_left way reads zero body file e = let n = none_left way reads body in absurd (cc (e, n))
some_left way reads (suc left) body file e = omega arith

-- a line is done: what it holds and puts in has come, and the lines after it are left
pub line_done : (reads : List Read) (left : ℕ) (way : List (List ℕ)) (file : List ℕ) (raise : ℕ) (line : SourceLine) (rest lines : List SourceLine) (seen : List (List ℕ)) (depth : ℕ) (holds : Held) (found : Option (List ℕ × List SourceLine)) (old new total : Made)
    → lines ≡ line ∷ rest → seen ≡ way → depth ≡ raise + line.depth
    → holds ≡ held reads (included reads seen left) depth line.body
    → found ≡ put_in (included reads seen left) line.body
    → new ≡ after (step old (record { file = file; line = line.line; held = holds })) (inner_entries (inner_of reads left) way depth found)
    → after old (file_entries reads left (inner_of reads left) way file raise lines) ≡ total
    → after new (file_entries reads left (inner_of reads left) way file raise rest) ≡ total
line_done reads left way file raise line rest lines seen depth holds found old new total l w d h f n e =
    let entry_at : Held → ExpansionEntry = λ x. record { file = file; line = line.line; held = x } in
    let inner : ℕ → Option (List ℕ × List SourceLine) → List ExpansionEntry = inner_entries (inner_of reads left) way in
    let full = raise + line.depth in
    let body = line.body in
    let whole = held reads (included reads way left) full body in
    let rests = file_entries reads left (inner_of reads left) way file raise rest in
    ap (λ (m : Made). after m rests) (n
    ∙ ap (λ (x : Held). after (step old (entry_at x)) (inner depth found)) (h ∙ ap (λ (s : List (List ℕ)). held reads (included reads s left) depth body) w ∙ ap (λ (k : ℕ). held reads (included reads way left) k body) d)
    ∙ ap (λ (x : Option (List ℕ × List SourceLine)). after (step old (entry_at whole)) (inner depth x)) (f ∙ ap (λ (s : List (List ℕ)). put_in (included reads s left) body) w)
    ∙ ap (λ (k : ℕ). after (step old (entry_at whole)) (inner k (put_in (included reads way left) body))) d)
    ∙ sym (after_both (step old (entry_at whole)) (inner full (put_in (included reads way left) body)) rests)
    ∙ ap (λ (ls : List SourceLine). after old (file_entries reads left (inner_of reads left) way file raise ls)) (sym l)
    ∙ e

-- the file that a line puts in has come
pub inner_done : (reads : List Read) (left : ℕ) (way at : List (List ℕ)) (pushed : List (List ℕ)) (file shared : List ℕ) (depth : ℕ) (lines : List SourceLine) (stepped made new : Made)
    → 0 < left → at ≡ way → pushed ≡ at ++ file ∷ [] → made ≡ stepped → shared ≡ file
    → new ≡ after made (entries reads (left - 1) pushed shared depth lines)
    → new ≡ after stepped (inner_entries (inner_of reads left) way depth (Some (file, lines)))
inner_done reads left way at pushed file shared depth lines stepped made new h w p m s e =
    e ∙ ap (λ (name : List ℕ). after made (entries reads (left - 1) pushed name depth lines)) s
    ∙ ap (λ (x : Made). after x (entries reads (left - 1) pushed file depth lines)) m
    ∙ ap (λ (ns : List (List ℕ)). after stepped (entries reads (left - 1) ns file depth lines)) (p ∙ ap (λ (ns : List (List ℕ)). ns ++ file ∷ []) w)
    ∙ ap (λ (f : FileEntries). after stepped (f (way ++ file ∷ []) file depth lines)) (sym (inner_is reads left h))

-- where it is over, what is left changes nothing
pub over_now : (reads : List Read) (left : ℕ) (way : List (List ℕ)) (file : List ℕ) (raise : ℕ) (rest : List SourceLine) (made total : Made) → made.is_over ≡ true
    → after made (file_entries reads left (inner_of reads left) way file raise rest) ≡ total → made ≡ total
over_now reads left way file raise rest made total over e = sym (after_over made (file_entries reads left (inner_of reads left) way file raise rest) over) ∙ e

-- the last name is taken away again
unequal : {X : Type 0} (y : X) (zs : List X) → [] ≡ zs ++ y ∷ [] → ⊥
unequal y [] e = cc
unequal y (z ∷ zs) e = cc

same_front : {X : Type 0} (xs ys : List X) (x y : X) → xs ++ x ∷ [] ≡ ys ++ y ∷ [] → xs ≡ ys
same_front [] [] x y e = refl
same_front [] (z ∷ zs) x y e = let t : [] ≡ zs ++ y ∷ [] = cc in absurd (unequal y zs t)
same_front (z ∷ zs) [] x y e = let t : [] ≡ zs ++ x ∷ [] = cc in absurd (unequal x zs t)
same_front (a ∷ as') (b ∷ bs) x y e =
    let h : a ≡ b = cc in
    let t : as' ++ x ∷ [] ≡ bs ++ y ∷ [] = cc in
    let s = same_front as' bs x y t in
    cc

pub popped : {X : Type 0} (way old new : List X) (x : X) (r : Option X) → old ≡ way ++ x ∷ [] → MatchOption r ((old ≡ []) × (new ≡ [])) (λ last. old ≡ new ++ last ∷ []) → new ≡ way
popped way old new x None e h = absurd (unequal x way (sym h.0 ∙ e))
popped way old new x (Some last) e h = sym (same_front way new x last (sym e ∙ h))
