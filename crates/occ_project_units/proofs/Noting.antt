-- What is noted of an expansion that is gone through is what it looks up and uses.
use Rattle.std.proofs.Common.{◌≡◌, ℕ, zero, suc, ◌+◌, ◌-◌, ◌<◌, ◌&&◌, true, false, Bool, cond, not, nat_eq, List, [], ◌∷◌, ◌++◌, take, Option, Some, None, Err, refl, subst, sym, ap, ◌∙◌, append_assoc, append-nil, arith}
use Rattle.std.proofs.lemmas.Bool.Decides.{nat_tests}
use Rattle.std.proofs.lemmas.Grind.{flat_map-append}
use Rattle.std.specs.List.{flat_map}
use Rattle.std.specs.Option.{MatchOption, ok_or, option_map}
use Rattle.std.specs.Result.{result_err, result_ok}
use Rattle.occ_base.specs.Firsts.{first_indices}
use Rattle.occ_base.specs.declared.code.Code.TheVariants.{G4, G5, G6}
use Rattle.occ_forms.specs.declared.source.LineBody.{LineBody}
use Rattle.occ_forms.specs.declared.source.LineBody.TheVariants as body
use Rattle.occ_forms.specs.declared.source.SourceLine.{SourceLine}
use Rattle.occ_project.specs.declared.entry.ExpansionEntry.{ExpansionEntry}
use Rattle.occ_project.specs.declared.entry.Held.{Held}
use Rattle.occ_project.specs.declared.entry.Held.TheVariants.{Line, Library, Include}
use Rattle.occ_project.specs.declared.reads.Read.{Read}
use Rattle.occ_project.specs.Entries.{FileEntries, entries, file_entries, held, included, inner_entries, is_among, put_in}
use Rattle.occ_project.specs.Expansion.{entry_lines, entry_names, expansion, expansion_of, fault_names, held_lines, held_names, unit_entries}
use Rattle.occ_project.specs.Reads.{open_lines}
use Rattle.occ_project.specs.Uses.{body_units, names_in_order, units_of, used_in}
use Rattle.occ_project_units.specs.declared.skimming.Noted.{Noted}
use Rattle.occ_project_units.specs.inside.Skimming.{after, ended, held_units, started, step, with_both}

-- what gives the entries of the files that a file puts in
abbrev pub inner_of : List Read → ℕ → FileEntries
inner_of reads zero = λ way file raise lines. []
inner_of reads (suc left) = entries reads left

pub entries_are : (reads : List Read) (left : ℕ) → entries reads left ≡ file_entries reads left (inner_of reads left)
unfolding entries
entries_are reads zero = refl
entries_are reads (suc left) = refl

inner_is : (reads : List Read) (left : ℕ) → 0 < left → inner_of reads left ≡ entries reads (left - 1)
inner_is reads zero h = absurd (omega arith)
inner_is reads (suc left) h = let e : suc left - 1 ≡ left = omega arith in ap (entries reads) (sym e)

-- where no more inclusions may be nested, no file is put in
none_left : (way : List (List ℕ)) (reads : List Read) (body : LineBody) → put_in (included reads way 0) body ≡ None
none_left way reads (body.Form form) = refl
none_left way reads (body.Uses unit list) = refl
none_left way reads (body.Fault fault) = refl
none_left way reads (body.Include name) = by (is_among way name) where
  by : (b : Bool) → option_map {T = List SourceLine} {U = List ℕ × List SourceLine} (λ lines. (name, lines)) (result_ok (cond b (Err G5) (Err G6))) ≡ None
  by true = refl
  by false = refl

pub some_left : (way : List (List ℕ)) (reads : List Read) (left : ℕ) (body : LineBody) (file : List ℕ × List SourceLine) → Some file ≡ put_in (included reads way left) body → 0 < left
some_left way reads zero body file e = let n = none_left way reads body in absurd (cc (e, n))
some_left way reads (suc left) body file e = omega arith

-- the last name is taken away again
unequal : {X : Type 0} (y : X) (zs : List X) → [] ≡ zs ++ y ∷ [] → ⊥
unequal y [] e = cc
unequal y (z ∷ zs) e = cc

same_front : {X : Type 0} (xs ys : List X) (x y : X) → xs ++ x ∷ [] ≡ ys ++ y ∷ [] → xs ≡ ys
same_front [] [] x y e = refl
same_front [] (z ∷ zs) x y e = let t : [] ≡ zs ++ y ∷ [] = cc in absurd (unequal y zs t)
same_front (z ∷ zs) [] x y e = let t : [] ≡ zs ++ x ∷ [] = cc in absurd (unequal x zs t)
same_front (a ∷ as') (b ∷ bs) x y e =
    let h : a ≡ b = cc in
    let t : as' ++ x ∷ [] ≡ bs ++ y ∷ [] = cc in
    let s = same_front as' bs x y t in
    cc

pub popped : {X : Type 0} (way old new : List X) (x : X) (r : Option X) → old ≡ way ++ x ∷ [] → MatchOption r ((old ≡ []) × (new ≡ [])) (λ last. old ≡ new ++ last ∷ []) → new ≡ way
popped way old new x None e h = absurd (unequal x way (sym h.0 ∙ e))
popped way old new x (Some last) e h = sym (same_front way new x last (sym e ∙ h))

-- first these, then those
after_both : (noted : Noted) (first more : List ExpansionEntry) → after noted (first ++ more) ≡ after (after noted first) more
after_both noted [] more = refl
after_both noted (entry ∷ first) more = after_both (step noted entry.held) first more

-- what is over stays as it is
after_over : (noted : Noted) (more : List ExpansionEntry) → noted.is_over ≡ true → after noted more ≡ noted
after_over noted [] over = refl
after_over noted (entry ∷ more) over =
    ap (λ (n : Noted). after n more) (ap (λ (b : Bool). cond b noted (cond (nat_eq noted.room 0) (ended noted) (with_both noted (held_names entry.held) (held_units entry.held)))) over)
    ∙ after_over noted more over

-- a line is done: what it holds and puts in has come, and the lines after it are left
pub line_done : (reads : List Read) (left : ℕ) (way : List (List ℕ)) (file : List ℕ) (raise : ℕ) (line : SourceLine) (rest lines : List SourceLine) (found : Option (List ℕ × List SourceLine)) (old now new total : Noted)
    → lines ≡ line ∷ rest
    → now ≡ step old (held reads (included reads way left) (raise + line.depth) line.body)
    → found ≡ put_in (included reads way left) line.body
    → new ≡ after now (inner_entries (inner_of reads left) way (raise + line.depth) found)
    → after old (file_entries reads left (inner_of reads left) way file raise lines) ≡ total
    → after new (file_entries reads left (inner_of reads left) way file raise rest) ≡ total
line_done reads left way file raise line rest lines found old now new total l s f n e =
    let inner : Option (List ℕ × List SourceLine) → List ExpansionEntry = inner_entries (inner_of reads left) way (raise + line.depth) in
    let whole = held reads (included reads way left) (raise + line.depth) line.body in
    let rests = file_entries reads left (inner_of reads left) way file raise rest in
    ap (λ (m : Noted). after m rests) (n ∙ ap (λ (m : Noted). after m (inner found)) s ∙ ap (λ (x : Option (List ℕ × List SourceLine)). after (step old whole) (inner x)) f)
    ∙ sym (after_both (step old whole) (inner (put_in (included reads way left) line.body)) rests)
    ∙ ap (λ (ls : List SourceLine). after old (file_entries reads left (inner_of reads left) way file raise ls)) (sym l)
    ∙ e

-- the file that a line puts in has come
pub inner_done : (reads : List Read) (left : ℕ) (way at pushed : List (List ℕ)) (file : List ℕ) (depth : ℕ) (lines : List SourceLine) (now new : Noted)
    → 0 < left → at ≡ way → pushed ≡ at ++ file ∷ []
    → new ≡ after now (entries reads (left - 1) pushed file depth lines)
    → new ≡ after now (inner_entries (inner_of reads left) way depth (Some (file, lines)))
inner_done reads left way at pushed file depth lines now new h w p e =
    e ∙ ap (λ (ns : List (List ℕ)). after now (entries reads (left - 1) ns file depth lines)) (p ∙ ap (λ (ns : List (List ℕ)). ns ++ file ∷ []) w)
    ∙ ap (λ (f : FileEntries). after now (f (way ++ file ∷ []) file depth lines)) (sym (inner_is reads left h))

-- where it is over, what is left changes nothing
pub over_now : (reads : List Read) (left : ℕ) (way : List (List ℕ)) (file : List ℕ) (raise : ℕ) (rest : List SourceLine) (noted total : Noted) → noted.is_over ≡ true
    → after noted (file_entries reads left (inner_of reads left) way file raise rest) ≡ total → noted ≡ total
over_now reads left way file raise rest noted total over e = sym (after_over noted (file_entries reads left (inner_of reads left) way file raise rest) over) ∙ e

-- whether the file of an include is looked up decides what it puts in, and what is noted
pub looked_lines : (b c : Bool) (lines : Option (List SourceLine)) → result_ok (cond b (Err G5) (cond c (Err G6) (ok_or lines G4))) ≡ cond (not b && not c) lines None
looked_lines true c lines = refl
looked_lines false true lines = refl
looked_lines false false None = refl
looked_lines false false (Some lines) = refl

pub looked_names : (name : List ℕ) (b c : Bool) (lines : Option (List SourceLine)) → fault_names name (result_err (cond b (Err G5) (cond c (Err G6) (ok_or lines G4)))) ≡ cond (not b && not c) (name ∷ []) []
looked_names name true c lines = refl
looked_names name false true lines = refl
looked_names name false false None = refl
looked_names name false false (Some lines) = refl

-- what is noted of the entries within the room
abbrev entry_units : ExpansionEntry → List (List ℕ)
entry_units entry = held_units entry.held

record IsNotedOf (noted : Noted) (all : List ExpansionEntry) (found : Noted) : Type 0 where
  pub names : found.names ≡ noted.names ++ flat_map entry_names (take noted.room all)
  pub units : found.units ≡ noted.units ++ flat_map entry_units (take noted.room all)

-- there are no more entries
ends : (noted : Noted) (n : ℕ) → noted.room ≡ n → IsNotedOf noted [] noted
ends noted zero e = record {
  names = rw e (sym (append-nil noted.names));
  units = rw e (sym (append-nil noted.units));
}
ends noted (suc n) e = record {
  names = rw e (sym (append-nil noted.names));
  units = rw e (sym (append-nil noted.units));
}

-- there is no room
full : (noted : Noted) (entry : ExpansionEntry) (more : List ExpansionEntry) → noted.room ≡ 0 → IsNotedOf noted (entry ∷ more) (ended noted)
full noted entry more e = record {
  names = rw e (sym (append-nil noted.names));
  units = rw e (sym (append-nil noted.units));
}

-- one comes, and then the others
abbrev with_entry : Noted → ExpansionEntry → Noted
with_entry noted entry = with_both noted (held_names entry.held) (held_units entry.held)

more_noted : (noted : Noted) (n : ℕ) (entry : ExpansionEntry) (more : List ExpansionEntry) (found : Noted) → noted.room ≡ suc n → IsNotedOf (with_entry noted entry) more found → IsNotedOf noted (entry ∷ more) found
more_noted noted n entry more found e h =
    let room : noted.room - 1 ≡ n = omega arith in
    record {
      names = rw e (rw room at h.names ∙ append_assoc noted.names (entry_names entry) (flat_map entry_names (take n more)));
      units = rw e (rw room at h.units ∙ append_assoc noted.units (entry_units entry) (flat_map entry_units (take n more)));
    }

-- one comes where it is not over
stepped : (noted : Noted) (entry : ExpansionEntry) → noted.is_over ≡ false → step noted entry.held ≡ cond (nat_eq noted.room 0) (ended noted) (with_entry noted entry)
stepped noted entry on = ap (λ (b : Bool). cond b noted (cond (nat_eq noted.room 0) (ended noted) (with_entry noted entry))) on

not_zero : (n : ℕ) → nat_eq (suc n) 0 ≡ false
not_zero n = grind (arith, nat_tests)

comes : (noted : Noted) (n : ℕ) (entry : ExpansionEntry) (more : List ExpansionEntry) → noted.is_over ≡ false → noted.room ≡ n
    → IsNotedOf (with_entry noted entry) more (after (with_entry noted entry) more) → IsNotedOf noted (entry ∷ more) (after noted (entry ∷ more))
comes noted zero entry more on e h =
    let to_end : step noted entry.held ≡ ended noted = stepped noted entry on ∙ ap (λ (n : ℕ). cond (nat_eq n 0) (ended noted) (with_entry noted entry)) e in
    subst (IsNotedOf noted (entry ∷ more)) (sym (ap (λ (m : Noted). after m more) to_end ∙ after_over (ended noted) more refl)) (full noted entry more e)
comes noted (suc n) entry more on e h =
    let to_more : step noted entry.held ≡ with_entry noted entry = stepped noted entry on ∙ ap (λ (n : ℕ). cond (nat_eq n 0) (ended noted) (with_entry noted entry)) e ∙ ap (λ (b : Bool). cond b (ended noted) (with_entry noted entry)) (not_zero n) in
    subst (IsNotedOf noted (entry ∷ more)) (sym (ap (λ (m : Noted). after m more) to_more)) (more_noted noted n entry more (after (with_entry noted entry) more) e h)

noted_of : (all : List ExpansionEntry) (noted : Noted) → noted.is_over ≡ false → IsNotedOf noted all (after noted all)
noted_of [] noted on = ends noted noted.room refl
noted_of (entry ∷ more) noted on = comes noted noted.room entry more on refl (noted_of more (with_entry noted entry) refl)

-- the units of entries are those of their lines
line_units : (file : List ℕ) (line : ℕ) (it : Held) → flat_map units_of (held_lines file line it) ≡ held_units it
line_units file line (Line depth body) = append-nil (body_units body)
line_units file line (Library depth units list fault) = append-nil units
line_units file line (Include name fault) = refl

all_units : (all : List ExpansionEntry) → flat_map units_of (flat_map entry_lines all) ≡ flat_map entry_units all
all_units [] = refl
all_units (entry ∷ all) =
    flat_map-append units_of (entry_lines entry) (flat_map entry_lines all)
    ∙ ap (λ (us : List (List ℕ)). us ++ flat_map units_of (flat_map entry_lines all)) (line_units entry.file entry.line entry.held)
    ∙ ap (λ (us : List (List ℕ)). entry_units entry ++ us) (all_units all)

-- of a whole unit it is what the unit reads and uses, with any limit
abbrev limited : ℕ → List ℕ → Noted
limited limit unit = record { names = unit ∷ []; units = []; room = limit; is_over = false }

reads_limited : (limit : ℕ) (unit : List ℕ) (all : List ExpansionEntry) → first_indices (after (limited limit unit) all).names ≡ (expansion_of limit unit all).reads
reads_limited limit unit all = ap first_indices (noted_of all (limited limit unit) refl).names

uses_limited : (limit : ℕ) (unit : List ℕ) (all : List ExpansionEntry) → names_in_order (after (limited limit unit) all).units ≡ used_in (expansion_of limit unit all).lines
uses_limited limit unit all = ap names_in_order ((noted_of all (limited limit unit) refl).units ∙ sym (all_units (take limit all)))

pub reads_noted : (reads : List Read) (unit : List ℕ) (noted : Noted) → noted ≡ after (started unit) (unit_entries reads unit (open_lines reads unit)) → first_indices noted.names ≡ (expansion reads unit).reads
unfolding expansion
reads_noted reads unit noted e = ap (λ (n : Noted). first_indices n.names) e ∙ reads_limited 65535 unit (unit_entries reads unit (open_lines reads unit))

pub uses_noted : (reads : List Read) (unit : List ℕ) (noted : Noted) → noted ≡ after (started unit) (unit_entries reads unit (open_lines reads unit)) → names_in_order noted.units ≡ used_in (expansion reads unit).lines
unfolding expansion
uses_noted reads unit noted e = ap (λ (n : Noted). names_in_order n.units) e ∙ uses_limited 65535 unit (unit_entries reads unit (open_lines reads unit))
