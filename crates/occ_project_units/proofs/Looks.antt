-- An expansion looks at nothing but its reads.
use Rattle.std.proofs.Common.{◌≡◌, ℕ, zero, suc, ◌+◌, true, false, Bool, cond, not, ◌||◌, List, [], ◌∷◌, ◌++◌, take, drop, Option, Some, None, Result, Ok, Err, refl, sym, ap, subst, ◌∙◌, append_assoc, append-nil, nat_eq}
use Rattle.std.specs.List.{filter, flat_map}
use Rattle.std.specs.Option.{ok_or, option_map}
use Rattle.std.specs.Result.{result_err, result_ok}
use Rattle.std.specs.Str.{bytes_eq}
use Rattle.std.proofs.lemmas.Slice.Eq.{bytes_eq-Decides}
use Rattle.std.specs.Cmp.Lexicographic.{same_text}
use Rattle.occ_base.specs.Firsts.{first_indices}
use Rattle.occ_base.specs.declared.code.Code.{Code}
use Rattle.occ_base.specs.declared.code.Code.TheVariants.{G4, G5, G6, G7}
use Rattle.occ_base.specs.declared.diag.Diag.{Diag}
use Rattle.occ_forms.specs.Prepared.{Prepared}
use Rattle.occ_forms.specs.declared.source.LineBody.{LineBody}
use Rattle.occ_forms.specs.declared.source.LineBody.TheVariants as body
use Rattle.occ_forms.specs.declared.source.SourceLine.{SourceLine}
use Rattle.occ_project.specs.declared.entry.ExpansionEntry.{ExpansionEntry}
use Rattle.occ_project.specs.declared.entry.Held.{Held}
use Rattle.occ_project.specs.declared.entry.Held.TheVariants.{Include}
use Rattle.occ_project.specs.declared.reads.Read.{Read}
use Rattle.occ_project.specs.Entries.{FileEntries, entries, entry_of, file_entries, held, included, inner_entries, is_among, library_line, listing, put_in}
use Rattle.occ_project.specs.Expansion.{entry_faults, entry_lines, entry_names, expansion, expansion_of, fault_names, held_names, limit_faults, unit_entries}
use Rattle.occ_lines.specs.Listing.{listed}
use Rattle.occ_project.specs.Reads.{open_lines, open_source, open_text}

-- the name stands in the front, or after it
or_front : (b c : Bool) → b ≡ true → (b || c) ≡ true
or_front true c h = refl
or_front false c h = cc

or_back : (b c : Bool) → c ≡ true → (b || c) ≡ true
or_back true c h = refl
or_back false c h = h

or_more : (b c d : Bool) → (c ≡ true → d ≡ true) → (b || c) ≡ true → (b || d) ≡ true
or_more true c d f h = refl
or_more false c d f h = f h

among_front : (xs ys : List (List ℕ)) (name : List ℕ) → is_among xs name ≡ true → is_among (xs ++ ys) name ≡ true
among_front [] ys name h = cc
among_front (x ∷ xs) ys name h = or_more (bytes_eq x name) (is_among xs name) (is_among (xs ++ ys) name) (among_front xs ys name) h

among_back : (xs ys : List (List ℕ)) (name : List ℕ) → is_among ys name ≡ true → is_among (xs ++ ys) name ≡ true
among_back [] ys name h = h
among_back (x ∷ xs) ys name h = or_back (bytes_eq x name) (is_among (xs ++ ys) name) (among_back xs ys name h)

pub same_bytes : (name : List ℕ) → bytes_eq name name ≡ true
same_bytes name = (bytes_eq-Decides name name).1 refl

-- a name stands among others if it does among those at their first indices
among_others : (other name : List ℕ) (names : List (List ℕ)) → bytes_eq other name ≡ false → is_among names name ≡ true → is_among (filter (λ n. not (bytes_eq other n)) names) name ≡ true
among_others other name [] e h = h
among_others other name (n ∷ ns) e h = by (bytes_eq n name) (bytes_eq other n) refl refl (among_others other name ns e) h where
  rest : List (List ℕ)
  rest = filter (λ n. not (bytes_eq other n)) ns

  by : (b c : Bool) → bytes_eq n name ≡ b → bytes_eq other n ≡ c → (is_among ns name ≡ true → is_among rest name ≡ true) → (b || is_among ns name) ≡ true → is_among (cond (not c) (n ∷ rest) rest) name ≡ true
  by true false p q f k = or_front (bytes_eq n name) (is_among rest name) p
  by true true p q f k = let t : bytes_eq other name ≡ true = ap (bytes_eq other) (sym (same_text n name (sym p))) ∙ q in absurd (cc (t, e))
  by false true p q f k = f k
  by false false p q f k = or_back (bytes_eq n name) (is_among rest name) (f k)

pub among_first : (names : List (List ℕ)) (name : List ℕ) → is_among names name ≡ true → is_among (first_indices names) name ≡ true
among_first [] name h = h
among_first (n ∷ ns) name h = by (bytes_eq n name) refl (among_first ns name) h where
  rest : List (List ℕ)
  rest = filter (λ other. not (bytes_eq n other)) (first_indices ns)

  by : (b : Bool) → bytes_eq n name ≡ b → (is_among ns name ≡ true → is_among (first_indices ns) name ≡ true) → (b || is_among ns name) ≡ true → is_among (n ∷ rest) name ≡ true
  by true p f k = or_front (bytes_eq n name) (is_among rest name) p
  by false p f k = or_back (bytes_eq n name) (is_among rest name) (among_others n name (first_indices ns) p (f k))

-- what stands in the place of an include, by whether it is refused and by the lines of its file
abbrev stands : Bool → Bool → Option (List SourceLine) → Result (List SourceLine) Code
stands b c lines = cond b (Err G5) (cond c (Err G6) (ok_or lines G4))

-- it is the same, if the lines are where they are looked up
looked_up : (b c : Bool) (name : List ℕ) (o p : Option (List SourceLine)) → (is_among (fault_names name (result_err (stands b c o))) name ≡ true → p ≡ o) → stands b c p ≡ stands b c o
looked_up true c name o p h = refl
looked_up false true name o p h = refl
looked_up false false name None p h = ap (stands false false) (h (or_front (bytes_eq name name) false (same_bytes name)))
looked_up false false name (Some lines) p h = ap (stands false false) (h (or_front (bytes_eq name name) false (same_bytes name)))

-- the units that the text of a file lists, if it is open
abbrev pub open_listed : List Read → List ℕ → Option (Option (List (List ℕ)))
open_listed reads name = option_map listed (open_text reads name)

-- the file of that name has the same lines in both, and lists the same units
pub record IsAlike (files others : List Read) (name : List ℕ) : Type 0 where
  pub lines : open_lines others name ≡ open_lines files name
  pub units : open_listed others name ≡ open_listed files name

pub same_alike : (files others : List Read) (name : List ℕ) → open_source others name ≡ open_source files name → IsAlike files others name
same_alike files others name e = record {
  lines = ap (option_map (λ (s : Prepared). s.lines)) e;
  units = ap (λ (o : Option Prepared). option_map listed (option_map (λ (s : Prepared). s.text) o)) e;
}

-- a library stands for what its list has
abbrev listing_by : List ℕ → Option (Option (List (List ℕ))) → Result (List (List ℕ)) Code
listing_by unit None = Ok (unit ∷ [])
listing_by unit (Some units) = ok_or units G7

listing_is : (unit : List ℕ) (text : Option (List ℕ)) → listing unit text ≡ listing_by unit (option_map listed text)
listing_is unit None = refl
listing_is unit (Some text) = refl

module _ (files others : List Read) where
  -- the files of these names are alike in both
  abbrev pub Agree : List (List ℕ) → Type 0
  Agree names = (name : List ℕ) → is_among names name ≡ true → IsAlike files others name

  agree_front : (xs ys : List (List ℕ)) → Agree (xs ++ ys) → Agree xs
  agree_front xs ys h name a = h name (among_front xs ys name a)

  agree_back : (xs ys : List (List ℕ)) → Agree (xs ++ ys) → Agree ys
  agree_back xs ys h name a = h name (among_back xs ys name a)

  -- if what the first n of these look up is the same in both, so are they, and what says that there are more
  pub record Same (n : ℕ) (xs ys : List ExpansionEntry) : Type 0 where
    pub entries_are : take n ys ≡ take n xs
    pub faults_are : limit_faults (drop n ys) ≡ limit_faults (drop n xs)

  abbrev pub Alike : List ExpansionEntry → List ExpansionEntry → Type 0
  Alike xs ys = (n : ℕ) → Agree (flat_map entry_names (take n xs)) → Same n xs ys

  -- one entry more, which is the same where its file is
  one_more : (x y : ExpansionEntry) (xs ys : List ExpansionEntry) → limit_faults (y ∷ []) ≡ limit_faults (x ∷ []) → (Agree (entry_names x) → (y ≡ x) × Alike xs ys) → Alike (x ∷ xs) (y ∷ ys)
  one_more x y xs ys f h zero a = record { entries_are = refl; faults_are = f }
  one_more x y xs ys f h (suc n) a =
      let both = h (agree_front (entry_names x) (flat_map entry_names (take n xs)) a) in
      let rest = both.1 n (agree_back (entry_names x) (flat_map entry_names (take n xs)) a) in
      record {
        entries_are = ap (λ (e : ExpansionEntry). e ∷ take n ys) both.0 ∙ ap (λ (es : List ExpansionEntry). x ∷ es) rest.entries_are;
        faults_are = rest.faults_are;
      }

  regroup : (front rest xs front' more ys other : List ExpansionEntry) → other ≡ front' → Alike (front ++ (rest ++ xs)) (front' ++ (more ++ ys)) → Alike ((front ++ rest) ++ xs) ((other ++ more) ++ ys)
  regroup front rest xs front' more ys other e a =
      subst (λ (es : List ExpansionEntry). Alike ((front ++ rest) ++ xs) ((es ++ more) ++ ys)) (sym e)
      (subst (λ (es : List ExpansionEntry). Alike es ((front' ++ more) ++ ys)) (sym (append_assoc front rest xs))
      (subst (λ (es : List ExpansionEntry). Alike (front ++ (rest ++ xs)) es) (sym (append_assoc front' more ys)) a))

  listing_alike : (unit list : List ℕ) → IsAlike files others list → listing unit (open_text others list) ≡ listing unit (open_text files list)
  listing_alike unit list h = listing_is unit (open_text others list) ∙ ap (listing_by unit) h.units ∙ sym (listing_is unit (open_text files list))

  -- so are what a line holds, and the file that it puts in
  body_alike : (way : List (List ℕ)) (left depth : ℕ) (line : LineBody) → Agree (held_names (held files (included files way left) depth line))
      → (held others (included others way left) depth line ≡ held files (included files way left) depth line) × (put_in (included others way left) line ≡ put_in (included files way left) line)
  body_alike way left depth (body.Form form) a = (refl, refl)
  body_alike way left depth (body.Uses unit None) a = (refl, refl)
  body_alike way left depth (body.Uses unit (Some list)) a =
      let alike : IsAlike files others list = a list (or_front (bytes_eq list list) false (same_bytes list)) in
      (ap (library_line depth list) (listing_alike unit list alike), refl)
  body_alike way left depth (body.Fault fault) a = (refl, refl)
  body_alike way left depth (body.Include name) a =
      let same : included others way left name ≡ included files way left name = looked_up (is_among way name) (nat_eq left 0) name (open_lines files name) (open_lines others name) (λ h. (a name h).lines) in (
        ap (λ (r : Result (List SourceLine) Code). Include name (result_err r)) same,
        ap (λ (r : Result (List SourceLine) Code). option_map {T = List SourceLine} {U = List ℕ × List SourceLine} (λ lines. (name, lines)) (result_ok r)) same,
      )

  -- entries of a file, with others after them
  abbrev pub FilesAlike : FileEntries → FileEntries → Type 0
  FilesAlike f g = (way : List (List ℕ)) (file : List ℕ) (raise : ℕ) (lines : List SourceLine) (xs ys : List ExpansionEntry) → Alike xs ys → Alike (f way file raise lines ++ xs) (g way file raise lines ++ ys)

  inner_alike : (f g : FileEntries) → FilesAlike f g → (way : List (List ℕ)) (raise : ℕ) (put : Option (List ℕ × List SourceLine)) (xs ys : List ExpansionEntry) → Alike xs ys
      → Alike (inner_entries f way raise put ++ xs) (inner_entries g way raise put ++ ys)
  inner_alike f g h way raise None xs ys a = a
  inner_alike f g h way raise (Some file) xs ys a = h (way ++ file.0 ∷ []) file.0 raise file.1 xs ys a

  each_alike : (left : ℕ) (f g : FileEntries) → FilesAlike f g → FilesAlike (file_entries files left f) (file_entries others left g)
  each_alike left f g h way file raise [] xs ys a = a
  each_alike left f g h way file raise (line ∷ lines) xs ys a =
      let found = included files way left in
      let given = included others way left in
      let depth = raise + line.depth in
      let rest = file_entries files left f way file raise lines in
      let more = file_entries others left g way file raise lines in
      let inner = inner_entries f way depth (put_in found line.body) in
      let following = inner_alike f g h way depth (put_in found line.body) (rest ++ xs) (more ++ ys) (each_alike left f g h way file raise lines xs ys a) in
      one_more (entry_of files found file raise line) (entry_of others given file raise line) ((inner ++ rest) ++ xs) ((inner_entries g way depth (put_in given line.body) ++ more) ++ ys) refl (λ known.
      let same = body_alike way left depth line.body known in (
        ap (λ (x : Held). record { file = file; line = line.line; held = x }) same.0,
        regroup inner rest xs (inner_entries g way depth (put_in found line.body)) more ys (inner_entries g way depth (put_in given line.body)) (ap (inner_entries g way depth) same.1) following,
      ))

  none_alike : FilesAlike (λ way file raise lines. []) (λ way file raise lines. [])
  none_alike way file raise lines xs ys a = a

  entries_alike : (left : ℕ) → FilesAlike (entries files left) (entries others left)
  unfolding entries
  entries_alike zero = each_alike zero (λ way file raise lines. []) (λ way file raise lines. []) none_alike
  entries_alike (suc left) = each_alike (suc left) (entries files left) (entries others left) (entries_alike left)

  nothing_alike : Alike [] []
  nothing_alike zero a = record { entries_are = refl; faults_are = refl }
  nothing_alike (suc n) a = record { entries_are = refl; faults_are = refl }

  unit_alike : (unit : List ℕ) (lines : Option (List SourceLine)) → Alike (unit_entries files unit lines) (unit_entries others unit lines)
  unit_alike unit None = nothing_alike
  unit_alike unit (Some lines) =
      let xs = entries files 16 (unit ∷ []) unit 0 lines in
      let ys = entries others 16 (unit ∷ []) unit 0 lines in
      subst (λ (es : List ExpansionEntry). Alike es ys) (append-nil xs)
      (subst (λ (es : List ExpansionEntry). Alike (xs ++ []) es) (append-nil ys) (entries_alike 16 (unit ∷ []) unit 0 lines [] [] nothing_alike))

  -- of entries that are the same as far as the limit, the expansion is
  of_same : (limit : ℕ) (unit : List ℕ) (xs ys : List ExpansionEntry) → Same limit xs ys → expansion_of limit unit ys ≡ expansion_of limit unit xs
  of_same limit unit xs ys same =
      ap (λ (es : List ExpansionEntry). record { lines = flat_map entry_lines es; reads = first_indices (unit ∷ flat_map entry_names es); faults = flat_map entry_faults es ++ limit_faults (drop limit ys) }) same.entries_are
      ∙ ap (λ (ds : List Diag). record { lines = flat_map entry_lines (take limit xs); reads = first_indices (unit ∷ flat_map entry_names (take limit xs)); faults = flat_map entry_faults (take limit xs) ++ ds }) same.faults_are

  -- with any limit
  limited_alike : (limit : ℕ) (unit : List ℕ) → Agree (first_indices (unit ∷ flat_map entry_names (take limit (unit_entries files unit (open_lines files unit)))))
      → expansion_of limit unit (unit_entries others unit (open_lines others unit)) ≡ expansion_of limit unit (unit_entries files unit (open_lines files unit))
  limited_alike limit unit a =
      let names = flat_map entry_names (take limit (unit_entries files unit (open_lines files unit))) in
      let itself : open_lines others unit ≡ open_lines files unit = (a unit (among_first (unit ∷ names) unit (or_front (bytes_eq unit unit) (is_among names unit) (same_bytes unit)))).lines in
      let known : Agree names = λ name h. a name (among_first (unit ∷ names) name (or_back (bytes_eq unit name) (is_among names name) h)) in
      ap (λ (o : Option (List SourceLine)). expansion_of limit unit (unit_entries others unit o)) itself
      ∙ of_same limit unit (unit_entries files unit (open_lines files unit)) (unit_entries others unit (open_lines files unit)) (unit_alike unit (open_lines files unit) limit known)

-- the law: where these are alike, the expansion is the same
pub looks_alike : (files others : List Read) (unit : List ℕ) → ((name : List ℕ) → is_among (expansion files unit).reads name ≡ true → IsAlike files others name)
    → expansion others unit ≡ expansion files unit
unfolding expansion
looks_alike files others unit = limited_alike files others 65535 unit

pub looks_at_reads : (files others : List Read) (unit : List ℕ) → ((name : List ℕ) → is_among (expansion files unit).reads name ≡ true → open_source others name ≡ open_source files name)
    → expansion others unit ≡ expansion files unit
looks_at_reads files others unit h = looks_alike files others unit (λ name k. same_alike files others name (h name k))

pub reads_itself : (files : List Read) (unit : List ℕ) → is_among (expansion files unit).reads unit ≡ true
unfolding expansion
reads_itself files unit =
    let names = flat_map entry_names (take 65535 (unit_entries files unit (open_lines files unit))) in
    among_first (unit ∷ names) unit (or_front (bytes_eq unit unit) (is_among names unit) (same_bytes unit))
