-- The names of lists of libraries, and what such lists have.
use Rattle.std.proofs.Common.{◌≡◌, ◌≤◌, ◌<◌, ◌∙◌, ◌+◌, ◌-◌, ◌&&◌, ◌||◌, ℕ, Bool, true, false, cond, not, codes, List, [], ◌∷◌, ◌++◌, get_or, length, map, take, Option, Some, None, nat_eq, nat_le, refl, sym, ap, append-nil, append_assoc, arith}
use Rattle.std.specs.List.{AllByRecursion, ends_with, filter, list_all, suffix_len}
use Rattle.std.specs.Option.{is_none, unwrap_or}
use Rattle.std.specs.Str.{bytes_eq}
use Rattle.std.specs.Cmp.Lexicographic.{pointwise}
use Rattle.std.proofs.lemmas.List.{drop_at, length-append}
use Rattle.std.proofs.lemmas.List.Folds.{list_all-append}
use Rattle.std.proofs.lemmas.List.Sums.{suffix_len_is}
use Rattle.bstr.specs.Text.{lines_of, without_terminator}
use Rattle.occ_base.specs.FileName.{has_length, has_suffix, is_file_byte, is_unit, name_fault}
use Rattle.occ_base.specs.Firsts.{first_indices}
use Rattle.occ_base.specs.declared.file_name.NameFault.{NameFault}
use Rattle.occ_base.specs.declared.file_name.NameFault.TheVariants as fault
use Rattle.occ_lines.specs.Directive.{unit_name, without_suffix}
use Rattle.occ_lines.specs.Lexeme.{is_blank}
use Rattle.occ_lines.specs.Lines.{is_skipped}
use Rattle.occ_lines.specs.Listing.{listed, name_on, names_on, names_unit, trimmed}

-- what is left of a name that has no fault
named_by : (a b c : Bool) → cond a (cond b (cond c None (Some fault.Suffix)) (Some fault.Byte)) (Some fault.Length) ≡ None → (a ≡ true) × (b ≡ true)
named_by true true c h = (refl, refl)
named_by true false c h = absurd cc
named_by false b c h = absurd cc

-- two ends of the same length and of bytes that may stand in a name make no difference but to the suffix
same_length : (front : List ℕ) → length (front ++ codes ".lbb") ≡ length (front ++ codes ".occ")
same_length front = length-append front (codes ".lbb") ∙ sym (length-append front (codes ".occ"))

same_bytes : (front : List ℕ) → list_all is_file_byte (front ++ codes ".lbb") ≡ list_all is_file_byte (front ++ codes ".occ")
same_bytes [] = refl
same_bytes (b ∷ front) = ap (λ (x : Bool). is_file_byte b && x) (same_bytes front)

ends_so : (front : List ℕ) → ends_with nat_eq (front ++ codes ".lbb") (codes ".lbb") ≡ true
ends_so front =
    let long : length (front ++ codes ".lbb") ≡ length front + 4 = length-append front (codes ".lbb") in
    let at : length front ≡ length (front ++ codes ".lbb") - 4 = omega (arith, long) in
    ap (pointwise nat_eq (codes ".lbb")) (drop_at front (codes ".lbb") (length (front ++ codes ".lbb") - 4) at)

last_of_three : (a b c : Bool) → c ≡ true → (a || (b || c)) ≡ true
last_of_three true b c h = refl
last_of_three false true c h = refl
last_of_three false false c h = h

pub list_named : (front : List ℕ) → name_fault (front ++ codes ".occ") ≡ None → name_fault (front ++ codes ".lbb") ≡ None
list_named front h =
    let unit = front ++ codes ".occ" in
    let list = front ++ codes ".lbb" in
    let is = named_by (has_length unit) (list_all is_file_byte unit) (has_suffix unit) h in
    let long : has_length list ≡ true = ap (λ (n : ℕ). nat_le 1 n && nat_le n 64) (same_length front) ∙ is.0 in
    let bytes : list_all is_file_byte list ≡ true = same_bytes front ∙ is.1 in
    let ends : has_suffix list ≡ true = last_of_three (is_unit list) (ends_with nat_eq list (codes ".inc")) (ends_with nat_eq list (codes ".lbb")) (ends_so front) in
    ap (λ (b : Bool). cond b (cond (list_all is_file_byte list) (cond (has_suffix list) None (Some fault.Suffix)) (Some fault.Byte)) (Some fault.Length)) long
    ∙ ap (λ (b : Bool). cond b (cond (has_suffix list) None (Some fault.Suffix)) (Some fault.Byte)) bytes
    ∙ ap (λ (b : Bool). cond b None (Some fault.Suffix)) ends

-- what stands before the blanks at the end
pub trimmed_at : (text : List ℕ) (n : ℕ) → n ≤ length text → ((k : ℕ) → n ≤ k → k < length text → is_blank (get_or text k 0) ≡ true) → (0 < n → is_blank (get_or text (n - 1) 0) ≡ false) → take n text ≡ trimmed text
trimmed_at text n within blanks stops =
    let tail = suffix_len_is is_blank text n 0 within blanks stops in
    let is : n ≡ length text - suffix_len is_blank text = omega (arith, tail, within) in
    ap (λ (k : ℕ). take k text) is

-- the lines of a text
abbrev pub lines_in : List ℕ → List (List ℕ)
lines_in text = map without_terminator (lines_of text)

-- the names on lines, line by line
pub skips : (line : List ℕ) (lines : List (List ℕ)) → is_skipped line ≡ true → names_on (line ∷ lines) ≡ names_on lines
skips line lines h = ap (λ (b : Bool). map name_on (cond (not b) (line ∷ filter (λ x. not (is_skipped x)) lines) (filter (λ x. not (is_skipped x)) lines))) h

pub names : (line : List ℕ) (lines : List (List ℕ)) → is_skipped line ≡ false → names_on (line ∷ lines) ≡ name_on line ∷ names_on lines
names line lines h = ap (λ (b : Bool). map name_on (cond (not b) (line ∷ filter (λ x. not (is_skipped x)) lines) (filter (λ x. not (is_skipped x)) lines))) h

-- what lines list behind these units
abbrev pub rest_listed : List (List ℕ) → List (List ℕ) → Option (List (List ℕ))
rest_listed units names = cond (list_all names_unit names) (Some (first_indices (units ++ map unit_name names))) None

-- what a text lists, of which these units stand on lines before and the others on these lines
abbrev pub Goes : List ℕ → List (List ℕ) → List (List ℕ) → Type 0
Goes text units lines = listed text ≡ rest_listed units (names_on lines)

pub goes_begins : (text : List ℕ) (units : List (List ℕ)) (lines : List (List ℕ)) → units ≡ [] → lines ≡ lines_in text → Goes text units lines
unfolding listed
goes_begins text units lines h k = rw h (rw k refl)

-- a skipped line is passed
pub goes_skips : (text : List ℕ) (units : List (List ℕ)) (line : List ℕ) (lines rest : List (List ℕ)) → lines ≡ line ∷ rest → is_skipped line ≡ true → Goes text units lines → Goes text units rest
goes_skips text units line lines rest l s e = e ∙ ap (λ (ls : List (List ℕ)). rest_listed units (names_on ls)) l ∙ ap (rest_listed units) (skips line rest s)

at_named : (units : List (List ℕ)) (line : List ℕ) (lines rest : List (List ℕ)) → lines ≡ line ∷ rest → is_skipped line ≡ false → rest_listed units (names_on lines) ≡ rest_listed units (name_on line ∷ names_on rest)
at_named units line lines rest l s = ap (λ (ls : List (List ℕ)). rest_listed units (names_on ls)) l ∙ ap (rest_listed units) (names line rest s)

-- a line that names a unit is passed
pub goes_on : (text : List ℕ) (units more : List (List ℕ)) (line unit : List ℕ) (lines rest : List (List ℕ)) → lines ≡ line ∷ rest → is_skipped line ≡ false → unit ≡ unit_name (name_on line) → names_unit (name_on line) ≡ true
    → more ≡ units ++ unit ∷ [] → Goes text units lines → Goes text more rest
goes_on text units more line unit lines rest l s u n m e =
    let all = names_on rest in
    let so : rest_listed units (name_on line ∷ all) ≡ rest_listed more all =
    ap (λ (b : Bool). cond (b && list_all names_unit all) (Some (first_indices (units ++ unit_name (name_on line) ∷ map unit_name all))) None) n
    ∙ ap (λ (us : List (List ℕ)). cond (list_all names_unit all) (Some (first_indices us)) None) (ap (λ (x : List ℕ). units ++ x ∷ map unit_name all) (sym u) ∙ sym (append_assoc units (unit ∷ []) (map unit_name all)) ∙ ap (λ (us : List (List ℕ)). us ++ map unit_name all) (sym m)) in
    e ∙ at_named units line lines rest l s ∙ so

-- a line that names no unit is met
pub broken : (text : List ℕ) (units : List (List ℕ)) (line : List ℕ) (lines rest : List (List ℕ)) → lines ≡ line ∷ rest → is_skipped line ≡ false → names_unit (name_on line) ≡ false → Goes text units lines → None ≡ listed text
broken text units line lines rest l s n e =
    let all = names_on rest in
    sym (e ∙ at_named units line lines rest l s ∙ ap (λ (b : Bool). cond (b && list_all names_unit all) (Some (first_indices (units ++ unit_name (name_on line) ∷ map unit_name all))) None) n)

-- no line is left
pub finished : (text : List ℕ) (units lines : List (List ℕ)) → lines ≡ [] → Goes text units lines → Some (first_indices units) ≡ listed text
finished text units lines l e = sym (e ∙ ap (λ (ls : List (List ℕ)). rest_listed units (names_on ls)) l ∙ ap (λ (us : List (List ℕ)). Some (first_indices us)) (append-nil units))

-- ---- what is listed are units

-- the name of a used unit ends as those of units do
pub unit_ends_so : (front : List ℕ) → is_unit (front ++ codes ".occ") ≡ true
unit_ends_so front =
    let long : length (front ++ codes ".occ") ≡ length front + 4 = length-append front (codes ".occ") in
    let at : length front ≡ length (front ++ codes ".occ") - 4 = omega (arith, long) in
    ap (pointwise nat_eq (codes ".occ")) (drop_at front (codes ".occ") (length (front ++ codes ".occ") - 4) at)

abbrev IsName : List ℕ → Type 0
IsName name = is_unit name ≡ true

units_named : (names : List (List ℕ)) → AllByRecursion IsName (map unit_name names)
units_named [] = tt
units_named (name ∷ names) = (unit_ends_so (without_suffix name), units_named names)

all_filtered : {X : Type 0} (P : X → Type 0) (f : X → Bool) (xs : List X) → AllByRecursion P xs → AllByRecursion P (filter f xs)
all_filtered P f [] h = tt
all_filtered P f (x ∷ xs) h = by (f x) (all_filtered P f xs h.1) where
  by : (b : Bool) → AllByRecursion P (filter f xs) → AllByRecursion P (cond b (x ∷ filter f xs) (filter f xs))
  by true more = (h.0, more)
  by false more = more

firsts_named : (names : List (List ℕ)) → AllByRecursion IsName names → AllByRecursion IsName (first_indices names)
firsts_named [] h = tt
firsts_named (name ∷ names) h = (h.0, all_filtered IsName (λ other. not (bytes_eq name other)) (first_indices names) (firsts_named names h.1))

pub listed_named : (text : List ℕ) → AllByRecursion (λ unit. is_unit unit ≡ true) (unwrap_or (listed text) [])
unfolding listed
listed_named text = by (list_all names_unit (names_on (lines_in text))) where
  by : (b : Bool) → AllByRecursion IsName (unwrap_or (cond b (Some (first_indices (map unit_name (names_on (lines_in text))))) None) [])
  by true = firsts_named (map unit_name (names_on (lines_in text))) (units_named (names_on (lines_in text)))
  by false = tt
