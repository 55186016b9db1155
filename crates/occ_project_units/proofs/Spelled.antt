-- What `#USE` lines name are units.
use Rattle.std.proofs.Common.{◌≡◌, ◌∙◌, ◌+◌, ◌==◌, ◌%◌, ◌||◌, ℕ, zero, suc, Bool, true, false, cond, List, [], ◌∷◌, ◌++◌, length, take, Option, Some, None, Err, refl, sym, ap, subst, nat_eq}
use Rattle.std.specs.Bool.{MatchBool}
use Rattle.std.specs.BTreeSet.{insert_key}
use Rattle.std.specs.List.{AllByRecursion, flat_map}
use Rattle.std.specs.Ordering.{match_ordering}
use Rattle.std.specs.Option.{ok_or, option_map, unwrap_or}
use Rattle.std.specs.Result.{result_ok}
use Rattle.std.specs.Str.{bytes_eq}
use Rattle.std.specs.declared.cmp.Ordering.{Ordering}
use Rattle.std.specs.declared.cmp.Ordering.TheVariants.{Less, Equal, Greater}
use Rattle.std.specs.Cmp.Lexicographic.{same_text}
use Rattle.occ_base.specs.FileName.{is_unit, name_fault}
use Rattle.occ_base.specs.declared.code.Code.TheVariants as code
use Rattle.occ_base.specs.declared.file_name.NameFault.{NameFault}
use Rattle.occ_forms.specs.Prepared.{AreFormed, IsFormed, IsPrepared, Prepared}
use Rattle.occ_forms.specs.declared.source.LineBody.{LineBody}
use Rattle.occ_forms.specs.declared.source.LineBody.TheVariants as source
use Rattle.occ_forms.specs.declared.source.SourceLine.{SourceLine}
use Rattle.occ_lines.specs.Directive.{directive_body, directive_of, if_named, include_body, list_name, quoted_name, after_word, unit_name, use_body, without_suffix}
use Rattle.occ_lines.specs.Lexeme.{after_blanks}
use Rattle.occ_lines.specs.Lines.{ArePieces, Holds, IsBegun, IsHeld, IsLines, IsPiece, column, directive_lines, goes_on, is_skipped, joined, logical_of}
use Rattle.occ_lines.specs.Listing.{listed}
use Rattle.occ_lines.proofs.Lists.{listed_named, unit_ends_so}
use Rattle.occ_lines.specs.declared.directive.Directive.{Directive}
use Rattle.occ_lines.specs.declared.directive.Directive.TheVariants as directive
use Rattle.occ_lines.specs.declared.ending.Ending.{Ending}
use Rattle.occ_lines.specs.declared.ending.Ending.TheVariants as ending
use Rattle.occ_lines.specs.declared.text.Body.{Body}
use Rattle.occ_lines.specs.declared.text.Body.TheVariants as body
use Rattle.occ_lines.specs.declared.text.Logical.{Logical}
use Rattle.occ_lines.specs.declared.token.Token.{Token}
use Rattle.occ_project.specs.Entries.{FileEntries, entries, entry_of, file_entries, held as held_in, included, inner_entries, is_among, line_entries, listing, put_in}
use Rattle.occ_project.specs.Expansion.{entry_lines, expansion, held_lines, unit_entries}
use Rattle.occ_project.specs.Reads.{name_cmp, open_lines, open_text}
use Rattle.occ_project.specs.Uses.{body_units, units_of, names_in_order, used_in}
use Rattle.occ_project.specs.declared.entry.ExpansionEntry.{ExpansionEntry}
use Rattle.occ_project.specs.declared.entry.Held.{Held}
use Rattle.occ_project.specs.declared.entry.Held.TheVariants.{Line, Library, Include}
use Rattle.occ_project.specs.declared.expanded.ExpandedBody.{ExpandedBody}
use Rattle.occ_project.specs.declared.expanded.ExpandedLine.{ExpandedLine}
use Rattle.occ_project.specs.declared.reads.Read.{Read}
use Rattle.occ_project_units.specs.Project.{file_of}
use Rattle.occ_project_units.specs.Spelled.{AreSpelled, IsSpelled}
use Rattle.occ_project_units.specs.Units.{Uses}
use Rattle.occ_project_units.proofs.Narrowed.{file_source}

-- lists of what all have something
pub all_front : {X : Type 0} (P : X → Type 0) (xs ys : List X) → AllByRecursion P xs → AllByRecursion P ys → AllByRecursion P (xs ++ ys)
all_front P [] ys h k = k
all_front P (x ∷ xs) ys h k = (h.0, all_front P xs ys h.1 k)

pub all_flat : {X Y : Type 0} (P : X → Type 0) (Q : Y → Type 0) (f : X → List Y) (xs : List X) → ((x : X) → P x → AllByRecursion Q (f x)) → AllByRecursion P xs → AllByRecursion Q (flat_map f xs)
all_flat P Q f [] h k = tt
all_flat P Q f (x ∷ xs) h k = all_front Q (f x) (flat_map f xs) (h x k.0) (all_flat P Q f xs h k.1)

pub all_taken : {X : Type 0} (P : X → Type 0) (n : ℕ) (xs : List X) → AllByRecursion P xs → AllByRecursion P (take n xs)
all_taken P zero xs h = tt
all_taken P (suc n) [] h = tt
all_taken P (suc n) (x ∷ xs) h = (h.0, all_taken P n xs h.1)

-- a name that is a unit's
abbrev IsName : List ℕ → Type 0
IsName name = is_unit name ≡ true

-- ---- lines of a text

abbrev IsNamed : Body → Type 0
IsNamed (body.Tokens tokens) = Unit {0}
IsNamed (body.Include name) = Unit {0}
IsNamed (body.Uses name list) = IsName name
IsNamed (body.Fault fault) = Unit {0}

abbrev IsNamedLogical : Logical → Type 0
IsNamedLogical x = IsNamed x.body

odd_or : (b : Bool) (x : Body) → IsNamed x → IsNamed (cond b (body.Fault code.L2) x)
odd_or true x h = tt
odd_or false x h = h

named_if : (fault : Option NameFault) (x : Body) → IsNamed x → IsNamed (if_named fault x)
named_if None x h = h
named_if (Some fault) x h = tt

included_named : (name : Option (List ℕ)) → IsNamed (include_body name)
included_named None = tt
included_named (Some name) = named_if (name_fault name) (body.Include name) tt

used_named : (name : Option (List ℕ)) → IsNamed (use_body name)
used_named None = tt
used_named (Some name) = named_if (name_fault (unit_name name)) (body.Uses (unit_name name) (list_name name)) (unit_ends_so (without_suffix name))

directive_named : (d : Directive) (number : ℕ) (line text : List ℕ) → AllByRecursion IsNamedLogical (directive_lines number (column line) (directive_body d text))
directive_named directive.Include number line text = (odd_or (column line % 2 == 1) (include_body (quoted_name (after_word text))) (included_named (quoted_name (after_word text))), tt)
directive_named directive.Use number line text = (odd_or (column line % 2 == 1) (use_body (quoted_name (after_word text))) (used_named (quoted_name (after_word text))), tt)
directive_named directive.Dropped number line text = by (column line % 2 == 1) where
  by : (b : Bool) → AllByRecursion IsNamedLogical (cond b (logical_of number (column line) (body.Fault code.L2) ∷ []) [])
  by true = (odd_or (column line % 2 == 1) (body.Fault code.L2) tt, tt)
  by false = tt

held_by : (b : Bool) (tokens : List Token) (held : Body) (A : Type 0) → MatchBool b (A × (held ≡ body.Fault code.L3)) (held ≡ body.Tokens tokens) → IsNamed held
held_by true tokens held A h = subst IsNamed (sym h.1) tt
held_by false tokens held A h = subst IsNamed (sym h) tt

held_named : (margin : ℕ) (tokens : List Token) (x : Ending) (following : List (List ℕ)) (held : Body) → IsHeld margin tokens x following held → IsNamed held
held_named margin tokens ending.Whole following held h = held_by (goes_on tokens) tokens held _ h
held_named margin tokens (ending.Broken bytes) following held h = subst IsNamed (sym h.1) tt
held_named margin tokens (ending.Bad fault) following held h = subst IsNamed (sym h) tt

holds_named : (margin : ℕ) (tokens : List Token) (x : Ending) (lines following : List (List ℕ)) (held : Body) → Holds margin tokens x lines following held → IsNamed held
holds_named margin tokens x [] following held h = held_named margin tokens x following held h
holds_named margin tokens x (line ∷ lines) following held h = holds_named margin (tokens ++ h.0) h.1 lines following held h.3

begun_named : (d : Option Directive) (number : ℕ) (line : List ℕ) (further following : List (List ℕ)) (xs : List Logical) → IsBegun d number line further following xs → AllByRecursion IsNamedLogical xs
begun_named None number line further following xs h =
    subst (AllByRecursion IsNamedLogical) (sym h.is) (odd_or (column line % 2 == 1) h.held (holds_named (column line) h.tokens h.end further following h.held h.holds), tt)
begun_named (Some d) number line further following xs h = subst (AllByRecursion IsNamedLogical) (sym h.is) (directive_named d number line (after_blanks line))

piece_by : (b : Bool) (A B : Type 0) (xs : List Logical) → (B → AllByRecursion IsNamedLogical xs) → MatchBool b (A × (xs ≡ [])) B → AllByRecursion IsNamedLogical xs
piece_by true A B xs f h = subst (AllByRecursion IsNamedLogical) (sym h.1) tt
piece_by false A B xs f h = f h

piece_named : (number : ℕ) (piece following : List (List ℕ)) (xs : List Logical) → IsPiece number piece following xs → AllByRecursion IsNamedLogical xs
piece_named number [] following xs h = absurd h
piece_named number (line ∷ further) following xs h = piece_by (is_skipped line) _ _ xs (begun_named (directive_of (after_blanks line)) number line further following xs) h

pieces_named : (number : ℕ) (pieces : List (List (List ℕ))) (xs : List Logical) → ArePieces number pieces xs → AllByRecursion IsNamedLogical xs
pieces_named number [] xs h = subst (AllByRecursion IsNamedLogical) (sym h) tt
pieces_named number (piece ∷ pieces) xs h =
    subst (AllByRecursion IsNamedLogical) (sym h.4)
    (all_front IsNamedLogical h.0 h.1 (piece_named number piece (joined pieces) h.0 h.2) (pieces_named (number + length piece) pieces h.1 h.3))

lines_named : (text : List ℕ) (xs : List Logical) → IsLines text xs → AllByRecursion IsNamedLogical xs
unfolding IsLines
lines_named text xs h = pieces_named 1 h.0 xs h.2

-- ---- with forms

abbrev IsNamedSource : LineBody → Type 0
IsNamedSource (source.Form form) = Unit {0}
IsNamedSource (source.Include name) = Unit {0}
IsNamedSource (source.Uses name list) = IsName name
IsNamedSource (source.Fault fault) = Unit {0}

abbrev IsNamedLine : SourceLine → Type 0
IsNamedLine line = IsNamedSource line.body

formed_named : (given : Body) (x : LineBody) → IsNamed given → IsFormed given x → IsNamedSource x
formed_named given (source.Form form) h f = tt
formed_named given (source.Include name) h f = tt
formed_named given (source.Fault fault) h f = tt
formed_named (body.Uses name list) (source.Uses other found) h f = subst IsName (sym f.0) h
formed_named (body.Tokens tokens) (source.Uses other found) h f = absurd f
formed_named (body.Include name) (source.Uses other found) h f = absurd f
formed_named (body.Fault fault) (source.Uses other found) h f = absurd f

all_formed : (logicals : List Logical) (lines : List SourceLine) → AllByRecursion IsNamedLogical logicals → AreFormed logicals lines → AllByRecursion IsNamedLine lines
all_formed [] [] h f = tt
all_formed [] (line ∷ lines) h f = absurd f
all_formed (x ∷ xs) [] h f = absurd f
all_formed (x ∷ xs) (line ∷ lines) h f = (formed_named x.body line.body h.0 f.0.held, all_formed xs lines h.1 f.1)

prepared_named : (text : List ℕ) (lines : List SourceLine) → IsPrepared text lines → AllByRecursion IsNamedLine lines
prepared_named text lines h = all_formed h.0 lines (lines_named text h.0 h.1) h.2

-- ---- in a list

library_named : (unit : List ℕ) (text : Option (List ℕ)) → IsName unit → AllByRecursion IsName (unwrap_or (result_ok (listing unit text)) [])
library_named unit None h = (h, tt)
library_named unit (Some text) h = by (listed text) (listed_named text) where
  by : (o : Option (List (List ℕ))) → AllByRecursion IsName (unwrap_or o []) → AllByRecursion IsName (unwrap_or (result_ok (ok_or o code.G7)) [])
  by None k = tt
  by (Some units) k = k

-- ---- in an expansion

abbrev AreNamed : ExpandedBody → Type 0
AreNamed x = AllByRecursion IsName (body_units x)

abbrev IsNamedHeld : Held → Type 0
IsNamedHeld (Line depth x) = AreNamed x
IsNamedHeld (Library depth units list fault) = AllByRecursion IsName units
IsNamedHeld (Include name fault) = Unit {0}

abbrev IsNamedEntry : ExpansionEntry → Type 0
IsNamedEntry entry = IsNamedHeld entry.held

abbrev IsNamedExpanded : ExpandedLine → Type 0
IsNamedExpanded line = AreNamed line.body

module _ (files : List Read) (good : (name : List ℕ) (lines : List SourceLine) → open_lines files name ≡ Some lines → AllByRecursion IsNamedLine lines) where
  -- what is put in are the lines of an open file
  included_lines : (way : List (List ℕ)) (left : ℕ) (name : List ℕ) (lines : List SourceLine) → result_ok (included files way left name) ≡ Some lines → AllByRecursion IsNamedLine lines
  included_lines way left name lines e = by (is_among way name) (nat_eq left 0) (open_lines files name) refl e where
    by : (b c : Bool) (o : Option (List SourceLine)) → open_lines files name ≡ o → result_ok (cond b (Err code.G5) (cond c (Err code.G6) (ok_or o code.G4))) ≡ Some lines → AllByRecursion IsNamedLine lines
    by true c o h k = absurd cc
    by false true o h k = absurd cc
    by false false None h k = absurd cc
    by false false (Some found) h k = good name lines (h ∙ k)

  abbrev AllNamed : FileEntries → Type 0
  AllNamed f = (way : List (List ℕ)) (file : List ℕ) (raise : ℕ) (lines : List SourceLine) → AllByRecursion IsNamedLine lines → AllByRecursion IsNamedEntry (f way file raise lines)

  inner_named : (f : FileEntries) → AllNamed f → (way : List (List ℕ)) (left raise : ℕ) (x : LineBody) → AllByRecursion IsNamedEntry (inner_entries f way raise (put_in (included files way left) x))
  inner_named f h way left raise (source.Form form) = tt
  inner_named f h way left raise (source.Uses unit list) = tt
  inner_named f h way left raise (source.Fault fault) = tt
  inner_named f h way left raise (source.Include name) = by (result_ok (included files way left name)) refl where
    by : (o : Option (List SourceLine)) → result_ok (included files way left name) ≡ o → AllByRecursion IsNamedEntry (inner_entries f way raise (option_map {T = List SourceLine} {U = List ℕ × List SourceLine} (λ lines. (name, lines)) o))
    by None e = tt
    by (Some lines) e = h (way ++ name ∷ []) name raise lines (included_lines way left name lines e)

  own_named : (way : List (List ℕ)) (left raise : ℕ) (file : List ℕ) (line : SourceLine) → IsNamedLine line → IsNamedEntry (entry_of files (included files way left) file raise line)
  own_named way left raise file line h = by line.body h where
    by : (x : LineBody) → IsNamedSource x → IsNamedHeld (held_in files (included files way left) (raise + line.depth) x)
    by (source.Form form) k = tt
    by (source.Include name) k = tt
    by (source.Uses name None) k = (k, tt)
    by (source.Uses name (Some list)) k = library_named name (open_text files list) k
    by (source.Fault fault) k = tt

  file_named : (left : ℕ) (f : FileEntries) → AllNamed f → AllNamed (file_entries files left f)
  file_named left f h way file raise lines k =
      all_flat IsNamedLine IsNamedEntry (line_entries files left f way file raise) lines (λ line l. (own_named way left raise file line l, inner_named f h way left (raise + line.depth) line.body)) k

  entries_named : (left : ℕ) → AllNamed (entries files left)
  unfolding entries
  entries_named zero = file_named zero (λ way file raise lines. []) (λ way file raise lines h. tt)
  entries_named (suc left) = file_named (suc left) (entries files left) (entries_named left)

  unit_named : (unit : List ℕ) (lines : Option (List SourceLine)) → open_lines files unit ≡ lines → AllByRecursion IsNamedEntry (unit_entries files unit lines)
  unit_named unit None e = tt
  unit_named unit (Some lines) e = entries_named 16 (unit ∷ []) unit 0 lines (good unit lines e)

  entry_named : (entry : ExpansionEntry) → IsNamedEntry entry → AllByRecursion IsNamedExpanded (entry_lines entry)
  entry_named entry h = by entry.held h where
    by : (x : Held) → IsNamedHeld x → AllByRecursion IsNamedExpanded (held_lines entry.file entry.line x)
    by (Line depth x) k = (k, tt)
    by (Library depth units list fault) k = (k, tt)
    by (Include name fault) k = tt

  expanded_named : (unit : List ℕ) → AllByRecursion IsName (flat_map units_of (expansion files unit).lines)
  unfolding expansion
  expanded_named unit =
      let taken = take 65535 (unit_entries files unit (open_lines files unit)) in
      all_flat IsNamedExpanded IsName units_of (flat_map entry_lines taken) (λ line h. h)
      (all_flat IsNamedEntry IsNamedExpanded entry_lines taken entry_named (all_taken IsNamedEntry 65535 (unit_entries files unit (open_lines files unit)) (unit_named unit (open_lines files unit) refl)))

-- ---- in order

all_by : (P : List ℕ → Type 0) (k x : List ℕ) (xs : List (List ℕ)) (o : Ordering) → P k → P x → AllByRecursion P xs → AllByRecursion P (insert_key name_cmp xs k)
    → AllByRecursion P (match_ordering o (k ∷ x ∷ xs) (x ∷ xs) (x ∷ insert_key name_cmp xs k))
all_by P k x xs Less p q h i = (p, (q, h))
all_by P k x xs Equal p q h i = (q, h)
all_by P k x xs Greater p q h i = (q, i)

all_insert : (P : List ℕ → Type 0) (names : List (List ℕ)) (k : List ℕ) → P k → AllByRecursion P names → AllByRecursion P (insert_key name_cmp names k)
all_insert P [] k p h = (p, tt)
all_insert P (x ∷ xs) k p h = all_by P k x xs (name_cmp k x) p h.0 h.1 (all_insert P xs k p h.1)

all_in_order : (P : List ℕ → Type 0) (names : List (List ℕ)) → AllByRecursion P names → AllByRecursion P (names_in_order names)
all_in_order P [] h = tt
all_in_order P (name ∷ names) h = all_insert P (names_in_order names) name h.0 (all_in_order P names h.1)

among_all : (P : List ℕ → Type 0) (names : List (List ℕ)) (v : List ℕ) → AllByRecursion P names → is_among names v ≡ true → P v
among_all P [] v h a = absurd cc
among_all P (name ∷ names) v h a = by (bytes_eq name v) refl a (among_all P names v h.1) where
  by : (b : Bool) → bytes_eq name v ≡ b → (b || is_among names v) ≡ true → (is_among names v ≡ true → P v) → P v
  by true e k rest = subst P (same_text name v (sym e)) h.0
  by false e k rest = rest k

-- ---- the law

spelled_named : (files : List Read) → AreSpelled files → (name : List ℕ) (lines : List SourceLine) → open_lines files name ≡ Some lines → AllByRecursion IsNamedLine lines
spelled_named files spelled name lines e = by (file_of files name).source (spelled name) (ap (option_map (λ (s : Prepared). s.lines)) (file_source files name) ∙ e) where
  by : (s : Option Prepared) → IsSpelled s → option_map (λ (s : Prepared). s.lines) s ≡ Some lines → AllByRecursion IsNamedLine lines
  by None h k = absurd cc
  by (Some s) h k = let same : s.lines ≡ lines = cc in subst (AllByRecursion IsNamedLine) same (prepared_named s.text s.lines h)

pub uses_units : (files : List Read) (u v : List ℕ) → AreSpelled files → Uses files u v → is_unit v ≡ true
uses_units files u v spelled uses = by (is_unit u) uses where
  by : (b : Bool) → is_among (cond b (used_in (expansion files u).lines) []) v ≡ true → is_unit v ≡ true
  by true a = among_all IsName (used_in (expansion files u).lines) v (all_in_order IsName (flat_map units_of (expansion files u).lines) (expanded_named files (spelled_named files spelled) u)) a
  by false a = absurd cc
