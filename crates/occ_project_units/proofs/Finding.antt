-- What a binary search by name finds among the files of a project.
use Rattle.std.proofs.Common.{◌≡◌, ℕ, zero, suc, ◌<◌, ◌≤◌, true, false, Bool, cond, List, [], ◌∷◌, length, map, get_or, Option, Some, None, Result, Ok, Err, MatchResult, refl, ap, ◌∙◌, subst, inl, inr, arith}
use Rattle.std.proofs.lemmas.Bool.{cases_lt}
use Rattle.std.specs.List.{AllByRecursion, HoldsAt, slice_get}
use Rattle.std.specs.List.Sorted.{IsBinarySearchResult, IsNonDecreasingBy, IsSearchInRange, IsStrictlySortedBy}
use Rattle.std.specs.Option.{option_and_then, option_map}
use Rattle.std.specs.Ordering.{is_gt, is_lt, ordering_index}
use Rattle.std.specs.declared.cmp.Ordering.{Ordering}
use Rattle.std.specs.declared.cmp.Ordering.TheVariants.{Less, Equal, Greater}
use Rattle.occ_project.specs.declared.reads.Read.{Read}
use Rattle.occ_project.specs.Reads.{is_named, member, name_cmp, index}
use Rattle.occ_project_units.specs.Project.{IsProject}
use Rattle.occ_project_units.specs.New.{IsGap}
use Rattle.occ_project_units.proofs.Rising.{apart, equal_names, equal_test, less_joined}

-- the names after the first are greater
pub later : (x : Read) (files : List Read) → AllByRecursion (λ name. name_cmp x.name name ≡ Less) (map (λ file. file.name) files) → (k : ℕ) (d : Read) → k < length files → name_cmp x.name (get_or files k d).name ≡ Less
later x [] h k d lt = absurd (omega (arith, lt))
later x (y ∷ files) h zero d lt = h.0
later x (y ∷ files) h (suc k) d lt = later x files h.1 k d (omega (arith, lt))

below_two : (o : Ordering) → ordering_index o ≤ 2
below_two Less = omega arith
below_two Equal = omega arith
below_two Greater = omega arith

least : (o p : Ordering) → o ≡ Less → ordering_index o ≤ ordering_index p
least o p e = rw e (omega arith)

rises : (a b name : List ℕ) (o : Ordering) → name_cmp b name ≡ o → name_cmp a b ≡ Less → ordering_index (name_cmp a name) ≤ ordering_index o
rises a b name Less e l = least (name_cmp a name) Less (less_joined a b name l e)
rises a b name Equal e l = least (name_cmp a name) Equal (subst (λ (n : List ℕ). name_cmp a n ≡ Less) (equal_names b name e) l)
rises a b name Greater e l = below_two (name_cmp a name)

-- so the comparisons with a name rise
pub comparisons_rise : (name : List ℕ) (files : List Read) → IsProject files → IsNonDecreasingBy (λ file. ordering_index (name_cmp file.name name)) files
unfolding IsStrictlySortedBy
comparisons_rise name [] h i j d le lt = absurd (omega (arith, lt))
comparisons_rise name (x ∷ files) h zero zero d le lt = omega arith
comparisons_rise name (x ∷ files) h zero (suc j) d le lt = rises x.name (get_or files j d).name name (name_cmp (get_or files j d).name name) refl (later x files h.0 j d (omega (arith, lt)))
comparisons_rise name (x ∷ files) h (suc i) zero d le lt = absurd (omega (arith, le))
comparisons_rise name (x ∷ files) h (suc i) (suc j) d le lt = comparisons_rise name files h.1 i j d (omega (arith, le)) (omega (arith, lt))

-- so if a file stands before a name, those before it do, and if one stands behind, so do those behind it
there_is : (files : List Read) (p : ℕ) (file d : Read) → Some file ≡ slice_get files p → get_or files p d ≡ file
there_is [] p file d e = cc
there_is (x ∷ files) zero file d e = cc
there_is (x ∷ files) (suc p) file d e = there_is files p file d e

least_is : (o : Ordering) → ordering_index o ≤ 0 → o ≡ Less
least_is Less h = refl
least_is Equal h = absurd (omega (arith, h))
least_is Greater h = absurd (omega (arith, h))

greatest_is : (o : Ordering) → 2 ≤ ordering_index o → o ≡ Greater
greatest_is Less h = absurd (omega (arith, h))
greatest_is Equal h = absurd (omega (arith, h))
greatest_is Greater h = refl

pub lt_is : (o : Ordering) → is_lt o ≡ true → o ≡ Less
lt_is Less h = refl
lt_is Equal h = cc
lt_is Greater h = cc

pub gt_is : (o : Ordering) → is_gt o ≡ true → o ≡ Greater
gt_is Less h = cc
gt_is Equal h = cc
gt_is Greater h = refl

none_behind : (files : List Read) (p : ℕ) → None ≡ slice_get files p → length files ≤ p
none_behind [] p e = omega arith
none_behind (x ∷ files) zero e = cc
none_behind (x ∷ files) (suc p) e = let le = none_behind files p e in omega (arith, le)

some_within : (files : List Read) (p : ℕ) (file : Read) → Some file ≡ slice_get files p → p < length files
some_within [] p file e = cc
some_within (x ∷ files) zero file e = omega arith
some_within (x ∷ files) (suc p) file e = let lt = some_within files p file e in omega (arith, lt)

pub all_lesser : (name : List ℕ) (files : List Read) (p : ℕ) (file : Read) → IsProject files → Some file ≡ slice_get files p → name_cmp file.name name ≡ Less → (k : ℕ) (d : Read) → k ≤ p → name_cmp (get_or files k d).name name ≡ Less
all_lesser name files p file sorted e less k d le =
    let rise = comparisons_rise name files sorted k p d le (some_within files p file e) in
    let least : ordering_index (name_cmp (get_or files p d).name name) ≡ 0 = ap (λ (x : Read). ordering_index (name_cmp x.name name)) (there_is files p file d e) ∙ ap ordering_index less in
    least_is (name_cmp (get_or files k d).name name) (omega (arith, rise, least))

pub all_greater : (name : List ℕ) (files : List Read) (p : ℕ) (file : Read) → IsProject files → Some file ≡ slice_get files p → name_cmp file.name name ≡ Greater → (k : ℕ) (d : Read) → p ≤ k → k < length files → name_cmp (get_or files k d).name name ≡ Greater
all_greater name files p file sorted e greater k d le lt =
    let rise = comparisons_rise name files sorted p k d le lt in
    let most : ordering_index (name_cmp (get_or files p d).name name) ≡ 2 = ap (λ (x : Read). ordering_index (name_cmp x.name name)) (there_is files p file d e) ∙ ap ordering_index greater in
    greatest_is (name_cmp (get_or files k d).name name) (omega (arith, rise, most))

pub none_greater : (name : List ℕ) (files : List Read) (p : ℕ) → None ≡ slice_get files p → (k : ℕ) (d : Read) → p ≤ k → k < length files → name_cmp (get_or files k d).name name ≡ Greater
none_greater name files p e k d le lt = let past = none_behind files p e in absurd (omega (arith, past, le, lt))

-- a file that has the name is the first that has it
pub found_at : (name : List ℕ) (files : List Read) (at : ℕ) → IsProject files → at < length files → HoldsAt (λ file. name_cmp file.name name ≡ Equal) files at → index name files ≡ Some at
unfolding IsStrictlySortedBy
found_at name [] at s lt h = absurd (omega (arith, lt))
found_at name (x ∷ files) zero s lt h = ap (λ (b : Bool). cond b (Some 0) (option_map suc (index name files))) (equal_test x.name name (h x))
found_at name (x ∷ files) (suc k) s lt h =
    let there = equal_names (get_or files k x).name name (h x) in
    let less : name_cmp x.name name ≡ Less = subst (λ (n : List ℕ). name_cmp x.name n ≡ Less) there (later x files s.0 k x (omega (arith, lt))) in
    ap (λ (b : Bool). cond b (Some 0) (option_map suc (index name files))) (apart x.name name Less less)
    ∙ ap (option_map suc) (found_at name files k s.1 (omega (arith, lt)) (λ d. h d))

-- where no file has the name there is no index
pub no_index : (name : List ℕ) (files : List Read) → ((k : ℕ) (d : Read) → k < length files → is_named name (get_or files k d) ≡ false) → index name files ≡ None
no_index name [] h = refl
no_index name (x ∷ files) h =
    ap (λ (b : Bool). cond b (Some 0) (option_map suc (index name files))) (h 0 x (omega arith))
    ∙ ap (option_map suc) (no_index name files (λ k d lt. h (suc k) d (omega (arith, lt))))

-- nor where all files stand before it or behind it
pub none_between : (name : List ℕ) (files : List Read) (at : ℕ) → ((k : ℕ) (d : Read) → k < at → k < length files → name_cmp (get_or files k d).name name ≡ Less)
    → ((k : ℕ) (d : Read) → at ≤ k → k < length files → name_cmp (get_or files k d).name name ≡ Greater) → index name files ≡ None
none_between name files at before after = no_index name files (λ k d lt. elim (cases_lt k at) [
  | inl below ↦ apart (get_or files k d).name name Less (before k d below lt)
  | inr above ↦ apart (get_or files k d).name name Greater (after k d above lt)
])

module _ (name : List ℕ) (files : List Read) (sorted : IsProject files) where
  -- a binary search by name ends at the file of the name, or where it would stand
  pub searched : (r : Result ℕ ℕ) → IsSearchInRange r (length files) → IsBinarySearchResult (λ file. name_cmp file.name name) files r
      → MatchResult r (λ at. index name files ≡ Some at) (λ at. IsGap name files at)
  searched (Ok at) within equal = found_at name files at sorted within equal
  searched (Err at) within parted =
      let parts = parted (comparisons_rise name files sorted) in
      record {
        within = within;
        absent = no_index name files (λ k d lt. elim (cases_lt k at) [
          | inl below ↦ apart (get_or files k d).name name Less (parts.0 k d (omega arith) below)
          | inr above ↦ apart (get_or files k d).name name Greater (parts.1 k d above lt)
        ]);
        before = parts.0;
        after = parts.1;
      }

-- the first member of a name stands at its place
following : (read : Read) (reads : List Read) (o : Option ℕ) → option_and_then (slice_get (read ∷ reads)) (option_map suc o) ≡ option_and_then (slice_get reads) o
following read reads None = refl
following read reads (Some i) = refl

one_of : (read : Read) (reads : List Read) (found : Option Read) (b : Bool) (o : Option ℕ) → option_and_then (slice_get reads) o ≡ found
    → option_and_then (slice_get (read ∷ reads)) (cond b (Some 0) (option_map suc o)) ≡ cond b (Some read) found
one_of read reads found true o e = refl
one_of read reads found false o e = following read reads o ∙ e

pub member_at : (name : List ℕ) (reads : List Read) → option_and_then (slice_get reads) (index name reads) ≡ member reads name
member_at name [] = refl
member_at name (read ∷ reads) = one_of read reads (member reads name) (is_named name read) (index name reads) (member_at name reads)

pub no_files : IsProject []
unfolding IsStrictlySortedBy
no_files = tt

-- an index is that of a file, whose name it is
pub index_within : (name : List ℕ) (files : List Read) (at : ℕ) → index name files ≡ Some at → at < length files
index_within name [] at e = cc
index_within name (x ∷ files) at e = by (is_named name x) (index name files) (index_within name files) e where
  by : (b : Bool) (o : Option ℕ) → ((k : ℕ) → o ≡ Some k → k < length files) → cond b (Some 0) (option_map suc o) ≡ Some at → at < length (x ∷ files)
  by true o f h = let is : 0 ≡ at = cc in omega (arith, is)
  by false None f h = cc
  by false (Some k) f h = let is : suc k ≡ at = cc in omega (arith, is, f k refl)
