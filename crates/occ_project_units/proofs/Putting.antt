-- A file that is put into a project.
use Rattle.std.proofs.Common.{◌≡◌, ℕ, zero, suc, ◌+◌, ◌++◌, ◌≤◌, true, false, Bool, cond, List, [], ◌∷◌, length, map, set, Option, Some, None, refl, sym, ap, ◌∙◌, subst, arith}
use Rattle.std.specs.BTreeSet.{insert_key}
use Rattle.std.specs.List.{AllByRecursion, AllWithin, insert}
use Rattle.std.specs.List.Sorted.{IsStrictlySortedBy}
use Rattle.std.specs.Option.{option_map, unwrap_or}
use Rattle.std.specs.Ordering.{match_ordering}
use Rattle.std.specs.Str.{bytes_eq}
use Rattle.std.specs.Cmp.Lexicographic.{same_text}
use Rattle.std.specs.declared.cmp.Ordering.{Ordering}
use Rattle.std.specs.declared.cmp.Ordering.TheVariants.{Less, Equal, Greater}
use Rattle.occ_project.specs.declared.reads.Read.{Read}
use Rattle.occ_project.specs.Reads.{member, name_cmp, index}
use Rattle.occ_project_units.specs.Project.{IsProject, file_of, put, put_back}
use Rattle.occ_project_units.specs.New.{IsGap}
use Rattle.occ_project_units.proofs.Looks.{same_bytes}
use Rattle.occ_project_units.proofs.Rising.{apart, equal_names, insert_rising, test_equal, turned}
use Rattle.occ_project_units.specs.Spelled.{AreSpelled, IsSpelled}

-- the name that is put comes to its place among the names
names_by : (file x : Read) (files : List Read) (o : Ordering) → name_cmp file.name x.name ≡ o → map (λ f. f.name) (put files file) ≡ insert_key name_cmp (map (λ f. f.name) files) file.name
    → map (λ (f : Read). f.name) (match_ordering o (file ∷ x ∷ files) (file ∷ files) (x ∷ put files file))
    ≡ match_ordering o (file.name ∷ x.name ∷ map (λ f. f.name) files) (x.name ∷ map (λ f. f.name) files) (x.name ∷ insert_key name_cmp (map (λ f. f.name) files) file.name)
names_by file x files Less e h = refl
names_by file x files Equal e h = ap (λ (n : List ℕ). n ∷ map (λ (f : Read). f.name) files) (equal_names file.name x.name e)
names_by file x files Greater e h = ap (λ (ns : List (List ℕ)). x.name ∷ ns) h

names_put : (files : List Read) (file : Read) → map (λ (f : Read). f.name) (put files file) ≡ insert_key name_cmp (map (λ f. f.name) files) file.name
names_put [] file = refl
names_put (x ∷ files) file = names_by file x files (name_cmp file.name x.name) refl (names_put files file)

pub put_rises : (files : List Read) (file : Read) → IsProject files → IsProject (put files file)
put_rises files file h = subst (IsStrictlySortedBy name_cmp) (sym (names_put files file)) (insert_rising (map (λ f. f.name) files) file.name h)

-- from then on it is the file of its name
member_by : (file x : Read) (files : List Read) (name : List ℕ) (o : Ordering) → name_cmp file.name x.name ≡ o → member (put files file) name ≡ cond (bytes_eq file.name name) (Some file) (member files name)
    → member (match_ordering o (file ∷ x ∷ files) (file ∷ files) (x ∷ put files file)) name ≡ cond (bytes_eq file.name name) (Some file) (cond (bytes_eq x.name name) (Some x) (member files name))
member_by file x files name Less e h = refl
member_by file x files name Equal e h = by (bytes_eq file.name name) (bytes_eq x.name name) (ap (λ (n : List ℕ). bytes_eq n name) (equal_names file.name x.name e)) where
  by : (b c : Bool) → b ≡ c → cond b (Some file) (member files name) ≡ cond b (Some file) (cond c (Some x) (member files name))
  by true c p = refl
  by false true p = cc
  by false false p = refl
member_by file x files name Greater e h = ap (λ (m : Option Read). cond (bytes_eq x.name name) (Some x) m) h ∙ by (bytes_eq file.name name) (bytes_eq x.name name) refl refl where
  by : (b c : Bool) → bytes_eq file.name name ≡ b → bytes_eq x.name name ≡ c → cond c (Some x) (cond b (Some file) (member files name)) ≡ cond b (Some file) (cond c (Some x) (member files name))
  by true true p q =
      let same : file.name ≡ x.name = same_text file.name name (sym p) ∙ sym (same_text x.name name (sym q)) in
      let differ : bytes_eq file.name x.name ≡ false = apart file.name x.name Greater e in
      let equal : bytes_eq x.name x.name ≡ false = subst (λ (n : List ℕ). bytes_eq n x.name ≡ false) same differ in
      let itself : bytes_eq x.name x.name ≡ true = same_bytes x.name in
      absurd (cc (equal, itself))
  by true false p q = refl
  by false true p q = refl
  by false false p q = refl

member_put : (files : List Read) (file : Read) (name : List ℕ) → member (put files file) name ≡ cond (bytes_eq file.name name) (Some file) (member files name)
member_put [] file name = refl
member_put (x ∷ files) file name = member_by file x files name (name_cmp file.name x.name) refl (member_put files file name)

pub file_put : (files : List Read) (file : Read) (name : List ℕ) → file_of (put files file) name ≡ cond (bytes_eq file.name name) file (file_of files name)
file_put files file name = ap (λ (m : Option Read). unwrap_or m (record { name = name; revision = 0; source = None })) (member_put files file name) ∙ by (bytes_eq file.name name) where
  by : (b : Bool) → unwrap_or (cond b (Some file) (member files name)) (record { name = name; revision = 0; source = None }) ≡ cond b file (file_of files name)
  by true = refl
  by false = refl

-- the name of a file that has an index is greater than one that is below all
pub below_found : (low name : List ℕ) (files : List Read) (at : ℕ) → AllByRecursion (λ n. name_cmp low n ≡ Less) (map (λ (f : Read). f.name) files) → index name files ≡ Some at → name_cmp low name ≡ Less
below_found low name [] at h e = cc
below_found low name (x ∷ files) at h e = by (bytes_eq x.name name) (index name files) refl (λ k. below_found low name files k h.1) e where
  by : (b : Bool) (o : Option ℕ) → bytes_eq x.name name ≡ b → ((k : ℕ) → o ≡ Some k → name_cmp low name ≡ Less) → cond b (Some 0) (option_map suc o) ≡ Some at → name_cmp low name ≡ Less
  by true o p f q = subst (λ (n : List ℕ). name_cmp low n ≡ Less) (same_text x.name name (sym p)) h.0
  by false None p f q = cc
  by false (Some k) p f q = f k refl

-- at the place of the file of its name
pub put_at : (files : List Read) (file : Read) (at : ℕ) → IsProject files → index file.name files ≡ Some at → set files at file ≡ put files file
unfolding IsStrictlySortedBy
put_at [] file at s e = cc
put_at (x ∷ files) file at s e = by (bytes_eq x.name file.name) (index file.name files) refl refl (λ k. put_at files file k s.1) e where
  to : (o : Ordering) → name_cmp file.name x.name ≡ o → put (x ∷ files) file ≡ match_ordering o (file ∷ x ∷ files) (file ∷ files) (x ∷ put files file)
  to o c = ap (λ (o : Ordering). match_ordering o (file ∷ x ∷ files) (file ∷ files) (x ∷ put files file)) c

  by : (b : Bool) (o : Option ℕ) → bytes_eq x.name file.name ≡ b → index file.name files ≡ o → ((k : ℕ) → index file.name files ≡ Some k → set files k file ≡ put files file) → cond b (Some 0) (option_map suc o) ≡ Some at → set (x ∷ files) at file ≡ put (x ∷ files) file
  by true o p q f r =
      let zero_is : 0 ≡ at = cc in
      ap (λ (n : ℕ). set (x ∷ files) n file) (sym zero_is) ∙ sym (to Equal (turned x.name file.name Equal (test_equal x.name file.name p)))
  by false None p q f r = cc
  by false (Some k) p q f r =
      let at_is : suc k ≡ at = cc in
      ap (λ (n : ℕ). set (x ∷ files) n file) (sym at_is) ∙ ap (λ (fs : List Read). x ∷ fs) (f k q) ∙ sym (to Greater (turned x.name file.name Less (below_found x.name file.name files k s.0 q)))

-- and where it would stand
before_rest : (name : List ℕ) (x : Read) (files : List Read) (k : ℕ) → AllWithin (λ (f : Read). name_cmp f.name name ≡ Less) (x ∷ files) 0 (suc k) → AllWithin (λ (f : Read). name_cmp f.name name ≡ Less) files 0 k
before_rest name x files k h j d le lt = h (suc j) d (omega arith) (omega (arith, lt))

after_rest : (name : List ℕ) (x : Read) (files : List Read) (k : ℕ) → AllWithin (λ (f : Read). name_cmp f.name name ≡ Greater) (x ∷ files) (suc k) (length (x ∷ files)) → AllWithin (λ (f : Read). name_cmp f.name name ≡ Greater) files k (length files)
after_rest name x files k h j d le lt = h (suc j) d (omega (arith, le)) (omega (arith, lt))

put_between : (files : List Read) (file : Read) (at : ℕ) → at ≤ length files → AllWithin (λ (f : Read). name_cmp f.name file.name ≡ Less) files 0 at → AllWithin (λ (f : Read). name_cmp f.name file.name ≡ Greater) files at (length files)
    → insert files at file ≡ put files file
put_between [] file zero within before after = refl
put_between [] file (suc k) within before after = absurd (omega (arith, within))
put_between (x ∷ files) file zero within before after =
    sym (ap (λ (o : Ordering). match_ordering o (file ∷ x ∷ files) (file ∷ files) (x ∷ put files file)) (turned x.name file.name Greater (after 0 x (omega arith) (omega arith))))
put_between (x ∷ files) file (suc k) within before after =
    ap (λ (fs : List Read). x ∷ fs) (put_between files file k (omega (arith, within)) (before_rest file.name x files k before) (after_rest file.name x files k after))
    ∙ sym (ap (λ (o : Ordering). match_ordering o (file ∷ x ∷ files) (file ∷ files) (x ∷ put files file)) (turned x.name file.name Less (before 0 x (omega arith) (omega arith))))

pub put_gap : (files : List Read) (file : Read) (at : ℕ) → IsGap file.name files at → insert files at file ≡ put files file
put_gap files file at gap = put_between files file at gap.within gap.before gap.after

-- texts and their lines
pub spelled_put : (files : List Read) (file : Read) → AreSpelled files → IsSpelled file.source → AreSpelled (put files file)
spelled_put files file h k name = by (bytes_eq file.name name) (file_put files file name) where
  by : (b : Bool) → file_of (put files file) name ≡ cond b file (file_of files name) → IsSpelled (file_of (put files file) name).source
  by true e = subst (λ (f : Read). IsSpelled f.source) (sym e) k
  by false e = subst (λ (f : Read). IsSpelled f.source) (sym e) (h name)

-- files that come one after the other
pub back_last : (files more : List Read) (file : Read) → put_back files (more ++ file ∷ []) ≡ put_back (put files file) more
back_last files [] file = refl
back_last files (x ∷ more) file = ap (λ (fs : List Read). put fs x) (back_last files more file)

pub back_long : (more : List Read) (file : Read) → length (more ++ file ∷ []) ≡ length more + 1
back_long [] file = refl
back_long (x ∷ more) file = let long = back_long more file in omega (arith, long)

pub back_rises : (files more : List Read) → IsProject files → IsProject (put_back files more)
back_rises files [] h = h
back_rises files (x ∷ more) h = put_rises (put_back files more) x (back_rises files more h)
