-- The first member of a name stands at the index that is kept for the name.
use Rattle.std.proofs.Common.{◌≡◌, ℕ, suc, true, false, Bool, cond, List, [], ◌∷◌, ◌++◌, length, Option, Some, None, refl, sym, ap, ◌∙◌}
use Rattle.std.specs.Cmp.Lexicographic.{same_text}
use Rattle.std.specs.List.{slice_get}
use Rattle.std.specs.Option.{is_some, option_and_then, option_map, option_or}
use Rattle.std.specs.Ordering.{is_eq}
use Rattle.std.proofs.lemmas.Map.Text.{is_eq-slice_cmp}
use Rattle.occ_project.specs.declared.reads.Read.{Read}
use Rattle.occ_project.specs.Reads.{is_named, member, name_cmp, index}

following : (read : Read) (reads : List Read) (o : Option ℕ) → option_and_then (slice_get (read ∷ reads)) (option_map suc o) ≡ option_and_then (slice_get reads) o
following read reads None = refl
following read reads (Some i) = refl

one_of : (read : Read) (reads : List Read) (found : Option Read) (b : Bool) (o : Option ℕ) → option_and_then (slice_get reads) o ≡ found
    → option_and_then (slice_get (read ∷ reads)) (cond b (Some 0) (option_map suc o)) ≡ cond b (Some read) found
one_of read reads found true o e = refl
one_of read reads found false o e = following read reads o ∙ e

pub member_at : (name : List ℕ) (reads : List Read) → option_and_then (slice_get reads) (index name reads) ≡ member reads name
member_at name [] = refl
member_at name (read ∷ reads) = one_of read reads (member reads name) (is_named name read) (index name reads) (member_at name reads)

-- one read more
later : (n : ℕ) (o : Option ℕ) (b : Bool) → option_map suc (option_or o (cond b (Some n) None)) ≡ option_or (option_map suc o) (cond b (Some (suc n)) None)
later n (Some i) b = refl
later n None true = refl
later n None false = refl

one_first : (n : ℕ) (b own : Bool) (old new : Option ℕ) → new ≡ option_or old (cond own (Some n) None)
    → cond b (Some 0) (option_map suc new) ≡ option_or (cond b (Some 0) (option_map suc old)) (cond own (Some (suc n)) None)
one_first n true own old new e = refl
one_first n false own old new e = ap (option_map suc) e ∙ later n old own

alone : (b : Bool) → cond b (Some 0) (option_map suc None) ≡ cond b (Some 0) None
alone true = refl
alone false = refl

index_push : (name : List ℕ) (reads : List Read) (read : Read) → index name (reads ++ read ∷ []) ≡ option_or (index name reads) (cond (is_named name read) (Some (length reads)) None)
index_push name [] read = alone (is_named name read)
index_push name (first ∷ reads) read = one_first (length reads) (is_named name first) (is_named name read) (index name reads) (index name (reads ++ read ∷ [])) (index_push name reads read)

-- a further member of a name changes nothing
pub index_kept : (name : List ℕ) (reads : List Read) (read : Read) → is_some (index read.name reads) ≡ true → index name (reads ++ read ∷ []) ≡ index name reads
index_kept name reads read known = index_push name reads read ∙ by (is_named name read) refl where
  of_some : (o : Option ℕ) (p : Option ℕ) → is_some o ≡ true → option_or o p ≡ o
  of_some (Some i) p h = refl
  of_some None p h = cc

  of_none : (o : Option ℕ) → option_or o None ≡ o
  of_none (Some i) = refl
  of_none None = refl

  by : (b : Bool) → is_named name read ≡ b → option_or (index name reads) (cond b (Some (length reads)) None) ≡ index name reads
  by true e = of_some (index name reads) (Some (length reads)) (ap (λ (n : List ℕ). is_some (index n reads)) (sym (same_text read.name name (sym e))) ∙ known)
  by false e = of_none (index name reads)

-- the first member of a name has the index after the reads before it
pub index_new : (name : List ℕ) (reads : List Read) (read : Read) → is_some (index read.name reads) ≡ false
    → index name (reads ++ read ∷ []) ≡ cond (is_eq (name_cmp read.name name)) (Some (length reads)) (index name reads)
index_new name reads read unknown =
    index_push name reads read ∙ by (is_named name read) refl
    ∙ ap (λ (b : Bool). cond b (Some (length reads)) (index name reads)) (sym (is_eq-slice_cmp read.name name))
  where
    of_none : (o : Option ℕ) (p : Option ℕ) → is_some o ≡ false → option_or o p ≡ p
    of_none (Some i) p h = cc
    of_none None p h = refl

    no_more : (o : Option ℕ) → option_or o None ≡ o
    no_more (Some i) = refl
    no_more None = refl

    by : (b : Bool) → is_named name read ≡ b → option_or (index name reads) (cond b (Some (length reads)) None) ≡ cond b (Some (length reads)) (index name reads)
    by true e = of_none (index name reads) (Some (length reads)) (ap (λ (n : List ℕ). is_some (index n reads)) (sym (same_text read.name name (sym e))) ∙ unknown)
    by false e = no_more (index name reads)
