-- Who looks for a file, by name.
use Rattle.std.proofs.Common.{◌≡◌, ◌∙◌, ◌+◌, ◌<◌, ◌≤◌, ◌||◌, ◌++◌, ◌⊎◌, inl, inr, ℕ, zero, suc, Bool, true, false, cond, List, [], ◌∷◌, length, get_or, map, take, Option, Some, None, Result, Ok, Err, OnOk, refl, sym, ap, subst, arith}
use Rattle.std.specs.List.{slice_get}
use Rattle.std.specs.Option.{is_some, option_map, unwrap_or}
use Rattle.std.specs.Ordering.{match_ordering}
use Rattle.std.specs.declared.cmp.Ordering.{Ordering}
use Rattle.std.specs.declared.cmp.Ordering.TheVariants.{Less, Equal, Greater}
use Rattle.std.specs.Prelude.{◌==◌, IfSome, MatchOption, slice_set}
use Rattle.std.specs.Str.{bytes_eq}
use Rattle.std.proofs.lemmas.Bool.{cases_lt, eqb-true}
use Rattle.std.proofs.lemmas.List.{get_or-map, get_or_past, length-map, take_more}
use Rattle.std.proofs.lemmas.Slice.Eq.{bytes_eq-Decides}
use Rattle.occ_project.specs.Entries.{is_among}
use Rattle.occ_project.specs.Reads.{index, name_cmp}
use Rattle.occ_project.specs.declared.reads.Read.{Read}
use Rattle.occ_base.specs.FileName.{is_unit}
use Rattle.occ_project_graph.specs.Graph.{Graph, is_among as is_index}
use Rattle.occ_project.specs.Expansion.{expansion}
use Rattle.occ_project_units.proofs.Added.{all_placed, one_read, other_there}
use Rattle.occ_project_units.proofs.Below.{named_at, placed_name}
use Rattle.occ_project_units.proofs.Edges.{among_indices, read_alone, targets_are, unused}
use Rattle.occ_project_units.proofs.Finding.{index_within}
use Rattle.occ_project_units.proofs.Looks.{same_bytes}
use Rattle.occ_project_units.proofs.Renewed.{facts_at}
use Rattle.occ_project_units.proofs.Rising.{equal_names}
use Rattle.occ_project_units.proofs.Sharing.{facts_stay, put_others}
use Rattle.occ_project_units.specs.Along.{name_at}
use Rattle.occ_project_units.specs.Indices.{graph_of, indices_of}
use Rattle.occ_project_units.specs.Project.{IsProject, put}
use Rattle.occ_project_units.specs.Units.{read_names, used_units}
use Rattle.occ_project_units.specs.declared.facts.Facts.{Facts}
use Rattle.occ_project_units.specs.declared.lookers.Lookers.{Lookers}
use Rattle.occ_project_units.specs.inside.Keeping.{AreLookers, AreLookersIf, AreNotedAfter, AreNotedThen, AreOthers, IsMore, IsNoted, IsNotedBy, IsNotedOf, all_facts, facts_of, looking_for, row_of}

abbrev Names : Type 0
Names = List (List ℕ)

or_right : (b c : Bool) → c ≡ true → (b || c) ≡ true
or_right true c h = refl
or_right false c h = h

or_left : (b c : Bool) → b ≡ true → (b || c) ≡ true
or_left true c h = refl
or_left false c h = absurd cc

-- a name that is put behind others
pub append_more : (row : Names) (u n : List ℕ) → is_among row n ≡ true → is_among (row ++ u ∷ []) n ≡ true
append_more [] u n h = absurd cc
append_more (x ∷ row) u n h = by (bytes_eq x n) h (append_more row u n) where
  by : (b : Bool) → (b || is_among row n) ≡ true → (is_among row n ≡ true → is_among (row ++ u ∷ []) n ≡ true) → (b || is_among (row ++ u ∷ []) n) ≡ true
  by true k f = refl
  by false k f = f k

pub append_here : (row : Names) (u : List ℕ) → is_among (row ++ u ∷ []) u ≡ true
append_here [] u = or_left (bytes_eq u u) false (same_bytes u)
append_here (x ∷ row) u = or_right (bytes_eq x u) (is_among (row ++ u ∷ []) u) (append_here row u)

-- and one that stands at a place
pub name_there : (row : Names) (i : ℕ) (u : List ℕ) → i < length row → get_or row i [] ≡ u → is_among row u ≡ true
name_there [] i u lt e = absurd (omega (arith, lt))
name_there (x ∷ row) zero u lt e = or_left (bytes_eq x u) (is_among row u) (ap (bytes_eq x) (sym e) ∙ same_bytes x)
name_there (x ∷ row) (suc i) u lt e = or_right (bytes_eq x u) (is_among row u) (name_there row i u (omega (arith, lt)) e)

-- what holds of the first of these names, and of the next
among_last : (row : Names) (u n : List ℕ) → is_among (row ++ u ∷ []) n ≡ true → (is_among row n ≡ true) ⊎ (u ≡ n)
among_last [] u n h = by (bytes_eq u n) refl h where
  by : (b : Bool) → bytes_eq u n ≡ b → (b || false) ≡ true → (false ≡ true) ⊎ (u ≡ n)
  by true e k = inr ((bytes_eq-Decides u n).0 e)
  by false e k = inl k
among_last (x ∷ row) u n h = by (bytes_eq x n) h (among_last row u n) where
  by : (b : Bool) → (b || is_among (row ++ u ∷ []) n) ≡ true → (is_among (row ++ u ∷ []) n ≡ true → (is_among row n ≡ true) ⊎ (u ≡ n)) → ((b || is_among row n) ≡ true) ⊎ (u ≡ n)
  by true k f = inl refl
  by false k f = f k

pub more_hold : (P : List ℕ → Type 0) (row : Names) (i : ℕ) (d : List ℕ) → i < length row → ((n : List ℕ) → is_among (take i row) n ≡ true → P n) → P (get_or row i d) → (n : List ℕ) → is_among (take (i + 1) row) n ≡ true → P n
more_hold P row i d lt before here n k = elim (among_last (take i row) (get_or row i d) n (ap (λ (ns : Names). is_among ns n) (sym (take_more row i d lt)) ∙ k)) [
  | inl h ↦ before n h
  | inr e ↦ subst P e here
]

take_whole : (row : Names) (i : ℕ) → length row ≤ i → take i row ≡ row
take_whole [] zero le = refl
take_whole [] (suc i) le = refl
take_whole (x ∷ row) zero le = absurd (omega (arith, le))
take_whole (x ∷ row) (suc i) le = ap (λ (ns : Names). x ∷ ns) (take_whole row i (omega (arith, le)))

pub all_hold : (P : List ℕ → Type 0) (row : Names) (i : ℕ) → length row ≤ i → ((n : List ℕ) → is_among (take i row) n ≡ true → P n) → (n : List ℕ) → is_among row n ≡ true → P n
all_hold P row i le each n k = each n (ap (λ (ns : Names). is_among ns n) (take_whole row i le) ∙ k)

-- a row in place of another
row_set : (rows : List Names) (place : ℕ) (r : Names) → ((u : List ℕ) → is_among (get_or rows place []) u ≡ true → is_among r u ≡ true) → (p : ℕ) (u : List ℕ) → is_among (get_or rows p []) u ≡ true → is_among (get_or (slice_set rows place r) p []) u ≡ true
row_set [] place r more p u h = h
row_set (x ∷ rows) zero r more zero u h = more u h
row_set (x ∷ rows) zero r more (suc p) u h = h
row_set (x ∷ rows) (suc place) r more zero u h = h
row_set (x ∷ rows) (suc place) r more (suc p) u h = row_set rows place r more p u h

row_here : (rows : List Names) (place : ℕ) (r : Names) → place < length rows → get_or (slice_set rows place r) place [] ≡ r
row_here [] place r lt = absurd (omega (arith, lt))
row_here (x ∷ rows) zero r lt = refl
row_here (x ∷ rows) (suc place) r lt = row_here rows place r (omega (arith, lt))

abbrev found_in : List Names → Option ℕ → Names
found_in rows o = unwrap_or (option_map (λ (place : ℕ). get_or rows place []) o) []

found_more : (rows next : List Names) → ((p : ℕ) (u : List ℕ) → is_among (get_or rows p []) u ≡ true → is_among (get_or next p []) u ≡ true) → (o : Option ℕ) (u : List ℕ) → is_among (found_in rows o) u ≡ true → is_among (found_in next o) u ≡ true
found_more rows next f None u h = absurd cc
found_more rows next f (Some p) u h = f p u h

abbrev found : List Names → List ℕ → Names
found rows name = found_in rows (row_of name (length rows))

same_place : (rows next : List Names) (name : List ℕ) → length next ≡ length rows → found next name ≡ found_in next (row_of name (length rows))
same_place rows next name e = ap (λ (n : ℕ). found_in next (row_of name n)) e

set_long : (rows : List Names) (place : ℕ) (r : Names) → length (slice_set rows place r) ≡ length rows
set_long [] place r = refl
set_long (x ∷ rows) zero r = refl
set_long (x ∷ rows) (suc place) r = ap suc (set_long rows place r)

module _ (rows next : List Names) (place : ℕ) (r : Names) (e : next ≡ slice_set rows place r) where
  long : length next ≡ length rows
  long = ap (length {A = Names}) e ∙ set_long rows place r

  pub rows_set : ((u : List ℕ) → is_among (get_or rows place []) u ≡ true → is_among r u ≡ true) → (name u : List ℕ) → is_among (found rows name) u ≡ true → is_among (found next name) u ≡ true
  rows_set more name u h =
      ap (λ (ns : Names). is_among ns u) (same_place rows next name long)
      ∙ subst (λ (ws : List Names). is_among (found_in ws (row_of name (length rows))) u ≡ true) (sym e) (found_more rows (slice_set rows place r) (row_set rows place r more) (row_of name (length rows)) u h)

  pub set_here : (name u : List ℕ) → Some place ≡ row_of name (length rows) → place < length rows → is_among r u ≡ true → is_among (found next name) u ≡ true
  set_here name u at lt h =
      ap (λ (ns : Names). is_among ns u) (same_place rows next name long)
      ∙ ap (λ (o : Option ℕ). is_among (found_in next o) u) (sym at)
      ∙ ap (λ (ws : List Names). is_among (get_or ws place []) u) e
      ∙ ap (λ (w : Names). is_among w u) (row_here rows place r lt) ∙ h

-- where none of those that may look for a file that is not there does, none of all does
none_by : (b : Bool) → (b ≡ true → ⊥) → b ≡ false
none_by true f = absurd (f refl)
none_by false f = refl

module _ (files : List Read) (project : IsProject files) (lookers : Lookers) (are : AreLookers files lookers) (name : List ℕ) (none : index name files ≡ None) where
  there : (p : ℕ) → p < length files → is_some (index (name_at files p) files) ≡ true
  there p lt = ap (λ (o : Option ℕ). is_some o) (placed_name files p project lt)

  pub none_reads : ((unit : List ℕ) → is_among (looking_for lookers name) unit ≡ true → is_some (index unit files) ≡ true → is_among (read_names files unit) name ≡ false) → (p : ℕ) → p < length files → is_among (read_names files (name_at files p)) name ≡ false
  none_reads those p lt = none_by (is_among (read_names files (name_at files p)) name) (λ k.
      let found = (are p lt name (other_there files project name none p lt)).0 k in
      let not = those (name_at files p) found (there p lt) in
      cc (k, not))

  pub none_uses : ((unit : List ℕ) → is_among (looking_for lookers name) unit ≡ true → is_some (index unit files) ≡ true → is_among (used_units files unit) name ≡ false) → (p : ℕ) → p < length files → is_among (used_units files (name_at files p)) name ≡ false
  none_uses those p lt = none_by (is_among (used_units files (name_at files p)) name) (λ k.
      let found = (are p lt name (other_there files project name none p lt)).1 none k in
      let not = those (name_at files p) found (there p lt) in
      cc (k, not))

-- where none of those does that may read a file none reads it but itself
pub no_other_reads : (files : List Read) (project : IsProject files) (lookers : Lookers) (are : AreLookers files lookers) (name : List ℕ) → ((unit : List ℕ) → is_among (looking_for lookers name) unit ≡ true → bytes_eq unit name ≡ false → is_some (index unit files) ≡ true → is_among (read_names files unit) name ≡ false)
    → (p : ℕ) → p < length files → bytes_eq (name_at files p) name ≡ false → is_among (read_names files (name_at files p)) name ≡ false
no_other_reads files project lookers are name those p lt other = none_by (is_among (read_names files (name_at files p)) name) (λ k.
    let found = (are p lt name other).0 k in
    let not = those (name_at files p) found other (ap (λ (o : Option ℕ). is_some o) (placed_name files p project lt)) in
    cc (k, not))

-- so all that use it are among them
pub uses_found : (files : List Read) (facts : List Facts) (project : IsProject files) (lookers : Lookers) (name : List ℕ) (indices : List ℕ) → AreLookers files lookers → index name files ≡ None → facts ≡ all_facts files → indices ≡ indices_of files (looking_for lookers name)
    → (p : ℕ) → is_index indices p ≡ false → get_or (map (λ (f : Facts). is_among f.uses name) facts) p false ≡ false
uses_found files facts project lookers name indices are none f i p k = ap (λ (fs : List Facts). get_or (map (λ (g : Facts). is_among g.uses name) fs) p false) f ∙ elim (cases_lt p (length files)) [
  | inl below ↦ uses_there p below ∙ none_by (is_among (used_units files (name_at files p)) name) (λ h.
      let found = (are p below name (other_there files project name none p below)).1 none h in
      let there : is_index indices p ≡ true = ap (λ (ps : List ℕ). is_index ps p) i ∙ among_indices files (looking_for lookers name) (name_at files p) p (placed_name files p project below) found in
      cc (there, k))
  | inr above ↦
      let long = length-map files (λ (x : Read). facts_of files x.name) in
      let wide = length-map (all_facts files) (λ (g : Facts). is_among g.uses name) in
      get_or_past (map (λ (g : Facts). is_among g.uses name) (all_facts files)) p false (omega (arith, above, long, wide))
] where
  get_there : (fs : List Facts) (k : ℕ) (d g : Facts) → slice_get fs k ≡ Some g → get_or fs k d ≡ g
  get_there [] k d g e = cc
  get_there (x ∷ fs) zero d g e = cc
  get_there (x ∷ fs) (suc k) d g e = get_there fs k d g e

  uses_there : (q : ℕ) → q < length files → get_or (map (λ (g : Facts). is_among g.uses name) (all_facts files)) q false ≡ is_among (used_units files (name_at files q)) name
  uses_there q lt =
      let long = length-map files (λ (x : Read). facts_of files x.name) in
      get_or-map (λ (g : Facts). is_among g.uses name) (all_facts files) q (facts_of files (name_at files q)) false (omega (arith, lt, long))
      ∙ ap (λ (g : Facts). is_among g.uses name) (get_there (all_facts files) q (facts_of files (name_at files q)) (facts_of files (name_at files q)) (facts_at files q lt))

-- what is noted by what is known
pub noted_by : (files : List Read) (known : Facts) (unit : List ℕ) (are_there : Bool) (lookers : Lookers) → known ≡ facts_of files unit → (are_there ≡ true → length (indices_of files known.uses) ≡ length known.uses) → IsNotedOf known unit are_there lookers → IsNoted files unit lookers
noted_by files known unit are_there lookers e placed noted = λ name other. (
  λ k. (noted name other).0 (ap (λ (f : Facts). is_among f.reads name) e ∙ k),
  λ none k. by name other none (ap (λ (f : Facts). is_among f.uses name) e ∙ k) are_there refl,
) where
  by : (name : List ℕ) → bytes_eq unit name ≡ false → index name files ≡ None → is_among known.uses name ≡ true → (b : Bool) → are_there ≡ b → is_among (looking_for lookers name) unit ≡ true
  by name other none k true h = let not = all_placed files known.uses name (placed h) none in absurd (cc (not, k))
  by name other none k false h = (noted name other).1 h k

-- by how many edges lead from it
pub noted_at : (files : List Read) (project : IsProject files) (p : ℕ) (lt : p < length files) (known : Facts) (nodes : List ℕ) (edges : ℕ) (lookers : Lookers) → known ≡ facts_of files (name_at files p) → nodes ≡ get_or (graph_of files) p [] → edges ≡ length nodes
    → IsNotedBy known (name_at files p) edges lookers → IsNoted files (name_at files p) lookers
noted_at files project p lt known nodes edges lookers e g n h = elim h [
  | inl whole ↦ λ name other. (
    λ k. let none = one_read files (name_at files p) name (subst (λ (f : Facts). length f.reads ≤ 1) e whole.0) other in absurd (cc (none, k)),
    λ none k. let not = all_placed files known.uses name (all_there whole.1) none in absurd (cc (not, k)),
  )
  | inr noted ↦ noted_by files known (name_at files p) (edges == length known.uses) lookers e (λ k. all_there (eqb-true edges (length known.uses) k)) noted
] where
  all_there : edges ≡ length known.uses → length (indices_of files known.uses) ≡ length known.uses
  all_there k =
      ap (λ (f : Facts). length (indices_of files f.uses)) e
      ∙ ap (length {A = ℕ}) (sym (g ∙ targets_are files (name_at files p) p (placed_name files p project lt)))
      ∙ sym n ∙ k

-- one that was absent before an edit may be there after it, and no other way
absent_put : (files : List Read) (file : Read) (name : List ℕ) → index name (put files file) ≡ None → index name files ≡ None
absent_put [] file name none = refl
absent_put (x ∷ files) file name none = by (name_cmp file.name x.name) refl none (absent_put files file name) where
  rest : (b : Bool) (o : Option ℕ) → cond b (Some 0) (option_map suc o) ≡ None → (b ≡ false) × (o ≡ None)
  rest true o k = absurd cc
  rest false None k = (refl, refl)
  rest false (Some n) k = absurd cc

  both : (b : Bool) (o : Option ℕ) → b ≡ false → o ≡ None → cond b (Some 0) (option_map suc o) ≡ None
  both b o h k = ap (λ (c : Bool). cond c (Some 0) (option_map suc o)) h ∙ ap (option_map suc) k

  by : (o : Ordering) → name_cmp file.name x.name ≡ o → index name (match_ordering o (file ∷ x ∷ files) (file ∷ files) (x ∷ put files file)) ≡ None → (index name (put files file) ≡ None → index name files ≡ None) → index name (x ∷ files) ≡ None
  by Less e k f = (rest (bytes_eq file.name name) (index name (x ∷ files)) k).1
  by Equal e k f =
      let parts = rest (bytes_eq file.name name) (index name files) k in
      both (bytes_eq x.name name) (index name files) (ap (λ (n : List ℕ). bytes_eq n name) (sym (equal_names file.name x.name e)) ∙ parts.0) parts.1
  by Greater e k f =
      let parts = rest (bytes_eq x.name name) (index name (put files file)) k in
      both (bytes_eq x.name name) (index name files) parts.0 (f parts.1)

-- after an edit, where those are noted that read the file
module _ (files later : List Read) (file : Read) (lookers more : Lookers) (put_is : later ≡ put files file) (are : AreLookers files lookers) (m : IsMore lookers more) where
  others : AreOthers file.name later files
  others other h = sym (subst (AreOthers file.name files) (sym put_is) (put_others files file) other h)

  absent_before : (name : List ℕ) → index name later ≡ None → index name files ≡ None
  absent_before name none = absent_put files file name (ap (index name) (sym put_is) ∙ none)

  -- one that does not read it is noted as before
  noted_still : (unit : List ℕ) → is_among (read_names later unit) file.name ≡ false → IsNoted later unit more
  noted_still unit apart = by (index unit files) refl where
    same : facts_of later unit ≡ facts_of files unit
    same = facts_stay later files unit file.name others apart

    by : (o : Option ℕ) → index unit files ≡ o → IsNoted later unit more
    by (Some p) e = λ name other.
        let was = subst (λ (n : List ℕ). IsNoted files n lookers) (named_at files unit p e) (are p (index_within unit files p e)) name other in (
          λ k. m name unit (was.0 (ap (λ (f : Facts). is_among f.reads name) (sym same) ∙ k)),
          λ none k. m name unit (was.1 (absent_before name none) (ap (λ (f : Facts). is_among f.uses name) (sym same) ∙ k)),
        )
    by None e = λ name other. (
      λ k. absurd (alone name other (is_unit unit) refl (ap (λ (f : Facts). is_among f.reads name) (sym same) ∙ k)),
      λ none k.
          let uses : is_among [] name ≡ true = ap (λ (names : Names). is_among names name) (sym (unused files unit e)) ∙ ap (λ (f : Facts). is_among f.uses name) (sym same) ∙ k in
          absurd cc,
    ) where
      alone : (name : List ℕ) → bytes_eq unit name ≡ false → (b : Bool) → is_unit unit ≡ b → is_among (read_names files unit) name ≡ true → ⊥
      alone name other true h k =
          let one : (bytes_eq unit name || false) ≡ true = ap (λ (names : Names). is_among names name) (sym (read_alone files unit e h)) ∙ k in
          let not : false ≡ true = ap (λ (b : Bool). b || false) (sym other) ∙ one in
          absurd cc
      alone name other false h k =
          let none : false ≡ true = ap (λ (b : Bool). is_among (cond b (expansion files unit).reads []) name) (sym h) ∙ k in
          absurd cc

  lookers_put : ((p : ℕ) → p < length later → is_among (read_names later (name_at later p)) file.name ≡ true → IsNoted later (name_at later p) more) → AreLookers later more
  lookers_put noted = λ p lt. by p lt (is_among (read_names later (name_at later p)) file.name) refl where
    by : (p : ℕ) → p < length later → (b : Bool) → is_among (read_names later (name_at later p)) file.name ≡ b → IsNoted later (name_at later p) more
    by p lt true h = noted p lt h
    by p lt false h = noted_still (name_at later p) h

-- where it was known before
after_by : (files later : List Read) (file : Read) (lookers : Option Lookers) (next : Lookers) → later ≡ put files file → AreLookersIf files lookers → AreNotedAfter later file.name lookers next → AreLookers later next
after_by files later file None next put_is are noted = absurd noted
after_by files later file (Some lookers) next put_is are noted = lookers_put files later file lookers next put_is are noted.0 noted.1

pub lookers_put_if : (files later : List Read) (file : Read) (lookers found : Option Lookers) → later ≡ put files file → AreLookersIf files lookers → IfSome found (λ next. AreNotedAfter later file.name lookers next) → AreLookersIf later found
lookers_put_if files later file lookers None put_is are h = tt
lookers_put_if files later file lookers (Some next) put_is are h = after_by files later file lookers next put_is are h

-- or all are noted anew
then_by : (files later : List Read) (file : Read) (lookers : Option Lookers) (next : Lookers) → later ≡ put files file → AreLookersIf files lookers → AreNotedThen later file.name lookers next → AreLookers later next
then_by files later file lookers next put_is are noted = elim noted [
  | inl more ↦ after_by files later file lookers next put_is are more
  | inr all ↦ all
]

pub lookers_then_if : (files later : List Read) (file : Read) (lookers found : Option Lookers) → later ≡ put files file → AreLookersIf files lookers → IfSome found (λ next. AreNotedThen later file.name lookers next) → AreLookersIf later found
lookers_then_if files later file lookers None put_is are h = tt
lookers_then_if files later file lookers (Some next) put_is are h = then_by files later file lookers next put_is are h

-- what holds where there was memory
pub on_ok_more : {X E : Type 0} (r : Result X E) (P Q : Type 0) → (P → Q) → OnOk r P → OnOk r Q
on_ok_more (Ok x) P Q f p = f p
on_ok_more (Err e) P Q f p = tt

-- what rests on what, as found or as before
pub links_found : (found : Option Graph) (before links kept later : Graph) → MatchOption found (links ≡ before) (λ other. links ≡ other) → MatchOption found (kept ≡ later) (λ other. other ≡ later) → before ≡ kept → links ≡ later
links_found None before links kept later h k e = h ∙ e ∙ k
links_found (Some other) before links kept later h k e = h ∙ k

-- what is known of the file at an index
some_same : (x y : Facts) → Some x ≡ Some y → x ≡ y
some_same x y e = cc

pub known_there : (files : List Read) (facts : List Facts) (i : ℕ) (known : Facts) → facts ≡ all_facts files → i < length files → Some known ≡ slice_get facts i → known ≡ facts_of files (name_at files i)
known_there files facts i known f lt e = some_same known (facts_of files (name_at files i)) (e ∙ ap (λ (fs : List Facts). slice_get fs i) f ∙ facts_at files i lt)

pub known_within : (files : List Read) (facts : List Facts) (i : ℕ) → facts ≡ all_facts files → i < length facts → i < length files
known_within files facts i f lt =
    let long = length-map files (λ (x : Read). facts_of files x.name) in
    let same = ap (length {A = Facts}) f in
    omega (arith, lt, long, same)

pub known_over : (files : List Read) (facts : List Facts) (i : ℕ) → facts ≡ all_facts files → length facts ≤ i → length files ≤ i
known_over files facts i f le =
    let long = length-map files (λ (x : Read). facts_of files x.name) in
    let same = ap (length {A = Facts}) f in
    omega (arith, le, long, same)

-- what holds before an index and of it
pub next_too : (P : ℕ → Type 0) (i : ℕ) → ((p : ℕ) → p < i → P p) → P i → (p : ℕ) → p < i + 1 → P p
next_too P i before here p lt = elim (cases_lt p i) [
  | inl below ↦ before p below
  | inr above ↦ let same : i ≡ p = omega (arith, lt, above) in subst P same here
]

pub noted_more : (files : List Read) (unit : List ℕ) (lookers more : Lookers) → IsMore lookers more → IsNoted files unit lookers → IsNoted files unit more
noted_more files unit lookers more m noted = λ name other. let was = noted name other in (λ k. m name unit (was.0 k), λ none k. m name unit (was.1 none k))
