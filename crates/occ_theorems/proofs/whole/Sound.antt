-- Operands without faults, tables among them: what is read of each wherever it stands.
use Rattle.std.proofs.Common.{◌≡◌, ◌∙◌, ◌||◌, ℕ, suc, Bool, true, false, List, [], ◌∷◌, map, length, Option, Some, None, if◌then◌else◌, refl, ap, sym, subst}
use Rattle.std.specs.Prelude.{◌&&◌, nat_le, not}
use Rattle.std.specs.List.{list_any}
use Rattle.occ_base.specs.declared.code.Code.TheVariants as code
use Rattle.occ_typing_operands.specs.declared.kind.Kind.{Kind}
use Rattle.occ_typing_operands.specs.declared.kind.Kind.TheVariants as k
use Rattle.occ_typing_operands.specs.Operators.{all_faults, is_faulty, kinds, needs_faulty}
use Rattle.occ_typing_operands.specs.Settling.{Finding, fault_of, int, known, settled, silent}
use Rattle.occ_typing_operands.specs.Wanting.{fitted}
use Rattle.occ_typing_tables.specs.declared.table.Settled.{Settled}
use Rattle.occ_typing_tables.specs.Extents.{arrayed, is_too_large}
use Rattle.occ_typing_tables.specs.Merging.{filled}
use Rattle.occ_typing_tables.specs.Terms.{Judged, after_first, alone, all_under, each_own_or_alone, each_under, first_settled, first_type, fitted_to, has_fault, is_faulty_settled, items_type, joined, judged, judged_all, merged_all, merged_next, own_or_alone, settled_under, so_many, stands, table_alone, table_of, table_settled, table_type, term_step, unless_faulty, with_items}
use Rattle.occ_typing_tables.specs.declared.term.Term.{Term}
use Rattle.occ_typing_tables.specs.declared.term.Term.TheOpen.{Term-F}
use Rattle.occ_typing_tables.specs.declared.term.Term.TheVariants as v
use Rattle.occ_typing_tables.proofs.Judging.{judged_single, judged_table}
use Rattle.occ_typing_rules.specs.declared.open_expr.OpenExpr.{OpenExpr}
use Rattle.occ_typing_rules.specs.declared.open_expr.OpenExpr.TheVariants as dr
use Rattle.occ_types.specs.Fits.{fits, is_data}
use Rattle.occ_types.specs.Unknown.{holds_unknown}
use Rattle.occ_types.specs.View.{as_array}
use Rattle.occ_types.specs.declared.types.OccType.{OccType}
use Rattle.occ_types.specs.declared.types.OccType.TheVariants as t
use Rattle.occ_types.specs.declared.value.Primitive.TheVariants as p
use Rattle.occ_types.proofs.Unknowns.{unknown_array, unknown_primitive}
use Rattle.occ_theorems.proofs.whole.Clean.{back_clean, front_clean}
use Rattle.occ_theorems.proofs.whole.Filled.{filled_cached}
use Rattle.occ_theorems.proofs.whole.Reading.{HasTree, IsKnown, MayRead, Reads, ReadsAs, chosen, fitted_reads, read_known, reads_may, settled_reads, wanted_reads}
use Rattle.occ_theorems.proofs.whole.Trees.{Trees, tree_table}
use Rattle.occ_theorems.proofs.whole.Types.{depth, depth_array, fits_depth}

-- an operand in which nothing is faulty: wherever nothing is reported of it, it is known, and has its tree
pub record Sound (j : Judged) (d : OpenExpr) : Type 0 where
  pub faultless : j.is_faulty ≡ false
  pub by_itself : j.alone.faults ≡ [] → Reads j.alone.kind d
  pub settles : (of : OccType) → (j.settled of).faults ≡ [] → ((j.settled of).is_faulty ≡ false) × Reads (j.settled of).kind d
  pub wanted : (of : OccType) → (j.under of).faults ≡ [] → ReadsAs of (j.under of).kind d
  pub plain : (j.beside false).faults ≡ [] → MayRead (j.beside false).kind d

abbrev pub AllSound : List Judged → List OpenExpr → Type 0
AllSound [] [] = Unit {0}
AllSound [] (d ∷ ds) = ⊥
AllSound (j ∷ js) [] = ⊥
AllSound (j ∷ js) (d ∷ ds) = Sound j d × AllSound js ds

-- ---- one operand

pub no_fault : (kind : Kind) (d : OpenExpr) → Reads kind d → is_faulty kind ≡ false
no_fault k.Faulty d h = absurd h
no_fault (k.Untyped f) d h = absurd h
no_fault (k.Known x) d h = refl

needs_none : (kind : Kind) (d : OpenExpr) → MayRead kind d → needs_faulty kind ≡ false
needs_none k.Faulty d h = absurd h
needs_none (k.Untyped f) d h = h.0
needs_none (k.Known x) d h = refl

single_step : (kind : Kind) (d : OpenExpr) → MayRead kind d → Sound (term_step (Term-F.Single kind)) d
single_step kind d h =
    record {
      faultless = needs_none kind d h;
      by_itself = settled_reads int kind d h;
      settles = λ of e. (no_fault (settled of kind).kind d (settled_reads of kind d h e), settled_reads of kind d h e);
      wanted = λ of. wanted_reads of kind d h;
      plain = λ e. h;
    }

pub single_sound : (kind : Kind) (d : OpenExpr) → MayRead kind d → Sound (judged (v.Single kind)) d
single_sound kind d h = subst (λ (j : Judged). Sound j d) (sym (judged_single kind)) (single_step kind d h)

-- ---- the items of a table

pub none_faulty : (js : List Judged) (ds : List OpenExpr) → AllSound js ds → list_any has_fault js ≡ false
none_faulty [] ds h = refl
none_faulty (j ∷ js) [] h = absurd h
none_faulty (j ∷ js) (d ∷ ds) h = ap (λ (b : Bool). b || list_any has_fault js) h.0.faultless ∙ none_faulty js ds h.1

abbrev pub EachReads : OccType → List Finding → List OpenExpr → Type 0
EachReads of [] [] = Unit {0}
EachReads of [] (d ∷ ds) = ⊥
EachReads of (x ∷ xs) [] = ⊥
EachReads of (x ∷ xs) (d ∷ ds) = ReadsAs of x.kind d × EachReads of xs ds

-- what is settled and then fits
pub fitted_to_reads : (of : OccType) (y : Settled) (d : OpenExpr) → (y.faults ≡ [] → (y.is_faulty ≡ false) × Reads y.kind d) → (fitted_to of y).faults ≡ [] → ReadsAs of (fitted_to of y).kind d
fitted_to_reads of y d h e =
    fitted_reads of y.kind d (h (front_clean y.faults (fitted of y.kind).faults e)).1 (back_clean y.faults (fitted of y.kind).faults e)

each_fitted : (of : OccType) (js : List Judged) (ds : List OpenExpr) → AllSound js ds → all_faults (map (fitted_to of) (map (settled_under of) js)) ≡ [] → EachReads of (map (fitted_to of) (map (settled_under of) js)) ds
each_fitted of [] [] h e = tt
each_fitted of [] (d ∷ ds) h e = absurd h
each_fitted of (j ∷ js) [] h e = absurd h
each_fitted of (j ∷ js) (d ∷ ds) h e =
    let rest = all_faults (map (fitted_to of) (map (settled_under of) js)) in (
      fitted_to_reads of (j.settled of) d (h.0.settles of) (front_clean (fitted_to of (j.settled of)).faults rest e),
      each_fitted of js ds h.1 (back_clean (fitted_to of (j.settled of)).faults rest e),
    )

-- what is faulty stands as it was settled
own_if : (b w own : Bool) (y : Settled) (j : Judged) → y.is_faulty ≡ b → (y.faults ≡ [] → y.is_faulty ≡ false) → own ≡ false → (own_or_alone w own y j).faults ≡ [] → b ≡ false
own_if false w own y j is h g e = refl
own_if true true own y j is h g e =
    let stand : stands true own y j ≡ true = ap (λ (b : Bool). b || j.is_untyped) is in
    sym is ∙ h (sym (ap (λ (b : Bool). (chosen b (record { faults = y.faults; kind = k.Faulty }) j.alone).faults) stand) ∙ e)
own_if true false own y j is h g e =
    let stand : stands false own y j ≡ true = ap (λ (b : Bool). b && not own) is ∙ ap not g in
    sym is ∙ h (sym (ap (λ (b : Bool). (chosen b (record { faults = y.faults; kind = k.Faulty }) j.alone).faults) stand) ∙ e)

own_none : (w own : Bool) (of : OccType) (js : List Judged) (ds : List OpenExpr) → AllSound js ds → own ≡ false → all_faults (each_own_or_alone w own (map (settled_under of) js) js) ≡ []
    → list_any is_faulty_settled (map (settled_under of) js) ≡ false
own_none w own of [] ds h g e = refl
own_none w own of (j ∷ js) [] h g e = absurd h
own_none w own of (j ∷ js) (d ∷ ds) h g e =
    let here = own_or_alone w own (j.settled of) j in
    let rest = all_faults (each_own_or_alone w own (map (settled_under of) js) js) in
    let first : (j.settled of).is_faulty ≡ false = own_if (j.settled of).is_faulty w own (j.settled of) j refl (λ g. (h.0.settles of g).0) g (front_clean here.faults rest e) in
    ap (λ (b : Bool). b || list_any is_faulty_settled (map (settled_under of) js)) first ∙ own_none w own of js ds h.1 g (back_clean here.faults rest e)

abbrev Under : Bool → OccType → List Judged → List OpenExpr → Type 0
Under w of js ds = (list_any is_faulty_settled (map (settled_under of) js) ≡ false) × EachReads of (each_under w of js) ds

abbrev fitted_if : Bool → Bool → OccType → List Judged → List Finding
fitted_if b w of js = if b then each_own_or_alone w (list_any has_fault js) (map (settled_under of) js) js else map (fitted_to of) (map (settled_under of) js)

under_if : (b w : Bool) (of : OccType) (js : List Judged) (ds : List OpenExpr) → AllSound js ds → list_any is_faulty_settled (map (settled_under of) js) ≡ b → all_faults (fitted_if b w of js) ≡ [] → (b ≡ false) × EachReads of (fitted_if b w of js) ds
under_if true w of js ds h is e = let g : true ≡ false = sym is ∙ own_none w (list_any has_fault js) of js ds h (none_faulty js ds h) e in absurd cc
under_if false w of js ds h is e = (refl, each_fitted of js ds h e)

each_reads : (w : Bool) (of : OccType) (js : List Judged) (ds : List OpenExpr) → AllSound js ds → all_faults (each_under w of js) ≡ [] → Under w of js ds
each_reads w of js ds h e = under_if (list_any is_faulty_settled (map (settled_under of) js)) w of js ds h refl e

-- ---- the type of a table

pub reads_no_fault : (of : OccType) (kind : Kind) (d : OpenExpr) → ReadsAs of kind d → is_faulty kind ≡ false
reads_no_fault of k.Faulty d h = absurd h
reads_no_fault of (k.Untyped f) d h = absurd h
reads_no_fault of (k.Known x) d h = refl

kinds_none : (of : OccType) (xs : List Finding) (ds : List OpenExpr) → EachReads of xs ds → list_any is_faulty (kinds xs) ≡ false
kinds_none of [] ds h = refl
kinds_none of (x ∷ xs) [] h = absurd h
kinds_none of (x ∷ xs) (d ∷ ds) h = ap (λ (b : Bool). b || list_any is_faulty (kinds xs)) (reads_no_fault of x.kind d h.0) ∙ kinds_none of xs ds h.1

-- a type with as many dimensions in which nothing is unknown
abbrev IsLike : ℕ → OccType → Type 0
IsLike n of = (holds_unknown of ≡ false) × (depth of ≡ n)

-- one that is there is so
abbrev AreLike : ℕ → Option OccType → Type 0
AreLike n None = Unit {0}
AreLike n (Some of) = IsLike n of

merged_like : (n : ℕ) (b : Bool) (a c : OccType) → IsLike n a → AreLike n (if b then Some (filled a c) else None)
merged_like n true a c h = ((filled_cached a c).0 ∙ h.0, (filled_cached a c).1 ∙ h.1)
merged_like n false a c h = tt

next_like : (n : ℕ) (of : Option OccType) (kind : Kind) → AreLike n of → AreLike n (merged_next of kind)
next_like n None kind h = tt
next_like n (Some of) k.Faulty h = h
next_like n (Some of) (k.Untyped f) h = h
next_like n (Some of) (k.Known x) h = merged_like n (fits of x.of) of x.of h

all_like : (n : ℕ) (of : Option OccType) (ks : List Kind) → AreLike n of → AreLike n (merged_all of ks)
all_like n of [] h = h
all_like n of (kind ∷ ks) h = all_like n (merged_next of kind) ks (next_like n of kind h)

-- known, and of such a type
abbrev pub IsTable : ℕ → Kind → Type 0
IsTable n k.Faulty = ⊥
IsTable n (k.Untyped f) = ⊥
IsTable n (k.Known x) = (holds_unknown x.of ≡ false) × (depth x.of ≡ suc n)

large_or : (b : Bool) (n : ℕ) (count : Option ℕ) (of : OccType) → IsLike n of → (chosen b (fault_of code.T9) (record { faults = []; kind = known (t.Array count of) None })).faults ≡ [] → IsTable n (chosen b (fault_of code.T9) (record { faults = []; kind = known (t.Array count of) None })).kind
large_or true n count of h e = absurd cc
large_or false n count of h e = (unknown_array count of ∙ h.0, depth_array count of ∙ ap suc h.1)

many_or : (b : Bool) (n count : ℕ) (of : OccType) → IsLike n of → (chosen b (arrayed (Some count) of) (fault_of code.T9)).faults ≡ [] → IsTable n (chosen b (arrayed (Some count) of) (fault_of code.T9)).kind
many_or true n count of h e = large_or (is_too_large (t.Array (Some count) of)) n (Some count) of h e
many_or false n count of h e = absurd cc

data_or : (b : Bool) (n count : ℕ) (of : OccType) → IsLike n of → (chosen b (so_many count of) (fault_of code.T2)).faults ≡ [] → IsTable n (chosen b (so_many count of) (fault_of code.T2)).kind
data_or true n count of h e = many_or (nat_le count 4294967295) n count of h e
data_or false n count of h e = absurd cc

pub table_typed : (n count : ℕ) (of : Option OccType) → AreLike n of → (table_type count of).faults ≡ [] → IsTable n (table_type count of).kind
table_typed n count None h e = absurd cc
table_typed n count (Some of) h e = data_or (is_data of) n count of h e

pub read_table : (n : ℕ) (kind : Kind) (ds : List OpenExpr) → IsTable n kind → Trees n ds → Reads kind (dr.Table ds)
read_table n k.Faulty ds h g = h
read_table n (k.Untyped f) ds h g = h
read_table n (k.Known x) ds h g = (h.0, subst (λ (m : ℕ). HasTree m (dr.Table ds)) (sym h.1) (tree_table n ds g))

reads_depth : (of : OccType) (kind : Kind) (d : OpenExpr) → ReadsAs of kind d → HasTree (depth of) d
reads_depth of k.Faulty d h = absurd h
reads_depth of (k.Untyped f) d h = absurd h
reads_depth of (k.Known x) d h = subst (λ (m : ℕ). HasTree m d) (sym (fits_depth of x.of h.1)) h.2

pub reads_trees : (of : OccType) (xs : List Finding) (ds : List OpenExpr) → EachReads of xs ds → Trees (depth of) ds
reads_trees of [] [] h = tt
reads_trees of [] (d ∷ ds) h = absurd h
reads_trees of (x ∷ xs) [] h = absurd h
reads_trees of (x ∷ xs) (d ∷ ds) h = (reads_depth of x.kind d h.0, reads_trees of xs ds h.1)

first_like : (of : OccType) (kind : Kind) (ks : List Kind) (d : OpenExpr) → ReadsAs of kind d → IsLike (depth of) (first_type of (kind ∷ ks))
first_like of k.Faulty ks d h = absurd h
first_like of (k.Untyped f) ks d h = absurd h
first_like of (k.Known x) ks d h = (h.0, sym (fits_depth of x.of h.1))

abbrev whole_if : Bool → Finding → Finding
whole_if b x = if b then silent else x

if_whole : (b : Bool) (x : Finding) → b ≡ false → whole_if b x ≡ x
if_whole true x e = absurd cc
if_whole false x e = refl

joined_reads : (of : OccType) (x : Finding) (xs : List Finding) (d : OpenExpr) (ds : List OpenExpr) → EachReads of (x ∷ xs) (d ∷ ds) → (joined of (x ∷ xs)).faults ≡ [] → Reads (joined of (x ∷ xs)).kind (dr.Table (d ∷ ds))
joined_reads of x xs d ds h e =
    let ks = kinds (x ∷ xs) in
    let is : unless_faulty ks (items_type of ks) ≡ items_type of ks = if_whole (list_any is_faulty ks) (items_type of ks) (kinds_none of (x ∷ xs) (d ∷ ds) h) in
    let clean : (items_type of ks).faults ≡ [] = sym (ap (λ (y : Finding). y.faults) is) ∙ back_clean (all_faults (x ∷ xs)) (unless_faulty ks (items_type of ks)).faults e in
    subst (λ (y : Finding). Reads y.kind (dr.Table (d ∷ ds))) (sym is)
    (read_table (depth of) (items_type of ks).kind (d ∷ ds)
    (table_typed (depth of) (length ks) (merged_all (Some (first_type of ks)) ks) (all_like (depth of) (Some (first_type of ks)) ks (first_like of x.kind (kinds xs) d h.0)) clean)
    (reads_trees of (x ∷ xs) (d ∷ ds) h))

some_joined : (of : OccType) (xs : List Finding) (d : OpenExpr) (ds : List OpenExpr) → EachReads of xs (d ∷ ds) → (joined of xs).faults ≡ [] → Reads (joined of xs).kind (dr.Table (d ∷ ds))
some_joined of [] d ds h e = absurd h
some_joined of (x ∷ xs) d ds h e = joined_reads of x xs d ds h e

-- ---- a table

under_reads : (w : Bool) (of : OccType) (js : List Judged) (d : OpenExpr) (ds : List OpenExpr) → AllSound js (d ∷ ds) → (all_under w of js).faults ≡ [] → (list_any is_faulty_settled (map (settled_under of) js) ≡ false) × Reads (all_under w of js).kind (dr.Table (d ∷ ds))
under_reads w of js d ds h e =
    let xs = each_under w of js in
    let x = each_reads w of js (d ∷ ds) h (front_clean (all_faults xs) (unless_faulty (kinds xs) (items_type of (kinds xs))).faults e) in
    (x.0, some_joined of xs d ds x.1 e)

untyped_or : (b : Bool) (j : Judged) (d : OpenExpr) (x : Finding) → Sound j d → (x.faults ≡ [] → IsKnown x.kind) → (chosen b x j.alone).faults ≡ [] → IsKnown (chosen b x j.alone).kind
untyped_or true j d x h g e = g e
untyped_or false j d x h g e = read_known j.alone.kind d (h.by_itself e)

first_known : (js : List Judged) (ds : List OpenExpr) → AllSound js ds → (first_settled js).faults ≡ [] → IsKnown (first_settled js).kind
first_known [] ds h e = unknown_primitive p.Int
first_known (j ∷ js) [] h e = absurd h
first_known (j ∷ js) (d ∷ ds) h e = untyped_or j.is_untyped j d (first_settled js) h.0 (first_known js ds h.1) e

after_reads : (js : List Judged) (d : OpenExpr) (ds : List OpenExpr) (kind : Kind) → AllSound js (d ∷ ds) → IsKnown kind → (after_first js kind).faults ≡ [] → Reads (after_first js kind).kind (dr.Table (d ∷ ds))
after_reads js d ds k.Faulty h g e = absurd g
after_reads js d ds (k.Untyped f) h g e = absurd g
after_reads js d ds (k.Known x) h g e = (under_reads false x.of js d ds h e).1

pub alone_reads : (js : List Judged) (d : OpenExpr) (ds : List OpenExpr) → AllSound js (d ∷ ds) → (table_alone js).faults ≡ [] → Reads (table_alone js).kind (dr.Table (d ∷ ds))
alone_reads js d ds h e =
    let x = first_settled js in
    after_reads js d ds x.kind h (first_known js (d ∷ ds) h (front_clean x.faults (after_first js x.kind).faults e)) (back_clean x.faults (after_first js x.kind).faults e)

table_of_reads : (js : List Judged) (d : OpenExpr) (ds : List OpenExpr) (parts : Option (Option ℕ × OccType)) → AllSound js (d ∷ ds) → (table_of js parts).faults ≡ [] → ((table_of js parts).is_faulty ≡ false) × Reads (table_of js parts).kind (dr.Table (d ∷ ds))
table_of_reads js d ds None h e = let x = alone_reads js d ds h e in (no_fault (table_alone js).kind (dr.Table (d ∷ ds)) x, x)
table_of_reads js d ds (Some parts) h e = under_reads true parts.1 js d ds h e

table_step : (js : List Judged) (d : OpenExpr) (ds : List OpenExpr) → AllSound js (d ∷ ds) → Sound (term_step (Term-F.Table js)) (dr.Table (d ∷ ds))
table_step js d ds h =
    record {
      faultless = none_faulty js (d ∷ ds) h;
      by_itself = alone_reads js d ds h;
      settles = λ of. table_of_reads js d ds (as_array of) h;
      wanted = λ of. fitted_to_reads of (table_settled js of) (dr.Table (d ∷ ds)) (table_of_reads js d ds (as_array of) h);
      plain = λ e. reads_may (table_alone js).kind (dr.Table (d ∷ ds)) (alone_reads js d ds h e);
    }

pub table_sound : (xs : List Term) (d : OpenExpr) (ds : List OpenExpr) → AllSound (judged_all xs) (d ∷ ds) → Sound (judged (v.Table xs)) (dr.Table (d ∷ ds))
table_sound xs d ds h = subst (λ (j : Judged). Sound j (dr.Table (d ∷ ds))) (sym (judged_table xs)) (table_step (judged_all xs) d ds h)

-- ---- items, for what is reported of the whole

-- of each of which this type is wanted
pub each_read_as : (of : OccType) (js : List Judged) (ds : List OpenExpr) → AllSound js ds → all_faults (each_under true of js) ≡ [] → (list_any is_faulty (kinds (each_under true of js)) ≡ false) × Trees (depth of) ds
each_read_as of js ds h e =
    let x = each_reads true of js ds h e in
    (kinds_none of (each_under true of js) ds x.1, reads_trees of (each_under true of js) ds x.1)

-- of which no type is wanted
pub alone_none : (js : List Judged) (ds : List OpenExpr) → AllSound js ds → all_faults (map alone js) ≡ [] → list_any is_faulty (kinds (map alone js)) ≡ false
alone_none [] ds h e = refl
alone_none (j ∷ js) [] h e = absurd h
alone_none (j ∷ js) (d ∷ ds) h e =
    let rest = all_faults (map alone js) in
    ap (λ (b : Bool). b || list_any is_faulty (kinds (map alone js))) (no_fault j.alone.kind d (h.0.by_itself (front_clean j.alone.faults rest e)))
    ∙ alone_none js ds h.1 (back_clean j.alone.faults rest e)

-- where none of them is faulty, it is reported of the whole
pub with_clean : (xs : List Finding) (whole : Finding) → list_any is_faulty (kinds xs) ≡ false → (with_items xs whole).faults ≡ [] → (unless_faulty (kinds xs) whole ≡ whole) × (whole.faults ≡ [])
with_clean xs whole is e =
    let same : unless_faulty (kinds xs) whole ≡ whole = if_whole (list_any is_faulty (kinds xs)) whole is in
    (same, sym (ap (λ (y : Finding). y.faults) same) ∙ back_clean (all_faults xs) (unless_faulty (kinds xs) whole).faults e)
