-- Specifications of one line without faults: their trees are there, and it is known what their names stand for.
use Rattle.std.proofs.Common.{◌≡◌, ◌∙◌, ◌++◌, ◌||◌, ◌&&◌, ℕ, Bool, true, false, List, [], ◌∷◌, Option, Some, None, if◌then◌else◌, refl, ap, sym, subst, arith}
use Rattle.occ_typing_specifications.specs.Abbreviating.{abbreviation, agreed, element_name, element_reported, element_with_type, named, of_type}
use Rattle.occ_typing_specifications.specs.Recasting as recasting
use Rattle.occ_typing_specifications.specs.Recasting.{of_found, recast, recast_as, recast_element, recast_value, source, source_tree, reported}
use Rattle.occ_base.specs.Reporting.{nameless}
use Rattle.occ_base.specs.declared.code.Code.TheVariants as code
use Rattle.occ_base.specs.declared.fault.Fault.{Fault}
use Rattle.occ_expr_operations.specs.Parts.{after}
use Rattle.occ_expr_operations.specs.Views.{element_view, expr_view, type_form_view}
use Rattle.occ_expr_operations.specs.declared.written.Opening.TheVariants as opening
use Rattle.occ_forms_expressions.specs.declared.tree.Element.{Element}
use Rattle.occ_forms_expressions.specs.declared.tree.Expr.{Expr}
use Rattle.occ_forms_expressions.specs.declared.tree.TypeForm.{TypeForm}
use Rattle.occ_scope.specs.Lookup.{good}
use Rattle.occ_scope.specs.Visible.{visible}
use Rattle.occ_scope.specs.declared.meaning.Meaning.{Meaning}
use Rattle.occ_scope.specs.declared.meaning.Meaning.TheVariants as m
use Rattle.occ_scope.specs.declared.scope.Scope.{Scope}
use Rattle.occ_typing_operands.specs.Parts.{mismatched}
use Rattle.occ_typing_operands.specs.Settling.{Finding, fault_of, known}
use Rattle.occ_typing_operands.specs.declared.kind.Kind.{Kind}
use Rattle.occ_typing_operands.specs.declared.kind.Kind.TheVariants as k
use Rattle.occ_typing_operands.specs.declared.kind.Known.{Known}
use Rattle.occ_typing_rules.specs.Dimensions.{holds_plain_record, innermost, sized, sized_array}
use Rattle.occ_typing_rules.specs.Recasting.{Recast, by_share, bytes_shared, either, elements_shared, reshaped, reshaped_alike, reshaped_known, retyped, retyped_data, retyped_known, unfit}
use Rattle.occ_typing_rules.specs.Recasting as recasts
use Rattle.occ_typing_rules.specs.declared.sharing.Share.{Share}
use Rattle.occ_typing_rules.specs.declared.sharing.Share.TheVariants as share
use Rattle.occ_typing_rules.proofs.Folds.{sized_of_array, sized_of_channel, sized_of_named, sized_of_primitive, sized_of_record, sized_of_timer, sized_of_unknown}
use Rattle.occ_typing_tables.specs.Merging.{filled}
use Rattle.occ_typing_tables.specs.Terms.{Judged, and_then, judged}
use Rattle.occ_typing_rules.specs.Abbreviating.{abbreviated, as_type, for_no_data, holding}
use Rattle.occ_typing_rules.specs.Listing.{repetitions}
use Rattle.occ_typing_rules.specs.declared.open_expr.OpenExpr.{OpenExpr}
use Rattle.occ_typing_rules.specs.Placing.{tree_of}
use Rattle.occ_typing_specifications.specs.Declaring.{declaration, declared_type, variables}
use Rattle.occ_typing_specifications.specs.Defining.{data_form_type, data_of, data_type, defined, with_name}
use Rattle.occ_typing_specifications.specs.Entering.{Declared, unless_reported}
use Rattle.occ_typing_specifications.specs.Fields.{each_of, field_type, fields, line_type}
use Rattle.occ_typing_specifications.specs.Recording.{recorded}
use Rattle.occ_typing_specifications.specs.Valuing.{kind_unless_reported, value, value_alone, value_as, value_name, value_reported, value_tree, value_with_type}
use Rattle.occ_expr.specs.Targets.{root, target_of}
use Rattle.occ_types.specs.Fits.{fits, is_data}
use Rattle.occ_types.specs.Unknown.{any_of, fields_unknown, holds_unknown}
use Rattle.occ_types.specs.declared.types.Field.{Field}
use Rattle.occ_types.specs.declared.types.OccType.{OccType}
use Rattle.occ_types.specs.declared.types.OccType.TheVariants as t
use Rattle.occ_types.specs.declared.types.Packing.{Packing}
use Rattle.occ_types.proofs.Unknowns.{unknown_array, unknown_named, unknown_record}
use Rattle.occ_forms.specs.declared.specification_tree.Recast.{Recast as Form}
use Rattle.occ_forms.specs.declared.specification_tree.Recast.TheVariants as form
use Rattle.occ_typing.specs.Known.{AreKnownEntries, IsKnownMeaning, IsKnownScope, IsKnownType}
use Rattle.occ_typing.specs.WholeTrees.{IsWholeElement, IsWholeExpr}
use Rattle.occ_theorems.proofs.whole.Clean.{Has, back_clean, front_clean}
use Rattle.occ_theorems.proofs.whole.Elements.{element_known}
use Rattle.occ_theorems.proofs.whole.Expressions.{type_sound}
use Rattle.occ_theorems.proofs.whole.Filled.{filled_cached}
use Rattle.occ_theorems.proofs.whole.Names.{IsTyped}
use Rattle.occ_theorems.proofs.whole.Reading.{HasTree, IsKnown, Reads, ReadsAs, chosen, read_known}
use Rattle.occ_theorems.proofs.whole.Sound.{Sound}
use Rattle.occ_theorems.proofs.whole.Statements.{Stands, root_stands, said_sound, target_clean, target_sound}
use Rattle.occ_theorems.proofs.whole.Types.{every_type, fits_depth}
use Rattle.occ_theorems.proofs.whole.Written.{TypeSound, limited_typed}

-- a line without faults: what it is, and what comes into scope by it
pub record Specified (x : Declared) (IsWhole : Type 0) : Type 0 where
  pub adds : AreKnownEntries x.adds
  pub form : IsWhole

pub unreported : {X : Type 0} (fs : List Fault) (x : Option X) → fs ≡ [] → unless_reported fs x ≡ x
unreported [] x e = refl
unreported (f ∷ fs) x e = absurd cc

pub unreported_kind : (fs : List Fault) (kind : Kind) → fs ≡ [] → kind_unless_reported fs kind ≡ kind
unreported_kind [] kind e = refl
unreported_kind (f ∷ fs) kind e = absurd cc

-- ---- declarations

variables_known : (of : Option OccType) (names : List (List ℕ)) → IsTyped of → AreKnownEntries (variables of names)
variables_known of [] h = tt
variables_known None (name ∷ names) h = absurd h
variables_known (Some of) (name ∷ names) h = (h, variables_known (Some of) names h)

pub declaration_known : (s : Scope) (of : TypeForm) (first : List ℕ) (more : List (List ℕ)) → IsKnownScope s → (declaration s of first more).faults ≡ [] → AreKnownEntries (declaration s of first more).adds
unfolding declaration declared_type
declaration_known s of first more known e =
    let x = type_form_view of opening.Refused s in
    let rest = repetitions (first ∷ []) more in
    subst (λ (o : Option OccType). AreKnownEntries (variables o (first ∷ more))) (sym (unreported (x.faults ++ rest) x.found e))
    (variables_known x.found (first ∷ more) (type_sound of opening.Refused s known (front_clean x.faults rest e)))

-- ---- values

holding_if : (b : Bool) (x : Known) (d : OpenExpr) → Reads (k.Known x) d → (chosen b (record { faults = []; kind = k.Known x }) (fault_of code.T2)).faults ≡ [] → Reads (chosen b (record { faults = []; kind = k.Known x }) (fault_of code.T2)).kind d
holding_if true x d h e = h
holding_if false x d h e = absurd cc

holding_reads : (kind : Kind) (d : OpenExpr) → Reads kind d → (holding kind).faults ≡ [] → Reads (holding kind).kind d
holding_reads k.Faulty d h e = h
holding_reads (k.Untyped f) d h e = h
holding_reads (k.Known x) d h e = holding_if (is_data x.of) x d h e

abbreviated_reads : (j : Judged) (d : OpenExpr) → Sound j d → (abbreviated j).faults ≡ [] → Reads (abbreviated j).kind d
abbreviated_reads j d h e = holding_reads j.alone.kind d (h.by_itself (front_clean j.alone.faults (holding j.alone.kind).faults e)) (back_clean j.alone.faults (holding j.alone.kind).faults e)

alone_reads : (s : Scope) (e : Expr) → IsKnownScope s → (value_alone s e).faults ≡ [] → Reads (value_alone s e).kind ((expr_view e).open_expr s)
unfolding value_alone
alone_reads s e known c =
    let x = (expr_view e).said s in
    let y = abbreviated (judged x.term) in
    abbreviated_reads (judged x.term) ((expr_view e).open_expr s) (said_sound s e known (front_clean x.faults y.faults c)) (back_clean x.faults y.faults c)

typed_reads : (of : OccType) (kind : Kind) (d : OpenExpr) → IsKnownType of → ReadsAs of kind d → Reads (as_type of kind).kind d
typed_reads of k.Faulty d h g = g
typed_reads of (k.Untyped f) d h g = g
typed_reads of (k.Known x) d h g =
    ((filled_cached of x.of).0 ∙ h, subst (λ (n : ℕ). HasTree n d) (sym ((filled_cached of x.of).1 ∙ fits_depth of x.of g.1)) g.2)

misplaced_never : (kind : Kind) → IsKnown kind → (mismatched kind).faults ≡ [] → ⊥
misplaced_never k.Faulty h e = h
misplaced_never (k.Untyped f) h e = h
misplaced_never (k.Known x) h e = absurd cc

no_data_never : (j : Judged) (d : OpenExpr) → Sound j d → (for_no_data j).faults ≡ [] → ⊥
no_data_never j d h e =
    misplaced_never j.alone.kind (read_known j.alone.kind d (h.by_itself (front_clean j.alone.faults (mismatched j.alone.kind).faults e))) (back_clean j.alone.faults (mismatched j.alone.kind).faults e)

as_if : (b : Bool) (of : OccType) (j : Judged) (d : OpenExpr) → IsKnownType of → Sound j d → (chosen b (and_then (j.under of) (as_type of)) (for_no_data j)).faults ≡ [] → Reads (chosen b (and_then (j.under of) (as_type of)) (for_no_data j)).kind d
as_if true of j d h g e = typed_reads of (j.under of).kind d h (g.wanted of (front_clean (j.under of).faults (as_type of (j.under of).kind).faults e))
as_if false of j d h g e = absurd (no_data_never j d g e)

value_as_reads : (to : Option OccType) (j : Judged) (d : OpenExpr) → IsTyped to → Sound j d → (value_as to j).faults ≡ [] → Reads (value_as to j).kind d
unfolding value_as
value_as_reads None j d h g e = absurd h
value_as_reads (Some of) j d h g e = as_if (is_data of) of j d h g e

with_type_reads : (s : Scope) (of : TypeForm) (e : Expr) → IsKnownScope s → (value_with_type s of e).faults ≡ [] → Reads (value_with_type s of e).kind ((expr_view e).open_expr s)
unfolding value_with_type
with_type_reads s of e known c =
    let to = type_form_view of opening.Allowed s in
    let x = (expr_view e).said s in
    let y = value_as to.found (judged x.term) in
    let own = front_clean (to.faults ++ x.faults) y.faults c in
    value_as_reads to.found (judged x.term) ((expr_view e).open_expr s) (type_sound of opening.Allowed s known (front_clean to.faults x.faults own)) (said_sound s e known (back_clean to.faults x.faults own)) (back_clean (to.faults ++ x.faults) y.faults c)

reported_reads : (s : Scope) (of : Option TypeForm) (e : Expr) → IsKnownScope s → (value_reported s of e).faults ≡ [] → Reads (value_reported s of e).kind ((expr_view e).open_expr s)
reported_reads s None e known c = alone_reads s e known c
reported_reads s (Some of) e known c = with_type_reads s of e known c

pub read_tree : (kind : Kind) (d : OpenExpr) → Reads kind d → Has IsWholeExpr (tree_of kind d)
read_tree k.Faulty d h = h
read_tree (k.Untyped f) d h = h
read_tree (k.Known x) d h = h.1 x.of (omega arith) h.0

value_known : (kind : Kind) (name : List ℕ) → IsKnown kind → IsKnownMeaning (value_name kind name)
value_known k.Faulty name h = h
value_known (k.Untyped f) name h = h
value_known (k.Known x) name h = h

named_value : (fs : List Fault) (kind : Kind) (name : List ℕ) → fs ≡ [] → IsKnown kind → IsKnownMeaning (value_name (kind_unless_reported fs kind) name)
named_value fs kind name e h = subst (λ (y : Kind). IsKnownMeaning (value_name y name)) (sym (unreported_kind fs kind e)) (value_known kind name h)

pub value_known_line : (s : Scope) (of : Option TypeForm) (name : List ℕ) (e : Expr) → IsKnownScope s → (value s of name e).faults ≡ [] → Specified (value s of name e) (Has IsWholeExpr (value_tree s of e))
unfolding value value_tree
value_known_line s of name e known c =
    let x = value_reported s of e in
    let r = reported_reads s of e known c in
    record { adds = (named_value x.faults x.kind name c (read_known x.kind ((expr_view e).open_expr s) r), tt); form = read_tree x.kind ((expr_view e).open_expr s) r }

-- ---- data types

data_if : (b : Bool) (of : OccType) → IsKnownType of → (if b then good of else record { faults = nameless code.T2 ∷ []; found = None }).faults ≡ [] → IsTyped (if b then good of else record { faults = nameless code.T2 ∷ []; found = None }).found
data_if true of h e = h
data_if false of h e = absurd cc

pub data_sound : (o : Option OccType) → IsTyped o → (data_of o).faults ≡ [] → IsTyped (data_of o).found
unfolding data_of
data_sound None h e = absurd h
data_sound (Some of) h e = data_if (is_data of) of h e

pub data_form_known : (s : Scope) (form : TypeForm) → IsKnownScope s → TypeSound (data_form_type s form)
unfolding data_form_type
data_form_known s form known e =
    let x = type_form_view form opening.Refused s in
    data_sound x.found (type_sound form opening.Refused s known (front_clean x.faults (data_of x.found).faults e)) (back_clean x.faults (data_of x.found).faults e)

pub with_name_known : (name : List ℕ) (o : Option OccType) → IsTyped o → (with_name name o).faults ≡ [] → IsTyped (with_name name o).found
unfolding with_name
with_name_known name None h e = absurd h
with_name_known name (Some of) h e = limited_typed (Some (t.Named name of)) (unknown_named name of ∙ h) e

type_known : (o : Option OccType) → IsTyped o → IsKnownMeaning (m.Type o)
type_known None h = h
type_known (Some of) h = h

pub data_type_known : (s : Scope) (name : List ℕ) (form : TypeForm) → IsKnownScope s → (data_type s name form).faults ≡ [] → AreKnownEntries (data_type s name form).adds
unfolding data_type defined
data_type_known s name form known e =
    let x = data_form_type s form in
    let y = with_name name x.found in (
      subst (λ (o : Option OccType). IsKnownMeaning (m.Type o)) (sym (unreported (x.faults ++ y.faults) y.found e))
          (type_known y.found (with_name_known name x.found (data_form_known s form known (front_clean x.faults y.faults e)) (back_clean x.faults y.faults e))),
      tt,
    )

-- the fields of a line
fields_known : (of : OccType) (names : List (List ℕ)) → IsKnownType of → any_of (fields_unknown (each_of of names)) ≡ false
fields_known of [] h = refl
fields_known of (name ∷ names) h = ap (λ (b : Bool). b || any_of (fields_unknown (each_of of names))) h ∙ fields_known of names h

field_known : (o : Option OccType) → IsTyped o → IsKnownType (field_type o)
field_known None h = absurd h
field_known (Some of) h = h

pub field_line_known : (s : Scope) (before : List (List ℕ)) (form : TypeForm) (names : List (List ℕ)) → IsKnownScope s → (fields s before form names).faults ≡ [] → any_of (fields_unknown (fields s before form names).fields) ≡ false
unfolding fields line_type
field_line_known s before form names known e =
    let x = data_form_type s form in
    let rest = repetitions before names in
    subst (λ (o : Option OccType). any_of (fields_unknown (each_of (field_type o) names)) ≡ false) (sym (unreported (x.faults ++ rest) x.found e))
    (fields_known (field_type x.found) names (field_known x.found (data_form_known s form known (front_clean x.faults rest e))))

pub recorded_known : (name : List ℕ) (packing : Packing) (fs : List Field) → any_of (fields_unknown fs) ≡ false → (recorded name packing fs).faults ≡ [] → IsKnownMeaning (recorded name packing fs).meaning
unfolding recorded
recorded_known name packing fs h e = type_known (with_name name (Some (t.Record packing fs))).found (with_name_known name (Some (t.Record packing fs)) (unknown_record packing fs ∙ h) e)

-- ---- abbreviations

name_known : (kind : Kind) (found : Option Meaning) (s : Scope) (name : List ℕ) (h : Stands s name) → found ≡ visible s name → IsKnown kind → IsKnownMeaning (element_name kind found)
name_known k.Faulty found s name h is g = absurd g
name_known (k.Untyped f) found s name h is g = absurd g
name_known (k.Known x) found s name h is g = subst (λ (o : Option Meaning). IsKnownMeaning (element_name (k.Known x) o)) (sym (is ∙ h.is)) g

named_known : (s : Scope) (name : List ℕ) (el : Element) (x : Finding) → x.faults ≡ [] → IsKnown x.kind → Stands s (root el) → AreKnownEntries (named s name el x).adds
named_known s name el x e h g =
    (subst (λ (y : Kind). IsKnownMeaning (element_name y (visible s (root el)))) (sym (unreported_kind x.faults x.kind e)) (name_known x.kind (visible s (root el)) s (root el) g refl h), tt)

agreed_if : (b : Bool) (to of : OccType) → IsKnownType to → (agreed (if b then Some (filled to of) else None)).faults ≡ [] → IsKnown (agreed (if b then Some (filled to of) else None)).kind
agreed_if true to of h e = (filled_cached to of).0 ∙ h
agreed_if false to of h e = absurd cc

of_type_known : (to : Option OccType) (kind : Kind) → IsTyped to → IsKnown kind → (of_type to kind).faults ≡ [] → IsKnown (of_type to kind).kind
of_type_known None kind h g e = absurd h
of_type_known (Some to) k.Faulty h g e = absurd g
of_type_known (Some to) (k.Untyped f) h g e = absurd g
of_type_known (Some to) (k.Known x) h g e = agreed_if (fits to x.of) to x.of h e

-- of an element that is reported so, without faults: it is known, and it has its whole tree
record Taken (s : Scope) (el : Element) (kind : Kind) : Type 0 where
  known : IsKnown kind
  stands : Stands s (root el)
  tree : Has IsWholeElement ((element_view el).tree s)

target_taken : (s : Scope) (el : Element) → IsKnownScope s → (target_of s el).faults ≡ [] → Taken s el (target_of s el).kind
target_taken s el known e =
    let x = element_known (target_of s el).kind ((element_view el).tree s) (target_sound s el known e) in
    record { known = x.0; stands = root_stands el s known (target_clean s el e); tree = x.1 }

with_type_taken : (s : Scope) (of : TypeForm) (el : Element) → IsKnownScope s → (element_with_type s of el).faults ≡ [] → Taken s el (element_with_type s of el).kind
unfolding element_with_type
with_type_taken s of el known e =
    let to = type_form_view of opening.Allowed s in
    let x = target_of s el in
    let y = of_type to.found x.kind in
    let own = front_clean (to.faults ++ x.faults) y.faults e in
    let z = target_taken s el known (back_clean to.faults x.faults own) in
    record { known = of_type_known to.found x.kind (type_sound of opening.Allowed s known (front_clean to.faults x.faults own)) z.known (back_clean (to.faults ++ x.faults) y.faults e); stands = z.stands; tree = z.tree }

element_taken : (s : Scope) (of : Option TypeForm) (el : Element) → IsKnownScope s → (element_reported s of el).faults ≡ [] → Taken s el (element_reported s of el).kind
element_taken s None el known e = target_taken s el known e
element_taken s (Some of) el known e = with_type_taken s of el known e

pub abbreviation_known : (s : Scope) (of : Option TypeForm) (name : List ℕ) (el : Element) → IsKnownScope s → (abbreviation s of name el).faults ≡ [] → Specified (abbreviation s of name el) (Has IsWholeElement ((element_view el).tree s))
unfolding abbreviation
abbreviation_known s of name el known e =
    let x = element_taken s of el known e in
    record { adds = named_known s name el (element_reported s of el) e x.known x.stands; form = x.tree }

-- ---- RETYPES and RESHAPES

abbrev SizedKnown : OccType → Type 0
SizedKnown a = (n : ℕ) → holds_unknown (sized n a) ≡ holds_unknown a

array_sized : (o : Option ℕ) (n : ℕ) (inner : OccType) → SizedKnown inner → holds_unknown (sized_array o n inner (sized n inner)) ≡ holds_unknown inner
array_sized None n inner h = unknown_array (Some n) inner
array_sized (Some i) n inner h = unknown_array (Some i) (sized n inner) ∙ h n

sized_known : (a : OccType) → SizedKnown a
sized_known = every_type {P = SizedKnown} record {
  primitive = λ x n. ap holds_unknown (sized_of_primitive n x);
  array = λ o inner below n. ap holds_unknown (sized_of_array n o inner) ∙ array_sized o n inner below ∙ sym (unknown_array o inner);
  record_type = λ packing fs n. ap holds_unknown (sized_of_record n packing fs);
  named = λ name inner below n. ap holds_unknown (sized_of_named n name inner);
  channel = λ c n. ap holds_unknown (sized_of_channel n c);
  timer = λ n. ap holds_unknown (sized_of_timer n);
  unknown = λ n. ap holds_unknown (sized_of_unknown n);
}

share_known : (to : OccType) (x : Share) → IsKnownType to → (by_share to x).faults ≡ [] → IsTyped (by_share to x).found
share_known to share.Even h e = h
share_known to (share.Sized n) h e = sized_known to n ∙ h
share_known to share.Uneven h e = absurd cc

abbrev recast_if : Bool → Recast → Recast → Recast
recast_if b x y = if b then x else y

abbrev RecastKnown : Recast → Type 0
RecastKnown x = x.faults ≡ [] → IsTyped x.found

either_known : (b : Bool) (x y : Recast) → RecastKnown x → RecastKnown y → RecastKnown (recast_if b x y)
either_known true x y h g = h
either_known false x y h g = g

unfit_known : RecastKnown unfit
unfit_known e = absurd cc

retyped_sound : (to from : OccType) → IsKnownType to → RecastKnown (retyped to from)
retyped_sound to from h =
    either_known (either holds_unknown to from) (recasts.good to) (retyped_known to from) (λ e. h)
    (either_known (is_data to && is_data from) (retyped_data to from) unfit
    (either_known (either holds_plain_record to from) unfit (by_share to (bytes_shared to from)) unfit_known (share_known to (bytes_shared to from) h)) unfit_known)

reshaped_sound : (to from : OccType) → IsKnownType to → RecastKnown (reshaped to from)
reshaped_sound to from h =
    either_known (either holds_unknown to from) (recasts.good to) (reshaped_known to from) (λ e. h)
    (either_known (either holds_plain_record to from) unfit (reshaped_alike to from) unfit_known
    (either_known (fits (innermost to) (innermost from)) (by_share to (elements_shared to from)) unfit (share_known to (elements_shared to from) h) unfit_known))

recast_sound : (w : Form) (to from : OccType) → IsKnownType to → RecastKnown (recast w to from)
recast_sound form.Retypes to from h = retyped_sound to from h
recast_sound form.Reshapes to from h = reshaped_sound to from h

found_known : (o : Option OccType) → IsTyped o → IsKnown (of_found o)
found_known None h = h
found_known (Some of) h = h

recast_known : (w : Form) (to : Option OccType) (kind : Kind) → IsTyped to → IsKnown kind → (recast_as w to kind).faults ≡ [] → IsKnown (recast_as w to kind).kind
recast_known w None kind h g e = absurd h
recast_known w (Some to) k.Faulty h g e = absurd g
recast_known w (Some to) (k.Untyped f) h g e = absurd g
recast_known w (Some to) (k.Known x) h g e = found_known (recast w to x.of).found (recast_sound w to x.of h e)

pub recast_element_known : (s : Scope) (w : Form) (of : TypeForm) (name : List ℕ) (el : Element) → IsKnownScope s → (recast_element s w of name el).faults ≡ [] → Specified (recast_element s w of name el) (Has IsWholeElement ((element_view el).tree s))
unfolding recast_element recasting.element_reported
recast_element_known s w of name el known e =
    let to = type_form_view of opening.Allowed s in
    let x = target_of s el in
    let y = recast_as w to.found x.kind in
    let own = front_clean (to.faults ++ x.faults) y.faults e in
    let z = target_taken s el known (back_clean to.faults x.faults own) in
    let r = recast_known w to.found x.kind (type_sound of opening.Allowed s known (front_clean to.faults x.faults own)) z.known (back_clean (to.faults ++ x.faults) y.faults e) in
    record { adds = named_known s name el (after (to.faults ++ x.faults) y) e r z.stands; form = z.tree }

source_reads : (s : Scope) (to : Option OccType) (e : Expr) → IsTyped to → IsKnownScope s → (source s to e).faults ≡ [] → Reads (source s to e).kind ((expr_view e).open_expr s)
unfolding source
source_reads s None e h known c = absurd h
source_reads s (Some to) e h known c =
    let x = (expr_view e).said s in
    let y = abbreviated (judged x.term) in
    abbreviated_reads (judged x.term) ((expr_view e).open_expr s) (said_sound s e known (front_clean x.faults y.faults c)) (back_clean x.faults y.faults c)

pub recast_value_known : (s : Scope) (w : Form) (of : TypeForm) (name : List ℕ) (e : Expr) → IsKnownScope s → (recast_value s w of name e).faults ≡ [] → Specified (recast_value s w of name e) (Has IsWholeExpr (source_tree s e))
unfolding recast_value recasting.value_reported source source_tree
recast_value_known s w of name e known c =
    let to = type_form_view of opening.Allowed s in
    let x = source s to.found e in
    let y = recast_as w to.found x.kind in
    let own = front_clean (to.faults ++ x.faults) y.faults c in
    let h = type_sound of opening.Allowed s known (front_clean to.faults x.faults own) in
    let r = source_reads s to.found e h known (back_clean to.faults x.faults own) in
    let g = recast_known w to.found x.kind h (read_known x.kind ((expr_view e).open_expr s) r) (back_clean (to.faults ++ x.faults) y.faults c) in
    record { adds = (named_value ((to.faults ++ x.faults) ++ y.faults) y.kind name c g, tt); form = read_tree x.kind ((expr_view e).open_expr s) r }
