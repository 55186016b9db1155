-- Protocols without faults: it is known what they carry.
use Rattle.std.proofs.Common.{◌≡◌, ◌∙◌, ◌++◌, ◌||◌, ℕ, Bool, true, false, not, List, [], ◌∷◌, Option, Some, None, if◌then◌else◌, refl, ap, sym, subst}
use Rattle.std.specs.List.{list_any}
use Rattle.occ_base.specs.Reporting.{nameless}
use Rattle.occ_base.specs.declared.code.Code.TheVariants as code
use Rattle.occ_base.specs.declared.fault.Fault.{Fault}
use Rattle.occ_expr_operations.specs.Views.{builtin_view, dimension_view, dimension_views, each, element_view, expr_views, name_alone}
use Rattle.occ_expr_operations.specs.Written.{Written, array_over, array_over_more, count_type}
use Rattle.occ_expr_operations.specs.declared.written.Opening.TheVariants as opening
use Rattle.occ_expr_operations.proofs.Views as views
use Rattle.occ_expr_operations.proofs.Layers as layers
use Rattle.occ_forms_expressions.specs.declared.tree.Bounds.{Bounds}
use Rattle.occ_forms_expressions.specs.declared.tree.Bounds.TheOpen.{Element-F}
use Rattle.occ_forms_expressions.specs.declared.tree.DataForm.{DataForm}
use Rattle.occ_forms_expressions.specs.declared.tree.Element.{Element}
use Rattle.occ_forms_expressions.specs.declared.tree.Element.TheVariants as ev
use Rattle.occ_forms_expressions.specs.declared.tree.Expr.{Expr}
use Rattle.occ_forms.specs.declared.tree.Detail.{Detail}
use Rattle.occ_forms.specs.declared.tree.Detail.TheVariants as detail
use Rattle.occ_base.specs.Lists.{joined, one_part}
use Rattle.occ_scope.specs.Lookup.{Found, data_type, good}
use Rattle.occ_scope.specs.Visible.{visible}
use Rattle.occ_scope.specs.declared.scope.Scope.{Scope}
use Rattle.occ_scope.specs.Nearest.{nearest}
use Rattle.occ_forms.specs.declared.specification_tree.ItemForm.{ItemForm}
use Rattle.occ_forms.specs.declared.specification_tree.ItemForm.TheVariants as item
use Rattle.occ_typing_tables.specs.Extents as extents
use Rattle.occ_tree.specs.Sorts.{is_element_part, is_name, is_name_step}
use Rattle.occ_typing_rules.specs.Listing.{repetition}
use Rattle.occ_typing_specifications.specs.Items.{Items, counted_if, counted_item, in_front, item_of, items_of, row_of, value_if, value_item, written}
use Rattle.occ_typing_specifications.specs.Protocols.{defined, is_too_large, protocol, protocol_name, protocol_reported, tagged_protocol, whole}
use Rattle.occ_typing_specifications.specs.Tags.{data_only, detail_item, detail_items, named, tag_items, tag_line}
use Rattle.occ_typing_specifications.specs.Defining.{data_of}
use Rattle.occ_types.specs.Unknown.{any_of, item_unknown, items_unknown, protocol_unknown, tags_unknown}
use Rattle.occ_types.specs.declared.types.Item.{Item}
use Rattle.occ_types.specs.declared.types.OccType.{OccType}
use Rattle.occ_types.specs.declared.types.OccType.TheVariants as t
use Rattle.occ_types.specs.declared.types.Protocol.{Protocol}
use Rattle.occ_types.specs.declared.types.Protocol.TheVariants as p
use Rattle.occ_types.specs.declared.types.Tag.{Tag}
use Rattle.occ_types.specs.declared.value.Primitive.{Primitive}
use Rattle.occ_types.proofs.Unknowns.{unknown_counted, unknown_defined, unknown_sequence, unknown_value, unknown_variant}
use Rattle.occ_typing.specs.Known.{AreKnownEntries, IsKnownMeaning, IsKnownScope, IsKnownType}
use Rattle.occ_theorems.proofs.whole.Clean.{IsThere, back_clean, front_clean}
use Rattle.occ_theorems.proofs.whole.Expressions.{each_element, all_spans, builtin_sound, dimension_sound}
use Rattle.occ_theorems.proofs.whole.Heads.{every_dimension_sound}
use Rattle.occ_theorems.proofs.whole.Names.{IsTyped, type_found, visible_known}
use Rattle.occ_theorems.proofs.whole.Specifications.{data_sound, unreported}
use Rattle.occ_theorems.proofs.whole.Types.{no_either}
use Rattle.occ_theorems.proofs.whole.Written.{TypeSound, array_more_sound, array_sound, count_there, data_form_sound}

-- ---- items

abbrev IsItem : Option Item → Type 0
IsItem None = ⊥
IsItem (Some x) = item_unknown x ≡ false

abbrev ItemSound : Found Item → Type 0
ItemSound x = x.faults ≡ [] → IsItem x.found

abbrev AreItems : Option (List Item) → Type 0
AreItems None = ⊥
AreItems (Some xs) = any_of (items_unknown xs) ≡ false

written_sound : (s : Scope) (of : DataForm) → IsKnownScope s → TypeSound (written s of)
written_sound s of known = data_form_sound s (each opening.Refused s (dimension_views of.dimensions)) of.base known (all_spans opening.Refused s of.dimensions known (every_dimension_sound of.dimensions))

value_known : (o : Option OccType) → IsTyped o → IsItem (value_if o)
value_known None h = h
value_known (Some of) h = unknown_value of ∙ h

value_sound : (x : Written) → TypeSound x → ItemSound (value_item x)
value_sound x h e = value_known x.found (h e)

row_written : Bool → OccType → Written
row_written b of = if b then record { faults = nameless code.T9 ∷ []; found = None } else good of

row_if : (b : Bool) (of : OccType) → IsKnownType of → (row_written b of).faults ≡ [] → IsTyped (row_written b of).found
unfolding row_written
row_if true of h e = absurd cc
row_if false of h e = h

row_known : (o : Option OccType) → IsTyped o → (row_of o).faults ≡ [] → IsTyped (row_of o).found
unfolding row_written
row_known None h e = absurd h
row_known (Some of) h e = row_if (extents.is_too_large (t.Array None of)) of h e

counted_known : (n : Option Primitive) (o : Option OccType) → IsThere n → IsTyped o → IsItem (counted_if n o)
counted_known None o h g = h
counted_known (Some n) None h g = g
counted_known (Some n) (Some of) h g = unknown_counted n of ∙ g

counted_sound : (s : Scope) (count of : DataForm) → IsKnownScope s → ItemSound (counted_item s count of)
unfolding counted_item
counted_sound s count of known e =
    let x = written s count in
    let n = count_type x.found in
    let y = written s of in
    let z = row_of y.found in
    let following = back_clean x.faults (n.faults ++ (y.faults ++ z.faults)) e in
    let last = back_clean n.faults (y.faults ++ z.faults) following in
    counted_known n.found z.found
    (count_there x.found (written_sound s count known (front_clean x.faults (n.faults ++ (y.faults ++ z.faults)) e)) (front_clean n.faults (y.faults ++ z.faults) following))
    (row_known y.found (written_sound s of known (front_clean y.faults z.faults last)) (back_clean y.faults z.faults last))

item_sound : (s : Scope) (x : ItemForm) → IsKnownScope s → ItemSound (item_of s x)
item_sound s (item.Plain of) known = value_sound (written s of) (written_sound s of known)
item_sound s (item.Counted count of) known = counted_sound s count of known

joined_known : (x : Option Item) (xs : Option (List Item)) → IsItem x → AreItems xs → AreItems (joined (one_part x) xs)
joined_known None xs h g = h
joined_known (Some x) None h g = g
joined_known (Some x) (Some xs) h g = ap (λ (b : Bool). b || any_of (items_unknown xs)) h ∙ g

front_known : (x : Found Item) (xs : Items) → ItemSound x → (xs.faults ≡ [] → AreItems xs.items) → (in_front x xs).faults ≡ [] → AreItems (in_front x xs).items
front_known x xs h g e = joined_known x.found xs.items (h (front_clean x.faults xs.faults e)) (g (back_clean x.faults xs.faults e))

items_known : (s : Scope) (xs : List ItemForm) → IsKnownScope s → (items_of s xs).faults ≡ [] → AreItems (items_of s xs).items
items_known s [] known e = refl
items_known s (x ∷ xs) known e = front_known (item_of s x) (items_of s xs) (item_sound s x known) (items_known s xs known) e

-- ---- protocols of one line

abbrev IsProtocol : Option Protocol → Type 0
IsProtocol None = ⊥
IsProtocol (Some c) = protocol_unknown c ≡ false

limited_if : Bool → Protocol → Found Protocol
limited_if b c = if b then record { faults = nameless code.T9 ∷ []; found = None } else good c

if_limited : (b : Bool) (c : Protocol) → protocol_unknown c ≡ false → (limited_if b c).faults ≡ [] → IsProtocol (limited_if b c).found
unfolding limited_if
if_limited true c h e = absurd cc
if_limited false c h e = h

defined_known : (name : List ℕ) (c : Protocol) → protocol_unknown c ≡ false → (defined name c).faults ≡ [] → IsProtocol (defined name c).found
unfolding limited_if
defined_known name c h e = if_limited (is_too_large (p.Defined name c)) (p.Defined name c) (unknown_defined name c ∙ h) e

whole_known : (name : List ℕ) (xs : Option (List Item)) → AreItems xs → (whole name xs).faults ≡ [] → IsProtocol (whole name xs).found
whole_known name None h e = absurd h
whole_known name (Some xs) h e = defined_known name (p.Sequence xs) (unknown_sequence xs ∙ h) e

name_known : (o : Option Protocol) → IsProtocol o → IsKnownMeaning (protocol_name o)
name_known None h = h
name_known (Some c) h = h

pub protocol_known : (s : Scope) (name : List ℕ) (xs : List ItemForm) → IsKnownScope s → (protocol s name xs).faults ≡ [] → AreKnownEntries (protocol s name xs).adds
unfolding protocol protocol_reported
protocol_known s name xs known e =
    let x = items_of s xs in
    let y = whole name x.items in (
      subst (λ (o : Option Protocol). IsKnownMeaning (protocol_name o)) (sym (unreported (x.faults ++ y.faults) y.found e))
          (name_known y.found (whole_known name x.items (items_known s xs known (front_clean x.faults y.faults e)) (back_clean x.faults y.faults e))),
      tt,
    )

-- ---- tags

abbrev NameFound : Element → Type 0
NameFound el = is_name el ≡ true → IsThere (element_view el).name

name_if : (n : List ℕ) (es : List Expr) → is_name_step (Element-F.Element::Named n es) ≡ true → IsThere (name_alone n (expr_views es))
name_if n [] e = tt
name_if n (x ∷ es) e = absurd cc

named_found : (n : List ℕ) (es : List Expr) → NameFound (ev.Named n es)
unfolding is_name
named_found n es e =
    subst IsThere (sym (views.element_named_name n es)) (name_if n es (sym (ap is_name_step (layers.named_element n es)) ∙ e))

segment_found : (el : Element) (b : Bounds) (es : List Expr) → NameFound el → NameFound (ev.Segment el b es)
unfolding is_name
segment_found el b es h e = let never : false ≡ true = sym (ap is_name_step (layers.segment el b es)) ∙ e in absurd cc

-- an element that is a name alone has a name
pub name_found : (el : Element) → NameFound el
name_found = each_element NameFound named_found segment_found

named_sound : (s : Scope) (name : Option (List ℕ)) → IsThere name → IsKnownScope s → TypeSound (named s name)
named_sound s None h known = absurd h
named_sound s (Some n) h known = array_sound [] (data_type n (visible s n)) tt (type_found n (visible s n) (visible_known s n known))

data_only_sound : (x : Written) → TypeSound x → TypeSound (data_only x)
data_only_sound x h e = data_sound x.found (h (front_clean x.faults (data_of x.found).faults e)) (back_clean x.faults (data_of x.found).faults e)

no_name : (b : Bool) → not b ≡ false → b ≡ true
no_name true e = refl
no_name false e = absurd cc

detail_sound : (s : Scope) (x : Detail) → is_element_part x ≡ false → IsKnownScope s → ItemSound (detail_item s x)
detail_sound s (detail.Element el) is known = value_sound (named s (element_view el).name) (named_sound s (element_view el).name (name_found el (no_name (is_name el) is)) known)
detail_sound s (detail.Counted n el) is known = absurd cc
detail_sound s (detail.Array d ds name) is known =
    value_sound (array_over_more (dimension_view d opening.Refused s) (each opening.Refused s (dimension_views ds)) (data_type name (visible s name)))
    (array_more_sound (dimension_view d opening.Refused s) (each opening.Refused s (dimension_views ds)) (data_type name (visible s name)) (dimension_sound d opening.Refused s known) (all_spans opening.Refused s ds known (every_dimension_sound ds)) (type_found name (visible s name) (visible_known s name known)))
detail_sound s (detail.Builtin ds word) is known =
    value_sound (data_only (array_over (each opening.Refused s (dimension_views ds)) (builtin_view word s)))
    (data_only_sound (array_over (each opening.Refused s (dimension_views ds)) (builtin_view word s))
    (array_sound (each opening.Refused s (dimension_views ds)) (builtin_view word s) (all_spans opening.Refused s ds known (every_dimension_sound ds)) (builtin_sound word s known)))
detail_sound s (detail.CountedType count of) is known = counted_sound s count of known

abbrev pub no_element_parts : List Detail → Type 0
no_element_parts ds = list_any is_element_part ds ≡ false

details_known : (s : Scope) (ds : List Detail) → no_element_parts ds → IsKnownScope s → (detail_items s ds).faults ≡ [] → AreItems (detail_items s ds).items
details_known s [] is known e = refl
details_known s (x ∷ ds) is known e =
    let both = no_either (is_element_part x) (list_any is_element_part ds) is in
    front_known (detail_item s x) (detail_items s ds) (detail_sound s x both.0 known) (details_known s ds both.1 known) e

tag_known : (fs : List Fault) (xs : Option (List Item)) → fs ≡ [] → AreItems xs → any_of (items_unknown (tag_items fs xs)) ≡ false
tag_known [] None e h = absurd h
tag_known [] (Some xs) e h = h
tag_known (f ∷ fs) xs e h = absurd cc

-- the line of a tag
pub tag_line_known : (s : Scope) (before : List (List ℕ)) (name : List ℕ) (ds : List Detail) → no_element_parts ds → IsKnownScope s → (tag_line s before name ds).faults ≡ [] → any_of (items_unknown (tag_line s before name ds).tag.items) ≡ false
unfolding tag_line
tag_line_known s before name ds is known e =
    let x = detail_items s ds in
    let rest = repetition name (nearest before name) in
    tag_known (x.faults ++ rest) x.items e (details_known s ds is known (front_clean x.faults rest e))

pub tagged_known : (name : List ℕ) (tags : List Tag) → any_of (tags_unknown tags) ≡ false → (tagged_protocol name tags).faults ≡ [] → IsKnownMeaning (tagged_protocol name tags).meaning
unfolding tagged_protocol
tagged_known name tags h e = name_known (defined name (p.Variant tags)).found (defined_known name (p.Variant tags) (unknown_variant tags ∙ h) e)
