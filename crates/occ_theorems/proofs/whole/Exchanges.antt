-- Lines that send and receive, without faults: their trees are there.
use Rattle.std.proofs.Common.{◌≡◌, ◌∙◌, ◌++◌, ◌||◌, ◌+◌, ℕ, suc, Bool, true, false, List, [], ◌∷◌, map, length, Option, Some, None, if◌then◌else◌, refl, ap, sym, subst, arith}
use Rattle.std.specs.Prelude.{◌==◌}
use Rattle.std.specs.Str.{bytes_eq}
use Rattle.std.specs.List.{list_any}
use Rattle.occ_expr.specs.Trees.{element_tree, int_tree}
use Rattle.occ_base.specs.declared.code.Code.TheVariants as code
use Rattle.occ_expr_operations.specs.Views.{expr_view}
use Rattle.occ_forms_expressions.specs.declared.tree.Element.{Element}
use Rattle.occ_forms_expressions.specs.declared.tree.Expr.{Expr}
use Rattle.occ_forms.specs.declared.tree.Detail.{Detail}
use Rattle.occ_forms.specs.declared.tree.Detail.TheVariants as detail
use Rattle.occ_forms.specs.declared.tree.Input.{Input}
use Rattle.occ_forms.specs.declared.tree.Input.TheVariants as input
use Rattle.occ_forms.specs.declared.tree.InputItem.{InputItem}
use Rattle.occ_forms.specs.declared.tree.InputItem.TheVariants as into
use Rattle.occ_forms.specs.declared.tree.OutputItem.{OutputItem}
use Rattle.occ_forms.specs.declared.tree.OutputItem.TheVariants as out
use Rattle.occ_base.specs.Lists.{joined, one_part}
use Rattle.occ_scope.specs.declared.scope.Scope.{Scope}
use Rattle.occ_typing_operands.specs.Operators.{is_faulty}
use Rattle.occ_typing_operands.specs.Settling.{Finding, int, settled}
use Rattle.occ_typing_operands.specs.declared.kind.Kind.{Kind}
use Rattle.occ_typing_operands.specs.declared.kind.Kind.TheVariants as k
use Rattle.occ_protocol.specs.Carrying.{Carrier, Data, Hidden, Nothing, Sequence, Time, Variant, carried, carrier, no_channel, of_channel, place_from, place_named, tag_named}
use Rattle.occ_protocol.specs.Lines.{alternative, awaited, cased, exchanged, is_timer, received, tag_place}
use Rattle.occ_protocol.specs.Matching.{AnyData, Asked, Instead, NoTag, Silent, These, against, asked, following, each_unmet, has_fault, meets, of_another_number, reported, unmet}
use Rattle.occ_protocol.specs.Matching as matching
use Rattle.occ_protocol.specs.Wanting.{each_wanted, nothing, wanted_for, wanted_layer, wants}
use Rattle.occ_protocol.specs.declared.given.Given.{Given}
use Rattle.occ_protocol.specs.declared.given.Given.TheVariants as g
use Rattle.occ_protocol.specs.declared.given.Shape.{Shape}
use Rattle.occ_protocol.specs.declared.given.Shape.TheVariants as shape
use Rattle.occ_protocol.specs.declared.given.Want.{Want}
use Rattle.occ_protocol.specs.declared.given.Want.TheVariants as w
use Rattle.occ_protocol.specs.declared.given.Wanted.{Wanted}
use Rattle.occ_protocol.specs.declared.given.Wanted.TheVariants as wanted
use Rattle.occ_protocol.proofs.Carried.{carried_at_any, carried_at_defined, carried_at_sequence, carried_at_variant}
use Rattle.occ_protocol.proofs.Meeting.{meets_value}
use Rattle.occ_typing_tables.specs.Terms.{Judged, judged}
use Rattle.occ_typing_tables.specs.declared.term.Term.{Term, out-Term, roll-Term}
use Rattle.occ_typing_tables.specs.declared.term.Term.TheOpen.{Term-F}
use Rattle.occ_typing_tables.specs.declared.term.Term.TheViews.{roll-out-Term}
use Rattle.occ_typing_tables.specs.declared.term.Term.TheVariants as v
use Rattle.occ_typing_tables.proofs.Judging.{judged_single}
use Rattle.occ_tree.specs.Sorts.{is_type_part}
use Rattle.occ_typing_rules.specs.declared.open_expr.OpenExpr.{OpenExpr}
use Rattle.occ_typing_rules.specs.declared.expr.TypedElement.{TypedElement}
use Rattle.occ_typing_rules.specs.declared.expr.TypedExpr.{TypedExpr}
use Rattle.occ_typing_statements.specs.Inputs.{after_faults, after_input, after_tree, case_faults, input_faults, input_tree, plain_faults, plain_input, plain_tree, tagged_at, tagged_faults, tagged_input, tagged_tree, time_faults, time_of}
use Rattle.occ_typing_statements.specs.Receiving.{Received, counted, counted_target, detail_received, details_received, item_received, items_received, received_faults, received_trees, single, single_target}
use Rattle.occ_typing_statements.specs.Receiving as receiving
use Rattle.occ_typing_statements.specs.Sending.{after_tag, count_want, counted_output, item_faults, item_read, item_sent, items_after, items_faults, items_read, items_sent, operand_as, operand_under, output_faults, output_tree, outputs_after, own, reading, sending_of, sent_faults, sent_through, sent_trees, shapes_of, table_as, tag_at, tag_of, tag_tree, value_output, value_want}
use Rattle.occ_typing_statements.specs.Sending as sending
use Rattle.occ_typing_statements.specs.Through.{carrier_of, root_of, through}
use Rattle.occ_typing_statements.specs.Variants.{begun, repeated, variant_at, variant_faults, variant_tree}
use Rattle.occ_typing_statements.specs.declared.exchange_tree.TypedInput.{TypedInput}
use Rattle.occ_typing_statements.specs.declared.exchange_tree.TypedOutput.{TypedOutput}
use Rattle.occ_typing_statements.specs.declared.exchange_tree.TypedTarget.{TypedTarget}
use Rattle.occ_typing_statements.specs.declared.variants.CaseInput.{CaseInput}
use Rattle.occ_typing_statements.proofs.Operands.{operand_single, operand_table}
use Rattle.occ_typing_rules.specs.Placing.{tree_of}
use Rattle.occ_expr.specs.Targets.{target_of}
use Rattle.occ_types.specs.Unknown.{any_of, holds_unknown, item_unknown, items_unknown, protocol_unknown, tags_unknown}
use Rattle.occ_types.specs.View.{ItemLayer, Layer, as_array, as_channel, as_value, channel_layer, is_faulty_tag, is_timer as spec_is_timer, is_unknown_item, unknown_value, value_layer}
use Rattle.occ_types.specs.declared.types.Field.{Field}
use Rattle.occ_types.specs.declared.types.Item.{Item, out-Item, roll-Item}
use Rattle.occ_types.specs.declared.types.Item.TheFolds.{ind-Protocol, map-Protocol}
use Rattle.occ_types.specs.declared.types.Item.TheOpen.{Item-F, OccType-F, Protocol-F}
use Rattle.occ_types.specs.declared.types.Item.TheVariants as i
use Rattle.occ_types.specs.declared.types.Item.TheViews.{roll-out-Item, roll-out-OccType}
use Rattle.occ_types.specs.declared.types.OccType.{OccType, out-OccType, roll-OccType}
use Rattle.occ_types.specs.declared.types.OccType.TheVariants as t
use Rattle.occ_types.specs.declared.types.Protocol.{Protocol, roll-Protocol}
use Rattle.occ_types.specs.declared.types.Protocol.TheVariants as p
use Rattle.occ_types.specs.declared.types.Tag.{Tag}
use Rattle.occ_types.proofs.Unknowns.{unknown_channel, unknown_defined, unknown_sequence, unknown_value as unknown_item, unknown_variant}
use Rattle.occ_typing.specs.Known.{IsKnownScope, IsKnownType}
use Rattle.occ_typing_statements.specs.declared.sending.TypedSending.{TypedSending}
use Rattle.occ_typing_statements.specs.declared.variants.TypedVariant.{TypedVariant}
use Rattle.occ_typing.specs.WholeTrees.{AllAre, IsWholeElement, IsWholeExpr, IsWholeInput, IsWholeOutput, IsWholeTarget}
use Rattle.occ_theorems.proofs.whole.Clean.{Has, IsThere, back_clean, front_clean, same_number}
use Rattle.occ_theorems.proofs.whole.Elements.{element_known}
use Rattle.occ_theorems.proofs.whole.Expressions.{element_sound}
use Rattle.occ_theorems.proofs.whole.Reading.{IsKnown, Reads, as_read, int_known, placed_as}
use Rattle.occ_theorems.proofs.whole.Sound.{Sound}
use Rattle.occ_theorems.proofs.whole.Specifications.{read_tree}
use Rattle.occ_theorems.proofs.whole.Statements.{said_sound, target_sound}
use Rattle.occ_theorems.proofs.whole.Types.{known_is, no_either}

-- ---- what is carried

abbrev pub KnownCarrier : Carrier → Type 0
KnownCarrier Hidden = ⊥
KnownCarrier Nothing = Unit {0}
KnownCarrier Time = Unit {0}
KnownCarrier Data = Unit {0}
KnownCarrier (Sequence items) = any_of (items_unknown items) ≡ false
KnownCarrier (Variant tags) = any_of (tags_unknown tags) ≡ false

abbrev CarriedKnown : Protocol → Type 0
CarriedKnown c = protocol_unknown c ≡ false → KnownCarrier (carried c)

abbrev Any : Type 0 → Type 0
Any X = (x : X) × Unit {0}

abbrev With : (Protocol → Type 0) → Type 0
With P = (c : Protocol) × P c

any_carried : CarriedKnown p.Any
any_carried h = subst KnownCarrier (sym carried_at_any) tt

sequence_carried : (items : List Item) → CarriedKnown (p.Sequence items)
sequence_carried items h = subst KnownCarrier (sym (carried_at_sequence items)) (sym (unknown_sequence items) ∙ h)

variant_carried : (tags : List Tag) → CarriedKnown (p.Variant tags)
variant_carried tags h = subst KnownCarrier (sym (carried_at_variant tags)) (sym (unknown_variant tags) ∙ h)

defined_carried : (name : List ℕ) (inner : Protocol) → CarriedKnown inner → CarriedKnown (p.Defined name inner)
defined_carried name inner below h = subst KnownCarrier (sym (carried_at_defined name inner)) (below (sym (unknown_defined name inner) ∙ h))

protocol_step : (x : Protocol-F Item OccType Protocol Field Tag) (y : Protocol-F (Any Item) (Any OccType) (With CarriedKnown) (Any Field) (Any Tag)) → map-Protocol _ _ _ _ _ _ _ _ _ _ (λ e. e.0) (λ e. e.0) (λ e. e.0) (λ e. e.0) (λ e. e.0) y ≡ x → CarriedKnown (roll-Protocol x)
protocol_step x y is = subst (λ z. CarriedKnown (roll-Protocol z)) is (by y) where
  by : (y : Protocol-F (Any Item) (Any OccType) (With CarriedKnown) (Any Field) (Any Tag)) → CarriedKnown (roll-Protocol (map-Protocol _ _ _ _ _ _ _ _ _ _ (λ e. e.0) (λ e. e.0) (λ e. e.0) (λ e. e.0) (λ e. e.0) y))
  by Protocol-F.Any = subst CarriedKnown (sym p.rolls-Any) any_carried
  by (Protocol-F.Sequence items) = subst CarriedKnown (sym (p.rolls-Sequence (map (λ e. e.0) items))) (sequence_carried (map (λ e. e.0) items))
  by (Protocol-F.Variant tags) = subst CarriedKnown (sym (p.rolls-Variant (map (λ e. e.0) tags))) (variant_carried (map (λ e. e.0) tags))
  by (Protocol-F.Defined name inner) = subst CarriedKnown (sym (p.rolls-Defined name inner.0)) (defined_carried name inner.0 inner.1)

carried_known : (c : Protocol) → CarriedKnown c
carried_known = ind-Protocol (λ _. Unit {0}) (λ _. Unit {0}) CarriedKnown (λ _. Unit {0}) (λ _. Unit {0}) (λ x y e. tt) (λ x y e. tt) protocol_step (λ x y e. tt) (λ x y e. tt)

abbrev channel_or : Option Protocol → Protocol → Protocol
channel_or None c = c
channel_or (Some d) c = d

channel_known_layer : (y : Layer) (c : Protocol) → channel_layer y ≡ Some c → holds_unknown (roll-OccType y) ≡ false → protocol_unknown c ≡ false
channel_known_layer (OccType-F.Primitive x) c e h = absurd cc
channel_known_layer (OccType-F.Array n inner) c e h = absurd cc
channel_known_layer (OccType-F.Record packing fields) c e h = absurd cc
channel_known_layer (OccType-F.Named name inner) c e h = absurd cc
channel_known_layer (OccType-F.Channel d) c e h = subst (λ (z : Protocol). protocol_unknown z ≡ false) (ap (λ (o : Option Protocol). channel_or o d) e) (sym (unknown_channel d) ∙ sym (ap holds_unknown (t.rolls-Channel d)) ∙ h)
channel_known_layer OccType-F.Timer c e h = absurd cc
channel_known_layer OccType-F.Unknown c e h = absurd cc

channel_known : (of : OccType) (c : Protocol) → as_channel of ≡ Some c → IsKnownType of → protocol_unknown c ≡ false
unfolding as_channel
channel_known of c e h = channel_known_layer (out-OccType of) c e (ap holds_unknown (roll-out-OccType of) ∙ h)

no_channel_known : (b : Bool) → KnownCarrier (no_channel b)
no_channel_known true = tt
no_channel_known false = tt

of_channel_known : (of : OccType) (o : Option Protocol) (b : Bool) → as_channel of ≡ o → IsKnownType of → KnownCarrier (of_channel o b)
of_channel_known of None b is h = no_channel_known b
of_channel_known of (Some c) b is h = carried_known c (channel_known of c is h)

carrier_known : (kind : Kind) → IsKnown kind → KnownCarrier (carrier kind)
carrier_known k.Faulty h = h
carrier_known (k.Untyped f) h = h
carrier_known (k.Known x) h = of_channel_known x.of (as_channel x.of) (spec_is_timer x.of) refl h

-- ---- tags

item_known_layer : (y : ItemLayer) → item_unknown (roll-Item y) ≡ false → unknown_value (value_layer y) ≡ false
item_known_layer (Item-F.Value of) h = known_is of (sym (unknown_item of) ∙ sym (ap item_unknown (i.rolls-Value of)) ∙ h)
item_known_layer (Item-F.Counted count of) h = refl

item_known : (x : Item) → item_unknown x ≡ false → is_unknown_item x ≡ false
unfolding as_value
item_known x h = item_known_layer (out-Item x) (ap item_unknown (roll-out-Item x) ∙ h)

items_all_known : (xs : List Item) → any_of (items_unknown xs) ≡ false → list_any is_unknown_item xs ≡ false
items_all_known [] h = refl
items_all_known (x ∷ xs) h =
    let both = no_either (item_unknown x) (any_of (items_unknown xs)) h in
    ap (λ (b : Bool). b || list_any is_unknown_item xs) (item_known x both.0) ∙ items_all_known xs both.1

-- the tag that is found is known, and it has its place
abbrev TagFound : Option Tag → Option ℕ → Type 0
TagFound None n = Unit {0}
TagFound (Some tag) n = (is_faulty_tag tag ≡ false) × IsThere n

found_if : (b : Bool) (n : ℕ) (tag : Tag) (found : Option Tag) (place : Option ℕ) → is_faulty_tag tag ≡ false → TagFound found place → TagFound (if b then Some tag else found) (if b then Some n else place)
found_if true n tag found place h g = (h, tt)
found_if false n tag found place h g = g

tag_found : (n : ℕ) (tags : List Tag) (name : List ℕ) → any_of (tags_unknown tags) ≡ false → TagFound (tag_named tags name) (place_from n tags name)
tag_found n [] name h = tt
tag_found n (tag ∷ tags) name h =
    let both = no_either (any_of (items_unknown tag.items)) (any_of (tags_unknown tags)) h in
    found_if (bytes_eq tag.name name) n tag (tag_named tags name) (place_from (n + 1) tags name) (items_all_known tag.items both.0) (tag_found (n + 1) tags name both.1)

-- ---- what is asked of a line without faults: nothing hides it, and its tag has its place

abbrev IsClear : Asked → Type 0
IsClear Silent = ⊥
IsClear (Instead c) = ⊥
IsClear (NoTag name) = ⊥
IsClear AnyData = Unit {0}
IsClear (These items) = Unit {0}

abbrev TagPlaced : Carrier → Option (List ℕ) → Type 0
TagPlaced c None = Unit {0}
TagPlaced c (Some name) = IsThere (tag_place c name)

abbrev Clear : Carrier → Option (List ℕ) → Type 0
Clear c tag = IsClear (asked c tag) × TagPlaced c tag

faulty_if : (b : Bool) (items : List Item) → b ≡ false → IsClear (if b then Silent else These items)
faulty_if true items e = absurd cc
faulty_if false items e = tt

after_clear : (root name : List ℕ) (found : Option Tag) (place : Option ℕ) (xs : List Given) → TagFound found place → reported root (following name found) xs ≡ [] → IsClear (following name found) × IsThere place
after_clear root name None place xs h e = absurd cc
after_clear root name (Some tag) place xs h e = (faulty_if (is_faulty_tag tag) tag.items h.0, h.1)

pub clear : (c : Carrier) (root : List ℕ) (tag : Option (List ℕ)) (xs : List Given) → KnownCarrier c → exchanged c root tag xs ≡ [] → Clear c tag
clear Hidden root tag xs h e = absurd h
clear Nothing root tag xs h e = absurd cc
clear Time root tag xs h e = absurd cc
clear Data root None xs h e = (tt, tt)
clear Data root (Some name) xs h e = absurd cc
clear (Sequence items) root None xs h e = (tt, tt)
clear (Sequence items) root (Some name) xs h e = absurd cc
clear (Variant tags) root None xs h e = absurd cc
clear (Variant tags) root (Some name) xs h e = after_clear root name (tag_named tags name) (place_named tags name) xs (tag_found 0 tags name h) e

-- ---- what is wanted

abbrev IsWanted : Want → Type 0
IsWanted w.Hidden = ⊥
IsWanted w.Nothing = Unit {0}
IsWanted (w.Of of) = Unit {0}

abbrev AreWanted : Wanted → Type 0
AreWanted (wanted.Plain x) = IsWanted x
AreWanted (wanted.Counted n x) = IsWanted n × IsWanted x

abbrev AllWanted : List Wanted → Type 0
AllWanted [] = Unit {0}
AllWanted (x ∷ xs) = AreWanted x × AllWanted xs

nothing_wanted : (x : Shape) → AreWanted (nothing x)
nothing_wanted shape.Plain = tt
nothing_wanted shape.Counted = (tt, tt)

all_nothing : (xs : List Shape) → AllWanted (map nothing xs)
all_nothing [] = tt
all_nothing (x ∷ xs) = (nothing_wanted x, all_nothing xs)

layer_wanted : (y : Item-F Item OccType Protocol Field Tag) (x : Shape) → AreWanted (wanted_layer y x)
layer_wanted (Item-F.Value of) shape.Plain = tt
layer_wanted (Item-F.Value of) shape.Counted = (tt, tt)
layer_wanted (Item-F.Counted count of) shape.Plain = tt
layer_wanted (Item-F.Counted count of) shape.Counted = (tt, tt)

each_is_wanted : (items : List Item) (xs : List Shape) → AllWanted (each_wanted items xs)
unfolding wanted_for
each_is_wanted [] xs = tt
each_is_wanted (item ∷ items) [] = tt
each_is_wanted (item ∷ items) (x ∷ xs) = (layer_wanted (out-Item item) x, each_is_wanted items xs)

against_if : (b : Bool) (items : List Item) (xs : List Shape) → AllWanted (if b then each_wanted items xs else map nothing xs)
against_if true items xs = each_is_wanted items xs
against_if false items xs = all_nothing xs

wants_all : (a : Asked) (xs : List Shape) → IsClear a → AllWanted (wants a xs)
wants_all Silent xs h = absurd h
wants_all (Instead c) xs h = absurd h
wants_all (NoTag name) xs h = absurd h
wants_all AnyData xs h = all_nothing xs
wants_all (These items) xs h = against_if (length items == length xs) items xs

-- ---- items that are sent

array_reads : (j : Judged) (d : OpenExpr) (parts : Option (Option ℕ × OccType)) → Sound j d → (table_as j parts).faults ≡ [] → Reads (table_as j parts).kind d
array_reads j d None h e = h.by_itself e
array_reads j d (Some parts) h e = as_read (t.Array None parts.1) (j.under (t.Array None parts.1)).kind d (h.wanted (t.Array None parts.1) e)

settled_single : (of : OccType) (kind : Kind) (d : OpenExpr) → Sound (judged (v.Single kind)) d → (settled of kind).faults ≡ [] → Reads (settled of kind).kind d
settled_single of kind d h e =
    let is = judged_single kind in
    subst (λ (j : Judged). Reads (j.settled of).kind d) is (h.settles of (ap (λ (j : Judged). (j.settled of).faults) is ∙ e)).1

term_reads : (of : OccType) (y : Term-F Term) (d : OpenExpr) → Sound (judged (roll-Term y)) d → (operand_as of (roll-Term y)).faults ≡ [] → Reads (operand_as of (roll-Term y)).kind d
term_reads of (Term-F.Single kind) d h e =
    let is = v.rolls-Single kind in
    let same : operand_as of (roll-Term (Term-F.Single kind)) ≡ settled of kind = ap (operand_as of) is ∙ operand_single of kind in
    subst (λ (x : Finding). Reads x.kind d) (sym same) (settled_single of kind d (subst (λ (z : Term). Sound (judged z) d) is h) (sym (ap (λ (x : Finding). x.faults) same) ∙ e))
term_reads of (Term-F.Table xs) d h e =
    let is = v.rolls-Table xs in
    let same : operand_as of (roll-Term (Term-F.Table xs)) ≡ table_as (judged (v.Table xs)) (as_array of) = ap (operand_as of) is ∙ operand_table of xs in
    subst (λ (x : Finding). Reads x.kind d) (sym same) (array_reads (judged (v.Table xs)) d (as_array of) (subst (λ (z : Term). Sound (judged z) d) is h) (sym (ap (λ (x : Finding). x.faults) same) ∙ e))

operand_reads : (of : OccType) (x : Term) (d : OpenExpr) → Sound (judged x) d → (operand_as of x).faults ≡ [] → Reads (operand_as of x).kind d
operand_reads of x d h e =
    let is = roll-out-Term x in
    subst (λ (z : Term). Reads (operand_as of z).kind d) is (term_reads of (out-Term x) d (subst (λ (z : Term). Sound (judged z) d) (sym is) h) (ap (λ (z : Term). (operand_as of z).faults) is ∙ e))

under_reads : (want : Want) (x : Term) (d : OpenExpr) → IsWanted want → Sound (judged x) d → (operand_under want x).faults ≡ [] → Reads (operand_under want x).kind d
under_reads w.Hidden x d g h e = absurd g
under_reads w.Nothing x d g h e = h.by_itself e
under_reads (w.Of of) x d g h e = operand_reads of x d h e

value_there : (t : Option TypedExpr) → Has IsWholeExpr t → Has IsWholeOutput (value_output t)
value_there None h = h
value_there (Some t) h = h

counted_there : (n t : Option TypedExpr) → Has IsWholeExpr n → Has IsWholeExpr t → Has IsWholeOutput (counted_output n t)
counted_there None t h g = h
counted_there (Some n) None h g = g
counted_there (Some n) (Some t) h g = (h, g)

plain_wanted : (want : Wanted) → AreWanted want → IsWanted (value_want want)
plain_wanted (wanted.Plain x) h = h
plain_wanted (wanted.Counted n x) h = h.1

count_wanted : (want : Wanted) → AreWanted want → IsWanted (count_want want)
count_wanted (wanted.Plain x) h = h
count_wanted (wanted.Counted n x) h = h.0

item_there : (s : Scope) (want : Wanted) (x : OutputItem) → IsKnownScope s → AreWanted want → item_faults s x ≡ [] → (item_sent want (item_read s x)).faults ≡ [] → Has IsWholeOutput (item_sent want (item_read s x)).tree
item_there s want (out.Plain e) known g c f =
    let r = reading s e in
    let y = operand_under (value_want want) r.term in
    value_there (tree_of y.kind r.open_expr) (read_tree y.kind r.open_expr (under_reads (value_want want) r.term r.open_expr (plain_wanted want g) (said_sound s e known c) f))
item_there s want (out.Counted n e) known g c f =
    let q = reading s n in
    let r = reading s e in
    let z = operand_under (count_want want) q.term in
    let y = operand_under (value_want want) r.term in
    counted_there (tree_of z.kind q.open_expr) (tree_of y.kind r.open_expr)
    (read_tree z.kind q.open_expr (under_reads (count_want want) q.term q.open_expr (count_wanted want g) (said_sound s n known (front_clean (own s n) (own s e) c)) (front_clean z.faults y.faults f)))
    (read_tree y.kind r.open_expr (under_reads (value_want want) r.term r.open_expr (plain_wanted want g) (said_sound s e known (back_clean (own s n) (own s e) c)) (back_clean z.faults y.faults f)))

pub joined_there : {X : Type 0} (P : X → Type 0) (x : Option X) (xs : Option (List X)) → Has P x → Has (AllAre P) xs → Has (AllAre P) (joined (one_part x) xs)
joined_there P None xs h g = h
joined_there P (Some x) None h g = g
joined_there P (Some x) (Some xs) h g = (h, g)

items_there : (s : Scope) (ws : List Wanted) (xs : List OutputItem) → IsKnownScope s → AllWanted ws → items_faults s xs ≡ [] → sent_faults (items_sent ws (items_read s xs)) ≡ [] → Has (AllAre IsWholeOutput) (sent_trees (items_sent ws (items_read s xs)))
items_there s [] xs known g c f = tt
items_there s (want ∷ ws) [] known g c f = tt
items_there s (want ∷ ws) (x ∷ xs) known g c f =
    let y = item_sent want (item_read s x) in
    let ys = items_sent ws (items_read s xs) in
    joined_there IsWholeOutput y.tree (sent_trees ys)
    (item_there s want x known g.0 (front_clean (item_faults s x) (items_faults s xs) c) (front_clean y.faults (sent_faults ys) f))
    (items_there s ws xs known g.1 (back_clean (item_faults s x) (items_faults s xs) c) (back_clean y.faults (sent_faults ys) f))

pub both_are : {X : Type 0} (P : X → Type 0) (xs ys : List X) → AllAre P xs → AllAre P ys → AllAre P (xs ++ ys)
both_are P [] ys h g = g
both_are P (x ∷ xs) ys h g = (h.0, both_are P xs ys h.1 g)

both_joined : {X : Type 0} (P : X → Type 0) (xs ys : Option (List X)) → Has (AllAre P) xs → Has (AllAre P) ys → Has (AllAre P) (joined xs ys)
both_joined P None ys h g = h
both_joined P (Some xs) None h g = g
both_joined P (Some xs) (Some ys) h g = both_are P xs ys h g

at_there : (name : List ℕ) (n : Option ℕ) → IsThere n → Has (AllAre IsWholeOutput) (tag_at name n)
at_there name None h = h
at_there name (Some n) h = (tt, tt)

tag_there : (c : Carrier) (tag : Option (List ℕ)) → TagPlaced c tag → Has (AllAre IsWholeOutput) (tag_tree c tag)
tag_there c None h = tt
tag_there c (Some name) h = at_there name (tag_place c name) h

abbrev pub IsWholeSending : TypedSending → Type 0
IsWholeSending x = IsWholeElement x.channel × AllAre IsWholeOutput x.outputs

sending_there : (el : Option TypedElement) (xs : Option (List TypedOutput)) → Has IsWholeElement el → Has (AllAre IsWholeOutput) xs → Has IsWholeSending (sending_of el xs)
sending_there None xs h g = h
sending_there (Some el) None h g = g
sending_there (Some el) (Some xs) h g = (h, g)

following_there : (s : Scope) (c : Carrier) (root : List ℕ) (tag : Option (List ℕ)) (items : List OutputItem) → IsKnownScope s → KnownCarrier c → after_tag s c root tag items ≡ [] → Has (AllAre IsWholeOutput) (outputs_after s c tag items)
following_there s c root tag items known h e =
    let xs = sent_through c tag (items_read s items) in
    let last = exchanged c root tag (sending.givens xs) in
    let own = front_clean (items_faults s items) (sent_faults xs ++ last) e in
    let rest = back_clean (items_faults s items) (sent_faults xs ++ last) e in
    let r = clear c root tag (sending.givens xs) h (back_clean (sent_faults xs) last rest) in
    both_joined IsWholeOutput (tag_tree c tag) (sent_trees xs) (tag_there c tag r.1)
    (items_there s (wants (asked c tag) (shapes_of (items_read s items))) items known (wants_all (asked c tag) (shapes_of (items_read s items)) r.0) own (front_clean (sent_faults xs) last rest))

-- what a line sends or receives through
record Carries (s : Scope) (el : Element) : Type 0 where
  carrier : KnownCarrier (carrier_of s el)
  tree : Has IsWholeElement (element_tree s el)

through_known : (s : Scope) (el : Element) → IsKnownScope s → (through s el).faults ≡ [] → Carries s el
through_known s el known e =
    let x = element_known (through s el).kind (element_tree s el) ((element_sound el s known).reported e) in
    record { carrier = carrier_known (through s el).kind x.0; tree = x.1 }

pub output_there : (s : Scope) (el : Element) (first : OutputItem) (more : List OutputItem) → IsKnownScope s → output_faults s el first more ≡ [] → Has IsWholeSending (output_tree s el first more)
unfolding output_faults output_tree
output_there s el first more known e =
    let c = carrier_of s el in
    let tag = tag_of c first in
    let rest = after_tag s c (root_of s el) tag (items_after tag first more) in
    let r = through_known s el known (front_clean (through s el).faults rest e) in
    sending_there (element_tree s el) (outputs_after s c tag (items_after tag first more)) r.tree
    (following_there s c (root_of s el) tag (items_after tag first more) known r.carrier (back_clean (through s el).faults rest e))

-- ---- items that are received

single_there : (x : Option TypedElement) → Has IsWholeElement x → Has IsWholeTarget (single_target x)
single_there None h = h
single_there (Some x) h = h

two_there : (n x : Option TypedElement) → Has IsWholeElement n → Has IsWholeElement x → Has IsWholeTarget (counted_target n x)
two_there None x h g = h
two_there (Some n) None h g = g
two_there (Some n) (Some x) h g = (h, g)

-- without faults it has its whole tree, and nothing in it is faulty
abbrev ReceivedSound : Received → Type 0
ReceivedSound x = x.faults ≡ [] → Has IsWholeTarget x.tree × (has_fault x.given ≡ false)

known_faultless : (kind : Kind) → IsKnown kind → is_faulty kind ≡ false
known_faultless k.Faulty h = absurd h
known_faultless (k.Untyped f) h = absurd h
known_faultless (k.Known x) h = refl

single_received : (s : Scope) (el : Element) → IsKnownScope s → ReceivedSound (single s el)
single_received s el known e =
    let x = element_known (target_of s el).kind (element_tree s el) (target_sound s el known e) in
    (single_there (element_tree s el) x.1, known_faultless (target_of s el).kind x.0)

counted_received : (s : Scope) (n el : Element) → IsKnownScope s → ReceivedSound (counted s n el)
counted_received s n el known e =
    let y = element_known (target_of s n).kind (element_tree s n) (target_sound s n known (front_clean (target_of s n).faults (target_of s el).faults e)) in
    let x = element_known (target_of s el).kind (element_tree s el) (target_sound s el known (back_clean (target_of s n).faults (target_of s el).faults e)) in (
      two_there (element_tree s n) (element_tree s el) y.1 x.1,
      ap (λ (b : Bool). b || is_faulty (target_of s el).kind) (known_faultless (target_of s n).kind y.0) ∙ known_faultless (target_of s el).kind x.0,
    )

item_received_sound : (s : Scope) (x : InputItem) → IsKnownScope s → ReceivedSound (item_received s x)
item_received_sound s (into.Plain el) known = single_received s el known
item_received_sound s (into.Counted n el) known = counted_received s n el known

detail_received_sound : (s : Scope) (x : Detail) → is_type_part x ≡ false → IsKnownScope s → ReceivedSound (detail_received s x)
detail_received_sound s (detail.Element el) is known = single_received s el known
detail_received_sound s (detail.Counted n el) is known = counted_received s n el known
detail_received_sound s (detail.Array d ds name) is known = absurd cc
detail_received_sound s (detail.Builtin ds word) is known = absurd cc
detail_received_sound s (detail.CountedType count of) is known = absurd cc

abbrev AllReceived : List Received → Type 0
AllReceived xs = Has (AllAre IsWholeTarget) (received_trees xs) × (list_any has_fault (receiving.givens xs) ≡ false)

received_both : (x : Received) (xs : List Received) → ReceivedSound x → (received_faults xs ≡ [] → AllReceived xs) → received_faults (x ∷ xs) ≡ [] → AllReceived (x ∷ xs)
received_both x xs h g e =
    let a = h (front_clean x.faults (received_faults xs) e) in
    let b = g (back_clean x.faults (received_faults xs) e) in
    (joined_there IsWholeTarget x.tree (received_trees xs) a.0 b.0, ap (λ (z : Bool). z || list_any has_fault (receiving.givens xs)) a.1 ∙ b.1)

items_received_sound : (s : Scope) (xs : List InputItem) → IsKnownScope s → received_faults (items_received s xs) ≡ [] → AllReceived (items_received s xs)
items_received_sound s [] known e = (tt, refl)
items_received_sound s (x ∷ xs) known e = received_both (item_received s x) (items_received s xs) (item_received_sound s x known) (items_received_sound s xs known) e

details_received_sound : (s : Scope) (ds : List Detail) → list_any is_type_part ds ≡ false → IsKnownScope s → received_faults (details_received s ds) ≡ [] → AllReceived (details_received s ds)
details_received_sound s [] is known e = (tt, refl)
details_received_sound s (x ∷ ds) is known e =
    let both = no_either (is_type_part x) (list_any is_type_part ds) is in
    received_both (detail_received s x) (details_received s ds) (detail_received_sound s x both.0 known) (details_received_sound s ds both.1 known) e

-- ---- a timer gives one time

abbrev time_of_trees : TypedElement → Option (List TypedTarget) → Option TypedInput
time_of_trees el None = None
time_of_trees el (Some xs) = time_of el xs

named_reported : (b f : Bool) (root : List ℕ) → f ≡ false → (if b || f then [] else matching.named code.P1 root) ≡ [] → b ≡ true
named_reported true f root is e = refl
named_reported false true root is e = absurd cc
named_reported false false root is e = absurd cc

one_time : (s : Scope) (el : TypedElement) (x : InputItem) (root : List ℕ) → IsWholeElement el → Has IsWholeTarget (item_received s x).tree → has_fault (item_received s x).given ≡ false → unmet root (meets (i.Value int) (item_received s x).given) (item_received s x).given ≡ []
    → Has IsWholeInput (time_of_trees el (joined (one_part (item_received s x).tree) (Some [])))
one_time s el (into.Plain y) root w h f e = plain_time (element_tree s y) h where
  plain_time : (o : Option TypedElement) → Has IsWholeTarget (single_target o) → Has IsWholeInput (time_of_trees el (joined (one_part (single_target o)) (Some [])))
  plain_time None g = g
  plain_time (Some z) g = (w, g)
one_time s el (into.Counted n y) root w h f e =
    let x = g.Counted (target_of s n).kind (target_of s y).kind in
    let met = named_reported (meets (i.Value int) x) (has_fault x) root f e in
    let never : false ≡ true = sym (meets_value int x) ∙ met in
    absurd cc

another_reported : (b : Bool) (root : List ℕ) → b ≡ false → (if b then [] else matching.named code.P1 root) ≡ [] → ⊥
another_reported true root is e = absurd cc
another_reported false root is e = absurd cc

against_if_one : (b : Bool) (s : Scope) (el : TypedElement) (x : InputItem) (xs : List InputItem) (root : List ℕ) → IsWholeElement el → (b ≡ true → length xs ≡ 0) → AllReceived (items_received s (x ∷ xs)) → (received_faults (items_received s (x ∷ xs)) ≡ []) → IsKnownScope s
    → (if b then each_unmet root (i.Value int ∷ []) (receiving.givens (items_received s (x ∷ xs))) else of_another_number root (receiving.givens (items_received s (x ∷ xs)))) ≡ []
    → Has IsWholeInput (time_of_trees el (received_trees (items_received s (x ∷ xs))))
against_if_one true s el x [] root w one all own known e =
    let r = item_received_sound s x known (front_clean (item_received s x).faults [] own) in
    one_time s el x root w r.0 r.1 (front_clean (unmet root (meets (i.Value int) (item_received s x).given) (item_received s x).given) [] e)
against_if_one true s el x (y ∷ xs) root w one all own known e = let z = one refl in absurd (omega (arith, z))
against_if_one false s el x xs root w one all own known e = absurd (another_reported (list_any has_fault (receiving.givens (items_received s (x ∷ xs)))) root all.1 e)

givens_length : (s : Scope) (xs : List InputItem) → length (receiving.givens (items_received s xs)) ≡ length xs
givens_length s [] = refl
givens_length s (x ∷ xs) = ap suc (givens_length s xs)

time_there : (s : Scope) (el : TypedElement) (x : InputItem) (xs : List InputItem) (root : List ℕ) → IsWholeElement el → IsKnownScope s → received_faults (items_received s (x ∷ xs)) ≡ [] → against root (i.Value int ∷ []) (receiving.givens (items_received s (x ∷ xs))) ≡ []
    → Has IsWholeInput (time_of_trees el (received_trees (items_received s (x ∷ xs))))
time_there s el x xs root w known own e =
    let gs = receiving.givens (items_received s (x ∷ xs)) in
    against_if_one (length (i.Value int ∷ []) == length gs) s el x xs root w
    (λ h. let a : 1 ≡ length gs = same_number 1 (length gs) h in let b : length gs ≡ suc (length xs) = givens_length s (x ∷ xs) in omega (arith, a, b))
    (items_received_sound s (x ∷ xs) known own) own known e

-- ---- inputs

plain_some : (el : Option TypedElement) (xs : Option (List TypedTarget)) → Has IsWholeElement el → Has (AllAre IsWholeTarget) xs → Has IsWholeInput (plain_input false el xs)
plain_some None xs h g = h
plain_some (Some el) None h g = g
plain_some (Some el) (Some xs) h g = (h, g)

timed_some : (el : Option TypedElement) (xs : Option (List TypedTarget)) → Has IsWholeElement el → Has (AllAre IsWholeTarget) xs → ((z : TypedElement) → IsWholeElement z → Has IsWholeInput (time_of_trees z xs)) → Has IsWholeInput (plain_input true el xs)
timed_some None xs h g f = h
timed_some (Some el) None h g f = g
timed_some (Some el) (Some xs) h g f = f el h

plain_by : (s : Scope) (c : Carrier) (root : List ℕ) (el : Option TypedElement) (x : InputItem) (xs : List InputItem) → IsKnownScope s → Has IsWholeElement el → received_faults (items_received s (x ∷ xs)) ≡ [] → received c root (receiving.givens (items_received s (x ∷ xs))) ≡ []
    → Has IsWholeInput (plain_input (is_timer c) el (received_trees (items_received s (x ∷ xs))))
plain_by s Hidden root el x xs known h own e = plain_some el (received_trees (items_received s (x ∷ xs))) h (items_received_sound s (x ∷ xs) known own).0
plain_by s Nothing root el x xs known h own e = plain_some el (received_trees (items_received s (x ∷ xs))) h (items_received_sound s (x ∷ xs) known own).0
plain_by s Data root el x xs known h own e = plain_some el (received_trees (items_received s (x ∷ xs))) h (items_received_sound s (x ∷ xs) known own).0
plain_by s (Sequence items) root el x xs known h own e = plain_some el (received_trees (items_received s (x ∷ xs))) h (items_received_sound s (x ∷ xs) known own).0
plain_by s (Variant tags) root el x xs known h own e = plain_some el (received_trees (items_received s (x ∷ xs))) h (items_received_sound s (x ∷ xs) known own).0
plain_by s Time root el x xs known h own e =
    timed_some el (received_trees (items_received s (x ∷ xs))) h (items_received_sound s (x ∷ xs) known own).0 (λ z w. time_there s z x xs root w known own e)

plain_there : (s : Scope) (el : Element) (x : InputItem) (xs : List InputItem) → IsKnownScope s → plain_faults s el (x ∷ xs) ≡ [] → Has IsWholeInput (plain_tree s el (x ∷ xs))
unfolding plain_faults plain_tree
plain_there s el x xs known e =
    let ys = items_received s (x ∷ xs) in
    let last = received (carrier_of s el) (root_of s el) (receiving.givens ys) in
    let rest = back_clean (through s el).faults (received_faults ys ++ last) e in
    plain_by s (carrier_of s el) (root_of s el) (element_tree s el) x xs known (through_known s el known (front_clean (through s el).faults (received_faults ys ++ last) e)).tree
    (front_clean (received_faults ys) last rest) (back_clean (received_faults ys) last rest)

after_is : (el : Option TypedElement) (t : Option TypedExpr) → Has IsWholeElement el → Has IsWholeExpr t → Has IsWholeInput (after_input el t)
after_is None t h g = h
after_is (Some el) None h g = g
after_is (Some el) (Some t) h g = (h, g)

time_placed : (s : Scope) (e : Expr) → IsKnownScope s → time_faults s e ≡ [] → Has IsWholeExpr (int_tree s e)
unfolding time_faults int_tree
time_placed s e known c =
    let x = (expr_view e).said s in
    let y = (judged x.term).under int in
    placed_as int y.kind ((expr_view e).open_expr s) int_known ((said_sound s e known (front_clean x.faults y.faults c)).wanted int (back_clean x.faults y.faults c))

after_there : (s : Scope) (el : Element) (e : Expr) → IsKnownScope s → after_faults s el e ≡ [] → Has IsWholeInput (after_tree s el e)
unfolding after_faults after_tree
after_there s el e known c =
    let last = awaited (carrier_of s el) (root_of s el) in
    let rest = back_clean (through s el).faults (time_faults s e ++ last) c in
    after_is (element_tree s el) (int_tree s e) (through_known s el known (front_clean (through s el).faults (time_faults s e ++ last) c)).tree (time_placed s e known (front_clean (time_faults s e) last rest))

at_tag : (el : TypedElement) (place : Option ℕ) (tag : List ℕ) (xs : List TypedTarget) → IsWholeElement el → IsThere place → AllAre IsWholeTarget xs → Has IsWholeInput (tagged_at el place tag xs)
at_tag el None tag xs w h g = h
at_tag el (Some n) tag xs w h g = (w, g)

tagged_is : (el : Option TypedElement) (place : Option ℕ) (tag : List ℕ) (xs : Option (List TypedTarget)) → Has IsWholeElement el → IsThere place → Has (AllAre IsWholeTarget) xs → Has IsWholeInput (tagged_input el place tag xs)
tagged_is None place tag xs h g f = h
tagged_is (Some el) place tag None h g f = f
tagged_is (Some el) place tag (Some xs) h g f = at_tag el place tag xs h g f

tagged_there : (s : Scope) (el : Element) (tag : List ℕ) (xs : List InputItem) → IsKnownScope s → tagged_faults s el tag xs ≡ [] → Has IsWholeInput (tagged_tree s el tag xs)
unfolding tagged_faults tagged_tree
tagged_there s el tag xs known e =
    let ys = items_received s xs in
    let c = carrier_of s el in
    let last = exchanged c (root_of s el) (Some tag) (receiving.givens ys) in
    let rest = back_clean (through s el).faults (received_faults ys ++ last) e in
    let r = through_known s el known (front_clean (through s el).faults (received_faults ys ++ last) e) in
    tagged_is (element_tree s el) (tag_place c tag) tag (received_trees ys) r.tree
    (clear c (root_of s el) (Some tag) (receiving.givens ys) r.carrier (back_clean (received_faults ys) last rest)).1
    (items_received_sound s xs known (front_clean (received_faults ys) last rest)).0

pub input_there : (s : Scope) (x : Input) → IsKnownScope s → input_faults s x ≡ [] → Has IsWholeInput (input_tree s x)
input_there s (input.Plain el x xs) known e = plain_there s el x xs known e
input_there s (input.After el t) known e = after_there s el t known e
input_there s (input.Tagged el tag xs) known e = tagged_there s el tag xs known e

-- ---- case inputs and their variants

-- the tags that its variants name are known
abbrev pub IsVariants : Carrier → Type 0
IsVariants Hidden = ⊥
IsVariants Nothing = ⊥
IsVariants Time = ⊥
IsVariants Data = ⊥
IsVariants (Sequence items) = ⊥
IsVariants (Variant tags) = any_of (tags_unknown tags) ≡ false

cased_known : (c : Carrier) (root : List ℕ) → KnownCarrier c → cased c root ≡ [] → IsVariants c
cased_known Hidden root h e = h
cased_known Nothing root h e = absurd cc
cased_known Time root h e = absurd cc
cased_known Data root h e = absurd cc
cased_known (Sequence items) root h e = absurd cc
cased_known (Variant tags) root h e = h

pub record CaseKnown (s : Scope) (el : Element) : Type 0 where
  pub variants : IsVariants (carrier (begun s el).channel)
  pub tree : Has IsWholeElement (element_tree s el)

pub case_known : (s : Scope) (el : Element) → IsKnownScope s → case_faults s el ≡ [] → CaseKnown s el
unfolding case_faults begun
case_known s el known e =
    let last = cased (carrier_of s el) (root_of s el) in
    let r = through_known s el known (front_clean (through s el).faults last e) in
    record { variants = cased_known (carrier_of s el) (root_of s el) r.carrier (back_clean (through s el).faults last e); tree = r.tree }

variant_placed : (c : Carrier) (root tag : List ℕ) (xs : List Given) → IsVariants c → alternative c root tag xs ≡ [] → IsThere (tag_place c tag)
variant_placed Hidden root tag xs h e = absurd h
variant_placed Nothing root tag xs h e = absurd h
variant_placed Time root tag xs h e = absurd h
variant_placed Data root tag xs h e = absurd h
variant_placed (Sequence items) root tag xs h e = absurd h
variant_placed (Variant tags) root tag xs h e = (clear (Variant tags) root (Some tag) xs h e).1

abbrev pub IsWholeVariant : TypedVariant → Type 0
IsWholeVariant x = AllAre IsWholeTarget x.targets

variant_is : (place : Option ℕ) (tag : List ℕ) (xs : Option (List TypedTarget)) → IsThere place → Has (AllAre IsWholeTarget) xs → Has IsWholeVariant (variant_at place tag xs)
variant_is None tag xs h g = h
variant_is (Some n) tag None h g = g
variant_is (Some n) tag (Some xs) h g = g

pub variant_there : (s : Scope) (x : CaseInput) (tag : List ℕ) (ds : List Detail) → list_any is_type_part ds ≡ false → IsKnownScope s → IsVariants (carrier x.channel) → variant_faults s x tag ds ≡ [] → Has IsWholeVariant (variant_tree s x tag ds)
unfolding variant_faults variant_tree
variant_there s x tag ds is known h e =
    let xs = details_received s ds in
    let c = carrier x.channel in
    let reported = alternative c x.root tag (receiving.givens xs) in
    let last = repeated c x.tags tag in
    let rest = back_clean (received_faults xs) (reported ++ last) e in
    variant_is (tag_place c tag) tag (received_trees xs) (variant_placed c x.root tag (receiving.givens xs) h (front_clean reported last rest))
    (details_received_sound s ds is known (front_clean (received_faults xs) (reported ++ last) e)).0
