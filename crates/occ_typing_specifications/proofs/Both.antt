-- What is reported of parts after others.
use Rattle.std.proofs.Common.{◌≡◌, ◌∙◌, List, [], ◌∷◌, ◌++◌, ap, refl, sym, append_assoc}
use Rattle.occ_base.specs.declared.fault.Fault.{Fault}
use Rattle.occ_forms.specs.declared.tree.Detail.{Detail}
use Rattle.occ_base.specs.Lists.{joined, one_part}
use Rattle.occ_base.proofs.Fronts.{front_of_front, none_in_front}
use Rattle.occ_scope.specs.declared.scope.Scope.{Scope}
use Rattle.occ_types.specs.declared.types.Item.{Item}
use Rattle.std.specs.Prelude.{Option}
use Rattle.occ_typing_specifications.specs.Tags.{detail_item, detail_items}

pub both_faults : (s : Scope) (ds es : List Detail) → (detail_items s (ds ++ es)).faults ≡ (detail_items s ds).faults ++ (detail_items s es).faults
both_faults s [] es = refl
both_faults s (d ∷ ds) es =
    ap (λ (z : List Fault). (detail_item s d).faults ++ z) (both_faults s ds es)
    ∙ sym (append_assoc (detail_item s d).faults (detail_items s ds).faults (detail_items s es).faults)

pub both_items : (s : Scope) (ds es : List Detail) → (detail_items s (ds ++ es)).items ≡ joined (detail_items s ds).items (detail_items s es).items
both_items s [] es = sym (none_in_front (detail_items s es).items)
both_items s (d ∷ ds) es =
    ap (λ (z : Option (List Item)). joined (one_part (detail_item s d).found) z) (both_items s ds es)
    ∙ sym (front_of_front (one_part (detail_item s d).found) (detail_items s ds).items (detail_items s es).items)

pub ruleset both_rules = (both_faults, both_items)
