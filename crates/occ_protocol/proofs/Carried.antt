-- What a channel carries, protocol by protocol.
use Rattle.std.proofs.Common.{◌≡◌, ◌∙◌, ℕ, List, ap, sym}
use Rattle.occ_types.specs.declared.types.Item.{Item}
use Rattle.occ_types.specs.declared.types.Item.TheFolds.{fold-Protocol, fold-roll-Protocol}
use Rattle.occ_types.specs.declared.types.Item.TheOpen.{Protocol-F}
use Rattle.occ_types.specs.declared.types.Protocol.{Protocol}
use Rattle.occ_types.specs.declared.types.Protocol.TheVariants as p
use Rattle.occ_types.specs.declared.types.Tag.{Tag}
use Rattle.occ_types.proofs.Agreeing.{as_defined_at_defined, as_sequence_at_sequence, as_variant_at_variant}
use Rattle.occ_protocol.specs.Carrying.{Carrier, carried, protocol_step, sequence, through_name, variant}
use Rattle.occ_protocol.specs.Carrying.Carrier.{Data, Sequence, Variant}

abbrev folded : Protocol → Protocol → Carrier
folded = fold-Protocol (Unit {0}) (Unit {0}) (Protocol → Carrier) (Unit {0}) (Unit {0}) (λ _. tt) (λ _. tt) protocol_step (λ _. tt) (λ _. tt)

at : (c : Protocol) (f g : Protocol → Carrier) → f ≡ g → f c ≡ g c
at c f g e = ap (λ (h : Protocol → Carrier). h c) e

pub carried_at_any : carried p.Any ≡ Data
unfolding carried
carried_at_any = at p.Any _ _ (ap folded (sym p.rolls-Any) ∙ fold-roll-Protocol (Unit {0}) (Unit {0}) (Protocol → Carrier) (Unit {0}) (Unit {0}) (λ _. tt) (λ _. tt) protocol_step (λ _. tt) (λ _. tt) Protocol-F.Any)

pub carried_at_sequence : (items : List Item) → carried (p.Sequence items) ≡ Sequence items
unfolding carried
carried_at_sequence items = at (p.Sequence items) _ _ (ap folded (sym (p.rolls-Sequence items)) ∙ fold-roll-Protocol (Unit {0}) (Unit {0}) (Protocol → Carrier) (Unit {0}) (Unit {0}) (λ _. tt) (λ _. tt) protocol_step (λ _. tt) (λ _. tt) (Protocol-F.Sequence items)) ∙ ap sequence (as_sequence_at_sequence items)

pub carried_at_variant : (tags : List Tag) → carried (p.Variant tags) ≡ Variant tags
unfolding carried
carried_at_variant tags = at (p.Variant tags) _ _ (ap folded (sym (p.rolls-Variant tags)) ∙ fold-roll-Protocol (Unit {0}) (Unit {0}) (Protocol → Carrier) (Unit {0}) (Unit {0}) (λ _. tt) (λ _. tt) protocol_step (λ _. tt) (λ _. tt) (Protocol-F.Variant tags)) ∙ ap variant (as_variant_at_variant tags)

pub carried_at_defined : (name : List ℕ) (inner : Protocol) → carried (p.Defined name inner) ≡ carried inner
unfolding carried
carried_at_defined name inner = at (p.Defined name inner) _ _ (ap folded (sym (p.rolls-Defined name inner)) ∙ fold-roll-Protocol (Unit {0}) (Unit {0}) (Protocol → Carrier) (Unit {0}) (Unit {0}) (λ _. tt) (λ _. tt) protocol_step (λ _. tt) (λ _. tt) (Protocol-F.Defined name inner)) ∙ ap (through_name (folded inner)) (as_defined_at_defined name inner)

pub ruleset carried_rules = (carried_at_any, carried_at_sequence, carried_at_variant, carried_at_defined)
