-- The variants of a case input: each tag once.
use Rattle.std.specs.Prelude.{ℕ, Option, Some, None, List, [], ◌∷◌, ◌++◌, if◌then◌else◌}
use Rattle.occ_base.specs.declared.fault.Fault.{Fault}
use Rattle.occ_scope.specs.declared.scope.Scope.{Scope}
use Rattle.occ_protocol.specs.Carrying.{Carrier, carrier}
use Rattle.occ_protocol.specs.Lines.{alternative, lacks, tag_place}
use Rattle.occ_scope.specs.Nearest.{nearest}
use Rattle.occ_typing_rules.specs.Listing.{repetition}
use Rattle.occ_forms_expressions.specs.declared.tree.Element.{Element}
use Rattle.occ_forms.specs.declared.tree.Detail.{Detail}
use Rattle.occ_typing_statements.specs.Receiving.{Received, details_received, givens, received_faults, received_trees}
use Rattle.occ_typing_statements.specs.Through.{root_of, through}
use Rattle.occ_typing_statements.specs.declared.exchange_tree.TypedTarget.{TypedTarget}
use Rattle.occ_typing_statements.specs.declared.variants.CaseInput.{CaseInput}
use Rattle.occ_typing_statements.specs.declared.variants.TypedVariant.{TypedVariant}

-- before its first variant
unfoldable pub begun : Scope → Element → CaseInput
begun s el = record { channel = (through s el).kind; root = root_of s el; tags = [] }

-- a tag that the protocol has not is reported as such, and not once more
abbrev pub repeated : Carrier → List (List ℕ) → List ℕ → List Fault
repeated c before tag = if lacks c tag then [] else repetition tag (nearest before tag)

abbrev pub variant_of : CaseInput → List ℕ → List Received → List Fault
variant_of x tag xs =
    let c = carrier x.channel in
    received_faults xs ++ (alternative c x.root tag (givens xs) ++ repeated c x.tags tag)

unfoldable pub variant_faults : Scope → CaseInput → List ℕ → List Detail → List Fault
variant_faults s x tag ds = variant_of x tag (details_received s ds)

-- after a variant with this tag
abbrev pub with_tag : CaseInput → List ℕ → CaseInput
with_tag x tag = record { channel = x.channel; root = x.root; tags = x.tags ++ tag ∷ [] }

abbrev pub variant_at : Option ℕ → List ℕ → Option (List TypedTarget) → Option TypedVariant
variant_at None tag xs = None
variant_at (Some place) tag None = None
variant_at (Some place) tag (Some xs) = Some (record { place = place; tag = tag; targets = xs })

unfoldable pub variant_tree : Scope → CaseInput → List ℕ → List Detail → Option TypedVariant
variant_tree s x tag ds = variant_at (tag_place (carrier x.channel) tag) tag (received_trees (details_received s ds))
