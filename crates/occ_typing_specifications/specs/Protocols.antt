-- Protocols: `PROTOCOL n IS item; ..:`, and the head of one with tags. The whole is judged by its name.
use Rattle.std.specs.Prelude.{ℕ, Bool, not, ◌&&◌, Option, Some, None, List, [], ◌∷◌, ◌++◌, if◌then◌else◌}
use Rattle.occ_base.specs.Reporting.{nameless}
use Rattle.occ_base.specs.declared.code.Code.TheVariants as code
use Rattle.occ_types.specs.Measure.{protocol_measure}
use Rattle.occ_types.specs.Unknown.{holds_unknown}
use Rattle.occ_types.specs.declared.types.Item.{Item}
use Rattle.occ_types.specs.declared.types.OccType.TheVariants as t
use Rattle.occ_types.specs.declared.types.Protocol.{Protocol}
use Rattle.occ_types.specs.declared.types.Protocol.TheVariants as p
use Rattle.occ_types.specs.declared.types.Tag.{Tag}
use Rattle.occ_scope.specs.Lookup.{Found, good}
use Rattle.occ_scope.specs.declared.meaning.Meaning.{Meaning}
use Rattle.occ_scope.specs.declared.meaning.Meaning.TheVariants as m
use Rattle.occ_scope.specs.declared.scope.Scope.{Scope}
use Rattle.occ_typing_tables.specs.Extents.{is_too_wide}
use Rattle.occ_forms.specs.declared.specification_tree.ItemForm.{ItemForm}
use Rattle.occ_typing_specifications.specs.Entering.{Declared, unless_reported}
use Rattle.occ_typing_specifications.specs.Items.{items_of}
use Rattle.occ_typing_specifications.specs.Defining.{Defined}

-- over 128 levels or over 4,096 types, which are not asked of a protocol that holds what has a fault
unfoldable pub is_too_large : Protocol → Bool
is_too_large c = not (holds_unknown (t.Channel c)) && is_too_wide (protocol_measure c)

abbrev pub limited : Protocol → Found Protocol
limited c = if is_too_large c then record { faults = nameless code.T9 ∷ []; found = None } else good c

-- with its name, which counts
abbrev pub defined : List ℕ → Protocol → Found Protocol
defined name c = limited (p.Defined name c)

-- what its name stands for, if nothing is wrong with it
abbrev pub protocol_name : Option Protocol → Meaning
protocol_name None = m.Faulty
protocol_name (Some c) = m.Protocol c

-- ---- of one line

abbrev pub whole : List ℕ → Option (List Item) → Found Protocol
whole name None = record { faults = []; found = None }
whole name (Some items) = defined name (p.Sequence items)

unfoldable pub protocol_reported : Scope → List ℕ → List ItemForm → Found Protocol
protocol_reported s name xs =
    let x = items_of s xs in
    let y = whole name x.items in
    record { faults = x.faults ++ y.faults; found = y.found }

unfoldable pub protocol : Scope → List ℕ → List ItemForm → Declared
protocol s name xs =
    let x = protocol_reported s name xs in
    record { faults = x.faults; adds = (record { name = name; meaning = protocol_name (unless_reported x.faults x.found) }) ∷ [] }

-- ---- with these tags, also where the lines of some have faults

unfoldable pub tagged_protocol : List ℕ → List Tag → Defined
tagged_protocol name tags = let x = defined name (p.Variant tags) in record { faults = x.faults; meaning = protocol_name x.found }
