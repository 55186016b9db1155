-- The lines that send and receive.
use Rattle.std.specs.Prelude.{ℕ, Option, Some, None, List, [], ◌∷◌, Bool, true, false}
use Rattle.occ_base.specs.declared.code.Code.TheVariants as code
use Rattle.occ_base.specs.declared.fault.Fault.{Fault}
use Rattle.occ_types.specs.declared.types.Item.TheVariants as i
use Rattle.occ_types.specs.declared.types.Tag.{Tag}
use Rattle.occ_typing_operands.specs.Settling.{int}
use Rattle.occ_protocol.specs.Carrying.{Carrier, place_named, tag_named}
use Rattle.occ_protocol.specs.Carrying.Carrier.{Hidden, Nothing, Time, Data, Sequence, Variant}
use Rattle.occ_protocol.specs.Matching.{against, asked, named, reported}
use Rattle.occ_protocol.specs.declared.given.Given.{Given}

-- an output, or an input after CASE and a tag
abbrev pub exchanged : Carrier → List ℕ → Option (List ℕ) → List Given → List Fault
exchanged c root tag xs = reported root (asked c tag) xs

-- an input without CASE: a timer gives one INT
abbrev pub received : Carrier → List ℕ → List Given → List Fault
received Hidden root xs = exchanged Hidden root None xs
received Nothing root xs = exchanged Nothing root None xs
received Time root xs = against root (i.Value int ∷ []) xs
received Data root xs = exchanged Data root None xs
received (Sequence items) root xs = exchanged (Sequence items) root None xs
received (Variant tags) root xs = exchanged (Variant tags) root None xs

-- `? AFTER`: only a timer is waited for so
abbrev pub awaited : Carrier → List ℕ → List Fault
awaited Hidden root = []
awaited Nothing root = named code.P4 root
awaited Time root = []
awaited Data root = named code.P4 root
awaited (Sequence items) root = named code.P4 root
awaited (Variant tags) root = named code.P4 root

-- a case input, by its first line
abbrev pub cased : Carrier → List ℕ → List Fault
cased Hidden root = []
cased Nothing root = named code.P4 root
cased Time root = named code.P4 root
cased Data root = named code.P3 root
cased (Sequence items) root = named code.P3 root
cased (Variant tags) root = []

-- a variant of a case input: its tag, and the items after it. What the first line reported is not reported again
abbrev pub alternative : Carrier → List ℕ → List ℕ → List Given → List Fault
alternative Hidden root tag xs = []
alternative Nothing root tag xs = []
alternative Time root tag xs = []
alternative Data root tag xs = []
alternative (Sequence items) root tag xs = []
alternative (Variant tags) root tag xs = exchanged (Variant tags) root (Some tag) xs

-- a name alone that is sent first is not looked up: it is a tag, or what it is sent through is not known
abbrev pub takes_tag : Carrier → Bool
takes_tag Hidden = true
takes_tag Nothing = true
takes_tag Time = true
takes_tag Data = false
takes_tag (Sequence items) = false
takes_tag (Variant tags) = true

abbrev pub is_missing : Option Tag → Bool
is_missing None = true
is_missing (Some tag) = false

-- the tag is none of the protocol's, so that P2 reports of it
abbrev pub lacks : Carrier → List ℕ → Bool
lacks Hidden tag = false
lacks Nothing tag = false
lacks Time tag = false
lacks Data tag = false
lacks (Sequence items) tag = false
lacks (Variant tags) tag = is_missing (tag_named tags tag)

-- the place of a tag in the protocol, if it has it
abbrev pub tag_place : Carrier → List ℕ → Option ℕ
tag_place Hidden tag = None
tag_place Nothing tag = None
tag_place Time tag = None
tag_place Data tag = None
tag_place (Sequence items) tag = None
tag_place (Variant tags) tag = place_named tags tag

-- and that of the tag of a message, if it has one
abbrev pub place_after : Carrier → Option (List ℕ) → Option ℕ
place_after c None = None
place_after c (Some tag) = tag_place c tag

abbrev pub is_timer : Carrier → Bool
is_timer Hidden = false
is_timer Nothing = false
is_timer Time = true
is_timer Data = false
is_timer (Sequence items) = false
is_timer (Variant tags) = false
