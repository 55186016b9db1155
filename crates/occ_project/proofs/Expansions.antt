-- The expansion of a unit is what is made of its entries.
use Rattle.std.proofs.Common.{◌≡◌, ℕ, List, ◌∷◌, ◌++◌, take, drop, Option, refl, ap, ◌∙◌}
use Rattle.std.specs.List.{flat_map}
use Rattle.occ_base.specs.Firsts.{first_indices}
use Rattle.occ_base.specs.declared.diag.Diag.{Diag}
use Rattle.occ_forms.specs.declared.source.SourceLine.{SourceLine}
use Rattle.occ_project.specs.declared.entry.ExpansionEntry.{ExpansionEntry}
use Rattle.occ_project.specs.declared.expanded.ExpandedLine.{ExpandedLine}
use Rattle.occ_project.specs.declared.making.Made.{Made}
use Rattle.occ_project.specs.declared.reads.Read.{Read}
use Rattle.occ_project.specs.Expansion.{entry_faults, entry_lines, entry_names, expansion, expansion_of, limit_faults, unit_entries}
use Rattle.occ_project.specs.inside.Making.{after, shown, started}
use Rattle.occ_project.specs.Reads.{open_lines}
use Rattle.occ_project.proofs.Made.{made_of}

whole : (lines : List ExpandedLine) (names : List (List ℕ)) (faults : List Diag) (made : Made) → made.lines ≡ lines → made.names ≡ names → made.faults ≡ faults
    → shown made ≡ record { lines = lines; reads = first_indices names; faults = faults }
whole lines names faults made l n f =
    ap (λ (x : List ExpandedLine). record { lines = x; reads = first_indices made.names; faults = made.faults }) l
    ∙ ap (λ (x : List (List ℕ)). record { lines = lines; reads = first_indices x; faults = made.faults }) n
    ∙ ap (λ (x : List Diag). record { lines = lines; reads = first_indices names; faults = x }) f

pub made_is : (limit : ℕ) (unit : List ℕ) (all : List ExpansionEntry) → shown (after (started limit unit) all) ≡ expansion_of limit unit all
made_is limit unit all =
    let h = made_of all (started limit unit) refl in
    whole (flat_map entry_lines (take limit all)) (unit ∷ flat_map entry_names (take limit all)) (flat_map entry_faults (take limit all) ++ limit_faults (drop limit all))
    (after (started limit unit) all) h.lines h.names h.faults

-- the same of the entries of a unit
pub expansion_is : (reads : List Read) (unit : List ℕ) (found : Option (List SourceLine)) (made : Made) → found ≡ open_lines reads unit → made ≡ after (started 65535 unit) (unit_entries reads unit found) → shown made ≡ expansion reads unit
unfolding expansion
expansion_is reads unit found made f e =
    ap shown e ∙ made_is 65535 unit (unit_entries reads unit found)
    ∙ ap (λ (o : Option (List SourceLine)). expansion_of 65535 unit (unit_entries reads unit o)) f
