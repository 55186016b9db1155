-- The head of a record, whose type is judged whole.
use Rattle.std.specs.Prelude.{ℕ, Some, List}
use Rattle.occ_types.specs.declared.types.Field.{Field}
use Rattle.occ_types.specs.declared.types.OccType.TheVariants as t
use Rattle.occ_types.specs.declared.types.Packing.{Packing}
use Rattle.occ_scope.specs.declared.meaning.Meaning.TheVariants as m
use Rattle.occ_typing_specifications.specs.Defining.{with_name, Defined}

-- the name counts for how large the type is; a type that holds a field with a fault is never too large
unfoldable pub recorded : List ℕ → Packing → List Field → Defined
recorded name packing fields =
    let x = with_name name (Some (t.Record packing fields)) in
    record { faults = x.faults; meaning = m.Type x.found }
