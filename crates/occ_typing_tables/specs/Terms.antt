-- What is reported of an operand where a type is wanted of it or none is, and what is known of it then. A table takes its
-- type item by item.
use Rattle.std.specs.Prelude.{ℕ, nat_le, Bool, true, false, ◌&&◌, ◌||◌, not, Option, Some, None, List, [], ◌∷◌, ◌++◌, length, map, if◌then◌else◌}
use Rattle.std.specs.List.{list_any}
use Rattle.occ_base.specs.declared.code.Code.TheVariants as code
use Rattle.occ_types.specs.Fits.{is_data}
use Rattle.occ_types.specs.View.{as_array}
use Rattle.occ_types.specs.declared.types.OccType.{OccType}
use Rattle.occ_typing_operands.specs.Operators.{all_faults, is_faulty, kinds, needs_faulty}
use Rattle.occ_typing_operands.specs.Settling.{Finding, fault_of, int, known, settled, silent}
use Rattle.occ_typing_operands.specs.Wanting.{fitted, wanted}
use Rattle.occ_base.specs.declared.fault.Fault.{Fault}
use Rattle.occ_typing_operands.specs.declared.kind.Kind.{Kind}
use Rattle.occ_typing_operands.specs.declared.kind.Kind.TheVariants as k
use Rattle.occ_typing_tables.specs.Extents.{arrayed}
use Rattle.occ_typing_tables.specs.Merging.{merged}
use Rattle.occ_typing_tables.specs.declared.table.Settled.{Settled}
use Rattle.occ_typing_tables.specs.declared.term.Term.{Term}
use Rattle.occ_typing_tables.specs.declared.term.Term.TheFolds.{fold-Term}
use Rattle.occ_typing_tables.specs.declared.term.Term.TheOpen.{Term-F}

-- what is reported first, and then of what is known
abbrev pub and_then : Finding → (Kind → Finding) → Finding
and_then x next = let y = next x.kind in record { faults = x.faults ++ y.faults; kind = y.kind }

abbrev pub is_untyped_kind : Kind → Bool
is_untyped_kind k.Faulty = false
is_untyped_kind (k.Untyped f) = true
is_untyped_kind (k.Known x) = false

-- ---- the type of a table from those of its items

-- with one item more, if they agree so far
abbrev pub merged_next : Option OccType → Kind → Option OccType
merged_next None k = None
merged_next (Some of) k.Faulty = Some of
merged_next (Some of) (k.Untyped f) = Some of
merged_next (Some of) (k.Known x) = merged of x.of

abbrev pub merged_all : Option OccType → List Kind → Option OccType
merged_all of [] = of
merged_all of (k ∷ ks) = merged_all (merged_next of k) ks

abbrev pub so_many : ℕ → OccType → Finding
so_many n of = if nat_le n 4294967295 then arrayed (Some n) of else fault_of code.T9

-- items are data: no channels, no timers and no arrays of them
abbrev pub table_type : ℕ → Option OccType → Finding
table_type n None = fault_of code.T2
table_type n (Some of) = if is_data of then so_many n of else fault_of code.T2

-- nothing more is reported of a whole with a faulty item
abbrev pub unless_faulty : List Kind → Finding → Finding
unless_faulty ks whole = if list_any is_faulty ks then silent else whole

-- what is reported of items, and then of the whole
abbrev pub with_items : List Finding → Finding → Finding
with_items xs whole = let y = unless_faulty (kinds xs) whole in record { faults = all_faults xs ++ y.faults; kind = y.kind }

-- the type of the first item; this one, if there is none
abbrev pub first_type : OccType → List Kind → OccType
first_type of [] = of
first_type of (k.Faulty ∷ ks) = first_type of ks
first_type of (k.Untyped f ∷ ks) = first_type of ks
first_type of (k.Known x ∷ ks) = x.of

-- settled items, of which this type was wanted, must agree with one another
abbrev pub items_type : OccType → List Kind → Finding
items_type of ks = table_type (length ks) (merged_all (Some (first_type of ks)) ks)

abbrev pub joined : OccType → List Finding → Finding
joined of xs = with_items xs (items_type of (kinds xs))

-- ---- where a fault hides what is wanted

abbrev pub first_known : List Kind → Option OccType
first_known [] = None
first_known (k.Faulty ∷ ks) = first_known ks
first_known (k.Untyped f ∷ ks) = first_known ks
first_known (k.Known x ∷ ks) = Some x.of

abbrev pub first_untyped : List Kind → Kind
first_untyped [] = k.Faulty
first_untyped (k.Faulty ∷ ks) = first_untyped ks
first_untyped (k.Untyped f ∷ ks) = k.Untyped f
first_untyped (k.Known x ∷ ks) = first_untyped ks

abbrev pub as_it_is : Kind → Finding
as_it_is k = record { faults = []; kind = k }

-- a table of free items alone is as free as they; all other items agree with one another, whatever is wanted of them
abbrev pub hidden_type : List Kind → Option OccType → Finding
hidden_type ks None = as_it_is (first_untyped ks)
hidden_type ks (Some of) = table_type (length ks) (merged_all (Some of) ks)

abbrev pub all_hidden : List Finding → Finding
all_hidden xs = with_items xs (hidden_type (kinds xs) (first_known (kinds xs)))

-- ---- operands, tables among them

-- an operand: whether it is free, whether something in it is faulty, what is reported of it where no type is wanted, where one
-- is, before it is compared with it and then, where a fault hides what is wanted, and beside other operands, of which one
-- has a fault or none has
pub record Judged : Type 0 where
  pub is_untyped : Bool
  pub is_faulty : Bool
  pub alone : Finding
  pub settled : OccType → Settled
  pub under : OccType → Finding
  pub hidden : Finding
  pub beside : Bool → Finding

-- something in it is faulty once types are settled, not for being of another type than the one that is wanted
abbrev pub is_faulty_settled : Settled → Bool
is_faulty_settled y = y.is_faulty

abbrev pub reported_of : Settled → Finding
reported_of y = record { faults = y.faults; kind = y.kind }

abbrev pub settled_so : Finding → Bool → Settled
settled_so y is_faulty = record { faults = y.faults; kind = y.kind; is_faulty = is_faulty }

-- what is faulty itself
abbrev pub settled_itself : Finding → Settled
settled_itself y = settled_so y (is_faulty y.kind)

abbrev pub settled_under : OccType → Judged → Settled
settled_under of x = x.settled of

abbrev pub under : OccType → Judged → Finding
under of x = x.under of

abbrev pub alone : Judged → Finding
alone x = x.alone

abbrev pub hidden : Judged → Finding
hidden x = x.hidden

-- where a fault hides what is wanted of them
abbrev pub hidden_faults : List Judged → List Fault
hidden_faults xs = all_faults (map hidden xs)

-- what is settled must be of the type
abbrev pub fitted_to : OccType → Settled → Finding
fitted_to of y = and_then (reported_of y) (fitted of)

abbrev pub has_fault : Judged → Bool
has_fault x = x.is_faulty

-- Whether an item stands as it was settled, beside a faulty one. A type that is wanted of the table from outside stands for
-- what is free. The type of another item stands only where no item has a fault of its own, for what has one by that type.
abbrev pub stands : Bool → Bool → Settled → Judged → Bool
stands true has_own y x = y.is_faulty || x.is_untyped
stands false has_own y x = y.is_faulty && not has_own

-- else it is judged alone: beside a faulty item nothing more is wanted of it
abbrev pub own_or_alone : Bool → Bool → Settled → Judged → Finding
own_or_alone from_outside has_own y x = if stands from_outside has_own y x then record { faults = y.faults; kind = k.Faulty } else x.alone

abbrev pub each_own_or_alone : Bool → Bool → List Settled → List Judged → List Finding
each_own_or_alone from_outside has_own ys [] = []
each_own_or_alone from_outside has_own [] (x ∷ xs) = []
each_own_or_alone from_outside has_own (y ∷ ys) (x ∷ xs) = own_or_alone from_outside has_own y x ∷ each_own_or_alone from_outside has_own ys xs

abbrev pub fitted_or_alone : Bool → OccType → List Settled → List Judged → List Finding
fitted_or_alone from_outside of ys xs =
    if list_any is_faulty_settled ys then each_own_or_alone from_outside (list_any has_fault xs) ys xs else map (fitted_to of) ys

-- items, of each of which the type is wanted, as far as none is faulty: from outside, or by one of them
abbrev pub each_under : Bool → OccType → List Judged → List Finding
each_under from_outside of xs = fitted_or_alone from_outside of (map (settled_under of) xs) xs

abbrev pub all_under : Bool → OccType → List Judged → Finding
all_under from_outside of xs = joined of (each_under from_outside of xs)

-- the first item that is not free; if all are, an INT
abbrev pub first_settled : List Judged → Finding
first_settled [] = record { faults = []; kind = known int None }
first_settled (x ∷ xs) = if x.is_untyped then first_settled xs else x.alone

-- the faults of all but that one, before it or after it: each is judged by itself
abbrev pub others_from : Bool → List Judged → List Fault
others_from is_after [] = []
others_from is_after (x ∷ xs) = if is_after || x.is_untyped then x.alone.faults ++ others_from is_after xs else others_from true xs

abbrev pub others_faults : List Judged → List Fault
others_faults xs = others_from false xs

-- the items take the type of this one, if it is not faulty
abbrev pub after_first : List Judged → Kind → Finding
after_first xs k.Faulty = record { faults = others_faults xs; kind = k.Faulty }
after_first xs (k.Untyped f) = silent
after_first xs (k.Known x) = all_under false x.of xs

-- no type is wanted of a table: the first item that is not free decides
abbrev pub table_alone : List Judged → Finding
table_alone xs = and_then (first_settled xs) (after_first xs)

-- where the type of its items is wanted: it is faulty where one of them is
abbrev pub all_settled : Bool → OccType → List Judged → Settled
all_settled from_outside of xs = settled_so (all_under from_outside of xs) (list_any is_faulty_settled (map (settled_under of) xs))

abbrev pub table_of : List Judged → Option (Option ℕ × OccType) → Settled
table_of xs None = settled_itself (table_alone xs)
table_of xs (Some parts) = all_settled true parts.1 xs

-- a type is wanted: the items of an array without a name are wanted to be of its component's
abbrev pub table_settled : List Judged → OccType → Settled
table_settled xs of = table_of xs (as_array of)

abbrev pub table_under : List Judged → OccType → Finding
table_under xs of = fitted_to of (table_settled xs of)

-- no type is wanted of a table beside other operands; one with a fault hides what is
abbrev pub table_beside : List Judged → Bool → Finding
table_beside xs other_has_fault =
    if other_has_fault then record { faults = (all_hidden (map hidden xs)).faults; kind = (table_alone xs).kind } else table_alone xs

abbrev pub term_step : Term-F Judged → Judged
term_step (Term-F.Single k) =
    record { is_untyped = is_untyped_kind k; is_faulty = needs_faulty k; alone = settled int k; settled = λ of. settled_itself (settled of k); under = λ of. wanted of k; hidden = as_it_is k; beside = λ other_has_fault. as_it_is k }
term_step (Term-F.Table xs) =
    record { is_untyped = false; is_faulty = list_any has_fault xs; alone = table_alone xs; settled = table_settled xs; under = table_under xs; hidden = all_hidden (map hidden xs); beside = table_beside xs }

abbrev pub judged : Term → Judged
judged = fold-Term Judged term_step

abbrev pub judged_all : List Term → List Judged
judged_all [] = []
judged_all (x ∷ xs) = judged x ∷ judged_all xs
