-- The set of numbers that are kept in order.
use Rattle.std.specs.Prelude.{ℤ, ◌≡◌, List, [], ◌∷◌}
use Rattle.std.specs.BTreeSet.{BTreeSet}
use Rattle.std.specs.List.Sorted.{IsStrictlySortedBy}
use Rattle.std.specs.Ordering.{int_cmp}
use Rattle.std.specs.declared.cmp.Ordering.TheVariants.{Less}
use Rattle.occ_typing_rules.specs.declared.option_numbers.Numbers.{Numbers}
use Rattle.occ_typing_rules.specs.declared.option_numbers.Numbers.TheVariants as n

abbrev pub set_of : Numbers → BTreeSet ℤ
set_of (n.Rising numbers) = record { keys = numbers.items }
set_of (n.Any set) = set

abbrev pub AreInOrder : Numbers → Type 0
AreInOrder (n.Rising numbers) = IsStrictlySortedBy int_cmp numbers.items
AreInOrder (n.Any set) = Unit {0}

-- the last number, if there is one, is below this one
abbrev pub IsLastBelow : List ℤ → ℤ → Type 0
IsLastBelow [] number = Unit {0}
IsLastBelow (x ∷ []) number = int_cmp x number ≡ Less
IsLastBelow (x ∷ y ∷ more) number = IsLastBelow (y ∷ more) number
