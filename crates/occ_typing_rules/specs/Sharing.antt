-- How much there is of something, against how much a type takes of it.
use Rattle.std.specs.Prelude.{ℕ, zero, suc, ◌/◌, ◌%◌, nat_eq, Bool, Option, Some, None, List, [], ◌∷◌, if◌then◌else◌}
use Rattle.occ_types.specs.Size.{bytes_in, product_of}
use Rattle.occ_typing_rules.specs.declared.sharing.Opens.{Opens}
use Rattle.occ_typing_rules.specs.declared.sharing.Opens.TheVariants as opens
use Rattle.occ_typing_rules.specs.declared.sharing.Share.{Share}
use Rattle.occ_typing_rules.specs.declared.sharing.Share.TheVariants as share

-- so many times; not known over 2147483647
abbrev pub times : Option ℕ → Option ℕ → Option ℕ
times n amount = bytes_in (product_of n amount)

-- of the unit after these dimensions
abbrev pub whole : List (Option ℕ) → Option ℕ → Option ℕ
whole [] unit = unit
whole (d ∷ ds) unit = times d (whole ds unit)

-- each `[]` counted once
abbrev pub rest : List (Option ℕ) → Option ℕ → Option ℕ
rest [] unit = unit
rest (None ∷ ds) unit = rest ds unit
rest (Some n ∷ ds) unit = times (Some n) (rest ds unit)

abbrev pub one_more : Opens → Opens
one_more opens.None = opens.One
one_more opens.One = opens.Several
one_more opens.Several = opens.Several

-- the `[]` among these dimensions
abbrev pub opens_in : List (Option ℕ) → Opens
opens_in [] = opens.None
opens_in (None ∷ ds) = one_more (opens_in ds)
opens_in (Some n ∷ ds) = opens_in ds

abbrev pub even_if : Bool → Share
even_if test = if test then share.Even else share.Uneven

-- a multiple of what the type takes
abbrev pub multiple : (ℕ → Share) → ℕ → ℕ → Share
multiple divided zero amount = even_if (nat_eq amount 0)
multiple divided (suc r) amount = if nat_eq (amount % suc r) 0 then divided (amount / suc r) else share.Uneven

-- in place of one `[]` stand as many components as there is for; of several nothing is said
abbrev pub shared : Opens → ℕ → ℕ → Share
shared opens.None r amount = even_if (nat_eq r amount)
shared opens.One r amount = multiple share.Sized r amount
shared opens.Several r amount = multiple (λ n. share.Even) r amount

-- with these `[]`, what the type takes besides, and how much there is; what is not known fits
abbrev pub share_of : Opens → Option ℕ → Option ℕ → Share
share_of dims None amount = share.Even
share_of dims (Some r) None = share.Even
share_of dims (Some r) (Some amount) = shared dims r amount
