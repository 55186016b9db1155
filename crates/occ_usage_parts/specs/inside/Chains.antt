-- The numbers of a chain: one in place, or those that it shares, and those of its own after them.
use Rattle.std.specs.Prelude.{List, None, Option, Some, [], ◌++◌, ℕ}
use Rattle.occ_usage_parts.specs.declared.chain.Held.{Held}
use Rattle.occ_usage_parts.specs.declared.chain.Held.TheVariants as h
use Rattle.occ_usage_parts.specs.declared.chain.Links.{Links}

abbrev pub shared_in : Option (List ℕ) → List ℕ
shared_in None = []
shared_in (Some numbers) = numbers

abbrev pub numbers_in : Links → List ℕ
numbers_in l = shared_in l.shared ++ l.own

abbrev pub numbers_of : Held → List ℕ
numbers_of h.Nothing = []
numbers_of (h.One number) = number
numbers_of (h.Linked l) = numbers_in l
