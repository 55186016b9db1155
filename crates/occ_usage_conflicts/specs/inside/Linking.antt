-- Where uses stand in a list, by their buckets: of each bucket the last place, and of each place the one before it in its bucket.
-- Each number is one more than a place, and 0 where there is none.
use Rattle.std.specs.Prelude.{◌≡◌, ℕ, suc, ◌<◌, ◌≤◌, Bool, false, Option, Some, None, List, length, slice_get}
use Rattle.occ_usage_values.specs.declared.uses.Use.{Use}
use Rattle.occ_usage_conflicts.specs.Distinct.{same_use}
use Rattle.occ_usage_conflicts.specs.inside.Numbering.{bucket_of}

abbrev pub is_use : Use → Option Use → Bool
is_use u None = false
is_use u (Some x) = same_use x u

abbrev pub or_none : Option ℕ → ℕ
or_none None = 0
or_none (Some n) = n

abbrev pub linked : List ℕ → ℕ → ℕ
linked numbers at = or_none (slice_get numbers at)

-- with so many buckets
pub record AreLinked (count : ℕ) (heads before : List ℕ) (found : List Use) : Type 0 where
  pub some : 0 < count
  pub all : length heads ≡ count
  pub each : length before ≡ length found
  -- the use at a place stands before what its bucket begins with, and before each place after it in its bucket
  pub last : (p : ℕ) (u : Use) → slice_get found p ≡ Some u → p < linked heads (bucket_of u count)
  pub next : (p q : ℕ) (u v : Use) → slice_get found p ≡ Some u → slice_get found q ≡ Some v → bucket_of u count ≡ bucket_of v count → p < q → p < linked before q
  -- each bucket has places of its own
  pub own : (at p : ℕ) (u : Use) → linked heads at ≡ suc p → slice_get found p ≡ Some u → bucket_of u count ≡ at
  pub same : (q p : ℕ) (u v : Use) → linked before q ≡ suc p → slice_get found p ≡ Some u → slice_get found q ≡ Some v → bucket_of u count ≡ bucket_of v count
  pub within : (at : ℕ) → linked heads at ≤ length found
  pub back : (q : ℕ) → linked before q ≤ q

abbrev pub IsLinked : List ℕ → List ℕ → List Use → Type 0
IsLinked heads before found = AreLinked (length heads) heads before found
