-- Runs of places, told by a function from the first of each to its last.
use Rattle.std.specs.Prelude.{◌≡◌, ◌≢◌, ◌^◌, ℕ, ◌+◌, ◌≤◌, ◌<◌, Option, Some}
use Rattle.std.specs.BTreeMap.{BTreeMap, get}
use Rattle.std.specs.Ordering.{nat_cmp}

abbrev pub Runs : Type 0
Runs = ℕ → Option ℕ

abbrev pub runs_of : BTreeMap ℕ ℕ → Runs
runs_of m = get nat_cmp m

abbrev pub IsBetween : ℕ → ℕ → ℕ → Type 0
IsBetween first last x = (first ≤ x) × (x ≤ last)

-- a number that is far from the end of those of 128 bits
abbrev pub IsShort : ℕ → Type 0
IsShort x = x < 2 ^ 100

-- a place lies in one of the runs
pub record LiesIn (g : Runs) (x : ℕ) : Type 0 where
  pub first : ℕ
  pub last : ℕ
  pub run : g first ≡ Some last
  pub from : first ≤ x
  pub to : x ≤ last

-- one of the runs has a place between two
abbrev pub HasBetween : Runs → ℕ → ℕ → Type 0
HasBetween g first last = (x : ℕ) × LiesIn g x × IsBetween first last x

-- one of the runs has a place from here on
abbrev pub HasFrom : Runs → ℕ → Type 0
HasFrom g first = (x : ℕ) × LiesIn g x × (first ≤ x)

-- each leads forward, and between two of them lies a place that is in none
pub record AreRuns (g : Runs) : Type 0 where
  pub forward : (a b : ℕ) → g a ≡ Some b → a ≤ b
  pub apart : (a b c d : ℕ) → g a ≡ Some b → g c ≡ Some d → a < c → (b + 1) < c
  pub short_first : (a b : ℕ) → g a ≡ Some b → IsShort a
  pub short_last : (a b : ℕ) → g a ≡ Some b → IsShort b

-- none of the runs meets these places or adjoins them
pub record IsFree (g : Runs) (first last : ℕ) : Type 0 where
  pub before : (c d : ℕ) → g c ≡ Some d → c ≤ (last + 1) → (d + 1) < first

-- one of the runs meets them or adjoins them
pub record Adjoins (g : Runs) (first last a b : ℕ) : Type 0 where
  pub run : g a ≡ Some b
  pub from : a ≤ (last + 1)
  pub to : first ≤ (b + 1)

-- at one place they differ
pub record Changes (g h : Runs) (a : ℕ) (w : Option ℕ) : Type 0 where
  pub at : h a ≡ w
  pub others : (q : ℕ) → q ≢ a → h q ≡ g q
