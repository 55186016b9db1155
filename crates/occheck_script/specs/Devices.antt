-- Bytes that go in and out, where they are known.
use Rattle.std.specs.Prelude.{ℕ, ◌≡◌, ◌+◌, ◌-◌, ◌^◌, min, List, ◌++◌, Option, Some}

-- where the bytes are known, the new ones are the old ones and then these
abbrev pub Appends : Option (List ℕ) → Option (List ℕ) → List ℕ → Type 0
Appends old new more = (w : List ℕ) → old ≡ Some w → new ≡ Some (w ++ more)

-- where the bytes are known, the new ones are the old ones and then a front of these
abbrev pub AppendsFront : Option (List ℕ) → Option (List ℕ) → List ℕ → Type 0
AppendsFront old new all = (w : List ℕ) → old ≡ Some w → (front : List ℕ) × (rest : List ℕ) × (all ≡ front ++ rest) × (new ≡ Some (w ++ front))

-- where the bytes left to read are known, these were the first of them, and the others are left
abbrev pub Gives : Option (List ℕ) → Option (List ℕ) → List ℕ → Type 0
Gives old new got = (bytes : List ℕ) → old ≡ Some bytes → (rest : List ℕ) × (bytes ≡ got ++ rest) × (new ≡ Some rest)

-- a count of bytes goes up, and stays at the greatest number of 64 bits
abbrev pub counted : ℕ → ℕ → ℕ
counted before n = min (before + n) (2 ^ 64 - 1)
