-- Receipts of edits, and how they agree with a journal. The edits of a journal are numbered on from its base.
use Rattle.std.specs.Prelude.{◌≡◌, ◌<◌, ◌==◌, ◌+◌, ◌-◌, ◌&&◌, nat_lt, ℕ, Bool, true, List, [], ◌∷◌, if◌then◌else◌, Option, Some, None, slice_get}
use Rattle.occ_board.specs.declared.base.Base.{Base}
use Rattle.occ_board.specs.declared.entry.Entry.{Entry}

-- an edit that was accepted with its session, and its number
pub record Numbered : Type 0 where
  pub number : ℕ
  pub entry : Entry

-- what a journal has at a number: nothing at that of its base or an earlier one
abbrev pub entry_at : Base → List Entry → ℕ → Option Entry
entry_at base es n = if nat_lt base.number n then slice_get es (n - (base.number + 1)) else None

-- what receipts have at a number
abbrev pub reported_at : List Numbered → ℕ → Option Entry
reported_at [] n = None
reported_at (t ∷ ts) n = if t.number == n then Some t.entry else reported_at ts n

-- the receipts of these edits, the first of which has number n
abbrev pub receipts_from : ℕ → List Entry → List Numbered
receipts_from n [] = []
receipts_from n (e ∷ es) = (record { number = n; entry = e }) ∷ receipts_from (n + 1) es

-- the receipts of all edits of a journal, in order
abbrev pub receipts_of : Base → List Entry → List Numbered
receipts_of base es = receipts_from (base.number + 1) es

-- each number is greater than the one before, and the first than this
abbrev pub ascends_after : ℕ → List Numbered → Bool
ascends_after n [] = true
ascends_after n (t ∷ ts) = nat_lt n t.number && ascends_after t.number ts

abbrev pub ascends : List Numbered → Bool
ascends ts = ascends_after 0 ts

-- the least number at which receipts and journal do not have the same
pub record IsLeastOff (ts : List Numbered) (base : Base) (es : List Entry) (n : ℕ) : Type 0 where
  pub off : reported_at ts n ≡ entry_at base es n → ⊥
  pub below : (m : ℕ) → m < n → reported_at ts m ≡ entry_at base es m
