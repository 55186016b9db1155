-- Which specification a name has at a place: the nearest of those in scope there.
use Rattle.std.specs.Prelude.{ℕ, zero, suc, ◌-◌, List, [], ◌∷◌, ◌++◌, Option, Some, None, length, take}
use Rattle.std.specs.List.{slice_get}
use Rattle.occ_scope.specs.Nearest.{nearest}
use Rattle.occ_scope.specs.declared.meaning.ScopeEntry.{ScopeEntry}
use Rattle.occ_scope.specs.declared.meaning.Meaning.{Meaning}
use Rattle.occ_scope.specs.declared.meaning.Referent.{Referent}
use Rattle.occ_scope.specs.declared.scope.Scope.{Scope}

-- no specification at all
abbrev pub nothing : Scope
nothing = record { names = []; meanings = [] }

-- with one specification more, which is nearer than the others
abbrev pub entered : Scope → List ℕ → Meaning → Scope
entered s name meaning = record { names = s.names ++ name ∷ []; meanings = s.meanings ++ meaning ∷ [] }

abbrev pub but_last : {X : Type 0} → List X → List X
but_last xs = take (length xs - 1) xs

-- without the one that was entered last
abbrev pub left : Scope → Scope
left s = record { names = but_last s.names; meanings = but_last s.meanings }

-- one after the other, so that the last is the nearest
abbrev pub with_all : Scope → List ScopeEntry → Scope
with_all s [] = s
with_all s (x ∷ xs) = with_all (entered s x.name x.meaning) xs

-- without so many of those that were entered last
abbrev pub left_times : ℕ → Scope → Scope
left_times zero s = s
left_times (suc n) s = left (left_times n s)

-- without the last ones, so that this many are left
abbrev pub back_to : ℕ → Scope → Scope
back_to count s = left_times (length s.meanings - count) s

abbrev pub meaning_at : List Meaning → Option ℕ → Option Meaning
meaning_at meanings None = None
meaning_at meanings (Some place) = slice_get meanings place

-- what a name stands for
abbrev pub visible : Scope → List ℕ → Option Meaning
visible s name = meaning_at s.meanings (nearest s.names name)

-- what is meant, as the specification of this number
abbrev pub numbered : ℕ → Option Meaning → Option Referent
numbered n None = None
numbered n (Some meaning) = Some (record { spec = n; meaning = meaning })

abbrev pub referent_at : List Meaning → Option ℕ → Option Referent
referent_at meanings None = None
referent_at meanings (Some n) = numbered n (slice_get meanings n)

-- which specification a name has
abbrev pub referent : Scope → List ℕ → Option Referent
referent s name = referent_at s.meanings (nearest s.names name)
