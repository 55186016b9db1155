-- What a unit exports, in the words of its lines.
use Rattle.std.specs.Prelude.{◌≡◌, ◌≢◌, List, ◌∷◌, ◌++◌}
use Rattle.std.specs.List.{Contains}
use Rattle.std.specs.Cmp.Lexicographic.{slice_cmp}
use Rattle.std.specs.Ordering.{nat_cmp}
use Rattle.std.specs.declared.cmp.Ordering.{Ordering}
use Rattle.occ_check.specs.Codes.{use_code}
use Rattle.occ_types.specs.declared.interface.Export.{Export}
use Rattle.occ_types.specs.declared.interface.FormalUse.{FormalUse}

-- the order of uses is that of their codes
abbrev pub use_order : FormalUse → FormalUse → Ordering
use_order a b = slice_cmp nat_cmp (use_code a) (use_code b)

-- one of these, after which none has its name
pub record IsLastOfName (es : List Export) (e : Export) : Type 0 where
  pub before : List Export
  pub after : List Export
  pub whole : es ≡ before ++ e ∷ after
  pub last : (later : Export) → Contains after later → later.name ≢ e.name
