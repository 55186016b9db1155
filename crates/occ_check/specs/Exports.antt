-- What a unit exports: the procedures and functions that its outermost lines specify, with what they do.
use Rattle.std.specs.Prelude.{ℕ, ◌+◌, Bool, true, false, not, if◌then◌else◌, List, [], ◌∷◌, ◌++◌, length, slice_get, Option, Some, None}
use Rattle.std.specs.List.{filter}
use Rattle.std.specs.Str.{bytes_eq}
use Rattle.occ_usage_values.specs.Bounds.{Env, body_of, effect_of}
use Rattle.occ_check.specs.FormalUses.{formal_uses, in_order}
use Rattle.occ_usage.specs.Entering.{effect_if}
use Rattle.occ_scope.specs.declared.meaning.ScopeEntry.{ScopeEntry}
use Rattle.occ_scope.specs.declared.meaning.Meaning.{Meaning}
use Rattle.occ_scope.specs.declared.meaning.Meaning.TheVariants as meaning
use Rattle.occ_usage.specs.Forms.{TypedForm}
use Rattle.occ_usage.specs.FormVariants as form
use Rattle.occ_usage.specs.TypedLine.{TypedLine, out-TypedLine}
use Rattle.occ_types.specs.declared.interface.Export.{Export}
use Rattle.occ_types.specs.declared.interface.ExportKind.{ExportKind}
use Rattle.occ_types.specs.declared.interface.ExportKind.TheVariants as kind
use Rattle.occ_types.specs.declared.interface.Formal.{Formal}
use Rattle.occ_types.specs.declared.interface.Interface.{Interface}
use Rattle.occ_types.specs.declared.types.OccType.{OccType}

-- the specification with the number n, for whose body this stands in scope
abbrev pub export : Env → ℕ → List ℕ → ExportKind → List Formal → List OccType → Export
export env n name k formals results =
    record {
      name = name;
      kind = k;
      formals = formals;
      results = results;
      uses = in_order (formal_uses n (body_of (slice_get env n)));
      effect = effect_if (effect_of (slice_get env n));
    }

-- of a name that stands for this
abbrev pub meaning_exports : Env → ℕ → List ℕ → Meaning → List Export
meaning_exports env n name (meaning.Procedure formals) = export env n name kind.Process formals [] ∷ []
meaning_exports env n name (meaning.Function formals results) = export env n name kind.Function formals results ∷ []
meaning_exports env n name meaning.Faulty = []
meaning_exports env n name (meaning.Type of) = []
meaning_exports env n name (meaning.Protocol protocol) = []
meaning_exports env n name (meaning.Element whole) = []

-- of names, the first of which is the specification with the number n
abbrev pub entries_exports : Env → ℕ → List ScopeEntry → List Export
entries_exports env n [] = []
entries_exports env n (e ∷ es) = meaning_exports env n e.name e.meaning ++ entries_exports env (n + 1) es

-- what comes into scope after a `#USE` is the used unit's, and is not exported again
abbrev pub is_use : TypedForm → Bool
is_use (form.Uses interfaces) = true
is_use other = false

abbrev pub entries_of : Option (List ScopeEntry) → List ScopeEntry
entries_of None = []
entries_of (Some entries) = entries

-- what comes into scope after a line
abbrev pub line_entries : TypedLine → List ScopeEntry
line_entries l = entries_of (out-TypedLine l).adds

-- of a line after n specifications
abbrev pub line_exports : Env → ℕ → TypedLine → List Export
line_exports env n l = if is_use (out-TypedLine l).form then [] else entries_exports env n (line_entries l)

abbrev pub lines_exports : Env → ℕ → List TypedLine → List Export
lines_exports env n [] = []
lines_exports env n (l ∷ ls) = line_exports env n l ++ lines_exports env (n + length (line_entries l)) ls

-- one more after these, where an earlier one of its name goes
abbrev pub with_export : List Export → Export → List Export
with_export es e = filter (λ earlier. not (bytes_eq earlier.name e.name)) es ++ e ∷ []

-- one after the other: of two of one name the later is left, at its own place
abbrev pub with_exports : List Export → List Export → List Export
with_exports es [] = es
with_exports es (later ∷ more) = with_exports (with_export es later) more

-- of a unit with these outermost lines, after the last of which this stands in scope
abbrev pub interface_in : Env → List TypedLine → Interface
interface_in env lines = record { exports = with_exports [] (lines_exports env 0 lines) }
