-- What a whole unit shows is known.
use Rattle.std.proofs.Common.{◌++◌, ◌+◌, ℕ, Bool, true, false, not, List, [], ◌∷◌, length, Option, Some, None, if◌then◌else◌}
use Rattle.std.specs.List.{filter}
use Rattle.std.specs.Str.{bytes_eq}
use Rattle.occ_usage_values.specs.Bounds.{Env}
use Rattle.occ_check.specs.Exports.{entries_exports, entries_of as line_adds, interface_in, is_use, line_entries, line_exports, lines_exports, meaning_exports, with_export, with_exports}
use Rattle.occ_scope.specs.declared.meaning.ScopeEntry.{ScopeEntry}
use Rattle.occ_scope.specs.declared.meaning.Meaning.{Meaning}
use Rattle.occ_scope.specs.declared.meaning.Meaning.TheVariants as m
use Rattle.occ_typing.specs.Forms.{entries_of}
use Rattle.occ_typing.specs.Known.{AreKnownEntries, IsKnownMeaning}
use Rattle.occ_typing.specs.Whole.{AreKnownAdds, AreWhole, IsKnownInterface, no_line, one_line}
use Rattle.occ_typing.specs.declared.tree.TypedLine.{TypedLine, out-TypedLine}
use Rattle.occ_types.specs.declared.interface.Export.{Export}

abbrev AreKnown : List Export → Type 0
AreKnown xs = AreKnownEntries (entries_of xs)

both_known : (xs ys : List Export) → AreKnown xs → AreKnown ys → AreKnown (xs ++ ys)
both_known [] ys h g = g
both_known (x ∷ xs) ys h g = (h.0, both_known xs ys h.1 g)

meaning_known : (env : Env) (n : ℕ) (name : List ℕ) (x : Meaning) → IsKnownMeaning x → AreKnown (meaning_exports env n name x)
meaning_known env n name (m.Procedure formals) h = (h, tt)
meaning_known env n name (m.Function formals results) h = (h, tt)
meaning_known env n name m.Faulty h = tt
meaning_known env n name (m.Type of) h = tt
meaning_known env n name (m.Protocol c) h = tt
meaning_known env n name (m.Element whole) h = tt

entries_known : (env : Env) (n : ℕ) (xs : List ScopeEntry) → AreKnownEntries xs → AreKnown (entries_exports env n xs)
entries_known env n [] h = tt
entries_known env n (x ∷ xs) h = both_known (meaning_exports env n x.name x.meaning) (entries_exports env (n + 1) xs) (meaning_known env n x.name x.meaning h.0) (entries_known env (n + 1) xs h.1)

adds_known : (o : Option (List ScopeEntry)) → AreKnownAdds o → AreKnownEntries (line_adds o)
adds_known None h = tt
adds_known (Some xs) h = h

unless_use : (b : Bool) (xs : List Export) → AreKnown xs → AreKnown (if b then [] else xs)
unless_use true xs h = tt
unless_use false xs h = h

line_known : (env : Env) (n : ℕ) (l : TypedLine) → AreKnownAdds (out-TypedLine l).adds → AreKnown (line_exports env n l)
line_known env n l h = unless_use (is_use (out-TypedLine l).form) (entries_exports env n (line_entries l)) (entries_known env n (line_entries l) (adds_known (out-TypedLine l).adds h))

lines_known : (env : Env) (n : ℕ) (ls : List TypedLine) → AreWhole ls → AreKnown (lines_exports env n ls)
lines_known env n _ no_line = tt
lines_known env n _ (one_line l ls here under following) =
    both_known (line_exports env n l) (lines_exports env (n + length (line_entries l)) ls) (line_known env n l here.2) (lines_known env (n + length (line_entries l)) ls following)

cached_if : (b : Bool) (x : Export) (xs : List Export) → AreKnown (x ∷ []) → AreKnown xs → AreKnown (if b then x ∷ xs else xs)
cached_if true x xs h g = (h.0, g)
cached_if false x xs h g = g

filter_known : (p : Export → Bool) (xs : List Export) → AreKnown xs → AreKnown (filter p xs)
filter_known p [] h = tt
filter_known p (x ∷ xs) h = cached_if (p x) x (filter p xs) (h.0, tt) (filter_known p xs h.1)

all_known : (es xs : List Export) → AreKnown es → AreKnown xs → AreKnown (with_exports es xs)
all_known es [] h g = h
all_known es (x ∷ xs) h g =
    all_known (with_export es x) xs
    (both_known (filter (λ earlier. not (bytes_eq earlier.name x.name)) es) (x ∷ []) (filter_known (λ earlier. not (bytes_eq earlier.name x.name)) es h) (g.0, tt)) g.1

pub interface_known : (env : Env) (ls : List TypedLine) → AreWhole ls → IsKnownInterface (interface_in env ls)
interface_known env ls h = all_known [] (lines_exports env 0 ls) tt (lines_known env 0 ls h)
