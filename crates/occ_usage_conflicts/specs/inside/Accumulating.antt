-- What is kept of the uses of components, one component after the other.
use Rattle.std.specs.Prelude.{◌≡◌, ℕ, ◌==◌, Bool, not, ◌&&◌, ◌||◌, Option, Some, None, List, [], ◌∷◌, ◌++◌, slice_get, slice_set}
use Rattle.std.specs.List.{list_any}
use Rattle.occ_base.specs.declared.diag.Diag.{Diag}
use Rattle.occ_usage_values.specs.declared.bound.Bound.{Bound}
use Rattle.occ_usage_values.specs.declared.uses.Use.{Use}
use Rattle.occ_usage_parts.specs.Keeping.{meets_some}
use Rattle.occ_usage_parts.specs.Parts.{are_apart}
use Rattle.occ_project.specs.declared.expanded.Location.{Location}
use Rattle.occ_types.specs.declared.interface.PartSelector.{PartSelector}
use Rattle.occ_types.specs.declared.interface.UseKind.{UseKind}
use Rattle.occ_types.specs.declared.interface.UseKind.TheVariants as kind
use Rattle.occ_usage_conflicts.specs.Kinds.{is_input, is_output, is_read, is_write}
use Rattle.occ_usage_conflicts.specs.ParallelRule.{fault_if, some_clash}
use Rattle.occ_usage_conflicts.specs.declared.accumulate.RootUses.{RootUses}
use Rattle.occ_usage_conflicts.specs.declared.rule.Least.TheVariants as least
use Rattle.occ_usage_conflicts.specs.declared.rule.Rule.{Rule}
use Rattle.occ_usage_conflicts.specs.declared.rule.Rule.TheVariants as rule

abbrev pub is_of : UseKind → UseKind → Bool
is_of kind.Read = is_read
is_of kind.Write = is_write
is_of kind.Input = is_input
is_of kind.Output = is_output

abbrev pub parts_of : UseKind → RootUses → List (List PartSelector)
parts_of kind.Read r = r.reads
parts_of kind.Write r = r.writes
parts_of kind.Input r = r.inputs
parts_of kind.Output r = r.outputs

abbrev pub is_broken : Rule → RootUses → Bool
is_broken rule.Written r = r.breaks_written
is_broken rule.Input r = r.breaks_input
is_broken rule.Output r = r.breaks_output

-- some use of the root, and of a kind, has an element in common with the part
abbrev pub some_meets : UseKind → ℕ → List Use → List PartSelector → Bool
some_meets k root us q = list_any (λ (u : Use). u.part.root == root && is_of k u.kind && not (are_apart u.part.selectors q)) us

-- the kept parts are those of the kept uses, and the rules that are broken are those by which the reported components clash
pub record Knows (root : ℕ) (r : RootUses) (reported : List (List Use)) (accumulated : List Use) : Type 0 where
  pub parts : (k : UseKind) (q : List PartSelector) → meets_some (parts_of k r) q ≡ some_meets k root accumulated q
  pub broken : (q : Rule) → is_broken q r ≡ some_clash q least.May root reported

-- of each root
abbrev pub IsTable : List (List Use) → List Use → List RootUses → Type 0
IsTable reported accumulated table = (root : ℕ) (r : RootUses) → slice_get table root ≡ Some r → Knows root r reported accumulated

-- ---- one use

-- a use of a part breaks the rule with a kept one
abbrev pub breaks : Rule → RootUses → UseKind → List PartSelector → Bool
breaks rule.Written r k q = (is_write k && (meets_some r.reads q || meets_some r.writes q)) || (is_read k && meets_some r.writes q)
breaks rule.Input r k q = is_input k && meets_some r.inputs q
breaks rule.Output r k q = is_output k && meets_some r.outputs q

abbrev pub judged : RootUses → UseKind → List PartSelector → RootUses
judged r k q = record r {
  breaks_written = r.breaks_written || breaks rule.Written r k q;
  breaks_input = r.breaks_input || breaks rule.Input r k q;
  breaks_output = r.breaks_output || breaks rule.Output r k q;
}

abbrev pub judged_at : List RootUses → Use → Option RootUses → List RootUses
judged_at table u None = table
judged_at table u (Some r) = slice_set table u.part.root (judged r u.kind u.part.selectors)

abbrev pub judged_in : List RootUses → Use → List RootUses
judged_in table u = judged_at table u (slice_get table u.part.root)

abbrev pub judged_by : List RootUses → List Use → List RootUses
judged_by table [] = table
judged_by table (u ∷ us) = judged_by (judged_in table u) us

-- a part of the kind is kept besides
pub record Adds (k : UseKind) (p : List PartSelector) (before after : RootUses) : Type 0 where
  pub reads : (q : List PartSelector) → meets_some after.reads q ≡ (meets_some before.reads q || (is_read k && not (are_apart p q)))
  pub writes : (q : List PartSelector) → meets_some after.writes q ≡ (meets_some before.writes q || (is_write k && not (are_apart p q)))
  pub inputs : (q : List PartSelector) → meets_some after.inputs q ≡ (meets_some before.inputs q || (is_input k && not (are_apart p q)))
  pub outputs : (q : List PartSelector) → meets_some after.outputs q ≡ (meets_some before.outputs q || (is_output k && not (are_apart p q)))
  pub breaks_written : after.breaks_written ≡ before.breaks_written
  pub breaks_input : after.breaks_input ≡ before.breaks_input
  pub breaks_output : after.breaks_output ≡ before.breaks_output

-- ---- what is reported

abbrev pub broken_faults : Location → List Bound → ℕ → Option RootUses → List Diag
broken_faults line env root None = []
broken_faults line env root (Some r) =
    fault_if r.breaks_written rule.Written line env root ++ fault_if r.breaks_input rule.Input line env root ++ fault_if r.breaks_output rule.Output line env root

abbrev pub faults_in : Location → List Bound → List RootUses → ℕ → List Diag
faults_in line env table root = broken_faults line env root (slice_get table root)
