-- The rule of parallel components: what one of them writes no other reads or writes, and no two of them input from one
-- channel or output to one. The same for writes, as far as it is sure, holds of the targets of one assignment.
use Rattle.std.specs.Prelude.{◌≡◌, ◌≢◌, ℕ, zero, suc, ◌==◌, ◌<◌, Bool, true, false, ◌&&◌, ◌||◌, Option, Some, None, List, [], ◌∷◌, ◌++◌, length, slice_get, if◌then◌else◌}
use Rattle.std.specs.List.{list_any}
use Rattle.occ_base.specs.Errors.{error_at}
use Rattle.occ_base.specs.declared.code.Code.{Code}
use Rattle.occ_base.specs.declared.code.Code.TheVariants as code
use Rattle.occ_base.specs.declared.diag.Diag.{Diag}
use Rattle.occ_usage_values.specs.declared.bound.Bound.{Bound}
use Rattle.occ_usage_values.specs.declared.bound.Bound.TheVariants as b
use Rattle.occ_usage_values.specs.declared.uses.Use.{Use}
use Rattle.occ_usage_parts.specs.Parts.{overlap_of}
use Rattle.occ_usage_parts.specs.declared.part.Overlap.{Overlap}
use Rattle.occ_usage_parts.specs.declared.part.Overlap.TheVariants as o
use Rattle.occ_project.specs.declared.expanded.Location.{Location}
use Rattle.occ_types.specs.declared.interface.UseKind.{UseKind}
use Rattle.occ_usage_conflicts.specs.Kinds.{is_input, is_output, is_read, is_write}
use Rattle.occ_usage_conflicts.specs.declared.rule.Least.{Least}
use Rattle.occ_usage_conflicts.specs.declared.rule.Least.TheVariants as least
use Rattle.occ_usage_conflicts.specs.declared.rule.Rule.{Rule}
use Rattle.occ_usage_conflicts.specs.declared.rule.Rule.TheVariants as rule

abbrev pub code_of : Rule → Code
code_of rule.Written = code.U1
code_of rule.Input = code.U2
code_of rule.Output = code.U3

-- uses of these kinds may not be of one part
abbrev pub conflict : Rule → UseKind → UseKind → Bool
conflict rule.Written k l = (is_write k && (is_read l || is_write l)) || (is_read k && is_write l)
conflict rule.Input k l = is_input k && is_input l
conflict rule.Output k l = is_output k && is_output l

-- parts with this overlap count as one: those that are not apart, or only those that surely are not
abbrev pub counts : Least → Overlap → Bool
counts least.May o.Apart = false
counts least.May o.May = true
counts least.May o.Must = true
counts least.Must o.Apart = false
counts least.Must o.May = false
counts least.Must o.Must = true

-- two uses of a root
abbrev pub clash : Rule → Least → ℕ → Use → Use → Bool
clash r l root u v = u.part.root == root && v.part.root == root && conflict r u.kind v.kind && counts l (overlap_of u.part v.part)

-- a use and one of these
abbrev pub uses_clash : Rule → Least → ℕ → Use → List Use → Bool
uses_clash r l root u vs = list_any (λ (v : Use). clash r l root u v) vs

-- a use of one component and one of another
abbrev pub clash_between : Rule → Least → ℕ → List Use → List Use → Bool
clash_between r l root us vs = list_any (λ (u : Use). uses_clash r l root u vs) us

-- in some two different components
abbrev pub some_clash : Rule → Least → ℕ → List (List Use) → Bool
some_clash r l root [] = false
some_clash r l root (us ∷ more) = list_any (λ (vs : List Use). clash_between r l root us vs) more || some_clash r l root more

-- ---- what is reported

abbrev pub name_of : Option Bound → Option (List ℕ)
name_of (Some (b.Root name)) = Some name
name_of (Some (b.Value v size reads)) = None
name_of (Some (b.Abbreviation place size reads)) = None
name_of (Some (b.Body uses does)) = None
name_of (Some b.Other) = None
name_of None = None

abbrev pub root_name : List Bound → ℕ → Option (List ℕ)
root_name env root = name_of (slice_get env root)

abbrev pub fault_of : Rule → Location → List Bound → ℕ → Diag
fault_of r line env root = error_at line.file line.line (code_of r) (root_name env root)

abbrev pub fault_if : Bool → Rule → Location → List Bound → ℕ → List Diag
fault_if test r line env root = if test then fault_of r line env root ∷ [] else []

abbrev pub root_fault : Rule → Least → Location → List Bound → List (List Use) → ℕ → List Diag
root_fault r l line env components root = fault_if (some_clash r l root components) r line env root

abbrev pub root_faults : Location → List Bound → List (List Use) → ℕ → List Diag
root_faults line env components root =
    root_fault rule.Written least.May line env components root
    ++ root_fault rule.Input least.May line env components root
    ++ root_fault rule.Output least.May line env components root

-- of the roots with a number below n
abbrev pub below : ℕ → (ℕ → List Diag) → List Diag
below zero reported = []
below (suc n) reported = below n reported ++ reported n

-- of a PAR that these specifications stand round: those from there on stand in a component
abbrev pub component_faults : Location → List Bound → List (List Use) → List Diag
component_faults line env components = below (length env) (root_faults line env components)

-- of an assignment, of which each target is a component
abbrev pub target_faults : Location → List Bound → List (List Use) → List Diag
target_faults line env components = below (length env) (root_fault rule.Written least.Must line env components)

-- ---- the rule in plain words

abbrev pub StandsIn : {X : Type 0} → X → List X → Type 0
StandsIn x xs = (k : ℕ) × (slice_get xs k ≡ Some x)

-- the component with the number i has the use u
abbrev pub IsUsedIn : List (List Use) → ℕ → Use → Type 0
IsUsedIn components i u = (us : List Use) × (slice_get components i ≡ Some us) × StandsIn u us

-- two different components have uses of the root, of kinds that the rule does not allow together, of parts that count as one
pub record SomeClash (r : Rule) (l : Least) (root : ℕ) (components : List (List Use)) : Type 0 where
  pub one : ℕ
  pub other : ℕ
  pub differ : one ≢ other
  pub u : Use
  pub v : Use
  pub in_one : IsUsedIn components one u
  pub in_other : IsUsedIn components other v
  pub root_of_u : u.part.root ≡ root
  pub root_of_v : v.part.root ≡ root
  pub kinds : conflict r u.kind v.kind ≡ true
  pub parts : counts l (overlap_of u.part v.part) ≡ true

-- one of the roots round it, and one of these rules, has a clash that counts from there on, and this is its fault
abbrev pub IsReported : Rule → Least → Location → List Bound → List (List Use) → Diag → Type 0
IsReported r l line env components d = (root : ℕ) × (root < length env) × (d ≡ fault_of r line env root) × SomeClash r l root components
