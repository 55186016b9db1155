-- What a line is for the lines round it.
use Rattle.std.specs.Prelude.{Option, Some, None, List, [], ◌∷◌}
use Rattle.occ_base.specs.declared.code.Code.TheVariants as code
use Rattle.occ_base.specs.declared.diag.Diag.{Diag}
use Rattle.occ_scope.specs.declared.meaning.ScopeEntry.{ScopeEntry}
use Rattle.occ_base.specs.Reporting.{nameless}
use Rattle.occ_base.specs.declared.fault.Fault.{Fault}
use Rattle.occ_typing_lines.specs.declared.parent.Line.{Line}
use Rattle.occ_typing_lines.specs.declared.tree.TypedForm.{TypedForm}
use Rattle.occ_typing_lines.specs.declared.tree.TypedForm.TheVariants as t
use Rattle.occ_typing_lines.specs.declared.parent.Parent.{Parent}
use Rattle.occ_typing_lines.specs.declared.parent.Role.{Role}
use Rattle.occ_typing_lines.specs.declared.parent.Role.TheVariants as role

-- lines that stand as often as others do, of which more is said
abbrev pub with_role : Role → Parent → Parent
with_role r p = record { role = r; rounds = p.rounds }

-- of them nothing more is said
abbrev pub processes_in : Parent → Parent
processes_in p = with_role role.Process p

-- lines of a body, which no replicator round it repeats
abbrev pub body_of : Role → Parent
body_of r = record { role = r; rounds = 1 }

-- the faults of a line, and what it is, for those round it too
pub record Own : Type 0 where
  pub faults : List Fault
  pub line : Line

-- a main line, which says this of the lines under it
abbrev pub over : List Fault → Parent → List ScopeEntry → TypedForm → Parent → Own
over faults under enters form next =
    record {
      faults = faults;
      line = record { parent = under; enters = enters; next = next; adds = None; form = form };
    }

abbrev pub main : List Fault → TypedForm → Parent → Own
main faults form next = over faults (processes_in next) [] form next

-- a specification over no lines that it has anything to say of: of one line, a close
abbrev pub specifying : List Fault → List ScopeEntry → TypedForm → Parent → Own
specifying faults adds form next =
    record {
      faults = faults;
      line = record { parent = processes_in next; enters = []; next = next; adds = Some adds; form = form };
    }

-- what a line reports with the lines under it: the diagnostics of those that are reported with it too
pub record Judged : Type 0 where
  pub faults : List Fault
  pub beneath : List Diag
  pub line : Line

-- nothing is reported of lines under it
abbrev pub alone : Own → Judged
alone x = record { faults = x.faults; beneath = []; line = x.line }

-- what a line is, if its trees are there
abbrev pub made : {X : Type 0} → (X → TypedForm) → Option X → TypedForm
made form None = t.Unknown
made form (Some x) = form x

-- a line that stands where no line of its kind may; in a unit without a fault of shape there is none
abbrev pub beyond : List Fault
beyond = nameless code.S1 ∷ []
