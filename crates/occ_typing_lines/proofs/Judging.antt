-- Lines that are not reported with the head over them.
use Rattle.std.proofs.Common.{◌≡◌, Bool, false, List, if◌then◌else◌, ap}
use Rattle.occ_scope.specs.declared.scope.Scope.{Scope}
use Rattle.occ_project.specs.declared.expanded.ExpandedBody.{ExpandedBody}
use Rattle.occ_tree.specs.Forest.{Forest}
use Rattle.occ_typing_lines.specs.Judging.{is_reported_with_head, judged, line, member}
use Rattle.occ_typing_lines.specs.declared.parent.Parent.{Parent}
use Rattle.occ_typing_lines.specs.declared.using.Import.{Import}

pub judged_alone : (is : List Import) (s : Scope) (b : ExpandedBody) (under : Forest) (p : Parent)
    → is_reported_with_head p.role ≡ false
    → judged is s b under p ≡ line is s b under p
unfolding judged
judged_alone is s b under p h = ap (λ (z : Bool). if z then member p else line is s b under p) h
