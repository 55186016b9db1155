use Rattle.std.proofs.Common.{sym, subst, List}
use Rattle.occ_usage_conflicts.specs.declared.presence.Presence.{Presence}
use Rattle.occ_usage_conflicts.specs.inside.Presences.{IsIn}
use Rattle.occ_usage_conflicts.proofs.Targets.{set_kept}
use Rattle.occ_usage_conflicts.proofs.presence.note.Goals as goal

pub returns-clause-kept : goal.returns-clause-kept
returns-clause-kept c other i is =
    subst (λ (stands : List Presence). IsIn stands other i) (sym c.set.ensures)
    (set_kept c.args.stands.now c.args.root other i c.in-Some.stand.now c.with_component-stand.result (sym c.in-Some.ensures.value) (c.with_component-stand.ensures.kept i) is)
