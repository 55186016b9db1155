use Rattle.std.proofs.Common.{◌≡◌, List, refl, subst, sym, true}
use Rattle.std.specs.String.{string_bytes}
use Rattle.occ_files.proofs.Kept.{refused_met}
use Rattle.occ_files.proofs.Named.{refused_more}
use Rattle.occ_files.proofs.gathering.Gathering.add_refusal.Goals as goal
use Rattle.occ_files.specs.Gathering.{is_met}
use Rattle.occ_files.specs.declared.refusal.Refusal.{Refusal}
use Rattle.occ_files.specs.inside.Found.{AreFound}

pub returns-clause-found : goal.returns-clause-found
returns-clause-found g c =
    subst (λ (refusals : List Refusal). AreFound (g.D.Disk.known c.args.self.now.disk.now) c.args.self.now.found.texts.items refusals c.args.self.now.places) (sym c.in_ok-push.ensures.items)
    (refused_more (g.D.Disk.known c.args.self.now.disk.now) c.args.self.now.found.texts.items c.args.self.now.found.refusals.items c.args.self.now.places c.args.refusal c.requires.found c.requires.right)

pub returns-clause-met : goal.returns-clause-met
returns-clause-met g c =
    subst (λ (refusals : List Refusal). is_met c.args.self.now.found.texts.items refusals (string_bytes c.args.refusal.path) ≡ true) (sym c.in_ok-push.ensures.items)
    (refused_met c.args.self.now.found.texts.items c.args.self.now.found.refusals.items c.args.refusal (string_bytes c.args.refusal.path) refl)
