use Rattle.occ_editor_edits.specs.Documents.{ChangesAt}
use Rattle.std.proofs.Common.{Bor, ℕ, List, Option, subst}
use Rattle.std.specs.Option.{option_map}
use Rattle.occ_editor.proofs.editor.told.Goals as goal

pub returns-in_ok-follow-in-Some-clause-stands : goal.returns-in_ok-follow-in-Some-clause-stands
returns-in_ok-follow-in-Some-clause-stands c = λ before now changes stands.
    c.in_ok-follow-in-Some.ensures.stands before now (subst (λ (text : Option (Bor (List ℕ))). ChangesAt before now c.args.path.now (option_map (λ t. t.now) text)) c.in-Some.is changes) stands
