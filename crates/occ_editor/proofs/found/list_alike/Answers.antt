use Rattle.std.proofs.Common.{◌≡◌, ◌↔◌, IsTrue, List, Option, subst, ℕ}
use Rattle.std.specs.Option.{option_copied}
use Rattle.occ_lines.specs.Listing.{listed}
use Rattle.occ_editor.proofs.Named.{lists_decide}
use Rattle.occ_editor.proofs.found.list_alike.Goals as goal

pub returns : goal.returns
returns c =
    let units : Option (List (List ℕ)) = listed c.args.other.now.text in
    subst (λ (us : Option (List (List ℕ))). IsTrue c.eq.result ↔ (us ≡ units)) c.listed.ensures
    (subst (λ (us : Option (List (List ℕ))). IsTrue c.eq.result ↔ (option_copied c.listed.result ≡ us)) c.listed-2.ensures (lists_decide c.listed.result c.listed-2.result c.eq.result c.eq.ensures))
