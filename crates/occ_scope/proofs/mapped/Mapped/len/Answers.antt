use Rattle.std.proofs.Common.{◌∙◌, sym, ap, ◌≡◌, length, rules}
use Rattle.occ_scope.proofs.Stacked.{names_length}
use Rattle.occ_scope.proofs.mapped.Mapped.len.Goals as goal

pub returns : goal.returns
returns c =
    let e : c.len.result ≡ length c.self.inside.entries = search rules in
    e ∙ sym (names_length c.self.inside.entries) ∙ ap length c.self.view_is
