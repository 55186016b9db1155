use Rattle.std.proofs.Common.{◌≡◌, ◌∙◌, ap, sym, arith, false, nat_eq, bytes_eq, List, ℕ}
use Rattle.std.proofs.lemmas.Bool.Decides.{nat_tests}
use Rattle.occ_scope.proofs.Folded.{told_apart}
use Rattle.occ_scope.proofs.numbered.Numbered.is.Goals as goal

pub returns-else-self-sought : goal.returns-else-self-sought
returns-else-self-sought c =
    let apart : bytes_eq c.self.inside.name c.sought.inside.name.now ≡ false = told_apart c.self.inside.name c.sought.inside.name.now (λ e. c.if-self-sought.false (c.self.invariant ∙ e ∙ sym c.sought.invariant)) in
    let other : nat_eq c.self.inside.number c.sought.inside.number ≡ false = grind (arith, nat_tests, c.if-self-sought.false) in
    other ∙ sym apart ∙ ap (λ (n : List ℕ). bytes_eq n c.sought.inside.name.now) c.self.view_is ∙ ap (bytes_eq c.args.self.now) c.sought.view_is
