use Rattle.std.proofs.Common.{◌∙◌, sym, ap, subst, ◌≡◌, ◌++◌, ◌∷◌, [], ℕ, List, Some, rules}
use Rattle.occ_scope.specs.Nearest.{nearest}
use Rattle.occ_scope.specs.declared.mapped.Entry.{Entry}
use Rattle.occ_scope.specs.inside.Kept.{IsKept, names_of, standing}
use Rattle.occ_scope.specs.inside.Places.{Puts}
use Rattle.occ_scope.proofs.Stacked.{inside, kept_back, kept_more, names_snoc, put_is_held}
use Rattle.occ_scope.proofs.mapped.Mapped.enter_over.Goals as goal

pub invariant_of-self-in_default : goal.invariant_of-self-in_default
invariant_of-self-in_default c =
    let e : Entry = record { name = c.in_ok-copy.copy; hidden = c.standing-hidden.result } in
    let copy : c.in_ok-copy.copy ≡ c.args.name.now = search rules in
    let puts : Puts c.self.inside.newest c.put.new.self c.args.name.now (Some c.len-place.result) = search rules in
    let hides : c.standing-hidden.result ≡ nearest (names_of c.self.inside.entries) c.args.name.now = c.standing-hidden.ensures ∙ ap (standing (names_of c.self.inside.entries) c.args.name.now) c.in_ok-held.ensures.hidden ∙ c.self.invariant.newest c.args.name.now in
    kept_more c.self.inside.entries c.push.new.self c.self.inside.newest c.put.new.self e c.len-place.result
    c.self.invariant.chained c.self.invariant.newest (search rules)
    (hides ∙ ap (nearest (names_of c.self.inside.entries)) (sym copy))
    (search rules)
    (subst (λ (n : List ℕ). Puts c.self.inside.newest c.put.new.self n (Some c.len-place.result)) (sym copy) puts)

pub returns-clause-ok : goal.returns-clause-ok
returns-clause-ok c =
    let e : Entry = record { name = c.in_ok-copy.copy; hidden = c.standing-hidden.result } in
    let is : c.push.new.self ≡ c.self.inside.entries ++ e ∷ [] = search rules in
    let copy : c.in_ok-copy.copy ≡ c.args.name.now = search rules in
    ap names_of is ∙ names_snoc c.self.inside.entries e ∙ ap (λ (ns : List (List ℕ)). ns ++ c.in_ok-copy.copy ∷ []) c.self.view_is ∙ ap (λ (n : List ℕ). c.args.self.now ++ n ∷ []) copy

pub restore-requires : goal.restore-requires
restore-requires c = put_is_held c.self.inside.newest c.put.new.self c.args.name.now c.len-place.result c.in_ok-held.ensures.ok

pub invariant_of-self-in-Err : goal.invariant_of-self-in-Err
invariant_of-self-in-Err c =
    let hides : c.standing-hidden.result ≡ nearest (names_of c.self.inside.entries) c.args.name.now = c.standing-hidden.ensures ∙ ap (standing (names_of c.self.inside.entries) c.args.name.now) c.in_ok-held.ensures.hidden ∙ c.self.invariant.newest c.args.name.now in
    subst (λ (es : List Entry). IsKept (inside es c.restore.new.self)) (sym c.in-Err.ensures.err)
    (kept_back c.self.inside.entries c.self.inside.newest c.put.new.self c.restore.new.self c.args.name.now c.len-place.result c.standing-hidden.result
    c.self.invariant.chained c.self.invariant.newest hides (search rules) c.in_ok-held.ensures.ok c.restore.ensures)

pub returns-clause-hidden : goal.returns-clause-hidden
returns-clause-hidden c =
    c.standing-hidden.ensures ∙ ap (standing (names_of c.self.inside.entries) c.args.name.now) c.in_ok-held.ensures.hidden ∙ c.self.invariant.newest c.args.name.now ∙ ap (λ (ns : List (List ℕ)). nearest ns c.args.name.now) c.self.view_is
