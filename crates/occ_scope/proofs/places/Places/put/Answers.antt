use Rattle.std.proofs.Common.{ap, subst, sym, ◌≡◌, ◌∙◌, List, None, Option, Some, cond, refl, ℕ, rules}
use Rattle.std.specs.BTreeMap.{get}
use Rattle.std.specs.Cmp.Lexicographic.{slice_cmp}
use Rattle.std.specs.Ordering.{is_eq, nat_cmp}
use Rattle.occ_scope.proofs.Numbers.{put_long, put_short}
use Rattle.occ_base.specs.Numbers.{number_of}
use Rattle.occ_scope.proofs.places.Places.put.Goals as goal

pub returns-in_ok-hidden-in-Some-clause-ok : goal.returns-in_ok-hidden-in-Some-clause-ok
returns-in_ok-hidden-in-Some-clause-ok c =
    let n : number_of c.args.name.now ≡ Some c.in-Some.number = sym c.number.ensures ∙ c.in-Some.is in
    put_short c.args.self.now (record { short = c.insert.new.self; long = c.args.self.now.long }) c.args.name.now c.args.place c.in-Some.number n c.in_ok-hidden-in-Some.ensures.updates.0 refl

pub returns-in_ok-hidden-in-None-clause-ok : goal.returns-in_ok-hidden-in-None-clause-ok
returns-in_ok-hidden-in-None-clause-ok c =
    let n : number_of c.args.name.now ≡ None = sym c.number.ensures ∙ c.in-None.is in
    let key : c.in_ok-key-in-None.key ≡ c.args.name.now = search rules in
    put_long c.args.self.now (record { short = c.args.self.now.short; long = c.insert-in-None.new.self }) c.args.name.now c.args.place n
    (subst (λ (k : List ℕ). (q : List ℕ) → get (slice_cmp nat_cmp) c.insert-in-None.new.self q ≡ cond (is_eq (slice_cmp nat_cmp k q)) (Some c.args.place) (get (slice_cmp nat_cmp) c.args.self.now.long q)) key c.in_ok-hidden-in-None.ensures.updates.0) refl
