use Rattle.std.proofs.Common.{rules, ◌≡◌, ◌∙◌, ◌+◌, ℕ, true, false, ap, sym, subst, length, slice_get}
use Rattle.occ_usage_conflicts.specs.inside.Linking.{is_use, linked}
use Rattle.occ_usage_conflicts.specs.inside.Numbering.{bucket_of}
use Rattle.occ_usage_conflicts.proofs.Looking.{IsClear, clear_first, clear_found, clear_next, clear_none}
use Rattle.occ_usage_conflicts.proofs.each_once.is_found.Goals as goal

pub loop-place-init : goal.loop-place-init
loop-place-init c =
    let heads = c.args.links.now.heads.items in
    let reported : c.linked-next.result ≡ linked heads c.args.bucket = search rules in
    let is : c.linked-next.result ≡ linked heads (bucket_of c.args.one.now (length heads)) = reported ∙ ap (linked heads) c.requires.bucket in
    subst (λ (n : ℕ). IsClear c.args.one.now (length c.args.links.now.heads.items) c.args.found.now n) (sym is)
    (clear_first c.args.links.now.heads.items c.args.links.now.before.items c.args.found.now c.args.one.now c.requires.linked)

pub returns-then-is_at : goal.returns-then-is_at
returns-then-is_at c =
    let at : is_use c.args.one.now (slice_get c.args.found.now c.in-Some.place) ≡ true = search rules in
    sym (clear_found c.args.found.now c.args.one.now c.in-Some.place at)

pub loop-place-preserved : goal.loop-place-preserved
loop-place-preserved c =
    let other : is_use c.args.one.now (slice_get c.args.found.now c.in-Some.place) ≡ false = search rules in
    let next : c.loop-place.next ≡ c.in-Some.place + 1 = search rules in
    let is : c.linked-next-in-Some.result ≡ linked c.args.links.now.before.items c.in-Some.place = search rules in
    subst (λ (n : ℕ). IsClear c.args.one.now (length c.args.links.now.heads.items) c.args.found.now n) (sym is)
    (clear_next c.args.links.now.heads.items c.args.links.now.before.items c.args.found.now c.args.one.now c.loop-place.next c.in-Some.place c.requires.linked c.loop-place.invariant next other)

pub returns : goal.returns
returns c =
    let none : c.loop-place.next ≡ 0 = search rules in
    sym (clear_none c.args.one.now (length c.args.links.now.heads.items) c.args.found.now c.loop-place.next c.loop-place.invariant none)
