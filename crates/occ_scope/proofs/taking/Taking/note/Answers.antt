use Rattle.std.proofs.Common.{rules, arith, length, ◌≡◌, ◌<◌}
use Rattle.occ_scope.specs.Elements.{formal_at, type_at}
use Rattle.occ_scope.proofs.Taken.{none_more, one_more}
use Rattle.occ_scope.proofs.taking.Taking.note.Goals as goal

pub invariant_of-self : goal.invariant_of-self
invariant_of-self c =
    let here : c.later-place.result < length c.self.inside.meanings = omega (arith, c.len.ensures, c.if-place-len.false) in
    let h =
    none_more c.self.inside.meanings c.self.inside.bound c.later-place.result c.later-self-inside.result c.self.inside.taken.items c.push.new.self.items
    here c.self.invariant.within c.later-self-inside.ensures.least c.later-self-inside.ensures.most c.self.invariant.noted c.in_err-push.ensures.items
    in
    record { within = h.0; noted = h.1 }

pub invariant_of-self-2 : goal.invariant_of-self-2
invariant_of-self-2 c =
    let here : c.later-place.result < length c.self.inside.meanings = omega (arith, c.len.ensures, c.if-place-len.false) in
    let same : formal_at c.self.inside.meanings c.args.one.procedure c.args.one.formal ≡ type_at c.self.inside.meanings c.args.one.actual = search rules in
    let h =
    one_more c.self.inside.meanings c.self.inside.bound c.later-place.result c.later-self-inside.result c.self.inside.taken.items c.push.new.self.items c.args.one
    here c.self.invariant.within c.later-self-inside.ensures.least c.later-self-inside.ensures.most c.self.invariant.noted c.in_ok-push.ensures.items c.later-place.ensures.least same
    in
    record { within = h.0; noted = h.1 }
