use Rattle.std.proofs.Common.{arith, ap, sym, ◌∙◌, length, rules, subst, ◌≡◌, ◌≤◌, ◌<◌, List}
use Rattle.occ_scope.specs.Elements.{type_at}
use Rattle.occ_scope.specs.declared.meaning.Meaning.{Meaning}
use Rattle.occ_scope.proofs.Alike.{alike_further, note_set}
use Rattle.occ_scope.proofs.meanings.Meanings.first_alike.Goals as goal

pub loop-next-smaller : goal.loop-next-smaller
loop-next-smaller c =
    let there = sym c.in-Some.ensures.value in
    let f = alike_further c.loop-next.self-inside.meanings c.loop-next.self-inside.alike c.loop-next.place c.in-Some.next.now c.pointed_to-further.result c.loop-next.invariant.2 there c.pointed_to-further.ensures in
    omega (arith, f.0, f.1, c.if-next-place.false)

pub loop-next-preserved : goal.loop-next-preserved
loop-next-preserved c =
    let there = sym c.in-Some.ensures.value in
    let f = alike_further c.loop-next.self-inside.meanings c.loop-next.self-inside.alike c.loop-next.place c.in-Some.next.now c.pointed_to-further.result c.loop-next.invariant.2 there c.pointed_to-further.ensures in
    let no_later : c.pointed_to-further.result ≤ c.loop-next.place = omega (arith, f.0, f.1) in
    let as_long : length c.set.new.self ≡ length c.loop-next.self-inside.alike = search rules in (
      c.loop-next.invariant.0,
      omega (arith, as_long, c.loop-next.invariant.1),
      note_set c.loop-next.self-inside.meanings c.loop-next.self-inside.alike c.set.new.self c.loop-next.place c.pointed_to-further.result c.set.ensures no_later f.2 c.loop-next.invariant.2,
      subst (λ (ms : List Meaning). type_at ms c.pointed_to-further.result ≡ type_at ms c.loop-next.place) c.loop-next.invariant.0 f.2 ∙ c.loop-next.invariant.3,
    )
