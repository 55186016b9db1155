use Rattle.std.proofs.Common.{rules, length, ◌≡◌, sym, subst, arith, List}
use Rattle.occ_scope.specs.Elements.{type_at}
use Rattle.occ_scope.specs.declared.meaning.Meaning.{Meaning}
use Rattle.occ_scope.proofs.Alike.{note_set}
use Rattle.occ_scope.proofs.meanings.Meanings.remember.Goals as goal

pub invariant_of-self : goal.invariant_of-self
invariant_of-self c =
    let as_long : length c.set.new.self ≡ length c.self.inside.alike = search rules in
    let same : type_at c.self.inside.meanings c.args.first ≡ type_at c.self.inside.meanings c.args.second = search rules in
    record {
      within = omega (arith, as_long, c.self.invariant.within);
      same = note_set c.self.inside.meanings c.self.inside.alike c.set.new.self c.args.second c.args.first c.set.ensures c.requires.order same c.self.invariant.same;
    }
