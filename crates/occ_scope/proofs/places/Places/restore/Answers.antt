use Rattle.std.proofs.Common.{ap, subst, sym, ◌≡◌, ◌∙◌, Option, None, Some, refl, ℕ}
use Rattle.occ_scope.proofs.Numbers.{put_long, put_short}
use Rattle.occ_base.specs.Numbers.{number_of}
use Rattle.occ_scope.specs.inside.Places.{Restores}
use Rattle.occ_scope.specs.declared.places.Places.{Places}
use Rattle.occ_scope.proofs.places.Places.restore.Goals as goal

pub returns-in-Some-number : goal.returns-in-Some-number
returns-in-Some-number c =
    let n : number_of c.args.name.now ≡ Some c.in-Some-number.number = sym c.number.ensures ∙ c.in-Some-number.is in
    let new : Places = record { short = c.write_short.new.short; long = c.args.self.now.long } in
    subst (Restores c.args.self.now new c.args.name.now) (sym c.in-Some.is) (put_short c.args.self.now new c.args.name.now c.in-Some.place c.in-Some-number.number n c.write_short.ensures refl)

pub returns-in-None : goal.returns-in-None
returns-in-None c =
    let n : number_of c.args.name.now ≡ None = sym c.number.ensures ∙ c.in-None.is in
    let new : Places = record { short = c.args.self.now.short; long = c.write_long.new.long } in
    subst (Restores c.args.self.now new c.args.name.now) (sym c.in-Some.is) (put_long c.args.self.now new c.args.name.now c.in-Some.place n c.write_long.ensures refl)
