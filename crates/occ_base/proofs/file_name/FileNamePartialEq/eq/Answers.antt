use Rattle.std.proofs.Common.{arith, ◌≡◌, ◌≤◌, ◌∙◌, sym, true}
use Rattle.std.proofs.lemmas.Bool.{le-leb}
use Rattle.std.specs.Str.{bytes_eq}
use Rattle.occ_base.specs.inside.Front.{front}
use Rattle.occ_base.proofs.Heads.{same_front}
use Rattle.occ_base.proofs.file_name.FileNamePartialEq.eq.Goals as goal
use Rattle.occ_base.proofs.file_name.FileNamePartialEq.eq.Goals.{then-self-other, else-self-other}

pub returns-then-self-le16 : goal.returns-then-self-le16
returns-then-self-le16 c = elim c.if-self-other.branch [
  | then-self-other w ↦
      let s : c.self.inside.len ≤ 16 = omega (arith, c.if-self-le16.true) in
      let e : c.self.inside.len ≡ c.other.inside.len = omega (arith, w.if-self-other.true) in
      let f : bytes_eq (front c.args.self.now) (front c.args.other.now) ≡ true = rw (← w.front.ensures.value) (rw (← w.front-then-self-other.ensures.value) (sym w.are_same.ensures ∙ sym w.value-is ∙ c.if-are_same.true)) in
      le-leb c.self.inside.len 16 s ∙ rw (← c.self.view_is) (rw (← c.other.view_is) (same_front c.self.inside c.other.inside c.self.invariant c.other.invariant e s (rw c.self.view_is (rw c.other.view_is f))))
  | else-self-other w ↦ absurd (grind (arith, c.if-are_same.true, w.value-is))
]
