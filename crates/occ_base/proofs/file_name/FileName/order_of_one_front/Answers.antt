use Rattle.std.proofs.Common.{◌∙◌}
use Rattle.occ_base.proofs.Heads.{lengths_decide}
use Rattle.occ_base.proofs.file_name.FileName.order_of_one_front.Goals as goal

pub returns-then-other-le16 : goal.returns-then-other-le16
returns-then-other-le16 c = c.cmp.ensures ∙ rw (← c.self.view_is) (rw (← c.other.view_is) (lengths_decide c.self.inside c.other.inside c.self.invariant c.other.invariant c.if-self-le16.true c.if-other-le16.true (rw c.self.view_is (rw c.other.view_is c.requires))))
