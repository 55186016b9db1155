use Rattle.std.proofs.Common.{refl}
use Rattle.occ_forms.proofs.Formed.{one_more}
use Rattle.occ_forms.proofs.preparation.FormingSink.take.Goals as goal

pub returns : goal.returns
returns c = λ lines all. rw c.in_ok-push.ensures.ok (one_more _ _ _ _ (record { number = refl; depth = refl; held = c.in_ok-body.ensures }) all)
