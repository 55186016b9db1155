use Rattle.std.proofs.Common.{ℕ, IfSome, Option, subst}
use Rattle.occ_editor_edits.specs.Frames.{IsHeadRead}
use Rattle.occ_editor_edits.proofs.Heads.{is_frame_read}
use Rattle.occ_editor_edits.proofs.reading.read_frame.Goals as goal

pub returns-clause-says : goal.returns-clause-says
returns-clause-says g c =
    let P : Option ℕ → Type 0 = λ told. IfSome told (λ size. IsHeadRead (g.R.Read.remaining c.args.reader.now) (g.R.Read.remaining c.read_head.new.reader) size) in
    let head = subst P c.in-Some.is c.in_ok-size.ensures.says in
    is_frame_read _ _ _ _ _ c.in_ok-message.ensures.size head c.in_ok-message.ensures.says
