use Rattle.std.proofs.Common.{arith, ◌≡◌, ◌∙◌, ap, rules, None, Some}
use Rattle.std.specs.List.{slice_get}
use Rattle.std.specs.Option.{option_and_then, option_copied}
use Rattle.occ_project.specs.Reads.{index}
use Rattle.occ_project.proofs.Members.{member_at}
use Rattle.occ_project.proofs.files.Files.member.Goals as goal

pub returns-in_err-index : goal.returns-in_err-index
returns-in_err-index c =
    let reads = c.args.self.now.reads.now in
    let p : None ≡ index c.args.name reads = c.in_err-index.ensures.value ∙ c.args.self.now.placed (omega (arith, c.if-len-lt2.false, c.len.ensures)) c.args.name in
    let m = ap (option_and_then (slice_get reads)) p ∙ member_at c.args.name reads in
    let r : option_copied c.from_residual.result ≡ None = search rules in
    r ∙ m

pub returns : goal.returns
returns c =
    let reads = c.args.self.now.reads.now in
    let p : Some c.in_ok-index.index.now ≡ index c.args.name reads = c.in_ok-index.ensures.value ∙ c.args.self.now.placed (omega (arith, c.if-len-lt2.false, c.len.ensures)) c.args.name in
    let m = ap (option_and_then (slice_get reads)) p ∙ member_at c.args.name reads in
    c.get-2.ensures.value ∙ m
