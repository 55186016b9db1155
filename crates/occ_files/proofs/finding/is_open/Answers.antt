use Rattle.std.proofs.Common.{◌≡◌, ◌∙◌, ◌==◌, ◌||◌, Bool, ap, codes}
use Rattle.std.proofs.lemmas.Str.Pattern.{ends_text}
use Rattle.std.specs.List.{ends_with}
use Rattle.occ_files.proofs.finding.is_open.Goals as goal

pub returns-else-is_empty : goal.returns-else-is_empty
returns-else-is_empty c =
    ends_text c.ends_with.result (codes "/") c.args.folder.now c.ends_with.ensures.cases ∙ ap (λ (b : Bool). b || ends_with ◌==◌ c.args.folder.now (codes "/")) c.if-is_empty.ensures
