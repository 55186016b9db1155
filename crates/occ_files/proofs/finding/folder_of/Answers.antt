use Rattle.std.proofs.Common.{◌≡◌, ◌∙◌, ◌==◌, Bool, Bor, List, Option, codes, false, true, length, ℕ, option_map, sym, ap, if◌then◌else◌}
use Rattle.occ_files.proofs.Slashes.{slash_split}
use Rattle.occ_files.proofs.finding.folder_of.Goals as goal
use Rattle.occ_files.specs.Paths.{before_slash, folder_by}

abbrev folder_in : Option (Bor (List ℕ) × Bor (List ℕ)) → List ℕ
folder_in parts = folder_by (option_map (λ x. x.0.now) parts)

pub returns-in-Some : goal.returns-in-Some
returns-in-Some c =
    let some : false ≡ (length c.in-Some.folder.now == 0) = c.if-not-is_empty.ensures in
    ap (λ (b : Bool). if b then codes "/" else c.in-Some.folder.now) some ∙ ap folder_in (sym c.in-Some.is) ∙ ap folder_by (slash_split c.args.path.now c.rsplit_once.result c.rsplit_once.ensures.cases)

pub returns-in-Some-2 : goal.returns-in-Some-2
returns-in-Some-2 c =
    let none : true ≡ (length c.in-Some.folder.now == 0) = c.if-not-is_empty.ensures in
    ap (λ (b : Bool). if b then codes "/" else c.in-Some.folder.now) none ∙ ap folder_in (sym c.in-Some.is) ∙ ap folder_by (slash_split c.args.path.now c.rsplit_once.result c.rsplit_once.ensures.cases)

pub returns-in-None : goal.returns-in-None
returns-in-None c = ap folder_in (sym c.in-None.is) ∙ ap folder_by (slash_split c.args.path.now c.rsplit_once.result c.rsplit_once.ensures.cases)
