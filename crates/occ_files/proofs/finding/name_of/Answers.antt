use Rattle.std.proofs.Common.{◌≡◌, ◌∙◌, Bor, List, Option, ℕ, option_map, sym, ap}
use Rattle.occ_files.proofs.Slashes.{slash_name}
use Rattle.occ_files.proofs.finding.name_of.Goals as goal
use Rattle.occ_files.specs.Paths.{name_by}

abbrev name_in : List ℕ → Option (Bor (List ℕ) × Bor (List ℕ)) → List ℕ
name_in path parts = name_by path (option_map (λ x. x.1.now) parts)

pub returns-in-Some : goal.returns-in-Some
returns-in-Some c = ap (name_in c.args.path.now) (sym c.in-Some.is) ∙ ap (name_by c.args.path.now) (slash_name c.args.path.now c.rsplit_once.result c.rsplit_once.ensures.cases)

pub returns-in-None : goal.returns-in-None
returns-in-None c = ap (name_in c.args.path.now) (sym c.in-None.is) ∙ ap (name_by c.args.path.now) (slash_name c.args.path.now c.rsplit_once.result c.rsplit_once.ensures.cases)
