use Rattle.std.proofs.Common.{◌≡◌, ◌∙◌, ◌∷◌, [], Bor, Option, List, ℕ, ap, sym}
use Rattle.std.specs.Option.{option_copied}
use Rattle.occ_forms.specs.declared.source.SourceLine.{SourceLine}
use Rattle.occ_project.specs.declared.making.Made.{Made}
use Rattle.occ_project.specs.Entries.{entries}
use Rattle.occ_project.specs.Expansion.{unit_entries}
use Rattle.occ_project.specs.inside.Making.{after, started}
use Rattle.occ_project.proofs.Expansions.{expansion_is}
use Rattle.occ_project.proofs.expansion.made.Goals as goal
use Rattle.occ_project.proofs.expansion.made.Goals.{in-Some+in_ok-file+in_ok-way+in_ok-add_file, in_default}

pub returns : goal.returns
returns c =
    let reads = c.args.files.now.reads.now in
    let unit = c.args.unit in
    let made = c.match-found.made in
    let comes : made ≡ after (started 65535 unit) (unit_entries reads unit (option_copied c.open_lines-found.result)) =
    elim c.match-found.branch [
      | in-Some+in_ok-file+in_ok-way+in_ok-add_file w ↦
          w.made-is ∙ w.in_ok-add_file.ensures.made
          ∙ ap (λ (n : List ℕ). after c.in_ok-made.made (entries reads 16 w.in_ok-way.way n 0 w.in-Some.lines.now)) w.in_ok-file.ensures
          ∙ ap (λ (m : Made). after m (entries reads 16 w.in_ok-way.way unit 0 w.in-Some.lines.now)) c.in_ok-made.ensures
          ∙ ap (λ (ns : List (List ℕ)). after (started 65535 unit) (entries reads 16 ns unit 0 w.in-Some.lines.now)) w.in_ok-way.ensures
          ∙ ap (λ (o : Option (Bor (List SourceLine))). after (started 65535 unit) (unit_entries reads unit (option_copied o))) (sym w.in-Some.is)
      | in_default w ↦ w.made-is ∙ c.in_ok-made.ensures ∙ ap (λ (o : Option (Bor (List SourceLine))). after (started 65535 unit) (unit_entries reads unit (option_copied o))) (sym w.in_default.is)
    ]
    in
    expansion_is reads unit (option_copied c.open_lines-found.result) made c.open_lines-found.ensures comes
