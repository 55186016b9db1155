use Rattle.std.proofs.Common.{◌≡◌, ◌∙◌, ◌+◌, List, ap, length}
use Rattle.occ_board.proofs.Following.{back_replayed}
use Rattle.occ_board.proofs.base.Base.follow.Goals as goal
use Rattle.occ_board.proofs.base.Base.follow.Goals.{then-entries-files+in_ok-edited_files+in_ok-put_all, else-entries-files+in_ok-self}
use Rattle.occ_board.specs.Journal.{replay}
use Rattle.occ_board.specs.declared.base.Base.{Base}
use Rattle.occ_board.specs.declared.entry.Entry.{Entry}
use Rattle.occ_project.specs.declared.reads.Read.{Read}
use Rattle.occ_project_units.specs.Project.{put_back}

pub returns-clause-ok : goal.returns-clause-ok
returns-clause-ok c =
    let before : Base = c.args.self.now in
    let entries : List Entry = c.args.entries.now in
    elim c.if-entries-files.branch [
      | then-entries-files+in_ok-edited_files+in_ok-put_all w ↦
          let files : w.put_all.new.self ≡ replay before entries =
          w.in_ok-put_all.ensures.ok ∙ ap (put_back before.files) w.in_ok-edited_files.ensures ∙ back_replayed (before.number + 1) before.files entries in
          ap (λ (b : Base). record { number = b.number + length entries; files = b.files }) w.self-is
          ∙ ap (λ (fs : List Read). record { number = before.number + length entries; files = fs }) files
      | else-entries-files+in_ok-self w ↦
          ap (λ (b : Base). record { number = b.number + length entries; files = b.files }) w.self-is
          ∙ ap (λ (fs : List Read). record { number = before.number + length entries; files = fs }) (w.in_ok-self.ensures ∙ c.requires.files)
    ]
