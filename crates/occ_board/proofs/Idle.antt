-- Where nothing is pending no unit is ready.
use Rattle.std.proofs.Common.{◌≡◌, ◌∙◌, ◌&&◌, ℕ, Bool, true, false, not, List, [], ◌∷◌, length, get_or, sym, ap}
use Rattle.std.specs.List.{list_all}
use Rattle.std.specs.Option.{is_some}
use Rattle.occ_base.specs.FileName.{is_unit}
use Rattle.occ_board.proofs.Accepted.{open_among}
use Rattle.occ_board.proofs.Apart.{cached_among}
use Rattle.occ_board.proofs.Indices.{filed, placed}
use Rattle.occ_board.proofs.Looked.{false_by}
use Rattle.occ_board.proofs.Settled.{flag_at}
use Rattle.occ_board.proofs.Truths.{left_true, right_true}
use Rattle.occ_board.specs.Done.{done, pending_units}
use Rattle.occ_board.specs.inside.Flagged.{AreFlags, flag_of}
use Rattle.occ_board.specs.inside.Ready.{NoneIsReady, is_ready}
use Rattle.occ_check.specs.Input.{Input}
use Rattle.occ_check.specs.Report.{is_open_unit, open_units}
use Rattle.occ_project.specs.Entries.{is_among}
use Rattle.occ_project.specs.declared.reads.Read.{Read}
use Rattle.occ_project_units.specs.Along.{name_at}
use Rattle.occ_project_units.specs.Indices.{rest_units}
use Rattle.occ_project_units.specs.Project.{IsProject}

none_there : (us : List (List ℕ)) (v : List ℕ) → length us ≡ 0 → is_among us v ≡ true → ⊥
none_there [] v e h = cc
none_there (u ∷ us) v e h = cc

pub none_ready : (files : List Read) (cached : List Input) (flags : List Bool) → IsProject files → AreFlags files cached flags → length (pending_units files cached) ≡ 0 → (n : ℕ) → NoneIsReady files flags n
none_ready files cached flags project are none n p file lt there =
    false_by (is_ready files flags p file) (λ ready.
    let flag : get_or flags p false ≡ done files cached file.name = sym (flag_at files flags file.name p (placed files p file project there)) ∙ are file.name in
    let unset = left_true (not (get_or flags p false)) (list_all (flag_of files flags) (rest_units files (name_at files p)) && is_open_unit file) ready in
    let more = right_true (not (get_or flags p false)) (list_all (flag_of files flags) (rest_units files (name_at files p)) && is_open_unit file) ready in
    let opened = right_true (list_all (flag_of files flags) (rest_units files (name_at files p))) (is_open_unit file) more in
    let unit = left_true (is_unit file.name) (is_some file.source) opened in
    let source = ap (λ (f : Read). is_some f.source) (filed files p file project there) ∙ right_true (is_unit file.name) (is_some file.source) opened in
    none_there (pending_units files cached) file.name none (cached_among (λ u. not (done files cached u)) (open_units files) file.name (ap not (sym flag) ∙ unset) (open_among files file.name unit source)))
