-- What people are told of texts: the diagnostics of the report from nothing, in order, each once, at their paths and lines.
use Rattle.std.specs.Prelude.{◌≡◌, ℕ, List, [], ◌∷◌, map, if◌then◌else◌, cond}
use Rattle.std.specs.List.{filter, flat_map}
use Rattle.std.specs.Str.{bytes_eq}
use Rattle.std.specs.String.{string_bytes}
use Rattle.occ_base.specs.declared.diag.Diag.{Diag}
use Rattle.occ_board.specs.Journal.{nothing, replay}
use Rattle.occ_board.specs.declared.entry.Edit.TheVariants as edit
use Rattle.occ_board.specs.declared.entry.Entry.{Entry}
use Rattle.occ_board.specs.declared.report.Row.{Row}
use Rattle.occ_board.specs.declared.report.Shown.{Shown}
use Rattle.occ_board.specs.declared.report.Shown.TheVariants as shown
use Rattle.occ_check.specs.Order.{in_order}
use Rattle.occ_check.specs.Report.{whole_report}
use Rattle.occ_files.specs.declared.gathering.Text.{Text}
use Rattle.occ_messages.specs.Located.{Head, located}
use Rattle.occ_project.specs.Entries.{is_among}
use Rattle.occ_project.specs.declared.reads.Read.{Read}

-- the edit by which a text is opened
abbrev pub opening : Text → Entry
opening text = record { session = 0; edit = edit.Added text.name text.source }

-- the project of these texts alone
abbrev pub project_of : List Text → List Read
project_of texts = replay nothing (map opening texts)

-- the report of a project from nothing, as rows
abbrev pub whole_rows : List Read → List Row
whole_rows files = map (λ row. record { unit = row.0; shown = shown.Done row.1 }) (whole_report files)

abbrev pub shown_diags : Shown → List Diag
shown_diags shown.Pending = []
shown_diags (shown.Done diags) = diags

-- the diagnostics of a row, if its unit is one of these
abbrev pub row_diags : List (List ℕ) → Row → List Diag
row_diags units row = if is_among units row.unit then shown_diags row.shown else []

-- what is told of these units: all their diagnostics, in order, each once
abbrev pub told_diags : List (List ℕ) → List Row → List Diag
told_diags units rows = in_order (flat_map (row_diags units) rows)

-- those that are in a file
abbrev pub diags_in : List ℕ → List Diag → List Diag
diags_in file diags = filter (λ diag. bytes_eq diag.file file) diags

-- the path of the first text of that name
abbrev pub path_of : List Text → List ℕ → List ℕ
path_of [] name = []
path_of (text ∷ texts) name = if bytes_eq text.name name then string_bytes text.path else path_of texts name

-- where these diagnostics are
abbrev pub heads : List Text → List Diag → List Head
heads texts diags = map (λ diag. located (path_of texts diag.file) diag) diags
