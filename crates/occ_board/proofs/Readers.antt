-- How many units read a file, file by file.
use Rattle.std.proofs.Common.{◌≡◌, ◌∙◌, ◌&&◌, ◌+◌, ◌<◌, ◌≤◌, Bool, false, cond, ℕ, suc, List, [], ◌∷◌, length, take, get_or, refl, sym, ap, subst, length-append, arith}
use Rattle.std.proofs.lemmas.List.Elements.{filter-append}
use Rattle.std.specs.List.{filter}
use Rattle.std.specs.Ordering.{match_ordering}
use Rattle.std.specs.declared.cmp.Ordering.{Ordering}
use Rattle.std.specs.declared.cmp.Ordering.TheVariants.{Less, Equal, Greater}
use Rattle.occ_board.proofs.Bases.{by_all}
use Rattle.occ_board.proofs.Shows.{one_by, one_more, units_in, units_more}
use Rattle.occ_board.specs.Journal.{IsBase, edited, last_number, nothing, replay, replay_from}
use Rattle.occ_board.specs.declared.base.Base.{Base}
use Rattle.occ_board.specs.declared.entry.Entry.{Entry}
use Rattle.occ_project.specs.Entries.{is_among}
use Rattle.occ_project.specs.Reads.{name_cmp}
use Rattle.occ_project.specs.declared.reads.Read.{Read}
use Rattle.occ_check.specs.Report.{is_open_unit}
use Rattle.occ_project_units.specs.Project.{put}
use Rattle.occ_project_units.specs.Units.{read_names}

abbrev pub readers_in : List Read → List ℕ → List Read → ℕ
readers_in files name some = length (filter (λ u. is_among (read_names files u) name) (units_in some))

pub readers_more : (files items : List Read) (name : List ℕ) (p : ℕ) (file : Read) (count : ℕ) (b : Bool) → items ≡ files → p < length items → file ≡ get_or items p file → b ≡ (is_open_unit file && is_among (read_names files file.name) name)
    → count ≡ readers_in files name (take p files) → cond b (count + 1) count ≡ readers_in files name (take (p + 1) files)
readers_more files items name p file count b same lt e is so =
    let q = λ (u : List ℕ). is_among (read_names files u) name in
    let within : p < length files = subst (λ (fs : List Read). p < length fs) same lt in
    let here : file ≡ get_or files p file = e ∙ ap (λ (fs : List Read). get_or fs p file) same in
    let more : readers_in files name (take (p + 1) files) ≡ readers_in files name (take p files) + cond (cond (is_open_unit file) (q file.name) false) 1 0 =
    ap (λ (us : List (List ℕ)). length (filter q us)) (units_more files p file within here)
    ∙ ap (length {A = List ℕ}) (filter-append q (units_in (take p files)) (units_in (file ∷ [])))
    ∙ length-append (filter q (units_in (take p files))) (filter q (units_in (file ∷ [])))
    ∙ ap (λ (n : ℕ). readers_in files name (take p files) + n) (one_by (is_open_unit file) (q file.name) q file refl)
    in
    ap (λ (x : Bool). cond x (count + 1) count) is ∙ one_more (is_open_unit file) (q file.name) count (readers_in files name (take p files)) so ∙ sym more

-- there are no more files than edits
put_by : (o : Ordering) (x file : Read) (files rest : List Read) → length rest ≤ suc (length files) → length (match_ordering o (file ∷ x ∷ files) (file ∷ files) (x ∷ rest)) ≤ suc (suc (length files))
put_by Less x file files rest h = omega arith
put_by Equal x file files rest h = omega arith
put_by Greater x file files rest h = omega (arith, h)

pub put_short : (files : List Read) (file : Read) → length (put files file) ≤ suc (length files)
put_short [] file = omega arith
put_short (x ∷ files) file = put_by (name_cmp file.name x.name) x file files (put files file) (put_short files file)

replay_short : (n : ℕ) (files : List Read) (es : List Entry) → length (replay_from n files es) ≤ length files + length es
replay_short n files [] = omega arith
replay_short n files (e ∷ es) =
    let one = put_short files (edited n e.edit) in
    let more = replay_short (n + 1) (put files (edited n e.edit)) es in
    omega (arith, one, more)

pub few_files : (base : Base) (es : List Entry) → IsBase base → length (replay base es) ≤ last_number base es
few_files = by_all (λ base. length base.files ≤ base.number) (λ es. let k : length (replay nothing es) ≤ 0 + length es = replay_short 1 [] es in k)
