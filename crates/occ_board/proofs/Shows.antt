-- Rows of a report, and how many units are pending, file by file.
use Rattle.std.proofs.Common.{◌≡◌, ◌∙◌, ◌&&◌, ◌++◌, ◌+◌, ◌<◌, ◌≤◌, Bool, true, false, not, cond, ℕ, List, [], ◌∷◌, length, map, take, get_or, Some, refl, sym, ap, subst, length-append, arith}
use Rattle.std.proofs.lemmas.List.{map-append, take_more}
use Rattle.std.proofs.lemmas.List.Elements.{filter-append}
use Rattle.std.proofs.lemmas.Option.{get_or_from_slice_get}
use Rattle.std.specs.List.{filter, slice_get}
use Rattle.occ_board.proofs.Indices.{placed, there_is}
use Rattle.occ_board.proofs.Settled.{flag_at}
use Rattle.occ_board.specs.Done.{done}
use Rattle.occ_board.specs.Machine.{row_of}
use Rattle.occ_board.specs.declared.report.Row.{Row}
use Rattle.occ_board.specs.inside.Flagged.{AreFlags}
use Rattle.occ_check.specs.Input.{Input}
use Rattle.occ_project.specs.declared.reads.Read.{Read}
use Rattle.occ_check.specs.Report.{is_open_unit}
use Rattle.occ_project_units.specs.Project.{IsProject}

-- the open units among files
abbrev pub units_in : List Read → List (List ℕ)
units_in files = map (λ file. file.name) (filter is_open_unit files)

abbrev pub rows_in : List Read → List Input → List Read → List Row
rows_in files cached some = map (row_of files cached) (units_in some)

abbrev pub pending_in : List Read → List Input → List Read → ℕ
pending_in files cached some = length (filter (λ u. not (done files cached u)) (units_in some))

pub units_more : (files : List Read) (p : ℕ) (file : Read) → p < length files → file ≡ get_or files p file → units_in (take (p + 1) files) ≡ units_in (take p files) ++ units_in (file ∷ [])
units_more files p file lt e =
    ap units_in (take_more files p file lt)
    ∙ ap (map (λ file. file.name)) (filter-append is_open_unit (take p files) (get_or files p file ∷ []))
    ∙ map-append (λ file. file.name) (filter is_open_unit (take p files)) (filter is_open_unit (get_or files p file ∷ []))
    ∙ ap (λ (f : Read). units_in (take p files) ++ units_in (f ∷ [])) (sym e)

row_by : (files : List Read) (cached : List Input) (file : Read) (b : Bool) → map (row_of files cached) (map (λ file. file.name) (cond b (file ∷ []) [])) ≡ cond b (row_of files cached file.name ∷ []) []
row_by files cached file true = refl
row_by files cached file false = refl

pub rows_more : (files : List Read) (cached : List Input) (p : ℕ) (file : Read) → p < length files → file ≡ get_or files p file
    → rows_in files cached (take (p + 1) files) ≡ rows_in files cached (take p files) ++ cond (is_open_unit file) (row_of files cached file.name ∷ []) []
rows_more files cached p file lt e =
    ap (map (row_of files cached)) (units_more files p file lt e)
    ∙ map-append (row_of files cached) (units_in (take p files)) (units_in (file ∷ []))
    ∙ ap (λ (rows : List Row). rows_in files cached (take p files) ++ rows) (row_by files cached file (is_open_unit file))

-- whether a file is an open unit that is pending
abbrev pub is_pending : List Read → List Input → Read → Bool
is_pending files cached file = cond (is_open_unit file) (not (done files cached file.name)) false

pub one_by : (b c : Bool) (q : List ℕ → Bool) (file : Read) → q file.name ≡ c → length (filter q (map (λ file. file.name) (cond b (file ∷ []) []))) ≡ cond (cond b c false) 1 0
one_by true true q file e = ap (λ (x : Bool). length (cond x (file.name ∷ []) [])) e
one_by true false q file e = ap (λ (x : Bool). length (cond x (file.name ∷ []) [])) e
one_by false c q file e = refl

pub pending_more : (files : List Read) (cached : List Input) (p : ℕ) (file : Read) → p < length files → file ≡ get_or files p file
    → pending_in files cached (take (p + 1) files) ≡ pending_in files cached (take p files) + cond (is_pending files cached file) 1 0
pending_more files cached p file lt e =
    let q = λ (u : List ℕ). not (done files cached u) in
    ap (λ (us : List (List ℕ)). length (filter q us)) (units_more files p file lt e)
    ∙ ap (length {A = List ℕ}) (filter-append q (units_in (take p files)) (units_in (file ∷ [])))
    ∙ length-append (filter q (units_in (take p files))) (filter q (units_in (file ∷ [])))
    ∙ ap (λ (n : ℕ). pending_in files cached (take p files) + n) (one_by (is_open_unit file) (not (done files cached file.name)) q file refl)

pub there : (files : List Read) (p : ℕ) (file : Read) → p < length files → file ≡ get_or files p file → slice_get files p ≡ Some file
there files p file lt e = let at = there_is files p lt in at.1 ∙ ap Some (sym (e ∙ get_or_from_slice_get files p at.0 file at.1))

-- the flag at the place of a file says whether its unit is done
pub flag_here : (files items : List Read) (cached : List Input) (flags : List Bool) (p : ℕ) (file : Read) → IsProject items → items ≡ files → AreFlags files cached flags → p < length items → file ≡ get_or items p file
    → get_or flags p false ≡ done files cached file.name
flag_here files items cached flags p file s same are lt e =
    let here : slice_get files p ≡ Some file = ap (λ (fs : List Read). slice_get fs p) (sym same) ∙ there items p file lt e in
    sym (flag_at files flags file.name p (placed files p file (subst IsProject same s) here)) ∙ are file.name

-- one more file is counted
pub one_more : (b c : Bool) (m n : ℕ) → m ≡ n → cond (b && c) (m + 1) m ≡ n + cond (cond b c false) 1 0
one_more true true m n e = ap (λ (k : ℕ). k + 1) e
one_more true false m n e = let k : m ≡ n + 0 = omega (arith, e) in k
one_more false c m n e = let k : m ≡ n + 0 = omega (arith, e) in k

pub counted : (files items : List Read) (cached : List Input) (p : ℕ) (file : Read) (count : ℕ) (b : Bool) → items ≡ files → p < length items → file ≡ get_or items p file → b ≡ (is_open_unit file && not (done files cached file.name))
    → count ≡ pending_in files cached (take p files) → cond b (count + 1) count ≡ pending_in files cached (take (p + 1) files)
counted files items cached p file count b same lt e is so =
    ap (λ (x : Bool). cond x (count + 1) count) is
    ∙ one_more (is_open_unit file) (not (done files cached file.name)) count (pending_in files cached (take p files)) so
    ∙ sym (pending_more files cached p file (subst (λ (fs : List Read). p < length fs) same lt) (e ∙ ap (λ (fs : List Read). get_or fs p file) same))

pub at_most : (b : Bool) (count p next : ℕ) → next ≡ cond b (count + 1) count → count ≤ p → next ≤ p + 1
at_most true count p next e le = omega (arith, e, le)
at_most false count p next e le = omega (arith, e, le)
