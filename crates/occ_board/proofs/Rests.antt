-- What the unit at an index rests on, by indices and by names.
use Rattle.std.proofs.Common.{◌≡◌, ◌<◌, ◌&&◌, ◌||◌, ℕ, zero, suc, Bool, true, false, not, cond, List, [], ◌∷◌, length, map, get_or, Option, Some, None, refl, sym, ap, ◌∙◌}
use Rattle.std.specs.List.{filter, list_all, slice_get, cons_option}
use Rattle.std.specs.Option.{is_some}
use Rattle.std.specs.Str.{bytes_eq}
use Rattle.occ_board.proofs.Indices.{at_index, named, nowhere, placed, there_is}
use Rattle.occ_board.proofs.Settled.{flag_at}
use Rattle.occ_board.proofs.Truths.{among_first, or_right}
use Rattle.occ_board.specs.inside.Flagged.{absent_or, flag_of, rest_flag}
use Rattle.occ_project_graph.specs.Graph as edges
use Rattle.occ_project_graph.specs.Graph.{rests, targets}
use Rattle.occ_project.specs.Entries.{is_among}
use Rattle.occ_project.specs.Reads.{index}
use Rattle.occ_project.specs.declared.reads.Read.{Read}
use Rattle.occ_project_units.specs.Along.{name_at}
use Rattle.occ_project_units.specs.Indices.{circular_at, graph_of, is_below, is_circular, indices_of, rest_units, standing_of}
use Rattle.occ_project_units.specs.Project.{IsProject, file_of}
use Rattle.occ_project_units.specs.Units.{used_units}
use Rattle.occ_project_units.specs.declared.standing.Standing.TheVariants as standing

row_at : (files all : List Read) (p : ℕ) (file : Read) → slice_get files p ≡ Some file → get_or (map (λ f. indices_of all (used_units all f.name)) files) p [] ≡ indices_of all (used_units all file.name)
row_at [] all p file e = absurd cc
row_at (x ∷ files) all zero file e = let same : x ≡ file = cc in ap (λ (f : Read). indices_of all (used_units all f.name)) same
row_at (x ∷ files) all (suc p) file e = row_at files all p file e

-- how a used unit stands, by whether it is open and in a circle
abbrev standing_by : Bool → Bool → Bool
standing_by opened circular = is_below (cond opened (cond circular standing.Circular standing.Below) standing.Absent)

module _ (files : List Read) (flags : List Bool) (u : List ℕ) (p : ℕ) (here : index u files ≡ Some p) where
  abbrev straight : ℕ → Bool
  straight q = not (edges.is_circular (graph_of files) p q)

  one : (opened circular : Bool) (file : Read) (flag : Bool) (q : ℕ) (v : List ℕ) (qs : List ℕ) (vs : List (List ℕ)) → is_some file.source ≡ opened → rest_flag files flags q ≡ absent_or (Some file) flag → flag_of files flags v ≡ flag
      → list_all (rest_flag files flags) qs ≡ list_all (flag_of files flags) vs
      → list_all (rest_flag files flags) (cond (not circular) (q ∷ qs) qs) ≡ list_all (flag_of files flags) (cond (standing_by opened circular) (v ∷ vs) vs)
  one true true file flag q v qs vs o r f same = same
  one false true file flag q v qs vs o r f same = same
  one true false file flag q v qs vs o r f same =
      ap (λ (b : Bool). b && list_all (rest_flag files flags) qs) (r ∙ ap (λ (b : Bool). not b || flag) o ∙ sym f) ∙ ap (λ (b : Bool). flag_of files flags v && b) same
  one false false file flag q v qs vs o r f same = ap (λ (b : Bool). b && list_all (rest_flag files flags) qs) (r ∙ ap (λ (b : Bool). not b || flag) o) ∙ same

  -- of a unit that u uses
  circle : (v : List ℕ) (q : ℕ) → is_among (used_units files u) v ≡ true → index v files ≡ Some q → is_circular files u v ≡ edges.is_circular (graph_of files) p q
  circle v q used e =
      ap (λ (b : Bool). b && circular_at (graph_of files) (index u files) (index v files)) used
      ∙ ap (λ (o : Option ℕ). circular_at (graph_of files) o (index v files)) here
      ∙ ap (λ (o : Option ℕ). circular_at (graph_of files) (Some p) o) e

  all_rests_by : (vs : List (List ℕ)) → ((v : List ℕ) → is_among vs v ≡ true → is_among (used_units files u) v ≡ true)
      → list_all (rest_flag files flags) (filter straight (indices_of files vs)) ≡ list_all (flag_of files flags) (filter (λ v. is_below (standing_of files u v)) vs)
  all_rests_by [] used = refl
  all_rests_by (v ∷ vs) used = by (index v files) refl (all_rests_by vs (λ w a. used w (or_right (bytes_eq v w) (is_among vs w) a))) where
    by : (o : Option ℕ) → index v files ≡ o
        → list_all (rest_flag files flags) (filter straight (indices_of files vs)) ≡ list_all (flag_of files flags) (filter (λ v. is_below (standing_of files u v)) vs)
        → list_all (rest_flag files flags) (filter straight (cons_option o (indices_of files vs))) ≡ list_all (flag_of files flags) (filter (λ v. is_below (standing_of files u v)) (v ∷ vs))
    by None e rest =
        let shut : is_some (file_of files v).source ≡ false = nowhere files v e in
        rest ∙ sym (ap (λ (b : Bool). list_all (flag_of files flags) (cond (standing_by b (is_circular files u v)) (v ∷ filter (λ v. is_below (standing_of files u v)) vs) (filter (λ v. is_below (standing_of files u v)) vs))) shut)
    by (Some q) e rest =
        let there = at_index files v q e in
        let opened : is_some (file_of files v).source ≡ is_some there.0.source = ap (λ (f : Read). is_some f.source) there.1.1.1 in
        one (is_some (file_of files v).source) (edges.is_circular (graph_of files) p q) there.0 (get_or flags q false) q v (filter straight (indices_of files vs)) (filter (λ v. is_below (standing_of files u v)) vs)
        (sym opened) (ap (λ (o : Option Read). absent_or o (get_or flags q false)) there.1.0) (flag_at files flags v q e) rest
        ∙ ap (λ (b : Bool). list_all (flag_of files flags) (cond (standing_by (is_some (file_of files v).source) b) (v ∷ filter (λ v. is_below (standing_of files u v)) vs) (filter (λ v. is_below (standing_of files u v)) vs)))
        (sym (circle v q (used v (among_first v vs)) e))

pub rests_flagged : (files : List Read) (flags : List Bool) (p : ℕ) → IsProject files → p < length files → list_all (rest_flag files flags) (rests (graph_of files) p) ≡ list_all (flag_of files flags) (rest_units files (name_at files p))
rests_flagged files flags p s lt =
    let there = there_is files p lt in
    let file = there.0 in
    let name : name_at files p ≡ file.name = named files p file there.1 in
    let row : targets (graph_of files) p ≡ indices_of files (used_units files file.name) = row_at files files p file there.1 in
    ap (λ (qs : List ℕ). list_all (rest_flag files flags) (filter (λ q. not (edges.is_circular (graph_of files) p q)) qs)) row
    ∙ all_rests_by files flags file.name p (placed files p file s there.1) (used_units files file.name) (λ v a. a)
    ∙ ap (λ (n : List ℕ). list_all (flag_of files flags) (rest_units files n)) (sym name)
