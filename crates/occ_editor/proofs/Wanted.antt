-- Open units are among the files of their rooms.
use Rattle.std.proofs.Common.{◌≡◌, ◌∙◌, inl, inr, arith, ◌&&◌, ◌||◌, ◌++◌, ◌==◌, Bool, true, false, cond, ℕ, zero, suc, List, [], ◌∷◌, length, map, not, slice_set, Option, Some, None, String, Global, refl, subst, sym, ap, if◌then◌else◌}
use Rattle.std.proofs.lemmas.List.Elements.{All-head, All-tail}
use Rattle.std.proofs.lemmas.Slice.Eq.{bytes_eq-Decides}
use Rattle.std.specs.List.{All, filter, list_any, slice_get}
use Rattle.std.specs.Str.{bytes_eq}
use Rattle.std.specs.String.{string_bytes}
use Rattle.occ_editor.proofs.Placed.{other_source, source_named}
use Rattle.occ_editor.proofs.Right.{name_at, reason}
use Rattle.occ_editor.proofs.Shown.{at_path}
use Rattle.occ_editor.specs.Publishing.{text_at}
use Rattle.occ_editor.specs.Rooms.{AllSettled, HaveRooms, IsServed, IsSettled, MeetsOpen, has_folder, is_of, is_unit, is_vacant, source_at}
use Rattle.occ_editor.specs.declared.room.Room.{Room}
use Rattle.occ_editor.specs.inside.Bringing.{Before, shared_by}
use Rattle.occ_editor.specs.inside.Placed.{AreAsked, wanted}
use Rattle.occ_editor_edits.specs.Documents.{ChangesAt, text_in}
use Rattle.occ_editor_edits.specs.declared.documents.Document.{Document}
use Rattle.occ_files.proofs.Kept.{or_true}
use Rattle.occ_files.specs.Gathering.{has_path, is_met, is_refused}
use Rattle.occ_files.specs.Paths.{folder_of, name_of}
use Rattle.occ_files.specs.declared.gathering.Text.{Text}
use Rattle.occ_files.specs.declared.refusal.Refusal.{Refusal}
use Rattle.occ_forms.specs.Prepared.{Prepared}

-- one of these is that
abbrev pub among : List (List ℕ) → List ℕ → Bool
among xs x = list_any (λ y. bytes_eq y x) xs

-- ---- what is asked for

open_there : (ds : List Document) (path bytes : List ℕ) → text_in ds path ≡ Some bytes → among (map (λ d. string_bytes d.path) ds) path ≡ true
open_there [] path bytes e = absurd cc
open_there (d ∷ ds) path bytes e = by (bytes_eq (string_bytes d.path) path) e (open_there ds path bytes) where
  by : (b : Bool) → (if b then Some d.text.items else text_in ds path) ≡ Some bytes → (text_in ds path ≡ Some bytes → among (map (λ d. string_bytes d.path) ds) path ≡ true) → b || among (map (λ d. string_bytes d.path) ds) path ≡ true
  by true h rest = refl
  by false h rest = rest h

among_filter : (p : List ℕ → Bool) (xs : List (List ℕ)) (x : List ℕ) → among xs x ≡ true → p x ≡ true → among (filter p xs) x ≡ true
among_filter p [] x h q = absurd cc
among_filter p (y ∷ ys) x h q = by (bytes_eq y x) refl (p y) refl h (λ k. among_filter p ys x k q) where
  by : (b : Bool) → bytes_eq y x ≡ b → (c : Bool) → p y ≡ c → b || among ys x ≡ true → (among ys x ≡ true → among (filter p ys) x ≡ true) → among (cond c (y ∷ filter p ys) (filter p ys)) x ≡ true
  by true e true f k rest = ap (λ (b : Bool). b || among (filter p ys) x) e
  by true e false f k rest = let is : p y ≡ true = ap p ((bytes_eq-Decides y x).0 e) ∙ q in absurd cc
  by false e true f k rest = ap (λ (b : Bool). bytes_eq y x || b) (rest k) ∙ or_true (bytes_eq y x)
  by false e false f k rest = rest k

met_among : (texts : List Text) (refusals : List Refusal) (paths : List (String Global)) (x : List ℕ) → among (map string_bytes paths) x ≡ true → All (λ path. is_met texts refusals (string_bytes path) ≡ true) paths → is_met texts refusals x ≡ true
met_among texts refusals [] x h all = absurd cc
met_among texts refusals (p ∷ ps) x h all = by (bytes_eq (string_bytes p) x) refl h (λ k. met_among texts refusals ps x k (All-tail (λ path. is_met texts refusals (string_bytes path) ≡ true) p ps all)) where
  by : (b : Bool) → bytes_eq (string_bytes p) x ≡ b → b || among (map string_bytes ps) x ≡ true → (among (map string_bytes ps) x ≡ true → is_met texts refusals x ≡ true) → is_met texts refusals x ≡ true
  by true e k rest = subst (λ (y : List ℕ). is_met texts refusals y ≡ true) ((bytes_eq-Decides (string_bytes p) x).0 e) (All-head (λ path. is_met texts refusals (string_bytes path) ≡ true) p ps all)
  by false e k rest = rest k

of_same : (one other : Room) (path : List ℕ) → one.folder ≡ other.folder → is_of one path ≡ is_of other path
of_same one other path e = ap (λ (f : String Global). is_unit path && bytes_eq (string_bytes f) (folder_of path)) e

-- where all that is asked for is met, so are the open units
pub met_open : (documents : List Document) (before now : Room) (paths : List (String Global)) → AreAsked documents before paths → now.folder ≡ before.folder → All (λ path. is_met now.texts.items now.refusals.items (string_bytes path) ≡ true) paths → MeetsOpen documents now
met_open documents before now paths asked same all path bytes e of =
    let is : is_of before path ≡ true = sym (of_same now before path same) ∙ of in
    let there : among (map string_bytes paths) path ≡ true = ap (λ (xs : List (List ℕ)). among xs path) asked ∙ among_filter (is_of before) (map (λ d. string_bytes d.path) documents) path (open_there documents path bytes e) is in
    met_among now.texts.items now.refusals.items paths path there all

-- ---- what stays met

pub met_beside : (before now : List Document) (path : List ℕ) (text : Option (List ℕ)) (old new : Room) → ChangesAt before now path text → new.folder ≡ old.folder
    → ((p : List ℕ) → is_met old.texts.items old.refusals.items p ≡ true → is_met new.texts.items new.refusals.items p ≡ true)
    → (is_of old path ≡ true → is_met old.texts.items old.refusals.items path ≡ true) → MeetsOpen before old → MeetsOpen now new
met_beside before now path text old new changes same keeps here met p bytes e of = keeps p (by (bytes_eq path p) refl (sym (changes p) ∙ e) (sym (of_same new old p same) ∙ of)) where
  by : (b : Bool) → bytes_eq path p ≡ b → cond b text (text_in before p) ≡ Some bytes → is_of old p ≡ true → is_met old.texts.items old.refusals.items p ≡ true
  by true h is of_old =
      let at : path ≡ p = (bytes_eq-Decides path p).0 h in
      subst (λ (q : List ℕ). is_met old.texts.items old.refusals.items q ≡ true) at (here (ap (is_of old) at ∙ of_old))
  by false h is of_old = met p bytes is of_old

path_met : (texts : List Text) (refusals : List Refusal) (path : List ℕ) → has_path texts path ≡ true → is_met texts refusals path ≡ true
path_met texts refusals path h = ap (λ (b : Bool). b || is_refused refusals path) h

source_there : (ts : List Text) (path : List ℕ) (source : Prepared) → source_at ts path ≡ Some source → has_path ts path ≡ true
source_there [] path source e = absurd cc
source_there (t ∷ ts) path source e = by (bytes_eq (string_bytes t.path) path) e (source_there ts path source) where
  by : (b : Bool) → (if b then Some t.source else source_at ts path) ≡ Some source → (source_at ts path ≡ Some source → has_path ts path ≡ true) → b || has_path ts path ≡ true
  by true h rest = refl
  by false h rest = rest h

pub source_met : (ts : List Text) (refusals : List Refusal) (path : List ℕ) (source : Prepared) → source_at ts path ≡ Some source → is_met ts refusals path ≡ true
source_met ts refusals path source e = path_met ts refusals path (source_there ts path source e)

-- another source at a place leaves the paths
pathed_set : (ts : List Text) (i : ℕ) (t : Text) (s : Prepared) (path : List ℕ) → slice_get ts i ≡ Some t → has_path (slice_set ts i (other_source t s)) path ≡ has_path ts path
pathed_set [] i t s path e = absurd cc
pathed_set (u ∷ us) zero t s path e = let same : u ≡ t = cc in ap (λ (v : Text). bytes_eq (string_bytes v.path) path || has_path us path) (sym same)
pathed_set (u ∷ us) (suc i) t s path e = ap (λ (b : Bool). bytes_eq (string_bytes u.path) path || b) (pathed_set us i t s path e)

pub met_set : (ts : List Text) (refusals : List Refusal) (i : ℕ) (t : Text) (s : Prepared) (path : List ℕ) → slice_get ts i ≡ Some t → is_met (slice_set ts i (other_source t s)) refusals path ≡ is_met ts refusals path
met_set ts refusals i t s path e = ap (λ (b : Bool). b || is_refused refusals path) (pathed_set ts i t s path e)

-- ---- texts that are brought keep their paths

pub paths_shared : (before : Before) (texts : List Text) → map (λ text. string_bytes text.path) (map (shared_by before) texts) ≡ map (λ text. string_bytes text.path) texts
paths_shared before [] = refl
paths_shared before (t ∷ ts) = ap (λ (xs : List (List ℕ)). string_bytes t.path ∷ xs) (paths_shared before ts)

path_among : (ts : List Text) (path : List ℕ) → has_path ts path ≡ among (map (λ text. string_bytes text.path) ts) path
path_among [] path = refl
path_among (t ∷ ts) path = ap (λ (b : Bool). bytes_eq (string_bytes t.path) path || b) (path_among ts path)

pub met_paths : (ts us : List Text) (refusals : List Refusal) (path : List ℕ) → map (λ text. string_bytes text.path) ts ≡ map (λ text. string_bytes text.path) us → is_met ts refusals path ≡ is_met us refusals path
met_paths ts us refusals path e = ap (λ (b : Bool). b || is_refused refusals path) (path_among ts path ∙ ap (λ (xs : List (List ℕ)). among xs path) e ∙ sym (path_among us path))

-- ---- rooms for folders

folder_among : (rooms : List Room) (folder : List ℕ) → has_folder rooms folder ≡ among (map (λ room. string_bytes room.folder) rooms) folder
folder_among [] folder = refl
folder_among (r ∷ rs) folder = ap (λ (b : Bool). bytes_eq (string_bytes r.folder) folder || b) (folder_among rs folder)

pub folder_same : (rooms others : List Room) (folder : List ℕ) → map (λ room. string_bytes room.folder) rooms ≡ map (λ room. string_bytes room.folder) others → has_folder rooms folder ≡ has_folder others folder
folder_same rooms others folder e = folder_among rooms folder ∙ ap (λ (xs : List (List ℕ)). among xs folder) e ∙ sym (folder_among others folder)

-- the room that a folder has
pub folder_at : (rooms : List Room) (folder : List ℕ) → has_folder rooms folder ≡ true → (k : ℕ) × (room : Room) × (slice_get rooms k ≡ Some room) × (bytes_eq (string_bytes room.folder) folder ≡ true)
folder_at [] folder h = absurd cc
folder_at (r ∷ rs) folder h = by (bytes_eq (string_bytes r.folder) folder) refl h (folder_at rs folder) where
  by : (b : Bool) → bytes_eq (string_bytes r.folder) folder ≡ b → b || has_folder rs folder ≡ true → (has_folder rs folder ≡ true → (k : ℕ) × (room : Room) × (slice_get rs k ≡ Some room) × (bytes_eq (string_bytes room.folder) folder ≡ true)) → (k : ℕ) × (room : Room) × (slice_get (r ∷ rs) k ≡ Some room) × (bytes_eq (string_bytes room.folder) folder ≡ true)
  by true e k rest = (0, r, refl, e)
  by false e k rest = let at = rest k in (suc at.0, at.1, at.2, at.3)

pub folder_more : (rooms : List Room) (room : Room) (folder : List ℕ) → has_folder (rooms ++ room ∷ []) folder ≡ has_folder rooms folder || bytes_eq (string_bytes room.folder) folder
folder_more [] room folder = by (bytes_eq (string_bytes room.folder) folder) where
  by : (b : Bool) → b || false ≡ b
  by true = refl
  by false = refl
folder_more (r ∷ rs) room folder = ap (λ (b : Bool). bytes_eq (string_bytes r.folder) folder || b) (folder_more rs room folder) ∙ by (bytes_eq (string_bytes r.folder) folder) where
  by : (b : Bool) → b || (has_folder rs folder || bytes_eq (string_bytes room.folder) folder) ≡ (b || has_folder rs folder) || bytes_eq (string_bytes room.folder) folder
  by true = refl
  by false = refl

folder_filter : (p : Room → Bool) (rooms : List Room) (k : ℕ) (room : Room) (folder : List ℕ) → slice_get rooms k ≡ Some room → p room ≡ true → bytes_eq (string_bytes room.folder) folder ≡ true → has_folder (filter p rooms) folder ≡ true
folder_filter p [] k room folder e q h = absurd cc
folder_filter p (r ∷ rs) zero room folder e q h =
    let same : r ≡ room = cc in
    ap (λ (c : Bool). has_folder (cond c (r ∷ filter p rs) (filter p rs)) folder) (ap p same ∙ q)
    ∙ ap (λ (b : Bool). b || has_folder (filter p rs) folder) (ap (λ (x : Room). bytes_eq (string_bytes x.folder) folder) same ∙ h)
folder_filter p (r ∷ rs) (suc k) room folder e q h = by (p r) (folder_filter p rs k room folder e q h) where
  by : (c : Bool) → has_folder (filter p rs) folder ≡ true → has_folder (cond c (r ∷ filter p rs) (filter p rs)) folder ≡ true
  by true rest = ap (λ (b : Bool). bytes_eq (string_bytes r.folder) folder || b) rest ∙ or_true (bytes_eq (string_bytes r.folder) folder)
  by false rest = rest

-- a room that has met a unit has files
filled : (room : Room) (path : List ℕ) → is_met room.texts.items room.refusals.items path ≡ true → not (is_vacant room) ≡ true
filled room path h = by room.texts.items room.refusals.items h where
  by : (ts : List Text) (rs : List Refusal) → is_met ts rs path ≡ true → not ((length ts == 0) && (length rs == 0)) ≡ true
  by [] [] h = absurd cc
  by [] (r ∷ rs) h =
      let some : (length (r ∷ rs) == 0) ≡ false = grind arith in
      ap (λ (b : Bool). not b) some
  by (t ∷ ts) rs h =
      let some : (length (t ∷ ts) == 0) ≡ false = grind arith in
      ap (λ (b : Bool). not (b && (length rs == 0))) some

both : (a b : Bool) → a ≡ true → b ≡ true → a && b ≡ true
both true b e f = f
both false b e f = absurd cc

-- rooms of open units stay where those without files are left
pub rooms_filter : (documents : List Document) (rooms : List Room) → AllSettled documents rooms → HaveRooms documents rooms → HaveRooms documents (filter (λ room. not (is_vacant room)) rooms)
rooms_filter documents rooms settled have path bytes e unit =
    let at = folder_at rooms (folder_of path) (have path bytes e unit) in
    let is = settled at.0 at.1 at.2 in
    let met = is.stands.met is.found path bytes e (both (is_unit path) (bytes_eq (string_bytes at.1.folder) (folder_of path)) unit at.3) in
    folder_filter (λ room. not (is_vacant room)) rooms at.0 at.1 (folder_of path) at.2 (filled at.1 path met) at.3

-- ---- what an open unit finds

text_there : (ts : List Text) (path : List ℕ) → has_path ts path ≡ true → (i : ℕ) × (t : Text) × (slice_get ts i ≡ Some t) × (text_at ts path ≡ Some t) × (source_at ts path ≡ Some t.source)
text_there [] path h = absurd cc
text_there (t ∷ ts) path h = by (bytes_eq (string_bytes t.path) path) refl h (text_there ts path) where
  by : (b : Bool) → bytes_eq (string_bytes t.path) path ≡ b → b || has_path ts path ≡ true
      → (has_path ts path ≡ true → (i : ℕ) × (u : Text) × (slice_get ts i ≡ Some u) × (text_at ts path ≡ Some u) × (source_at ts path ≡ Some u.source))
      → (i : ℕ) × (u : Text) × (slice_get (t ∷ ts) i ≡ Some u) × (text_at (t ∷ ts) path ≡ Some u) × (source_at (t ∷ ts) path ≡ Some u.source)
  by true e k rest = (0, t, refl, ap (λ (b : Bool). if b then Some t else text_at ts path) e, ap (λ (b : Bool). if b then Some t.source else source_at ts path) e)
  by false e k rest =
      let at = rest k in
      (suc at.0, at.1, at.2, ap (λ (b : Bool). if b then Some t else text_at ts path) e ∙ at.3, ap (λ (b : Bool). if b then Some t.source else source_at ts path) e ∙ at.4)

pub served : (documents : List Document) (room : Room) (path bytes : List ℕ) → IsSettled documents room → text_in documents path ≡ Some bytes → is_of room path ≡ true → IsServed room path bytes
served documents room path bytes settled e of = by (has_path room.texts.items path) refl (settled.stands.met settled.found path bytes e of) where
  by : (b : Bool) → has_path room.texts.items path ≡ b → b || is_refused room.refusals.items path ≡ true → IsServed room path bytes
  by true h met =
      let at = text_there room.texts.items path h in
      let t = at.1 in
      let named : t.name ≡ name_of path = name_at room.texts.items at.0 t at.2 settled.stands.named ∙ ap name_of (at_path room.texts.items path t at.3) in
      inl (t, at.3, named, settled.stands.has t.name ∙ source_named room.texts.items at.0 t at.2 settled.stands.apart, settled.stands.opened settled.found path bytes t.source e at.4)
  by false h met =
      let why = reason room.refusals.items path met in
      inr (why.0, why.1, settled.stands.right settled.found path bytes why.0 e why.1)

-- each open unit is on the board of its folder
pub all_served : (documents : List Document) (rooms : List Room) → AllSettled documents rooms → HaveRooms documents rooms → (path bytes : List ℕ) → text_in documents path ≡ Some bytes → is_unit path ≡ true
    → (index : ℕ) × (room : Room) × (slice_get rooms index ≡ Some room) × (is_of room path ≡ true) × IsServed room path bytes
all_served documents rooms settled have path bytes e unit =
    let at = folder_at rooms (folder_of path) (have path bytes e unit) in
    let of = both (is_unit path) (bytes_eq (string_bytes at.1.folder) (folder_of path)) unit at.3 in
    (at.0, at.1, at.2, of, served documents at.1 path bytes (settled at.0 at.1 at.2) e of)

-- a room in place of one for the same folder
pub folders_set : (rooms : List Room) (i : ℕ) (old new : Room) → slice_get rooms i ≡ Some old → new.folder ≡ old.folder → map (λ room. string_bytes room.folder) (slice_set rooms i new) ≡ map (λ room. string_bytes room.folder) rooms
folders_set [] i old new e same = absurd cc
folders_set (r ∷ rs) zero old new e same =
    let is : r ≡ old = cc in
    ap (λ (f : String Global). string_bytes f ∷ map (λ room. string_bytes room.folder) rs) same ∙ ap (λ (x : Room). string_bytes x.folder ∷ map (λ room. string_bytes room.folder) rs) (sym is)
folders_set (r ∷ rs) (suc i) old new e same = ap (λ (xs : List (List ℕ)). string_bytes r.folder ∷ xs) (folders_set rs i old new e same)

-- a folder that is new has a room, and the others have theirs
pub room_for : (rooms : List Room) (new : Room) (one path : List ℕ) → (bytes_eq one path ≡ false → has_folder rooms (folder_of path) ≡ true) → string_bytes new.folder ≡ folder_of one → has_folder (rooms ++ new ∷ []) (folder_of path) ≡ true
room_for rooms new one path others folder = folder_more rooms new (folder_of path) ∙ by (bytes_eq one path) refl where
  by : (b : Bool) → bytes_eq one path ≡ b → has_folder rooms (folder_of path) || bytes_eq (string_bytes new.folder) (folder_of path) ≡ true
  by true h = ap (λ (b : Bool). has_folder rooms (folder_of path) || b) ((bytes_eq-Decides (string_bytes new.folder) (folder_of path)).1 (folder ∙ ap folder_of ((bytes_eq-Decides one path).0 h))) ∙ or_true (has_folder rooms (folder_of path))
  by false h = ap (λ (b : Bool). b || bytes_eq (string_bytes new.folder) (folder_of path)) (others h)
