use Rattle.std.proofs.Common.{◌≡◌, ◌∙◌, ◌<◌, ℕ, List, length, Some, Bor, ap, arith, refl, rules, sym}
use Rattle.std.proofs.lemmas.Option.{slice_get_read}
use Rattle.std.proofs.lemmas.Slice.Eq.{bytes_eq-Decides}
use Rattle.std.specs.List.{slice_get}
use Rattle.std.specs.Option.{option_map}
use Rattle.occ_editor.proofs.Placed.{is_at, text_at}
use Rattle.occ_editor.proofs.room.Room.has.Goals as goal
use Rattle.occ_files.specs.declared.gathering.Text.{Text}

pub returns-in-Some-get : goal.returns-in-Some-get
returns-in-Some-get c = λ is.
    let texts : List Text = c.args.self.now.texts.items in
    let place : ℕ = c.in-Some-place_of.place in
    let found = text_at texts c.args.path.now place (is_at texts c.args.path.now place (sym c.in-Some-place_of.ensures)) in
    let within : place < length c.deref.result.now = grind (arith, c.in-Some-get.ensures.lookup.0) in
    let there : slice_get texts place ≡ Some c.in-Some-get.text.now = ap (λ (ts : List Text). slice_get ts place) (sym c.deref.ensures.value) ∙ slice_get_read c.deref.result.now _ _ c.in-Some-get.text.now refl within c.in-Some-get.ensures.lookup.1 in
    let one : Some found.0 ≡ Some c.in-Some-get.text.now = sym found.1 ∙ there in
    let same : found.0 ≡ c.in-Some-get.text.now = cc in
    let bytes : c.text.result.now ≡ c.in-Some.bytes.now = (bytes_eq-Decides c.text.result.now c.in-Some.bytes.now).0 (sym c.eq.ensures ∙ is) in
    let text : c.text.result.now ≡ found.0.source.text = search rules in
    (found.0.source, found.3, ap (option_map (λ (text : Bor (List ℕ)). text.now)) c.in-Some.is ∙ ap (λ (bs : List ℕ). Some bs) (sym bytes ∙ text))
