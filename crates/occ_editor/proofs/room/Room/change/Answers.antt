use Rattle.std.proofs.Common.{◌≡◌, ◌∙◌, ◌↔◌, ◌<◌, ℕ, List, Some, ap, arith, cond, false, length, refl, subst, sym, true}
use Rattle.std.proofs.lemmas.Option.{slice_get_read}
use Rattle.std.specs.List.{Contains, slice_get}
use Rattle.std.specs.Prelude.{nat_lt, slice_set}
use Rattle.std.specs.Str.{bytes_eq}
use Rattle.occ_editor.proofs.Placed.{IsAt, apart_set, has_set, is_at, open_put, or_left, other_source, source_at_set, text_at}
use Rattle.occ_editor.proofs.Right.{grows_set, named_set, right_beside}
use Rattle.occ_editor.proofs.Shown.{told_set}
use Rattle.occ_editor.proofs.Wanted.{met_beside, met_set, source_met}
use Rattle.occ_editor.proofs.room.Room.change.Goals as goal
use Rattle.occ_editor.specs.Publishing.{heads_of, text_at as text_in}
use Rattle.occ_editor.specs.Placing.{source_on}
use Rattle.occ_editor.specs.Rooms.{AreOpen, HasTexts, RefusesRightly}
use Rattle.occ_files.specs.Gathering.{AreNamed, are_apart, is_met}
use Rattle.occ_files.specs.declared.gathering.Text.{Text}
use Rattle.occ_forms.specs.Prepared.{Prepared}

pub returns-in_default-clause-stands : goal.returns-in_default-clause-stands
returns-in_default-clause-stands c = λ before now path e none changes stands.
    let texts : List Text = c.args.self.now.texts.items in
    let less : c.args.place < length texts = (text_at texts path c.args.place (is_at texts path c.args.place e)).4 in
    let within : nat_lt c.args.place (length texts) ≡ true = grind (arith, less) in
    let none : false ≡ nat_lt c.args.place (length texts) = c.in_default.ensures.lookup.0 ∙ ap (λ (ts : List Text). nat_lt c.args.place (length ts)) c.deref.ensures.value in
    absurd cc

pub returns-clause-stands : goal.returns-clause-stands
returns-clause-stands c = λ before now path e none changes stands.
    let texts : List Text = c.args.self.now.texts.items in
    let place : ℕ = c.args.place in
    let source : Prepared = c.args.source in
    let text : Text = c.in-Some.text.now in
    let within : place < length c.deref.result.now = grind (arith, c.in-Some.ensures.lookup.0) in
    let there : slice_get texts place ≡ Some text = ap (λ (ts : List Text). slice_get ts place) (sym c.deref.ensures.value) ∙ slice_get_read c.deref.result.now _ _ text refl within c.in-Some.ensures.lookup.1 in
    let at : IsAt texts path place = is_at texts path place e in
    let put : c.put_source.new.texts.items ≡ slice_set texts place (other_source text source) = c.put_source.ensures text there in
    record {
      named = subst AreNamed (sym put) (named_set texts place text source there stands.named);
      right = λ found. subst (λ (ts : List Text). RefusesRightly now ts c.args.self.now.refusals.items) (sym put) (right_beside before now path (Some source.text) texts (slice_set texts place (other_source text source)) c.args.self.now.refusals.items changes none (grows_set texts place text source there) (stands.right (or_left c.args.self.now.is_loose _ found)));
      apart = ap are_apart put ∙ apart_set texts place text source there ∙ stands.apart;
      has = subst (HasTexts c.put_one.new.board) (sym put)
          (has_set c.args.self.now.board c.put_one.new.board texts place text source there stands.apart stands.has
          (λ name. c.in_ok-put_one.ensures name ∙ ap (λ (s : Prepared). cond (bytes_eq text.name name) (Some s) (source_on c.args.self.now.board name)) c.in_ok-share.ensures));
      opened = λ found. subst (AreOpen now) (sym put)
          (open_put before now path source texts (slice_set texts place (other_source text source)) changes (source_at_set texts path place text source at there) (stands.opened (or_left c.args.self.now.is_loose _ found)));
      met = λ found. met_beside before now path (Some source.text) c.args.self.now (record { folder = c.args.self.now.folder; board = c.args.self.now.board; texts = c.put_source.new.texts; refusals = c.args.self.now.refusals; told = c.args.self.now.told; is_loose = false; is_changed = true }) changes refl
          (λ p met. ap (λ (ts : List Text). is_met ts c.args.self.now.refusals.items p) put ∙ met_set texts c.args.self.now.refusals.items place text source p there ∙ met)
          (λ of. source_met texts c.args.self.now.refusals.items path _ (text_at texts path place at).3) (stands.met (or_left c.args.self.now.is_loose _ found));
      told = λ found same. absurd cc;
    }

pub returns-clause-told : goal.returns-clause-told
returns-clause-told c = λ path.
    let texts : List Text = c.args.self.now.texts.items in
    let place : ℕ = c.args.place in
    let text : Text = c.in-Some.text.now in
    let within : place < length c.deref.result.now = grind (arith, c.in-Some.ensures.lookup.0) in
    let there : slice_get texts place ≡ Some text = ap (λ (ts : List Text). slice_get ts place) (sym c.deref.ensures.value) ∙ slice_get_read c.deref.result.now _ _ text refl within c.in-Some.ensures.lookup.1 in
    let put : c.put_source.new.texts.items ≡ slice_set texts place (other_source text c.args.source) = c.put_source.ensures text there in
    record {
      heads = λ head. subst (λ (ts : List Text). Contains (heads_of texts c.args.self.now.told (text_in texts path)) head ↔ Contains (heads_of ts c.args.self.now.told (text_in ts path)) head) (sym put) (told_set texts c.args.self.now.told place text c.args.source path there head);
      why = refl;
    }
