-- What was to be sent stays in front of what is added.
use Rattle.std.proofs.Common.{◌≡◌, ℕ, List, Result, Ok, Err, OnOk}
use Rattle.serde_json.specs.Data.{Data}
use Rattle.occ_editor_edits.specs.Frames.{framed}
use Rattle.occ_editor_messages.specs.Sent.{Extends, IsAdded}

pub added_extends : {T E : Type 0} (result : Result T E) (message : Data) (before now : List ℕ) → OnOk result (IsAdded message before now) → OnOk result (Extends before now)
added_extends (Ok value) message before now added = (framed added.0, added.1)
added_extends (Err fault) message before now added = tt
