-- What was read of a message: a note of a file, and what begins and ends a talk.
use Rattle.std.specs.Prelude.{◌≡◌, Bool, true, false, ℕ, Option, Some, None}
use Rattle.occ_editor_edits.specs.Messages.{Saying, said}
use Rattle.occ_editor_edits.specs.declared.calls.ClientCall.{ClientCall}
use Rattle.occ_editor_edits.specs.declared.calls.ClientCall.TheVariants as call

-- what it says of a file, if it is a note
abbrev pub note_in : ClientCall → Option Saying
note_in (call.Initialize watches) = None
note_in call.Initialized = None
note_in call.Shutdown = None
note_in call.Exit = None
note_in (call.Noted note) = Some (said note)
note_in call.Read = None
note_in (call.Hover path line) = None
note_in call.Unknown = None
note_in call.Garbled = None
note_in call.Nothing = None

-- it is to begin
abbrev pub begins : ClientCall → Bool
begins (call.Initialize watches) = true
begins call.Initialized = false
begins call.Shutdown = false
begins call.Exit = false
begins (call.Noted note) = false
begins call.Read = false
begins (call.Hover path line) = false
begins call.Unknown = false
begins call.Garbled = false
begins call.Nothing = false

-- it is to answer no more
abbrev pub ends : ClientCall → Bool
ends (call.Initialize watches) = false
ends call.Initialized = false
ends call.Shutdown = true
ends call.Exit = false
ends (call.Noted note) = false
ends call.Read = false
ends (call.Hover path line) = false
ends call.Unknown = false
ends call.Garbled = false
ends call.Nothing = false

-- it is to end
abbrev pub leaves : ClientCall → Bool
leaves (call.Initialize watches) = false
leaves call.Initialized = false
leaves call.Shutdown = false
leaves call.Exit = true
leaves (call.Noted note) = false
leaves call.Read = false
leaves (call.Hover path line) = false
leaves call.Unknown = false
leaves call.Garbled = false
leaves call.Nothing = false

-- it is none of these three
abbrev pub IsPlain : ClientCall → Type 0
IsPlain c = (begins c ≡ false) × (ends c ≡ false) × (leaves c ≡ false)
