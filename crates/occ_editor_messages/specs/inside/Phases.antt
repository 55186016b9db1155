-- What the client has asked for behind a request that was read.
use Rattle.std.specs.Prelude.{if◌then◌else◌}
use Rattle.occ_editor_edits.specs.Calls.{begins, ends}
use Rattle.occ_editor_edits.specs.declared.calls.ClientCall.{ClientCall}
use Rattle.occ_editor_messages.specs.declared.server.Phase.{Phase}
use Rattle.occ_editor_messages.specs.declared.server.Phase.TheVariants as phase

abbrev pub phase_by : Phase → ClientCall → Phase
phase_by phase.New call = if begins call then phase.Begun else phase.New
phase_by phase.Begun call = if ends call then phase.Shut else phase.Begun
phase_by phase.Shut call = phase.Shut
