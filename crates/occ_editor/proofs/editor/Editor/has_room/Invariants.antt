use Rattle.std.proofs.Common.{◌≡◌, drop}
use Rattle.occ_editor.proofs.editor.Editor.has_room.Given as goal
use Rattle.occ_editor.specs.Rooms.{has_folder}
use Rattle.occ_files.specs.Paths.{folder_of}

abbrev pub invariant-loop-room : goal.invariant-loop-room
invariant-loop-room l = has_folder (drop l.room-index l.self.rooms.items) (folder_of l.path) ≡ has_folder l.self.rooms.items (folder_of l.path)
