-- Whatever the commands of a script are, its board has a base that edits made.
use Rattle.std.proofs.Common.{ℕ, zero, suc, List, [], ◌∷◌, Option, Some, None}
use Rattle.occ_board.specs.Journal.{IsBase}
use Rattle.occ_board.specs.Machine.{State, after as after_event, take_answer}
use Rattle.occ_board.specs.Machine.{Event}
use Rattle.occ_board.specs.Machine.Event.{Finish, Take}
use Rattle.occ_board.specs.declared.entry.Edit.{Edit}
use Rattle.occ_board.specs.Rules.{Input}
use Rattle.occheck_commands.specs.Script.{Command, Placed}
use Rattle.occheck_script.specs.Machine.{Reading, after, after_drop, after_edit, after_finish, after_take}
use Rattle.occheck_script.specs.Output.{state_after}
use Rattle.occheck_script.specs.Settling.{settled_in, with_next}
use Rattle.occheck_script.specs.declared.desk.Desk.{Desk}

module _ (still : (s : State) (event : Event) → IsBase s.base → IsBase (after_event s event).base) where
  settled_base : (n : ℕ) (s : State) → IsBase s.base → IsBase (settled_in n s).base
  settled_base zero s h = h
  settled_base (suc n) s h = by (take_answer s) (settled_base n) where
    by : (o : Option Input) → ((t : State) → IsBase t.base → IsBase (settled_in n t).base) → IsBase (with_next (settled_in n) s o).base
    by None rest = h
    by (Some i) rest = rest (after_event (after_event s Take) (Finish i)) (still (after_event s Take) (Finish i) (still s Take h))

  edited : (o : Option (List ℕ)) (s : Desk) (e : Edit) → IsBase s.board.base → IsBase (after_edit o s e).board.base
  edited None s e h = still s.board (Event.Edited 0 e) h
  edited (Some word) s e h = h

  taken : (w : ℕ) (o : Option Input) (s : Desk) → IsBase s.board.base → IsBase (after_take w o s).board.base
  taken w None s h = h
  taken w (Some i) s h = h

  finished : (w : ℕ) (o : Option Input) (s : Desk) → IsBase s.board.base → IsBase (after_finish w o s).board.base
  finished w None s h = h
  finished w (Some i) s h = h

  dropped : (w : ℕ) (o : Option Input) (s : Desk) → IsBase s.board.base → IsBase (after_drop w o s).board.base
  dropped w None s h = h
  dropped w (Some i) s h = h

  command : (read : Reading) (s : Desk) (c : Command) → IsBase s.board.base → IsBase (after read s c).board.base
  command read s (Command.Open file contents) h = edited _ s _ h
  command read s (Command.Change file contents) h = edited _ s _ h
  command read s (Command.Remove file) h = edited _ s _ h
  command read s (Command.Take w) h = taken w _ s h
  command read s (Command.Finish w) h = finished w _ s h
  command read s (Command.Drop w) h = dropped w _ s h
  command read s Command.Settle h = settled_base _ s.board h
  command read s Command.Checkpoint h = still s.board Event.Checkpoint h
  command read s Command.Report h = h

  pub state_base : (read : Reading) (s : Desk) (ps : List Placed) → IsBase s.board.base → IsBase (state_after read s ps).board.base
  state_base read s [] h = h
  state_base read s (p ∷ ps) h = state_base read (after read s p.command) ps (command read s p.command h)
