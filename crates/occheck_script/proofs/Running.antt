-- How a run goes on from command to command, and from piece to piece.
use Rattle.std.proofs.Common.{◌≡◌, ◌+◌, ℕ, inl, inr, suc, Bool, true, false, cond, List, [], ◌∷◌, ◌++◌, Option, Some, None, refl, ap, sym, subst, ◌∙◌, append_assoc, append-nil, take, length, length-append, arith}
use Rattle.std.proofs.Math.Seq.{take-append_seam}
use Rattle.occheck_commands.specs.Left.{ending}
use Rattle.occheck_commands.specs.Lines.{last_lines}
use Rattle.occheck_commands.specs.Script.{Command, Placed, Script, ended, script_from, then}
use Rattle.occheck_script.specs.Devices.{Appends, AppendsFront}
use Rattle.occheck_script.specs.Machine.{IsReading, Reading, ReadsCommand, after, answer, start}
use Rattle.occheck_script.specs.Output.{IsFaultReported, IsWritten, answers, end_status, fault_text, state_after}
use Rattle.occheck_script.specs.declared.desk.Desk.{Desk}
use Rattle.occheck_script.specs.declared.status.Status.{Status}
use Rattle.occheck_script.specs.declared.status.Status.TheVariants as status
use Rattle.occheck_script.specs.inside.Going.{AreAnswered, GoesOn, IsHalted, IsRefusedIn, IsWholeFrom, IsWrittenFrom, Left, Stops, output_from, preceded}
use Rattle.occheck_script.proofs.Left.{front_of_more}

-- the command on this line
abbrev at_line : ℕ → Command → Placed
at_line n c = record { line = n; command = c }

abbrev script_with : List Placed → Option ℕ → Script
script_with commands fault = record { commands = commands; fault = fault }

-- ---- commands, and those after them

answers_append : (read : Reading) (s : Desk) (cs ds : List Placed) → answers read s (cs ++ ds) ≡ answers read s cs ++ answers read (state_after read s cs) ds
answers_append read s [] ds = refl
answers_append read s (p ∷ cs) ds =
    ap (λ (x : List ℕ). answer read s p.command ++ x) (answers_append read (after read s p.command) cs ds)
    ∙ sym (append_assoc (answer read s p.command) (answers read (after read s p.command) cs) (answers read (state_after read (after read s p.command) cs) ds))

state_append : (read : Reading) (s : Desk) (cs ds : List Placed) → state_after read s (cs ++ ds) ≡ state_after read (state_after read s cs) ds
state_append read s [] ds = refl
state_append read s (p ∷ cs) ds = state_append read (after read s p.command) cs ds

pub reading_first : (read : Reading) (cs ds : List Placed) → IsReading read (cs ++ ds) → IsReading read cs
reading_first read [] ds r = tt
reading_first read (p ∷ cs) ds r = (r.0, reading_first read cs ds r.1)

pub reading_second : (read : Reading) (cs ds : List Placed) → IsReading read (cs ++ ds) → IsReading read ds
reading_second read [] ds r = r
reading_second read (p ∷ cs) ds r = reading_second read cs ds r.1

take_past : (xs ys : List Placed) (n : ℕ) → take (length xs + n) (xs ++ ys) ≡ xs ++ take n ys
take_past [] ys n = let e : 0 + n ≡ n = omega arith in ap (λ (m : ℕ). take m ys) e
take_past (x ∷ xs) ys n = let e : suc (length xs) + n ≡ suc (length xs + n) = omega arith in rw e (ap (λ (zs : List Placed). x ∷ zs) (take_past xs ys n))

preceded_twice : (cs ds : List Placed) (s : Script) → preceded cs (preceded ds s) ≡ preceded (cs ++ ds) s
preceded_twice cs ds s = ap (λ (x : List Placed). script_with x s.fault) (sym (append_assoc cs ds s.commands))

appends_more : (before now next : Option (List ℕ)) (a b : List ℕ) → Appends before now a → Appends now next b → Appends before next (a ++ b)
appends_more before now next a b h k w e = k (w ++ a) (h w e) ∙ ap Some (append_assoc w a b)

front_more : (before now next : Option (List ℕ)) (a b : List ℕ) → Appends before now a → AppendsFront now next b → AppendsFront before next (a ++ b)
front_more before now next a b h k w e =
    let f = k (w ++ a) (h w e) in
    (a ++ f.0, f.1, ap (λ (x : List ℕ). a ++ x) f.2 ∙ sym (append_assoc a f.0 f.1), f.3 ∙ ap Some (append_assoc w a f.0))

output_preceded : (read : Reading) (s : Desk) (cs : List Placed) (script : Script) → output_from read s (preceded cs script) ≡ answers read s cs ++ output_from read (state_after read s cs) script
output_preceded read s cs script =
    ap (λ (x : List ℕ). x ++ fault_text script.fault) (answers_append read s cs script.commands)
    ∙ append_assoc (answers read s cs) (answers read (state_after read s cs) script.commands) (fault_text script.fault)

-- ---- what a run wrote that went on after commands

whole_after : (read : Reading) (s : Desk) (cs : List Placed) (script : Script) (before now next : Option (List ℕ)) (ended : Status)
    → Appends before now (answers read s cs) → IsWholeFrom read (state_after read s cs) script now next ended → IsWholeFrom read s (preceded cs script) before next ended
whole_after read s cs script before now next ended a h = (
  subst (λ (x : List ℕ). Appends before next x) (sym (output_preceded read s cs script)) (appends_more before now next _ _ a h.0),
  h.1 ∙ sym (ap (λ (x : Desk). end_status script.fault x) (state_append read s cs script.commands)),
)

refused_after : (cs : List Placed) (script : Script) (k : ℕ) → IsRefusedIn k script → IsRefusedIn (length cs + k) (preceded cs script)
refused_after cs script k (inl h) = inl (omega (arith, length-append cs script.commands))
refused_after cs script k (inr h) = inr (omega (arith, length-append cs script.commands, h.0), h.1)

written_by : (read : Reading) (s : Desk) (cs : List Placed) (script : Script) (before now next : Option (List ℕ)) (ended : Status)
    → Appends before now (answers read s cs) → IsWrittenFrom read (state_after read s cs) script now next ended → IsWrittenFrom read s (preceded cs script) before next ended
written_by read s cs script before now next status.Clean a h = whole_after read s cs script before now next status.Clean a h
written_by read s cs script before now next status.Errors a h = whole_after read s cs script before now next status.Errors a h
written_by read s cs script before now next status.ScriptFault a h = whole_after read s cs script before now next status.ScriptFault a h
written_by read s cs script before now next status.DeviceFault a h =
    subst (λ (x : List ℕ). AppendsFront before next x) (sym (output_preceded read s cs script)) (front_more before now next _ _ a h)
written_by read s cs script before now next status.NoMemory a h = (
  length cs + h.0,
  refused_after cs script h.0 h.1,
  subst (λ (x : List ℕ). Appends before next x)
      (sym (ap (λ (x : List Placed). answers read s x) (take_past cs script.commands h.0) ∙ answers_append read s cs (take h.0 script.commands)))
      (appends_more before now next _ _ a h.2),
)
written_by read s cs script before now next status.Disagree a h = absurd h

pub written_after : (read : Reading) (s mid : Desk) (cs : List Placed) (script : Script) (before now next : Option (List ℕ)) (ended : Status)
    → AreAnswered read cs s mid before now → IsWrittenFrom read mid script now next ended → IsWrittenFrom read s (preceded cs script) before next ended
written_after read s mid cs script before now next ended a h =
    written_by read s cs script before now next ended a.written (subst (λ (x : Desk). IsWrittenFrom read x script now next ended) a.state h)

-- from the first state on
pub written_whole : (read : Reading) (script : Script) (before now : Option (List ℕ)) (ended : Status) → IsWrittenFrom read start script before now ended → IsWritten read script before now ended
written_whole read script before now status.Clean h = h
written_whole read script before now status.Errors h = h
written_whole read script before now status.ScriptFault h = h
written_whole read script before now status.DeviceFault h = h
written_whole read script before now status.NoMemory h = (h.0, inr h.1, h.2)
written_whole read script before now status.Disagree h = h

-- a run that ends before it has written anything
pub stopped_device : (read : Reading) (s : Desk) (script : Script) (before : Option (List ℕ)) → IsWrittenFrom read s script before before status.DeviceFault
stopped_device read s script before w e = ([], output_from read s script, refl, e ∙ ap Some (sym (append-nil w)))

pub stopped_memory : (read : Reading) (s : Desk) (script : Script) (before : Option (List ℕ)) → IsRefusedIn 0 script → IsWrittenFrom read s script before before status.NoMemory
stopped_memory read s script before h = (0, h, λ w e. e ∙ ap Some (sym (append-nil w)))

-- at the line that reports a fault
pub fault_written : (read : Reading) (s : Desk) (line : ℕ) (before now : Option (List ℕ)) (result : Status) → IsFaultReported line before now result → IsWrittenFrom read s (ended (Some line)) before now result
fault_written read s line before now status.Clean h = absurd h
fault_written read s line before now status.Errors h = absurd h
fault_written read s line before now status.ScriptFault h = (h, refl)
fault_written read s line before now status.DeviceFault h = h
fault_written read s line before now status.NoMemory h = (0, inr (refl, refl), λ w e. h ∙ e ∙ ap Some (sym (append-nil w)))
fault_written read s line before now status.Disagree h = absurd h

end_by : (read : Reading) (s : Desk) (before now : Option (List ℕ)) (errors : Bool) → IsWholeFrom read s (ended None) before now (cond errors status.Errors status.Clean) → IsWrittenFrom read s (ended None) before now (cond errors status.Errors status.Clean)
end_by read s before now true h = h
end_by read s before now false h = h

-- after the last command
pub end_written : (read : Reading) (s : Desk) (before : Option (List ℕ)) (result : Status) → result ≡ cond s.errors status.Errors status.Clean → IsWrittenFrom read s (ended None) before before result
end_written read s before result e =
    subst (λ (x : Status). IsWrittenFrom read s (ended None) before before x) (sym e) (end_by read s before before s.errors (λ w h. h ∙ ap Some (sym (append-nil w)), refl))

-- ---- command by command

-- some commands were carried out; their answers were written, but for those that are held back
pub record IsHolding (line : ℕ) (bytes : List ℕ) (next_line : ℕ) (left : List ℕ) (desk next : Desk) (before now : Option (List ℕ)) (held : List ℕ) : Type 0 where
  pub done : List Placed
  pub says : (over : Bool) (more : List ℕ) → ending over line (bytes ++ more) ≡ preceded done (ending over next_line (left ++ more))
  pub state : (read : Reading) → IsReading read done → next ≡ state_after read desk done
  pub unwritten : (read : Reading) → IsReading read done → Left before now held (answers read desk done)

pub holds_nothing : (line : ℕ) (bytes : List ℕ) (desk : Desk) (before : Option (List ℕ)) (held : List ℕ) → held ≡ [] → IsHolding line bytes line bytes desk desk before before held
unfolding Left
holds_nothing line bytes desk before held e = record {
  done = [];
  says = λ over more. refl;
  state = λ read r. refl;
  unwritten = λ read r w h. ([], sym e, h ∙ ap Some (sym (append-nil w)));
}

-- one command more
pub holds_more : (line n : ℕ) (bytes : List ℕ) (next_line following_line : ℕ) (left following : List ℕ) (desk next then_desk : Desk) (before now then_now : Option (List ℕ)) (held then_held : List ℕ) (c : Command)
    → IsHolding line bytes next_line left desk next before now held
    → ((over : Bool) (more : List ℕ) → ending over next_line (left ++ more) ≡ then n c (ending over following_line (following ++ more)))
    → ((read : Reading) → ReadsCommand read c → then_desk ≡ after read next c)
    → ((read : Reading) → ReadsCommand read c → (b : Option (List ℕ)) (all : List ℕ) → Left b now held all → Left b then_now then_held (all ++ answer read next c))
    → IsHolding line bytes following_line following desk then_desk before then_now then_held
holds_more line n bytes next_line following_line left following desk next then_desk before now then_now held then_held c h e s l = record {
  done = h.done ++ at_line n c ∷ [];
  says = λ over more. h.says over more ∙ ap (λ (x : Script). preceded h.done x) (e over more) ∙ preceded_twice h.done (at_line n c ∷ []) (ending over following_line (following ++ more));
  state = λ read r.
      s read (reading_second read h.done (at_line n c ∷ []) r).0 ∙ ap (λ (x : Desk). after read x c) (h.state read (reading_first read h.done (at_line n c ∷ []) r))
      ∙ sym (state_append read desk h.done (at_line n c ∷ []));
  unwritten = λ read r.
      let t : next ≡ state_after read desk h.done = h.state read (reading_first read h.done (at_line n c ∷ []) r) in
      let a : answers read desk h.done ++ answer read next c ≡ answers read desk (h.done ++ at_line n c ∷ []) =
      ap (λ (x : Desk). answers read desk h.done ++ answer read x c) t
      ∙ ap (λ (x : List ℕ). answers read desk h.done ++ x) (sym (append-nil (answer read (state_after read desk h.done) c)))
      ∙ sym (answers_append read desk h.done (at_line n c ∷ [])) in
      subst (λ (x : List ℕ). Left before then_now then_held x) a
      (l read (reading_second read h.done (at_line n c ∷ []) r).0 before (answers read desk h.done) (h.unwritten read (reading_first read h.done (at_line n c ∷ []) r)));
}

-- all answers that were held back are written
pub held_written : (line : ℕ) (bytes : List ℕ) (next_line : ℕ) (left : List ℕ) (last_line : ℕ) (last : List ℕ) (desk next : Desk) (before now then_now : Option (List ℕ)) (held : List ℕ)
    → IsHolding line bytes next_line left desk next before now held → ((over : Bool) (more : List ℕ) → ending over next_line (left ++ more) ≡ ending over last_line (last ++ more))
    → ((b : Option (List ℕ)) (all : List ℕ) → Left b now held all → Appends b then_now all) → GoesOn line bytes last_line last desk next before then_now
held_written line bytes next_line left last_line last desk next before now then_now held h e w = record {
  done = h.done;
  says = λ over more. h.says over more ∙ ap (λ (x : Script). preceded h.done x) (e over more);
  run = λ read r. record { state = h.state read r; written = w before (answers read desk h.done) (h.unwritten read r) };
}

-- a write of answers that were held back failed
pub held_failed : (line : ℕ) (bytes : List ℕ) (next_line : ℕ) (left : List ℕ) (desk next : Desk) (before now then_now : Option (List ℕ)) (held : List ℕ) (result : Status)
    → IsHolding line bytes next_line left desk next before now held → ((b : Option (List ℕ)) (all : List ℕ) → Left b now held all → AppendsFront b then_now all) → result ≡ status.DeviceFault
    → Stops line bytes desk before then_now result
held_failed line bytes next_line left desk next before now then_now held result h f e over more read r =
    let s : Script = ending over next_line (left ++ more) in
    let r2 : IsReading read (h.done ++ s.commands) = subst (λ (x : Script). IsReading read x.commands) (h.says over more) r in
    let a : AppendsFront before then_now (answers read desk h.done) = f before (answers read desk h.done) (h.unwritten read (reading_first read h.done s.commands r2)) in
    let b : AppendsFront before then_now (output_from read desk (preceded h.done s)) =
    subst (λ (x : List ℕ). AppendsFront before then_now x) (sym (output_preceded read desk h.done s)) (front_of_more before then_now _ (output_from read (state_after read desk h.done) s) a) in
    subst (λ (x : Script). IsWrittenFrom read desk x before then_now result) (sym (h.says over more)) (subst (λ (x : Status). IsWrittenFrom read desk (preceded h.done s) before then_now x) (sym e) b)

halted_by : (read : Reading) (desk : Desk) (cs : List Placed) (n : ℕ) (c : Command) (rest : Script) (before now : Option (List ℕ)) (result : Status)
    → IsHalted before now (answers read desk cs) (answer read (state_after read desk cs) c) result → IsWrittenFrom read desk (preceded cs (then n c rest)) before now result
halted_by read desk cs n c rest before now status.Clean h = absurd h
halted_by read desk cs n c rest before now status.Errors h = absurd h
halted_by read desk cs n c rest before now status.ScriptFault h = absurd h
halted_by read desk cs n c rest before now status.DeviceFault h =
    let s : Desk = state_after read desk cs in
    let m : List ℕ = answers read (after read s c) rest.commands ++ fault_text rest.fault in
    let o : output_from read desk (preceded cs (then n c rest)) ≡ (answers read desk cs ++ answer read s c) ++ m =
    output_preceded read desk cs (then n c rest) ∙ ap (λ (x : List ℕ). answers read desk cs ++ x) (append_assoc (answer read s c) (answers read (after read s c) rest.commands) (fault_text rest.fault)) ∙ sym (append_assoc (answers read desk cs) (answer read s c) m) in
    subst (λ (x : List ℕ). AppendsFront before now x) (sym o) (front_of_more before now _ m h)
halted_by read desk cs n c rest before now status.NoMemory h = (
  length cs,
  inl (omega (arith, length-append cs (at_line n c ∷ rest.commands))),
  subst (λ (x : List ℕ). Appends before now x) (sym (ap (λ (x : List Placed). answers read desk x) (take-append_seam cs (at_line n c ∷ rest.commands)))) h,
)
halted_by read desk cs n c rest before now status.Disagree h = absurd h

-- a command could not be carried out or its answer not be written
pub command_halted : (line n : ℕ) (bytes : List ℕ) (next_line following_line : ℕ) (left following : List ℕ) (desk next : Desk) (before now then_now : Option (List ℕ)) (held : List ℕ) (c : Command) (result : Status)
    → IsHolding line bytes next_line left desk next before now held
    → ((over : Bool) (more : List ℕ) → ending over next_line (left ++ more) ≡ then n c (ending over following_line (following ++ more)))
    → ((read : Reading) → ReadsCommand read c → (b : Option (List ℕ)) (all : List ℕ) → Left b now held all → IsHalted b then_now all (answer read next c) result)
    → Stops line bytes desk before then_now result
command_halted line n bytes next_line following_line left following desk next before now then_now held c result h e k over more read r =
    let rest : Script = ending over following_line (following ++ more) in
    let is : ending over line (bytes ++ more) ≡ preceded h.done (then n c rest) = h.says over more ∙ ap (λ (x : Script). preceded h.done x) (e over more) in
    let r2 : IsReading read (h.done ++ at_line n c ∷ rest.commands) = subst (λ (x : Script). IsReading read x.commands) is r in
    let r3 = reading_first read h.done (at_line n c ∷ rest.commands) r2 in
    let t : next ≡ state_after read desk h.done = h.state read r3 in
    let a : IsHalted before then_now (answers read desk h.done) (answer read (state_after read desk h.done) c) result =
    subst (λ (x : Desk). IsHalted before then_now (answers read desk h.done) (answer read x c) result) t (k read (reading_second read h.done (at_line n c ∷ rest.commands) r2).0 before (answers read desk h.done) (h.unwritten read r3)) in
    subst (λ (x : Script). IsWrittenFrom read desk x before then_now result) (sym is) (halted_by read desk h.done n c rest before then_now result a)

-- the script is wrong on the next line
pub fault_stops : (line n : ℕ) (bytes : List ℕ) (next_line : ℕ) (left : List ℕ) (desk next : Desk) (before now then_now last : Option (List ℕ)) (held : List ℕ) (result : Status)
    → IsHolding line bytes next_line left desk next before now held → ((over : Bool) (more : List ℕ) → ending over next_line (left ++ more) ≡ ended (Some n))
    → ((b : Option (List ℕ)) (all : List ℕ) → Left b now held all → Appends b then_now all) → IsFaultReported n then_now last result
    → Stops line bytes desk before last result
fault_stops line n bytes next_line left desk next before now then_now last held result h e w f over more read r =
    let is : ending over line (bytes ++ more) ≡ preceded h.done (ended (Some n)) = h.says over more ∙ ap (λ (x : Script). preceded h.done x) (e over more) in
    let r2 : IsReading read (h.done ++ []) = subst (λ (x : Script). IsReading read x.commands) is r in
    let r3 = reading_first read h.done [] r2 in
    subst (λ (x : Script). IsWrittenFrom read desk x before last result) (sym is)
    (written_after read desk next h.done (ended (Some n)) before then_now last result (record { state = h.state read r3; written = w before (answers read desk h.done) (h.unwritten read r3) }) (fault_written read next n then_now last result f))

-- ---- piece by piece

assoc : (a b c : List ℕ) → (a ++ b) ++ c ≡ a ++ (b ++ c)
assoc a b c = append_assoc a b c

-- bytes that are in no line yet come after lines
pub goes_on_behind : (line : ℕ) (lines behind : List ℕ) (next_line : ℕ) (left : List ℕ) (desk next : Desk) (before now : Option (List ℕ))
    → GoesOn line lines next_line left desk next before now → GoesOn line (lines ++ behind) next_line (left ++ behind) desk next before now
goes_on_behind line lines behind next_line left desk next before now h = record {
  done = h.done;
  says = λ over more.
      ap (λ (x : List ℕ). ending over line x) (assoc lines behind more) ∙ h.says over (behind ++ more) ∙ ap (λ (x : List ℕ). preceded h.done (ending over next_line x)) (sym (assoc left behind more));
  run = h.run;
}

pub stops_behind : (line : ℕ) (lines behind : List ℕ) (desk : Desk) (before now : Option (List ℕ)) (result : Status) → Stops line lines desk before now result → Stops line (lines ++ behind) desk before now result
stops_behind line lines behind desk before now result h over more read r =
    let e : ending over line ((lines ++ behind) ++ more) ≡ ending over line (lines ++ (behind ++ more)) = ap (λ (x : List ℕ). ending over line x) (assoc lines behind more) in
    subst (λ (x : Script). IsWrittenFrom read desk x before now result) (sym e) (h over (behind ++ more) read (subst (λ (x : Script). IsReading read x.commands) e r))

-- the bytes are read as others
pub goes_on_same : (line : ℕ) (bytes : List ℕ) (other_line : ℕ) (other : List ℕ) (next_line : ℕ) (left : List ℕ) (desk next : Desk) (before now : Option (List ℕ))
    → ((over : Bool) (more : List ℕ) → ending over other_line (other ++ more) ≡ ending over line (bytes ++ more)) → GoesOn other_line other next_line left desk next before now → GoesOn line bytes next_line left desk next before now
goes_on_same line bytes other_line other next_line left desk next before now e h = record { done = h.done; says = λ over more. sym (e over more) ∙ h.says over more; run = h.run }

pub stops_same : (line : ℕ) (bytes : List ℕ) (other_line : ℕ) (other : List ℕ) (desk : Desk) (before now : Option (List ℕ)) (result : Status)
    → ((over : Bool) (more : List ℕ) → ending over other_line (other ++ more) ≡ ending over line (bytes ++ more)) → Stops other_line other desk before now result → Stops line bytes desk before now result
stops_same line bytes other_line other desk before now result e h over more read r =
    subst (λ (x : Script). IsWrittenFrom read desk x before now result) (e over more) (h over more read (subst (λ (x : Script). IsReading read x.commands) (sym (e over more)) r))

-- nothing was carried out
pub goes_on_nothing : (line : ℕ) (bytes : List ℕ) (next_line : ℕ) (left : List ℕ) (desk : Desk) (before : Option (List ℕ))
    → ((over : Bool) (more : List ℕ) → ending over next_line (left ++ more) ≡ ending over line (bytes ++ more)) → GoesOn line bytes next_line left desk desk before before
goes_on_nothing line bytes next_line left desk before e =
    record { done = []; says = λ over more. sym (e over more); run = λ read r. record { state = refl; written = λ w h. h ∙ ap Some (sym (append-nil w)) } }

answered_twice : (read : Reading) (cs ds : List Placed) (desk next then_desk : Desk) (before now then_now : Option (List ℕ)) → AreAnswered read cs desk next before now → AreAnswered read ds next then_desk now then_now
    → AreAnswered read (cs ++ ds) desk then_desk before then_now
answered_twice read cs ds desk next then_desk before now then_now a b = record {
  state = b.state ∙ ap (λ (x : Desk). state_after read x ds) a.state ∙ sym (state_append read desk cs ds);
  written =
      let d : Appends now then_now (answers read (state_after read desk cs) ds) = subst (λ (x : Desk). Appends now then_now (answers read x ds)) a.state b.written in
      subst (λ (x : List ℕ). Appends before then_now x) (sym (answers_append read desk cs ds)) (appends_more before now then_now _ _ a.written d);
}

-- one piece more
pub goes_further : (line : ℕ) (got : List ℕ) (next_line : ℕ) (left piece : List ℕ) (then_line : ℕ) (then_left : List ℕ) (desk next then_desk : Desk) (before now then_now : Option (List ℕ))
    → GoesOn line got next_line left desk next before now → GoesOn next_line (left ++ piece) then_line then_left next then_desk now then_now → GoesOn line (got ++ piece) then_line then_left desk then_desk before then_now
goes_further line got next_line left piece then_line then_left desk next then_desk before now then_now h k = record {
  done = h.done ++ k.done;
  says = λ over more.
      ap (λ (x : List ℕ). ending over line x) (assoc got piece more) ∙ h.says over (piece ++ more)
      ∙ ap (λ (x : Script). preceded h.done x) (ap (λ (x : List ℕ). ending over next_line x) (sym (assoc left piece more)) ∙ k.says over more)
      ∙ preceded_twice h.done k.done (ending over then_line (then_left ++ more));
  run = λ read r.
      answered_twice read h.done k.done desk next then_desk before now then_now (h.run read (reading_first read h.done k.done r)) (k.run read (reading_second read h.done k.done r));
}

-- a run that ends after a piece more
pub stops_further : (line : ℕ) (got : List ℕ) (next_line : ℕ) (left piece : List ℕ) (desk next : Desk) (before now then_now : Option (List ℕ)) (result : Status)
    → GoesOn line got next_line left desk next before now → Stops next_line (left ++ piece) next now then_now result → Stops line (got ++ piece) desk before then_now result
stops_further line got next_line left piece desk next before now then_now result h k over more read r =
    let s : Script = ending over next_line ((left ++ piece) ++ more) in
    let is : ending over line ((got ++ piece) ++ more) ≡ preceded h.done s =
    ap (λ (x : List ℕ). ending over line x) (assoc got piece more) ∙ h.says over (piece ++ more) ∙ ap (λ (x : List ℕ). preceded h.done (ending over next_line x)) (sym (assoc left piece more)) in
    let r2 : IsReading read (h.done ++ s.commands) = subst (λ (x : Script). IsReading read x.commands) is r in
    subst (λ (x : Script). IsWrittenFrom read desk x before then_now result) (sym is)
    (written_after read desk next h.done s before now then_now result (h.run read (reading_first read h.done s.commands r2)) (k over more read (reading_second read h.done s.commands r2)))

-- ---- at the end of the script

closed_says : (over : Bool) (line : ℕ) (bytes closed : List ℕ) → last_lines over closed ≡ last_lines over bytes → ending over line bytes ≡ ending over line (closed ++ [])
closed_says over line bytes closed e = sym (ap (λ (lines : List (List ℕ)). script_from over line lines) e) ∙ ap (λ (x : List ℕ). ending over line x) (sym (append-nil closed))

-- what was begun and closed was carried out, and this is said at its end
pub end_says : (over : Bool) (line : ℕ) (bytes closed : List ℕ) (next_line : ℕ) (left : List ℕ) (desk next : Desk) (before now last : Option (List ℕ)) (script : Script) (result : Status)
    → last_lines over closed ≡ last_lines over bytes → GoesOn line closed next_line left desk next before now → ending over next_line left ≡ script → ((read : Reading) → IsWrittenFrom read next script now last result)
    → (read : Reading) → IsReading read (ending over line bytes).commands → IsWrittenFrom read desk (ending over line bytes) before last result
end_says over line bytes closed next_line left desk next before now last script result l h e w read r =
    let is : ending over line bytes ≡ preceded h.done script =
    closed_says over line bytes closed l ∙ h.says over [] ∙ ap (λ (x : List ℕ). preceded h.done (ending over next_line x)) (append-nil left) ∙ ap (λ (x : Script). preceded h.done x) e in
    let r2 : IsReading read (h.done ++ script.commands) = subst (λ (x : Script). IsReading read x.commands) is r in
    subst (λ (x : Script). IsWrittenFrom read desk x before last result) (sym is)
    (written_after read desk next h.done script before now last result (h.run read (reading_first read h.done script.commands r2)) (w read))

pub end_stops : (over : Bool) (line : ℕ) (bytes closed : List ℕ) (desk : Desk) (before now : Option (List ℕ)) (result : Status)
    → last_lines over closed ≡ last_lines over bytes → Stops line closed desk before now result → (read : Reading) → IsReading read (ending over line bytes).commands → IsWrittenFrom read desk (ending over line bytes) before now result
end_stops over line bytes closed desk before now result l s read r =
    let is = closed_says over line bytes closed l in
    subst (λ (x : Script). IsWrittenFrom read desk x before now result) (sym is) (s over [] read (subst (λ (x : Script). IsReading read x.commands) is r))
