-- What was read, carried out and written so far, and how a run ends with that.
use Rattle.std.proofs.Common.{◌≡◌, ◌+◌, ◌-◌, ◌<◌, ◌≤◌, ◌^◌, ℕ, zero, suc, Bool, true, false, cond, List, [], ◌∷◌, ◌++◌, Option, Some, refl, ap, sym, subst, ◌∙◌, append-nil, take, length, nat_lt, length-append, length-take, arith}
use Rattle.std.proofs.Math.Seq.{take-append_seam}
use Rattle.std.proofs.lemmas.Bool.{le-ltb, lt-ltb, ltb-false, ltb-true}
use Rattle.occheck_commands.specs.Left.{IsLacking, ending}
use Rattle.occheck_commands.specs.Lines.{cut_lines, feeds}
use Rattle.occheck_commands.specs.Script.{Script, script_from, script_of, whole_commands}
use Rattle.occheck_script.specs.Devices.{Appends, Gives, counted}
use Rattle.occheck_script.specs.Machine.{IsReading, Reading, start}
use Rattle.occheck_script.specs.Output.{IsCutOff, IsWritten, answers}
use Rattle.occheck_script.specs.declared.desk.Desk.{Desk}
use Rattle.occheck_script.specs.declared.status.Status.{Status}
use Rattle.occheck_script.specs.declared.status.Status.TheVariants as status
use Rattle.occheck_script.specs.inside.Going.{GoesOn, IsWrittenFrom, Stops, preceded}
use Rattle.occheck_script.proofs.Known.{Known, nothing_read, read_on, some_left, take_whole}
use Rattle.occheck_script.proofs.Running.{goes_further, goes_on_nothing, reading_first, reading_second, stopped_device, stops_further, written_after, written_whole}

-- ---- the whole script, of which a front was read

-- a script, of which n bytes count
abbrev script_within : ℕ → List ℕ → Script
script_within n all = script_from (nat_lt n (length all)) 1 (cond (nat_lt n (length all)) (take (feeds (take n all)) (cut_lines (take n all))) (cut_lines all))

front_by : (n : ℕ) (all : List ℕ) (over : Bool) → nat_lt n (length all) ≡ over → script_from over 1 (cond over (take (feeds (take n all)) (cut_lines (take n all))) (cut_lines all)) ≡ ending over 1 (take n all)
front_by n all true e = refl
front_by n all false e = let h : length all ≤ n = ltb-false n (length all) e in ap (λ (x : List ℕ). script_from false 1 (cut_lines x)) (sym (take_whole n all h))

take_far : (n : ℕ) (got rest : List ℕ) → length got ≤ n → take n (got ++ rest) ≡ got ++ take (n - length got) rest
take_far n [] rest h = let e : n - 0 ≡ n = omega arith in rw e refl
take_far zero (x ∷ got) rest h = absurd (omega arith)
take_far (suc n) (x ∷ got) rest h = let e : suc n - suc (length got) ≡ n - length got = omega arith in rw e (ap (λ (xs : List ℕ). x ∷ xs) (take_far n got rest (omega arith)))

front_says : (n : ℕ) (got rest : List ℕ) → length got ≤ n → script_within n (got ++ rest) ≡ ending (nat_lt n (length (got ++ rest))) 1 (got ++ take (n - length got) rest)
front_says n got rest h =
    front_by n (got ++ rest) (nat_lt n (length (got ++ rest))) refl ∙ ap (λ (x : List ℕ). ending (nat_lt n (length (got ++ rest))) 1 x) (take_far n got rest h)

less_by : (n room : ℕ) (got rest : List ℕ) → length got + room ≡ n → (over : Bool) → nat_lt room (length rest) ≡ over → nat_lt n (length (got ++ rest)) ≡ over
less_by n room got rest e true h = let k : room < length rest = ltb-true room (length rest) h in lt-ltb n (length (got ++ rest)) (omega (arith, length-append got rest))
less_by n room got rest e false h = let k : length rest ≤ room = ltb-false room (length rest) h in le-ltb n (length (got ++ rest)) (omega (arith, length-append got rest))

-- whether there are more bytes than may still be read
less_left : (n room : ℕ) (got rest : List ℕ) → length got + room ≡ n → nat_lt n (length (got ++ rest)) ≡ nat_lt room (length rest)
less_left n room got rest e = less_by n room got rest e (nat_lt room (length rest)) refl

-- what the script says, of which so many bytes may still be read
pub script_is : (n room : ℕ) (got rest : List ℕ) → length got + room ≡ n → script_within n (got ++ rest) ≡ ending (nat_lt room (length rest)) 1 (got ++ take room rest)
script_is n room got rest e =
    let r : n - length got ≡ room = omega arith in
    front_says n got rest (omega arith) ∙ ap (λ (x : ℕ). ending (nat_lt n (length (got ++ rest))) 1 (got ++ take x rest)) r
    ∙ ap (λ (x : Bool). ending x 1 (got ++ take room rest)) (less_left n room got rest e)

-- ---- so far

pub record IsTalk (unread_before unread_now : Option (List ℕ)) (taken_before taken_now room line : ℕ) (bytes : List ℕ) (desk : Desk) (before now : Option (List ℕ)) : Type 0 where
  pub got : List ℕ
  pub known : Known unread_before unread_now got
  pub count : length got + room ≡ 67108864
  pub taken : taken_before < 2 ^ 64 → taken_now ≡ counted taken_before (length got)
  pub few : taken_now ≤ taken_before + length got
  pub going : GoesOn 1 got line bytes start desk before now

counted_none : (t : ℕ) → t < 2 ^ 64 → t ≡ counted t 0
counted_none t h = omega arith

counted_more : (t n m : ℕ) → counted (counted t n) m ≡ counted t (n + m)
counted_more t n m = omega arith

counted_few : (t n : ℕ) → counted t n ≤ t + n
counted_few t n = omega arith

pub talk_begins : (unread : Option (List ℕ)) (taken : ℕ) (bytes : List ℕ) (line : ℕ) (desk : Desk) (before : Option (List ℕ)) → bytes ≡ [] → line ≡ 1 → desk ≡ start
    → IsTalk unread unread taken taken 67108864 line bytes desk before before
talk_begins unread taken bytes line desk before b l d = record {
  got = [];
  known = nothing_read unread;
  count = omega arith;
  taken = λ h. counted_none taken h;
  few = omega arith;
  going =
      let k : GoesOn 1 [] 1 [] start start before before = goes_on_nothing 1 [] 1 [] start before (λ over more. refl) in
      subst (λ (x : Desk). GoesOn 1 [] line bytes start x before before) (sym d) (subst (λ (x : List ℕ). GoesOn 1 [] line x start start before before) (sym b) (subst (λ (x : ℕ). GoesOn 1 [] x [] start start before before) (sym l) k));
}

-- a piece was read, and what lies whole was answered
pub talk_goes_on : (unread_before unread_now unread_then : Option (List ℕ)) (taken_before taken_now taken_then room room_then line : ℕ) (bytes piece : List ℕ) (then_line : ℕ) (then_bytes : List ℕ) (desk next : Desk) (before now then_now : Option (List ℕ))
    → IsTalk unread_before unread_now taken_before taken_now room line bytes desk before now → Gives unread_now unread_then piece → taken_then ≡ counted taken_now (length piece) → room_then + length piece ≡ room
    → GoesOn line (bytes ++ piece) then_line then_bytes desk next now then_now
    → IsTalk unread_before unread_then taken_before taken_then room_then then_line then_bytes next before then_now
talk_goes_on unread_before unread_now unread_then taken_before taken_now taken_then room room_then line bytes piece then_line then_bytes desk next before now then_now t g c r k = record {
  got = t.got ++ piece;
  known = read_on unread_before unread_now unread_then t.got piece t.known g;
  count = omega (arith, length-append t.got piece, t.count);
  taken = λ h. c ∙ ap (λ (x : ℕ). counted x (length piece)) (t.taken h) ∙ counted_more taken_before (length t.got) (length piece) ∙ ap (λ (x : ℕ). counted taken_before x) (sym (length-append t.got piece));
  few = omega (arith, length-append t.got piece, t.few, c, counted_few taken_now (length piece));
  going = goes_further 1 t.got line bytes piece then_line then_bytes start desk next before now then_now t.going k;
}

-- ---- how it ends

ended_by : (over : Bool) (got more all : List ℕ) (before now : Option (List ℕ)) (result : Status) → script_of all ≡ ending over 1 (got ++ more) → Stops 1 got start before now result → (read : Reading) → IsReading read (script_of all).commands → IsWritten read (script_of all) before now result
ended_by over got more all before now result e s read r =
    written_whole read (script_of all) before now result
    (subst (λ (x : Script). IsWrittenFrom read start x before now result) (sym e) (s over more read (subst (λ (x : Script). IsReading read x.commands) e r)))

-- while a piece was answered
pub talk_stops : (unread_before unread_now unread_then : Option (List ℕ)) (taken_before taken_now room line : ℕ) (bytes piece : List ℕ) (desk : Desk) (before now then_now : Option (List ℕ)) (result : Status)
    → IsTalk unread_before unread_now taken_before taken_now room line bytes desk before now → Gives unread_now unread_then piece → length piece ≤ room → Stops line (bytes ++ piece) desk now then_now result
    → (all : List ℕ) → unread_before ≡ Some all → (read : Reading) → IsReading read (script_of all).commands → IsWritten read (script_of all) before then_now result
talk_stops unread_before unread_now unread_then taken_before taken_now room line bytes piece desk before now then_now result t g l s all e =
    let k = some_left unread_then (t.got ++ piece) all (read_on unread_before unread_now unread_then t.got piece t.known g all e) in
    let c : length (t.got ++ piece) + (room - length piece) ≡ 67108864 = omega (arith, length-append t.got piece, t.count) in
    let is : script_of all ≡ ending (nat_lt (room - length piece) (length k.0)) 1 ((t.got ++ piece) ++ take (room - length piece) k.0) =
    sym (ap (λ (x : List ℕ). script_of x) k.2) ∙ script_is 67108864 (room - length piece) (t.got ++ piece) k.0 c in
    ended_by (nat_lt (room - length piece) (length k.0)) (t.got ++ piece) (take (room - length piece) k.0) all before then_now result is
    (stops_further 1 t.got line bytes piece start desk before now then_now result t.going s)

-- at a read that failed
pub talk_fails : (unread_before unread_now : Option (List ℕ)) (taken_before taken_now room line : ℕ) (bytes : List ℕ) (desk : Desk) (before now : Option (List ℕ))
    → IsTalk unread_before unread_now taken_before taken_now room line bytes desk before now
    → (all : List ℕ) → unread_before ≡ Some all → (read : Reading) → IsReading read (script_of all).commands → IsWritten read (script_of all) before now status.DeviceFault
talk_fails unread_before unread_now taken_before taken_now room line bytes desk before now t =
    talk_stops unread_before unread_now unread_now taken_before taken_now room line bytes [] desk before now now status.DeviceFault t (λ all e. (all, refl, e)) (omega arith) (λ over more read r. stopped_device read desk (ending over line ((bytes ++ []) ++ more)) now)

none_lacks : (line lacks : ℕ) (bytes : List ℕ) → IsLacking line bytes lacks → 0 < lacks → (ending true line (bytes ++ [])).commands ≡ []
none_lacks line lacks bytes h z = h [] (omega arith)

pub talk_cut_off : (unread_before unread_now : Option (List ℕ)) (taken_before taken_now taken_then room line lacks : ℕ) (bytes : List ℕ) (desk : Desk) (before now : Option (List ℕ))
    → IsTalk unread_before unread_now taken_before taken_now room line bytes desk before now → taken_then ≡ taken_now → IsLacking line bytes lacks → 0 < lacks
    → (all : List ℕ) → unread_before ≡ Some all → (read : Reading) → IsReading read (script_of all).commands → IsCutOff read all taken_before taken_then before now
talk_cut_off unread_before unread_now taken_before taken_now taken_then room line lacks bytes desk before now t c h z all e read r =
    let k = some_left unread_now t.got all (t.known all e) in
    let over : Bool = nat_lt room (length k.0) in
    let ahead : List ℕ = take room k.0 in
    let is : script_of all ≡ preceded t.going.done (ending over line (bytes ++ ahead)) =
    sym (ap (λ (x : List ℕ). script_of x) k.2) ∙ script_is 67108864 room t.got k.0 t.count ∙ t.going.says over ahead in
    let reads : IsReading read t.going.done = reading_first read t.going.done (ending over line (bytes ++ ahead)).commands (subst (λ (x : Script). IsReading read x.commands) is r) in
    let front : take (length t.got) all ≡ t.got = sym (ap (λ (x : List ℕ). take (length t.got) x) k.2) ∙ take-append_seam t.got k.0 in
    let whole : whole_commands (take (length t.got) all) ≡ t.going.done =
    ap (λ (x : List ℕ). (ending true 1 x).commands) (front ∙ sym (append-nil t.got)) ∙ ap (λ (x : Script). x.commands) (t.going.says true [])
    ∙ ap (λ x. t.going.done ++ x) (none_lacks line lacks bytes h z) ∙ append-nil t.going.done in (
      length t.got,
      λ l. c ∙ t.taken l,
      subst (λ x. Appends before now (answers read start x)) (sym whole) (t.going.run read reads).written,
    )

-- at the end of the script
pub talk_ends : (unread_before unread_now : Option (List ℕ)) (taken_before taken_now room line : ℕ) (bytes : List ℕ) (desk : Desk) (before now then_now : Option (List ℕ)) (over : Bool) (result : Status)
    → IsTalk unread_before unread_now taken_before taken_now room line bytes desk before now → ((rest : List ℕ) → unread_now ≡ Some rest → (nat_lt room (length rest) ≡ over) × (take room rest ≡ []))
    → ((read : Reading) → IsReading read (ending over line bytes).commands → IsWrittenFrom read desk (ending over line bytes) now then_now result)
    → (all : List ℕ) → unread_before ≡ Some all → (read : Reading) → IsReading read (script_of all).commands → IsWritten read (script_of all) before then_now result
talk_ends unread_before unread_now taken_before taken_now room line bytes desk before now then_now over result t w s all e read r =
    let k = some_left unread_now t.got all (t.known all e) in
    let o = w k.0 k.1 in
    let is : script_of all ≡ preceded t.going.done (ending over line bytes) =
    sym (ap (λ (x : List ℕ). script_of x) k.2) ∙ script_is 67108864 room t.got k.0 t.count ∙ ap (λ (x : Bool). ending x 1 (t.got ++ take room k.0)) o.0
    ∙ ap (λ (x : List ℕ). ending over 1 (t.got ++ x)) o.1 ∙ t.going.says over [] ∙ ap (λ (x : List ℕ). preceded t.going.done (ending over line x)) (append-nil bytes) in
    let r2 = subst (λ (x : Script). IsReading read x.commands) is r in
    written_whole read (script_of all) before then_now result
    (subst (λ (x : Script). IsWrittenFrom read start x before then_now result) (sym is)
    (written_after read start desk t.going.done (ending over line bytes) before now then_now result (t.going.run read (reading_first read t.going.done (ending over line bytes).commands r2))
    (s read (reading_second read t.going.done (ending over line bytes).commands r2))))

pub nothing_ahead : (room : ℕ) → take {A = ℕ} room [] ≡ []
nothing_ahead zero = refl
nothing_ahead (suc room) = refl

-- nothing comes any more
pub nothing_comes : (room : ℕ) (rest : List ℕ) → rest ≡ [] → (nat_lt room (length rest) ≡ false) × (take room rest ≡ [])
nothing_comes room rest e = (
  ap (λ (x : List ℕ). nat_lt room (length x)) e ∙ le-ltb room 0 (omega arith),
  ap (λ (x : List ℕ). take room x) e ∙ nothing_ahead room,
)

-- so many bytes come where none may be read any more
pub too_many_come : (room count : ℕ) (rest : List ℕ) → room ≡ 0 → (count ≡ 0 → rest ≡ []) → count ≤ length rest → (nat_lt room (length rest) ≡ nat_lt 0 count) × (take room rest ≡ [])
too_many_come room zero rest z e h = let n = nothing_comes room rest (e refl) in (n.0 ∙ sym (le-ltb 0 0 (omega arith)), n.1)
too_many_come room (suc count) rest z e h = (lt-ltb room (length rest) (omega arith) ∙ sym (lt-ltb 0 (suc count) (omega arith)), ap (λ (n : ℕ). take n rest) z)

pub given_length : (count : ℕ) (buffer rest left : List ℕ) → count ≤ length buffer → rest ≡ take count buffer ++ left → count ≤ length rest
given_length count buffer rest left h e = omega (arith, ap (λ (x : List ℕ). length x) e, length-append (take count buffer) left, length-take count buffer)
