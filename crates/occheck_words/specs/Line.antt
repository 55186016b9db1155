-- The line that the program takes, as clap reads it, and what its words ask for. Words are texts, without the program's name.
use Rattle.std.specs.Prelude.{◌≡◌, ◌&&◌, ℕ, Bool, true, false, List, [], ◌∷◌, length, Option, Some, None, codes, if◌then◌else◌, map, nat_le, nat_lt, pos, option_and_then, unwrap_or}
use Rattle.std.specs.Option.{option_map_or}
use Rattle.std.specs.Str.{bytes_eq}
use Rattle.std.specs.Str.Parse.{digits_value, without_leading_plus}
use Rattle.std.specs.String.{string_bytes}
use Rattle.clap.specs.Lexer.{usize_max}
use Rattle.clap.specs.ValueTests.{is_numeral}
use Rattle.clap.specs.Words.{App, Kinds, Row, Rule, Text, all_of, fault_of, matches_of, new_app, new_rule, one_of, with_rule}
use Rattle.clap.specs.declared.builder.action.ArgAction.TheVariants as action
use Rattle.clap.specs.declared.builder.value_parser.ValueParser.TheVariants as parser
use Rattle.occheck_words.specs.Modes.{inputs}
use Rattle.occheck_words.specs.declared.words.Mode.{Mode}
use Rattle.occheck_words.specs.declared.words.Mode.TheVariants as mode
use Rattle.occheck_words.specs.declared.words.WordsFault.{WordsFault}
use Rattle.occheck_words.specs.declared.words.WordsFault.TheVariants as fault

-- the flag --steps
abbrev pub steps_rule : Rule
steps_rule = record (new_rule (codes "steps")) { long = Some (codes "steps"); action = Some action.SetTrue }

-- the option --workers N, where N is 0 to 255
abbrev pub workers_rule : Rule
workers_rule = record (new_rule (codes "workers")) {
  long = Some (codes "workers");
  value_names = 1;
  action = Some action.Set;
  parser = Some (parser.Signed (pos 0) (pos 255));
}

-- any number of SCRIPT
abbrev pub scripts_rule : Rule
scripts_rule = record (new_rule (codes "SCRIPT")) {
  action = Some action.Append;
  range = Some (record { start_inclusive = 1; end_inclusive = usize_max });
}

unfoldable pub line : App
line = with_rule (with_rule (with_rule (new_app (codes "occheck")) steps_rule) workers_rule) scripts_rule

-- what the words may ask for: one script step by step, or so many workers beside the sessions of scripts
pub data Asked : Type 0 where
  steps : Text → Asked
  workers : ℕ → List Text → Asked

abbrev pub view : Mode → Asked
view (mode.Steps script) = steps (string_bytes script)
view (mode.Workers number scripts) = workers number (map string_bytes scripts.items)

-- the number below 256 that a text is in decimal
abbrev pub number_in : Text → Option ℕ
number_in text =
    let digits = without_leading_plus text in
    if is_numeral digits && nat_lt (digits_value 10 digits) 256 then Some (digits_value 10 digits) else None

abbrev pub is_true : Text → Bool
is_true text = bytes_eq text (codes "true")

abbrev pub has_steps : List Row → Bool
has_steps rows = option_map_or is_true (one_of (codes "steps") rows) false

abbrev pub workers_in : List Row → Option ℕ
workers_in rows = option_and_then number_in (one_of (codes "workers") rows)

abbrev pub scripts_in : List Row → List Text
scripts_in rows = unwrap_or (all_of (codes "SCRIPT") rows) []

abbrev pub is_few : ℕ → Bool
is_few n = nat_le 1 n && nat_le n 16

-- one script
abbrev pub steps_of : List Text → Option Asked
steps_of [] = None
steps_of (script ∷ []) = Some (steps script)
steps_of (script ∷ other ∷ more) = None

-- 1 to 16 workers and 1 to 16 scripts, of which standard input is one at most
abbrev pub sessions_of : ℕ → List Text → Option Asked
sessions_of n scripts =
    if is_few n && (is_few (length scripts) && nat_le (inputs scripts) 1) then Some (workers n scripts) else None

-- exactly one of the flag and the option
abbrev pub either_of : Bool → Option ℕ → List Text → Option Asked
either_of true None scripts = steps_of scripts
either_of true (Some n) scripts = None
either_of false None scripts = None
either_of false (Some n) scripts = sessions_of n scripts

unfoldable pub asked_of : List Row → Option Asked
asked_of rows = either_of (has_steps rows) (workers_in rows) (scripts_in rows)

-- what is asked for where clap may fail by these kinds of errors
abbrev pub where_taken : Kinds → List Row → Option Asked
where_taken [] rows = asked_of rows
where_taken (kind ∷ kinds) rows = None

-- what a line asks for, which begins with the program's name
unfoldable pub asked_in : List Text → Option Asked
asked_in words = where_taken (fault_of line words) (matches_of line words)

-- what the words ask for: without words the script of standard input, else what they say of the flag, the option and the scripts
abbrev pub asked : List Text → Option Asked
asked [] = Some (steps (codes "-"))
asked (word ∷ words) = asked_in (codes "occheck" ∷ word ∷ words)

-- the words are refused only where they ask for nothing
abbrev pub IsRefusal : Option Asked → WordsFault → Type 0
IsRefusal o (fault.Refused text) = o ≡ None
IsRefusal o fault.Memory = Unit {0}
