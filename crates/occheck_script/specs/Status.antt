-- What the status of a run says.
use Rattle.std.specs.Prelude.{ℕ, Bool, true, false}
use Rattle.occheck_script.specs.declared.status.Status.{Status}
use Rattle.occheck_script.specs.declared.status.Status.TheVariants.{Clean, Errors, ScriptFault, DeviceFault, NoMemory, Disagree}

-- the exit status of the program
abbrev pub exit_code : Status → ℕ
exit_code Clean = 0
exit_code Errors = 1
exit_code ScriptFault = 2
exit_code DeviceFault = 3
exit_code NoMemory = 4
exit_code Disagree = 5

-- a read or a write failed
abbrev pub is_device_fault : Status → Bool
is_device_fault Clean = false
is_device_fault Errors = false
is_device_fault ScriptFault = false
is_device_fault DeviceFault = true
is_device_fault NoMemory = false
is_device_fault Disagree = false
