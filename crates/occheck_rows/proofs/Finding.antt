-- What was written of a script that ended with a status up to 2.
use Rattle.std.proofs.Common.{◌≡◌, ◌≤◌, ℕ, List, [], Some, ap, sym, subst, ◌∙◌, arith}
use Rattle.occheck_script.specs.Machine.{Reading}
use Rattle.occheck_script.specs.Output.{IsWritten, output, status_of}
use Rattle.occheck_commands.specs.Script.{Script}
use Rattle.occheck_script.specs.Status.{exit_code}
use Rattle.occheck_script.specs.declared.status.Status.{Status}
use Rattle.occheck_script.specs.declared.status.Status.TheVariants as status

same_items : (a b : List ℕ) → Some a ≡ Some b → b ≡ a
same_items a b e = let i : a ≡ b = cc in sym i

abbrev IsAll : Reading → Script → List ℕ → ℕ → Type 0
IsAll read script wrote code = (output read script ≡ wrote) × (exit_code (status_of read script) ≡ code)

pub whole_reported : (read : Reading) (script : Script) (page wrote : List ℕ) (result : Status) → IsWritten read script (Some page) (Some wrote) result → page ≡ [] → exit_code result ≤ 2
    → IsAll read script wrote (exit_code result)
whole_reported read script page wrote status.Clean h e s = (same_items wrote (output read script) (h.0 [] (ap Some e)), ap exit_code (sym h.1))
whole_reported read script page wrote status.Errors h e s = (same_items wrote (output read script) (h.0 [] (ap Some e)), ap exit_code (sym h.1))
whole_reported read script page wrote status.ScriptFault h e s = (same_items wrote (output read script) (h.0 [] (ap Some e)), ap exit_code (sym h.1))
whole_reported read script page wrote status.DeviceFault h e s = absurd (omega arith)
whole_reported read script page wrote status.NoMemory h e s = absurd (omega arith)
whole_reported read script page wrote status.Disagree h e s = absurd (omega arith)

-- so what is wanted is what the script writes
pub met : (read : Reading) (script : Script) (page wrote wanted : List ℕ) (result : Status) (code number : ℕ) → IsWritten read script (Some page) (Some wrote) result → page ≡ []
    → code ≡ exit_code result → code ≡ number → wrote ≡ wanted → number ≤ 2 → IsAll read script wanted number
met read script page wrote wanted result code number h e c n w s =
    let k : exit_code result ≡ number = sym c ∙ n in
    subst (λ (bytes : List ℕ). IsAll read script bytes number) w
    (subst (λ (m : ℕ). IsAll read script wrote m) k (whole_reported read script page wrote result h e (subst (λ (m : ℕ). m ≤ 2) (sym k) s)))
