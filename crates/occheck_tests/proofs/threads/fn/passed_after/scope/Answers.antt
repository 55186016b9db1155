use denote.Exit.{no}
use denote.Param.{param}
use denote.Param.Send.{IsSend, IsSync, arg_send, param_send, param_sync, recorded_send, shr_send, struct_send}
use denote.Ref.{NamedLft}
use denote.RattleType.{RattleType}
use denote.Struct.Declared.{shape}
use denote.Struct.Field.{shr_ref_field}
use denote.Struct.Tuple.{TupleAt, field_at, type_at}
use Rattle.std.proofs.Common.{List, [], ◌∷◌, rules}
use Rattle.std.specs.Prelude.{ℕ, codes}
use Rattle.std.proofs.alloc.Global.TheSendSync as global_cross
use Rattle.std.specs.contracts.alloc.Global as global
use Rattle.occ_server.proofs.Crossing.{server_sync}
use Rattle.occ_server.specs.contracts.server.Server as server
use Rattle.occheck_tests.proofs.threads.Counter.TheSendSync as counter_cross
use Rattle.occheck_tests.specs.contracts.threads.Counter as counter
use Rattle.occheck_tests.proofs.threads.fn.passed_after.scope.Goals as goal

-- the closure that is handed over, and what it refers to
abbrev closure : List ℕ
closure = codes "occheck_tests::threads::fn::passed_after::fn::scope::spawn+Self"

abbrev captured : RattleType → NamedLft → NamedLft → NamedLft → NamedLft → List RattleType
captured R l m n o = (shr_ref_field l server.the_row tt).row ∷ (shr_ref_field m (param 0 R) tt).row ∷ (shr_ref_field n global.the_row tt).row ∷ (shr_ref_field o counter.the_row tt).row ∷ []

crosses : (R : RattleType) (l m n o : NamedLft) → IsSync R → IsSend (TupleAt closure (captured R l m n o))
crosses R l m n o r =
    let fields = captured R l m n o in
    recorded_send (field_at closure fields).row _ _ (type_at closure fields).to_one
    (struct_send (shape (type_at closure fields)) (shr_send _ _ server.the_row server_sync, (shr_send _ _ (param 0 R) (param_sync 0 R r), (shr_send _ _ global.the_row global_cross.the_sync, (shr_send _ _ counter.the_row counter_cross.the_sync, tt)))))

pub spawn-requires-send-F : goal.spawn-requires-send-F
spawn-requires-send-F g c κs within =
    let r : IsSync g.row.R = search (rules, c.requires) parts 8 in
    param_send _ _ (arg_send _ no _ (crosses g.row.R _ _ _ _ r))
