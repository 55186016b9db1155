use denote.Exit.{no}
use denote.Param.{param}
use denote.Param.Send.{IsSend, IsSync, arg_send, param_send, param_sync, recorded_send, sendable, shr_send, struct_send}
use denote.Ref.{NamedLft}
use denote.RattleType.{RattleType}
use denote.Struct.Declared.{shape}
use denote.Struct.Field.{shr_ref_field, u32-field}
use denote.Struct.Tuple.{TupleAt, field_at, type_at}
use Rattle.std.proofs.result.Result.TheSendSync as result_cross
use Rattle.std.proofs.Common.{List, [], ◌∷◌, rules}
use Rattle.std.specs.Prelude.{ℕ, codes}
use Rattle.std.proofs.alloc.Global.TheSendSync as global_cross
use Rattle.std.specs.contracts.alloc.Global as global
use Rattle.occ_server.proofs.Crossing.{server_sync}
use Rattle.occ_server.specs.contracts.server.Server as server
use Rattle.occheck_sessions.proofs.Crossing.{talk_send}
use Rattle.occheck_sessions.proofs.script.SessionScript.TheSendSync as script_cross
use Rattle.occheck_sessions.proofs.talk.Broken.TheSendSync as broken_cross
use Rattle.occheck_sessions.specs.contracts.script.SessionScript as script
use Rattle.occheck_sessions.proofs.run.fn.all_talks.scope.Goals as goal

-- the closure of a worker, and what it refers to
abbrev worker : List ℕ
worker = codes "occheck_sessions::run::fn::all_talks::fn::scope::spawn+Self"

abbrev worker_captured : RattleType → RattleType → NamedLft → NamedLft → NamedLft → NamedLft → List RattleType
worker_captured G T l m n o = (shr_ref_field l server.the_row tt).row ∷ (shr_ref_field m (param 1 T) tt).row ∷ (shr_ref_field n global.the_row tt).row ∷ (shr_ref_field o (param 0 G) tt).row ∷ []

worker_crosses : (G T : RattleType) (l m n o : NamedLft) → IsSync G → IsSync T → IsSend (TupleAt worker (worker_captured G T l m n o))
worker_crosses G T l m n o s r =
    let fields = worker_captured G T l m n o in
    recorded_send (field_at worker fields).row _ _ (type_at worker fields).to_one
    (struct_send (shape (type_at worker fields)) (shr_send _ _ server.the_row server_sync, (shr_send _ _ (param 1 T) (param_sync 1 T r), (shr_send _ _ global.the_row global_cross.the_sync, (shr_send _ _ (param 0 G) (param_sync 0 G s), tt)))))

pub spawn-requires-send-F : goal.spawn-requires-send-F
spawn-requires-send-F g c κs within =
    let r : IsSync g.row.T = search (rules, c.requires) parts 8 in
    let s : IsSync g.row.G = search (rules, c.requires) parts 8 in
    param_send _ _ (arg_send _ no _ (worker_crosses g.row.G g.row.T _ _ _ _ s r))

-- the closure of a session, and what it holds and refers to
abbrev session : List ℕ
session = codes "occheck_sessions::run::fn::all_talks::fn::scope::spawn+2+Self"

abbrev session_captured : RattleType → NamedLft → NamedLft → NamedLft → List RattleType
session_captured T l m n = (shr_ref_field l (param 1 T) tt).row ∷ global.the_row ∷ (shr_ref_field m server.the_row tt).row ∷ u32-field.row ∷ (shr_ref_field n script.the_row tt).row ∷ []

session_crosses : (T : RattleType) (l m n : NamedLft) → IsSync T → IsSend (TupleAt session (session_captured T l m n))
session_crosses T l m n r =
    let number : IsSend u32-field.row = search sendable depth 10 in
    let fields = session_captured T l m n in
    recorded_send (field_at session fields).row _ _ (type_at session fields).to_one
    (struct_send (shape (type_at session fields)) (shr_send _ _ (param 1 T) (param_sync 1 T r), (global_cross.the_send, (shr_send _ _ server.the_row server_sync, (number, (shr_send _ _ script.the_row script_cross.the_sync, tt))))))

pub spawn-requires-in-loop-place-send-F : goal.spawn-requires-in-loop-place-send-F
spawn-requires-in-loop-place-send-F g c κs within =
    let r : IsSync g.row.T = search (rules, c.requires) parts 8 in
    param_send _ _ (arg_send _ no _ (session_crosses g.row.T _ _ _ r))

pub spawn-requires-in-loop-place-send-T : goal.spawn-requires-in-loop-place-send-T
spawn-requires-in-loop-place-send-T g c κs within = search (sendable, result_cross.the_send, talk_send, broken_cross.the_send) depth 30
