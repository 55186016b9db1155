use Rattle.std.proofs.Common.{◌≡◌, ◌∙◌, List, ℕ, ap, refl, subst, sym, true}
use Rattle.std.specs.Str.{bytes_eq}
use Rattle.occ_board.proofs.Adopted.{adopted, before_still, done_now, fewer_left, verified_still, full_still, opened_still, sound_still, reported_still}
use Rattle.occ_board.proofs.Caches.{same_there}
use Rattle.occ_board.proofs.Nexts.{none_passed}
use Rattle.occ_board.proofs.Opened.{AreUnits, units_with}
use Rattle.occ_board.proofs.Indices.{within}
use Rattle.occ_board.proofs.board.Board.accept_outcome.Goals as goal
use Rattle.occ_board.specs.Done.{done}
use Rattle.occ_board.specs.Machine.{State}
use Rattle.occ_board.specs.inside.Verified.{shown_of}
use Rattle.occ_check.specs.Input.{Input}
use Rattle.occ_project_units.specs.Along.{name_at}

pub at-requires : goal.at-requires
at-requires c = within c.cache.new.self c.in_ok-found.found.0 c.args.outcome c.in_ok-found.ensures.index

pub settle_cached-requires-clause-sound : goal.settle_cached-requires-clause-sound
settle_cached-requires-clause-sound c =
    sound_still c.self.inside.base c.self.inside.journal.items c.self.inside.cached c.self.inside.handed.items c.args.self.now c.args.outcome c.self.view_is c.requires c.cache.new.self c.in_ok-found.ensures.cached c.done_law.ensures.done (c.done_law.ensures.project c.self.inside.base c.self.inside.journal.items c.self.invariant.0.based) c.height_law.ensures c.self.inside.graph c.self.inside.flags c.self.inside.opened c.self.inside.units
    c.self.invariant.0

pub settle_cached-requires-clause-done : goal.settle_cached-requires-clause-done
settle_cached-requires-clause-done c =
    let job : c.job-job.result.now ≡ c.args.outcome = c.job-job.ensures ∙ same_there c.cache.new.self c.in_ok-found.found.0 c.at.result.now c.args.outcome c.at.ensures c.in_ok-found.ensures.index in
    let unit : c.unit-2.result ≡ c.args.outcome.unit = c.unit-2.ensures.value ∙ ap (λ (i : Input). i.unit) job in
    subst (λ (n : List ℕ). done c.self.inside.graph c.cache.new.self n ≡ true) (sym unit)
    (done_now c.self.inside.base c.self.inside.journal.items c.self.inside.cached c.self.inside.handed.items c.args.self.now c.args.outcome c.self.view_is c.requires c.cache.new.self c.in_ok-found.ensures.cached c.done_law.ensures.done (c.done_law.ensures.project c.self.inside.base c.self.inside.journal.items c.self.invariant.0.based) c.height_law.ensures c.self.inside.graph c.self.inside.flags c.self.inside.opened c.self.inside.units
    c.self.invariant.0)

pub settle_cached-requires-clause-reported : goal.settle_cached-requires-clause-reported
settle_cached-requires-clause-reported c =
    reported_still c.self.inside.base c.self.inside.journal.items c.self.inside.cached c.self.inside.handed.items c.args.self.now c.args.outcome c.self.view_is c.requires c.cache.new.self c.in_ok-found.ensures.cached c.self.inside.graph c.self.inside.flags c.self.inside.opened c.self.inside.units c.self.invariant.0

pub settle_cached-requires-clause-full : goal.settle_cached-requires-clause-full
settle_cached-requires-clause-full c = λ p lt other.
    let job : c.job-job.result.now ≡ c.args.outcome = c.job-job.ensures ∙ same_there c.cache.new.self c.in_ok-found.found.0 c.at.result.now c.args.outcome c.at.ensures c.in_ok-found.ensures.index in
    let unit : c.unit-2.result ≡ c.args.outcome.unit = c.unit-2.ensures.value ∙ ap (λ (i : Input). i.unit) job in
    full_still c.self.inside.base c.self.inside.journal.items c.self.inside.cached c.self.inside.handed.items c.args.self.now c.args.outcome c.self.view_is c.requires c.cache.new.self c.in_ok-found.ensures.cached c.done_law.ensures.done (c.done_law.ensures.project c.self.inside.base c.self.inside.journal.items c.self.invariant.0.based) c.height_law.ensures c.self.inside.graph c.self.inside.flags c.self.inside.opened c.self.inside.units
    c.self.invariant.0 p lt (ap (λ (n : List ℕ). bytes_eq n (name_at c.self.inside.graph p)) (sym unit) ∙ other)

pub forget_users-requires : goal.forget_users-requires
forget_users-requires c =
    let job : c.job-job.result.now ≡ c.args.outcome = c.job-job.ensures ∙ same_there c.cache.new.self c.in_ok-found.found.0 c.at.result.now c.args.outcome c.at.ensures c.in_ok-found.ensures.index in
    opened_still c.self.inside.base c.self.inside.journal.items c.self.inside.cached c.self.inside.handed.items c.args.self.now c.args.outcome c.self.view_is c.requires c.cache.new.self c.in_ok-found.ensures.cached c.self.inside.graph c.self.inside.flags c.self.inside.opened c.self.inside.units c.self.invariant.0
    c.unit.result (c.unit.ensures.value ∙ ap (λ (i : Input). i.unit) job)

pub settle_cached-requires-clause-verified : goal.settle_cached-requires-clause-verified
settle_cached-requires-clause-verified c =
    let job : c.job-job.result.now ≡ c.args.outcome = c.job-job.ensures ∙ same_there c.cache.new.self c.in_ok-found.found.0 c.at.result.now c.args.outcome c.at.ensures c.in_ok-found.ensures.index in
    verified_still c.self.inside.base c.self.inside.journal.items c.self.inside.cached c.self.inside.handed.items c.args.self.now c.args.outcome c.self.view_is c.requires c.cache.new.self c.in_ok-found.ensures.cached c.done_law.ensures.done (c.done_law.ensures.project c.self.inside.base c.self.inside.journal.items c.self.invariant.0.based) c.height_law.ensures c.self.inside.graph c.self.inside.flags c.self.inside.opened c.self.inside.units
    c.self.invariant.0 c.self.inside.verified c.forget_users.new.verified c.in_ok-found.found.1 c.unit.result (c.unit.ensures.value ∙ ap (λ (i : Input). i.unit) job) c.verified_law.ensures.done c.self.invariant.2 c.forget_users.ensures
    (λ h. c.in_ok-found.ensures.shown.0 h ∙ ap (λ (t : State). shown_of t.cached c.args.outcome.unit) c.self.view_is)

pub returns-clause-ok : goal.returns-clause-ok
returns-clause-ok c =
    adopted c.self.inside.base c.self.inside.journal.items c.self.inside.cached c.self.inside.handed.items c.args.self.now c.args.outcome c.self.view_is c.requires c.cache.new.self c.in_ok-found.ensures.cached c.unhand.new.handed.items c.job-job.result.now c.unhand.ensures
    (c.job-job.ensures ∙ same_there c.cache.new.self c.in_ok-found.found.0 c.at.result.now c.args.outcome c.at.ensures c.in_ok-found.ensures.index)

pub returns-clause-fewer : goal.returns-clause-fewer
returns-clause-fewer c =
    fewer_left c.self.inside.base c.self.inside.journal.items c.self.inside.cached c.self.inside.handed.items c.args.self.now c.args.outcome c.self.view_is c.requires c.cache.new.self c.in_ok-found.ensures.cached c.done_law.ensures.done (c.done_law.ensures.project c.self.inside.base c.self.inside.journal.items c.self.invariant.0.based) c.height_law.ensures c.unhand.new.handed.items

pub invariant_of-self-2 : goal.invariant_of-self-2
invariant_of-self-2 c = (
  record {
    based = c.self.invariant.0.based;
    few = c.self.invariant.0.few;
    legal = c.self.invariant.0.legal;
    files_are = c.self.invariant.0.files_are;
    spelled = c.self.invariant.0.spelled;
    len = c.settle_cached.ensures.len;
    flags_are = c.settle_cached.ensures.flags;
    of_units = subst AreUnits (sym c.in_ok-found.ensures.cached) (units_with c.self.inside.cached c.args.outcome c.self.invariant.0.of_units c.requires.job.unit);
    reported =
        reported_still c.self.inside.base c.self.inside.journal.items c.self.inside.cached c.self.inside.handed.items c.args.self.now c.args.outcome c.self.view_is c.requires c.cache.new.self c.in_ok-found.ensures.cached c.self.inside.graph c.self.inside.flags c.self.inside.opened c.self.inside.units c.self.invariant.0;
    before =
        before_still c.self.inside.base c.self.inside.journal.items c.self.inside.cached c.self.inside.handed.items c.args.self.now c.args.outcome c.self.view_is c.requires c.cache.new.self c.in_ok-found.ensures.cached c.put_law.ensures.files c.self.inside.graph c.self.inside.flags c.self.inside.opened c.self.inside.units
        c.self.invariant.0;
    opened_are = c.self.invariant.0.opened_are;
    units_are = c.self.invariant.0.units_are;
  },
  c.settle_cached.ensures.awaited,
  c.settle_cached.ensures.verified,
  none_passed _ _ _ _ refl,
)
