use Rattle.occ_editor.proofs.room.Room.renew.Goals as goal

pub returns-in_ok-tell_anew-clause-settled : goal.returns-in_ok-tell_anew-clause-settled
returns-in_ok-tell_anew-clause-settled g c = λ documents knows asked stands. c.in_ok-tell_anew.ensures.settled documents stands
