use Rattle.occheck_script.proofs.input.read_script.Goals as goal

pub returns-clause-lines : goal.returns-clause-lines
returns-clause-lines g c = λ all e. c.in_ok-whole_text.ensures.lines all (c.in_ok-bytes.ensures.all all e)
