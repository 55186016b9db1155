-- Words and what they ask for, computed.
use Rattle.std.proofs.Common.{refl, ◌≡◌, [], ◌∷◌, None, Some, codes}
use Rattle.clap.proofs.OnLiterals.{clap_on_literals}
use Rattle.occheck_words.specs.Line.{asked, asked_in, asked_of, line, steps, workers}

pub one_script : asked (codes "--steps" ∷ codes "one" ∷ []) ≡ Some (steps (codes "one"))
unfolding clap_on_literals asked_in asked_of line
one_script = refl

pub two_scripts : asked (codes "--workers" ∷ codes "2" ∷ codes "one" ∷ codes "-" ∷ []) ≡ Some (workers 2 (codes "one" ∷ codes "-" ∷ []))
unfolding clap_on_literals asked_in asked_of line
two_scripts = refl

pub other_order : asked (codes "one" ∷ codes "--workers=+2" ∷ codes "-" ∷ []) ≡ Some (workers 2 (codes "one" ∷ codes "-" ∷ []))
unfolding clap_on_literals asked_in asked_of line
other_order = refl

pub both : asked (codes "--steps" ∷ codes "--workers" ∷ codes "2" ∷ codes "one" ∷ []) ≡ None
unfolding clap_on_literals asked_in asked_of line
both = refl

pub neither : asked (codes "one" ∷ []) ≡ None
unfolding clap_on_literals asked_in asked_of line
neither = refl

pub no_number : asked (codes "--workers" ∷ codes "two" ∷ codes "one" ∷ []) ≡ None
unfolding clap_on_literals asked_in asked_of line
no_number = refl

pub help : asked (codes "--help" ∷ []) ≡ None
unfolding clap_on_literals asked_in asked_of line
help = refl

pub twice : asked (codes "--workers" ∷ codes "2" ∷ codes "-" ∷ codes "-" ∷ []) ≡ None
unfolding clap_on_literals asked_in asked_of line
twice = refl
