-- A line of more than three words begins no command.
use Rattle.std.proofs.Common.{◌≡◌, ℕ, List, ◌∷◌, None, ap}
use Rattle.occheck_commands.specs.Lines.{words}
use Rattle.occheck_commands.specs.Script.{header_of}
use Rattle.occheck_commands.proofs.Cut.{words_cut}

pub four_words : (a b c rest : List ℕ) → header_of (a ∷ b ∷ c ∷ words rest) ≡ None
four_words a b c rest = ap (λ (ws : List (List ℕ)). header_of (a ∷ b ∷ c ∷ ws)) (words_cut rest)
