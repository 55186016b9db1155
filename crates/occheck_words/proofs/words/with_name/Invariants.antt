use Rattle.std.proofs.Common.{◌≡◌, ◌∷◌, codes, map, take}
use Rattle.occheck_words.proofs.words.with_name.Given as goal

abbrev pub invariant-loop-word : goal.invariant-loop-word
invariant-loop-word l = map (λ word. word.now) l.line.items ≡ codes "occheck" ∷ map (λ word. word.now) (take l.word-index l.words)
