use Rattle.std.proofs.Common.{◌∙◌, ap, codes, map, refl}
use Rattle.clap.proofs.WalkLemmas.{raw_values-rows}
use Rattle.clap.specs.Words.{found_of}
use Rattle.occheck_words.proofs.Reading.{scripts_are}
use Rattle.occheck_words.proofs.words.scripts_of.Goals as goal

pub returns : goal.returns
returns c = ap (λ r. map (λ v. v.now) r.now) c.unwrap_or.ensures ∙ scripts_are c.get_strs.result _ _ (c.get_strs.ensures ∙ raw_values-rows (found_of c.args.matches.now) (codes "SCRIPT")) refl
