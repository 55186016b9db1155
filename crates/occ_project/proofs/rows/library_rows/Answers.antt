use Rattle.std.proofs.Common.{ℕ, List, [], ◌++◌, codes, Option, refl, ap}
use Rattle.std.specs.Option.{ok_or}
use Rattle.occ_base.specs.declared.code.Code.TheVariants.{G7}
use Rattle.occ_project.specs.Entries.{entries, library_line}
use Rattle.occ_project.specs.Expansion.{expansion, held_faults, held_lines}
use Rattle.occ_project.proofs.rows.library_rows.Goals as goal

pub returns-clause-listed : goal.returns-clause-listed
unfolding entries expansion
returns-clause-listed c = λ text e. ap (λ (o : Option (List (List ℕ))). held_lines (codes "a") 2 (library_line 1 (codes "l") (ok_or o G7))) e

pub returns-clause-fine : goal.returns-clause-fine
unfolding entries expansion
returns-clause-fine c = λ text units e. ap (λ (o : Option (List (List ℕ))). (held_faults (codes "a") 2 (library_line 1 (codes "l") (ok_or o G7)) ++ []) ++ []) e

pub returns-clause-bad : goal.returns-clause-bad
unfolding entries expansion
returns-clause-bad c = λ text e. ap (λ (o : Option (List (List ℕ))). held_lines (codes "a") 2 (library_line 1 (codes "l") (ok_or o G7))) e

pub returns-clause-fault : goal.returns-clause-fault
unfolding entries expansion
returns-clause-fault c = λ text e. ap (λ (o : Option (List (List ℕ))). (held_faults (codes "a") 2 (library_line 1 (codes "l") (ok_or o G7)) ++ []) ++ []) e

pub returns-clause-reads : goal.returns-clause-reads
unfolding entries expansion
returns-clause-reads c = λ text. refl
