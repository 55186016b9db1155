use Rattle.occ_forms_expressions.proofs.Classes.{element_found, element_only, end_run, no_element, no_element_alone}
use Rattle.occ_forms_expressions.proofs.line_part.element.Goals as goal

pub returns-in_default-clause-only : goal.returns-in_default-clause-only
returns-in_default-clause-only c el k ends e = no_element _ (rw c.in_default.is at c.in_ok-found.ensures.run) el k (end_run k ends) e

pub returns-in_default-clause-run : goal.returns-in_default-clause-run
returns-in_default-clause-run c = no_element _ (rw c.in_default.is at c.in_ok-found.ensures.run)

pub returns-in_default-element_in-clause-only : goal.returns-in_default-element_in-clause-only
returns-in_default-element_in-clause-only c el k ends e = no_element_alone _ _ _ (rw c.in-Some.is at c.in_ok-found.ensures.run) c.in_default-element_in.ensures el k (end_run k ends) e

pub returns-in_default-element_in-clause-run : goal.returns-in_default-element_in-clause-run
returns-in_default-element_in-clause-run c = no_element_alone _ _ _ (rw c.in-Some.is at c.in_ok-found.ensures.run) c.in_default-element_in.ensures

pub returns-clause-found : goal.returns-clause-found
returns-clause-found c = element_found _ _ _ _ (rw c.in-Some.is at c.in_ok-found.ensures.found) c.in-Some-element_in.ensures

pub returns-clause-only : goal.returns-clause-only
returns-clause-only c el k ends e = element_only _ _ _ _ (rw c.in-Some.is at c.in_ok-found.ensures.run) c.in-Some-element_in.ensures el k (end_run k ends) e

pub returns-clause-run : goal.returns-clause-run
returns-clause-run c = element_only _ _ _ _ (rw c.in-Some.is at c.in_ok-found.ensures.run) c.in-Some-element_in.ensures
