use Rattle.std.proofs.Common.{ap, inl, inr, map, refl, subst, sym, true, [], ◌≡◌, ◌∙◌, ◌⊎◌, List}
use Rattle.std.specs.Prelude.{Err, IfErr, IfOk, Ok, Result}
use Rattle.clap.specs.Words.{App, FailsBy, HasKind, HasMatchesOf, IsAmong, Kinds, Text, fault_of, found_of, is_simple, is_simple_and_free, kind_of, matches_of, rows_of}
use Rattle.clap.specs.declared.error.Error.{Error}
use Rattle.clap.specs.declared.error.kind.ErrorKind.TheVariants as kinds
use Rattle.clap.specs.declared.parser.matches.ArgMatches.{ArgMatches}
use Rattle.clap.proofs.OnLiterals.{clap_on_literals}
use Rattle.occheck_words.specs.Line.{line}
use Rattle.occheck_words.proofs.words.matched.Goals as goal

is_known : is_simple_and_free line ≡ true
unfolding clap_on_literals line
is_known = refl

is_plain : is_simple line ≡ true
unfolding clap_on_literals line
is_plain = refl

takes : (a : App) (words : List Text) (r : Result ArgMatches Error) → a ≡ line → (is_simple_and_free a ≡ true → FailsBy (fault_of a words) r) → IfOk r (λ _. fault_of line words ≡ [])
takes a words (Ok m) e h = ap (λ b. fault_of b words) (sym e) ∙ h (ap is_simple_and_free e ∙ is_known)
takes a words (Err f) e h = tt

finds : (a : App) (words : List Text) (r : Result ArgMatches Error) → a ≡ line → IfOk r (HasMatchesOf a words) → IfOk r (λ m. rows_of (found_of m) ≡ matches_of line words)
finds a words (Ok m) e h = (h (ap is_simple e ∙ is_plain)).0 ∙ ap (λ b. matches_of b words) e
finds a words (Err f) e h = tt

some_kind : (ks : Kinds) (f : Error) → HasKind ks f → (kind_of f ≡ kinds.OutOfMemory) ⊎ (ks ≡ [] → ⊥)
some_kind ks f (inl memory) = inl memory
some_kind ks f (inr among) = inr (λ e. subst (IsAmong (kind_of f)) e among)

refuses : (a : App) (words : List Text) (r : Result ArgMatches Error) → a ≡ line → (is_simple_and_free a ≡ true → FailsBy (fault_of a words) r) → IfErr r (λ f. (kind_of f ≡ kinds.OutOfMemory) ⊎ (fault_of line words ≡ [] → ⊥))
refuses a words (Ok m) e h = tt
refuses a words (Err f) e h = subst (λ b. (kind_of f ≡ kinds.OutOfMemory) ⊎ (fault_of b words ≡ [] → ⊥)) e (some_kind (fault_of a words) f (h (ap is_simple_and_free e ∙ is_known)))

pub returns : goal.returns
returns c =
    let parse = c.try_get_matches_from in
    let words = map (λ word. word.now) c.args.words.now in
    let is_line = c.in_ok-line.ensures in
    record {
      taken = takes _ words parse.result is_line parse.ensures.kinds;
      rows = finds _ words parse.result is_line parse.ensures.matches;
      refused = refuses _ words parse.result is_line parse.ensures.kinds;
    }
