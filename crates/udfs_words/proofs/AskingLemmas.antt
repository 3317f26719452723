-- One more input behind others, words that make no pair, and what is not given.
use Rattle.std.proofs.Common.{◌≡◌, ◌<◌, ℕ, Bor, List, [], ◌∷◌, ◌++◌, Option, Some, None, unwrap_or, codes, length, map, option_map, MatchOption, ap, refl, subst, sym, ◌∙◌, arith}
use Rattle.udfs_words.specs.declared.input_path.InputPath.{InputPath}
use Rattle.clap.specs.Matches.{first_value}
use Rattle.clap.specs.declared.parser.matches.Found.{Found}
use Rattle.udfs_words.specs.Sizes.{IsSize}
use Rattle.udfs_words.specs.Asking.{Asked, IsGivenSize, asked_for, pairs_of}

pub one_more : (done : List InputPath) (x : InputPath) (later : List Asked) → map asked_for (done ++ x ∷ []) ++ later ≡ map asked_for done ++ asked_for x ∷ later
one_more [] x later = refl
one_more (d ∷ done) x later = ap (λ l. asked_for d ∷ l) (one_more done x later)

pub no_pair : (words : List (List ℕ)) → length words < 2 → pairs_of words ≡ []
no_pair [] few = refl
no_pair (w ∷ []) few = refl
no_pair (w ∷ v ∷ words) few = absurd (omega (arith, few))

-- paths that were given, and else others
pub paths_or : (given : Option (Bor (List (Bor (List ℕ))))) (other result : Bor (List (Bor (List ℕ)))) (texts : Option (List (List ℕ))) (others : List (List ℕ)) → option_map (λ (s : Bor (List (Bor (List ℕ)))). map (λ (p : Bor (List ℕ)). p.now) s.now) given ≡ texts
    → map (λ (p : Bor (List ℕ)). p.now) other.now ≡ others → result ≡ unwrap_or given other → map (λ (p : Bor (List ℕ)). p.now) result.now ≡ unwrap_or texts others
paths_or None other result texts others given else is = ap (λ (s : Bor (List (Bor (List ℕ)))). map (λ (p : Bor (List ℕ)). p.now) s.now) is ∙ else ∙ ap (λ t. unwrap_or t others) given
paths_or (Some s) other result texts others given else is = ap (λ (s : Bor (List (Bor (List ℕ)))). map (λ (p : Bor (List ℕ)). p.now) s.now) is ∙ ap (λ t. unwrap_or t others) given

-- the size of the text that is given
pub given_size : (words : Found) (text : List ℕ) (result : Option ℕ) → first_value words (codes "size") ≡ Some text → MatchOption result ((size : ℕ) → ¬ IsSize text size) (IsSize text) → MatchOption result ((size : ℕ) → ¬ IsGivenSize words size) (IsGivenSize words)
given_size words text None e is = λ size given. is size (subst (λ (t : List ℕ). IsSize t size) (ap (λ (o : Option (List ℕ)). unwrap_or o text) (sym given.1 ∙ e)) given.2)
given_size words text (Some size) e is = (text, e, is)
