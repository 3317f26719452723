-- Which of the sizes of groups a number is.
use Rattle.std.proofs.Common.{◌≡◌, ℕ, List, Option, Some, None, ap, refl, sym, ◌∙◌, is_some, true, unwrap_or, codes}
use Rattle.std.specs.Prelude.{◌↔◌, ◌≢◌, if◌then◌else◌}
use Rattle.std.specs.Str.{bytes_eq}
use Rattle.std.proofs.lemmas.Bool.{false≢true}
use Rattle.clap.specs.Matches.{first_value}
use Rattle.clap.specs.declared.parser.matches.Found.{Found}
use Rattle.udfs_words.specs.Asking.{IsGoodGroup, is_mapped, number_of}
use Rattle.udfs_words.specs.declared.group.GroupSize.{GroupSize}
use Rattle.udfs_words.specs.declared.group.GroupSize.TheVariants.{Two, Four, Eight, Sixteen, ThirtyTwo}

-- the size by its number
abbrev by : List ℕ → GroupSize
by number = if bytes_eq number (codes "2") then Two else if bytes_eq number (codes "4") then Four else if bytes_eq number (codes "8") then Eight else if bytes_eq number (codes "16") then Sixteen else ThirtyTwo

by_its_own : (size : GroupSize) → by (number_of size) ≡ size
by_its_own Two = refl
by_its_own Four = refl
by_its_own Eight = refl
by_its_own Sixteen = refl
by_its_own ThirtyTwo = refl

-- the number of this size, and of no other
pub that_size : (number : List ℕ) (found size : GroupSize) → number ≡ number_of found → (Some found ≡ Some size) ↔ (number ≡ number_of size)
that_size number found size is = (
  λ same. is ∙ ap (λ (o : Option GroupSize). number_of (unwrap_or o found)) same,
  λ also. ap Some (sym (by_its_own found) ∙ ap by (sym is ∙ also) ∙ by_its_own size),
)

-- the number of none
pub no_size : (number : List ℕ) (size : GroupSize) → number ≢ codes "2" → number ≢ codes "4" → number ≢ codes "8" → number ≢ codes "16" → number ≢ codes "32" → (None ≡ Some size) ↔ (number ≡ number_of size)
no_size number Two a b c d e = (λ none. absurd (let never : ⊥ = cc in never), λ is. absurd (a is))
no_size number Four a b c d e = (λ none. absurd (let never : ⊥ = cc in never), λ is. absurd (b is))
no_size number Eight a b c d e = (λ none. absurd (let never : ⊥ = cc in never), λ is. absurd (c is))
no_size number Sixteen a b c d e = (λ none. absurd (let never : ⊥ = cc in never), λ is. absurd (d is))
no_size number ThirtyTwo a b c d e = (λ none. absurd (let never : ⊥ = cc in never), λ is. absurd (e is))

-- a number that is given, of a size, beside a mapfile
pub good : (words : Found) (number : List ℕ) (found : Option GroupSize) → first_value words (codes "group") ≡ Some number → is_some found ≡ true → ((size : GroupSize) → (found ≡ Some size) ↔ (number ≡ number_of size)) → is_mapped words ≡ true → IsGoodGroup words
good words number None e some is mapped other given = absurd (false≢true some)
good words number (Some size) e some is mapped other given = ((size, ap (λ (o : Option (List ℕ)). unwrap_or o number) (sym given ∙ e) ∙ (is size).0 refl), mapped)
