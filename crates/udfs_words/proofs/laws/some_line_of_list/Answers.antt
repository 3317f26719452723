-- What the grammar makes of the line, and what a request of it is.
use Rattle.std.proofs.Common.{◌≡◌, List, [], ◌∷◌, Option, None, Some, codes, ap, map, refl, ◌∙◌, lit<}
use Rattle.clap.specs.Words.{Row, Text, all_of, first_of, one_of, rows_of}
use Rattle.clap.specs.declared.parser.matches.Found.{Found}
use Rattle.clap.proofs.OnLiterals.{clap_on_literals}
use Rattle.udfs_words.specs.Asking.{stream_path}
use Rattle.udfs_words.specs.Obeying.{Asks, GrammarTakes, IsAsked}
use Rattle.udfs_words.specs.Requests.{IsRequest}
use Rattle.udfs_words.specs.Lines.{IsSomeList, list_line}
use Rattle.udfs_words.specs.declared.request.Request.{Request}
use Rattle.udfs_words.specs.declared.request.Request.TheVariants as request
use Rattle.udfs_words.proofs.LineLemmas.{all_are, differ, first_is, given_is, no_group, no_profile, one_is, one_size, one_stream, rows_say, size_is, thousand_and_one}
use Rattle.udfs_words.proofs.laws.some_line_of_list.Goals as goal

taken : GrammarTakes list_line
unfolding clap_on_literals
taken = refl

named : Asks list_line (codes "list")
unfolding clap_on_literals
named = refl

-- all that is read of the line
abbrev read : Text → List Row → Text × Option (List Text) × Option (List Text) × Option Text × Option Text × Option (List Text) × Option Text × Option (List Text) × Option (List Text) × Option Text × Option Text × Option Text × Option Text × Option (List Text) × Option Text × Option Text
read name rows = (name, all_of (codes "input") rows, all_of (codes "ddrescue") rows, first_of (codes "size") rows, first_of (codes "profile") rows, all_of (codes "blocks") rows, one_of (codes "last") rows, all_of (codes "last") rows, all_of (codes "size") rows, one_of (codes "torn") rows, one_of (codes "null") rows, one_of (codes "paths") rows, first_of (codes "group") rows, all_of (codes "size-of") rows, one_of (codes "header") rows, one_of (codes "json") rows)

abbrev said : Text × Option (List Text) × Option (List Text) × Option Text × Option Text × Option (List Text) × Option Text × Option (List Text) × Option (List Text) × Option Text × Option Text × Option Text × Option Text × Option (List Text) × Option Text × Option Text
said = (codes "list", Some (codes "-" ∷ []), None, Some (codes "1001s"), None, None, None, None, Some (codes "1001s" ∷ []), Some (codes "true"), Some (codes "true"), Some (codes "true"), None, None, Some (codes "true"), Some (codes "false"))

says : (name : Text) (words : Found) → IsAsked list_line name words → read name (rows_of words) ≡ said
unfolding clap_on_literals
says name words asked = rows_say read list_line name words said asked refl

by : (name : Text) (words : Found) (r : Request) → read name (rows_of words) ≡ said → IsRequest name words r → IsSomeList r
by name words (request.List r) e is = (
  (
    (is.1.volume.inputs.files ∙ ap (map stream_path) (all_are words (codes "input") _ _ _ (ap (λ t. t.1) e) refl), is.1.volume.inputs.parts ∙ (all_are words (codes "ddrescue") _ _ _ (ap (λ t. t.2) e) refl)),
    size_is words _ _ 1000 is.1.volume.last (one_is words (codes "last") _ (ap (λ t. t.6) e)) (first_is words (codes "size") _ (ap (λ t. t.3) e)) (given_is words (codes "size") _ _ (ap (λ t. t.8) e) refl) thousand_and_one (lit< tt),
    is.1.volume.profile.unnamed (first_is words (codes "profile") _ (ap (λ t. t.4) e)),
  ),
  is.1.torn.with_flag (one_is words (codes "torn") _ (ap (λ t. t.9) e)),
  is.1.null.with_flag (one_is words (codes "null") _ (ap (λ t. t.10) e)),
  is.1.paths.with_flag (one_is words (codes "paths") _ (ap (λ t. t.11) e)),
  is.1.header.with_flag (one_is words (codes "header") _ (ap (λ t. t.14) e)),
  is.1.json.without_flag (one_is words (codes "json") _ (ap (λ t. t.15) e)),
)
by name words _ e is = absurd (differ (ap (λ t. t.0) e) is.0 refl refl)

pub returns : goal.returns
returns c = record {
  takes = taken;
  names = named;
  lawful = λ words asked. let e = says (codes "list") words asked in (
    one_size words _ 1000 (first_is words (codes "size") _ (ap (λ t. t.3) e)) thousand_and_one (given_is words (codes "last") _ _ (ap (λ t. t.7) e) refl) (given_is words (codes "size-of") _ _ (ap (λ t. t.13) e) refl),
    no_profile words (first_is words (codes "profile") _ (ap (λ t. t.4) e)),
    one_stream (codes "list") words _ _ (all_are words (codes "input") _ _ _ (ap (λ t. t.1) e) refl) (all_are words (codes "blocks") _ _ _ (ap (λ t. t.5) e) refl) refl,
    no_group words (first_is words (codes "group") _ (ap (λ t. t.12) e)),
  );
  is = λ r asked. by asked.name asked.words r (says asked.name asked.words asked.is_asked) asked.reads.is;
}
