-- What the grammar makes of the line, and what a request of it is.
use Rattle.std.proofs.Common.{◌≡◌, List, [], ◌∷◌, Option, None, Some, codes, ap, map, refl, ◌∙◌, lit<}
use Rattle.clap.specs.Words.{Row, Text, all_of, first_of, one_of, rows_of}
use Rattle.clap.specs.declared.parser.matches.Found.{Found}
use Rattle.clap.proofs.OnLiterals.{clap_on_literals}
use Rattle.udfs_words.specs.Asking.{stream_path}
use Rattle.udfs_words.specs.Obeying.{Asks, GrammarTakes, IsAsked}
use Rattle.udfs_words.specs.Requests.{IsRequest}
use Rattle.udfs_words.specs.Lines.{IsSomeSummary, summary_line}
use Rattle.udfs_words.specs.declared.request.Request.{Request}
use Rattle.udfs_words.specs.declared.request.Request.TheVariants as request
use Rattle.udfs_words.proofs.LineLemmas.{all_are, differ, first_is, given_is, last_is, no_group, no_size, one_is, one_stream, rows_say, thousand, wide_is_known}
use Rattle.udfs_words.proofs.laws.some_line_of_summary.Goals as goal

taken : GrammarTakes summary_line
unfolding clap_on_literals
taken = refl

named : Asks summary_line (codes "summary")
unfolding clap_on_literals
named = refl

-- all that is read of the line
abbrev read : Text → List Row → Text × Option (List Text) × Option (List Text) × Option Text × Option Text × Option (List Text) × Option Text × Option (List Text) × Option Text × Option (List Text) × Option Text
read name rows = (name, all_of (codes "input") rows, all_of (codes "ddrescue") rows, first_of (codes "size") rows, first_of (codes "profile") rows, all_of (codes "blocks") rows, one_of (codes "last") rows, all_of (codes "last") rows, first_of (codes "group") rows, all_of (codes "size-of") rows, one_of (codes "json") rows)

abbrev said : Text × Option (List Text) × Option (List Text) × Option Text × Option Text × Option (List Text) × Option Text × Option (List Text) × Option Text × Option (List Text) × Option Text
said = (codes "summary", Some (codes "all.tab" ∷ []), None, None, Some (codes "wide"), None, Some (codes "1000"), Some (codes "1000" ∷ []), None, None, Some (codes "true"))

says : (name : Text) (words : Found) → IsAsked summary_line name words → read name (rows_of words) ≡ said
unfolding clap_on_literals
says name words asked = rows_say read summary_line name words said asked refl

by : (name : Text) (words : Found) (r : Request) → read name (rows_of words) ≡ said → IsRequest name words r → IsSomeSummary r
by name words (request.Summary r) e is = (
  (
    (is.1.volume.inputs.files ∙ ap (map stream_path) (all_are words (codes "input") _ _ _ (ap (λ t. t.1) e) refl), is.1.volume.inputs.parts ∙ (all_are words (codes "ddrescue") _ _ _ (ap (λ t. t.2) e) refl)),
    last_is words _ _ 1000 is.1.volume.last (one_is words (codes "last") _ (ap (λ t. t.6) e)) (given_is words (codes "last") _ _ (ap (λ t. t.7) e) refl) thousand.0 thousand.1 (lit< tt),
    is.1.volume.profile.wide (first_is words (codes "profile") _ (ap (λ t. t.4) e)),
  ),
  is.1.form.with_flag (one_is words (codes "json") _ (ap (λ t. t.10) e)),
)
by name words _ e is = absurd (differ (ap (λ t. t.0) e) is.0 refl refl)

pub returns : goal.returns
returns c = record {
  takes = taken;
  names = named;
  lawful = λ words asked. let e = says (codes "summary") words asked in (
    no_size words (first_is words (codes "size") _ (ap (λ t. t.3) e)) (given_is words (codes "size-of") _ _ (ap (λ t. t.9) e) refl),
    wide_is_known words (first_is words (codes "profile") _ (ap (λ t. t.4) e)),
    one_stream (codes "summary") words _ _ (all_are words (codes "input") _ _ _ (ap (λ t. t.1) e) refl) (all_are words (codes "blocks") _ _ _ (ap (λ t. t.5) e) refl) refl,
    no_group words (first_is words (codes "group") _ (ap (λ t. t.8) e)),
  );
  is = λ r asked. by asked.name asked.words r (says asked.name asked.words asked.is_asked) asked.reads.is;
}
