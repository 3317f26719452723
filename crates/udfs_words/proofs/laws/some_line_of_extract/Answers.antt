-- What the grammar makes of the line, and what a request of it is.
use Rattle.std.proofs.Common.{◌≡◌, List, [], ◌∷◌, Option, None, Some, codes, ap, map, refl, ◌∙◌, unwrap_or, lit<}
use Rattle.clap.specs.Words.{Row, Text, all_of, first_of, one_of, rows_of}
use Rattle.clap.specs.declared.parser.matches.Found.{Found}
use Rattle.clap.proofs.OnLiterals.{clap_on_literals}
use Rattle.udfs_words.specs.Asking.{only_path}
use Rattle.udfs_words.specs.Obeying.{Asks, GrammarTakes, IsAsked}
use Rattle.udfs_words.specs.Requests.{IsRequest}
use Rattle.udfs_words.specs.Lines.{IsSomeExtract, extract_line}
use Rattle.udfs_words.specs.declared.request.Request.{Request}
use Rattle.udfs_words.specs.declared.request.Request.TheVariants as request
use Rattle.udfs_words.proofs.LineLemmas.{all_are, differ, first_is, given_is, last_is, no_group, no_profile, no_size, one_is, one_stream, optional_is, optional_none, rows_say, thousand}
use Rattle.udfs_words.proofs.laws.some_line_of_extract.Goals as goal

taken : GrammarTakes extract_line
unfolding clap_on_literals
taken = refl

named : Asks extract_line (codes "extract")
unfolding clap_on_literals
named = refl

-- all that is read of the line
abbrev read : Text → List Row → Text × Option (List Text) × Option (List Text) × Option Text × Option Text × Option (List Text) × Option Text × Option (List Text) × Option Text × Option (List Text) × Option Text × Option Text × Option Text × Option Text × Option (List Text) × Option (List Text) × Option Text × Option (List Text) × Option Text × Option (List Text) × Option Text
read name rows = (name, all_of (codes "input") rows, all_of (codes "ddrescue") rows, first_of (codes "size") rows, first_of (codes "profile") rows, all_of (codes "blocks") rows, one_of (codes "last") rows, all_of (codes "last") rows, first_of (codes "to") rows, all_of (codes "only") rows, one_of (codes "fill") rows, one_of (codes "short-names") rows, one_of (codes "times") rows, first_of (codes "manifest") rows, all_of (codes "manifest") rows, all_of (codes "unnamed") rows, first_of (codes "group") rows, all_of (codes "size-of") rows, first_of (codes "lost") rows, all_of (codes "lost") rows, one_of (codes "deleted") rows)

abbrev said : Text × Option (List Text) × Option (List Text) × Option Text × Option Text × Option (List Text) × Option Text × Option (List Text) × Option Text × Option (List Text) × Option Text × Option Text × Option Text × Option Text × Option (List Text) × Option (List Text) × Option Text × Option (List Text) × Option Text × Option (List Text) × Option Text
said = (codes "extract", Some (codes "all.tab" ∷ []), None, None, None, None, Some (codes "1000"), Some (codes "1000" ∷ []), Some (codes "files"), Some (codes "/a" ∷ codes "/b" ∷ []), Some (codes "true"), Some (codes "false"), Some (codes "true"), Some (codes "sums"), Some (codes "sums" ∷ []), None, None, None, Some (codes "found"), Some (codes "found" ∷ []), Some (codes "true"))

says : (name : Text) (words : Found) → IsAsked extract_line name words → read name (rows_of words) ≡ said
unfolding clap_on_literals
says name words asked = rows_say read extract_line name words said asked refl

by : (name : Text) (words : Found) (r : Request) → read name (rows_of words) ≡ said → IsRequest name words r → IsSomeExtract r
by name words (request.Extract r) e is = (
  (
    (is.1.volume.inputs.files ∙ (all_are words (codes "input") _ _ _ (ap (λ t. t.1) e) refl), is.1.volume.inputs.parts ∙ (all_are words (codes "ddrescue") _ _ _ (ap (λ t. t.2) e) refl)),
    last_is words _ _ 1000 is.1.volume.last (one_is words (codes "last") _ (ap (λ t. t.6) e)) (given_is words (codes "last") _ _ (ap (λ t. t.7) e) refl) thousand.0 thousand.1 (lit< tt),
    is.1.volume.profile.unnamed (first_is words (codes "profile") _ (ap (λ t. t.4) e)),
  ),
  is.1.folder ∙ ap (λ (o : Option Text). unwrap_or o []) (first_is words (codes "to") _ (ap (λ t. t.8) e)),
  is.1.only ∙ ap (map only_path) (all_are words (codes "only") _ _ _ (ap (λ t. t.9) e) refl),
  is.1.fill.with_flag (one_is words (codes "fill") _ (ap (λ t. t.10) e)),
  is.1.short_names.without_flag (one_is words (codes "short-names") _ (ap (λ t. t.11) e)),
  is.1.times.with_flag (one_is words (codes "times") _ (ap (λ t. t.12) e)),
  is.1.manifest ∙ optional_is words _ _ (first_is words (codes "manifest") _ (ap (λ t. t.13) e)) (given_is words (codes "manifest") _ _ (ap (λ t. t.14) e) refl),
  is.1.lost ∙ optional_none words _ (given_is words (codes "unnamed") _ _ (ap (λ t. t.15) e) refl),
  is.1.trees ∙ optional_is words _ _ (first_is words (codes "lost") _ (ap (λ t. t.18) e)) (given_is words (codes "lost") _ _ (ap (λ t. t.19) e) refl),
  is.1.deleted.with_flag (one_is words (codes "deleted") _ (ap (λ t. t.20) e)),
)
by name words _ e is = absurd (differ (ap (λ t. t.0) e) is.0 refl refl)

pub returns : goal.returns
returns c = record {
  takes = taken;
  names = named;
  lawful = λ words asked. let e = says (codes "extract") words asked in (
    no_size words (first_is words (codes "size") _ (ap (λ t. t.3) e)) (given_is words (codes "size-of") _ _ (ap (λ t. t.17) e) refl),
    no_profile words (first_is words (codes "profile") _ (ap (λ t. t.4) e)),
    one_stream (codes "extract") words _ _ (all_are words (codes "input") _ _ _ (ap (λ t. t.1) e) refl) (all_are words (codes "blocks") _ _ _ (ap (λ t. t.5) e) refl) refl,
    no_group words (first_is words (codes "group") _ (ap (λ t. t.16) e)),
  );
  is = λ r asked. by asked.name asked.words r (says asked.name asked.words asked.is_asked) asked.reads.is;
}
