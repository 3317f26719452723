-- What the grammar makes of the line, and what a request of it is.
use Rattle.std.proofs.Common.{◌≡◌, List, [], ◌∷◌, Option, None, Some, codes, ap, refl, ◌∙◌, unwrap_or}
use Rattle.clap.specs.Words.{Row, Text, all_of, first_of, one_of, rows_of}
use Rattle.clap.specs.declared.parser.matches.Found.{Found}
use Rattle.clap.proofs.OnLiterals.{clap_on_literals}
use Rattle.udfs_words.specs.Obeying.{Asks, GrammarTakes, IsAsked}
use Rattle.udfs_words.specs.Requests.{IsRequest}
use Rattle.udfs_words.specs.Lines.{IsSomeMerge, merge_line}
use Rattle.udfs_words.specs.declared.request.Request.{Request}
use Rattle.udfs_words.specs.declared.request.Request.TheVariants as request
use Rattle.udfs_words.proofs.LineLemmas.{all_are, differ, first_is, given_is, no_group, no_profile, no_size, one_is, one_stream, rows_say}
use Rattle.udfs_words.proofs.laws.some_line_of_merge.Goals as goal

taken : GrammarTakes merge_line
unfolding clap_on_literals
taken = refl

named : Asks merge_line (codes "merge")
unfolding clap_on_literals
named = refl

-- all that is read of the line
abbrev read : Text → List Row → Text × Option (List Text) × Option (List Text) × Option Text × Option Text × Option Text × Option Text × Option Text × Option (List Text) × Option Text × Option (List Text)
read name rows = (name, all_of (codes "input") rows, all_of (codes "ddrescue") rows, one_of (codes "v1") rows, first_of (codes "out") rows, one_of (codes "force") rows, first_of (codes "size") rows, first_of (codes "profile") rows, all_of (codes "blocks") rows, first_of (codes "group") rows, all_of (codes "size-of") rows)

abbrev said : Text × Option (List Text) × Option (List Text) × Option Text × Option Text × Option Text × Option Text × Option Text × Option (List Text) × Option Text × Option (List Text)
said = (codes "merge", Some (codes "first.rdg" ∷ codes "second.rdg" ∷ []), None, Some (codes "true"), Some (codes "all.tab"), Some (codes "false"), None, None, None, None, None)

says : (name : Text) (words : Found) → IsAsked merge_line name words → read name (rows_of words) ≡ said
unfolding clap_on_literals
says name words asked = rows_say read merge_line name words said asked refl

by : (name : Text) (words : Found) (r : Request) → read name (rows_of words) ≡ said → IsRequest name words r → IsSomeMerge r
by name words (request.Merge r) e is = (
  (is.1.inputs.files ∙ all_are words (codes "input") _ _ _ (ap (λ t. t.1) e) refl, is.1.inputs.parts ∙ all_are words (codes "ddrescue") _ _ _ (ap (λ t. t.2) e) refl),
  is.1.version.with_flag (one_is words (codes "v1") _ (ap (λ t. t.3) e)),
  is.1.out ∙ ap (λ (o : Option Text). unwrap_or o []) (first_is words (codes "out") _ (ap (λ t. t.4) e)),
  is.1.force.without_flag (one_is words (codes "force") _ (ap (λ t. t.5) e)),
)
by name words _ e is = absurd (differ (ap (λ t. t.0) e) is.0 refl refl)

pub returns : goal.returns
returns c = record {
  takes = taken;
  names = named;
  lawful = λ words asked. let e = says (codes "merge") words asked in (
    no_size words (first_is words (codes "size") _ (ap (λ t. t.6) e)) (given_is words (codes "size-of") _ _ (ap (λ t. t.10) e) refl),
    no_profile words (first_is words (codes "profile") _ (ap (λ t. t.7) e)),
    one_stream (codes "merge") words _ _ (all_are words (codes "input") _ _ _ (ap (λ t. t.1) e) refl) (all_are words (codes "blocks") _ _ _ (ap (λ t. t.8) e) refl) refl,
    no_group words (first_is words (codes "group") _ (ap (λ t. t.9) e)),
  );
  is = λ r asked. by asked.name asked.words r (says asked.name asked.words asked.is_asked) asked.reads.is;
}
