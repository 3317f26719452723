-- What the grammar makes of the line, and what a request of it is.
use Rattle.std.proofs.Common.{◌≡◌, List, [], ◌∷◌, Option, None, Some, codes, ap, map, refl, ◌∙◌, lit<}
use Rattle.clap.specs.Words.{Row, Text, all_of, first_of, one_of, rows_of}
use Rattle.clap.specs.declared.parser.matches.Found.{Found}
use Rattle.clap.proofs.OnLiterals.{clap_on_literals}
use Rattle.udfs_words.specs.Asking.{only_path}
use Rattle.udfs_words.specs.Obeying.{Asks, GrammarTakes, IsAsked}
use Rattle.udfs_words.specs.Requests.{IsRequest}
use Rattle.udfs_words.specs.Lines.{IsSomeReread, reread_line}
use Rattle.udfs_words.specs.declared.group.GroupSize.TheVariants.{Sixteen}
use Rattle.udfs_words.specs.declared.request.Request.{Request}
use Rattle.udfs_words.specs.declared.request.Request.TheVariants as request
use Rattle.udfs_words.proofs.LineLemmas.{all_are, differ, first_is, given_is, good_group, group_is, last_is, no_profile, no_size, one_is, one_stream, optional_is, rows_say, thousand}
use Rattle.udfs_words.proofs.laws.some_line_of_reread.Goals as goal

taken : GrammarTakes reread_line
unfolding clap_on_literals
taken = refl

named : Asks reread_line (codes "reread")
unfolding clap_on_literals
named = refl

-- all that is read of the line
abbrev read : Text → List Row → Text × Option (List Text) × Option (List Text) × Option Text × Option Text × Option (List Text) × Option Text × Option (List Text) × Option Text × Option (List Text) × Option Text × Option Text × Option (List Text) × Option (List Text)
read name rows = (name, all_of (codes "input") rows, all_of (codes "ddrescue") rows, first_of (codes "size") rows, first_of (codes "profile") rows, all_of (codes "blocks") rows, one_of (codes "last") rows, all_of (codes "last") rows, first_of (codes "mapfile") rows, all_of (codes "mapfile") rows, one_of (codes "no-witnesses") rows, first_of (codes "group") rows, all_of (codes "only") rows, all_of (codes "size-of") rows)

abbrev said : Text × Option (List Text) × Option (List Text) × Option Text × Option Text × Option (List Text) × Option Text × Option (List Text) × Option Text × Option (List Text) × Option Text × Option Text × Option (List Text) × Option (List Text)
said = (codes "reread", Some (codes "all.tab" ∷ []), None, None, None, None, Some (codes "1000"), Some (codes "1000" ∷ []), Some (codes "again.map"), Some (codes "again.map" ∷ []), Some (codes "false"), Some (codes "16"), Some (codes "/a/" ∷ []), None)

says : (name : Text) (words : Found) → IsAsked reread_line name words → read name (rows_of words) ≡ said
unfolding clap_on_literals
says name words asked = rows_say read reread_line name words said asked refl

by : (name : Text) (words : Found) (r : Request) → read name (rows_of words) ≡ said → IsRequest name words r → IsSomeReread r
by name words (request.Reread r) e is = (
  (
    (is.1.volume.inputs.files ∙ (all_are words (codes "input") _ _ _ (ap (λ t. t.1) e) refl), is.1.volume.inputs.parts ∙ (all_are words (codes "ddrescue") _ _ _ (ap (λ t. t.2) e) refl)),
    last_is words _ _ 1000 is.1.volume.last (one_is words (codes "last") _ (ap (λ t. t.6) e)) (given_is words (codes "last") _ _ (ap (λ t. t.7) e) refl) thousand.0 thousand.1 (lit< tt),
    is.1.volume.profile.unnamed (first_is words (codes "profile") _ (ap (λ t. t.4) e)),
  ),
  is.1.only ∙ ap (map only_path) (all_are words (codes "only") _ _ _ (ap (λ t. t.12) e) refl),
  is.1.mapfile ∙ optional_is words _ _ (first_is words (codes "mapfile") _ (ap (λ t. t.8) e)) (given_is words (codes "mapfile") _ _ (ap (λ t. t.9) e) refl),
  group_is words _ Sixteen is.1.group (first_is words (codes "group") _ (ap (λ t. t.11) e)),
  is.1.witnesses.without_flag (one_is words (codes "no-witnesses") _ (ap (λ t. t.10) e)),
)
by name words _ e is = absurd (differ (ap (λ t. t.0) e) is.0 refl refl)

pub returns : goal.returns
returns c = record {
  takes = taken;
  names = named;
  lawful = λ words asked. let e = says (codes "reread") words asked in (
    no_size words (first_is words (codes "size") _ (ap (λ t. t.3) e)) (given_is words (codes "size-of") _ _ (ap (λ t. t.13) e) refl),
    no_profile words (first_is words (codes "profile") _ (ap (λ t. t.4) e)),
    one_stream (codes "reread") words _ _ (all_are words (codes "input") _ _ _ (ap (λ t. t.1) e) refl) (all_are words (codes "blocks") _ _ _ (ap (λ t. t.5) e) refl) refl,
    good_group words Sixteen (first_is words (codes "group") _ (ap (λ t. t.11) e)) (given_is words (codes "mapfile") _ _ (ap (λ t. t.9) e) refl),
  );
  is = λ r asked. by asked.name asked.words r (says asked.name asked.words asked.is_asked) asked.reads.is;
}
