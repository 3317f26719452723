-- The name and the arguments of the command that the words ask for, from what each of them is by itself.
use Rattle.std.proofs.Common.{◌≡◌, ◌≢◌, ℕ, cond, Result, Ok, Err, IfOk, OnErr, Bool, true, false, ◌∙◌, Option, Some, None, option_map, List, [], ap, ap₂, subst, sym, refl, arith}
use Rattle.clap.specs.Words.{App, HasMatchesOf, Row, Text, fault_of, is_simple, is_simple_and_free, rows_of, subcommand_rows_of}
use Rattle.clap.specs.Matches.{subcommand_name_of}
use Rattle.clap.specs.declared.parser.matches.ArgMatches.{ArgMatches}
use Rattle.clap.specs.declared.parser.matches.Found.{Found}
use Rattle.udfs_words.specs.Grammar.{program_app}
use Rattle.udfs_words.specs.Obeying.{IsAsked, given_in}
use Rattle.udfs_words.specs.Requests.{Asked, Reads}
use Rattle.udfs_words.specs.declared.request.Request.{Request}
use Rattle.udfs_words.specs.declared.words.Given.{Given}

some_is : {X : Type 0} (x y : X) → Some x ≡ Some y → x ≡ y
some_is {X = X} x y e = ap (λ (o : Option X). from o) e
  where
    from : Option X → X
    from None = x
    from (Some z) = z

abbrev pair : {X Y Z : Type 0} (f : X → Y) (g : X → Z) → X → Y × Z
pair f g x = (f x, g x)

both : {X Y Z : Type 0} (f : X → Y) (g : X → Z) (o : Option X) (y : Y) (z : Z) → Some y ≡ option_map f o → Some z ≡ option_map (λ (p : Y × Z). p.1) (option_map (pair f g) o) → option_map (pair f g) o ≡ Some (y, z)
both f g None y z h k = absurd (none h)
  where
    none : {A : Type 0} {a : A} → Some a ≡ None → ⊥
    none e = cc
both {Y = Y} {Z = Z} f g (Some x) y z h k = ap₂ (λ (a : Y) (b : Z). Some (a, b)) (sym (some_is y (f x) h)) (sym (some_is z (g x) k))

simple_by : (pairs needs_last conflicts : Bool) → is_simple (program_app (record { pairs = pairs; needs_last = needs_last; conflicts = conflicts })) ≡ true
simple_by true true true = refl
simple_by true true false = refl
simple_by true false true = refl
simple_by true false false = refl
simple_by false true true = refl
simple_by false true false = refl
simple_by false false true = refl
simple_by false false false = refl

simple : (given : Given) → is_simple (program_app given) ≡ true
simple given = simple_by given.pairs given.needs_last given.conflicts

free_by : (pairs needs_last conflicts : Bool) → is_simple_and_free (program_app (record { pairs = pairs; needs_last = needs_last; conflicts = conflicts })) ≡ true
free_by true true true = refl
free_by true true false = refl
free_by true false true = refl
free_by true false false = refl
free_by false true true = refl
free_by false true false = refl
free_by false false true = refl
free_by false false false = refl

-- where clap found matches there is no fault in the words
pub no_fault : (app : App) (words : List Text) → app ≡ program_app (given_in words) → (is_simple_and_free app ≡ true → fault_of app words ≡ []) → fault_of (program_app (given_in words)) words ≡ []
no_fault app words is found = subst (λ (a : App). fault_of a words ≡ []) is (found (ap is_simple_and_free is ∙ free_by (given_in words).pairs (given_in words).needs_last (given_in words).conflicts))

pub asked : (m : ArgMatches) (words : List Text) (name : Text) (found : Found) → HasMatchesOf (program_app (given_in words)) words m
    → Some name ≡ subcommand_name_of m → Some (rows_of found) ≡ option_map (λ (p : Text × List Row). p.1) (subcommand_rows_of m) → IsAsked words name found
asked m words name found h named rows = sym ((h (simple (given_in words))).1) ∙ both _ _ _ name (rows_of found) named rows

-- what was read of the matches is what the line asks for
pub asks : (app : App) (m : ArgMatches) (line : List Text) (name : Text) (found : Found) (request : Request) → app ≡ program_app (given_in line) → HasMatchesOf app line m → Some name ≡ subcommand_name_of m
    → Some (rows_of found) ≡ option_map (λ (p : Text × List Row). p.1) (subcommand_rows_of m) → Reads name found request → Asked line request
asks app m line name found request is h named rows reads = record {
  name = name;
  words = found;
  is_asked = asked m line name found (subst (λ (a : App). HasMatchesOf a line m) is h) named rows;
  reads = reads;
}

-- the status of what was done
pub done : {E : Type 0} (o : Result Bool E) (r : ℕ) (P : Bool → Type 0) → IfOk o (λ w. r ≡ cond w 0 1) → OnErr o (r ≡ 2) → (r ≢ 2) → IfOk o P → (w : Bool) × (r ≡ cond w 0 1) × P w
done (Ok w) r P ok err some p = (w, ok, p)
done (Err e) r P ok err some p = absurd (some err)

-- what holds of a refusal, with its status
pub refused : {E : Type 0} (o : Result Bool E) (r : ℕ) (P : Type 0) → IfOk o (λ w. r ≡ cond w 0 1) → r ≡ 2 → OnErr o P → P
refused (Ok true) r P ok two p = absurd (omega (arith, ok, two))
refused (Ok false) r P ok two p = absurd (omega (arith, ok, two))
refused (Err e) r P ok two p = p
