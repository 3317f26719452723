-- Where a path leads by way of another.
use Rattle.std.proofs.Common.{◌≡◌, ℕ, List, Some, None, Ok, Err, IfOk, IfSome, IsNone, ap, refl, sym, ◌∙◌, subst, string_bytes}
use Rattle.std.specs.Prelude.{◌≢◌, Option, Result, option_map}
use Rattle.udfs_calls.specs.Log.{Log, Names, NamesSome, Node, holds, node_at}
use Rattle.udfs_host_fs.proofs.Logs.{absent_held}
use Rattle.udfs_host_fs.specs.Identities.{HaveOne, IsFileOf}
use Rattle.udfs_host_fs.specs.Leading.{LeadsTo}
use Rattle.udfs_host_fs.specs.Told.{IsLedInPlace, NameOneFile, identity_by, identity_of}
use Rattle.udfs_host_fs.specs.declared.files.Identity.{Identity}
use Rattle.udfs_host_fs.specs.declared.files.Kind.{Kind}
use Rattle.udfs_host_fs.specs.declared.files.Kind.TheVariants.{Absent, Regular, Other}
use Rattle.udfs_host_fs.specs.declared.files.Target.{Target}

module _ (log : Option Log) (real : List ℕ → List ℕ) (identity : Node → ℕ × ℕ) (in_place : List ℕ → Type 0) (at path : List ℕ) where
  -- a path leads where one leads that it leads to
  led_on : (target : Target) → real at ≡ real path → LeadsTo log real identity in_place at target → LeadsTo log real identity in_place path target
  led_on target same leads = record {
    path_is = leads.path_is ∙ same;
    absent = λ is. subst (λ p. Names log p None) same (leads.absent is);
    regular = λ is. subst (λ p. NamesSome log p) same (leads.regular is);
    other = λ is. let found = leads.other is in (found.0, found.1 ∙ same, found.2);
    file = λ other. leads.file other ∙ ap (identity_by log identity) same;
    no_file = leads.no_file;
  }

  -- a device leads to itself
  pub led_device : (target : Target) → target.kind ≡ Other → target.identity ≡ None → string_bytes target.path ≡ at → real at ≡ real path → (real at ≡ at) × in_place at → LeadsTo log real identity in_place path target
  led_device target other none bytes same own = record {
    path_is = bytes ∙ sym own.0 ∙ same;
    absent = λ is. absurd (cc);
    regular = λ is. absurd (cc);
    other = λ is. (at, same, own.1);
    file = λ no. absurd (no other);
    no_file = λ is. none;
  }

  -- what is found of one is found of the other
  pub led_all : {E A : Type 0} (told : Type 0) (link : Option (List ℕ)) (found : Result (Result Target E) A) → (told → real at ≡ real path) → (told → link ≡ None)
      → IfOk found (λ one. IfOk one (λ target. told → link ≡ None → LeadsTo log real identity in_place at target)) → IfOk found (λ one. IfOk one (λ target. told → LeadsTo log real identity in_place path target))
  led_all told link (Ok (Ok target)) same none leads = λ tells. led_on target (same tells) (leads tells (none tells))
  led_all told link (Ok (Err fault)) same none leads = tt
  led_all told link (Err error) same none leads = tt

-- where a path is said to lead to nothing, it holds no file
pub led_absent : {E A : Type 0} (log : Option Log) (real : List ℕ → List ℕ) (identity : Node → ℕ × ℕ) (in_place : List ℕ → Type 0) (path : List ℕ) (told : Type 0) → (told → (l : Log) × (log ≡ Some l)) → (found : Result (Result Target E) A)
    → IfOk found (λ one. IfOk one (λ target. told → LeadsTo log real identity in_place path target)) → IfOk found (λ one. IfOk one (λ target. target.kind ≡ Absent → told → holds log (real path) ≡ Some None))
led_absent log real identity in_place path told known (Ok (Ok target)) leads = λ is tells. absent_held log (real path) (known tells) ((leads tells).absent is)
led_absent log real identity in_place path told known (Ok (Err fault)) leads = tt
led_absent log real identity in_place path told known (Err error) leads = tt

-- an identity is said of what is said to be a regular file, or nothing
apart : (kind : Kind) (said there : Option Identity) → (kind ≢ Other → said ≡ there) → (kind ≡ Other → said ≡ None) → (i : Identity) → said ≡ Some i → there ≡ Some i
apart Absent said there file none i is = sym (file (λ e. cc)) ∙ is
apart Regular said there file none i is = sym (file (λ e. cc)) ∙ is
apart Other said there file none i is = let bad : None ≡ Some i = sym (none refl) ∙ is in cc

-- what is said of which file a path leads to
file_led : (log : Option Log) (real : List ℕ → List ℕ) (identity : Node → ℕ × ℕ) (in_place : List ℕ → Type 0) (path : List ℕ) (told : Type 0) (target : Target) → told → LeadsTo log real identity in_place path target
    → IsFileOf (identity_by log identity (real path)) (told → IsLedInPlace real in_place path) target.identity
file_led log real identity in_place path told target tells leads = record {
  known = apart target.kind target.identity (identity_by log identity (real path)) leads.file leads.no_file;
  exact = λ no. leads.file (λ is. no (λ _. leads.other is));
}

pub led_file : {E A : Type 0} (log : Option Log) (real : List ℕ → List ℕ) (identity : Node → ℕ × ℕ) (in_place : List ℕ → Type 0) (path : List ℕ) (told : Type 0) (found : Result (Result Target E) A)
    → IfOk found (λ one. IfOk one (λ target. told → LeadsTo log real identity in_place path target)) → IfOk found (λ one. IfOk one (λ target. told → IsFileOf (identity_by log identity (real path)) (told → IsLedInPlace real in_place path) target.identity))
led_file log real identity in_place path told (Ok (Ok target)) leads = λ tells. file_led log real identity in_place path told target tells (leads tells)
led_file log real identity in_place path told (Ok (Err fault)) leads = tt
led_file log real identity in_place path told (Err error) leads = tt

-- ---- the numbers of what is there

-- where nothing is, there are none
pub no_file : (log : Option Log) (numbers : Node → ℕ × ℕ) (p : List ℕ) → (l : Log) × (log ≡ Some l) → Names log p None → None ≡ identity_by log numbers p
no_file None numbers p known none = refl
no_file (Some log) numbers p known none = sym (ap (option_map (λ node. identity_of (numbers node))) none)

-- they are those that are told of what the path names
named : (numbers : Node → ℕ × ℕ) (i : ℕ × ℕ) (entry : Option Node) → entry ≢ None → ((node : Node) → entry ≡ Some node → numbers node ≡ i) → Some (identity_of i) ≡ option_map (λ node. identity_of (numbers node)) entry
named numbers i None some told = absurd (some refl)
named numbers i (Some node) some told = ap (λ n. Some (identity_of n)) (sym (told node refl))

pub named_file : (log : Option Log) (numbers : Node → ℕ × ℕ) (p : List ℕ) (device inode : ℕ) → (l : Log) × (log ≡ Some l) → NamesSome log p → ((node : Node) → Names log p (Some node) → numbers node ≡ (device, inode))
    → Some (record { device = device; inode = inode }) ≡ identity_by log numbers p
named_file None numbers p device inode known some told = let bad : None ≡ Some known.0 = known.1 in cc
named_file (Some log) numbers p device inode known some told = named numbers (device, inode) (node_at log.start log.calls p) some told

-- where there are numbers, they are those of a file
numbered : (numbers : Node → ℕ × ℕ) (entry : Option Node) (i : Identity) → option_map (λ node. identity_of (numbers node)) entry ≡ Some i → (node : Node) × (entry ≡ Some node) × (numbers node ≡ (i.device, i.inode))
numbered numbers None i is = let bad : None ≡ Some i = is in cc
numbered numbers (Some node) i is = (node, refl, ap (numbers_or i) is)
  where
    numbers_or : Identity → Option Identity → ℕ × ℕ
    numbers_or other None = (other.device, other.inode)
    numbers_or other (Some own) = (own.device, own.inode)

-- paths of the same numbers name one file, where two files have not the same
pub one_file : (log : Option Log) (numbers : Node → ℕ × ℕ) (p q : List ℕ) → (l : Log) × (log ≡ Some l) → ((a b : Node) → Names log p (Some a) → Names log q (Some b) → numbers a ≡ numbers b → a ≡ b)
    → HaveOne (identity_by log numbers p) (identity_by log numbers q) → NameOneFile log p q
one_file None numbers p q known differ one = let bad : None ≡ Some known.0 = known.1 in cc
one_file (Some log) numbers p q known differ one =
    let a = numbered numbers (node_at log.start log.calls p) one.0 one.1 in
    let b = numbered numbers (node_at log.start log.calls q) one.0 one.2 in
    (a.0, a.1, b.1 ∙ ap (λ node. Some node) (sym (differ a.0 b.0 a.1 b.1 (a.2 ∙ sym b.2))))

-- paths that name one file have the same numbers
pub one_number : (log : Option Log) (numbers : Node → ℕ × ℕ) (p q : List ℕ) → (l : Log) × (log ≡ Some l) → NameOneFile log p q → HaveOne (identity_by log numbers p) (identity_by log numbers q)
one_number None numbers p q known one = let bad : None ≡ Some known.0 = known.1 in cc
one_number (Some log) numbers p q known one =
    let number = λ (entry : Option Node). option_map (λ node. identity_of (numbers node)) entry in
    (identity_of (numbers one.0), ap number one.1, ap number one.2)

-- no link is there where none was found
pub none_found : {X : Type 0} (link : Option (List ℕ)) (found : Option X) → found ≡ None → (IsNone found → link ≡ None) → link ≡ None
none_found link found is none = subst (λ f. (IsNone f → link ≡ None)) is none refl

-- what is said of what was found holds of it
pub some_found : {X : Type 0} (said : X → Type 0) (found : Option X) (x : X) → found ≡ Some x → IfSome found said → said x
some_found said found x is holds = subst (λ f. IfSome f said) is holds

pub ok_found : {X E : Type 0} (said : X → Type 0) (known : Result X E) (x : X) → known ≡ Ok x → IfOk known said → said x
ok_found said known x is holds = subst (λ r. IfOk r said) is holds
