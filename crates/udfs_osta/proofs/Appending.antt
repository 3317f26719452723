-- Texts that are written in part.
use Rattle.std.proofs.Common.{◌≡◌, ℕ, List, [], ◌++◌, cond, take, drop, refl, sym, ap, ◌∙◌}
use Rattle.std.specs.Prelude.{Result, Ok, Err, is_ok, OnOk, OnErr}
use Rattle.std.proofs.lemmas.List.{append_assoc, append-nil, take-append-drop}
use Rattle.udfs_osta.specs.Texts.{AppendsPart, IsPartWritten}

pub at_err : {T E P : Type 0} (r : Result T E) → P → OnErr r P
at_err (Ok x) p = tt
at_err (Err e) p = p

-- nothing yet
pub AppendsPart-nothing : (old new whole : List ℕ) → new ≡ old → AppendsPart old new whole
AppendsPart-nothing old new whole e = record { part = []; more = whole; is_part = refl; appended = e ∙ sym (append-nil old) }

-- the front of a list
pub AppendsPart-take : (i : ℕ) (old new whole : List ℕ) → new ≡ old ++ take i whole → AppendsPart old new whole
AppendsPart-take i old new whole e =
    record { part = take i whole; more = drop i whole; is_part = take-append-drop i whole; appended = e }

-- a part of what comes first
pub AppendsPart-first : (old new first rest : List ℕ) → AppendsPart old new first → AppendsPart old new (first ++ rest)
AppendsPart-first old new first rest a = record {
  part = a.part;
  more = a.more ++ rest;
  is_part = sym (append_assoc a.part a.more rest) ∙ ap (λ x. x ++ rest) a.is_part;
  appended = a.appended;
}

-- what comes first, and a part of the rest
pub AppendsPart-next : (old middle new first rest : List ℕ) → middle ≡ old ++ first → AppendsPart middle new rest → AppendsPart old new (first ++ rest)
AppendsPart-next old middle new first rest e a = record {
  part = first ++ a.part;
  more = a.more;
  is_part = append_assoc first a.part a.more ∙ ap (λ x. first ++ x) a.is_part;
  appended = a.appended ∙ ap (λ x. x ++ a.part) e ∙ append_assoc old first a.part;
}

-- a loop that appends piece by piece: its start, a step, a refusal in a step, and its end
pub Progress-start : (old whole : List ℕ) → IsPartWritten old old whole whole
Progress-start old whole = record { done = []; so_far = sym (append-nil old); left = refl }

pub Progress-step : (old middle new whole first rest : List ℕ) → IsPartWritten old middle whole (first ++ rest) → new ≡ middle ++ first → IsPartWritten old new whole rest
Progress-step old middle new whole first rest p e = record {
  done = p.done ++ first;
  so_far = e ∙ ap (λ x. x ++ first) p.so_far ∙ append_assoc old p.done first;
  left = append_assoc p.done first rest ∙ p.left;
}

pub Progress-stop : (old middle new whole first rest : List ℕ) → IsPartWritten old middle whole (first ++ rest) → AppendsPart middle new first → AppendsPart old new whole
Progress-stop old middle new whole first rest p a = record {
  part = p.done ++ a.part;
  more = a.more ++ rest;
  is_part =
      append_assoc p.done a.part (a.more ++ rest)
      ∙ ap (λ x. p.done ++ x) (sym (append_assoc a.part a.more rest) ∙ ap (λ x. x ++ rest) a.is_part)
      ∙ p.left;
  appended = a.appended ∙ ap (λ x. x ++ a.part) p.so_far ∙ append_assoc old p.done a.part;
}

-- a refusal in what is left
pub Progress-cut : (old middle new whole rest : List ℕ) → IsPartWritten old middle whole rest → AppendsPart middle new rest → AppendsPart old new whole
Progress-cut old middle new whole rest p a =
    Progress-stop old middle new whole rest [] (record { done = p.done; so_far = p.so_far; left = ap (λ x. p.done ++ x) (append-nil rest) ∙ p.left }) a

pub Progress-end : (old new whole : List ℕ) → IsPartWritten old new whole [] → new ≡ old ++ whole
Progress-end old new whole p = p.so_far ∙ ap (λ x. old ++ x) (sym (append-nil p.done) ∙ p.left)

-- a text that a last `push` or `push_str` ends, where what comes before it is there

pub pushed_all : {T E : Type 0} (r : Result T E) (old middle new first last whole : List ℕ) → whole ≡ first ++ last → middle ≡ old ++ first
    → new ≡ cond (is_ok r) (middle ++ last) middle → OnOk r (new ≡ old ++ whole)
pushed_all (Ok x) old middle new first last whole w m e =
    e ∙ ap (λ y. y ++ last) m ∙ append_assoc old first last ∙ ap (λ y. old ++ y) (sym w)
pushed_all (Err f) old middle new first last whole w m e = tt

pub pushed_part : {T E : Type 0} (r : Result T E) (old middle new first last whole : List ℕ) → whole ≡ first ++ last → middle ≡ old ++ first
    → new ≡ cond (is_ok r) (middle ++ last) middle → OnErr r (AppendsPart old new whole)
pushed_part (Ok x) old middle new first last whole w m e = tt
pushed_part (Err f) old middle new first last whole w m e = record { part = first; more = last; is_part = sym w; appended = e ∙ m }
