use Rattle.std.proofs.Common.{◌≡◌, ℕ, ◌+◌, ◌<◌, List, [], ◌∷◌, ◌++◌, Result, length, take, drop, get_or, sym, ap, subst, ◌∙◌, append_assoc, take-append-drop, arith}
use Rattle.std.proofs.lemmas.List.{take_more, drop_more}
use Rattle.udfs_rescue.specs.declared.list.ListReader.{ListReader}
use Rattle.udfs_rescue.specs.BlockLists.{RefusesList}
use Rattle.udfs_rescue.specs.BlockLists.{StandsList}
use Rattle.udfs_rescue.proofs.list.ListReader.feed.Goals as goal

same_says : (r : ListReader) (x y : List ℕ → Result (List ℕ) ℕ) → ((rest : List ℕ) → x rest ≡ y rest) → StandsList r x → StandsList r y
same_says r x y e s = record { line = s.line; keeps = s.keeps; left = λ rest. sym (e rest) ∙ s.left rest }

one_more : (piece rest : List ℕ) (i : ℕ) → i < length piece → take i piece ++ (get_or piece i 0 ∷ rest) ≡ take (i + 1) piece ++ rest
one_more piece rest i h = sym (append_assoc (take i piece) (get_or piece i 0 ∷ []) rest) ∙ ap (λ l. l ++ rest) (sym (take_more piece i 0 h))

split_at : (piece rest : List ℕ) (i : ℕ) → i < length piece → take i piece ++ (get_or piece i 0 ∷ (drop (i + 1) piece ++ rest)) ≡ piece ++ rest
split_at piece rest i h = ap (λ l. take i piece ++ (l ++ rest)) (sym (drop_more piece i 0 h)) ∙ sym (append_assoc (take i piece) (drop i piece) rest) ∙ ap (λ l. l ++ rest) (take-append-drop i piece)

pub loop-byte-preserved : goal.loop-byte-preserved
loop-byte-preserved c =
    let i = c.loop-byte.byte-index in
    let piece = c.args.piece.now in
    λ says s. same_says c.take.new.self (λ rest. says (take i piece ++ (get_or piece i 0 ∷ rest))) (λ rest. says (take (i + 1) piece ++ rest)) (λ rest. ap says (one_more piece rest i (omega arith)))
    (c.in-Ok.ensures.ok (λ rest. says (take i piece ++ rest)) (c.loop-byte.invariant says s))

pub returns-in-Err-clause-err : goal.returns-in-Err-clause-err
returns-in-Err-clause-err c =
    let i = c.loop-byte.byte-index in
    let piece = c.args.piece.now in
    λ says s rest. subst (λ l. RefusesList c.in-Err.e (says l)) (split_at piece rest i (omega arith)) (c.in-Err.ensures.err (λ rest. says (take i piece ++ rest)) (c.loop-byte.invariant says s) (drop (i + 1) piece ++ rest))
