use Rattle.udfs_words.proofs.SizeLemmas.{either, in_a_row, in_pairs, same_choice}
use Rattle.udfs_words.proofs.sizes.size_in.Goals as goal

pub returns : goal.returns
returns c =
    let two = either _ _ _ _ _ c.count_in.ensures c.count_in-2.ensures c.or.ensures in
    let three = either _ _ _ _ _ two c.count_in-3.ensures c.or-2.ensures in
    let four = either _ _ _ _ _ three c.count_in-4.ensures c.or-3.ensures in
    let five = either _ _ _ _ _ four c.count_in-5.ensures c.or-4.ensures in
    let six = either _ _ _ _ _ five c.count_in-6.ensures c.or-5.ensures in
    let seven = either _ _ _ _ _ six c.count_in-7.ensures c.or-6.ensures in
    same_choice _ _ _ (λ size. in_a_row) (λ size. in_pairs) (either _ _ _ _ _ seven c.count_in-8.ensures c.or-7.ensures)
