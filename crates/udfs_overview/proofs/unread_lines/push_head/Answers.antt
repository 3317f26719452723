use Rattle.std.proofs.Common.{◌≡◌, List, subst, ℕ}
use Rattle.std.specs.Prelude.{◌++◌, OnOk, codes}
use Rattle.std.specs.String.{string_bytes}
use Rattle.udfs_overview.specs.Sentences.{by_number, counted}
use Rattle.udfs_overview.specs.UnreadLists.{unread_head}
use Rattle.udfs_overview.proofs.Chains.{last_appended}
use Rattle.udfs_overview.proofs.unread_lines.push_head.Goals as goal

pub returns : goal.returns
unfolding unread_head
returns c =
    let one = string_bytes c.push_str.new.self in
    let new = string_bytes c.push_counted.new.text in
    let n = c.args.count in
    let words = by_number n (codes " entry, a file or a whole folder of unknown size:\n") (codes " entries, each a file or a whole folder of unknown size:\n") in
    last_appended c.push_counted.result (string_bytes c.args.text.now) one new (codes "Unread     ") (counted n words) c.in_ok-push_str.ensures.bytes
    (subst (λ (w : List ℕ). OnOk c.push_counted.result (new ≡ one ++ counted n w)) c.by_number-words.ensures c.push_counted.ensures)
