use Rattle.std.proofs.Common.{◌≡◌, ℕ, ◌+◌, ◌*◌, ◌≤◌, ◌∙◌, ap, sym, subst, drop, length, arith, false, nat_lt, List, filter, rules, Option}
use Rattle.std.proofs.lemmas.Fn.{filter_same}
use Rattle.udfs_tag.specs.Tags.{is_valid}
use Rattle.udfs_volume.specs.Answers.{found}
use Rattle.udfs_volume.specs.declared.faults.VolumeFault.{VolumeFault}
use Rattle.udfs_space.specs.declared.entries.SparingEntry.{SparingEntry}
use Rattle.udfs_space.specs.Parts.{entries_fault, AreSound}
use Rattle.udfs_space.specs.Sparing.{entries, entry_count, is_used}
use Rattle.udfs_space.proofs.Judging.{count_is, entries_are, judged-fault, judged-found}
use Rattle.udfs_space.proofs.SoundEntries.{sound_entries}
use Rattle.udfs_space.proofs.entries.spared_by.Goals as goal

not_less : (a n m k : ℕ) → m ≡ n → n ≡ k → 56 + 8 * m ≤ a → nat_lt a (56 + 8 * k) ≡ false
not_less a n m k p q h = grind (arith, p, q, h)

told : (last p q : ℕ) (ds items es : List SparingEntry) (r o : Option VolumeFault) → r ≡ entries_fault last q ds → q ≡ p → ds ≡ items → items ≡ es → r ≡ o → entries_fault last p es ≡ o
told last p q ds items es r o e f g h is = sym (e ∙ (λ i. entries_fault last (f i) ((g ∙ h) i))) ∙ is

pub returns-in-Some-clause-value : goal.returns-in-Some-clause-value
returns-in-Some-clause-value c =
    let bytes = c.args.bytes.now in
    let content = c.behind-content.result.now in
    let count = count_is bytes content c.behind.result.now c.read_u16-count.result c.behind-content.ensures.value c.behind.ensures.value c.read_u16-count.ensures in
    judged-fault c.args.last c.args.packet (length bytes) (is_valid bytes c.args.place 0) (drop 16 bytes) c.in-Some.fault
    (sym c.is_sparing_table.ensures ∙ c.if-not-is_sparing_table.false)
    (not_less (length bytes) c.read_u16-count.result c.from.result (entry_count (drop 16 bytes)) c.from.ensures count c.if-from-bytes.false)
    (told c.args.last c.args.packet c.from-2.result c.deref.result.now c.in_ok-entries.entries.items (entries (drop 16 bytes)) c.entries_fault.result _ c.entries_fault.ensures c.from-2.ensures c.deref.ensures.value
    (entries_are bytes content c.behind.result.now c.read_u16-count.result c.in_ok-entries.entries.items c.behind-content.ensures.value c.behind.ensures.value c.read_u16-count.ensures c.in_ok-entries.ensures)
    c.in-Some.is)

pub returns-clause-value : goal.returns-clause-value
returns-clause-value c =
    let bytes = c.args.bytes.now in
    let content = c.behind-content.result.now in
    let count = count_is bytes content c.behind.result.now c.read_u16-count.result c.behind-content.ensures.value c.behind.ensures.value c.read_u16-count.ensures in
    let all = entries_are bytes content c.behind.result.now c.read_u16-count.result c.in_ok-entries.entries.items c.behind-content.ensures.value c.behind.ensures.value c.read_u16-count.ensures c.in_ok-entries.ensures in
    judged-found c.args.last c.args.packet (length bytes) (is_valid bytes c.args.place 0) (drop 16 bytes)
    (sym c.is_sparing_table.ensures ∙ c.if-not-is_sparing_table.false)
    (not_less (length bytes) c.read_u16-count.result c.from.result (entry_count (drop 16 bytes)) c.from.ensures count c.if-from-bytes.false)
    (told c.args.last c.args.packet c.from-2.result c.deref.result.now c.in_ok-entries.entries.items (entries (drop 16 bytes)) c.entries_fault.result _ c.entries_fault.ensures c.from-2.ensures c.deref.ensures.value all c.in_default.is)
    ∙ ap found (ap (filter is_used) (sym all) ∙ sym (filter_same _ _ _ (λ x b f' k. search rules) _ _ c.retain.ensures.filtered))

pub returns-clause-sound : goal.returns-clause-sound
returns-clause-sound c =
    let kept : c.retain.new.self.items ≡ filter is_used c.in_ok-entries.entries.items = filter_same _ _ _ (λ x b f' k. search rules) _ _ c.retain.ensures.filtered in
    subst (AreSound c.args.packet) (sym kept)
    (sound_entries c.args.last c.args.packet c.in_ok-entries.entries.items c.requires.last
    (told c.args.last c.args.packet c.from-2.result c.deref.result.now c.in_ok-entries.entries.items c.in_ok-entries.entries.items c.entries_fault.result _ c.entries_fault.ensures c.from-2.ensures c.deref.ensures.value
    (λ i. c.in_ok-entries.entries.items) c.in_default.is))
