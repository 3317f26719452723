use Rattle.std.proofs.Common.{◌∙◌, ap, refl, subst, sym, true}
use Rattle.udfs_tag.specs.declared.layouts.LongAd.{LongAd}
use Rattle.udfs_space.specs.Views.{view_by}
use Rattle.udfs_file.specs.Entries.{entry_of}
use Rattle.udfs_file.specs.Stretches.{IsStanding}
use Rattle.udfs_walk.specs.Targets.{bad, target, unread}
use Rattle.udfs_walk.specs.Kinds.{kind_by}
use Rattle.udfs_walk.proofs.BareNodes.{entry_again}
use Rattle.udfs_walk.proofs.NamedLemmas.{no_entry, is_named, is_unnamed}
use Rattle.udfs_walk.proofs.unnamed_entries.unnamed_at.Goals as goal

pub returns-then-is_at-clause-entry : goal.returns-then-is_at-clause-entry
returns-then-is_at-clause-entry g c told = λ nodes a. is_named (view_by g.B.BlockStore.states c.args.view) nodes c.args.keys.now c.args.address c.number-number.result true
    a c.number-number.ensures.block c.number-number.ensures.value (sym (c.is_at.ensures c.if-is_at.true)) refl

pub returns-then-is_among-clause-entry : goal.returns-then-is_among-clause-entry
returns-then-is_among-clause-entry g c told = λ nodes a. is_named (view_by g.B.BlockStore.states c.args.view) nodes c.args.keys.now c.args.address c.number-number.result c.is_among.result
    a c.number-number.ensures.block c.number-number.ensures.value c.is_among.ensures c.if-is_among.true

pub returns-in-Fault-clause-entry : goal.returns-in-Fault-clause-entry
returns-in-Fault-clause-entry g c told = λ nodes a. no_entry (view_by g.B.BlockStore.states c.args.view) nodes c.args.address (bad c.in-Fault.field-0) (rw c.in-Fault.is at (c.in_ok-target_at.ensures.value told) ∙ ap (target (view_by g.B.BlockStore.states c.args.view)) c.entry_address.ensures) refl

pub returns-in-Unread-clause-entry : goal.returns-in-Unread-clause-entry
returns-in-Unread-clause-entry g c told = λ nodes a. no_entry (view_by g.B.BlockStore.states c.args.view) nodes c.args.address (unread c.in-Unread.field-0) (rw c.in-Unread.is at (c.in_ok-target_at.ensures.value told) ∙ ap (target (view_by g.B.BlockStore.states c.args.view)) c.entry_address.ensures) refl

pub returns-in_ok-told-in-Entry-clause-entry : goal.returns-in_ok-told-in-Entry-clause-entry
returns-in_ok-told-in-Entry-clause-entry g c told = λ nodes a. let there = rw c.in-Entry.is at (c.in_ok-target_at.ensures.value told) ∙ ap (target (view_by g.B.BlockStore.states c.args.view)) c.entry_address.ensures in is_unnamed (view_by g.B.BlockStore.states c.args.view) nodes c.args.keys.now c.args.address c.number-number.result c.is_among.result
    (entry_of c.in-Entry.entry) _ a c.number-number.ensures.block c.number-number.ensures.value c.is_among.ensures c.if-is_among.false there
    (entry_again (view_by g.B.BlockStore.states c.args.view) c.args.address (entry_of c.in-Entry.entry) _ there (λ i. record {
      reference = c.args.address.reference;
      block = c.args.address.block;
      kind = (c.kind_by.ensures ∙ (λ j. kind_by (c.profile.ensures j) (c.kind.ensures j))) i;
      size = c.size.ensures i;
      stamp = c.stamp.ensures i;
      standing = (c.in_ok-told-in-Entry.ensures.standing told) i;
    }))

pub body_walked-requires : goal.body_walked-requires
body_walked-requires g c told = subst (λ (a : LongAd). IsStanding (view_by g.B.BlockStore.states c.args.view) a.reference a.block c.in-Entry.entry) c.entry_address.ensures
    (rw c.in-Entry.is at (c.in_ok-target_at.ensures.stands told))
