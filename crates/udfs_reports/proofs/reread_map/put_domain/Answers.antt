use Rattle.std.proofs.Common.{◌≡◌, ℕ, List, inr, length, refl, rules, subst}
use Rattle.udfs_reading.specs.Writing.{Wrote}
use Rattle.udfs_rescue.specs.Writing.{domain_text}
use Rattle.udfs_common.proofs.PutsLemmas.{says}
use Rattle.udfs_reports.specs.Rereading.{domain_line}
use Rattle.udfs_reports.proofs.reread_map.put_domain.Goals as goal

pub returns-in-Ok-put_file-clause-puts : goal.returns-in-Ok-put_file-clause-puts
returns-in-Ok-put_file-clause-puts g c =
    let O = g.O.Sink in
    let k : c.len-known.result ≡ length c.args.asked.now.known.items = search rules in
    let n : c.len-all.result ≡ length c.args.asked.now.blocks.items = search rules in
    let wanted = subst (λ (ws : List ℕ). Wrote (O.stream c.args.out.now) (O.stream c.print_counts.new.out) (domain_line c.args.group ws c.len-known.result c.len-all.result)) c.deref.ensures.value c.in-Ok.ensures.printed in
    let known = subst (λ (n : ℕ). Wrote (O.stream c.args.out.now) (O.stream c.print_counts.new.out) (domain_line c.args.group c.args.asked.now.wanted.items n c.len-all.result)) k wanted in
    let all = subst (λ (m : ℕ). Wrote (O.stream c.args.out.now) (O.stream c.print_counts.new.out) (domain_line c.args.group c.args.asked.now.wanted.items (length c.args.asked.now.known.items) m)) n known in
    says _ _ _ tt (λ said bytes is. (subst (λ (blocks : List ℕ). bytes ≡ domain_text blocks c.args.last) c.deref-2.ensures.value is, all)) c.in-Ok-put_file.ensures.puts

pub returns-in-Err-put_file-clause-puts : goal.returns-in-Err-put_file-clause-puts
returns-in-Err-put_file-clause-puts g c =
    let O = g.O.Sink in
    let k : c.len-known.result ≡ length c.args.asked.now.known.items = search rules in
    let n : c.len-all.result ≡ length c.args.asked.now.blocks.items = search rules in
    let wanted = subst (λ (ws : List ℕ). Wrote (O.stream c.args.out.now) (O.stream c.print_counts.new.out) (domain_line c.args.group ws c.len-known.result c.len-all.result)) c.deref.ensures.value c.in-Ok.ensures.printed in
    let known = subst (λ (n : ℕ). Wrote (O.stream c.args.out.now) (O.stream c.print_counts.new.out) (domain_line c.args.group c.args.asked.now.wanted.items n c.len-all.result)) k wanted in
    let all = subst (λ (m : ℕ). Wrote (O.stream c.args.out.now) (O.stream c.print_counts.new.out) (domain_line c.args.group c.args.asked.now.wanted.items (length c.args.asked.now.known.items) m)) n known in
    says _ _ _ tt (λ said bytes is. (subst (λ (blocks : List ℕ). bytes ≡ domain_text blocks c.args.last) c.deref-2.ensures.value is, all)) c.in-Err-put_file.ensures.puts

pub returns-in-Err-put_file-clause-why : goal.returns-in-Err-put_file-clause-why
returns-in-Err-put_file-clause-why g c =
    let O = g.O.Sink in
    let k : c.len-known.result ≡ length c.args.asked.now.known.items = search rules in
    let n : c.len-all.result ≡ length c.args.asked.now.blocks.items = search rules in
    let wanted = subst (λ (ws : List ℕ). Wrote (O.stream c.args.out.now) (O.stream c.print_counts.new.out) (domain_line c.args.group ws c.len-known.result c.len-all.result)) c.deref.ensures.value c.in-Ok.ensures.printed in
    let known = subst (λ (n : ℕ). Wrote (O.stream c.args.out.now) (O.stream c.print_counts.new.out) (domain_line c.args.group c.args.asked.now.wanted.items n c.len-all.result)) k wanted in
    let all = subst (λ (m : ℕ). Wrote (O.stream c.args.out.now) (O.stream c.print_counts.new.out) (domain_line c.args.group c.args.asked.now.wanted.items (length c.args.asked.now.known.items) m)) n known in
    inr (inr (all, c.in-Err-put_file.ensures.why))
