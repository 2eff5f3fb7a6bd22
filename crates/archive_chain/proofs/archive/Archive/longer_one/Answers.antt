use Rattle.std.proofs.Common.{arith, ◌≡◌, ◌+◌, [], ◌∷◌, ◌++◌, sym, ap, ◌∙◌}
use Rattle.archive_chain.specs.Held.{Held, Plain}
use Rattle.archive_chain.proofs.Finding.{plain_at}
use Rattle.archive_chain.proofs.Sharing.{peak_at}
use Rattle.archive_chain.proofs.archive.Archive.longer_one.Goals as goal

pub overflow_add-result : goal.overflow_add-result
overflow_add-result c =
    let peak = peak_at c.self.inside.stamps.items c.self.inside.rows.items c.self.inside.firsts.items c.self.inside.pending c.self.invariant.0 c.args.self.now c.row_at-at.result c.args.cohort c.index-row.result.now
    (ap (λ (h : Held). h.room.table) c.self.view_is) (ap (λ (h : Held). h.kept.sealed) c.self.view_is) c.row_at-at.ensures c.index-row.ensures in
    let few = peak.few in
    omega (arith, few)

pub returns : goal.returns
returns c =
    let at = c.row_at-at.ensures.at in
    let is = plain_at c.self.inside.rows.items c.args.self.now.room.table c.row_at-at.result c.args.cohort c.index-row.result.now at (ap (λ (h : Held). h.room.table) c.self.view_is) c.index-row.ensures in
    let so_far : c.extend_from_slice.new.self.items ≡ at.row.later =
    c.in_ok-extend_from_slice.ensures.items ∙ (λ i. c.in_ok-later.ensures.items i ++ c.as_slice.ensures.value i) ∙ ap (λ (p : Plain). p.later) (sym is) in record {
      at = at;
      later = c.in_ok-push.ensures.items ∙ (λ i. so_far i ++ record { stamp = c.len-2.ensures i; place = c.args.place } ∷ []);
      most = ap (λ (p : Plain). p.most + 1) (sym is);
    }
