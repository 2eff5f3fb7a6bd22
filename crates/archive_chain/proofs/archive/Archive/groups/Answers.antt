use Rattle.std.proofs.Common.{arith, ◌≡◌, ◌+◌, length, sym, ap, ◌∙◌}
use Rattle.archive_chain.specs.Kept.{groups_of}
use Rattle.archive_chain.specs.Held.{Held}
use Rattle.archive_chain.specs.InsideTable.{rows_seen}
use Rattle.archive_chain.proofs.Walking.{sealed_length}
use Rattle.archive_chain.proofs.archive.Archive.groups.Goals as goal

pub returns : goal.returns
returns c =
    let many = sealed_length (rows_seen c.self.inside.stamps.items c.self.inside.rows.items) 0 c.self.inside.firsts.items in
    let long : c.len.result ≡ length c.self.inside.firsts.items = c.len.ensures ∙ c.self.inside.firsts.ok.0 in
    let few = c.self.invariant.0.few in record {
      number = (ap (λ n. n + c.self.inside.pending) (long ∙ sym many)) ∙ ap (λ (h : Held). groups_of h.kept) c.self.view_is;
      few = omega (arith, long, few);
    }
