use Rattle.std.proofs.Common.{rules, ◌≡◌, length, sym, ap, ◌∙◌}
use Rattle.archive_chain.specs.Held.{Held}
use Rattle.archive_chain.specs.InsideTable.{rows_seen}
use Rattle.archive_chain.proofs.Walking.{sealed_length}
use Rattle.archive_chain.proofs.archive.Archive.covered.Goals as goal

pub returns : goal.returns
returns c =
    let many : length c.args.self.now.kept.sealed ≡ length c.self.inside.firsts.items =
    ap (λ (h : Held). length h.kept.sealed) (sym c.self.view_is) ∙ sealed_length (rows_seen c.self.inside.stamps.items c.self.inside.rows.items) 0 c.self.inside.firsts.items in
    search rules
