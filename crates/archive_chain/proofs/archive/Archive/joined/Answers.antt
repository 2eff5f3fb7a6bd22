use Rattle.std.proofs.Common.{◌≡◌, true, ap, sym, subst, ◌∙◌}
use Rattle.archive_chain.specs.Kept.{has_name}
use Rattle.archive_chain.specs.declared.peak.Peak.{Peak}
use Rattle.archive_chain.specs.InsidePeak.{IsPeak}
use Rattle.archive_chain.specs.InsideTable.{ids_seen}
use Rattle.archive_chain.proofs.Chosen.{ascending_rises}
use Rattle.archive_chain.proofs.Making.{chosen_any}
use Rattle.archive_chain.proofs.archive.Archive.joined.Goals as goal

pub members_in-requires-clause-rising : goal.members_in-requires-clause-rising
members_in-requires-clause-rising c = ascending_rises c.args.cohorts.now c.requires.spelled.ascending

pub register_without-requires-clause-rising : goal.register_without-requires-clause-rising
register_without-requires-clause-rising c = ascending_rises c.args.cohorts.now c.requires.spelled.ascending

pub register_without-requires-clause-some : goal.register_without-requires-clause-some
register_without-requires-clause-some c = chosen_any c.args.self.now.kept c.args.cohorts.now c.requires.spelled c.requires.live

pub returns : goal.returns
returns c =
    let row = c.next_row-row.ensures in
    let raised = c.one_more-peak.ensures in record {
      entry = row.entry;
      alone = row.alone;
      open_ = row.open_;
      members = ap ids_seen row.members_are ∙ c.from_vec.ensures ∙ c.in_ok-ids.ensures;
      places_are = c.in_ok-places.ensures;
      most = c.peak_in.result.most;
      most_is = row.most_is ∙ ap (λ (p : Peak). p.most) raised;
      peak = subst (IsPeak (λ n. has_name c.args.cohorts.now n ≡ true) c.args.self.now.kept.sealed c.peak_in.result.most) (sym (row.least_is ∙ ap (λ (p : Peak). p.least) raised)) c.peak_in.ensures.peak;
      register_is = c.in_ok-register.ensures;
    }
