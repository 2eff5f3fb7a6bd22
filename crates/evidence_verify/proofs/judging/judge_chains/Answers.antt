use Rattle.std.proofs.Common.{map, ap, ◌∙◌}
use Rattle.evidence_syntax.specs.Stamps.{chains_seen}
use Rattle.evidence_verify.specs.Inside.{place_seen, places_seen}
use Rattle.evidence_verify.proofs.Older.{all_go_on}
use Rattle.evidence_verify.proofs.judging.judge_chains.Goals as goal

pub judge_stamps-requires-clause-go_on : goal.judge_stamps-requires-clause-go_on
judge_stamps-requires-clause-go_on c =
    let in_place = c.in-Ok.ensures.sound.in_place ∙ ap (map place_seen) c.as_slice.ensures.value ∙ c.in_ok-places.ensures in
    rw c.as_slice-in-Ok.ensures.value (all_go_on (places_seen c.in-Ok.stamps.items) (chains_seen c.args.chains.now) in_place)
