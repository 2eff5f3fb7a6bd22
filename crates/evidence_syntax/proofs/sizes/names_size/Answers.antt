use Rattle.std.proofs.lemmas.List.{get_or_default}
use Rattle.der_values.specs.Algorithm.{name_seen, name_contents}
use Rattle.evidence_syntax.proofs.SizeLemmas.{more_seen, one_seen_too_long, all_seen_too_long}
use Rattle.evidence_syntax.proofs.sizes.names_size.Goals as goal

pub returns-in_err-name_size : goal.returns-in_err-name_size
returns-in_err-name_size c =
    one_seen_too_long name_seen 48 name_contents c.args.names.now c.loop-name.name-index _ _ c.loop-name-test.true (get_or_default _ _ _ _ c.loop-name-test.true) c.in_err-name_size.ensures c.from_residual.ensures

pub returns-in_err-size : goal.returns-in_err-size
returns-in_err-size c =
    all_seen_too_long name_seen 48 name_contents c.args.names.now c.loop-name.name-index _ c.loop-name.size c.in_ok-name_size.field-0 _ c.loop-name-test.true (get_or_default _ _ _ _ c.loop-name-test.true)
    c.loop-name.invariant.1 c.in_ok-name_size.ensures.1 c.in_err-size.ensures c.from_residual-in_err-size.ensures

pub loop-name-preserved : goal.loop-name-preserved
loop-name-preserved c =
    more_seen name_seen 48 name_contents c.args.names.now c.loop-name.name-index _ c.loop-name.size c.in_ok-name_size.field-0 _ c.loop-name-test.true (get_or_default _ _ _ _ c.loop-name-test.true)
    c.loop-name.invariant.1 c.in_ok-name_size.ensures.1 c.in_ok-size.ensures
