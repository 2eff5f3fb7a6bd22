use Rattle.std.proofs.Common.{◌≡◌, ◌+◌, ◌-◌, ◌&&◌, ap, sym, ◌∙◌}
use Rattle.lms_verify.specs.Hss.{levels_verify, next_key, behind_next}
use Rattle.lms_verify.proofs.Loops.{level_more, levels_done}
use Rattle.lms_verify.proofs.hss.levels_verify.Goals as goal

pub returns-in_default : goal.returns-in_default
returns-in_default c =
    let key = c.loop-level.key.now in
    let left = c.loop-level.left.now in
    let message = c.args.message.now in
    let later = levels_verify (c.args.count - (c.loop-level.level + 1)) (next_key key left) message (behind_next key left) in
    sym (level_more c.args.count c.loop-level.level key message left c.loop-level-test.true ∙ ap (λ b. b && later) c.in_default.ensures.signed)
    ∙ c.loop-level.invariant

pub loop-level-preserved : goal.loop-level-preserved
loop-level-preserved c =
    let key = c.loop-level.key.now in
    let left = c.loop-level.left.now in
    let message = c.args.message.now in
    let count = c.args.count - (c.loop-level.level + 1) in
    let later = levels_verify count (next_key key left) message (behind_next key left) in
    let next : c.in-Some.next.now ≡ next_key key left = c.in-Some.ensures.key in
    let behind : c.in-Some.behind.now ≡ behind_next key left = c.in-Some.ensures.behind in
    (λ i. levels_verify count (next i) message (behind i))
    ∙ sym (level_more c.args.count c.loop-level.level key message left c.loop-level-test.true ∙ ap (λ b. b && later) c.in-Some.ensures.signed)
    ∙ c.loop-level.invariant

pub returns : goal.returns
returns c =
    c.is_signed.ensures
    ∙ sym (levels_done c.args.count c.loop-level.level c.loop-level.key.now c.args.message.now c.loop-level.left.now c.loop-level-test.false)
    ∙ c.loop-level.invariant
