use Rattle.std.proofs.Common.{◌≡◌, ◌+◌, ◌-◌, ◌/◌, take, sym, ◌∙◌, arith}
use Rattle.lms_verify.specs.Lms.{climbed, parent_of, root_candidate}
use Rattle.lms_verify.proofs.Loops.{climb_more, climb_done}
use Rattle.lms_verify.proofs.lms.root_candidate.Goals as goal

pub loop-level-preserved : goal.loop-level-preserved
loop-level-preserved c =
    let identifier = c.args.identifier.now in
    let r = c.loop-level.r in
    let node = c.loop-level.node in
    let rest = c.loop-level.rest.now in
    let above : c.parent_of-node.result ≡ parent_of identifier r node (take 32 rest) =
    c.parent_of-node.ensures.value ∙ (λ i. parent_of identifier r (c.bytes.ensures.bytes i) (c.split_at.ensures.front i)) in (
      (λ i. climbed (c.args.height - (c.loop-level.level + 1)) identifier (r / 2) (c.split_at.ensures.back i) (above i))
          ∙ sym (climb_more c.args.height c.loop-level.level identifier r rest node c.loop-level-test.true)
          ∙ c.loop-level.invariant.0,
      omega (arith, c.split_at.ensures.back_len, c.loop-level.invariant.1),
    )

pub returns : goal.returns
unfolding root_candidate
returns c =
    sym (climb_done c.args.height c.loop-level.level c.args.identifier.now c.loop-level.r c.loop-level.rest.now c.loop-level.node c.loop-level-test.false)
    ∙ c.loop-level.invariant.0
