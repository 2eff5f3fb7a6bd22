use Rattle.std.proofs.Common.{◌≡◌, ◌+◌, ◌-◌, ◌∷◌, ◌++◌, take, drop, sym, ap, ◌∙◌, arith, length-drop}
use Rattle.std.proofs.lemmas.List.{take_all}
use Rattle.std.specs.Int.{w16, w32, to_be_bytes}
use Rattle.hash_kit.specs.Digest.{digest_of}
use Rattle.hash_kit.specs.declared.algorithm.HashAlg.TheVariants.{Sha256}
use Rattle.lms_verify.specs.Ots.{hash_of, after_steps}
use Rattle.lms_verify.proofs.Loops.{step_more, steps_done}
use Rattle.lms_verify.proofs.ots.after_steps.Goals as goal

pub loop-step-preserved : goal.loop-step-preserved
unfolding hash_of
loop-step-preserved c =
    let identifier = c.args.identifier.now in
    let leaf = to_be_bytes w32 c.args.leaf in
    let i = to_be_bytes w16 c.args.i in
    let step = c.loop-step.step in
    let value = drop 23 c.loop-step.message in
    let asked : take 22 c.loop-step.message ++ step ∷ value ≡ identifier ++ leaf ++ i ++ step ∷ value =
    ap (λ l. l ++ step ∷ value) c.loop-step.invariant.1 in
    let next : drop 23 c.chain_step.new.message ≡ hash_of identifier c.args.leaf c.args.i (step ∷ value) =
    c.chain_step.ensures.value ∙ ap (digest_of Sha256) asked in (
      ap (after_steps (c.args.end - (step + 1)) identifier c.args.leaf c.args.i (step + 1)) next
          ∙ sym (step_more c.args.end step identifier c.args.leaf c.args.i value c.loop-step-test.true)
          ∙ c.loop-step.invariant.0,
      c.chain_step.ensures.head ∙ c.loop-step.invariant.1,
    )

pub returns-clause-value : goal.returns-clause-value
returns-clause-value c =
    c.of.ensures ∙ take_all 32 (drop 23 c.loop-step.message) (omega (arith, length-drop 23 c.loop-step.message))
    ∙ sym (steps_done c.args.end c.loop-step.step c.args.identifier.now c.args.leaf c.args.i (drop 23 c.loop-step.message) c.loop-step-test.false)
    ∙ c.loop-step.invariant.0
