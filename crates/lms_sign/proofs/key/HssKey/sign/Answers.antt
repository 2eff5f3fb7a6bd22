use Rattle.std.proofs.Common.{◌≡◌, ℕ, List, ◌-◌, ◌<◌, ◌++◌, sym, ap, subst, ◌∙◌, arith}
use Rattle.std.specs.Int.{w32, to_be_bytes}
use Rattle.lms_verify.specs.Hss.{Verifies}
use Rattle.lms_sign.specs.declared.secret.HssSecret.{HssSecret}
use Rattle.lms_sign.specs.Hss.{signatures_of, hss_public, hss_signature}
use Rattle.lms_sign.specs.Inside.{IsKey, signed_below}
use Rattle.lms_sign.proofs.Levels.{signature_is, signs}
use Rattle.lms_sign.proofs.key.HssKey.sign.Goals as goal

signature_of : (c : goal.In_ok-sign_below) → c.sign_below.new.out.items ≡ hss_signature c.args.self.now c.args.index c.args.message.now
signature_of c =
    let key = c.args.self.now in
    let own : c.self.inside.secret ≡ key = cc in
    let rest : ℕ → List ℕ = λ n. signed_below n key c.args.index 0 c.args.message.now in
    let none : key.levels - 1 - 0 ≡ key.levels - 1 = omega arith in
    let head : c.extend_from_slice.new.self.items ≡ to_be_bytes w32 (key.levels - 1) =
    c.in_ok-extend_from_slice.ensures.items ∙ (λ k. c.new-out.ensures.items k ++ c.to_be_bytes.ensures k)
    ∙ ap (λ (k : HssSecret). to_be_bytes w32 (k.levels - 1)) own in
    c.in_ok-sign_below.ensures ∙ (λ k. head k ++ rest (none k)) ∙ sym (signature_is key c.args.index c.args.message.now)

pub returns-clause-signature : goal.returns-clause-signature
returns-clause-signature c = signature_of c

pub returns-clause-verifies : goal.returns-clause-verifies
returns-clause-verifies c =
    let key = c.args.self.now in
    let own : c.self.inside.secret ≡ key = cc in
    let known : IsKey key = subst IsKey own c.self.invariant.0 in
    let low : c.args.index < signatures_of key = subst (λ n. c.args.index < n) c.leaves.ensures c.if-index-leaves.false in
    subst (Verifies (hss_public key) c.args.message.now) (sym (signature_of c)) (signs key c.args.index c.args.message.now known low)
