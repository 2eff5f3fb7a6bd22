use Rattle.std.proofs.Common.{◌≡◌, ◌+◌, ◌<◌, ◌≤◌, ◌++◌, ◌∷◌, [], ◌-◌, take, drop, ℕ, List, Result, Ok, Err, refl, ◌∙◌, append_assoc, arith}
use Rattle.std.specs.Prelude.{OnOk, is_ok, if◌then◌else◌}
use Rattle.std.specs.Int.{w32, to_be_bytes}
use Rattle.der_values.specs.Value.{extra, length_octets}
use Rattle.der_values.proofs.Octets.{be_octets}
use Rattle.der_values.proofs.Values.{long_is_octets}
use Rattle.der_values.proofs.writing.push_length.Goals as goal

long_pushed : {E : Type 0} (r : Result (Unit {0}) E) (out first octets new : List ℕ) (n k : ℕ) → 128 ≤ n → k ≡ extra n → k ≤ 4
    → octets ≡ to_be_bytes w32 n → first ≡ out ++ (128 + k) ∷ [] → new ≡ (if is_ok r then first ++ take (4 - (4 - k)) (drop (4 - k) octets) else first)
    → OnOk r (new ≡ out ++ length_octets n)
long_pushed (Ok x) out first octets new n k le e few b f d = d ∙ rw (b, be_octets k n few, f, e, long_is_octets n le, append_assoc) refl
long_pushed (Err x) out first octets new n k le e few b f d = tt

pub returns-clause-ok : goal.returns-clause-ok
returns-clause-ok c =
    let short = c.extra_of-extra.ensures.short in
    let long : 128 ≤ c.args.len = omega (arith, λ (lt : c.args.len < 128). c.if-extra-eq0.false (short.1 lt)) in
    long_pushed c.extend_from_slice.result c.args.out.now.items c.push-2.new.self.items c.to_be_bytes.result c.extend_from_slice.new.self.items c.args.len c.extra_of-extra.result long c.extra_of-extra.ensures.extra c.extra_of-extra.ensures.few c.to_be_bytes.ensures c.in_ok-push-2.ensures.items c.extend_from_slice.ensures.items
