-- Writing line by line.
use Rattle.std.proofs.Common.{◌≡◌, ℕ, List, [], ◌∷◌, ◌++◌, map, refl, sym, ap, ◌∙◌, append_assoc, append-nil}
use Rattle.std.specs.Prelude.{codes}
use Rattle.civil_moment.specs.declared.moment.Moment.{Moment}
use Rattle.hash_kit.specs.Algorithm.{word_of}
use Rattle.hash_kit.specs.declared.algorithm.HashAlg.{HashAlg}
use Rattle.hash_kit.specs.declared.algorithm.HashAlg.TheVariants.{Sha256, Sha384, Sha512}
use Rattle.hex.specs.Hex.{encode_lower}
use Rattle.algorithm_policy.specs.declared.signer.Signer.{Signer}
use Rattle.algorithm_policy.specs.declared.policy_line.PolicyLine.{PolicyLine}
use Rattle.algorithm_policy.specs.declared.policy_line.PolicyLine.TheVariants.{Hash, Authority}
use Rattle.algorithm_policy.specs.Content.{Content, IsPolicy}
use Rattle.algorithm_policy.specs.Text.{ended, header, hash_line, authority_line, named, PolicyText}
use Rattle.algorithm_policy.specs.Inside.{Writes, EndsLine}
use Rattle.algorithm_policy.proofs.PlaceLemmas.{map_joined}
use Rattle.algorithm_policy.proofs.ReadLemmas.{ended_joined, lines_joined}

pub nothing_written : (text : List ℕ) → Writes text text []
nothing_written text = record { lines = []; say = tt; is = sym (append-nil text) }

pub then : (a b c : List ℕ) (es fs : List PolicyLine) → Writes a b es → Writes b c fs → Writes a c (es ++ fs)
then a b c es fs h k = record {
  lines = h.lines ++ k.lines;
  say = lines_joined h.lines k.lines es fs h.say k.say;
  is = k.is ∙ ap (λ l. l ++ ended k.lines) h.is ∙ append_assoc a (ended h.lines) (ended k.lines) ∙ ap (λ l. a ++ l) (sym (ended_joined h.lines k.lines));
}

pub hash_written : (a b c d : List ℕ) (alg : HashAlg) (end : Moment) → b ≡ a ++ codes "hash" → c ≡ b ++ 32 ∷ word_of alg → EndsLine c d end → Writes a d (Hash alg end ∷ [])
hash_written a b c d alg end p q e = record {
  lines = hash_line alg e.time ∷ [];
  say = (record { time = e.time; end = e.text; spelled = refl }, tt);
  is = e.is ∙ rw (q, p) (regroup a (codes "hash") (word_of alg) e.time);
}
  where
    regroup : (t h w time : List ℕ) → (((t ++ h) ++ 32 ∷ w) ++ 32 ∷ time) ++ 10 ∷ [] ≡ t ++ ((h ++ 32 ∷ (w ++ 32 ∷ time)) ++ 10 ∷ [])
    regroup t h w time = simp append_assoc

pub authority_written : (a b c d e f g : List ℕ) (s : Signer) → b ≡ a ++ codes "authority" → c ≡ b ++ 32 ∷ s.name → d ≡ c ++ 32 ∷ encode_lower s.sid → e ≡ d ++ 32 ∷ encode_lower s.key → f ≡ e ++ 32 ∷ encode_lower s.cert
    → EndsLine f g s.end → Writes a g (Authority s ∷ [])
authority_written a b c d e f g s p q r t u end = record {
  lines = authority_line s end.time ∷ [];
  say = (record { time = end.time; end = end.text; spelled = refl }, tt);
  is = end.is ∙ rw (u, t, r, q, p) (regroup a (codes "authority") (32 ∷ s.name) (32 ∷ encode_lower s.sid) (32 ∷ encode_lower s.key) (32 ∷ encode_lower s.cert) (32 ∷ end.time) (10 ∷ []));
}
  where
    regroup : (t h v w x y z n : List ℕ) → ((((((t ++ h) ++ v) ++ w) ++ x) ++ y) ++ z) ++ n ≡ t ++ ((h ++ (v ++ (w ++ (x ++ (y ++ z))))) ++ n)
    regroup t h v w x y z n = simp append_assoc

pub one_more : (text now next : List ℕ) (done more : List Signer) (s : Signer) → more ≡ done ++ s ∷ [] → Writes text now (map Authority done) → Writes now next (Authority s ∷ []) → Writes text next (map Authority more)
one_more text now next done more s is h k = rw (is, map_joined) (then text now next (map Authority done) (Authority s ∷ []) h k)

pub policy_written : (c : Content) (a b d e f g : List ℕ) → IsPolicy c → a ≡ header → b ≡ a ++ 10 ∷ [] → Writes b d (named Sha256 c.sha256) → Writes d e (named Sha384 c.sha384) → Writes e f (named Sha512 c.sha512) → Writes f g (map Authority c.signers)
    → PolicyText g c
policy_written c a b d e f g valid first feed x y z s =
    let all =
    then b f g _ (map Authority c.signers)
    (then b e f _ (named Sha512 c.sha512) (then b d e (named Sha256 c.sha256) (named Sha384 c.sha384) x y) z) s in
    record {
      valid = valid;
      lines = all.lines;
      say = all.say;
      spelled = all.is ∙ ap (λ l. l ++ ended all.lines) (feed ∙ ap (λ l. l ++ 10 ∷ []) first);
    }
