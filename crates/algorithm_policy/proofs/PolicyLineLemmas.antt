-- What the words of a line say.
use Rattle.std.proofs.Common.{◌≡◌, ℕ, Bool, true, false, ◌&&◌, List, ◌∷◌, [], Option, None, Some, cond, not, refl, sym, ap, ◌∙◌}
use Rattle.std.specs.Prelude.{codes}
use Rattle.std.specs.List.{find}
use Rattle.std.specs.Option.{option_map}
use Rattle.std.specs.Str.{bytes_eq}
use Rattle.std.proofs.lemmas.Bool.{and_parts}
use Rattle.std.proofs.lemmas.Slice.Eq.{bytes_eq-Decides}
use Rattle.std.proofs.lemmas.List.Splits.{join_with_byte-slice_split}
use Rattle.civil_moment.specs.declared.moment.Moment.{Moment}
use Rattle.hash_kit.specs.Algorithm.{algorithms, algorithm_named, word_of}
use Rattle.hash_kit.specs.declared.algorithm.HashAlg.{HashAlg}
use Rattle.hash_kit.specs.declared.algorithm.HashAlg.TheVariants.{Sha256, Sha384, Sha512}
use Rattle.civil_moment.specs.Moment.{Text}
use Rattle.hex.specs.Hex.{encode_lower}
use Rattle.algorithm_policy.specs.declared.signer.Signer.{Signer}
use Rattle.algorithm_policy.specs.declared.fault.PolicyKind.TheVariants.{Name, Hex, Sid, Key, Cert, Date}
use Rattle.algorithm_policy.specs.Words.{is_name, is_hex, is_sid, is_key, is_cert, is_time, bytes_of}
use Rattle.algorithm_policy.specs.Text.{joined}
use Rattle.algorithm_policy.specs.Fault.{word_fault, Line, hash, authority, signer, form_of, words}
use Rattle.algorithm_policy.specs.Inside.{SaysSigner, SaysLine}
use Rattle.algorithm_policy.specs.declared.policy_line.PolicyLine.TheVariants.{Hash, Authority}
use Rattle.algorithm_policy.proofs.WordLemmas.{decoded}

-- each word is of its shape
pub record Sound (a b c d e : List ℕ) : Type 0 where
  pub name : is_name a ≡ true
  pub hex : (is_hex b && is_hex c && is_hex d) ≡ true
  pub sid : is_sid (bytes_of b) ≡ true
  pub key : is_key (bytes_of c) ≡ true
  pub cert : is_cert (bytes_of d) ≡ true
  pub end : is_time e ≡ true

pub none_wrong : (name sid key cert end : List ℕ) → Sound name sid key cert end → word_fault (authority name sid key cert end) ≡ None
none_wrong name sid key cert end s = passes (is_name name) _ (is_sid (bytes_of sid)) (is_key (bytes_of key)) (is_cert (bytes_of cert)) (is_time end) s.name s.hex s.sid s.key s.cert s.end
  where
    passes : (a b c d e f : Bool) → a ≡ true → b ≡ true → c ≡ true → d ≡ true → e ≡ true → f ≡ true
        → cond (not a) (Some Name) (cond (not b) (Some Hex) (cond (not c) (Some Sid) (cond (not d) (Some Key) (cond (not e) (Some Cert) (cond (not f) (Some Date) None))))) ≡ None
    passes a b c d e f ha hb hc hd he hf = rw (ha, hb, hc, hd, he, hf) refl

-- the authority that sound words say
pub says_signer : (a b c d e : List ℕ) (s : Signer) → Sound a b c d e → s.name ≡ a → s.sid ≡ bytes_of b → s.key ≡ bytes_of c → s.cert ≡ bytes_of d → Text e s.end → SaysSigner a b c d e s
says_signer a b c d e s h name sid key cert end =
    let front = and_parts _ (is_hex d) h.hex in
    let both = and_parts (is_hex b) (is_hex c) front.0 in
    let x = decoded b both.0 in
    let y = decoded c both.1 in
    let z = decoded d front.1 in
    record {
      valid = record {
        name = ap is_name name ∙ h.name;
        sid = ap is_sid sid ∙ h.sid;
        key = ap is_key key ∙ h.key;
        cert = ap is_cert cert ∙ h.cert;
        sid_bytes = rw sid x.bytes;
        key_bytes = rw key y.bytes;
        cert_bytes = rw cert z.bytes;
      };
      name = sym name;
      sid = sym (ap encode_lower sid ∙ x.again);
      key = sym (ap encode_lower key ∙ y.again);
      cert = sym (ap encode_lower cert ∙ z.again);
      end = end;
      subject = sym (λ i. signer (name i) (sid i));
      sound = none_wrong a b c d e h;
    }

-- ---- forms

found_word : (p : HashAlg → Bool) (alg : HashAlg) → find p algorithms ≡ Some alg → p alg ≡ true
found_word p alg h = in_turn (p Sha256) (p Sha384) (p Sha512) refl refl refl h
  where
    some_is : (a b : HashAlg) → Some a ≡ Some b → a ≡ b
    some_is a b e = cc

    in_turn : (x y z : Bool) → p Sha256 ≡ x → p Sha384 ≡ y → p Sha512 ≡ z → cond x (Some Sha256) (cond y (Some Sha384) (cond z (Some Sha512) None)) ≡ Some alg → p alg ≡ true
    in_turn true y z a b c h = ap p (sym (some_is Sha256 alg h)) ∙ a
    in_turn false true z a b c h = ap p (sym (some_is Sha384 alg h)) ∙ b
    in_turn false false true a b c h = ap p (sym (some_is Sha512 alg h)) ∙ c
    in_turn false false false a b c h = cc h

mapped : {A : Type 0} (f : HashAlg → A) (o : Option HashAlg) (y : A) → option_map f o ≡ Some y → (alg : HashAlg) × (o ≡ Some alg) × (f alg ≡ y)
mapped f None y h = cc h
mapped f (Some alg) y h = (alg, refl, cc)

chosen : {A : Type 0} (b : Bool) (o : Option A) (y : A) → cond b o None ≡ Some y → (b ≡ true) × (o ≡ Some y)
chosen true o y h = (refl, h)
chosen false o y h = cc h

-- equal by the test
pub equal : (a b : List ℕ) → bytes_eq a b ≡ true → a ≡ b
equal a b h = (bytes_eq-Decides a b).0 h

-- the words of a line of this form
pub record HashWords (ws : List (List ℕ)) (alg : HashAlg) (end : List ℕ) : Type 0 where
  pub are : ws ≡ codes "hash" ∷ word_of alg ∷ end ∷ []

pub record AuthorityForm (ws : List (List ℕ)) (name sid key cert end : List ℕ) : Type 0 where
  pub are : ws ≡ codes "authority" ∷ name ∷ sid ∷ key ∷ cert ∷ end ∷ []

-- what the words are, by the form
abbrev pub Words : List (List ℕ) → Line → Type 0
Words ws (hash alg end) = HashWords ws alg end
Words ws (authority name sid key cert end) = AuthorityForm ws name sid key cert end

pub words_are : (ws : List (List ℕ)) (line : Line) → form_of ws ≡ Some line → Words ws line
words_are [] line h = cc h
words_are (a ∷ []) line h = cc h
words_are (a ∷ b ∷ []) line h = cc h
words_are (keyword ∷ name ∷ end ∷ []) line h =
    let c = chosen (bytes_eq keyword (codes "hash")) _ line h in
    let m = mapped (λ alg. hash alg end) (algorithm_named name) line c.1 in
    rw (← m.2) record { are = λ i. equal keyword (codes "hash") c.0 i ∷ equal name (word_of m.0) (found_word (λ alg. bytes_eq name (word_of alg)) m.0 m.1) i ∷ end ∷ [] }
words_are (a ∷ b ∷ c ∷ d ∷ []) line h = cc h
words_are (a ∷ b ∷ c ∷ d ∷ e ∷ []) line h = cc h
words_are (keyword ∷ name ∷ sid ∷ key ∷ cert ∷ end ∷ []) line h =
    let c = chosen (bytes_eq keyword (codes "authority")) (Some (authority name sid key cert end)) line h in
    let is : authority name sid key cert end ≡ line = cc in
    rw (← is) record { are = λ i. equal keyword (codes "authority") c.0 i ∷ name ∷ sid ∷ key ∷ cert ∷ end ∷ [] }
words_are (a ∷ b ∷ c ∷ d ∷ e ∷ f ∷ g ∷ more) line h = cc h

-- a line is its words
joined_words : (line : List ℕ) (ws : List (List ℕ)) → words line ≡ ws → line ≡ joined ws
joined_words line ws h = sym (join_with_byte-slice_split 32 line) ∙ ap joined h

pub says_hash : (line : List ℕ) (alg : HashAlg) (time : List ℕ) (end : Moment) → form_of (words line) ≡ Some (hash alg time) → Text time end → is_time time ≡ true → SaysLine line (Hash alg end)
says_hash line alg time end form text sound =
    record {
      valid = tt;
      text = record { time = time; end = text; spelled = joined_words line _ (words_are (words line) (hash alg time) form).are };
      form = hash alg time;
      is = form;
      subject = refl;
      sound = ap (λ b. cond b None (Some Date)) sound;
    }

pub says_authority : (line : List ℕ) (a b c d e : List ℕ) (s : Signer) → form_of (words line) ≡ Some (authority a b c d e) → SaysSigner a b c d e s → SaysLine line (Authority s)
says_authority line a b c d e s form says =
    record {
      valid = says.valid;
      text = record {
        time = e;
        end = says.end;
        spelled =
            joined_words line _ (words_are (words line) (authority a b c d e) form).are
            ∙ (λ i. joined (codes "authority" ∷ says.name i ∷ says.sid i ∷ says.key i ∷ says.cert i ∷ e ∷ []));
      };
      form = authority a b c d e;
      is = form;
      subject = says.subject;
      sound = says.sound;
    }
