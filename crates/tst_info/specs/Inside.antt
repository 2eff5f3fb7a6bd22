-- What private functions tell each other: the readings of parts of the tables.
use Rattle.std.specs.Prelude.{◌≡◌, ℕ, Bool, List, Option, Result, Ok, Err, is_some}
use Rattle.std.specs.Option.{option_map}
use Rattle.civil_moment.specs.declared.moment.Moment.{Moment}
use Rattle.civil_moment.specs.Moment.{Text}
use Rattle.der_values.specs.Input.{Input}
use Rattle.der_values.specs.Reading.{Reading, read, Found}
use Rattle.der_values.specs.Algorithm.{Name, name_of, name_seen}
use Rattle.tst_info.specs.declared.fault.TstFault.{TstFault}
use Rattle.tst_info.specs.declared.fault.RespFault.{RespFault}
use Rattle.tst_info.specs.declared.imprint.MessageImprint.{MessageImprint}
use Rattle.tst_info.specs.declared.info.TstInfo.{TstInfo}
use Rattle.tst_info.specs.declared.info.Options.{Options}
use Rattle.tst_info.specs.Checks.{stamp_checks}
use Rattle.tst_info.specs.Imprint.{imprint_shape, ImprintParts}
use Rattle.tst_info.specs.Info.{Tst, options_shape, OptionsParts, tst_contents_shape, TstParts, tst_shape, tst_seen, with_text}
use Rattle.tst_info.specs.Request.{wishes_shape, WishesParts, request_contents_shape, RequestParts, request_shape}
use Rattle.tst_info.specs.Response.{response_checks, response_contents_shape, ResponseParts, response_shape}

-- ---- imprints: the hash that was taken, and its value

abbrev pub imprint_of : ImprintParts → Name × List ℕ
imprint_of p = (name_of p.0, p.1.0)

abbrev pub imprint_seen : MessageImprint → Name × List ℕ
imprint_seen x = (name_seen x.hash, x.bytes.now)

abbrev pub imprint_at : Input → Reading ImprintParts (Unit {0}) TstFault
imprint_at input = read stamp_checks imprint_shape tt input

-- ---- infos

abbrev pub options_at : Input → Reading OptionsParts (Unit {0}) TstFault
options_at input = read stamp_checks options_shape tt input

abbrev pub options_of : OptionsParts → Bool × Option (List ℕ)
options_of p = (is_some p.1.0, p.1.1.0)

abbrev pub options_seen : Options → Bool × Option (List ℕ)
options_seen o = (o.ordering, option_map (λ b. b.now) o.nonce)

abbrev pub tst_contents_at : Input → Reading TstParts (Unit {0}) TstFault
tst_contents_at input = read stamp_checks tst_contents_shape tt input

abbrev pub tst_at : Input → Reading (TstParts × Unit {0}) (Unit {0}) TstFault
tst_at input = read stamp_checks tst_shape tt input

-- The reading gives parts that are named so, and the text of the time says the moment.
pub record FoundTst {P : Type 0} (f : P → Tst (List ℕ)) (t : Tst Moment) (r : Reading P (Unit {0}) TstFault) : Type 0 where
  pub text : List ℕ
  pub said : Text text t.time
  pub found : Found (λ p σ. f p) (with_text text t) r

abbrev pub FindsTst : {P : Type 0} → (P → Tst (List ℕ)) → Result TstInfo TstFault → Reading P (Unit {0}) TstFault → Type 0
FindsTst f (Ok t) r = FoundTst f (tst_seen t) r
FindsTst f (Err e) r = r ≡ Err e

-- ---- requests

abbrev pub wishes_at : Input → Reading WishesParts (Unit {0}) TstFault
wishes_at input = read stamp_checks wishes_shape tt input

abbrev pub nonce_of : WishesParts → Option (List ℕ)
nonce_of p = p.1.0

abbrev pub request_contents_at : Input → Reading RequestParts (Unit {0}) TstFault
request_contents_at input = read stamp_checks request_contents_shape tt input

abbrev pub request_at : Input → Reading (RequestParts × Unit {0}) (Unit {0}) TstFault
request_at input = read stamp_checks request_shape tt input

-- ---- responses

abbrev pub response_contents_at : Input → Reading ResponseParts (Unit {0}) RespFault
response_contents_at input = read response_checks response_contents_shape tt input

abbrev pub response_at : Input → Reading (ResponseParts × Unit {0}) (Unit {0}) RespFault
response_at input = read response_checks response_shape tt input
