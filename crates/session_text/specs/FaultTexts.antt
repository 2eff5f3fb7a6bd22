-- How faults are printed: a variant as its name in lower-case letters, then its values in order, each behind one space, and a
-- struct as its fields in order.
use Rattle.std.specs.Prelude.{ℕ, List, [], ◌∷◌, ◌++◌, codes, decimal}
use Rattle.civil_moment.specs.declared.fault.TimeFault.{TimeFault}
use Rattle.civil_moment.specs.declared.fault.TimeFault.TheVariants as times
use Rattle.der_values.specs.declared.fault.DerFault.{DerFault}
use Rattle.der_values.specs.declared.fault.DerKind.{DerKind}
use Rattle.der_values.specs.declared.fault.DerKind.TheVariants as ders
use Rattle.tst_info.specs.declared.fault.TstFault.{TstFault}
use Rattle.tst_info.specs.declared.fault.TstKind.{TstKind}
use Rattle.tst_info.specs.declared.fault.TstKind.TheVariants as tsts
use Rattle.cms_signed.specs.declared.fault.AttrKind.{AttrKind}
use Rattle.cms_signed.specs.declared.fault.AttrKind.TheVariants as attributes
use Rattle.cms_signed.specs.declared.fault.CmsFault.{CmsFault}
use Rattle.cms_signed.specs.declared.fault.CmsFault.TheVariants as signed
use Rattle.token_check.specs.declared.fault.Check.{Check}
use Rattle.token_check.specs.declared.fault.Check.TheVariants as checks
use Rattle.evidence_syntax.specs.declared.fault.SyntaxKind.{SyntaxKind}
use Rattle.evidence_syntax.specs.declared.fault.SyntaxKind.TheVariants as syntax_kinds
use Rattle.algorithm_policy.specs.declared.fault.PolicyKind.{PolicyKind}
use Rattle.algorithm_policy.specs.declared.fault.PolicyKind.TheVariants as policies
use Rattle.session_text.specs.declared.shape.ShapeKind.{ShapeKind}
use Rattle.session_text.specs.declared.shape.ShapeKind.TheVariants as shapes

-- the name of a DerKind
abbrev pub der_kind_name : DerKind → List ℕ
der_kind_name ders.Truncated = codes "truncated"
der_kind_name ders.Indefinite = codes "indefinite"
der_kind_name ders.LongForm = codes "longform"
der_kind_name ders.HighTag = codes "hightag"
der_kind_name ders.NotMinimal = codes "notminimal"
der_kind_name ders.Trailing = codes "trailing"
der_kind_name ders.WrongTag = codes "wrongtag"
der_kind_name ders.BadValue = codes "badvalue"

-- the name of a TimeFault
abbrev pub time_fault_name : TimeFault → List ℕ
time_fault_name times.Shape = codes "shape"
time_fault_name times.Fraction = codes "fraction"
time_fault_name times.Range = codes "range"
time_fault_name times.Memory = codes "memory"

-- the name of an AttrKind
abbrev pub attr_kind_name : AttrKind → List ℕ
attr_kind_name attributes.ContentType = codes "contenttype"
attr_kind_name attributes.MessageDigest = codes "messagedigest"
attr_kind_name attributes.SigningCertificate = codes "signingcertificate"

-- a DerFault: its place and its kind
abbrev pub der_fault_text : DerFault → List ℕ
der_fault_text fault = decimal fault.place ++ 32 ∷ der_kind_name fault.kind

-- a TstKind, with its value
abbrev pub tst_kind_text : TstKind → List ℕ
tst_kind_text (tsts.Der kind) = codes "der " ++ der_kind_name kind
tst_kind_text tsts.Version = codes "version"
tst_kind_text (tsts.Time fault) = codes "time " ++ time_fault_name fault

-- a TstFault: its place and its kind
abbrev pub tst_fault_text : TstFault → List ℕ
tst_fault_text fault = decimal fault.place ++ 32 ∷ tst_kind_text fault.kind

-- a CmsFault, with its value
abbrev pub cms_fault_text : CmsFault → List ℕ
cms_fault_text (signed.Der fault) = codes "der " ++ der_fault_text fault
cms_fault_text signed.NotSignedData = codes "notsigneddata"
cms_fault_text signed.Version = codes "version"
cms_fault_text signed.ContentType = codes "contenttype"
cms_fault_text (signed.Signers count) = codes "signers " ++ decimal count
cms_fault_text signed.SignerVersion = codes "signerversion"
cms_fault_text signed.DigestAlg = codes "digestalg"
cms_fault_text signed.AttrOrder = codes "attrorder"
cms_fault_text (signed.DoubleAttr kind) = codes "doubleattr " ++ attr_kind_name kind
cms_fault_text (signed.MissingAttr kind) = codes "missingattr " ++ attr_kind_name kind
cms_fault_text signed.SignatureAlg = codes "signaturealg"

-- a Check, with its value
abbrev pub check_text : Check → List ℕ
check_text checks.TooLong = codes "toolong"
check_text (checks.Cms fault) = codes "cms " ++ cms_fault_text fault
check_text (checks.Tst fault) = codes "tst " ++ tst_fault_text fault
check_text checks.HashUnknown = codes "hashunknown"
check_text checks.UnknownSigner = codes "unknownsigner"
check_text checks.CertHash = codes "certhash"
check_text checks.MessageDigest = codes "messagedigest"
check_text checks.BadSignature = codes "badsignature"

-- the encoding's fault stands by its own name
abbrev pub syntax_kind_name : SyntaxKind → List ℕ
syntax_kind_name (syntax_kinds.Der kind) = der_kind_name kind
syntax_kind_name syntax_kinds.Version = codes "version"
syntax_kind_name syntax_kinds.Empty = codes "empty"
syntax_kind_name syntax_kinds.ValueLength = codes "valuelength"
syntax_kind_name syntax_kinds.TooMany = codes "toomany"
syntax_kind_name syntax_kinds.TooLong = codes "toolong"

-- the name of a PolicyKind
abbrev pub policy_kind_name : PolicyKind → List ℕ
policy_kind_name policies.Header = codes "header"
policy_kind_name policies.Form = codes "form"
policy_kind_name policies.Name = codes "name"
policy_kind_name policies.Hex = codes "hex"
policy_kind_name policies.Sid = codes "sid"
policy_kind_name policies.Key = codes "key"
policy_kind_name policies.Cert = codes "cert"
policy_kind_name policies.Date = codes "date"
policy_kind_name policies.Order = codes "order"
policy_kind_name policies.Twice = codes "twice"
policy_kind_name policies.TooMany = codes "toomany"

-- the name of a ShapeKind
abbrev pub shape_kind_name : ShapeKind → List ℕ
shape_kind_name shapes.Word = codes "word"
shape_kind_name shapes.Number = codes "number"
shape_kind_name shapes.Limit = codes "limit"
shape_kind_name shapes.Moment = codes "moment"
shape_kind_name shapes.Cut = codes "cut"
shape_kind_name shapes.Mark = codes "mark"

-- the line that says why an input is not of its form, and the line that says why a text is no policy
abbrev pub shape_line : ℕ → ShapeKind → List ℕ
shape_line place kind = codes "shape " ++ decimal place ++ 32 ∷ shape_kind_name kind ++ 10 ∷ []

-- the line that says why a text is no policy
abbrev pub policy_line : ℕ → PolicyKind → List ℕ
policy_line number kind = codes "badpolicy " ++ decimal number ++ 32 ∷ policy_kind_name kind ++ 10 ∷ []
