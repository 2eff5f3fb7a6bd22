use Rattle.std.proofs.Common.{arith}
use Rattle.der_values.specs.Grammar.{from_start}
use Rattle.der_values.proofs.Meaning.{is_meant, is_only}
use Rattle.cms_signed.specs.State.{start}
use Rattle.cms_signed.specs.Checks.{cms_checks}
use Rattle.cms_signed.specs.Signed.{token, token_named, named}
use Rattle.cms_signed.specs.Inside.{named_seen}
use Rattle.cms_signed.proofs.Named.{seen_once}
use Rattle.cms_signed.proofs.token.read_signed.Goals as goal

pub returns-clause-found : goal.returns-clause-found
returns-clause-found c = is_meant cms_checks token start token_named (from_start c.args.token.now) named_seen c.whole_token.result (λ i. omega (arith, c.type_inv.token i)) c.whole_token.ensures

pub returns-clause-only : goal.returns-clause-only
returns-clause-only c = λ s m. seen_once c.whole_token.result s (is_only cms_checks token start token_named (from_start c.args.token.now) named_seen c.whole_token.result c.whole_token.ensures (named s) m)
