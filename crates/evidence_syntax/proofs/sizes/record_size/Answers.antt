use Rattle.std.proofs.Common.{refl, arith, length}
use Rattle.std.specs.List.{flat_map}
use Rattle.evidence_syntax.specs.Record.{record_seen}
use Rattle.evidence_syntax.specs.Text.{identifier_text, chain_text}
use Rattle.evidence_syntax.proofs.SizeLemmas.{no_less, too_long, same_size, record_size}
use Rattle.evidence_syntax.proofs.sizes.record_size.Goals as goal

pub returns-in_err-version : goal.returns-in_err-version
returns-in_err-version c =
    let whole = record_size (record_seen c.args.parts.now) c.in_ok-infos.infos _ _ (omega (arith, c.in_ok-infos.ensures, c.in_ok-size_or_none.ensures, c.in_ok-size_or_none-2.ensures)) refl refl in
    too_long _ _ _ (omega (arith, whole)) c.in_err-version.ensures c.from_residual-in_err-version.ensures

pub returns-in_err-names_size : goal.returns-in_err-names_size
returns-in_err-names_size c =
    let r = record_seen c.args.parts.now in
    let whole = record_size r _ _ _ refl refl refl in
    too_long (length (flat_map identifier_text r.algorithms)) _ _ (omega (arith, whole, no_less (length (flat_map identifier_text r.algorithms)))) (rw c.as_slice.ensures at c.in_err-names_size.ensures) c.from_residual-in_err-names_size.ensures

pub returns-in_err-names : goal.returns-in_err-names
returns-in_err-names c =
    let whole = record_size (record_seen c.args.parts.now) c.in_ok-infos.infos c.in_ok-names_size.field-0 _ (omega (arith, c.in_ok-infos.ensures, c.in_ok-size_or_none.ensures, c.in_ok-size_or_none-2.ensures)) (rw c.as_slice.ensures at c.in_ok-names_size.ensures.1) refl in
    too_long _ _ _ (omega (arith, whole, c.in_ok-version.ensures)) c.in_err-names.ensures c.from_residual-in_err-names.ensures

pub returns-in_err-sequence_size : goal.returns-in_err-sequence_size
returns-in_err-sequence_size c =
    let r = record_seen c.args.parts.now in
    let whole = record_size r _ _ _ refl refl refl in
    too_long (length (flat_map chain_text r.chains)) _ _ (omega (arith, whole, no_less (length (flat_map chain_text r.chains)))) (rw c.as_slice-2.ensures at c.in_err-sequence_size.ensures) c.from_residual-in_err-sequence_size.ensures

pub returns : goal.returns
returns c =
    let whole = record_size (record_seen c.args.parts.now) c.in_ok-infos.infos c.in_ok-names_size.field-0 c.in_ok-sequence_size.field-0 (omega (arith, c.in_ok-infos.ensures, c.in_ok-size_or_none.ensures, c.in_ok-size_or_none-2.ensures)) (rw c.as_slice.ensures at c.in_ok-names_size.ensures.1) (rw c.as_slice-2.ensures at c.in_ok-sequence_size.ensures.1) in
    same_size _ _ _ (omega (arith, whole, c.in_ok-names.ensures, c.in_ok-version.ensures)) c.with_value-3.ensures
