use Rattle.std.proofs.Common.{◌≡◌, ap, sym, ◌∙◌}
use Rattle.entry_codec.specs.declared.kind.Kind.{Kind}
use Rattle.entry_codec.specs.Form.{Unread, reads}
use Rattle.entry_codec.specs.Fault.{kind_form, entry_form, IsFaultOf}
use Rattle.entry_codec.specs.Inside.{read_at, kind_byte}
use Rattle.entry_codec.proofs.Answered.{deposit_found, deposit_faulty, end_faulty, handed_on}
use Rattle.entry_codec.proofs.deposit.read_places.Goals as goal

pub returns-in_err-places-clause-fault : goal.returns-in_err-places-clause-fault
returns-in_err-places-clause-fault c =
    let kind : reads entry_form 0 c.args.bytes.now ≡ read_at (kind_form 1) c.kind.new.self =
    ap (λ (u : Unread). read_at entry_form u) (sym c.new-payload.ensures) ∙ c.in_ok-kind.ensures.ok ∙ ap (λ (k : Kind). read_at (kind_form (kind_byte k)) c.kind.new.self) c.in-Deposit.is in
    handed_on (IsFaultOf c.args.bytes.now) _ _ c.from_residual-in_err-places.ensures.1 (deposit_faulty c.args.bytes.now c.kind.new.self _ kind c.in_err-places.ensures.fault)

pub returns-in_err-finish-clause-fault : goal.returns-in_err-finish-clause-fault
returns-in_err-finish-clause-fault c =
    let kind : reads entry_form 0 c.args.bytes.now ≡ read_at (kind_form 1) c.kind.new.self =
    ap (λ (u : Unread). read_at entry_form u) (sym c.new-payload.ensures) ∙ c.in_ok-kind.ensures.ok ∙ ap (λ (k : Kind). read_at (kind_form (kind_byte k)) c.kind.new.self) c.in-Deposit.is in
    let deposit = c.in_ok-places.ensures.ok in
    handed_on (IsFaultOf c.args.bytes.now) _ _ c.from_residual-in_err-finish.ensures.1
    (end_faulty c.args.bytes.now c.kind.new.self c.deposit_places.new.payload deposit.0 _ kind deposit.1 c.in_err-finish.ensures.fault)

pub returns-clause-places : goal.returns-clause-places
returns-clause-places c =
    let kind : reads entry_form 0 c.args.bytes.now ≡ read_at (kind_form 1) c.kind.new.self =
    ap (λ (u : Unread). read_at entry_form u) (sym c.new-payload.ensures) ∙ c.in_ok-kind.ensures.ok ∙ ap (λ (k : Kind). read_at (kind_form (kind_byte k)) c.kind.new.self) c.in-Deposit.is in
    let deposit = c.in_ok-places.ensures.ok in
    deposit_found c.args.bytes.now c.kind.new.self c.deposit_places.new.payload deposit.0 c.in_ok-places.places kind deposit.1 c.in_ok-finish.ensures.ok deposit.2
