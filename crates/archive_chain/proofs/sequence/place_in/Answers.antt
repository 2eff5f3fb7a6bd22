use Rattle.std.proofs.Common.{rules, arith, ◌≡◌, sym, ap, ◌∙◌}
use Rattle.archive_chain.specs.Kept.{has_name, place_of}
use Rattle.archive_chain.specs.declared.row.Members.{Members}
use Rattle.archive_chain.specs.InsideTable.{ids_seen}
use Rattle.archive_chain.proofs.Places.{stands, place_in_run}
use Rattle.archive_chain.proofs.sequence.place_in.Goals as goal

pub overflow_sub-result : goal.overflow_sub-result
overflow_sub-result c = (place_in_run c.in-Run.first c.in-Run.count c.args.id (sym (ap (λ (m : Members). has_name (ids_seen m) c.args.id) c.in-Run.is) ∙ c.requires.member)).0

pub overflow_cast-result : goal.overflow_cast-result
overflow_cast-result c =
    let s = (stands (ids_seen c.args.members.now) c.args.id c.requires.member).within in
    let few = c.requires.few in
    let is = c.search.ensures in
    let same : place_of c.as_slice.result.now c.args.id ≡ place_of (ids_seen c.args.members.now) c.args.id = search rules in
    omega (arith, s, few, is, same)

pub returns-in-Run-clause-place : goal.returns-in-Run-clause-place
returns-in-Run-clause-place c =
    let run = place_in_run c.in-Run.first c.in-Run.count c.args.id (sym (ap (λ (m : Members). has_name (ids_seen m) c.args.id) c.in-Run.is) ∙ c.requires.member) in
    sym (ap (λ (m : Members). place_of (ids_seen m) c.args.id) c.in-Run.is ∙ run.1)

pub returns-in-Run-clause-within : goal.returns-in-Run-clause-within
returns-in-Run-clause-within c =
    let run = place_in_run c.in-Run.first c.in-Run.count c.args.id (sym (ap (λ (m : Members). has_name (ids_seen m) c.args.id) c.in-Run.is) ∙ c.requires.member) in
    let place = run.1 in
    let same = ap (λ (m : Members). place_of (ids_seen m) c.args.id) c.in-Run.is in
    let s = (stands (ids_seen c.args.members.now) c.args.id c.requires.member).within in
    omega (arith, place, same, s)

pub returns-in-Listed-clause-within : goal.returns-in-Listed-clause-within
returns-in-Listed-clause-within c =
    let s = (stands (ids_seen c.args.members.now) c.args.id c.requires.member).within in
    let is = c.search.ensures in
    let same : place_of c.as_slice.result.now c.args.id ≡ place_of (ids_seen c.args.members.now) c.args.id = search rules in
    omega (arith, s, is, same)
