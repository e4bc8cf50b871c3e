use Rattle.std.proofs.Common.{◌≡◌, sym, ◌∙◌}
use Rattle.route_match.specs.Matching.{is_wanted}
use Rattle.route_match.proofs.Asks.{after, answered, answered_after, further, no_fault, refused_still, untouched}
use Rattle.route_match.proofs.Steps.{any_at, any_more}
use Rattle.route_match.proofs.header.header_holds.Goals as goal

pub loop-header-preserved : goal.loop-header-preserved
loop-header-preserved g c = record {
  untouched = further c.loop-header.invariant.untouched (untouched no_fault c.in-Ok-false.ensures.asks);
  none = λ pat told.
      let here : c.in-Ok-false.field-0 ≡ is_wanted pat c.args.part.now c.header-item.result = c.in-Ok-false.ensures.told pat (c.loop-header.invariant.untouched.tells_same ∙ told) in
      any_more (is_wanted pat c.args.part.now) c.args.headers.now c.loop-header.header-index c.header-item.result c.loop-header-test.true c.header-item.is (c.loop-header.invariant.none pat told) (sym here ∙ c.in-Ok-false.field-0-test);
}

pub returns-in-Ok-true-clause-told : goal.returns-in-Ok-true-clause-told
returns-in-Ok-true-clause-told g c = λ pat told.
    let here : c.in-Ok-true.field-0 ≡ is_wanted pat c.args.part.now c.header-item.result = c.in-Ok-true.ensures.told pat (c.loop-header.invariant.untouched.tells_same ∙ told) in
    any_at (is_wanted pat c.args.part.now) c.args.headers.now c.loop-header.header-index c.header-item.result c.loop-header-test.true c.header-item.is (sym here ∙ c.in-Ok-true.field-0-test)

pub returns-in-Ok-true-clause-asks : goal.returns-in-Ok-true-clause-asks
returns-in-Ok-true-clause-asks g c = answered_after no_fault no_fault c.loop-header.invariant.untouched c.in-Ok-true.ensures.asks

pub returns-in-Err-clause-asks : goal.returns-in-Err-clause-asks
returns-in-Err-clause-asks g c = after c.loop-header.invariant.untouched c.in-Err.ensures.asks

pub returns-in-Err-clause-named : goal.returns-in-Err-clause-named
returns-in-Err-clause-named g c = λ met. refused_still c.loop-header.invariant.untouched (c.in-Err.ensures.named met)

pub returns-clause-asks : goal.returns-clause-asks
returns-clause-asks g c = answered no_fault c.loop-header.invariant.untouched
