use Rattle.std.proofs.Common.{◌≡◌, refl, sym, ◌∙◌}
use Rattle.route_match.specs.Matching.{header_holds}
use Rattle.route_match.proofs.Asks.{after, answered, answered_after, further, item_stands, no_fault, refused_still, untouched}
use Rattle.route_match.proofs.Steps.{all_more, all_stops}
use Rattle.route_match.proofs.header.headers_hold.Goals as goal

pub loop-part-preserved : goal.loop-part-preserved
loop-part-preserved g c = record {
  untouched = further c.loop-part.invariant.untouched (untouched no_fault c.in-Ok-true.ensures.asks);
  all = λ pat told.
      let here : c.in-Ok-true.field-0 ≡ header_holds pat c.args.headers.now c.part-item.result = c.in-Ok-true.ensures.told pat (c.loop-part.invariant.untouched.tells_same ∙ told) in
      all_more (header_holds pat c.args.headers.now) c.args.wanted.now c.loop-part.part-index c.part-item.result c.loop-part-test.true c.part-item.is (c.loop-part.invariant.all pat told) (sym here ∙ c.in-Ok-true.field-0-test);
}

pub returns-in-Ok-false-clause-told : goal.returns-in-Ok-false-clause-told
returns-in-Ok-false-clause-told g c = λ pat told.
    let here : c.in-Ok-false.field-0 ≡ header_holds pat c.args.headers.now c.part-item.result = c.in-Ok-false.ensures.told pat (c.loop-part.invariant.untouched.tells_same ∙ told) in
    all_stops (header_holds pat c.args.headers.now) c.args.wanted.now c.loop-part.part-index c.part-item.result c.loop-part-test.true c.part-item.is (sym here ∙ c.in-Ok-false.field-0-test)

pub returns-in-Ok-false-clause-asks : goal.returns-in-Ok-false-clause-asks
returns-in-Ok-false-clause-asks g c = answered_after no_fault no_fault c.loop-part.invariant.untouched c.in-Ok-false.ensures.asks

pub returns-in-Err-clause-asks : goal.returns-in-Err-clause-asks
returns-in-Err-clause-asks g c = after c.loop-part.invariant.untouched c.in-Err.ensures.asks

pub returns-in-Err-clause-named : goal.returns-in-Err-clause-named
returns-in-Err-clause-named g c = λ met. record {
  place = c.loop-part.part-index;
  item = c.part-item.result;
  item_at = item_stands refl c.loop-part.part-index c.part-item.result c.loop-part-test.true c.part-item.is;
  has_refused = refused_still c.loop-part.invariant.untouched (c.in-Err.ensures.named met);
  before = c.loop-part.invariant.all;
}

pub returns-clause-asks : goal.returns-clause-asks
returns-clause-asks g c = answered no_fault c.loop-part.invariant.untouched
