use Rattle.route_match.proofs.Asks.{refused_one, told_by}
use Rattle.route_match.proofs.value.is_whole.Goals as goal

pub returns-clause-told : goal.returns-clause-told
returns-clause-told g c = λ pat told. told_by _ pat told c.as_str.result.now c.args.pattern.now c.args.string.now c.as_str.ensures c.whole.result c.whole.ensures.told

pub returns-clause-asks : goal.returns-clause-asks
returns-clause-asks g c = record {
  tells_same = c.whole.ensures.tells_same;
  refuses_same = c.whole.ensures.refuses_same;
  later = c.whole.ensures.later;
  cause = c.whole.ensures.refused;
  other = c.whole.ensures.other;
}

pub returns-clause-named : goal.returns-clause-named
returns-clause-named g c = λ met. refused_one _ c.as_str.result.now c.args.pattern.now c.as_str.ensures (c.whole.ensures.named met)
