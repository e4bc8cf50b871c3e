use Rattle.chunked_map.proofs.Places.{set_no_value, set_value_is, value_is_none}
use Rattle.chunked_map.proofs.pairs.replace_value_at.Goals as goal

pub returns-in-Some-clause-pairs : goal.returns-in-Some-clause-pairs
returns-in-Some-clause-pairs g c = rw c.replace.ensures.after (set_value_is c.args.pairs.now c.args.at c.in-Some.pair.now c.args.value c.in-Some.ensures.value)

pub returns-in-None-clause-value : goal.returns-in-None-clause-value
returns-in-None-clause-value g c = value_is_none c.args.pairs.now c.args.at c.in-None.ensures.value

pub returns-in-None-clause-pairs : goal.returns-in-None-clause-pairs
returns-in-None-clause-pairs g c = set_no_value c.args.pairs.now c.args.at c.args.value c.in-None.ensures.value
