use Rattle.std.proofs.Common.{◌<◌, length, rules}
use Rattle.k8s_meta.specs.Spots.{seen}
use Rattle.watch_events.proofs.Pairs.{few_fail, many_fail}
use Rattle.watch_events.proofs.simulation.pair_of.Goals.{in_default-via-then-items-lt2, in_default-via-else-items-lt2+else-items-lt3}
use Rattle.watch_events.proofs.simulation.pair_of.Goals as goal

pub returns-in_default : goal.returns-in_default
returns-in_default c = elim c.in_default.branch [
  | in_default-via-then-items-lt2 w ↦ let few : length c.args.items.now < 2 = search rules in few_fail (seen c.args.place.now).at c.wrong_type.result c.args.items.now few c.wrong_type.ensures
  | in_default-via-else-items-lt2+else-items-lt3 w ↦ let many : 2 < length c.args.items.now = search rules in many_fail (seen c.args.place.now).at c.wrong_type.result c.args.items.now many c.wrong_type.ensures
]
