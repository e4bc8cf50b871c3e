use Rattle.std.proofs.Common.{ap}
use Rattle.std.specs.BTreeMap.{is_at}
use Rattle.std.specs.Cmp.Lexicographic.{slice_cmp}
use Rattle.std.specs.Map.{lookup}
use Rattle.std.specs.Ordering.{nat_cmp}
use Rattle.server_index.proofs.matching.Matching.new.Goals as goal

pub returns : goal.returns
returns c = λ name. ap (lookup (is_at (slice_cmp nat_cmp name))) c.new.ensures.empty
