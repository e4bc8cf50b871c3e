use Rattle.std.proofs.Common.{subst}
use Rattle.k8s_meta.specs.Lists.{each}
use Rattle.k8s_meta.specs.Spots.{◌·◌, Reads, seen}
use Rattle.k8s_meta.proofs.Loop.{gathered-single}
use Rattle.k8s_meta.proofs.place.Place.each.Goals as goal

pub returns : goal.returns
returns g c =
    let reads = rw c.member.ensures at c.read_list.ensures in
    subst (Reads c.read_list.result) (gathered-single (each (g.R.Reader.reading c.args.reader.now) (seen c.args.self.now · c.args.key))) reads
