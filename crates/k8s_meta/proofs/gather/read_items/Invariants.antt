use Rattle.k8s_meta.specs.Spots.{seen}
use Rattle.k8s_meta.proofs.Loop.{Gathering}
use Rattle.k8s_meta.proofs.gather.read_items.Given as goal

abbrev pub invariant-loop-i : goal.invariant-loop-i
invariant-loop-i g l = Gathering (g.G.Gather.parts) (g.R.Reader.reading l.reader) (seen l.place).at l.found l.i l.list
