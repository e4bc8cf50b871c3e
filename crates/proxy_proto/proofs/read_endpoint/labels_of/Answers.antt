use Rattle.std.proofs.Common.{◌∙◌}
use Rattle.proxy_proto.proofs.LabelMaps.{put_more}
use Rattle.proxy_proto.proofs.read_endpoint.labels_of.Goals as goal

pub loop-key-preserved : goal.loop-key-preserved
loop-key-preserved c = c.in_ok-put_new.ensures ∙ rw c.loop-key.invariant (put_more c.in-Some.key c.in-Some.value c.loop-key.yielded)
