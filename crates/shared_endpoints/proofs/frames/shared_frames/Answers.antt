use Rattle.std.proofs.Common.{Ok, ap, ◌∙◌}
use Rattle.feed_history.specs.Drains.{frames_within}
use Rattle.view_rules.specs.Batch.{endpoint_batch}
use Rattle.key_streams.specs.Streams.{shown_for}
use Rattle.shared_endpoints.specs.Sharing.{encoding}
use Rattle.shared_endpoints.proofs.ByKey.{from_ok}
use Rattle.shared_endpoints.proofs.frames.shared_frames.Goals as goal

pub returns-in-Some-clause-frames : goal.returns-in-Some-clause-frames
returns-in-Some-clause-frames c = λ right.
    let now = c.args.now.now in
    let limits = c.args.limits.now in
    ap Ok c.in_ok-copy_frames.ensures
    ∙ from_ok (frames_within limits.message (endpoint_batch (shown_for c.args.streams.now c.args.id now) now limits)) c.in-Some.frames.now (c.in-Some.ensures.right (encoding limits now) now right)
