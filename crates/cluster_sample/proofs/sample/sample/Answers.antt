use Rattle.std.proofs.Common.{◌∙◌}
use Rattle.feed_history.specs.KnownPatterns.{known_of}
use Rattle.cluster_sample.proofs.Sampled.{replays, sampled}
use Rattle.cluster_sample.proofs.sample.sample.Goals as goal

pub returns-in-Ok-write_counts-clause-output : goal.returns-in-Ok-write_counts-clause-output
returns-in-Ok-write_counts-clause-output g c =
    let config = c.args.config.now in
    let limits = c.args.limits.now in
    let known = known_of (g.P.Patterns.tells c.args.patterns.now) (g.P.Patterns.refuses c.args.patterns.now) (g.P.Patterns.refusals c.args.patterns.now) (g.P.Patterns.refusals c.replay-status.new.patterns) in
    let state = g.H.Machine.state c.args.hub.now in
    let replies = g.H.Machine.replies c.args.hub.now in
    let replies_new = g.H.Machine.replies c.replay-status.new.hub in
    let status = c.replay-status.result in
    let text = c.replay-status.new.out.bytes.items in
    let ended = replays config limits known state replies replies_new c.args.n status c.as_slice.result.now c.new.result.items text (c.as_slice.ensures ∙ c.in-Ok.ensures) c.new.ensures.items
    c.replay-status.ensures.output c.replay-status.ensures.quiet c.replay-status.ensures.refused c.replay-status.ensures.said in
    sampled config limits known state replies replies_new c.args.n c.as_slice-in-Done.result.now text c.deref.result.now c.count_lines-count.result (c.as_slice-in-Done.ensures ∙ c.in-Ok.ensures)
    c.count_lines-count.ensures c.deref.ensures.value (g.K.Sink.held c.args.out.now) (g.K.Sink.held c.write_counts.new.out) status ended c.in-Ok-write_counts.ensures.whole
