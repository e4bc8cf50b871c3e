use Rattle.std.proofs.Common.{ℕ, List, Result, ◌∙◌, sym, subst}
use Rattle.std.proofs.lemmas.Result.{err_from_is_err_and}
use Rattle.proto_wire.specs.declared.fault.WireFault.{WireFault}
use Rattle.proto_wire.specs.Given.{Fails}
use Rattle.proto_wire.specs.Unframing.{frames_from}
use Rattle.proto_wire.proofs.Feeding.{feed_more, feed_less, feed_done, feed_fault, messages_from-fed, part_from-fed, stopped_fed}
use Rattle.proto_wire.proofs.unframer.Unframer.feed.Goals as goal

pub returns-in_err-message-clause-messages : goal.returns-in_err-message-clause-messages
returns-in_err-message-clause-messages c =
    let p = err_from_is_err_and c.from_residual.result c.from_residual.ensures.1 in
    rw (p.1, p.2) (feed_fault c.loop-messages.self c.loop-messages.rest.now c.loop-messages.messages (frames_from c.args.self.now c.args.piece.now) c.in_err-message.field-0.0 c.in_err-message.ensures.first c.loop-messages.invariant.frames)

pub loop-messages-smaller : goal.loop-messages-smaller
loop-messages-smaller c =
    feed_less c.loop-messages.self c.take.new.self c.loop-messages.rest.now c.in-Some.message c.in-Some.after.now
    (rw c.in-Some.is at c.in_ok-message.ensures.whole) (rw c.in-Some.is at c.in_ok-message.ensures.first)

pub loop-messages-preserved : goal.loop-messages-preserved
loop-messages-preserved c = record {
  limit = c.in_ok-message.ensures.limit ∙ c.loop-messages.invariant.limit;
  frames = rw c.in-Ok.ensures.ok (feed_more c.loop-messages.self c.take.new.self c.loop-messages.rest.now c.in-Some.message c.in-Some.after.now c.loop-messages.messages (frames_from c.args.self.now c.args.piece.now)
      c.in_ok-message.ensures.limit (rw c.in-Some.is at c.in_ok-message.ensures.whole) (rw c.in-Some.is at c.in_ok-message.ensures.first) c.loop-messages.invariant.frames);
}

pub returns-clause-messages : goal.returns-clause-messages
returns-clause-messages c =
    (feed_done c.loop-messages.self c.take.new.self c.loop-messages.rest.now c.loop-messages.messages (frames_from c.args.self.now c.args.piece.now)
    (rw c.in_default.is at c.in_ok-message.ensures.first) (rw c.in_default.is at c.in_ok-message.ensures.part) c.loop-messages.invariant.frames).messages_are

pub returns-clause-part : goal.returns-clause-part
returns-clause-part c =
    (feed_done c.loop-messages.self c.take.new.self c.loop-messages.rest.now c.loop-messages.messages (frames_from c.args.self.now c.args.piece.now)
    (rw c.in_default.is at c.in_ok-message.ensures.first) (rw c.in_default.is at c.in_ok-message.ensures.part) c.loop-messages.invariant.frames).part_is

pub returns-in_err-message-clause-newly : goal.returns-in_err-message-clause-newly
returns-in_err-message-clause-newly c = λ stream fed.
    let p = err_from_is_err_and c.from_residual.result c.from_residual.ensures.1 in
    let h = c.args.self.now in
    let failed = feed_fault c.loop-messages.self c.loop-messages.rest.now c.loop-messages.messages (frames_from h c.args.piece.now) c.in_err-message.field-0.0 c.in_err-message.ensures.first c.loop-messages.invariant.frames in
    rw (p.1, p.2) (subst (λ (r : Result (List (List ℕ)) WireFault). Fails c.in_err-message.field-0.0 r) (messages_from-fed h stream c.args.piece.now fed) failed)

pub returns-in_err-message-clause-fed : goal.returns-in_err-message-clause-fed
returns-in_err-message-clause-fed c = λ stream fed.
    let p = err_from_is_err_and c.from_residual.result c.from_residual.ensures.1 in
    let h = c.args.self.now in
    let failed = feed_fault c.loop-messages.self c.loop-messages.rest.now c.loop-messages.messages (frames_from h c.args.piece.now) c.in_err-message.field-0.0 c.in_err-message.ensures.first c.loop-messages.invariant.frames in
    rw (p.1, p.2) (stopped_fed h c.take.new.self stream c.args.piece.now c.in_err-message.field-0.0 (c.in_err-message.ensures.limit ∙ c.loop-messages.invariant.limit) c.in_err-message.ensures.stopped failed fed)

pub returns-clause-newly : goal.returns-clause-newly
returns-clause-newly c = λ stream fed.
    sym (messages_from-fed c.args.self.now stream c.args.piece.now fed)
    ∙ (feed_done c.loop-messages.self c.take.new.self c.loop-messages.rest.now c.loop-messages.messages (frames_from c.args.self.now c.args.piece.now)
    (rw c.in_default.is at c.in_ok-message.ensures.first) (rw c.in_default.is at c.in_ok-message.ensures.part) c.loop-messages.invariant.frames).messages_are

pub returns-clause-fed : goal.returns-clause-fed
returns-clause-fed c = λ stream fed.
    let same = c.in_ok-message.ensures.limit ∙ c.loop-messages.invariant.limit in
    rw same ((feed_done c.loop-messages.self c.take.new.self c.loop-messages.rest.now c.loop-messages.messages (frames_from c.args.self.now c.args.piece.now)
    (rw c.in_default.is at c.in_ok-message.ensures.first) (rw c.in_default.is at c.in_ok-message.ensures.part) c.loop-messages.invariant.frames).part_is
    ∙ part_from-fed c.args.self.now stream c.args.piece.now fed)
