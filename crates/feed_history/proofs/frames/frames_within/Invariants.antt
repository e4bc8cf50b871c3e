use Rattle.std.proofs.Common.{◌≡◌, take, drop}
use Rattle.feed_history.specs.Drains.{frames_of, too_long}
use Rattle.feed_history.proofs.frames.frames_within.Given as goal

-- no message so far is too long, and their frames are made
abbrev pub invariant-loop-message : goal.invariant-loop-message
invariant-loop-message l = (too_long l.limit l.messages ≡ too_long l.limit (drop l.message-index l.messages)) × (l.frames ≡ frames_of (take l.message-index l.messages))
