use Rattle.std.proofs.Common.{◌≡◌, ◌++◌, take}
use Rattle.std.specs.Prelude.{flat_map}
use Rattle.feed_history.specs.Text.{frame_line}
use Rattle.feed_step.proofs.frames.push_frames.Given as goal

abbrev pub invariant-loop-frame : goal.invariant-loop-frame
invariant-loop-frame l = l.out.items ≡ l.fn.out.items ++ flat_map (frame_line l.id) (take l.frame-index l.frame-items)
