use Rattle.std.proofs.Common.{◌≡◌, take}
use Rattle.shared_endpoints.proofs.frames.copy_frames.Given as goal

-- the frames so far are copied
abbrev pub invariant-loop-frame : goal.invariant-loop-frame
invariant-loop-frame l = l.copy ≡ take l.frame-index l.frame-items
