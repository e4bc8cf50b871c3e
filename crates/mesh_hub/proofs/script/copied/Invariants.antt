use Rattle.std.proofs.Common.{◌≡◌, take}
use Rattle.mesh_hub.proofs.script.copied.Given as goal

-- the frames so far are copied
abbrev pub invariant-loop-frame : goal.invariant-loop-frame
invariant-loop-frame l = l.copy ≡ take l.frame-index l.frame-items
