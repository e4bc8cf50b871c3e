use Rattle.std.proofs.Common.{◌≡◌, take}
use Rattle.view_types.proofs.profile.+copy_req.Given as goal

-- the parts so far are copied
abbrev pub invariant-copy_req_parts-loop-part : goal.invariant-copy_req_parts-loop-part
invariant-copy_req_parts-loop-part l = l.copies ≡ take l.part-index l.parts
