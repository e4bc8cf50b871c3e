use Rattle.std.proofs.Common.{◌≡◌, take}
use Rattle.view_types.proofs.profile.+copy_resp.Given as goal

-- the parts so far are copied
abbrev pub invariant-copy_resp_parts-loop-part : goal.invariant-copy_resp_parts-loop-part
invariant-copy_resp_parts-loop-part l = l.copies ≡ take l.part-index l.parts
