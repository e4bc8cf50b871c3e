use Rattle.std.proofs.Common.{◌≡◌, take, length}
use Rattle.view_types.proofs.profile.+same_req.Given as goal

-- the parts so far are the same
abbrev pub invariant-same_req_parts-loop-i : goal.invariant-same_req_parts-loop-i
invariant-same_req_parts-loop-i l = record { long : length l.mine ≡ length l.others; front : take l.i l.mine ≡ take l.i l.others }
