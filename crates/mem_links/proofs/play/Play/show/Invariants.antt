use Rattle.std.proofs.Common.{◌≡◌, ◌+◌, ◌-◌, ◌≤◌, length}
use Rattle.std.specs.Vec.{vec_len, vec_capacity}
use Rattle.mem_links.specs.OpenNumbers.{Shows, numbers_of}
use Rattle.mem_links.proofs.play.Play.show.Given as goal

abbrev pub invariant-loop-step : goal.invariant-loop-step
invariant-loop-step l = record {
  few : vec_len l.shown.events ≤ l.most;
  grows : vec_len l.self.links ≤ vec_len l.fn.self.links + vec_len l.shown.events;
  told : l.shown.told.items ≡ l.shown.events.items;
  told_len : vec_len l.shown.told ≡ vec_len l.shown.events;
  room : l.most ≤ vec_capacity l.shown.events;
  told_room : l.most ≤ vec_capacity l.shown.told;
  links : vec_len l.fn.self.links + l.most ≤ vec_capacity l.self.links;
  may_fail : l.self.may_fail ≡ l.fn.self.may_fail;
  shows : Shows l.fn.self.last (numbers_of l.fn.self.links.items) l.shown.events.items l.self.last (numbers_of l.self.links.items);
}

abbrev pub decreases-loop-step : goal.decreases-loop-step
decreases-loop-step l = length l.script - l.self.place
