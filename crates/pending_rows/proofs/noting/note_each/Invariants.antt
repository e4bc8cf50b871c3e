use Rattle.std.proofs.Common.{◌≡◌, ◌+◌, ◌≤◌, length}
use Rattle.std.specs.Vec.{vec_capacity, vec_len}
use Rattle.pending_rows.specs.Pending.{AreKeyed, AreOwn, with_notes, pending_of}
use Rattle.pending_rows.proofs.noting.note_each.Given as goal

-- with the addresses that are left all are noted, and there is room for them
abbrev pub invariant-loop-stood : goal.invariant-loop-stood
invariant-loop-stood l = record {
  notes : with_notes l.stood-iterator.rest.items (pending_of l.pending.items) ≡ with_notes l.fn.before.items (pending_of l.initial.pending.items);
  keyed : AreKeyed l.pending.items;
  own : AreOwn l.pending.items;
  owns : AreOwn l.stood-iterator.rest.items;
  room : vec_len l.pending + length l.stood-iterator.rest.items ≤ vec_capacity l.pending;
}
