use Rattle.std.proofs.Common.{◌≡◌, ℕ, nat_eq, take}
use Rattle.std.specs.List.{list_any}
use Rattle.row_table.specs.IndexRows.{has_key}
use Rattle.endpoint_index.specs.Told.{notes_at}
use Rattle.shared_endpoints.specs.ByKey.{key_cmp, streams_at}
use Rattle.shared_endpoints.specs.Sharing.{ChangesAt, has_at}
use Rattle.shared_endpoints.proofs.by_key.change_all.Given as goal

-- the streams of the keys so far have followed the change, and their ids are listed
abbrev pub invariant-loop-key : goal.invariant-loop-key
invariant-loop-key l = record {
  changed : ChangesAt key_cmp (has_key key_cmp (take l.key-index l.keys)) (notes_at l.index) (streams_at l.initial.by_key) (streams_at l.by_key);
  ids : (n : ℕ) → list_any (nat_eq n) l.ids ≡ list_any (λ key. has_at (streams_at l.initial.by_key key) n) (take l.key-index l.keys);
}
