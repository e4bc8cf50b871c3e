use Rattle.std.proofs.Common.{◌≡◌, drop}
use Rattle.server_index.specs.Probes.{hash_on}
use Rattle.server_index.proofs.name_filter.name_hash.Given as goal

-- the rest of the bytes gives the hash
abbrev pub invariant-loop-byte : goal.invariant-loop-byte
invariant-loop-byte l = hash_on l.hash (drop l.byte-index l.name) ≡ hash_on 14695981039346656037 l.name
