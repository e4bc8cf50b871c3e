-- Filters of strings by probes: words with three bits that depend on the string.
use Rattle.std.specs.Prelude.{◌*◌, ◌/◌, ◌%◌, ◌^◌, ℕ, Bool, List, [], ◌∷◌, nat_eq}
use Rattle.std.specs.Int.RustNames.{bit_and, bit_or, bit_xor}
use Rattle.server_index.specs.declared.name_filter.NameFilter.{NameFilter}

-- the hash of the bytes so far, with these
abbrev pub hash_on : ℕ → List ℕ → ℕ
hash_on hash [] = hash
hash_on hash (byte ∷ bytes) = hash_on (bit_xor hash byte * 1099511628211 % 2 ^ 64) bytes

abbrev pub name_hash : List ℕ → ℕ
name_hash name = hash_on 14695981039346656037 name * 11400714819323198485 % 2 ^ 64

abbrev pub bit : ℕ → ℕ
bit place = 2 ^ (place % 128)

abbrev pub probe_of : List ℕ → ℕ
probe_of name = bit_or (bit_or (bit (name_hash name / 2 ^ 57)) (bit (name_hash name / 2 ^ 50))) (bit (name_hash name / 2 ^ 43))

-- the filter has all bits of the probe
abbrev pub may_have : NameFilter → ℕ → Bool
may_have filter probe = nat_eq (bit_and filter.bits probe) probe
