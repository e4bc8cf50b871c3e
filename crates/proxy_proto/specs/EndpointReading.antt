-- The contents of an endpoint's message, `WeightedAddr`, and of the messages nested in it.
use Rattle.std.specs.Prelude.{ℕ, ◌+◌, ◌*◌, ◌^◌, List, Option, Some}
use Rattle.std.specs.Cmp.Lexicographic.{slice_cmp}
use Rattle.std.specs.FinMap.{FinMap, from_entries}
use Rattle.std.specs.Ordering.{nat_cmp}
use Rattle.net_cidr.specs.declared.ip.Ip.{Ip}
use Rattle.net_cidr.specs.declared.ip.Ip.TheVariants.{V4, V6}
use Rattle.view_types.specs.declared.endpoint.EndpointRow.{EndpointRow}
use Rattle.proto_wire.specs.declared.record.Rec.{Rec}
use Rattle.proto_wire.specs.declared.record.WireValue.{WireValue}
use Rattle.proto_wire.specs.declared.record.WireValue.TheVariants.{Fixed32}
use Rattle.proxy_proto.specs.LookUps.{value_at, has, fixed64_from, number_below, string_in, inside, each_message, optional_in, some_string}

-- ---- addresses

abbrev pub ip_from : Option WireValue → List Rec → Ip
ip_from (Some (Fixed32 n)) halves = V4 n
ip_from _ halves = V6 (fixed64_from (value_at 1 halves) * 2 ^ 64 + fixed64_from (value_at 2 halves))

unfoldable pub ip_in : List Rec → Ip
ip_in rs = ip_from (value_at 1 rs) (inside 2 rs)

-- an address and a port
unfoldable pub pair_in : List Rec → Ip × ℕ
pair_in rs = (ip_in (inside 1 rs), number_below 65536 2 rs)

-- ---- an endpoint

-- the key and the value of a map's entry
unfoldable pub label_in : List Rec → List ℕ × List ℕ
label_in rs = (string_in 1 rs, string_in 2 rs)

abbrev pub labels_in : ℕ → List Rec → FinMap (slice_cmp nat_cmp) (List ℕ)
labels_in n rs = from_entries (each_message n label_in rs)

unfoldable pub identity_in : List Rec → Option (List ℕ)
identity_in rs = some_string (string_in 1 (inside 1 rs))

unfoldable pub tunnel_in : List Rec → Option ℕ
tunnel_in rs = optional_in 2 (number_below 65536 1) rs

unfoldable pub row_in : List Rec → EndpointRow
row_in rs = record {
  ip = ip_in (inside 1 (inside 1 rs));
  port = number_below 65536 2 (inside 1 rs);
  weight = number_below 4294967296 3 rs;
  labels = labels_in 4 rs;
  identity = identity_in (inside 5 rs);
  tunnel = tunnel_in (inside 6 rs);
  h2 = has 1 (inside 6 rs);
}
