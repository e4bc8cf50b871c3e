-- The records of each message, in canonical form: fields by number, list items in their order, labels by key. The number 0, false and
-- the empty string are omitted, except for members of a choice and the two fields of a label. A message in a field is written if it is
-- present.
use Rattle.std.specs.Prelude.{ℕ, List, [], ◌∷◌}
use Rattle.net_cidr.specs.declared.ip.Ip.{Ip}
use Rattle.view_types.specs.declared.message.Message.{Message}
use Rattle.view_types.specs.declared.message.Message.TheVariants.{Add, Remove, NoEndpoints, Profile, Server, Outbound, Whole, AuthzPut, AuthzGone}
use Rattle.proto_wire.specs.declared.record.Rec.{Rec}
use Rattle.proto_wire.specs.Wire.{spelling}
use Rattle.proxy_proto.specs.Authorizations.{authz_key_records, authz_records}
use Rattle.proxy_proto.specs.FieldRecords.{chunk, bool_field, each_field}
use Rattle.proxy_proto.specs.Endpoints.{address_records, row_records}
use Rattle.proxy_proto.specs.Policies.{outbound_records, server_records}
use Rattle.proxy_proto.specs.Profiles.{profile_records}

-- ---- Update: a choice of WeightedAddrSet, AddrSet and NoEndpoints; or DestinationProfile, Server or OutboundPolicy; or
-- ServerUpdate: a choice of Server, AuthzSet and AuthzKeys

abbrev pub pair_records : Ip × ℕ → List Rec
pair_records pair = address_records pair.0 pair.1

unfoldable pub message_records : Message → List Rec
message_records (Add rows) = chunk 1 (spelling (each_field 1 row_records rows)) ∷ []
message_records (Remove pairs) = chunk 2 (spelling (each_field 1 pair_records pairs)) ∷ []
message_records (NoEndpoints exists) = chunk 3 (spelling (bool_field 1 exists)) ∷ []
message_records (Profile view) = profile_records view
message_records (Server view) = server_records view
message_records (Outbound view) = outbound_records view
message_records (Whole view) = chunk 1 (spelling (server_records view)) ∷ []
message_records (AuthzPut rows) = chunk 2 (spelling (each_field 1 authz_records rows)) ∷ []
message_records (AuthzGone keys) = chunk 3 (spelling (each_field 1 authz_key_records keys)) ∷ []

-- the canonical encoding of a message
abbrev pub canonical : Message → List ℕ
canonical message = spelling (message_records message)
