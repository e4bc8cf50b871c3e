-- Messages of endpoints that have only an address, a port and a weight.
use Rattle.std.specs.Prelude.{◌≡◌, ℕ, ◌+◌, false, List, [], None, length}
use Rattle.std.specs.List.{All}
use Rattle.std.specs.FinMap.{entries}
use Rattle.net_cidr.specs.declared.ip.Ip.{Ip}
use Rattle.view_types.specs.declared.endpoint.EndpointRow.{EndpointRow}
use Rattle.view_types.specs.declared.message.Message.{Message}
use Rattle.view_types.specs.declared.message.Message.TheVariants.{Add, Remove, Profile, Server, Outbound, Whole, AuthzPut, AuthzGone}

pub record IsPlain (row : EndpointRow) : Type 0 where
  pub labels : entries row.labels ≡ []
  pub identity : row.identity ≡ None
  pub tunnel : row.tunnel ≡ None
  pub h2 : row.h2 ≡ false

abbrev pub rows_in : Message → List EndpointRow
rows_in (Add rows) = rows
rows_in _ = []

-- the addresses that a message removes
abbrev pub pairs_in : Message → List (Ip × ℕ)
pairs_in (Remove pairs) = pairs
pairs_in _ = []

-- how many addresses a message has
abbrev pub count_in : Message → ℕ
count_in message = length (rows_in message) + length (pairs_in message)

abbrev pub IsPlainMessage : Message → Type 0
IsPlainMessage (Profile view) = ⊥
IsPlainMessage (Server view) = ⊥
IsPlainMessage (Outbound view) = ⊥
IsPlainMessage (Whole view) = ⊥
IsPlainMessage (AuthzPut rows) = ⊥
IsPlainMessage (AuthzGone keys) = ⊥
IsPlainMessage message = All IsPlain (rows_in message)
