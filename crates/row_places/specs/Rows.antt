-- Rows by their addresses and ports.
use Rattle.std.specs.Prelude.{ℕ, List, Option}
use Rattle.std.specs.FinMap.{find}
use Rattle.mesh_base.specs.Keyed.{keyed}
use Rattle.net_cidr.specs.declared.ip.Ip.{Ip}
use Rattle.view_rules.specs.Endpoints.{pair_cmp, pair_of}
use Rattle.view_types.specs.declared.endpoint.EndpointRow.{EndpointRow}

-- the row of an address and port
abbrev pub row_at : List EndpointRow → Ip × ℕ → Option EndpointRow
row_at rows pair = find pair_cmp pair (keyed pair_cmp pair_of (λ row. row) rows)
