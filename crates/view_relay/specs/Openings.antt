-- The first request in the bytes that open a stream.
use Rattle.std.specs.Prelude.{List, ◌∷◌, Result, Ok, Err}
use Rattle.session_core.specs.declared.session.Ask.{Ask}
use Rattle.session_core.specs.declared.session.Ask.TheVariants.{Subscribe}
use Rattle.view_types.specs.declared.query.Query.{Query}
use Rattle.view_relay.specs.declared.fault.RelayFault.{RelayFault}
use Rattle.view_relay.specs.declared.fault.RelayFault.TheVariants.{NotOpen}

-- its query, if it is a subscription
abbrev pub first_query : List Ask → Result Query RelayFault
first_query (Subscribe query ∷ asks) = Ok query
first_query asks = Err NotOpen
