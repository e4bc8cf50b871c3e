-- The path line, which a link sends first.
use Rattle.std.specs.Prelude.{ℕ, ◌==◌, List, [], ◌∷◌, Option, Some, None, option_map, bytes_eq, codes, if◌then◌else◌}
use Rattle.view_types.specs.declared.query.Method.TheVariants as methods
use Rattle.session_core.specs.declared.session.Path.{Path}
use Rattle.session_core.specs.declared.session.Path.TheVariants.{Feed, Asks}

-- a byte put before the first line
abbrev pub onto_line : ℕ → List ℕ × List ℕ → List ℕ × List ℕ
onto_line byte cut = (byte ∷ cut.0, cut.1)

-- the bytes before the first LF and those after it
abbrev pub first_line : List ℕ → Option (List ℕ × List ℕ)
first_line [] = None
first_line (byte ∷ bytes) = if byte == 10 then Some ([], bytes) else option_map (onto_line byte) (first_line bytes)

-- the path that a line names: a feed, or a method of the destination, inbound or outbound API
unfoldable pub path_of : List ℕ → Option Path
path_of line =
    if bytes_eq line (codes "/feed") then Some Feed else
    if bytes_eq line (codes "/io.linkerd.proxy.destination.Destination/Get") then Some (Asks methods.Get) else
    if bytes_eq line (codes "/io.linkerd.proxy.destination.Destination/GetProfile") then Some (Asks methods.GetProfile) else
    if bytes_eq line (codes "/io.linkerd.proxy.inbound.InboundServerPolicies/WatchPort") then Some (Asks methods.WatchPort) else
    if bytes_eq line (codes "/io.linkerd.proxy.outbound.OutboundPolicies/Watch") then Some (Asks methods.Watch) else
    if bytes_eq line (codes "/io.linkerd.proxy.inbound.InboundServerPolicies/WatchPort2") then Some (Asks methods.WatchPort2) else None
