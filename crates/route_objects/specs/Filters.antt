-- The filters of a rule.
use Rattle.std.specs.Prelude.{codes, ℕ, List, Option, Some, None, Result, Ok, bytes_eq, if◌then◌else◌}
use Rattle.k8s_meta.specs.Lists.{each}
use Rattle.k8s_meta.specs.Scalars.{number}
use Rattle.k8s_meta.specs.Spots.{Spot, ◌·◌, ◌>>=◌}
use Rattle.k8s_meta.specs.Words.{default, filled, object, optional, part, required, text}
use Rattle.k8s_meta.specs.declared.fault.ReadFault.{ReadFault}
use Rattle.k8s_meta.specs.declared.key.Key.TheVariants as keys
use Rattle.view_types.specs.declared.route.Filter.{Filter}
use Rattle.view_types.specs.declared.route.Filter.TheVariants as filters

-- a header to add or to set
unfoldable pub header_at : Spot → Result (List ℕ × List ℕ) ReadFault
header_at h = do
  h ← object h
  name ← required text (h · keys.Name)
  value ← required text (h · keys.Value)
  Ok (name, value)

unfoldable pub headers_at : Spot → Result Filter ReadFault
headers_at m = do
  m ← part m
  add ← each header_at (m · keys.Add)
  set ← each header_at (m · keys.Set)
  remove ← each text (m · keys.Remove)
  Ok (filters.Headers add set remove)

-- An empty scheme or host is none.
unfoldable pub redirect_at : Spot → Result Filter ReadFault
redirect_at r = do
  r ← part r
  scheme ← default None (filled text) (r · keys.Scheme)
  host ← default None (filled text) (r · keys.Hostname)
  port ← optional (number 1 65535) (r · keys.Port)
  status ← default 302 (number 100 999) (r · keys.StatusCode)
  Ok (filters.Redirect scheme host port status)

-- the filter of the type, if it is supported
abbrev pub kept_filter : List ℕ → Filter → Filter → Option Filter
kept_filter kind headers redirect =
    if bytes_eq kind (codes "RequestHeaderModifier") then Some headers else
    if bytes_eq kind (codes "RequestRedirect") then Some redirect else None

-- Both are read, whatever the type is.
unfoldable pub filter_at : Spot → Result (Option Filter) ReadFault
filter_at f = do
  f ← object f
  kind ← required text (f · keys.Type)
  headers ← headers_at (f · keys.RequestHeaderModifier)
  redirect ← redirect_at (f · keys.RequestRedirect)
  Ok (kept_filter kind headers redirect)
