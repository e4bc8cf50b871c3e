-- Matches of responses.
use Rattle.std.specs.Prelude.{List, Result, Ok, Err, nat_le, option_to_list, if◌then◌else◌}
use Rattle.k8s_meta.specs.Scalars.{number}
use Rattle.k8s_meta.specs.Spots.{Reading, Spot, ◌·◌, ◌>>=◌}
use Rattle.k8s_meta.specs.Words.{default, object, optional}
use Rattle.k8s_meta.specs.declared.fault.What.TheVariants as what
use Rattle.k8s_meta.specs.declared.fault.ReadFault.{ReadFault}
use Rattle.k8s_meta.specs.declared.fault.ReadFault.TheVariants as faults
use Rattle.k8s_meta.specs.declared.key.Key.TheVariants as keys
use Rattle.profile_objects.specs.Matches.{MatchKind, match_of}
use Rattle.view_types.specs.declared.profile.RespMatch.{RespMatch}
use Rattle.view_types.specs.declared.profile.RespMatch.TheVariants as responses

-- the lowest and the highest status code
unfoldable pub status_at : Spot → Result RespMatch ReadFault
status_at s = do
  s ← object s
  low ← default 100 (number 100 599) (s · keys.Min)
  high ← default 599 (number 100 599) (s · keys.Max)
  if nat_le low high then Ok (responses.Status low high) else Err (faults.BadValue (s · keys.Max).at what.Range)

unfoldable pub response_members : Spot → Result (List RespMatch) ReadFault
response_members s = do
  status ← optional status_at (s · keys.Status)
  Ok (option_to_list status)

abbrev pub responses_kind : MatchKind RespMatch
responses_kind = record { all = responses.All; any = responses.Any; negated = responses.Not; own = response_members }

abbrev pub response_match : Reading RespMatch
response_match = match_of responses_kind
