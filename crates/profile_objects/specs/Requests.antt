-- Matches of requests.
use Rattle.std.specs.Prelude.{◌++◌, List, Result, Ok, option_map, option_to_list}
use Rattle.k8s_meta.specs.Spots.{Reading, Spot, ◌·◌, ◌>>=◌}
use Rattle.k8s_meta.specs.Words.{optional, text}
use Rattle.k8s_meta.specs.declared.fault.ReadFault.{ReadFault}
use Rattle.k8s_meta.specs.declared.key.Key.TheVariants as keys
use Rattle.mesh_text.specs.Methods.{method}
use Rattle.profile_objects.specs.Matches.{MatchKind, match_of}
use Rattle.view_types.specs.declared.profile.ReqMatch.{ReqMatch}
use Rattle.view_types.specs.declared.profile.ReqMatch.TheVariants as requests

unfoldable pub request_members : Spot → Result (List ReqMatch) ReadFault
request_members s = do
  method ← optional method (s · keys.Method)
  path ← optional text (s · keys.PathRegex)
  Ok (option_to_list (option_map requests.Method method) ++ option_to_list (option_map requests.Path path))

abbrev pub requests_kind : MatchKind ReqMatch
requests_kind = record { all = requests.All; any = requests.Any; negated = requests.Not; own = request_members }

abbrev pub request_match : Reading ReqMatch
request_match = match_of requests_kind
