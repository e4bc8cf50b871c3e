-- The members of a ServiceProfile.
use Rattle.std.specs.Prelude.{Result, Ok, false}
use Rattle.k8s_meta.specs.Amounts.{duration, quantity}
use Rattle.k8s_meta.specs.Lists.{each}
use Rattle.k8s_meta.specs.Metadata.{meta_at}
use Rattle.k8s_meta.specs.Spots.{Spot, ◌·◌, ◌>>=◌}
use Rattle.k8s_meta.specs.Words.{boolean, default, object, optional, part, required, text}
use Rattle.k8s_meta.specs.declared.fault.ReadFault.{ReadFault}
use Rattle.k8s_meta.specs.declared.key.Key.TheVariants as keys
use Rattle.profile_objects.specs.Requests.{request_match}
use Rattle.profile_objects.specs.Responses.{response_match}
use Rattle.view_types.specs.declared.profile.Override.{Override}
use Rattle.view_types.specs.declared.profile.Profile.{Profile}
use Rattle.view_types.specs.declared.profile.ProfileRoute.{ProfileRoute}
use Rattle.view_types.specs.declared.profile.RespClass.{RespClass}

-- a response class
unfoldable pub class_at : Spot → Result RespClass ReadFault
class_at c = do
  c ← object c
  condition ← required response_match (c · keys.Condition)
  failure ← default false boolean (c · keys.IsFailure)
  Ok (record { condition = condition; failure = failure })

unfoldable pub route_at : Spot → Result ProfileRoute ReadFault
route_at r = do
  r ← object r
  name ← required text (r · keys.Name)
  condition ← required request_match (r · keys.Condition)
  classes ← each class_at (r · keys.ResponseClasses)
  retryable ← default false boolean (r · keys.IsRetryable)
  timeout ← optional duration (r · keys.Timeout)
  Ok (record { name = name; condition = condition; classes = classes; retryable = retryable; timeout = timeout })

-- a destination that replaces the Service
unfoldable pub override_at : Spot → Result Override ReadFault
override_at o = do
  o ← object o
  authority ← required text (o · keys.Authority)
  weight ← required quantity (o · keys.Weight)
  Ok (record { authority = authority; weight = weight })

unfoldable pub profile_at : Spot → Result Profile ReadFault
profile_at s = do
  meta ← meta_at s
  spec ← part (s · keys.Spec)
  routes ← each route_at (spec · keys.Routes)
  overrides ← each override_at (spec · keys.DstOverrides)
  Ok (record { meta = meta; routes = routes; overrides = overrides })
