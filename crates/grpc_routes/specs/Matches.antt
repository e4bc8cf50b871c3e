-- Which gRPC calls a rule of a GRPCRoute matches.
use Rattle.std.specs.Prelude.{◌&&◌, ◌||◌, ◌==◌, ℕ, Bool, true, false, List, [], Some, None, Result, Ok, nat_le, not, if◌then◌else◌}
use Rattle.std.specs.List.{list_any}
use Rattle.k8s_meta.specs.Lists.{each}
use Rattle.k8s_meta.specs.Spots.{Spot, ◌·◌, ◌>>=◌}
use Rattle.k8s_meta.specs.Words.{choice, default, filled, object, part, text, valid}
use Rattle.k8s_meta.specs.declared.fault.ReadFault.{ReadFault}
use Rattle.k8s_meta.specs.declared.fault.What.TheVariants as what
use Rattle.k8s_meta.specs.declared.key.Key.TheVariants as keys
use Rattle.route_objects.specs.NameMatches.{name_match_at, value_form}
use Rattle.grpc_routes.specs.declared.route.GrpcMatch.{GrpcMatch}

-- a byte of an ASCII letter, a digit or _
unfoldable pub is_word_byte : ℕ → Bool
is_word_byte b = (nat_le 97 b && nat_le b 122) || (nat_le 65 b && nat_le b 90) || (nat_le 48 b && nat_le b 57) || (b == 95)

-- a byte of the name of a method, or of a service, which may have dots
unfoldable pub is_call_byte : Bool → ℕ → Bool
is_call_byte dots b = is_word_byte b || (dots && (b == 46))

abbrev pub is_call_name : Bool → List ℕ → Bool
is_call_name dots t = not (list_any (λ b. not (is_call_byte dots b)) t)

-- The name of a service or a method, or a regular expression for one, which is not checked.
unfoldable pub call_text : Bool → Bool → Spot → Result (List ℕ) ReadFault
call_text regex dots s = text s >>= λ t. valid s.at what.Shape (if regex || is_call_name dots t then Some t else None)

-- An empty name counts as absent.
unfoldable pub grpc_match_at : Spot → Result GrpcMatch ReadFault
grpc_match_at m = do
  m ← object m
  named ← part (m · keys.Method)
  regex ← default false (choice value_form) (named · keys.Type)
  service ← default None (filled (call_text regex true)) (named · keys.Service)
  method ← default None (filled (call_text regex false)) (named · keys.Method)
  headers ← each name_match_at (m · keys.Headers)
  Ok (record { service = service; method = method; regex = regex; headers = headers })

-- matches each call
abbrev pub open_match : GrpcMatch
open_match = record { service = None; method = None; regex = false; headers = [] }
