-- Request methods.
use Rattle.std.specs.Prelude.{ℕ, ◌&&◌, Bool, List, Result, Ok, Err, length, nat_lt, if◌then◌else◌}
use Rattle.std.specs.List.{list_all}
use Rattle.http.specs.Token.{is_token_byte}
use Rattle.k8s_meta.specs.Spots.{Spot, ◌>>=◌}
use Rattle.k8s_meta.specs.Words.{text}
use Rattle.k8s_meta.specs.declared.fault.What.TheVariants as what
use Rattle.k8s_meta.specs.declared.fault.ReadFault.{ReadFault}
use Rattle.k8s_meta.specs.declared.fault.ReadFault.TheVariants as faults

-- a token of RFC 9110
abbrev pub is_method : List ℕ → Bool
is_method t = nat_lt 0 (length t) && list_all is_token_byte t

abbrev pub as_method : List ℕ → List ℕ → Result (List ℕ) ReadFault
as_method at t = if is_method t then Ok t else Err (faults.BadValue at what.Method)

unfoldable pub method : Spot → Result (List ℕ) ReadFault
method s = text s >>= as_method s.at
