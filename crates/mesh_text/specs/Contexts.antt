-- What a client declares about itself in its token.
use Rattle.std.specs.Prelude.{ℕ, List, Option, Some, None, codes, option_and_then}
use Rattle.serde_json.specs.Data.{Data}
use Rattle.serde_json.specs.Find.{get, as_str}
use Rattle.mesh_text.specs.Json.{json_of}
use Rattle.view_types.specs.declared.query.Context.{Context}

-- the string at a member of an object
abbrev pub text_at : List ℕ → Data → Option (List ℕ)
text_at key d = option_and_then as_str (get key d)

abbrev pub context_in : Option Data → Context
context_in (Some d) = record { ns = text_at (codes "ns") d; node = text_at (codes "nodeName") d }
context_in None = record { ns = None; node = None }

-- the members ns and nodeName, if the token is an object with strings there
unfoldable pub context_of : List ℕ → Context
context_of token = context_in (json_of token)
