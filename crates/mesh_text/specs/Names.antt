-- A name without a dot.
use Rattle.std.specs.Prelude.{ℕ, List, Bool}
use Rattle.k8s_meta.specs.Scalars.{is_label_byte, is_made_of}

-- 1 to 253 bytes of a-z, 0-9 and -
unfoldable pub is_dotless : List ℕ → Bool
is_dotless = is_made_of is_label_byte 253
