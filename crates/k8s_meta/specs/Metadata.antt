-- The metadata of an object (ObjectMeta, meta/v1).
use Rattle.std.specs.Prelude.{codes, ℕ, ◌&&◌, ◌==◌, List, [], ◌∷◌, Bool, true, false, Option, Some, None, Result, Ok, nat_le, if◌then◌else◌}
use Rattle.k8s_meta.specs.Lists.{label_map}
use Rattle.k8s_meta.specs.Scalars.{name_within, namespace}
use Rattle.k8s_meta.specs.Spots.{Spot, ◌·◌, ◌>>=◌}
use Rattle.k8s_meta.specs.Words.{default, object, optional, part, required, text}
use Rattle.k8s_meta.specs.declared.fault.ReadFault.{ReadFault}
use Rattle.k8s_meta.specs.declared.key.Key.TheVariants as keys
use Rattle.k8s_meta.specs.declared.meta.Meta.{Meta}

-- whether a byte fits a byte of a form, where d is any digit
abbrev pub fits : ℕ → ℕ → Bool
fits form byte = if form == 100 then nat_le 48 byte && nat_le byte 57 else form == byte

abbrev pub all_fit : List ℕ → List ℕ → Bool
all_fit [] [] = true
all_fit (f ∷ fs) (b ∷ bs) = fits f b && all_fit fs bs
all_fit _ _ = false

unfoldable pub is_time : List ℕ → Bool
is_time t = all_fit (codes "dddd-dd-ddTdd:dd:ddZ") t

-- any other string counts as absent
abbrev pub time_of : Option (List ℕ) → Option (List ℕ)
time_of (Some t) = if is_time t then Some t else None
time_of None = None

-- the metadata of an object whose name has at most this many bytes
unfoldable pub meta_within : ℕ → Spot → Result Meta ReadFault
meta_within most o = do
  o ← object o
  m ← part (o · keys.Metadata)
  name ← required (name_within most) (m · keys.Name)
  ns ← default (codes "default") namespace (m · keys.Namespace)
  labels ← label_map (m · keys.Labels)
  notes ← label_map (m · keys.Annotations)
  created ← optional text (m · keys.CreationTimestamp)
  Ok (record { ns = ns; name = name; labels = labels; notes = notes; created = time_of created })

abbrev pub meta_at : Spot → Result Meta ReadFault
meta_at = meta_within 253
