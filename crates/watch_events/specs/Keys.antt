-- The key of a removed object: only its name and its namespace are read.
use Rattle.std.specs.Prelude.{codes, Result, Ok}
use Rattle.mesh_base.specs.declared.key.Kind.{Kind}
use Rattle.mesh_base.specs.declared.key.ObjKey.{ObjKey}
use Rattle.k8s_meta.specs.Scalars.{name, namespace}
use Rattle.k8s_meta.specs.Spots.{Spot, ◌·◌, ◌>>=◌}
use Rattle.k8s_meta.specs.Words.{default, object, part, required}
use Rattle.k8s_meta.specs.declared.fault.ReadFault.{ReadFault}
use Rattle.k8s_meta.specs.declared.key.Key.TheVariants as keys

unfoldable pub key_at : Kind → Spot → Result ObjKey ReadFault
key_at kind o = do
  o ← object o
  m ← part (o · keys.Metadata)
  name ← required name (m · keys.Name)
  ns ← default (codes "default") namespace (m · keys.Namespace)
  Ok (record { kind = kind; ns = ns; name = name })
