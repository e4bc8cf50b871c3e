-- The keys of Servers and of routes. Equal keys are the same key.
use Rattle.std.proofs.Common.{sym, ◌∙◌}
use Rattle.std.specs.FinMap.{IsAntisymmetric}
use Rattle.mesh_base.proofs.KeyOrder.{keys_exact}
use Rattle.mesh_base.specs.contracts.key.ObjKeyOrd as key_order
use Rattle.view_types.specs.declared.mark.Mark.TheVariants.{Obj}
use Rattle.mark_rules.proofs.MarkCmp.{mark_cmp_is}

-- the marks of two keys compare as the keys do
pub authz_keys_exact : IsAntisymmetric key_order.TheImpl.cmp-value.it
authz_keys_exact a b e = keys_exact a b (sym (mark_cmp_is (Obj a) (Obj b)) ∙ e)
