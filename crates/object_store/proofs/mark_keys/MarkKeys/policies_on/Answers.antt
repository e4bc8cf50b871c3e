use Rattle.std.proofs.Common.{◌≡◌}
use Rattle.key_lists.specs.Keys.{Rises, keys_by_kind}
use Rattle.object_store.specs.KeyLists.{text_cmp}
use Rattle.object_store.proofs.ByCmp.{by_ref_cmp}
use Rattle.object_store.proofs.mark_keys.MarkKeys.policies_on.Goals as goal

pub returns-clause-value : goal.returns-clause-value
returns-clause-value c = by_ref_cmp (λ cmp. c.keys_at.result.now ≡ keys_by_kind cmp text_cmp text_cmp c.args.self.now.policies c.args.kind c.args.ns.now c.args.name.now) c.keys_at.ensures.value

pub returns-clause-rise : goal.returns-clause-rise
returns-clause-rise c = by_ref_cmp (λ cmp. Rises (keys_by_kind cmp text_cmp text_cmp c.args.self.now.policies c.args.kind c.args.ns.now c.args.name.now)) c.keys_at.ensures.rise
