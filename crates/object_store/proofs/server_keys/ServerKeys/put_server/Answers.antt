use Rattle.std.proofs.Common.{◌&&◌, ◌||◌, ap, ◌∙◌}
use Rattle.std.specs.Ordering.{eq_by_cmp}
use Rattle.key_lists.specs.Keys.{is_key}
use Rattle.object_store.specs.KeyLists.{text_cmp}
use Rattle.object_store.specs.ServerKeys.{is_kept_for, required_value}
use Rattle.object_store.proofs.KeptAt.{on_ok}
use Rattle.object_store.proofs.PartsOfPlaces.{key_first}
use Rattle.object_store.proofs.server_keys.ServerKeys.put_server.Goals as goal

pub returns : goal.returns
returns c = on_ok c.put_one.result (λ put place k.
    put place.0 place.1 k
    ∙ ap (λ value. (eq_by_cmp text_cmp c.args.server.now.meta.ns place.0 && (eq_by_cmp text_cmp value place.1 && is_key k c.args.key.now)) || is_kept_for c.args.self.now place k) c.required_value-value.ensures
    ∙ ap (λ there. there || is_kept_for c.args.self.now place k) (key_first (eq_by_cmp text_cmp c.args.server.now.meta.ns place.0) (eq_by_cmp text_cmp (required_value c.args.server.now) place.1) (is_key k c.args.key.now))) c.put_one.ensures.put
