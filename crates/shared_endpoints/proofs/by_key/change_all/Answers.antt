use Rattle.std.proofs.Common.{◌≡◌, ◌+◌, ◌++◌, ◌∷◌, [], false, List, take, ap, subst, sym, ◌∙◌}
use Rattle.std.proofs.lemmas.List.{take_more}
use Rattle.std.specs.List.{list_any}
use Rattle.mark_rules.specs.declared.keys.EndpointKey.{EndpointKey}
use Rattle.row_table.specs.IndexRows.{has_key}
use Rattle.endpoint_index.specs.Told.{notes_at}
use Rattle.shared_endpoints.specs.ByKey.{key_cmp, streams_at}
use Rattle.shared_endpoints.specs.Sharing.{ChangesAt, has_at}
use Rattle.shared_endpoints.proofs.ByKey.{key_exact, key_total}
use Rattle.shared_endpoints.proofs.Freshness.{as_start, change_more, fresh_at, ids_more}
use Rattle.shared_endpoints.proofs.by_key.change_all.Goals as goal

pub loop-key-preserved : goal.loop-key-preserved
loop-key-preserved c =
    let keys = c.args.keys.now in
    let i = c.loop-key.key-index in
    let key = c.key-item.result in
    let notes = notes_at c.args.index.now in
    let start = streams_at c.args.by_key.now in
    let middle = streams_at c.loop-key.by_key in
    let end = streams_at c.change_at.new.by_key in
    let so_far = c.loop-key.invariant in
    let fresh : has_key key_cmp (take i keys) key ≡ false = ap (has_key key_cmp (take i keys)) c.key-item.is ∙ fresh_at key_cmp key_total key_exact keys c.requires i key c.loop-key-test.true in
    let more : take (i + 1) keys ≡ take i keys ++ key ∷ [] = take_more keys i key c.loop-key-test.true ∙ ap (λ k. take i keys ++ k ∷ []) (sym c.key-item.is) in
    record {
      changed = subst (λ (ks : List EndpointKey). ChangesAt key_cmp (has_key key_cmp ks) notes start end) (sym more)
          (change_more key_cmp key_total key_exact notes start middle end (take i keys) key fresh so_far.changed c.in_ok-change_at.ensures.changed);
      ids = λ n.
          ids_more key_cmp key_total key_exact start (take i keys) key n c.loop-key.ids c.change_at.new.ids (has_at (middle key) n) (so_far.ids n) (c.in_ok-change_at.ensures.ids n)
          (ap (λ o. has_at o n) (as_start key_cmp key_total key_exact notes start middle end (take i keys) key fresh so_far.changed))
          ∙ sym (ap (list_any (λ k. has_at (start k) n)) more);
    }
