use Rattle.std.proofs.Common.{◌≡◌, ◌&&◌, ◌||◌, Some, rules, ap, ◌∙◌}
use Rattle.std.specs.FinMap.{get}
use Rattle.key_lists.specs.Keys.{is_key}
use Rattle.mark_rules.specs.Marks.{other_marks}
use Rattle.object_store.specs.KeyLists.{is_among, is_kept}
use Rattle.object_store.specs.ServerKeys.{is_kept_for, requires_value}
use Rattle.object_store.proofs.KeptAt.{is_put, on_ok}
use Rattle.object_store.proofs.upkeep.put_object.Goals as goal

pub returns-in_ok-put-in-Some-clause-marked : goal.returns-in_ok-put-in-Some-clause-marked
returns-in_ok-put-in-Some-clause-marked c =
    let marks : c.as_slice.result.now ≡ other_marks c.in-Some.object.now = search rules in
    let found : Some c.in-Some.object.now ≡ get c.args.objects.now c.args.key.now = search rules in
    on_ok c.put-in-Some.result (λ _ m k. c.in_ok-put-in-Some.ensures m k ∙ ap (λ put. put || is_kept c.args.keys.now.marked m k) (ap (λ marks. is_among marks m && is_key k c.args.key.now) marks ∙ is_put c.in-Some.object.now m k c.args.objects.now c.args.key.now found)) c.put-in-Some.ensures

pub returns-in_ok-put-in-Some-clause-servers : goal.returns-in_ok-put-in-Some-clause-servers
returns-in_ok-put-in-Some-clause-servers c =
    let found : Some c.in-Some.object.now ≡ get c.args.objects.now c.args.key.now = search rules in
    on_ok c.put-in-Some.result (λ all place k. all place k ∙ ap (λ o. (is_key k c.args.key.now && requires_value place o) || is_kept_for c.args.keys.now.servers place k) found) c.put-in-Some.ensures
