use Rattle.std.proofs.Common.{◌≡◌, Some, None, ap, ◌∙◌}
use Rattle.std.specs.List.{slice_get}
use Rattle.key_lists.specs.Keys.{keys_at}
use Rattle.view_rules.specs.Endpoints.{pair_cmp}
use Rattle.endpoint_rows.proofs.Agreeing.{first_given, none_first}
use Rattle.endpoint_rows.proofs.slices.Slices.first.Goals as goal

pub returns-in-Some-clause-value : goal.returns-in-Some-clause-value
returns-in-Some-clause-value c = λ agree.
    let key = c.in-Some.key.now in
    let first : Some key ≡ slice_get (keys_at pair_cmp c.args.self.now.by_pair c.args.pair.now) 0 = c.in-Some.ensures.value ∙ ap (λ ks. slice_get ks 0) c.keys_at.ensures.value in
    c.row_of.ensures.value ∙ first_given c.args.self.now agree c.args.pair.now key c.keys_at.ensures.rise first

pub returns-in-None-clause-value : goal.returns-in-None-clause-value
returns-in-None-clause-value c = λ agree.
    let first : None ≡ slice_get (keys_at pair_cmp c.args.self.now.by_pair c.args.pair.now) 0 = c.in-None.ensures.value ∙ ap (λ ks. slice_get ks 0) c.keys_at.ensures.value in
    none_first c.args.self.now agree c.args.pair.now first
