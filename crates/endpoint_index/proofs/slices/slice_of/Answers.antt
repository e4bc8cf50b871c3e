use Rattle.std.proofs.Common.{sym, ap, ◌∙◌}
use Rattle.key_lists.specs.Keys.{has_key}
use Rattle.endpoint_index.proofs.Filling.{none_at}
use Rattle.endpoint_index.proofs.SliceSums.{slices_rise}
use Rattle.endpoint_index.proofs.slices.slice_of.Goals as goal

pub has_key-requires : goal.has_key-requires
has_key-requires g c =
    slices_rise c.args.source.now.from.now.store.now.objects c.args.source.now.key.now c.args.slices.now c.requires c.stand_at_keys.ensures c.keys_by_mark.ensures.keys

pub returns-clause-value : goal.returns-clause-value
returns-clause-value g c =
    sym (none_at c.args.source.now.from.now.store.now.objects c.args.source.now.key.now c.keys_by_mark.ensures.keys c.stand_at_keys.ensures c.args.at.now
    (ap (has_key c.args.at.now) (sym c.requires) ∙ sym c.has_key.ensures ∙ c.if-has_key.false))
