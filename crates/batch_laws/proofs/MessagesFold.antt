-- Folding the messages of a query on top of the view that was shown gives the view now.
use Rattle.std.proofs.Common.{Option, Some, None}
use Rattle.view_types.specs.Objects.{ObjectMap}
use Rattle.view_types.specs.declared.config.Config.{Config}
use Rattle.view_types.specs.declared.query.Query.{Query}
use Rattle.view_rules.proofs.OrderlyViews.{views_are_orderly}
use Rattle.view_rules.specs.Fold.{IsOrderlyIfShown}
use Rattle.view_rules.specs.Views.{view_before, view_of}
use Rattle.batch_laws.specs.Laws.{MessagesFold, WereAtKeys}
use Rattle.batch_laws.proofs.BatchesFold.{batches_fold}

was_orderly : (config : Config) (before : Option ObjectMap) (query : Query) → WereAtKeys before → IsOrderlyIfShown (view_before config query before)
was_orderly config None query at_keys = tt
was_orderly config (Some held) query at_keys = views_are_orderly config held at_keys query

pub messages_fold : MessagesFold
messages_fold config before held query limits one were_at_keys at_keys =
    batches_fold (view_before config query before) (view_of config held query) limits one (was_orderly config before query were_at_keys) (views_are_orderly config held at_keys query)
