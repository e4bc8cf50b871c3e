use Rattle.std.proofs.Common.{◌≡◌, ℕ, List, Option, Some, None}
use Rattle.std.specs.Prelude.{MatchOption}
use Rattle.feed_history.specs.Ids.{StandsAt, at_id, ended, in_place}
use Rattle.feed_history.proofs.Placed.{placed, stays}
use Rattle.feed_step.proofs.lives.place_of.Goals as goal

abbrev own : ℕ → ℕ
own id = id

left_alone : (id : ℕ) (ids : List ℕ) (place : Option ℕ) → MatchOption place (at_id own id ids ≡ None) (StandsAt own id ids)
    → MatchOption place (in_place own id ended ids ≡ ids) (StandsAt own id ids)
left_alone id ids None none = stays own id ended ids none
left_alone id ids (Some at) stands = stands

pub returns : goal.returns
returns c = left_alone c.args.id c.args.ids.now c.first_of.result (placed own c.args.id c.args.ids.now c.first_of.result c.first_of.ensures)
